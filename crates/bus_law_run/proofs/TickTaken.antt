-- A tick of a station: its terminal hears it as it heard those before, or takes no block in it.
use Rattle.std.proofs.Common.{◌≡◌, inl, inr, ℕ, List, ◌∷◌, length, Option, Some, None, refl, sym, ap, ◌∙◌}
use Rattle.std.specs.Prelude.{option_map}
use Rattle.std.proofs.lemmas.Option.{none-some}
use Rattle.bus_base.specs.declared.samples.Channel.{Channel}
use Rattle.bus_base.specs.declared.samples.Pair.{Pair}
use Rattle.bus_formats.specs.Plans.{StationData}
use Rattle.bus_formats.specs.declared.log.Delivery.{Delivery}
use Rattle.bus_model.specs.Control.{hear_more}
use Rattle.bus_model.specs.Hearing.{Hearing}
use Rattle.bus_model.specs.Message.{Delivered}
use Rattle.bus_model.specs.Orders.{Taken}
use Rattle.bus_model.specs.Starts.{starts}
use Rattle.bus_model.specs.Terminal.{standing_after, took_now}
use Rattle.bus_law_table.specs.Happened.{block_at}
use Rattle.bus_law_phases.specs.Scenarios.{Scenario, hearing_of}
use Rattle.bus_law_run.specs.Blocks.{heard_newest, taken_newest, delivery_newest, IsHeard}

module _ (w : Scenario) (station : StationData) (shown : Pair) (past : List Pair) where
  map-twice : (o : Option Taken) (tick : ℕ) (c : Channel) →
      option_map (λ (d : Delivered). d.delivery) (option_map (block_at tick c station) o) ≡ option_map (λ taken. (block_at tick c station taken).delivery) o
  map-twice None tick c = refl
  map-twice (Some taken) tick c = refl

  -- what is found of it among the blocks of that tick is what it takes
  abbrev found-of : Hearing → Option Delivery
  found-of h = option_map (λ (d : Delivered). d.delivery)
      (option_map (block_at (length past) (standing_after w.lag station.terminal w.loads h).channel station) (took_now w.lag station.terminal w.loads h))

  nothing-found : (h : Hearing) → took_now w.lag station.terminal w.loads h ≡ None → found-of h ≡ None
  nothing-found h none =
      ap (λ o. option_map (λ (d : Delivered). d.delivery)
      (option_map (block_at (length past) (standing_after w.lag station.terminal w.loads h).channel station) o)) none

  pub took-delivery : IsHeard w station shown past → found-of (hearing_of w station (shown ∷ past))
      ≡ delivery_newest w.lag station (starts w.plan station) w.loads w.outside shown past
  took-delivery (inl on) = ap found-of on ∙ map-twice _ (length past) _
  took-delivery (inr nothing) =
      nothing-found (hearing_of w station (shown ∷ past)) nothing.1
      ∙ sym (ap (λ o. option_map (λ taken. (block_at (length past) (standing_after w.lag station.terminal w.loads
      (hear_more (hearing_of w station past) (heard_newest w.lag station (starts w.plan station) w.loads w.outside shown past))).channel station taken).delivery) o)
      nothing.0)

  -- a block that it takes is found
  pub taken-found : IsHeard w station shown past → (block : Taken) → taken_newest w.lag station (starts w.plan station) w.loads w.outside shown past ≡ Some block →
      took_now w.lag station.terminal w.loads (hearing_of w station (shown ∷ past)) ≡ Some block
  taken-found (inl on) block taken = ap (took_now w.lag station.terminal w.loads) on ∙ taken
  taken-found (inr nothing) block taken = absurd (none-some block (sym nothing.0 ∙ taken))
