-- In the world of a run each receive block stays, or becomes one that was sent, whole.
use Rattle.std.proofs.Common.{◌≡◌, ◌⊎◌, inl, inr, ℕ, suc, ◌<◌, List, [], ◌∷◌, ◌++◌, length, Option, Some, None, ap, ◌∙◌, subst, arith}
use Rattle.std.specs.Prelude.{filter_map, option_map}
use Rattle.std.specs.List.{AllByRecursion as Each, cons_option}
use Rattle.bus_base.specs.declared.samples.Channel.{Channel}
use Rattle.bus_base.specs.declared.samples.Pair.{Pair}
use Rattle.bus_formats.specs.Plans.{StationData}
use Rattle.bus_model.specs.Control.{keeps}
use Rattle.bus_model.specs.Memory.{received_on}
use Rattle.bus_model.specs.Message.{Delivered}
use Rattle.bus_model.specs.Orders.{Taken}
use Rattle.bus_model.specs.Starts.{starts}
use Rattle.bus_model.specs.World.{is_present}
use Rattle.bus_model.specs.WorldLog.{present_stations}
use Rattle.bus_law_table.specs.Happened.{block_at, took_in, blocks_in as blocks_now, blocks_found}
use Rattle.bus_law_table.proofs.Pairing.{Has, has-filter}
use Rattle.bus_law_phases.specs.Scenarios.{Scenario, IsPresentAt, shown_at, blocks_in, standing_of, IsWhole}
use Rattle.bus_law_run.specs.Blocks.{taken_newest, IsHeard}
use Rattle.bus_law_run.proofs.BlocksKept.{station-blocks}
use Rattle.bus_law_run.proofs.TickTaken.{taken-found}
use Rattle.bus_law_run.proofs.Fronts.{blocks-front, front-each}
use Rattle.bus_law_phases.proofs.Staying.{long-later}

-- ---- what holds of each item found

each-option : {Y : Type 0} (P : Y → Type 0) (o : Option Y) (ys : List Y) → Each P (cons_option o ys) → Each P ys
each-option P None ys all = all
each-option P (Some y) ys all = all.1

each-mapped : {X Y : Type 0} (P : Y → Type 0) (f : X → Option Y) (xs : List X) (x : X) (y : Y) → Has (λ z. z ≡ x) xs → f x ≡ Some y →
    Each P (filter_map f xs) → P y
each-mapped P f [] x y has is all = absurd has
each-mapped P f (z ∷ xs) x y has is all = elim has [
  | inl here ↦ (let one : f z ≡ Some y = ap f here ∙ is in (subst (λ o. Each P (cons_option o (filter_map f xs))) one all).0)
  | inr later ↦ each-mapped P f xs x y later is (each-option P (f z) (filter_map f xs) all)
]

each-right : {X : Type 0} (P : X → Type 0) (firsts more : List X) → Each P (firsts ++ more) → Each P more
each-right P [] more all = all
each-right P (x ∷ firsts) more all = each-right P firsts more all.1

-- ---- one tick of one station

module _ (w : Scenario) (whole : IsWhole w) (end : ℕ) (P : Delivered → Type 0) (all : Each P (blocks_in w (shown_at w end))) (t : ℕ) (early : t < end) (other : ℕ)
    (station : StationData) (here : IsPresentAt w other station) where
  long : length (shown_at w t) ≡ t
  long = long-later w 0 t (omega arith) whole.stays

  -- the newest tick
  module _ (shown : Pair) (newest : shown_at w (suc t) ≡ shown ∷ shown_at w t) (heard : IsHeard w station shown (shown_at w t)) where
    abbrev past : List Pair
    past = shown_at w t

    took : (block : Taken) → taken_newest w.lag station (starts w.plan station) w.loads w.outside shown past ≡ Some block →
        P (block_at t (standing_of w station (shown ∷ past)).channel station block)
    unfolding blocks_found
    took block taken =
        let c : Channel = (standing_of w station (shown ∷ past)).channel in
        let now : took_in w.lag w.plan w.loads w.outside w.absent (shown ∷ past) t station ≡ Some (block_at t c station block) =
        ap (option_map (block_at t c station)) (taken-found w station shown past heard block taken) in
        each-mapped P (took_in w.lag w.plan w.loads w.outside w.absent (shown ∷ past) t) (present_stations w.lag w.plan w.loads w.outside w.absent)
        station (block_at t c station block) (has-filter (is_present w.absent) w.plan.stations other station here.there here.present) now
        (subst (λ n. Each P (blocks_now w.lag w.plan w.loads w.outside w.absent (shown ∷ past) n)) long
        (each-right P (blocks_in w past) (blocks_now w.lag w.plan w.loads w.outside w.absent (shown ∷ past) (length past))
        (subst (λ p. Each P (blocks_in w p)) newest (front-each P (blocks_in w (shown_at w (suc t))) (blocks_in w (shown_at w end))
        (blocks-front w 0 whole.stays (suc t) end (omega arith) (omega (arith, early))) all))))

    -- each receive block stays, or becomes one of which P holds
    pub stays-or-so : (sub : ℕ) →
        (received_on (keeps w.lag station (starts w.plan station) w.loads w.outside (shown ∷ past)) sub
        ≡ received_on (keeps w.lag station (starts w.plan station) w.loads w.outside past) sub)
        ⊎ ((block : Taken) × (c : Channel) × P (block_at t c station block) × (block.sub ≡ sub)
        × (received_on (keeps w.lag station (starts w.plan station) w.loads w.outside (shown ∷ past)) sub ≡ block.words))
    stays-or-so sub = elim (station-blocks w.lag station (starts w.plan station) w.loads w.outside shown past sub) [
      | inl same ↦ inl same
      | inr new ↦ inr (new.0, (standing_of w station (shown ∷ past)).channel, took new.0 new.1, new.2, new.3)
    ]
