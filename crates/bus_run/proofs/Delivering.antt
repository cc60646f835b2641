-- Blocks are taken in no more ticks than bursts are found.
use Rattle.std.proofs.Common.{◌≡◌, ℕ, suc, ◌≤◌, ◌<◌, Bool, true, false, List, [], ◌∷◌, length, Option, Some, None, refl, sym, ap, ◌∙◌, arith}
use Rattle.std.specs.Prelude.{if◌then◌else◌, is_some, ◌||◌}
use Rattle.bus_base.specs.declared.samples.Channel.{Channel}
use Rattle.bus_base.specs.declared.samples.Pair.{Pair}
use Rattle.bus_line.specs.Channels.{bursts}
use Rattle.bus_line.specs.declared.cutter.TheConstants.{LAG}
use Rattle.bus_formats.specs.Plans.{StationData, PlanData}
use Rattle.bus_model.specs.Orders.{Taken}
use Rattle.bus_model.specs.Starts.{starts}
use Rattle.bus_station.specs.Told.{delivery_of}
use Rattle.bus_run.specs.Deliveries.{delivered_of, delivering, is_delivering}
use Rattle.bus_law_run.specs.Blocks.{taken_newest}
use Rattle.bus_law_run.proofs.BurstsTaken.{burst-where-taken}
use Rattle.bus_law_run.proofs.Fronts.{front-few}

-- what is delivered was taken
taken-if-told : (tick : ℕ) (c : Channel) (taken : Option Taken) → is_some (delivery_of tick c taken) ≡ true → (block : Taken) × (taken ≡ Some block)
taken-if-told tick c None told = (let no : false ≡ true = told in cc)
taken-if-told tick c (Some block) told = (block, refl)

module _ (plan : PlanData) (shown : Pair) (past : List Pair) where
  -- where one of these stations takes a block, a burst is found
  found-more : (stations : List StationData) → is_delivering plan (shown ∷ past) stations ≡ true →
      length (bursts LAG past) < length (bursts LAG (shown ∷ past))
  found-more [] told = (let no : false ≡ true = told in cc)
  found-more (s ∷ stations) told =
      by (is_some (delivered_of plan (shown ∷ past) s)) refl
      (λ other. found-more stations (sym (ap (λ b. b || is_delivering plan (shown ∷ past) stations) other) ∙ told))
    where
      by : (test : Bool) → is_some (delivered_of plan (shown ∷ past) s) ≡ test →
          (is_some (delivered_of plan (shown ∷ past) s) ≡ false → length (bursts LAG past) < length (bursts LAG (shown ∷ past))) →
          length (bursts LAG past) < length (bursts LAG (shown ∷ past))
      by true here others =
          let taken = taken-if-told _ _ (taken_newest LAG s (starts plan s) [] [] shown past) here in
          burst-where-taken LAG s (starts plan s) [] [] shown past taken.0 taken.1
      by false other others = others other

-- in each tick as many bursts are found as before, or more
bursts-grow : (shown : Pair) (past : List Pair) → length (bursts LAG past) ≤ length (bursts LAG (shown ∷ past))
unfolding bursts
bursts-grow shown past = front-few (bursts LAG past) _ (_, refl)

few-more : (delivers : Bool) (n before after : ℕ) → n ≤ before → before ≤ after → (delivers ≡ true → before < after) → (if delivers then suc n else n) ≤ after
few-more true n before after few grows more = let later = more refl in omega (arith, few, later)
few-more false n before after few grows more = omega (arith, few, grows)

pub delivering-few : (plan : PlanData) (past : List Pair) → delivering plan past ≤ length (bursts LAG past)
unfolding delivering
delivering-few plan [] = omega arith
delivering-few plan (shown ∷ past) =
    few-more (is_delivering plan (shown ∷ past) plan.stations) (delivering plan past) (length (bursts LAG past)) (length (bursts LAG (shown ∷ past)))
    (delivering-few plan past) (bursts-grow shown past) (found-more plan shown past plan.stations)
