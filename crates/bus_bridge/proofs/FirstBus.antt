-- The first bus, tick by tick.
use Rattle.std.proofs.Common.{◌≡◌, inl, inr, ℕ, suc, ◌+◌, ◌<◌, ◌≤◌, true, false, List, [], ◌∷◌, ◌++◌, length, refl, ap, sym, ◌∙◌, subst, arith}
use Rattle.std.specs.Prelude.{flat_map, vec_capacity}
use Rattle.std.specs.List.{AllByRecursion as Each}
use Rattle.std.proofs.lemmas.Bool.{cases_lt}
use Rattle.std.proofs.lemmas.List.{length-append}
use Rattle.bus_base.specs.declared.samples.Pair.{Pair}
use Rattle.bus_line.specs.declared.cutter.TheConstants.{LAG}
use Rattle.bus_formats.specs.declared.log.Delivery.{Delivery}
use Rattle.bus_law_plans.specs.Memories.{IsBlock}
use Rattle.bus_model.specs.World.{world, ticks_on, run_is_over}
use Rattle.bus_run.specs.Amounts.{most_deliveries}
use Rattle.bus_run.specs.Deliveries.{taken_in}
use Rattle.bus_run.specs.Settings.{unserved}
use Rattle.bus_run.specs.declared.taken.TakenBlock.{TakenBlock}
use Rattle.bus_run.proofs.TableRun as table
use Rattle.bus_bridge.specs.Runs.{RunsWith, BridgeBegins, FirstRuns, HasRoom, table_end}
use Rattle.bus_bridge.specs.Worlds.{handed, handed_on, handed_newest, taken}
use Rattle.bus_bridge.specs.declared.bridge.Bridge.{Bridge}
use Rattle.bus_bridge.specs.declared.inputs.BridgePlan.{BridgePlan}
use Rattle.bus_bridge.specs.declared.pairings.Pairing.{Pairing}
use Rattle.bus_bridge.proofs.Handed.{handed-none, handed-more, handed-few}
use Rattle.bus_bridge.proofs.Tables.{has-room, goes-on}

-- the blocks that are handed on after one tick more
pub taken-next : (plan : BridgePlan) (t : ℕ) →
    taken plan (suc t) ≡ taken plan t ++ flat_map (handed_on plan.a plan.pairs) (taken_in (unserved plan.first) (world LAG plan.first [] [] [] (suc t)))
unfolding ticks_on
taken-next plan t = handed-more plan _ (world LAG plan.first [] [] [] t)

-- what is handed on, by the address, the pairings and the blocks
pub handed-same : (a b : ℕ) (ps qs : List Pairing) (bs cs : List TakenBlock) → a ≡ b → ps ≡ qs → bs ≡ cs →
    flat_map (handed_on a ps) bs ≡ flat_map (handed_on b qs) cs
handed-same a b ps qs bs cs ea ep eb = rw (ea, ep, eb) refl

-- so they are those of one tick more
pub taken-after : (plan : BridgePlan) (t : ℕ) (old new more : List Delivery) → new ≡ old ++ more → old ≡ taken plan t →
    more ≡ flat_map (handed_on plan.a plan.pairs) (taken_in (unserved plan.first) (world LAG plan.first [] [] [] (suc t))) → new ≡ taken plan (suc t)
taken-after plan t old new more is before now =
    is ∙ ap (λ (ds : List Delivery). ds ++ more) before ∙ ap (λ (ds : List Delivery). taken plan t ++ ds) now ∙ sym (taken-next plan t)

-- what wasn't over before a tick, nor in it, wasn't over before the next one
pub before-next : (P : ℕ → Type 0) (t : ℕ) → ((u : ℕ) → u < t → P u) → P t → (u : ℕ) → u < suc t → P u
before-next P t before now u early = elim (cases_lt u t) [
  | inl low ↦ before u low
  | inr high ↦ subst P (let at : t ≡ u = omega (arith, early, high) in at) now
]

module _ (plan : BridgePlan) (t : ℕ) (bridge : Bridge) (st : FirstRuns plan t bridge) where
  -- a tick more has room
  pub first-room : HasRoom plan.first [] t
  first-room = has-room plan.first [] st.may.first tt t st.within

  module _ (on : run_is_over LAG plan.first [] [] [] t ≡ false) where
    earlier : t < table_end plan.first []
    earlier = goes-on plan.first [] st.may.first tt t st.within on

    -- so have the blocks that it brings
    pub taken-room : length (taken plan (suc t)) ≤ vec_capacity bridge.taken
    taken-room =
        let few = handed-few plan (world LAG plan.first [] [] [] (suc t)) st.may.first in
        let most = (table.goes-on plan.first st.may.first (suc t) (let low = earlier in omega (arith, low))).deliveries_left in
        let room = st.room in
        omega (arith, few, most, room)

    -- the bus after it
    pub first-next : (new : Bridge) → RunsWith plan.first [] (suc t) new.first → new.second ≡ bridge.second → new.a ≡ bridge.a → new.b ≡ bridge.b →
        new.pairs ≡ bridge.pairs → new.loaded ≡ bridge.loaded → new.taken.items ≡ taken plan (suc t) → vec_capacity new.taken ≡ vec_capacity bridge.taken →
        Each (λ d. IsBlock d.words) new.taken.items → FirstRuns plan (suc t) new
    first-next new first second a b pairs loaded taken_are capacity blocks = record {
      may = st.may;
      first_bus = first;
      second_bus = subst (RunsWith plan.second [] 0) (sym second) st.second_bus;
      a_is = a ∙ st.a_is;
      b_is = b ∙ st.b_is;
      pairs_are = pairs ∙ st.pairs_are;
      taken_are = taken_are;
      none_loaded = loaded ∙ st.none_loaded;
      room = (let room = st.room in omega (arith, room, capacity));
      blocks = blocks;
      within = (let low = earlier in omega (arith, low));
      before = before-next (λ (u : ℕ). run_is_over LAG plan.first [] [] [] u ≡ false) t st.before on;
    }

-- ---- before the first tick

taken-none : (plan : BridgePlan) → taken plan 0 ≡ []
unfolding ticks_on
taken-none plan = handed-none plan

-- a bridge that begins
pub begins-first : (plan : BridgePlan) (bridge : Bridge) → BridgeBegins plan bridge → FirstRuns plan 0 bridge
unfolding BridgeBegins
begins-first plan bridge st = record {
  may = st.may;
  first_bus = st.first_bus;
  second_bus = st.second_bus;
  a_is = st.a_is;
  b_is = st.b_is;
  pairs_are = st.pairs_are;
  taken_are = st.none_taken ∙ sym (taken-none plan);
  none_loaded = st.none_loaded;
  room = st.room;
  blocks = subst (Each (λ (d : Delivery). IsBlock d.words)) (sym st.none_taken) tt;
  within = omega arith;
  before = λ u early. absurd (omega (arith, early));
}
