-- All stations that are present over the command of a message: the one in control, and those that serve.
use Rattle.std.proofs.Common.{◌≡◌, ◌≢◌, ◌⊎◌, inl, inr, ℕ, suc, ◌+◌, ◌≤◌, true, false, List, ◌++◌, length, Some, None, refl, sym, ap, ◌∙◌, subst}
use Rattle.std.proofs.lemmas.Bool.{cases_eq}
use Rattle.std.proofs.lemmas.Option.{same_Some}
use Rattle.std.specs.Prelude.{not, slice_get, option_map}
use Rattle.bus_base.specs.declared.samples.Pair.{Pair}
use Rattle.bus_line.specs.Past.{Burst, end_of, rest_of}
use Rattle.bus_formats.specs.Plans.{StationData, PlanData}
use Rattle.bus_model.specs.Memory.{TimedLoad, with_loads}
use Rattle.bus_model.specs.Message.{Present, unmoved, after_command}
use Rattle.bus_model.specs.Starts.{starts}
use Rattle.bus_model.specs.Strikes.{ShownBurst, burst_end}
use Rattle.bus_model.specs.Terminal.{standing_after, took_now}
use Rattle.bus_model.specs.Control.{OutsideTake, course_after, hearing_after}
use Rattle.bus_model.specs.World.{is_present}
use Rattle.bus_model.specs.WorldLog.{present_stations, present_after}
use Rattle.bus_law_messages.specs.Settled.{IsServing}
use Rattle.bus_law_messages.specs.Ends.{HeardCommand}
use Rattle.bus_law_table.specs.Stations.{loaded_at, ArePresent}
use Rattle.bus_law_table.specs.Happened.{block_at, took_in}
use Rattle.bus_law_table.proofs.OneStation.{serving_with, serving-is, CommandTold, command-told}
use Rattle.bus_law_table.proofs.Pairing.{Each, Beside, beside, each-filter}

module _ (k : ℕ) (plan : PlanData) (loads : List TimedLoad) (outside : List OutsideTake) (absent : List ℕ) (past : List Pair) (place : ℕ)
    (holder : StationData) where
  -- a station that is present: the one in control, or another one
  abbrev pub IsThere : StationData → Type 0
  IsThere x =
      (x ≡ holder) ⊎ ((other : ℕ) × (slice_get plan.stations other ≡ Some x) × (other ≢ place) × (is_present absent x ≡ true))

  pub all-there : slice_get plan.stations place ≡ Some holder → Each IsThere (present_stations k plan loads outside absent)
  all-there there =
      each-filter IsThere (is_present absent) plan.stations (λ i x at present. elim (cases_eq i place) [
        | inl same ↦ inl (same_Some x holder (sym at ∙ ap (slice_get plan.stations) same ∙ there))
        | inr apart ↦ inr (i, at, apart, present)
      ])

  -- every other station serves
  abbrev pub Others : Type 0
  Others =
      (other : ℕ) (x : StationData) → slice_get plan.stations other ≡ Some x → other ≢ place → is_present absent x ≡ true →
      IsServing k x (starts plan x) loads outside past

  -- ---- no block is taken before the burst's end is known

  pub took-none : (x : StationData) (xs : List Pair) (tick : ℕ) → took_now k x.terminal loads (hearing_after k x (starts plan x) loads outside xs) ≡ None →
      took_in k plan loads outside absent xs tick x ≡ None
  took-none x xs tick none =
      ap (option_map (block_at tick (standing_after k x.terminal loads (hearing_after k x (starts plan x) loads outside xs)).channel x)) none

  -- ---- the end of a command

  module _ (ticks : List Pair) (shown : ShownBurst) where
    -- what the table says of a station that is present, beside its own one: the one in control is as it was; another made of the command what
    -- the table says
    abbrev pub IsTold : StationData → Present → Type 0
    IsTold x y =
        ((x ≡ holder) × (present_after k plan loads outside absent past holder ≡ loaded_at loads (length past) y)
        × (after_command k loads shown y ≡ unmoved y))
        ⊎ ((other : ℕ) × (slice_get plan.stations other ≡ Some x) × (other ≢ place) × (is_present absent x ≡ true)
        × CommandTold k plan loads outside absent past ticks shown x y)

    holder-unmoved : (y : Present) → (course_after k holder (starts plan holder) loads outside past).holds ≡ true →
        present_after k plan loads outside absent past holder ≡ loaded_at loads (length past) y → after_command k loads shown y ≡ unmoved y
    holder-unmoved y holds same =
        let off : y.serves ≡ false = sym (ap (λ (q : Present). q.serves) same) ∙ ap not holds in rw off refl

    -- the same but for the memory
    plain : (x : StationData) (y : Present) → present_after k plan loads outside absent past x ≡ loaded_at loads (length past) y →
        record (present_after k plan loads outside absent past x) { memory = y.memory } ≡ y
    plain x y same = ap (λ (q : Present). record q { memory = y.memory }) same

    told-so : (x : StationData) (y : Present) (burst : Burst) → (course_after k x (starts plan x) loads outside past).holds ≡ false →
        present_after k plan loads outside absent past x ≡ loaded_at loads (length past) y →
        HeardCommand k x (starts plan x) loads outside past ticks shown.channel burst → burst.slots ≡ shown.slots → rest_of burst ≡ shown.rest →
        end_of burst ≡ burst_end shown → length (ticks ++ past) ≡ suc (burst_end shown + k) → length past ≤ burst_end shown + k →
        CommandTold k plan loads outside absent past ticks shown x y
    told-so x y burst serves same heard slots rest at long early =
        let c = course_after k x (starts plan x) loads outside past in
        let is : y ≡ serving_with x c y.memory = serving-is x c y.memory y serves (plain x y same) in
        subst (CommandTold k plan loads outside absent past ticks shown x) (sym is)
        (command-told k plan loads outside absent past ticks shown x burst heard serves slots rest at long early y.memory
        (ap (λ (q : Present). with_loads q.plan.terminal.address (length past) loads y.memory) (sym is)
        ∙ sym (ap (λ (q : Present). q.memory) same)))

    pub all-told : (burst : Burst) → slice_get plan.stations place ≡ Some holder →
        (course_after k holder (starts plan holder) loads outside past).holds ≡ true → Others →
        ((other : ℕ) (x : StationData) → slice_get plan.stations other ≡ Some x → other ≢ place → is_present absent x ≡ true →
        HeardCommand k x (starts plan x) loads outside past ticks shown.channel burst) →
        burst.slots ≡ shown.slots → rest_of burst ≡ shown.rest → end_of burst ≡ burst_end shown → length (ticks ++ past) ≡ suc (burst_end shown + k) →
        length past ≤ burst_end shown + k → (stations : List Present) → ArePresent k plan loads outside absent past stations →
        Beside IsTold (present_stations k plan loads outside absent) stations
    all-told burst there holds others heard slots rest at long early stations are =
        beside IsThere IsTold (present_after k plan loads outside absent past) (loaded_at loads (length past))
        (present_stations k plan loads outside absent) stations (all-there there) are (λ x y here same. elim here [
          | inl is ↦ (let so = sym (ap (present_after k plan loads outside absent past) is) ∙ same in inl (is, so, holder-unmoved y holds so))
          | inr other ↦ (let serves = (others other.0 x other.1 other.2 other.3).serves.serves in
              inr (
                other.0,
                other.1,
                other.2,
                other.3,
                told-so x y burst serves same
                    (heard other.0 x other.1 other.2 other.3) slots rest at long early,
              ))
        ])
