-- In each tick a station's terminal hears it as it heard those before, or takes no block: also where the station takes control.
use Rattle.std.proofs.Common.{◌≡◌, ◌⊎◌, inl, inr, ℕ, suc, Bool, true, false, List, [], ◌∷◌, ◌++◌, length, Option, Some, None, refl, sym, ap, ◌∙◌, subst, arith}
use Rattle.std.proofs.lemmas.Bool.{true≢false}
use Rattle.std.proofs.lemmas.Bool.Decides.{nat_tests}
use Rattle.std.specs.Prelude.{not, ◌&&◌, ◌==◌, ◌-◌, nat_lt, if◌then◌else◌, IsSome}
use Rattle.bus_base.specs.declared.samples.Channel.{Channel}
use Rattle.bus_base.specs.declared.samples.Channel.TheVariants.{A, B}
use Rattle.bus_base.specs.declared.samples.Pair.{Pair}
use Rattle.bus_line.specs.Past.{quiet, quiet_ticks, stopped, newest_burst, ended_now, Burst}
use Rattle.bus_formats.specs.Plans.{TerminalData, StationData}
use Rattle.bus_model.specs.Control.{OutsideTake, StationSoFar, accepted_take, moment_of, hear_more, yielded_in, unheard, unheard_ticks, outside_takes, taken_over, hold, serve, so_far, course_with, hearing_after, holds_control}
use Rattle.bus_model.specs.Course.{Take}
use Rattle.bus_model.specs.Hearing.{Moment, Hearing, heard_on}
use Rattle.bus_model.specs.Memory.{Memory, TimedLoad}
use Rattle.bus_model.specs.Orders.{Taken}
use Rattle.bus_model.specs.Terminal.{took_now, accepted_now}
use Rattle.bus_law_run.specs.Blocks.{heard_newest, taken_newest}
use Rattle.bus_law_run.proofs.BurstsTaken.{ends-where-taken}
use Rattle.bus_law_run.proofs.HeardSince.{unheard-on, quiet-all, quiet-long}

-- ---- who heard nothing takes nothing

and-off : (b c : Bool) → c ≡ false → (b && c) ≡ false
and-off true c off = off
and-off false c off = refl

never-stopped : (n : ℕ) → nat_lt 0 (stopped (quiet_ticks n)) ≡ false
never-stopped n =
    ap (λ m. nat_lt 0 (m - quiet (quiet_ticks n))) (quiet-long n) ∙ ap (λ m. nat_lt 0 (n - m)) (quiet-all n) ∙ (grind (arith, nat_tests))

quiet-ends-not : (k n : ℕ) → ended_now k (quiet_ticks n) ≡ None
quiet-ends-not k n =
    ap (λ (b : Bool). if b then Some (newest_burst k (quiet_ticks n)) else None)
    (and-off (quiet (quiet_ticks n) == suc k) (nat_lt 0 (stopped (quiet_ticks n))) (never-stopped n))

none-some-not : (o : Option Burst) → o ≡ None → IsSome o → ⊥
none-some-not o none some = absurd (true≢false (sym (subst IsSome none some)))

took-unheard : (k : ℕ) (terminal : TerminalData) (loads : List TimedLoad) (memory : Memory) (shown : Pair) (past : List Pair) →
    took_now k terminal loads record { memory = memory; ticks = unheard_ticks (shown ∷ past) } ≡ None
took-unheard k terminal loads memory shown past =
    by (took_now k terminal loads record { memory = memory; ticks = unheard_ticks (shown ∷ past) }) refl
  where
    ends-not : (c : Channel) → IsSome (ended_now k (heard_on c (unheard_ticks (shown ∷ past)))) → ⊥
    ends-not c some =
        none-some-not (ended_now k (heard_on c (unheard_ticks (shown ∷ past))))
        (ap (ended_now k) (unheard-on c (shown ∷ past)) ∙ quiet-ends-not k (length (shown ∷ past))) some

    by : (o : Option Taken) → took_now k terminal loads record { memory = memory; ticks = unheard_ticks (shown ∷ past) } ≡ o →
        took_now k terminal loads record { memory = memory; ticks = unheard_ticks (shown ∷ past) } ≡ None
    by None is = is
    by (Some block) is =
        absurd (elim (ends-where-taken k terminal loads record { memory = memory; ticks = unheard_ticks past } unheard block is) [
          | inl a ↦ ends-not A a
          | inr b ↦ ends-not B b
        ])

-- ---- a tick of a station

module _ (k : ℕ) (station : StationData) (starts : Bool) (loads : List TimedLoad) (outside : List OutsideTake) (shown : Pair) (past : List Pair)
    (none : outside_takes k station starts loads outside (length past) outside ≡ [])
    (alone : (memory : Memory) (now : Moment) (ticks : List Moment) (end : ℕ) →
    accepted_now k station.terminal loads record { memory = memory; ticks = now ∷ ticks } ≡ Some end →
    took_now k station.terminal loads record { memory = memory; ticks = now ∷ ticks } ≡ None) where
  abbrev so : StationSoFar
  so = so_far k station starts loads outside past

  -- by whether the station holds control
  abbrev so_by : Bool → StationSoFar
  so_by b =
      if b then hold k station starts loads outside shown past so (course_with k station starts loads outside so.takes (shown ∷ past))
      else serve k station starts loads outside shown past so (course_with k station starts loads outside so.takes past)

  abbrev heard_by : Bool → Moment
  heard_by b =
      if not b then moment_of shown (course_with k station starts loads outside so.takes past)
      else if yielded_in (length past) (course_with k station starts loads outside (so_by b).takes (shown ∷ past)).ended
      then moment_of shown (course_with k station starts loads outside (so_by b).takes (shown ∷ past)) else unheard

  -- the terminal hears the tick as those before, or takes nothing
  abbrev Heard : Hearing → Moment → Type 0
  Heard later now = (later ≡ hear_more so.hearing now)
      ⊎ ((took_now k station.terminal loads (hear_more so.hearing now) ≡ None) × (took_now k station.terminal loads later ≡ None))

  abbrev serves_with : Hearing → List Take → StationSoFar
  serves_with hearing takes = taken_over k station starts loads outside (shown ∷ past) so hearing takes

  served-by : (now : Moment) (accepted : Option ℕ) (rest : List Take) → rest ≡ [] →
      accepted_now k station.terminal loads (hear_more so.hearing now) ≡ accepted →
      Heard (serves_with (hear_more so.hearing now) (accepted_take (length past) accepted ++ rest)).hearing now
  served-by now None rest empty is = inl (ap (λ ts. (serves_with (hear_more so.hearing now) ts).hearing) empty)
  served-by now (Some end) rest empty is =
      inr (alone so.hearing.memory now so.hearing.ticks end is, took-unheard k station.terminal loads _ shown past)

  heard-by : (b : Bool) → Heard (so_by b).hearing (heard_by b)
  heard-by true = inl refl
  heard-by false =
      served-by (heard_by false) (accepted_now k station.terminal loads (hear_more so.hearing (heard_by false)))
      (outside_takes k station starts loads outside (length past) outside) none refl

  pub heard-or-nothing :
      (hearing_after k station starts loads outside (shown ∷ past)
      ≡ hear_more (hearing_after k station starts loads outside past) (heard_newest k station starts loads outside shown past))
      ⊎ ((taken_newest k station starts loads outside shown past ≡ None)
      × (took_now k station.terminal loads (hearing_after k station starts loads outside (shown ∷ past)) ≡ None))
  unfolding so_far
  heard-or-nothing = heard-by (holds_control k station starts loads outside past)
