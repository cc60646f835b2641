-- How a message that offers no control ends: it is abandoned while its answer runs on, or it ends at most 24 ticks after the last that it shows.
use Rattle.std.proofs.Common.{◌≡◌, ℕ, suc, ◌+◌, ◌-◌, ◌≤◌, Bool, true, false, Option, Some, None, refl, sym, subst, arith}
use Rattle.std.proofs.lemmas.Bool.{true≢false}
use Rattle.std.proofs.lemmas.Bool.Decides.{nat_tests}
use Rattle.std.proofs.lemmas.Option.{none-some, same_Some}
use Rattle.std.specs.Prelude.{IfSome, if◌then◌else◌, not, ◌&&◌, nat_le}
use Rattle.bus_base.specs.Positions.{IsBetween}
use Rattle.bus_formats.specs.Forms.{answers_of}
use Rattle.bus_formats.specs.Plans.{ItemData}
use Rattle.bus_formats.specs.declared.form.Shape.{Shape}
use Rattle.bus_load.proofs.Prompt.{IsPrompt, expected-prompt}
use Rattle.bus_model.specs.Attempts.{is_offer}
use Rattle.bus_model.specs.Endings.{Ending, abandoned_at, heard_ending, first_ending, ending_by, ending_of}
use Rattle.bus_model.specs.Strikes.{ShownAnswer, burst_end, is_faded}
use Rattle.bus_law_plans.proofs.Superseded.{ending-abandoned}
use Rattle.bus_law_plans.proofs.Ticked.{EndsBy}

pub data Closing (end : ℕ) (first second : Option ShownAnswer) (ending : Ending) : Type 0 where
  runs : (old : ShownAnswer) → ending.runs_on ≡ Some old → end ≤ suc ending.tick → suc ending.tick ≤ burst_end old.burst → ending.passes ≡ None →
      Closing end first second ending
  over : ending.runs_on ≡ None → ((last : ℕ) → end ≤ last → EndsBy last first → EndsBy last second → IsPrompt last ending) → Closing end first second ending

module _ (k : ℕ) (low : k ≤ 3) (item : ItemData) (abandon : IfSome item.abandon (IsBetween 25 1600)) (plain : is_offer item.kind ≡ false) (end : ℕ) where
  -- an answer that isn't abandoned doesn't run on
  none-runs : (shape : Shape) → (answers_of item.kind).first ≡ Some shape → (first : ShownAnswer) (second r : Option ShownAnswer) →
      (heard_ending k item.kind first second None).runs_on ≡ r → r ≡ None
  none-runs shape expects first second None is = refl
  none-runs shape expects first second (Some old) is =
      let by = ending-abandoned k (record item { abandon = None }) end (Some first) second old
      (subst (λ s. (ending_by k item.kind None end (Some first) second s).runs_on ≡ Some old) (sym expects) is) in
      absurd (true≢false (sym by.may))

  -- an answer is abandoned while it runs, after the command
  when-abandoned : (first : ShownAnswer) (o : Option ℕ) → IfSome o (IsBetween 25 1600) → (tick : ℕ) → abandoned_at k item.kind o end first ≡ Some tick →
      (end ≤ suc tick) × (suc tick ≤ burst_end first.burst)
  when-abandoned first None range tick is = absurd (none-some tick is)
  when-abandoned first (Some n) range tick is =
      by-tests (nat_le (end + n) (burst_end first.burst)) (not (is_faded first (end + n - 1 - first.burst.start))) refl is
    where
      by-tests : (b c : Bool) → nat_le (end + n) (burst_end first.burst) ≡ b → (if b && c then Some (end + n - 1) else None) ≡ Some tick →
          (end ≤ suc tick) × (suc tick ≤ burst_end first.burst)
      by-tests true true test same =
          let order : end + n ≤ burst_end first.burst = grind (arith, nat_tests, test) in
          let tick_is : end + n - 1 ≡ tick = same_Some (end + n - 1) tick same in
          (omega (arith, tick_is), omega (arith, tick_is, order, range.0))
      by-tests true false test same = absurd (none-some tick same)
      by-tests false c test same = absurd (none-some tick same)

  heard : (shape : Shape) → (answers_of item.kind).first ≡ Some shape → (first : ShownAnswer) (second : Option ShownAnswer) (o : Option ℕ) →
      abandoned_at k item.kind item.abandon end first ≡ o → Closing end (Some first) second (heard_ending k item.kind first second o)
  heard shape expects first second None is =
      over (none-runs shape expects first second (heard_ending k item.kind first second None).runs_on refl)
      (λ last within ends later. expected-prompt k low item.kind plain last None end (Some first) second shape within ends later)
  heard shape expects first second (Some tick) is =
      let at = when-abandoned first item.abandon abandon tick is in
      runs first refl at.0 at.1 refl

  waited : (shape : Shape) → (answers_of item.kind).first ≡ Some shape → (first second : Option ShownAnswer) →
      Closing end first second (first_ending k item.kind item.abandon end first second)
  waited shape expects None second =
      over refl (λ last within ends later. expected-prompt k low item.kind plain last None end None second shape within ends later)
  waited shape expects (Some first) second = heard shape expects first second (abandoned_at k item.kind item.abandon end first) refl

  by-shape : (shape : Option Shape) → (answers_of item.kind).first ≡ shape → (first second : Option ShownAnswer) →
      Closing end first second (ending_by k item.kind item.abandon end first second shape)
  by-shape None expects first second = over refl (λ last within ends later. record { tick = omega (arith, low, within); passes = refl })
  by-shape (Some shape) expects first second = waited shape expects first second

  pub closing-of : (first second : Option ShownAnswer) → Closing end first second (ending_of k item end first second)
  closing-of first second = by-shape (answers_of item.kind).first refl first second
