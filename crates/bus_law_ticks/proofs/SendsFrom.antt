-- When an answer that is owed is sent.
use Rattle.std.proofs.Common.{◌≡◌, ◌⊎◌, inl, inr, ℕ, ◌+◌, ◌-◌, ◌≤◌, Bool, true, false, ◌||◌, nat_lt, List, length, Option, Some, None, refl, sym, ap, ◌∙◌, arith, if◌then◌else◌}
use Rattle.std.specs.Prelude.{is_some}
use Rattle.std.proofs.lemmas.Bool.{cases_Bool, true≢false, le-ltb}
use Rattle.std.proofs.lemmas.Bool.Decides.{nat_tests}
use Rattle.bus_base.specs.Samples.{other_of}
use Rattle.bus_base.specs.declared.samples.Sample.{Sample}
use Rattle.bus_base.specs.declared.samples.Drive.TheVariants.{Silent}
use Rattle.bus_words.specs.declared.word.Word.{Word}
use Rattle.bus_line.specs.Bursts.{IsEndSince}
use Rattle.bus_line.specs.Past.{end_since}
use Rattle.bus_line.proofs.EndLaws.{end_since-is, end_since-found}
use Rattle.bus_formats.specs.Plans.{TerminalData}
use Rattle.bus_formats.specs.Times.{dead_ticks}
use Rattle.bus_model.specs.Memory.{Memory, TimedLoad}
use Rattle.bus_model.specs.Orders.{Duty, free, owes, promises}
use Rattle.bus_model.specs.Hearing.{Moment, heard_on}
use Rattle.bus_model.specs.Sending.{drive_sample}
use Rattle.bus_model.specs.Standing.{Standing, is_owed}
use Rattle.bus_model.specs.Terminal.{given_up, is_over, drive_duty, drives}
use Rattle.bus_law_ticks.specs.Heeding.{IsAddressedAt}
use Rattle.bus_law_ticks.specs.Replies.{AreQuiet}
use Rattle.bus_law_ticks.proofs.Marks.{of, stands}
use Rattle.bus_law_ticks.proofs.Heard.{length-heard}
use Rattle.bus_law_ticks.proofs.RunsOut.{quiet-unless}
use Rattle.bus_law_ticks.proofs.GivenUp.{given-up-is}

all-false : (a b c : Bool) → a ≡ false → b ≡ false → c ≡ false → ((a || b) || c) ≡ false
all-false a b c e f g = rw (e, f, g) refl

parts-false : (a b c : Bool) → ((a || b) || c) ≡ false → (a ≡ false) × (b ≡ false) × (c ≡ false)
parts-false false false false h = (refl, refl, refl)
parts-false true b c h = cc
parts-false false true c h = cc
parts-false false false true h = cc

not-so : (b : Bool) → (b ≡ true → ⊥) → b ≡ false
not-so true h = absurd (h refl)
not-so false h = refl

none-is : (o : Option ℕ) → ((e : ℕ) → o ≡ Some e → ⊥) → is_some o ≡ false
none-is None h = refl
none-is (Some e) h = absurd (h e refl)

is-none : (o : Option ℕ) (e : ℕ) → is_some o ≡ false → o ≡ Some e → ⊥
is-none o e none some = true≢false (sym (ap is_some some) ∙ none)

module _ (k : ℕ) (terminal : TerminalData) (loads : List TimedLoad) (memory : Memory) (ticks : List Moment) (small : k ≤ 39) where
  abbrev pub now_stands : Standing
  now_stands = stands k terminal loads memory ticks

  abbrev pub own : List Sample
  own = heard_on now_stands.channel ticks

  abbrev pub due : ℕ
  due = now_stands.end + dead_ticks terminal.delay

  -- what keeps an answer from being sent
  abbrev pub stops : Bool
  stops = nat_lt (length own) due || given_up k terminal own now_stands || is_over k terminal own now_stands

  -- nothing does
  abbrev pub Goes : Type 0
  Goes =
      (due ≤ length ticks) × AreQuiet own now_stands.end due
      × ((t : ℕ) → now_stands.end + k ≤ t → IsAddressedAt k terminal loads (of k terminal loads memory ticks) (other_of now_stands.channel) t → ⊥)
      × ((e : ℕ) → IsEndSince k own due e → ⊥)

  goes-on : Goes → stops ≡ false
  goes-on g =
      let late : nat_lt (length own) due ≡ false = le-ltb (length own) due (let long = length-heard now_stands.channel ticks in let low = g.0 in omega (arith, long, low)) in
      let kept : given_up k terminal own now_stands ≡ false = not-so _ (λ up. elim ((given-up-is k terminal loads memory ticks small).0 up) [
        | inl newer ↦ g.2 newer.0 newer.1 newer.2
        | inr heard ↦ heard.3 (g.1 heard.0 heard.1 heard.2)
      ]) in
      let runs : is_over k terminal own now_stands ≡ false = none-is (end_since k own due) (λ e found. g.3 e (end_since-is k own due e found)) in
      all-false _ _ _ late kept runs

  on-goes : stops ≡ false → Goes
  on-goes h =
      let parts = parts-false (nat_lt (length own) due) (given_up k terminal own now_stands) (is_over k terminal own now_stands) h in
      let long = length-heard now_stands.channel ticks in
      let late : due ≤ length own = (let no = parts.0 in grind (arith, nat_tests, no)) in (
        omega (arith, late, long),
        λ t low high. quiet-unless own t (λ heard. true≢false (sym ((given-up-is k terminal loads memory ticks small).1 (inr (t, low, high, heard))) ∙ parts.1)),
        λ t low at. true≢false (sym ((given-up-is k terminal loads memory ticks small).1 (inl (t, low, at))) ∙ parts.1),
        λ e is. is-none (end_since k own due) e parts.2 (end_since-found k own due e is),
      )

  pub sends-from : (words : List Word) (acceptance : Bool) → now_stands.duty ≡ owes words acceptance → due ≤ length ticks → AreQuiet own now_stands.end due →
      ((t : ℕ) → now_stands.end + k ≤ t → IsAddressedAt k terminal loads (of k terminal loads memory ticks) (other_of now_stands.channel) t → ⊥) →
      ((e : ℕ) → IsEndSince k own due e → ⊥) →
      drives k terminal loads (of k terminal loads memory ticks) ≡ drive_sample now_stands.channel now_stands.part words (length ticks - due)
  sends-from words acceptance duty late quiet fresh going =
      let free_to : stops ≡ false = goes-on (late, quiet, fresh, going) in
      ap (drive_duty k terminal own now_stands) duty
      ∙ ap (λ (b : Bool). if b then Silent else drive_sample now_stands.channel now_stands.part words (length own - due)) free_to
      ∙ ap (λ (n : ℕ). drive_sample now_stands.channel now_stands.part words (n - due)) (length-heard now_stands.channel ticks)

  duty-silent : (d : Duty) → now_stands.duty ≡ d →
      (drive_duty k terminal own now_stands d ≡ Silent)
      ⊎ ((is_owed now_stands.duty ≡ true) × (due ≤ length ticks) × AreQuiet own now_stands.end due
      × ((t : ℕ) → now_stands.end + k ≤ t → IsAddressedAt k terminal loads (of k terminal loads memory ticks) (other_of now_stands.channel) t → ⊥)
      × ((e : ℕ) → IsEndSince k own due e → ⊥))
  duty-silent free is = inl refl
  duty-silent (promises command transmitter) is = inl refl
  duty-silent (owes words acceptance) is = elim (cases_Bool stops) [
    | inl stopped ↦ inl (ap (λ (b : Bool). if b then Silent else drive_sample now_stands.channel now_stands.part words (length own - due)) stopped)
    | inr on ↦ (let g = on-goes on in inr (ap is_owed is, g.0, g.1, g.2, g.3))
  ]

  pub silent-or : (drives k terminal loads (of k terminal loads memory ticks) ≡ Silent)
      ⊎ ((is_owed now_stands.duty ≡ true) × (due ≤ length ticks) × AreQuiet own now_stands.end due
      × ((t : ℕ) → now_stands.end + k ≤ t → IsAddressedAt k terminal loads (of k terminal loads memory ticks) (other_of now_stands.channel) t → ⊥)
      × ((e : ℕ) → IsEndSince k own due e → ⊥))
  silent-or = duty-silent now_stands.duty refl
