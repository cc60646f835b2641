-- How long an answer is sent, and how long it is shown, beside a command on the other channel that begins after n ticks of it: numbers alone.
use Rattle.std.proofs.Common.{◌≡◌, ◌⊎◌, inl, inr, ℕ, ◌+◌, ◌-◌, ◌*◌, ◌<◌, ◌≤◌, Bool, true, false, List, [], ◌∷◌, length, Option, Some, None, refl, sym, subst, arith}
use Rattle.std.proofs.lemmas.Bool.{cases_lt, lt-ltb, le-ltb, true≢false}
use Rattle.std.proofs.lemmas.List.{length-take}
use Rattle.std.specs.Prelude.{min, max, nat_lt, take, ◌/◌}
use Rattle.bus_base.specs.declared.samples.Part.{Part}
use Rattle.bus_words.specs.declared.word.Word.{Word}
use Rattle.bus_model.specs.Strikes.{ShownAnswer, ShownBurst, own_struck, added_by, burst_end, first_ticks, superseded_end, beside_command}
use Rattle.bus_law_parts.specs.Parts.{HitsFit, part_ticks}
use Rattle.bus_law_parts.proofs.Lengths.{whole-or-short}
use Rattle.bus_law_beside.specs.Beside.{is_valid, sent_by_itself, sent_beside, shown_beside}

-- an answer of which n ticks were sent before a command, whose first word is valid or not, is sent for so many ticks in all, and m are shown
pub record BreaksOff (old : ShownAnswer) (n : ℕ) (valid : Bool) (sends m : ℕ) : Type 0 where
  pub from : n ≤ sends
  pub within : m ≤ part_ticks old.hits old.sent.words
  pub shown : m ≤ sends
  pub more : n ≤ m
  -- what is sent later than that isn't shown
  pub unshown : (i : ℕ) → m ≤ i → i < sends → part_ticks old.hits old.sent.words ≤ i
  -- where it is sent beside the command, nothing but its own words is
  pub own : n < sends → (sends ≤ 40 * length old.sent.words) ⊎ (added_by old.hits ≡ 0)
  pub bound : sends ≤ part_ticks old.hits old.sent.words + 4
  -- it stops by the command, after its words, or as the end of what a cut left is known
  pub stops : (i : ℕ) → sends ≤ i → ((valid ≡ true) × (n + 40 ≤ i))
      ⊎ ((40 * length old.sent.words ≤ i) ⊎ ((part_ticks old.hits old.sent.words + 4 ≤ i) × (m ≡ part_ticks old.hits old.sent.words)))
  pub early : valid ≡ true → sends ≤ n + 40

-- an answer that is sent by itself for so many ticks
record IsByItself (old : ShownAnswer) (n sends : ℕ) : Type 0 where
  is : sent_by_itself old n ≡ sends
  from : n ≤ sends
  bound : sends ≤ part_ticks old.hits old.sent.words + 4
  own : n < sends → (sends ≤ 40 * length old.sent.words) ⊎ (added_by old.hits ≡ 0)
  stops : (i : ℕ) → sends ≤ i → (40 * length old.sent.words ≤ i)
      ⊎ ((part_ticks old.hits old.sent.words + 4 ≤ i) × (part_ticks old.hits old.sent.words ≤ sends))
  -- the own words that are shown, or so far, end with what is shown by then
  ends : min (part_ticks old.hits old.sent.words) (max (40 * length (own_struck old.hits old.sent.words)) n) ≡ min (part_ticks old.hits old.sent.words) sends

by-itself : (part : Part) (old : ShownAnswer) (n : ℕ) → HitsFit part old.hits old.sent.words → n ≤ part_ticks old.hits old.sent.words →
    IsByItself old n (sent_by_itself old n)
by-itself part old n fits within =
    let w = length old.sent.words in
    elim (whole-or-short part old.hits old.sent.words fits) [
      | inl whole ↦ (
          let own = whole.own in
          let ticks = whole.ticks in
          let test : nat_lt (length (own_struck old.hits old.sent.words)) (length old.sent.words) ≡ false =
          le-ltb (length (own_struck old.hits old.sent.words)) (length old.sent.words) (omega (arith, own)) in
          let is : sent_by_itself old n ≡ max (40 * length old.sent.words) n = rw test refl in
          subst (IsByItself old n) (sym is) record {
            is = is;
            from = omega arith;
            bound = omega (arith, ticks, within);
            own = λ more. inl (omega (arith, more));
            stops = λ i late. inl (omega (arith, late));
            ends = omega (arith, own);
          })
      | inr short ↦ (
          let own = short.1.own in
          let ticks = short.1.ticks in
          let before = short.1.before in
          let test : nat_lt (length (own_struck old.hits old.sent.words)) (length old.sent.words) ≡ true =
          lt-ltb (length (own_struck old.hits old.sent.words)) (length old.sent.words) (omega (arith, own, before)) in
          let is : sent_by_itself old n ≡ part_ticks old.hits old.sent.words + 4 = rw test refl in
          subst (IsByItself old n) (sym is) record {
            is = is;
            from = omega (arith, within);
            bound = omega arith;
            own = λ more. inr short.1.added;
            stops = λ i late. inr (omega (arith, late), omega arith);
            ends = omega (arith, own, ticks);
          })
    ]

breaks-by : (old : ShownAnswer) (n : ℕ) (valid : Bool) → n ≤ part_ticks old.hits old.sent.words → IsByItself old n (sent_by_itself old n) →
    BreaksOff old n valid (sent_beside old n valid) (shown_beside old n valid)
breaks-by old n false within so = record {
  from = so.from;
  within = omega arith;
  shown = omega arith;
  more = (let from = so.from in omega (arith, from, within));
  unshown = λ i low high. omega (arith, low, high);
  own = so.own;
  bound = so.bound;
  stops = λ i late. elim (so.stops i late) [
    | inl words ↦ inr (inl words)
    | inr known ↦ (let enough = known.1 in inr (inr (known.0, omega (arith, enough))))
  ];
  early = λ valid. absurd (true≢false (sym valid));
}
breaks-by old n true within so = record {
  from = (let from = so.from in omega (arith, from));
  within = omega arith;
  shown = omega arith;
  more = (let from = so.from in omega (arith, from, within));
  unshown = λ i low high. omega (arith, low, high);
  own = λ more. elim (so.own (omega (arith, more))) [
    | inl words ↦ inl (omega (arith, words))
    | inr none ↦ inr none
  ];
  bound = (let bound = so.bound in omega (arith, bound));
  stops = λ i late. elim (cases_lt i (n + 40)) [
    | inr by ↦ inl (refl, by)
    | inl before ↦ elim (so.stops i (omega (arith, late, before))) [
      | inl words ↦ inr (inl words)
      | inr known ↦ (let enough = known.1 in let at = known.0 in inr (inr (at, omega (arith, enough, late, before))))
    ]
  ];
  early = λ valid. omega arith;
}

pub breaks-off : (part : Part) (old : ShownAnswer) (n : ℕ) (valid : Bool) → HitsFit part old.hits old.sent.words →
    n ≤ part_ticks old.hits old.sent.words → BreaksOff old n valid (sent_beside old n valid) (shown_beside old n valid)
breaks-off part old n valid fits within = breaks-by old n valid within (by-itself part old n fits within)

-- ---- the end, as the message table has it

-- where it is shown to its own end for so many ticks from its start on, and the command starts n ticks after that
shown-end : (old : ShownAnswer) (start n : ℕ) (slots : List (Option Word)) (valid : Bool) → is_valid slots ≡ valid →
    IsByItself old n (sent_by_itself old n) → burst_end old.burst ≡ old.sent.start + part_ticks old.hits old.sent.words → old.sent.start + n ≡ start →
    old.sent.start + shown_beside old n valid ≡ superseded_end old start slots
shown-end old start n [] false is so at begins = let ends = so.ends in omega (arith, ends, at, begins)
shown-end old start n [] true is so at begins = absurd (true≢false (sym is))
shown-end old start n (None ∷ slots) false is so at begins = let ends = so.ends in omega (arith, ends, at, begins)
shown-end old start n (None ∷ slots) true is so at begins = absurd (true≢false (sym is))
shown-end old start n (Some word ∷ slots) true is so at begins = let ends = so.ends in omega (arith, ends, at, begins)
shown-end old start n (Some word ∷ slots) false is so at begins = absurd (true≢false is)

pub shown-ends : (part : Part) (old : ShownAnswer) (start n : ℕ) (slots : List (Option Word)) → HitsFit part old.hits old.sent.words →
    n ≤ part_ticks old.hits old.sent.words → burst_end old.burst ≡ old.sent.start + part_ticks old.hits old.sent.words → old.sent.start + n ≡ start →
    old.sent.start + shown_beside old n (is_valid slots) ≡ superseded_end old start slots
shown-ends part old start n slots fits within at begins =
    shown-end old start n slots (is_valid slots) refl (by-itself part old n fits within) at begins

-- ---- a valid first word ends the answer before its command does

over-by : (old : ShownAnswer) (start rest : ℕ) (slots : List (Option Word)) → old.burst.start ≤ start → is_valid slots ≡ true →
    burst_end (first_ticks old (superseded_end old start slots - old.burst.start)) ≤ start + (40 * length slots + rest)
over-by old start rest [] from valid = absurd (true≢false (sym valid))
over-by old start rest (None ∷ slots) from valid = absurd (true≢false (sym valid))
over-by old start rest (Some word ∷ slots) from valid =
    let m = superseded_end old start (Some word ∷ slots) - old.burst.start in
    let most : superseded_end old start (Some word ∷ slots) ≤ start + 40 = omega arith in
    let taken : length (take ((superseded_end old start (Some word ∷ slots) - old.burst.start) / 40) old.burst.slots)
    ≡ min ((superseded_end old start (Some word ∷ slots) - old.burst.start) / 40) (length old.burst.slots) =
    length-take ((superseded_end old start (Some word ∷ slots) - old.burst.start) / 40) old.burst.slots in
    omega (arith, from, most, taken)

pub valid-over : (old : ShownAnswer) (command : ShownBurst) → old.burst.start ≤ command.start → is_valid command.slots ≡ true →
    burst_end (beside_command command old) ≤ burst_end command
valid-over old command from valid = over-by old command.start command.rest command.slots from valid
