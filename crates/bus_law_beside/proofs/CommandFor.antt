-- The command that supersedes an answer: it is for the terminal that sends that alone, and counts from the last tick of its first word on.
use Rattle.std.proofs.Common.{◌≡◌, ◌≢◌, inl, inr, ℕ, suc, ◌+◌, ◌-◌, ◌<◌, ◌≤◌, Bool, true, false, List, [], ◌∷◌, ◌++◌, length, take, Option, Some, None, refl, sym, ap, ◌∙◌, subst, arith, length-append}
use Rattle.std.proofs.lemmas.Bool.{cases_eq, true≢false}
use Rattle.std.proofs.lemmas.Option.{same_Some}
use Rattle.std.specs.Prelude.{slice_get, is_some, drop}
use Rattle.bus_base.specs.declared.samples.Channel.{Channel}
use Rattle.bus_base.specs.declared.samples.Part.TheVariants.{Command}
use Rattle.bus_base.specs.declared.samples.Sample.{Sample}
use Rattle.bus_words.specs.Fields.{address_of}
use Rattle.bus_words.specs.declared.word.Word.{Word}
use Rattle.bus_line.specs.Past.{InLeg, quiet, stopped, runs, first_tick, burst_from}
use Rattle.bus_line.specs.Cutting.{running_slots}
use Rattle.bus_line.proofs.CollectLaws.{running-on}
use Rattle.bus_line.proofs.Legs.{runs-leg, first_tick-leg, quiet-append}
use Rattle.bus_line.proofs.LegSlots.{slots-leg}
use Rattle.bus_formats.specs.Accepted.{HasKindRanges, Supersedes, addresses_named}
use Rattle.bus_formats.specs.Forms.{command_word, command_words}
use Rattle.bus_formats.specs.Plans.{TerminalData}
use Rattle.bus_formats.specs.declared.fault.Hit.{Hit}
use Rattle.bus_formats.specs.declared.plan.Kind.{Kind}
use Rattle.bus_formats.specs.declared.plan.Kind.TheVariants.{Receive, Transmit, Relay, Mode}
use Rattle.bus_model.specs.Hearing.{Moment, heard_on}
use Rattle.bus_model.specs.Orders.{last_order, is_for}
use Rattle.bus_model.specs.Strikes.{struck}
use Rattle.bus_law_control.proofs.OtherChannel.{few-slots, order-stays}
use Rattle.bus_law_duties.proofs.Fields.{is_relay_kind, OneCommand, one-command, for-own}
use Rattle.bus_law_duties.proofs.Found.{answer-unaddressed}
use Rattle.bus_law_line.specs.Shown.{first_samples}
use Rattle.bus_law_line.proofs.Rows.{length-first}
use Rattle.bus_law_parts.specs.Parts.{HitsFit, part_ticks, part_sample}
use Rattle.bus_law_parts.proofs.PartBursts.{leg-part}
use Rattle.bus_law_parts.proofs.PartSlots.{slots-read}
use Rattle.bus_law_parts.proofs.Quiets.{quiet-part, run-words}
use Rattle.bus_law_parts.proofs.StruckSlots.{struck-slot}
use Rattle.bus_law_stations.proofs.LegTicks.{heard-append}
use Rattle.bus_law_beside.specs.Beside.{is_valid}

-- ---- whom it names

one-named : (kind : Kind) (address : ℕ) → Supersedes address kind → (is_relay_kind kind ≡ false) × (addresses_named kind ≡ address ∷ [])
one-named (Receive to sub words) address is = (refl, ap (λ n. n ∷ []) is)
one-named (Transmit from sub count) address is = (refl, ap (λ n. n ∷ []) is)
one-named (Relay from from_sub to to_sub count) address is = absurd is
one-named (Mode to mode_sub transmit code word) address is = (refl, ap (λ n. n ∷ []) is)

same-head : (m n : ℕ) → m ∷ [] ≡ n ∷ [] → m ≡ n
same-head m n same = cc

-- its command word is to this address
named-at : (kind : Kind) (address : ℕ) (one : OneCommand kind) → Supersedes address kind → address_of one.bits ≡ address
named-at kind address one is = one.at ∙ same-head one.address address (sym one.named ∙ (one-named kind address is).1)

pub command-of : (kind : Kind) (address : ℕ) → HasKindRanges kind → Supersedes address kind → OneCommand kind
command-of kind address ranges is = one-command kind ranges (one-named kind address is).0

-- no slot of it is for another terminal
pub not-for-another : (hits : List Hit) (kind : Kind) (address own : ℕ) → HasKindRanges kind → Supersedes address kind → own ≢ address → address ≢ 31 →
    last_order own (struck hits (command_words kind)) ≡ None
not-for-another hits kind address own ranges is other terminal =
    let one = command-of kind address ranges is in
    let at = named-at kind address one is in
    ap (λ ws. last_order own (struck hits ws)) one.words_are
    ∙ answer-unaddressed hits one.bits own one.data_words (λ same. other (sym same ∙ at)) (λ same. terminal (sym at ∙ same))

-- ---- its first word

valid-first : (slots : List (Option Word)) → is_valid slots ≡ true → (word : Word) × (later : List (Option Word)) × (slots ≡ Some word ∷ later)
valid-first [] valid = absurd (true≢false (sym valid))
valid-first (None ∷ slots) valid = absurd (true≢false (sym valid))
valid-first (Some word ∷ slots) valid = (word, slots, refl)

-- where it is valid it is the command word
first-slot : (hits : List Hit) (words : List Word) (bits : ℕ) (later : List Word) (slot : Option Word) → HitsFit Command hits words →
    words ≡ command_word bits ∷ later → slice_get (struck hits words) 0 ≡ Some slot → is_some slot ≡ true → slot ≡ Some (command_word bits)
first-slot hits words bits later slot fits is there some = elim (struck-slot Command hits words 0 slot fits there) [
  | inl own ↦ elim own.2 [
    | inl none ↦ absurd (true≢false (sym some ∙ ap is_some none))
    | inr whole ↦ whole ∙ ap Some (sym (same_Some (command_word bits) own.0 (sym (ap (λ ws. slice_get ws 0) is) ∙ own.1)))
  ]
  | inr added ↦ (
      let long : length words ≡ suc (length later) = ap (λ (ws : List Word). length ws) is in
      let none = added.0 in absurd (omega (arith, long, none)))
]

module _ (k : ℕ) (hits : List Hit) (kind : Kind) (address : ℕ) (three : k ≡ 3) (ranges : HasKindRanges kind) (is : Supersedes address kind)
    (fits : HitsFit Command hits (command_words kind)) (valid : is_valid (struck hits (command_words kind)) ≡ true) (terminal : address ≢ 31) where
  abbrev words : List Word
  words = command_words kind

  one : OneCommand kind
  one = command-of kind address ranges is

  first-is : (later : List (Option Word)) × (struck hits (command_words kind) ≡ Some (command_word one.bits) ∷ later)
  first-is =
      let some = valid-first (struck hits (command_words kind)) valid in
      let slot = first-slot hits (command_words kind) one.bits _ (Some some.0) fits one.words_are (ap (λ xs. slice_get xs 0) some.2) refl in
      (some.1, some.2 ∙ ap (λ s. s ∷ some.1) slot)

  for-it : is_for address one.bits ≡ true
  for-it = for-own address one.bits terminal (inl (named-at kind address one is))

  -- the first slot alone is a command for it
  ordered : is_some (last_order address (take 1 (struck hits (command_words kind)))) ≡ true
  ordered =
      let on = for-it in
      let all = first-is.1 in
      rw (all, on) refl

  long-enough : 40 ≤ part_ticks hits (command_words kind)
  long-enough = let long : length (struck hits (command_words kind)) ≡ suc (length first-is.0) = ap (λ (xs : List (Option Word)). length xs) first-is.1 in
      omega (arith, long)

  -- the slots of its first forty ticks
  forty : (past : List Sample) → runs k past ≡ false →
      running_slots k (first_samples (part_sample hits (command_words kind)) 40 ++ past) ≡ take 1 (struck hits (command_words kind))
  forty past none =
      let row = part_sample hits (command_words kind) in
      let leg = leg-part k Command hits (command_words kind) three fits (omega (arith, long-enough)) 40 (omega (arith, long-enough)) in
      let whole = first_samples (part_sample hits (command_words kind)) 40 ++ past in
      let still : quiet (first_samples (part_sample hits (command_words kind)) 40) ≡ 0 =
      quiet-part Command hits (command_words kind) fits 40 long-enough ∙ run-words Command hits (command_words kind) fits 1 in
      let long : length (first_samples (part_sample hits (command_words kind)) 40) ≡ 40 = length-first (part_sample hits (command_words kind)) 40 in
      let same : quiet (first_samples (part_sample hits (command_words kind)) 40 ++ past) ≡ quiet (first_samples (part_sample hits (command_words kind)) 40) =
      quiet-append (first_samples (part_sample hits (command_words kind)) 40) past (omega (arith, still, long)) in
      let all = length-append (first_samples (part_sample hits (command_words kind)) 40) past in
      let first : first_tick k (first_samples (part_sample hits (command_words kind)) 40 ++ past) ≡ length past =
      first_tick-leg k (part_sample hits (command_words kind) 39) (first_samples (part_sample hits (command_words kind)) 39) past none leg in
      let ticks : stopped (first_samples (part_sample hits (command_words kind)) 40 ++ past) - first_tick k (first_samples (part_sample hits (command_words kind)) 40 ++ past) ≡ 40 =
      omega (arith, all, long, same, still, first) in
      running-on k whole (runs-leg k (part_sample hits (command_words kind) 39) (first_samples (part_sample hits (command_words kind)) 39) past leg)
      ∙ ap (λ m. (burst_from whole (first_tick k whole) m).slots) ticks
      ∙ ap (λ m. (burst_from whole m 40).slots) first
      ∙ slots-leg [] (first_samples (part_sample hits (command_words kind)) 40) past 40 (omega (arith, long))
      ∙ slots-read Command hits (command_words kind) 40 fits long-enough

  module _ (t : TerminalData) (named : t.address ≡ address) (d : Channel) (heard : List Moment) (none : runs k (heard_on d heard) ≡ false) where
    abbrev Ordered : List Moment → Bool
    Ordered ticks = is_some (last_order t.address (running_slots k (heard_on d (ticks ++ heard))))

    abbrev IsRow : List Moment → Type 0
    IsRow ticks = heard_on d ticks ≡ first_samples (part_sample hits (command_words kind)) (length ticks)

    leg-of : (ticks : List Moment) → IsRow ticks → length ticks ≤ part_ticks hits (command_words kind) + k → InLeg k (heard_on d ticks)
    leg-of ticks row low =
        subst (λ xs. InLeg k xs) (sym row)
        (leg-part k Command hits (command_words kind) three fits (omega (arith, long-enough)) (length ticks) low)

    -- before its first word has ended there is no command
    pub not-yet : (ticks : List Moment) → IsRow ticks → length ticks < 40 → Ordered ticks ≡ false
    not-yet ticks row early =
        let many : length (heard_on d ticks) ≡ length ticks = ap (λ (xs : List Sample). length xs) row ∙ length-first (part_sample hits (command_words kind)) (length ticks) in
        ap (λ xs. is_some (last_order t.address (running_slots k xs))) (heard-append d ticks heard)
        ∙ ap (λ slots. is_some (last_order t.address slots)) (few-slots k (heard_on d ticks) (heard_on d heard) none
        (leg-of ticks row (omega (arith, early, long-enough))) (omega (arith, early, many)))

    -- from then on there is
    pub from-then : (ticks : List Moment) → IsRow ticks → 40 ≤ length ticks → length ticks ≤ part_ticks hits (command_words kind) + k →
        Ordered ticks ≡ true
    from-then [] row late low = absurd (omega (arith, late))
    from-then (now ∷ ticks) row late low = elim (cases_eq (length (now ∷ ticks)) 40) [
      | inl at ↦ ap (λ xs. is_some (last_order t.address (running_slots k xs))) (heard-append d (now ∷ ticks) heard)
          ∙ ap (λ xs. is_some (last_order t.address (running_slots k (xs ++ heard_on d heard))))
          (row ∙ ap (first_samples (part_sample hits (command_words kind))) at)
          ∙ ap (λ slots. is_some (last_order t.address slots)) (forty (heard_on d heard) none)
          ∙ ap (λ m. is_some (last_order m (take 1 (struck hits (command_words kind))))) named
          ∙ ordered
      | inr other ↦ order-stays k t d heard ticks now (omega (arith, three)) (leg-of (now ∷ ticks) row low)
          (from-then ticks (ap (λ (xs : List Sample). drop 1 xs) row) (omega (arith, late, other)) (omega (arith, low)))
    ]
