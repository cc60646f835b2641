-- An answer is read by its first 34 slots: one with more is bad either way, since none that is due has more than 33.
use Rattle.std.proofs.Common.{◌≡◌, ℕ, zero, suc, ◌<◌, ◌≤◌, ◌==◌, ◌&&◌, List, [], ◌∷◌, length, take, filter_map, Option, Some, None, refl, sym, ap, ◌∙◌, arith, inl, inr, min}
use Rattle.std.specs.List.{cons_option}
use Rattle.std.proofs.lemmas.Bool.{cases_Bool, cases_lt}
use Rattle.std.proofs.lemmas.List.{take_all, length-take}
use Rattle.bus_base.specs.declared.samples.Part.{Part}
use Rattle.bus_base.specs.declared.samples.Part.TheVariants as parts
use Rattle.bus_words.specs.declared.word.Word.{Word}
use Rattle.bus_words.specs.declared.word.Sync.{Sync}
use Rattle.bus_words.specs.declared.word.Sync.TheVariants.{Command, Datum}
use Rattle.bus_formats.specs.Accepted.{HasKindRanges}
use Rattle.bus_formats.specs.Codes.{dynamic_bus_control, transmit_status_word, carried}
use Rattle.bus_formats.specs.Forms.{answers_of, answer_of, mode_count}
use Rattle.bus_formats.specs.Readings.{command_with, datum_with, command_in, datum_in, data_in, word_before, status_alone, status_full, status_before, bad_reply, read_by, read_shape, read_answer, shape_in}
use Rattle.bus_formats.specs.declared.form.Shape.{Shape}
use Rattle.bus_formats.specs.declared.form.Carries.{Carries}
use Rattle.bus_formats.specs.declared.form.Carries.TheVariants.{Nothing, FromTerminal, ToTerminal}
use Rattle.bus_formats.specs.declared.form.Reading.TheVariants.{Good}
use Rattle.bus_formats.specs.declared.plan.Kind.{Kind}
use Rattle.bus_formats.specs.declared.plan.Kind.TheVariants.{Receive, Transmit, Relay, Mode}
use Rattle.bus_model.specs.Attempts.{kept_words}

-- without a status an answer is bad
none-bad : (part : Part) (kind : Kind) → read_by part kind None None ≡ bad_reply part
none-bad part (Receive to sub words) = refl
none-bad part (Transmit from sub count) = refl
none-bad part (Relay from from_sub to to_sub count) = refl
none-bad part (Mode to mode_sub transmit code word) = elim (cases_Bool (code == dynamic_bus_control)) [
  | inl offer ↦ rw offer refl
  | inr other ↦ elim (cases_Bool (transmit && (code == transmit_status_word))) [
    | inl asked ↦ rw (other, asked) refl
    | inr plain ↦ rw (other, plain) refl
  ]
]

before-none : (o : Option ℕ) → word_before o None ≡ None
before-none None = refl
before-none (Some w) = refl

-- more data words than are due are none
long-data : (n : ℕ) (slots : List (Option Word)) → n < length slots → data_in n slots ≡ None
long-data zero [] h = absurd (omega (arith, h))
long-data zero (slot ∷ slots) h = refl
long-data (suc n) [] h = absurd (omega (arith, h))
long-data (suc n) (slot ∷ slots) h = rw (long-data n slots (omega (arith, h))) (before-none (datum_in slot))

long-alone : (shape : Shape) (slots : List (Option Word)) (rest : ℕ) → 2 ≤ length slots → status_alone shape slots rest ≡ None
long-alone shape [] rest h = absurd (omega (arith, h))
long-alone shape (slot ∷ []) rest h = absurd (omega (arith, h))
long-alone shape (slot ∷ other ∷ slots) rest h = refl

long-full : (shape : Shape) (slots : List (Option Word)) (rest : ℕ) → suc shape.count < length slots → status_full shape slots rest ≡ None
long-full shape [] rest h = refl
long-full shape (slot ∷ slots) zero h = rw (long-data shape.count slots (omega (arith, h))) refl
long-full shape (slot ∷ slots) (suc rest) h = refl

-- an answer that is due has at most 32 data words
answer-few : (address count : ℕ) (shape : Shape) → count ≤ 32 → answer_of address count ≡ Some shape → shape.count ≤ 32
answer-few address count shape few h = elim (cases_Bool (address == 31)) [
  | inl all ↦ (
      let none : answer_of address count ≡ None = rw all refl in
      let bad : None ≡ Some shape = sym none ∙ h in cc)
  | inr one ↦ (
      let some : answer_of address count ≡ Some record { address = address; count = count } = rw one refl in
      let is : Some record { address = address; count = count } ≡ Some shape = sym some ∙ h in
      let same : record { address = address; count = count } ≡ shape = cc in
      let at : count ≡ shape.count = ap (λ (s : Shape). s.count) same in
      omega (arith, at, few))
]

no-shape : (shape : Shape) → None ≡ Some shape → shape.count ≤ 32
no-shape shape h = cc

mode-few : (carries : Carries) → mode_count carries ≤ 32
mode-few Nothing = omega arith
mode-few FromTerminal = omega arith
mode-few ToTerminal = omega arith

shape-few : (kind : Kind) (part : Part) (shape : Shape) → HasKindRanges kind → shape_in part (answers_of kind) ≡ Some shape → shape.count ≤ 32
shape-few kind parts.Command shape ranges h = no-shape shape h
shape-few (Receive to sub words) parts.First shape ranges h = answer-few to 0 shape (omega arith) h
shape-few (Receive to sub words) parts.Second shape ranges h = no-shape shape h
shape-few (Transmit from sub count) parts.First shape ranges h = answer-few from count shape (let few = ranges.words.1 in omega (arith, few)) h
shape-few (Transmit from sub count) parts.Second shape ranges h = no-shape shape h
shape-few (Relay from from_sub to to_sub count) parts.First shape ranges h = answer-few from count shape (let few = ranges.0.words.1 in omega (arith, few)) h
shape-few (Relay from from_sub to to_sub count) parts.Second shape ranges h = answer-few to 0 shape (omega arith) h
shape-few (Mode to mode_sub transmit code word) parts.First shape ranges h = answer-few to (mode_count (carried transmit code)) shape (mode-few (carried transmit code)) h
shape-few (Mode to mode_sub transmit code word) parts.Second shape ranges h = no-shape shape h

-- a long answer is bad
long-shape : (part : Part) (kind : Kind) (o : Option Shape) (slots : List (Option Word)) (rest : ℕ) → ((shape : Shape) → o ≡ Some shape → shape.count ≤ 32) → 34 ≤ length slots →
    read_shape part kind o slots rest ≡ bad_reply part
long-shape part kind None slots rest few long = refl
long-shape part kind (Some shape) slots rest few long =
    let short = few shape refl in
    rw (long-alone shape slots rest (omega (arith, long)), long-full shape slots rest (omega (arith, long, short))) (none-bad part kind)

pub long-bad : (part : Part) (kind : Kind) (slots : List (Option Word)) (rest : ℕ) → HasKindRanges kind → 34 ≤ length slots → read_answer kind part slots rest ≡ bad_reply part
long-bad part kind slots rest ranges long = long-shape part kind (shape_in part (answers_of kind)) slots rest (λ shape h. shape-few kind part shape ranges h) long

-- the first 34 slots tell as much as all
pub read-same : (part : Part) (kind : Kind) (slots : List (Option Word)) (rest : ℕ) → HasKindRanges kind → read_answer kind part (take 34 slots) rest ≡ read_answer kind part slots rest
read-same part kind slots rest ranges = elim (cases_lt 34 (length slots)) [
  | inr few ↦ ap (λ (xs : List (Option Word)). read_answer kind part xs rest) (take_all 34 slots few)
  | inl many ↦ (
      let long : length (take 34 slots) ≡ min 34 (length slots) = length-take 34 slots in
      long-bad part kind (take 34 slots) rest ranges (omega (arith, long, many)) ∙ sym (long-bad part kind slots rest ranges (omega (arith, many))))
]

-- ---- the words of a good answer

bad-good : (part : Part) (status : ℕ) → bad_reply part ≡ Good status → ⊥
bad-good part status h = cc

-- a slot with a data word has no status
with-datum : (sync : Sync) (bits w : ℕ) → datum_with sync bits ≡ Some w → command_with sync bits ≡ None
with-datum Command bits w h = cc
with-datum Datum bits w h = refl

datum-none : (slot : Option Word) (w : ℕ) → datum_in slot ≡ Some w → command_in slot ≡ None
datum-none None w h = cc
datum-none (Some word) w h = with-datum word.sync word.bits w h

alone-none : (shape : Shape) (slot : Option Word) (slots : List (Option Word)) (rest : ℕ) → command_in slot ≡ None → status_alone shape (slot ∷ slots) rest ≡ None
alone-none shape slot [] zero h = rw h refl
alone-none shape slot [] (suc rest) h = refl
alone-none shape slot (other ∷ slots) rest h = refl

full-before : (o : Option (List ℕ)) → status_before None o ≡ None
full-before None = refl
full-before (Some words) = refl

full-none : (shape : Shape) (slot : Option Word) (slots : List (Option Word)) (rest : ℕ) → command_in slot ≡ None → status_full shape (slot ∷ slots) rest ≡ None
full-none shape slot slots zero h = rw h (full-before (data_in shape.count slots))
full-none shape slot slots (suc rest) h = refl

-- a good answer begins with a slot that isn't a data word
good-shape : (part : Part) (kind : Kind) (o : Option Shape) (slot : Option Word) (slots : List (Option Word)) (rest status w : ℕ) → datum_in slot ≡ Some w →
    read_shape part kind o (slot ∷ slots) rest ≡ Good status → ⊥
good-shape part kind None slot slots rest status w datum h = bad-good part status h
good-shape part kind (Some shape) slot slots rest status w datum h =
    let none : command_in slot ≡ None = datum-none slot w datum in
    let is : read_shape part kind (Some shape) (slot ∷ slots) rest ≡ bad_reply part =
    rw (alone-none shape slot slots rest none, full-none shape slot slots rest none) (none-bad part kind) in
    bad-good part status (sym is ∙ h)

filtered-few : (slots : List (Option Word)) → length (filter_map datum_in slots) ≤ length slots
filtered-few [] = omega arith
filtered-few (slot ∷ slots) = elim (datum_in slot) as (λ o. length (cons_option o (filter_map datum_in slots)) ≤ suc (length slots)) [
  | None ↦ (let rest = filtered-few slots in omega (arith, rest))
  | Some w ↦ (let rest = filtered-few slots in omega (arith, rest))
]

good-words : (part : Part) (kind : Kind) (slots : List (Option Word)) (rest status : ℕ) → length slots ≤ 33 → read_answer kind part slots rest ≡ Good status →
    length (filter_map datum_in slots) ≤ 32
good-words part kind [] rest status few h = omega arith
good-words part kind (slot ∷ slots) rest status few h = elim (datum_in slot) as (λ o. datum_in slot ≡ o → length (cons_option o (filter_map datum_in slots)) ≤ 32) [
  | None ↦ λ e. (let less = filtered-few slots in omega (arith, less, few))
  | Some w ↦ λ e. absurd (good-shape part kind (shape_in part (answers_of kind)) slot slots rest status w e h)
] refl

kept-few : (kind : Kind) (slots : List (Option Word)) → length (filter_map datum_in slots) ≤ 32 → length (kept_words kind slots) ≤ 32
kept-few (Receive to sub words) slots few = few
kept-few (Transmit from sub count) slots few = few
kept-few (Relay from from_sub to to_sub count) slots few = omega arith
kept-few (Mode to mode_sub transmit code word) slots few = few

-- so they are kept whole
pub kept-same : (kind : Kind) (slots : List (Option Word)) (rest status : ℕ) → HasKindRanges kind → read_answer kind parts.First slots rest ≡ Good status →
    take 32 (kept_words kind (take 34 slots)) ≡ kept_words kind slots
kept-same kind slots rest status ranges h = elim (cases_lt 33 (length slots)) [
  | inl long ↦ absurd (bad-good parts.First status (sym (long-bad parts.First kind slots rest ranges (omega (arith, long))) ∙ h))
  | inr few ↦ (
      let all : take 34 slots ≡ slots = take_all 34 slots (omega (arith, few)) in
      rw all (take_all 32 (kept_words kind slots) (kept-few kind slots (good-words parts.First kind slots rest status few h))))
]
