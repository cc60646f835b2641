-- The answer to a burst as it begins: which station sends it, which hits strike it, and that no other one owes an answer or finds a command in it.
use Rattle.std.proofs.Common.{◌≡◌, ◌≢◌, ◌⊎◌, inl, inr, ℕ, zero, suc, ◌<◌, true, List, [], ◌∷◌, length, get_or, map, Option, Some, None, refl, sym, ap, ◌∙◌, subst, arith, All}
use Rattle.std.proofs.lemmas.Bool.{cases_lt}
use Rattle.std.proofs.lemmas.List.{length-map}
use Rattle.std.proofs.lemmas.List.Elements.{All-head, All-tail, All-nil, All-cons}
use Rattle.std.proofs.lemmas.Option.{none-some, same_Some}
use Rattle.std.specs.Option.{option_or}
use Rattle.std.specs.Prelude.{AllPairs, slice_get}
use Rattle.bus_base.specs.declared.samples.Part.{Part}
use Rattle.bus_words.specs.declared.word.Word.{Word}
use Rattle.bus_formats.specs.Accepted.{AreWords, IsAccepted}
use Rattle.bus_formats.specs.Forms.{command_word, data_word}
use Rattle.bus_formats.specs.Plans.{StationData, PlanData}
use Rattle.bus_formats.specs.declared.fault.Hit.{Hit}
use Rattle.bus_model.specs.Message.{After, address_of_station, answer_for, answer_to}
use Rattle.bus_model.specs.Orders.{Duty, free, owes, promises, last_order, due_after}
use Rattle.bus_model.specs.Standing.{is_owed}
use Rattle.bus_model.specs.Strikes.{hits_on, struck, ShownBurst, burst_end, Answer, ShownAnswer, shown_answer, shown_with}
use Rattle.bus_law_duties.specs.Duties.{AtMostOneOwes}
use Rattle.bus_law_duties.specs.Words.{with_data}
use Rattle.bus_law_duties.proofs.Answering.{only-owed}
use Rattle.bus_law_duties.proofs.Found.{answer-unaddressed}
use Rattle.bus_law_parts.specs.Parts.{HitsFit}
use Rattle.bus_law_parts.proofs.Fits.{hits-fit}
use Rattle.bus_law_phases.specs.Pairing.{Beside}
use Rattle.bus_law_phases.specs.Answers.{IsStatusWithData}

-- ---- what is shown of an answer

-- an answer as it is sent, the hits that strike it, and its burst
pub record IsShownBy (hits : List Hit) (o : Option Answer) (shown : ShownAnswer) : Type 0 where
  pub sent : o ≡ Some shown.sent
  pub hits_are : hits ≡ shown.hits
  pub burst : shown.burst
      ≡ record { channel = shown.sent.channel; start = shown.sent.start; slots = struck shown.hits shown.sent.words; rest = 0 }
  pub some : 0 < length (struck shown.hits shown.sent.words)

by-slots : (hits : List Hit) (answer : Answer) (slots : List (Option Word)) (shown : ShownAnswer) → struck hits answer.words ≡ slots →
    shown_with hits answer slots ≡ Some shown → IsShownBy hits (Some answer) shown
by-slots hits answer [] shown is found = absurd (none-some shown found)
by-slots hits answer (slot ∷ slots) shown is found =
    let same = same_Some _ shown found in
    let many : length (struck hits answer.words) ≡ suc (length slots) = ap (λ (xs : List (Option Word)). length xs) is in
    subst (IsShownBy hits (Some answer)) same record {
      sent = refl;
      hits_are = refl;
      burst = ap (λ xs. record { channel = answer.channel; start = answer.start; slots = xs; rest = 0 }) (sym is);
      some = omega (arith, many);
    }

pub shown-by : (hits : List Hit) (o : Option Answer) (shown : ShownAnswer) → shown_answer hits o ≡ Some shown → IsShownBy hits o shown
shown-by hits None shown found = absurd (none-some shown found)
shown-by hits (Some answer) shown found = by-slots hits answer (struck hits answer.words) shown refl found

-- ---- its words, and its hits

all-data : (data_words : List ℕ) → AreWords data_words → All (λ (word : Word). word.bits < 65536) (map data_word data_words)
all-data [] fits = All-nil (λ (word : Word). word.bits < 65536)
all-data (x ∷ xs) fits =
    All-cons (λ (word : Word). word.bits < 65536) (data_word x) (map data_word xs) (All-head (λ w. w < 65536) x xs fits)
    (all-data xs (All-tail (λ w. w < 65536) x xs fits))

pub answer-fits : (plan : PlanData) (attempt : ℕ) (part : Part) (answer : Answer) → IsAccepted plan → IsStatusWithData answer →
    HitsFit part (hits_on plan.faults attempt part) answer.words
answer-fits plan attempt part answer accepted is =
    let many : length (map data_word is.data_words) ≡ length is.data_words = length-map is.data_words data_word in
    subst (HitsFit part (hits_on plan.faults attempt part)) (sym is.words_are)
    (hits-fit plan attempt part (with_data is.status is.data_words) accepted (omega arith) (let few = is.few in omega (arith, many, few))
    (All-cons (λ (word : Word). word.bits < 65536) (command_word is.status) (map data_word is.data_words) is.bits (all-data is.data_words is.fits)))

-- ---- who sends it

pub either-of : {X : Type 0} (o later : Option X) (x : X) → option_or o later ≡ Some x → (o ≡ Some x) ⊎ (later ≡ Some x)
either-of None later x is = inr is
either-of (Some y) later x is = inl is

-- the item beside the one that has the answer
pub answer-beside : {X : Type 0} (R : X → After → Type 0) (burst : ShownBurst) (xs : List X) (afters : List After) (answer : Answer) → Beside R xs afters →
    answer_to burst afters ≡ Some answer → (x : X) × (after : After) × R x after × (answer_for burst after after.duty ≡ Some answer)
answer-beside R burst [] [] answer pairs found = absurd (none-some answer found)
answer-beside R burst [] (after ∷ afters) answer pairs found = absurd pairs
answer-beside R burst (x ∷ xs) [] answer pairs found = absurd pairs
answer-beside R burst (x ∷ xs) (after ∷ afters) answer pairs found =
    elim (either-of (answer_for burst after after.duty) (answer_to burst afters) answer found) [
      | inl own ↦ (x, after, pairs.0, own)
      | inr later ↦ answer-beside R burst xs afters answer pairs.1 later
    ]

-- who owes it
pub record Owed (burst : ShownBurst) (after : After) (answer : Answer) : Type 0 where
  pub duty : after.duty ≡ owes answer.words answer.acceptance
  pub address : answer.address ≡ address_of_station after.station
  pub channel : answer.channel ≡ burst.channel
  pub start : answer.start ≡ due_after after.station.plan.terminal (burst_end burst)

owed-by : (burst : ShownBurst) (after : After) (duty : Duty) (answer : Answer) → after.duty ≡ duty → answer_for burst after duty ≡ Some answer →
    Owed burst after answer
owed-by burst after free answer is found = absurd (none-some answer found)
owed-by burst after (promises command transmitter) answer is found = absurd (none-some answer found)
owed-by burst after (owes words acceptance) answer is found =
    subst (Owed burst after) (same_Some _ answer found) record { duty = is; address = refl; channel = refl; start = refl }

pub owed-of : (burst : ShownBurst) (after : After) (answer : Answer) → answer_for burst after after.duty ≡ Some answer → Owed burst after answer
owed-of burst after answer found = owed-by burst after after.duty answer refl found

-- each one that owes an answer owes this one
abbrev pub OwesIt : Answer → After → Type 0
OwesIt answer after = is_owed after.duty ≡ true → address_of_station after.station ≡ answer.address

-- an element is the one at its place, whatever is given otherwise
pub same-default : (xs : List After) (i : ℕ) (d : After) → i < length xs → get_or xs i (get_or xs i d) ≡ get_or xs i d
same-default [] i d inside = absurd (omega (arith, inside))
same-default (x ∷ xs) zero d inside = refl
same-default (x ∷ xs) (suc i) d inside = same-default xs i d (omega (arith, inside))

pub all-owe-it : (burst : ShownBurst) (afters : List After) (answer : Answer) → AtMostOneOwes afters → answer_to burst afters ≡ Some answer →
    All (OwesIt answer) afters
all-owe-it burst afters answer one found = λ i d inside owed.
    let after : After = get_or afters i d in
    let is : answer_to burst afters ≡ answer_for burst (get_or afters i d) (get_or afters i d).duty =
    only-owed burst afters (get_or afters i d) one (i, inside, same-default afters i d inside) owed in
    sym (owed-of burst after answer (sym is ∙ found)).address

-- ---- addresses apart

address-at : (xs : List StationData) (i : ℕ) (x : StationData) (d : ℕ) → slice_get xs i ≡ Some x →
    (i < length xs) × (get_or (map (λ (s : StationData). s.terminal.address) xs) i d ≡ x.terminal.address)
address-at [] i x d there = absurd (none-some x there)
address-at (y ∷ ys) zero x d there = (omega arith, ap (λ (s : StationData). s.terminal.address) (same_Some y x there))
address-at (y ∷ ys) (suc i) x d there = let rest = address-at ys i x d there in (let low = rest.0 in omega (arith, low), rest.1)

before-apart : (xs : List StationData) (i j : ℕ) (x y : StationData) → AllPairs (λ a b. a ≢ b) (map (λ (s : StationData). s.terminal.address) xs) →
    slice_get xs i ≡ Some x → slice_get xs j ≡ Some y → i < j → x.terminal.address ≢ y.terminal.address
before-apart xs i j x y pairs first second low same =
    let a = address-at xs i x 0 first in
    let b = address-at xs j y 0 second in
    let many : length (map (λ (s : StationData). s.terminal.address) xs) ≡ length xs = length-map xs (λ (s : StationData). s.terminal.address) in
    let within = b.0 in pairs i j 0 low (omega (arith, within, many)) (a.1 ∙ same ∙ sym b.1)

-- stations at two places have two addresses
pub addresses-apart : (plan : PlanData) (i j : ℕ) (x y : StationData) → IsAccepted plan → slice_get plan.stations i ≡ Some x →
    slice_get plan.stations j ≡ Some y → i ≢ j → x.terminal.address ≢ y.terminal.address
addresses-apart plan i j x y accepted first second other same = elim (cases_lt i j) [
  | inl low ↦ before-apart plan.stations i j x y accepted.apart first second low same
  | inr high ↦ before-apart plan.stations j i y x accepted.apart second first (omega (arith, high, other)) (sym same)
]

-- ---- no other terminal finds a command in it

pub not-for : (hits : List Hit) (answer : Answer) (own : ℕ) → IsStatusWithData answer → own ≢ answer.address → last_order own (struck hits answer.words) ≡ None
not-for hits answer own is other =
    ap (λ ws. last_order own (struck hits ws)) is.words_are
    ∙ answer-unaddressed hits is.status own is.data_words (λ same. other (sym same ∙ is.address)) (λ same. is.terminal (sym is.address ∙ same))
