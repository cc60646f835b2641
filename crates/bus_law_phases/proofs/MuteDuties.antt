-- Who sends the answer to a burst, in the list of the table: one entry owes it, and each other one owes nothing.
use Rattle.std.proofs.Common.{◌≡◌, ◌≢◌, ◌⊎◌, inl, inr, ℕ, suc, ◌+◌, ◌≤◌, true, false, List, [], ◌∷◌, length, map, Option, Some, None, refl, sym, ap, ◌∙◌, subst, arith}
use Rattle.std.proofs.lemmas.Bool.{true≢false}
use Rattle.std.proofs.lemmas.List.Elements.{All-nil, All-cons}
use Rattle.std.proofs.lemmas.Option.{none-some, same_Some}
use Rattle.std.specs.List.{All, AllPairs}
use Rattle.std.specs.Option.{option_or}
use Rattle.bus_formats.specs.Accepted.{IsAccepted, HasStationRanges}
use Rattle.bus_formats.specs.Plans.{StationData, PlanData}
use Rattle.bus_formats.specs.Times.{no_response}
use Rattle.bus_formats.specs.declared.fault.Hit.{Hit}
use Rattle.bus_model.specs.Memory.{TimedLoad}
use Rattle.bus_model.specs.Message.{After, address_of_station, answer_for, answer_to, after_silence_of, after_silence}
use Rattle.bus_model.specs.Orders.{Duty, free, owes, promises, due_after}
use Rattle.bus_model.specs.Standing.{is_owed}
use Rattle.bus_model.specs.Strikes.{ShownBurst, burst_end, Answer, struck, shown_with, shown_answer}
use Rattle.bus_words.specs.declared.word.Word.{Word}
use Rattle.bus_law_parts.specs.Parts.{part_ticks}
use Rattle.bus_law_table.proofs.Pairing.{Each}
use Rattle.std.specs.Prelude.{slice_get}
use Rattle.bus_base.specs.declared.samples.Part.{Part}
use Rattle.bus_base.specs.declared.samples.Part.TheVariants.{Command, First, Second}
use Rattle.bus_law_line.specs.Senders.{attempt_to_come}
use Rattle.bus_law_phases.specs.Scenarios.{Scenario, driven_at, commands_in}
use Rattle.bus_law_phases.specs.Pairing.{Beside}
use Rattle.bus_law_phases.specs.Mutes.{answered_by, answered}
use Rattle.bus_law_phases.proofs.Pairs.{each-of}
use Rattle.bus_law_phases.proofs.Spares.{all-at}

-- ---- one entry

-- an entry that owes this answer
pub record IsOwing (burst : ShownBurst) (answer : Answer) (after : After) : Type 0 where
  pub duty : after.duty ≡ owes answer.words answer.acceptance
  pub start : answer.start ≡ due_after after.station.plan.terminal (burst_end burst)
  pub address : answer.address ≡ address_of_station after.station

owing-by : (burst : ShownBurst) (after : After) (duty : Duty) (answer : Answer) → after.duty ≡ duty → answer_for burst after duty ≡ Some answer →
    IsOwing burst answer after
owing-by burst after free answer is found = absurd (none-some answer found)
owing-by burst after (promises command transmitter) answer is found = absurd (none-some answer found)
owing-by burst after (owes words acceptance) answer is found =
    subst (λ a. IsOwing burst a after) (same_Some _ answer found) record { duty = is; start = refl; address = refl }

pub owing-of : (burst : ShownBurst) (after : After) (answer : Answer) → answer_for burst after after.duty ≡ Some answer → IsOwing burst answer after
owing-of burst after answer found = owing-by burst after after.duty answer refl found

-- an entry that owes something owes this answer
abbrev pub OwesThis : ShownBurst → Answer → After → Type 0
OwesThis burst answer after = is_owed after.duty ≡ true → IsOwing burst answer after

either-of : {X : Type 0} (o later : Option X) (x : X) → option_or o later ≡ Some x → (o ≡ Some x) ⊎ ((o ≡ None) × (later ≡ Some x))
either-of None later x is = inr (refl, is)
either-of (Some y) later x is = inl is

not-owing : (burst : ShownBurst) (after : After) (duty : Duty) → answer_for burst after duty ≡ None → is_owed duty ≡ false
not-owing burst after free none = refl
not-owing burst after (promises command transmitter) none = refl
not-owing burst after (owes words acceptance) none = absurd (none-some _ (sym none))

-- ---- the list

-- the item beside the entry that owes it
pub owing-beside : {X : Type 0} (R : X → After → Type 0) (burst : ShownBurst) (xs : List X) (afters : List After) (answer : Answer) → Beside R xs afters →
    answer_to burst afters ≡ Some answer → (x : X) × (after : After) × R x after × IsOwing burst answer after
owing-beside R burst [] [] answer pairs found = absurd (none-some answer found)
owing-beside R burst [] (y ∷ ys) answer pairs found = absurd pairs
owing-beside R burst (x ∷ xs) [] answer pairs found = absurd pairs
owing-beside R burst (x ∷ xs) (y ∷ ys) answer pairs found = elim (either-of (answer_for burst y y.duty) (answer_to burst ys) answer found) [
  | inl own ↦ (x, y, pairs.0, owing-of burst y answer own)
  | inr later ↦ owing-beside R burst xs ys answer pairs.1 later.1
]

abbrev OnePair : After → After → Type 0
OnePair a b = is_owed a.duty ≡ true → is_owed b.duty ≡ false

each-so : {X : Type 0} (P Q : X → Type 0) (xs : List X) → Each P xs → ((x : X) → P x → Q x) → Each Q xs
each-so P Q [] each make = tt
each-so P Q (x ∷ xs) each make = (make x each.0, each-so P Q xs each.1 make)

pub all-owe-this : (burst : ShownBurst) (afters : List After) (answer : Answer) → AllPairs OnePair afters → answer_to burst afters ≡ Some answer →
    Each (OwesThis burst answer) afters
all-owe-this burst [] answer one found = tt
all-owe-this burst (a ∷ others) answer one found = elim (either-of (answer_for burst a a.duty) (answer_to burst others) answer found) [
  | inl own ↦ (let owing = owing-of burst a answer own in (
    λ owed. owing,
    each-so (OnePair a) (OwesThis burst answer) others (each-of (OnePair a) others (λ j d within. one 0 (suc j) d (omega arith) (omega (arith, within))))
        (λ b none owed. absurd (true≢false (sym owed ∙ none (ap is_owed owing.duty)))),
  ))
  | inr later ↦ (
    λ owed. absurd (true≢false (sym owed ∙ not-owing burst a a.duty later.0)),
    all-owe-this burst others answer (λ i j d before within. one (suc i) (suc j) d (omega (arith, before)) (omega (arith, within))) later.1,
  )
]

-- ---- an answer that nothing is shown of

by-slots : (hits : List Hit) (answer : Answer) (slots : List (Option Word)) → shown_with hits answer slots ≡ None → length slots ≡ 0
by-slots hits answer [] none = refl
by-slots hits answer (slot ∷ slots) none = absurd (none-some _ (sym none))

pub mute-part : (hits : List Hit) (o : Option Answer) (answer : Answer) → o ≡ Some answer → shown_answer hits o ≡ None → part_ticks hits answer.words ≡ 0
mute-part hits None answer found none = absurd (none-some answer found)
mute-part hits (Some a) answer found none =
    let same : a ≡ answer = same_Some a answer found in
    let slots : length (struck hits a.words) ≡ 0 = by-slots hits a (struck hits a.words) none in
    subst (λ (x : Answer). part_ticks hits x.words ≡ 0) same (omega (arith, slots))

-- ---- when it is due

-- an answer is due so early that four ticks of it are over before the station in control knows that none came
pub due-early : (plan : PlanData) (place : ℕ) (station : StationData) (e : ℕ) → IsAccepted plan → slice_get plan.stations place ≡ Some station →
    due_after station.terminal e + 4 ≤ e + no_response
due-early plan place station e accepted there =
    let ranges = all-at HasStationRanges plan.stations place station accepted.ranges there in
    let most = ranges.terminal.delay.1 in omega (arith, most)

-- ---- what becomes of the entries

answered-silence : (k : ℕ) (loads : List TimedLoad) (burst : ShownBurst) (after : After) (duty : Duty) → after.duty ≡ duty →
    after_silence k loads burst (answered_by after duty) ≡ after_silence_of k loads burst after.station duty
answered-silence k loads burst after free is = ap (after_silence_of k loads burst after.station) is
answered-silence k loads burst after (owes words acceptance) is = refl
answered-silence k loads burst after (promises command transmitter) is = ap (after_silence_of k loads burst after.station) is

-- promises run out others they do where no answer began
pub silence-answered : (k : ℕ) (loads : List TimedLoad) (burst : ShownBurst) (afters : List After) →
    map (after_silence k loads burst) (map answered afters) ≡ map (after_silence k loads burst) afters
silence-answered k loads burst [] = refl
silence-answered k loads burst (a ∷ others) =
    ap (λ x. x ∷ map (after_silence k loads burst) (map answered others)) (answered-silence k loads burst a a.duty refl)
    ∙ ap (λ xs. after_silence k loads burst a ∷ xs) (silence-answered k loads burst others)

-- who owed an answer owes it no more, and nobody else owed one
answered-owes : (after : After) (duty : Duty) → after.duty ≡ duty → is_owed (answered_by after duty).duty ≡ false
answered-owes after free is = ap is_owed is
answered-owes after (owes words acceptance) is = refl
answered-owes after (promises command transmitter) is = ap is_owed is

pub all-answered : (afters : List After) → All (λ after. is_owed after.duty ≡ false) (map answered afters)
all-answered [] = All-nil (λ after. is_owed after.duty ≡ false)
all-answered (a ∷ afters) =
    All-cons (λ after. is_owed after.duty ≡ false) (answered a) (map answered afters) (answered-owes a a.duty refl) (all-answered afters)

-- ---- its attempt

-- an answer belongs to the attempt that runs
pub answer-attempt : (w : Scenario) (t : ℕ) (part : Part) → part ≢ Command → attempt_to_come w.plan.faults part (driven_at w t) ≡ commands_in w (driven_at w t)
answer-attempt w t Command other = absurd (other refl)
answer-attempt w t First other = omega arith
answer-attempt w t Second other = omega arith
