-- What the answers of a message are, and when they begin.
use Rattle.std.proofs.Common.{◌≡◌, ◌≢◌, ℕ, Bool, true, false, List, [], map, get_or, Option, Some, refl, sym, ◌∙◌, subst, All, arith}
use Rattle.std.proofs.lemmas.Bool.{true≢false}
use Rattle.std.proofs.lemmas.List.Elements.{All-map, All-contains, All-from_recursion}
use Rattle.std.proofs.lemmas.Option.{none-some, same_Some}
use Rattle.std.specs.List.{AllByRecursion as Each}
use Rattle.bus_base.specs.Positions.{IsBetween}
use Rattle.bus_base.specs.declared.samples.Channel.{Channel}
use Rattle.bus_words.specs.declared.word.Word.{Word}
use Rattle.bus_formats.specs.Accepted.{HasKindRanges, AreWords}
use Rattle.bus_formats.specs.Plans.{ItemData}
use Rattle.bus_formats.specs.declared.fault.Hit.{Hit}
use Rattle.bus_formats.specs.declared.plan.Kind.{Kind}
use Rattle.bus_formats.specs.declared.plan.Kind.TheVariants.{Receive, Transmit, Relay, Mode}
use Rattle.bus_model.specs.Attempts.{is_offer}
use Rattle.bus_model.specs.Memory.{TimedLoad}
use Rattle.bus_model.specs.Message.{Present, address_of_station, After, command_burst, after_command, after_answer, answer_for, answer_to}
use Rattle.bus_model.specs.Orders.{Duty, free, owes, promises}
use Rattle.bus_model.specs.Strikes.{ShownBurst, Answer, ShownAnswer, shown_answer}
use Rattle.bus_law_duties.specs.Duties.{IsAnswerOf, IsOnlyReceiver, IsAcceptance}
use Rattle.bus_law_duties.specs.Ranges.{HasPresentRanges, HasTimedLoadRanges}
use Rattle.bus_law_duties.proofs.Answering.{answer-found}
use Rattle.bus_law_duties.proofs.Owes.{who-owes}
use Rattle.bus_law_duties.proofs.Settled.{who-owes-answer}
use Rattle.bus_law_duties.proofs.Stays.{command-stays, answer-stays}
use Rattle.bus_law_plans.specs.Memories.{IsBlock, AreBlocks}
use Rattle.bus_law_plans.proofs.Answered.{shown-of}
use Rattle.bus_law_plans.proofs.Lists.{each-weaker}
use Rattle.bus_law_moments.specs.Begun.{IsRanged}
use Rattle.bus_law_told.specs.Tables.{IsAnswerTo, IsShownTo}

-- ---- ranges

-- the words of blocks
spelled : (blocks : List (List ℕ)) → Each IsBlock blocks → All AreWords blocks
spelled blocks each = All-from_recursion AreWords blocks (each-weaker IsBlock AreWords (λ words is. is.spelled) blocks each)

-- what a run keeps of a station is what its terminal may send
present-ranges : (station : Present) → IsRanged station → HasPresentRanges station
present-ranges station ranged = record {
  terminal = ranged.0;
  memory = record {
    last = ranged.1.memory.registers.last;
    received = spelled station.memory.received ranged.1.memory.received;
    transmit = spelled station.memory.transmit ranged.1.memory.transmit;
  };
}

all-present : (stations : List Present) → Each IsRanged stations → All HasPresentRanges stations
all-present stations each = All-from_recursion HasPresentRanges stations (each-weaker IsRanged HasPresentRanges present-ranges stations each)

-- blocks that are put up for sending have their words in range
pub loads-fit : (loads : List TimedLoad) → AreBlocks loads → All HasTimedLoadRanges loads
loads-fit loads each =
    All-from_recursion HasTimedLoadRanges loads (each-weaker (λ load. IsBlock load.words) HasTimedLoadRanges (λ load is. is.spelled) loads each)

-- ---- one answer

never-true : (b : Bool) → (b ≡ true → ⊥) → b ≡ false
never-true true never = absurd (never refl)
never-true false never = refl

-- the answer of a terminal that owes one
due-of : (burst : ShownBurst) (offers : Bool) (after : After) (answer : Answer) (words : List Word) (acceptance given : Bool) (data_words : List ℕ) →
    answer_for burst after (owes words acceptance) ≡ Some answer → IsBetween 8 24 after.station.plan.terminal.delay →
    IsAnswerOf after given data_words words → address_of_station after.station ≢ 31 → (offers ≡ false → acceptance ≡ false) →
    IsAnswerTo burst offers answer
due-of burst offers after answer words acceptance given data_words is delay of terminal declines =
    subst (IsAnswerTo burst offers) (same_Some _ _ is) record {
      words = record {
        status = _;
        data_words = data_words;
        words_are = of.words_are;
        bits = of.status;
        address = of.address;
        terminal = terminal;
        fits = of.fits;
        few = of.few;
      };
      declines = declines;
      channel = refl;
      after = omega (arith, delay.0);
      before = omega (arith, delay.1);
    }

-- an answer that a station may give to a burst is such an answer
abbrev Gives : ShownBurst → Bool → After → Type 0
Gives burst offers after = (answer : Answer) → answer_for burst after after.duty ≡ Some answer → IsAnswerTo burst offers answer

by-all : (burst : ShownBurst) (offers : Bool) (afters : List After) → All (Gives burst offers) afters → (answer : Answer) →
    answer_to burst afters ≡ Some answer → IsAnswerTo burst offers answer
by-all burst offers afters all answer is =
    let found = answer-found burst afters answer is in
    All-contains (Gives burst offers) afters found.0 all found.1 answer found.2

-- no relay's receiver is a controller alone
receiver-terminal : (kind : Kind) (own : ℕ) → IsOnlyReceiver kind own → own ≢ 31
receiver-terminal (Receive to sub words) own is = absurd is
receiver-terminal (Transmit from sub count) own is = absurd is
receiver-terminal (Relay from from_sub to to_sub count) own is = is.0
receiver-terminal (Mode to mode_sub transmit code word) own is = absurd is

module _ (k : ℕ) (loads : List TimedLoad) (channel : Channel) (start : ℕ) (hits : List Hit) (item : ItemData) (ranges : HasKindRanges item.kind) where
  abbrev command : ShownBurst
  command = command_burst channel start hits item

  abbrev obeyed : Present → After
  obeyed station = after_command k loads command station

  -- ---- to the command

  module _ (fit : All HasTimedLoadRanges loads) where
    first-by : (station : Present) → HasPresentRanges station → (duty : Duty) → (obeyed station).duty ≡ duty → (answer : Answer) →
        answer_for command (obeyed station) duty ≡ Some answer → IsAnswerTo command (is_offer item.kind) answer
    first-by station present free owed answer is = absurd (none-some answer is)
    first-by station present (promises other transmitter) owed answer is = absurd (none-some answer is)
    first-by station present (owes words acceptance) owed answer is =
        let o = who-owes k loads channel start hits item station words acceptance ranges fit present owed in
        due-of command (is_offer item.kind) (obeyed station) answer words acceptance acceptance o.0 is
        (subst (λ (s : Present). IsBetween 8 24 s.plan.terminal.delay) (sym (command-stays k loads command station)) present.terminal.delay)
        o.1.answer o.1.terminal
        (λ plain. never-true acceptance (λ accepts. let a : IsAcceptance item.kind (obeyed station) = o.1.accepted accepts in true≢false (sym a.offer ∙ plain)))

    pub first-due : (stations : List Present) → Each IsRanged stations → (answer : Answer) → answer_to command (map obeyed stations) ≡ Some answer →
        IsAnswerTo command (is_offer item.kind) answer
    first-due stations each =
        by-all command (is_offer item.kind) (map obeyed stations)
        (All-map (Gives command (is_offer item.kind)) obeyed stations
        (λ i d inside. let station : Present = get_or stations i d in
        first-by station (all-present stations each i d inside) (obeyed station).duty refl))

  -- ---- to an answer

  module _ (answer : ShownBurst) where
    abbrev settled_so : Present → After
    settled_so station = after_answer k loads answer (obeyed station)

    second-by : (station : Present) → HasPresentRanges station → (duty : Duty) → (settled_so station).duty ≡ duty → (second : Answer) →
        answer_for answer (settled_so station) duty ≡ Some second → IsAnswerTo answer false second
    second-by station present free owed second is = absurd (none-some second is)
    second-by station present (promises other transmitter) owed second is = absurd (none-some second is)
    second-by station present (owes words acceptance) owed second is =
        let o = who-owes-answer k loads channel start hits item answer station words acceptance ranges present.terminal.address owed in
        due-of answer false (settled_so station) second words acceptance false [] is
        (subst (λ (s : Present). IsBetween 8 24 s.plan.terminal.delay) (sym (answer-stays k loads answer (obeyed station)))
        (subst (λ (s : Present). IsBetween 8 24 s.plan.terminal.delay) (sym (command-stays k loads command station)) present.terminal.delay))
        o.answer (receiver-terminal item.kind (address_of_station (settled_so station).station) o.receiver) (λ none. o.accepted)

    pub second-due : (stations : List Present) → Each IsRanged stations → (second : Answer) →
        answer_to answer (map (after_answer k loads answer) (map obeyed stations)) ≡ Some second →
        IsAnswerTo answer false second
    second-due stations each =
        by-all answer false (map (after_answer k loads answer) (map obeyed stations))
        (All-map (Gives answer false) (after_answer k loads answer) (map obeyed stations)
        (All-map (λ a. Gives answer false (after_answer k loads answer a)) obeyed stations
        (λ i d inside. let station : Present = get_or stations i d in
        second-by station (all-present stations each i d inside) (settled_so station).duty refl)))

-- ---- as it is shown

pub shown-to : (burst : ShownBurst) (offers : Bool) (hits : List Hit) (answer : Option Answer) (shown : ShownAnswer) →
    shown_answer hits answer ≡ Some shown → ((a : Answer) → answer ≡ Some a → IsAnswerTo burst offers a) → IsShownTo burst offers shown
shown-to burst offers hits answer shown is of =
    let so = shown-of hits answer shown is in
    let sent = of shown.sent so.sent in
    record { sent = sent; channel = so.channel ∙ sent.channel; start = so.start; rest = so.rest }
