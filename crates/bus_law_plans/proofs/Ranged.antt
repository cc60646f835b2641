-- In each run of an accepted plan what the terminals keep is within the ranges of words and blocks.
use Rattle.std.proofs.Common.{◌≡◌, ℕ, suc, ◌+◌, ◌<◌, ◌≤◌, true, false, List, [], ◌∷◌, length, map, Option, Some, None, refl, sym, subst, arith}
use Rattle.std.specs.List.{AllByRecursion as Each, AllZip}
use Rattle.std.proofs.lemmas.List.Elements.{recursion_from_All, All-from_recursion}
use Rattle.bus_base.specs.declared.samples.Channel.{Channel}
use Rattle.bus_base.specs.declared.samples.Part.TheVariants.{Command, First}
use Rattle.bus_words.specs.declared.word.Word.{Word}
use Rattle.bus_formats.specs.Accepted.{HasItemRanges, HasStationRanges, HasLoadRanges, IsAccepted}
use Rattle.bus_formats.specs.Forms.{command_words}
use Rattle.bus_formats.specs.Plans.{ItemData, StationData, PlanData}
use Rattle.bus_formats.specs.declared.fault.Fault.{Fault}
use Rattle.bus_formats.specs.declared.plan.Load.{Load}
use Rattle.bus_retry.specs.Retries.{next_of}
use Rattle.bus_retry.specs.declared.Choice.{Choice}
use Rattle.bus_model.specs.Attempts.{Begun}
use Rattle.bus_model.specs.Endings.{Passing}
use Rattle.bus_model.specs.Memory.{Memory, TimedLoad, no_blocks, loaded}
use Rattle.bus_model.specs.Message.{Present, address_of_station, After, unmoved, after_command, after_command_of, after_answer, after_answer_of, after_silence, after_silence_of, memory_at, answer_to, message}
use Rattle.bus_model.specs.Orders.{Duty, free, owes, promises, Order, last_order}
use Rattle.bus_model.specs.Run.{Run, Next, is_at, with_station, after_attempt, next_item, pass_control, with_message, next_attempt, attempt, first_run, first_present}
use Rattle.bus_model.specs.Strikes.{hits_on, ShownBurst, burst_end, Answer, ShownAnswer}
use Rattle.bus_law_plans.specs.Entries.{IsRunOf, IsRunAmong}
use Rattle.bus_law_plans.specs.Memories.{IsBlock, AreBlocks, HasMemoryRanges, HasWordRanges, KeepsWordRanges, HasAnswerRanges}
use Rattle.bus_law_plans.specs.Sent.{begun_of, command_of, first_of, message_of}
use Rattle.bus_law_plans.proofs.Answered.{IsAnswerOf, replied-by, shown-of}
use Rattle.bus_law_plans.proofs.Fits.{command-fits, FitsAnswer, spoken-fits}
use Rattle.bus_law_plans.proofs.Kept.{IsWord, FitsWord, FitSlots, each-set, no-words, loads-keep, command-word, obeyed-ranges, unkept-ranges, promise-ranges}
use Rattle.bus_law_plans.proofs.Lists.{either, each-weaker, each-map, each-replicate, zip-second}
use Rattle.bus_law_plans.proofs.Messages.{told, replied, stations-after}
use Rattle.bus_law_plans.proofs.Nexts.{next-of}
use Rattle.bus_law_plans.proofs.Promised.{Promise, obeyed-promises}
use Rattle.bus_law_plans.proofs.Seconds.{IsSecondOf, seconded-by}
use Rattle.bus_law_plans.proofs.Struck.{Slot, struck-each, Commands, order-found, tail-each}

-- ---- one station

-- a station after a burst, and the command by which it promised
pub record RangesAfter (a : After) : Type 0 where
  pub station : HasWordRanges a.station
  pub promised : Promise (λ command transmitter. command < 65536) a.duty

with-memory : (s : Present) (m : Memory) → HasWordRanges s → HasMemoryRanges m → HasWordRanges (record s { memory = m })
with-memory s m is ranges = record { memory = ranges; vector = is.vector; bit = is.bit; address = is.address }

slot-commands : (slots : List (Option Word)) → FitSlots slots → Commands IsWord slots
slot-commands [] all = tt
slot-commands (slot ∷ slots) all = ((λ c is. command-word slot c all.0 is), slot-commands slots all.1)

module _ (k : ℕ) (loads : List TimedLoad) (blocks : AreBlocks loads) (burst : ShownBurst) (fits : FitSlots burst.slots) where
  memory-ranges : (s : Present) → HasWordRanges s → HasMemoryRanges (memory_at k loads burst s)
  memory-ranges s is = loads-keep (address_of_station s) (burst_end burst + k) loads s.memory blocks is.memory

  order-ranges : (s : Present) (order : Option Order) → HasWordRanges s →
      ((o : Order) → order ≡ Some o → (o.command < 65536) × FitSlots o.tail) → RangesAfter (after_command_of k loads burst s order)
  order-ranges s None is h = record { station = is; promised = tt }
  order-ranges s (Some order) is h =
      let small : order.command < 65536 = (h order refl).0 in
      record {
        station = with-memory s _ is (obeyed-ranges s.plan.terminal (memory_at k loads burst s) burst.channel order.command small (memory-ranges s is)
            order.tail burst.rest _ (h order refl).1);
        promised = obeyed-promises (λ command transmitter. command < 65536) s.plan.terminal (memory_at k loads burst s) burst.channel order.command _
            order.tail burst.rest (λ transmitter tail. small);
      }

  tail-fits : (own : ℕ) (slots : List (Option Word)) → FitSlots slots → (order : Order) → last_order own slots ≡ Some order → FitSlots order.tail
  tail-fits own slots all order is = tail-each (Slot FitsWord) own slots all order is

  command-ranges : (s : Present) → HasWordRanges s → RangesAfter (after_command k loads burst s)
  command-ranges s is =
      either RangesAfter s.serves _ (unmoved s)
      (order-ranges s (last_order (address_of_station s) burst.slots) is
      (λ order found. (
        (order-found (address_of_station s) IsWord burst.slots (slot-commands burst.slots fits) order found).command,
        tail-fits (address_of_station s) burst.slots fits order found,
      )))
      record { station = is; promised = tt }

  answer-ranges : (s : Present) (duty : Duty) → HasWordRanges s → Promise (λ command transmitter. command < 65536) duty →
      HasWordRanges (after_answer_of k loads burst s duty).station
  answer-ranges s free is h = is
  answer-ranges s (owes words acceptance) is h = is
  answer-ranges s (promises command transmitter) is h =
      with-memory s _ is (promise-ranges s.plan.terminal (memory_at k loads burst s) burst.channel command transmitter burst.slots burst.rest h
      (memory-ranges s is) fits)

  silence-ranges : (s : Present) (duty : Duty) → HasWordRanges s → Promise (λ command transmitter. command < 65536) duty →
      HasWordRanges (after_silence_of k loads burst s duty).station
  silence-ranges s free is h = is
  silence-ranges s (owes words acceptance) is h = is
  silence-ranges s (promises command transmitter) is h =
      with-memory s _ is (unkept-ranges s.plan.terminal s.memory burst.channel command h is.memory)

-- ---- a message

module _ (k : ℕ) (loads : List TimedLoad) (blocks : AreBlocks loads) (faults : List Fault) (n : ℕ) (item : ItemData) (ranges : HasItemRanges item)
    (on : Option ShownAnswer) (channel : Channel) (start : ℕ) (stations : List Present) (all : Each HasWordRanges stations) where
  abbrev shown-command : ShownBurst
  shown-command = told k loads faults n item on channel start stations

  told-fits : FitSlots shown-command.slots
  told-fits = struck-each FitsWord (hits_on faults n Command) (command_words item.kind) (omega arith) (command-fits item.kind ranges.kind ranges.words)

  -- the words of an answer to it
  pub reply-fits : (answer : Answer) → answer_to shown-command (map (after_command k loads shown-command) stations) ≡ Some answer → FitsAnswer answer.words
  reply-fits =
      replied-by k loads shown-command (λ answer. FitsAnswer answer.words) stations
      (each-weaker HasWordRanges (λ s. (a : Answer) → IsAnswerOf k loads shown-command s a → FitsAnswer a.words)
      (λ s is a of. spoken-fits s.plan.terminal (memory_at k loads shown-command s) of.order.command _ a.acceptance a.words is.vector is.bit is.address
      (memory-ranges k loads blocks shown-command told-fits s is) of.is) stations all)

  first-fits : (answer : ShownAnswer) → replied k loads faults n item on channel start stations ≡ Some answer → FitSlots answer.burst.slots
  first-fits answer is =
      let shown = shown-of (hits_on faults n First) _ answer is in
      subst FitSlots (sym shown.slots)
      (struck-each FitsWord (hits_on faults n First) answer.sent.words (omega arith) (reply-fits answer.sent shown.sent).fit)

  -- and those of an answer to the first
  pub second-fits : (first : ShownAnswer) → replied k loads faults n item on channel start stations ≡ Some first → (answer : Answer) →
      answer_to first.burst (map (after_answer k loads first.burst) (map (after_command k loads shown-command) stations)) ≡ Some answer → FitsAnswer answer.words
  second-fits first is =
      seconded-by k loads first.burst (λ answer. FitsAnswer answer.words) (map (after_command k loads shown-command) stations)
      (each-map (λ (after : After). (a : Answer) → IsSecondOf k loads first.burst after.station a → FitsAnswer a.words) (after_command k loads shown-command) stations
      (each-weaker HasWordRanges (λ s. (a : Answer) → IsSecondOf k loads first.burst (after_command k loads shown-command s).station a → FitsAnswer a.words)
      (λ s ranged a of.
      let here : HasWordRanges (after_command k loads shown-command s).station = (command-ranges k loads blocks shown-command told-fits s ranged).station in
      spoken-fits (after_command k loads shown-command s).station.plan.terminal (memory_at k loads first.burst (after_command k loads shown-command s).station)
      of.command false a.acceptance a.words here.vector here.bit here.address
      (memory-ranges k loads blocks first.burst (first-fits first is) (after_command k loads shown-command s).station here) of.is) stations all))

  after-each : (f : After → After) → ((a : After) → RangesAfter a → HasWordRanges (f a).station) → (ts : List Present) → Each HasWordRanges ts →
      Each (λ s. HasWordRanges (f (after_command k loads shown-command s)).station) ts
  after-each f h ts ranged =
      each-weaker HasWordRanges (λ s. HasWordRanges (f (after_command k loads shown-command s)).station)
      (λ s is. h (after_command k loads shown-command s) (command-ranges k loads blocks shown-command told-fits s is)) ts ranged

  zip-last : (xs ys : List Present) → AllZip (λ x y. HasWordRanges y) xs ys → Each HasWordRanges ys
  zip-last xs ys zip = zip-second (λ x y. HasWordRanges y) HasWordRanges (λ x y h. h) xs ys zip

  -- a message keeps the ranges of words
  pub message-ranges : Each HasWordRanges (message k loads faults n item on channel start stations).stations
  message-ranges =
      zip-last stations _
      (stations-after k loads faults n item on channel start stations (λ s t. HasWordRanges t)
      (λ none. after-each (after_silence k loads shown-command)
      (λ a is. silence-ranges k loads blocks shown-command told-fits a.station a.duty is.station is.promised) stations all)
      (λ answer is. after-each (after_answer k loads answer.burst)
      (λ a h. answer-ranges k loads blocks answer.burst (first-fits answer is) a.station a.duty h.station h.promised) stations all))

-- ---- a run

changed-each : (address : ℕ) (change : Present → Present) → ((s : Present) → HasWordRanges s → HasWordRanges (change s)) → (stations : List Present) →
    Each HasWordRanges stations → Each HasWordRanges (with_station address change stations)
changed-each address change h [] all = tt
changed-each address change h (s ∷ stations) all =
    (either HasWordRanges (is_at address s) (change s) s (h s all.0) all.0, changed-each address change h stations all.1)

same-ranges : (s t : Present) → t.plan ≡ s.plan → t.memory ≡ s.memory → HasWordRanges s → HasWordRanges t
same-ranges s t plan memory is = record {
  memory = subst HasMemoryRanges (sym memory) is.memory;
  vector = subst (λ (p : StationData). p.terminal.vector < 65536) (sym plan) is.vector;
  bit = subst (λ (p : StationData). p.terminal.bit < 65536) (sym plan) is.bit;
  address = subst (λ (p : StationData). p.terminal.address ≤ 31) (sym plan) is.address;
}

passing-ranges : (passes : Option Passing) (run : Run) → Each HasWordRanges run.stations → Each HasWordRanges (pass_control passes run).stations
passing-ranges None run all = all
passing-ranges (Some p) run all =
    changed-each p.address (λ s. record s { serves = false }) (λ s is. same-ranges s _ refl refl is) _
    (changed-each run.holder (λ s. record s { serves = true }) (λ s is. same-ranges s _ refl refl is) run.stations all)

module _ (k : ℕ) (plan : PlanData) (loads : List TimedLoad) (run : Run) {own : List StationData} (is : IsRunAmong plan own run) (blocks : AreBlocks loads) (all : KeepsWordRanges run) where
  message-keeps : (begun : Begun) (choice : Choice) → HasItemRanges begun.entry.item → KeepsWordRanges (with_message run begun choice (message_of k loads plan.faults run begun))
  message-keeps begun choice ranges =
      passing-ranges (message_of k loads plan.faults run begun).ending.passes _
      (changed-each run.holder (after_attempt begun (message_of k loads plan.faults run begun).ending.ended.outcome choice) (λ s h. same-ranges s _ refl refl h)
      (message_of k loads plan.faults run begun).stations
      (message-ranges k loads blocks plan.faults (suc (length run.attempts)) begun.entry.item ranges run.runs_on begun.state.channel begun.start run.stations all))

  by-next : (next : Option Next) → next_item run ≡ next → KeepsWordRanges (next_attempt k loads plan.faults run next)
  by-next None given = all
  by-next (Some next) given =
      let begun : Begun = begun_of run next in
      message-keeps begun (next_of begun.entry.item begun.state (message_of k loads plan.faults run begun).ending.ended.outcome)
      (next-of plan run next is given).entry.ranges

-- an attempt keeps what is kept within its ranges
pub attempt-ranges : (k : ℕ) (plan : PlanData) (loads : List TimedLoad) (run : Run) {own : List StationData} → AreBlocks loads → IsRunAmong plan own run → KeepsWordRanges run →
    KeepsWordRanges (attempt k loads plan.faults run)
attempt-ranges k plan loads run blocks is all = by-next k plan loads run is blocks all (next_item run) refl

-- ---- the first run

loaded-blocks : (blocks : List (List ℕ)) (loads : List Load) → Each IsBlock blocks → Each HasLoadRanges loads → Each IsBlock (loaded blocks loads)
loaded-blocks blocks [] each all = each
loaded-blocks blocks (load ∷ loads) each all =
    loaded-blocks _ loads (each-set IsBlock blocks load.sub load.words record { few = all.0.count.1; spelled = all.0.words } each) all.1

first-ranges : (plan : PlanData) (s : StationData) → HasStationRanges s → HasWordRanges (first_present plan s)
first-ranges plan s ranges =
    let empty : Each IsBlock no_blocks = each-replicate IsBlock 31 [] no-words in
    record {
      memory = record {
        registers = record { last = omega arith; sync = omega arith };
        received = empty;
        transmit = loaded-blocks no_blocks s.terminal.loads empty (recursion_from_All HasLoadRanges s.terminal.loads ranges.terminal.loads);
      };
      vector = ranges.terminal.vector;
      bit = ranges.terminal.bit;
      address = ranges.terminal.address;
    }

-- before the first attempt they are kept
pub first-keeps : (plan : PlanData) → IsAccepted plan → KeepsWordRanges (first_run plan)
first-keeps plan accepted =
    each-map HasWordRanges (first_present plan) plan.stations
    (each-weaker HasStationRanges (λ s. HasWordRanges (first_present plan s)) (first-ranges plan) plan.stations
    (recursion_from_All HasStationRanges plan.stations accepted.ranges))

-- ---- the answers

fits-all : (words : List Word) → FitsAnswer words → HasAnswerRanges words
fits-all words is = record { fit = All-from_recursion FitsWord words is.fit; some = is.some; few = is.few }

-- the first answer has its ranges
pub answer-ranged : (k : ℕ) (plan : PlanData) (loads : List TimedLoad) (run : Run) (next : Next) (answer : Answer) → AreBlocks loads → IsRunOf plan run →
    KeepsWordRanges run → next_item run ≡ Some next → let command : ShownBurst = command_of k loads plan.faults run (begun_of run next) in
    answer_to command (map (after_command k loads command) run.stations) ≡ Some answer → HasAnswerRanges answer.words
answer-ranged k plan loads run next answer blocks is all given found =
    let begun : Begun = begun_of run next in
    fits-all answer.words (reply-fits k loads blocks plan.faults (suc (length run.attempts)) next.entry.item (next-of plan run next is given).entry.ranges
    run.runs_on begun.state.channel begun.start run.stations all answer found)

-- and so has the second
pub second-ranged : (k : ℕ) (plan : PlanData) (loads : List TimedLoad) (run : Run) (next : Next) (first : ShownAnswer) (answer : Answer) → AreBlocks loads →
    IsRunOf plan run → KeepsWordRanges run → next_item run ≡ Some next → first_of k loads plan.faults run (begun_of run next) ≡ Some first →
    let command : ShownBurst = command_of k loads plan.faults run (begun_of run next) in
    answer_to first.burst (map (after_answer k loads first.burst) (map (after_command k loads command) run.stations)) ≡ Some answer → HasAnswerRanges answer.words
second-ranged k plan loads run next first answer blocks is all given shown found =
    let begun : Begun = begun_of run next in
    fits-all answer.words (second-fits k loads blocks plan.faults (suc (length run.attempts)) next.entry.item (next-of plan run next is given).entry.ranges
    run.runs_on begun.state.channel begun.start run.stations all first shown answer found)
