-- A controller over all that it heard: what it drives, what it has left, and where it takes control.
use Rattle.std.proofs.Common.{◌≡◌, ℕ, zero, suc, ◌+◌, ◌-◌, ◌/◌, ◌<◌, ◌≤◌, ◌==◌, min, Bool, true, false, not, ◌&&◌, if◌then◌else◌, List, [], ◌∷◌, ◌++◌, length, Option, Some, None, is_none, refl, sym, ap, ◌∙◌, arith, inl, inr}
use Rattle.std.specs.Prelude.{All}
use Rattle.std.proofs.lemmas.Bool.{cases_lt}
use Rattle.std.proofs.lemmas.Bool.Decides.{nat_tests}
use Rattle.std.proofs.lemmas.List.Elements.{All-nil, All-cons, All-tail, All-append, All-get_or}
use Rattle.std.proofs.lemmas.List.{length-map}
use Rattle.std.proofs.lemmas.Option.{slice_get_past}
use Rattle.bus_base.specs.declared.samples.Channel.{Channel}
use Rattle.bus_base.specs.declared.samples.Part.{Part}
use Rattle.bus_base.specs.declared.samples.Part.TheVariants.{Command}
use Rattle.bus_base.specs.declared.samples.Pair.{Pair}
use Rattle.bus_base.specs.declared.samples.Tick.{Tick}
use Rattle.bus_base.specs.declared.samples.Drive.TheVariants.{Silent}
use Rattle.bus_words.specs.declared.word.Word.{Word}
use Rattle.bus_line.specs.Channels.{quiet_both}
use Rattle.bus_formats.specs.Accepted.{HasKindRanges, HasItemRanges, HasFrameRanges}
use Rattle.bus_formats.specs.Forms.{command_words, data_word}
use Rattle.bus_formats.specs.Plans.{ItemData, FrameData, StationData}
use Rattle.bus_formats.specs.declared.plan.Kind.{Kind}
use Rattle.bus_formats.specs.declared.plan.Kind.TheVariants.{Receive, Transmit, Relay, Mode}
use Rattle.bus_model.specs.Starts.{Entry, entries_in, entries_from, repeated, has_items}
use Rattle.bus_model.specs.Attempts.{Begun}
use Rattle.bus_model.specs.Sending.{drive_sample}
use Rattle.bus_model.specs.Course.{Take, Course, course, runs_next, run_on, with_takes, take_control, drive_course, at_first}
use Rattle.bus_controller.specs.Agendas.{AgendaData}
use Rattle.bus_controller.specs.Steps.{driven_by, left_of, serves, taken, taken_by}
use Rattle.bus_controller.specs.Stands.{own, SendingStands, Awaits, ExpectingStands, YieldedStands, WaitStands, StateStands}
use Rattle.bus_controller.specs.ControllerStands.{NoneLater}
use Rattle.bus_controller.specs.declared.sending.Sending.{Sending}
use Rattle.bus_controller.specs.declared.expecting.Expecting.{Expecting}
use Rattle.bus_controller.specs.declared.opening.Opening.TheVariants as openings
use Rattle.bus_controller.specs.declared.yielded.Yielded.{Yielded}
use Rattle.bus_controller.specs.declared.states.ControllerState.{ControllerState}
use Rattle.bus_controller.specs.declared.states.ControllerState.TheVariants as states
use Rattle.bus_receiver.proofs.Hearing.{length-on}
use Rattle.bus_controller.proofs.Waiting.{waits-stand}

-- ---- takes

with_takes-none : (takes : List Take) (now : ℕ) (c : Course) → NoneLater now takes → with_takes takes (suc now) c ≡ c
with_takes-none [] now c none = refl
with_takes-none (take ∷ takes) now c none =
    let fails : (take.heard == suc now) ≡ false = (let before = none.0 in grind (arith, nat_tests, before)) in
    rw fails (with_takes-none takes now c none.1)

pub course-more : (k : ℕ) (station : StationData) (starts : Bool) (takes : List Take) (shown : Pair) (past : List Pair) → NoneLater (length past) takes →
    course k station starts takes (shown ∷ past) ≡ run_on k shown past (course k station starts takes past) (runs_next past (course k station starts takes past))
unfolding course
course-more k station starts takes shown past none =
    with_takes-none takes (length past) (run_on k shown past (course k station starts takes past) (runs_next past (course k station starts takes past))) none

pub later-more : (takes : List Take) (now : ℕ) → NoneLater now takes → NoneLater (suc now) takes
later-more [] now none = none
later-more (take ∷ takes) now none = (let before = none.0 in omega (arith, before), later-more takes now none.1)

pub later-taken : (takes : List Take) (take : Take) (now : ℕ) → NoneLater now takes → take.heard ≤ now → NoneLater now (takes ++ take ∷ [])
later-taken [] take now none before = (before, none)
later-taken (first ∷ takes) take now none before = (none.0, later-taken takes take now none.1 before)

with_takes-push : (takes : List Take) (take : Take) (now : ℕ) (c : Course) →
    with_takes (takes ++ take ∷ []) now c ≡ (if take.heard == now then take_control take.first (with_takes takes now c) else with_takes takes now c)
with_takes-push [] take now c = refl
with_takes-push (first ∷ takes) take now c = with_takes-push takes take now (if first.heard == now then take_control first.first c else c)

-- a take in a later tick changes nothing
not-yet : (k : ℕ) (station : StationData) (starts : Bool) (takes : List Take) (take : Take) (past : List Pair) → length past < take.heard →
    course k station starts (takes ++ take ∷ []) past ≡ course k station starts takes past
unfolding course
not-yet k station starts takes take [] later =
    let fails : (take.heard == 0) ≡ false = grind (arith, nat_tests, later) in
    with_takes-push takes take 0 (at_first station starts) ∙ (rw fails refl)
not-yet k station starts takes take (shown ∷ past) later =
    let fails : (take.heard == suc (length past)) ≡ false = grind (arith, nat_tests, later) in
    let before : course k station starts (takes ++ take ∷ []) past ≡ course k station starts takes past = not-yet k station starts takes take past (omega (arith, later)) in
    rw before (with_takes-push takes take (suc (length past)) (run_on k shown past (course k station starts takes past) (runs_next past (course k station starts takes past))) ∙ (rw fails refl))

-- and one now gives control
pub course-taken : (k : ℕ) (station : StationData) (starts : Bool) (takes : List Take) (first : ℕ) (past : List Pair) →
    course k station starts (takes ++ record { heard = length past; first = first } ∷ []) past ≡ take_control first (course k station starts takes past)
unfolding course
course-taken k station starts takes first [] = with_takes-push takes record { heard = 0; first = first } 0 (at_first station starts)
course-taken k station starts takes first (shown ∷ past) =
    let now : (suc (length past) == suc (length past)) ≡ true = grind (arith, nat_tests) in
    let before : course k station starts (takes ++ record { heard = suc (length past); first = first } ∷ []) past ≡ course k station starts takes past =
    not-yet k station starts takes record { heard = suc (length past); first = first } past (omega arith) in
    rw before (with_takes-push takes record { heard = suc (length past); first = first } (suc (length past))
    (run_on k shown past (course k station starts takes past) (runs_next past (course k station starts takes past))) ∙ (rw now refl))

-- ---- what is left, and who holds control

module _ (k : ℕ) (c : Course) (past : List Pair) where
  pub state-left : (s : ControllerState) → StateStands k c past s → left_of s ≡ c.left
  state-left (states.Holding s) st = ap (λ (a : AgendaData). a.left) st.waits.keeps.is
  state-left (states.Sending s) st = ap (λ (a : AgendaData). a.left) st.attempt.keeps.is
  state-left (states.Expecting s) st = ap (λ (a : AgendaData). a.left) st.attempt.keeps.is
  state-left (states.Settling s) st = ap (λ (a : AgendaData). a.left) st.waits.keeps.is
  state-left (states.Doubting s) st = ap (λ (a : AgendaData). a.left) st.attempt.keeps.is
  state-left (states.Yielded s) st = ap (λ (a : AgendaData). a.left) st.keeps.is

  pub state-serves : (s : ControllerState) → StateStands k c past s → serves s ≡ not c.holds
  state-serves (states.Holding s) st = ap not (sym st.waits.holds)
  state-serves (states.Sending s) st = ap not (sym st.attempt.holds)
  state-serves (states.Expecting s) st = ap not (sym st.attempt.holds)
  state-serves (states.Settling s) st = ap not (sym st.waits.holds)
  state-serves (states.Doubting s) st = ap not (sym st.attempt.holds)
  state-serves (states.Yielded s) st = ap not (sym st.holds)

  open-idle : c.runs ≡ None → (left : List Entry) → c.left ≡ left → (length c.left == 0) ≡ (is_none c.runs && not (has_items c.left))
  open-idle idle [] e = rw (idle, e) refl
  open-idle idle (entry ∷ later) e = rw (idle, e) (grind (arith, nat_tests))

  and-false : (o : Option Begun) → false ≡ (is_none o && false)
  and-false None = refl
  and-false (Some b) = refl

  busy-idle : (entry : Entry) (later : List Entry) → c.left ≡ entry ∷ later → (length c.left == 0) ≡ (is_none c.runs && not (has_items c.left))
  busy-idle entry later e =
      let some : (suc (length later) == 0) ≡ false = grind (arith, nat_tests) in
      rw e (some ∙ and-false c.runs)

  pub state-idle : (s : ControllerState) → StateStands k c past s → (length c.left == 0) ≡ (is_none c.runs && not (has_items c.left))
  state-idle (states.Holding s) st = open-idle st.waits.runs c.left refl
  state-idle (states.Sending s) st = busy-idle s.begun.entry st.attempt.later st.attempt.here
  state-idle (states.Expecting s) st = busy-idle s.begun.entry st.attempt.later st.attempt.here
  state-idle (states.Settling s) st = open-idle st.waits.runs c.left refl
  state-idle (states.Doubting s) st = busy-idle s.begun.entry st.attempt.later st.attempt.here
  state-idle (states.Yielded s) st = open-idle st.runs c.left refl

-- ---- what is driven

command-few : (kind : Kind) → HasKindRanges kind → length (command_words kind) ≤ 40
command-few (Receive to sub words) ranges = (let few = ranges.words.1 in let same = length-map words data_word in omega (arith, few, same))
command-few (Transmit from sub count) ranges = omega arith
command-few (Relay from from_sub to to_sub count) ranges = omega arith
command-few (Mode to mode_sub transmit code None) ranges = omega arith
command-few (Mode to mode_sub transmit code (Some word)) ranges = omega arith

past-words : (channel : Channel) (part : Part) (words : List Word) (i : ℕ) → length words ≤ 40 → 1600 ≤ i → drive_sample channel part words i ≡ Silent
past-words channel part words i few far = rw (slice_get_past words (i / 40) (omega (arith, few, far))) refl

sample-same : (channel : Channel) (part : Part) (words : List Word) (i : ℕ) → length words ≤ 40 → drive_sample channel part words (min i 65535) ≡ drive_sample channel part words i
sample-same channel part words i few = elim (cases_lt i 65535) [
  | inl low ↦ (let same : min i 65535 ≡ i = omega (arith, low) in rw same refl)
  | inr high ↦ past-words channel part words (min i 65535) few (omega (arith, high)) ∙ sym (past-words channel part words i few (omega (arith, high)))
]

module _ (k : ℕ) (c : Course) (past : List Pair) where
  pub sending-drives : (s : Sending) → SendingStands k c past s → driven_by (states.Sending s) ≡ drive_course k past c
  sending-drives s st =
      let here = length-on s.begun.state.channel past in
      let words = command-few s.begun.entry.item.kind st.attempt.item.kind in
      let is : drive_course k past c ≡ drive_sample s.begun.state.channel Command (command_words s.begun.entry.item.kind) (length past - s.begun.start) =
      rw (st.attempt.runs, st.going, here) refl in
      rw (st.burst, st.sent) (sample-same s.begun.state.channel Command (command_words s.begun.entry.item.kind) (length past - s.begun.start) words ∙ sym is)

  expecting-drives : (s : Expecting) → ExpectingStands k c past s → (first : Option ℕ) → Awaits k (own s.begun past) s.begun first s.end.0 → Silent ≡ drive_course k past c
  expecting-drives s st None a = sym (rw (st.attempt.runs, a.ended) refl)
  expecting-drives s st (Some status) a = sym (rw (st.attempt.runs, a.first.ended) refl)

  pub state-drives : (s : ControllerState) → StateStands k c past s → driven_by s ≡ drive_course k past c
  state-drives (states.Holding s) st = sym (rw st.none refl)
  state-drives (states.Sending s) st = sending-drives s st
  state-drives (states.Expecting s) st = expecting-drives s st s.first st.awaits
  state-drives (states.Settling s) st = sym (rw st.none refl)
  state-drives (states.Doubting s) st = sym (rw (st.attempt.runs, st.doubted.first.ended) refl)
  state-drives (states.Yielded s) st = sym (rw (st.runs, st.holds) refl)

  -- ---- control is taken

  -- a state without control waits for its first tick
  pub taken-waits : (s : Yielded) (first : Tick) → YieldedStands c s → length past ≤ first.0 →
      WaitStands (take_control first.0 c) past (taken s first).agenda (taken s first).opening
  taken-waits s first st later = record {
    keeps = record { is = rw st.keeps.is refl; ranges = st.keeps.ranges };
    runs = st.runs;
    holds = refl;
    opens = refl;
    due = λ entry rest here. later;
  }

  pub takes-stand : (s : ControllerState) (first : Tick) → StateStands k c past s → c.holds ≡ false → length past ≤ first.0 →
      StateStands k (take_control first.0 c) past (taken_by s first (length past) (quiet_both past))
  takes-stand (states.Holding s) first st free later = (let bad : false ≡ true = sym free ∙ st.waits.holds in cc)
  takes-stand (states.Sending s) first st free later = (let bad : false ≡ true = sym free ∙ st.attempt.holds in cc)
  takes-stand (states.Expecting s) first st free later = (let bad : false ≡ true = sym free ∙ st.attempt.holds in cc)
  takes-stand (states.Settling s) first st free later = (let bad : false ≡ true = sym free ∙ st.waits.holds in cc)
  takes-stand (states.Doubting s) first st free later = (let bad : false ≡ true = sym free ∙ st.attempt.holds in cc)
  takes-stand (states.Yielded s) first st free later =
      waits-stand (take_control first.0 c) past k (taken s first).agenda (openings.Taking first) (taken-waits s first st later)

-- ---- the items of frames with ranges have ranges

ranges-in : (frame offset place : ℕ) (items : List ItemData) → All HasItemRanges items → All (λ (e : Entry). HasItemRanges e.item) (entries_in frame offset place items)
ranges-in frame offset place [] ranges = All-nil (λ (e : Entry). HasItemRanges e.item)
ranges-in frame offset place (item ∷ items) ranges =
    All-cons (λ (e : Entry). HasItemRanges e.item) record { frame = frame; place = place; offset = offset; item = item } (entries_in frame offset (place + 1) items)
    (All-get_or HasItemRanges (item ∷ items) 0 item (omega arith) ranges)
    (ranges-in frame offset (place + 1) items (All-tail HasItemRanges item items ranges))

ranges-from : (number offset : ℕ) (frames : List FrameData) → All HasFrameRanges frames → All (λ (e : Entry). HasItemRanges e.item) (entries_from number offset frames)
ranges-from number offset [] ranges = All-nil (λ (e : Entry). HasItemRanges e.item)
ranges-from number offset (f ∷ later) ranges =
    All-append (λ (e : Entry). HasItemRanges e.item) (entries_in number offset 1 f.items) (entries_from (number + 1) (offset + f.ticks) later)
    (ranges-in number offset 1 f.items (All-get_or HasFrameRanges (f ∷ later) 0 f (omega arith) ranges).items)
    (ranges-from (number + 1) (offset + f.ticks) later (All-tail HasFrameRanges f later ranges))

ranges-repeated : (n : ℕ) (frames : List FrameData) → All HasFrameRanges frames → All HasFrameRanges (repeated n frames)
ranges-repeated zero frames ranges = All-nil HasFrameRanges
ranges-repeated (suc n) frames ranges = All-append HasFrameRanges frames (repeated n frames) ranges (ranges-repeated n frames ranges)

pub all-ranges : (n : ℕ) (frames : List FrameData) → All HasFrameRanges frames → All (λ (e : Entry). HasItemRanges e.item) (entries_from 1 0 (repeated n frames))
all-ranges n frames ranges = ranges-from 1 0 (repeated n frames) (ranges-repeated n frames ranges)
