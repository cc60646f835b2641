-- A controller of which nothing is due, over quiet ticks.
use Rattle.std.proofs.Common.{◌≡◌, ◌⊎◌, inl, inr, ℕ, zero, suc, ◌+◌, ◌-◌, ◌<◌, ◌≤◌, Bool, true, false, nat_lt, List, [], ◌∷◌, ◌++◌, length, Option, Some, None, refl, sym, ap, ◌∙◌, arith}
use Rattle.std.proofs.lemmas.Bool.{le-ltb, ne_eqb}
use Rattle.std.specs.Prelude.{◌==◌, if◌then◌else◌}
use Rattle.bus_base.specs.declared.samples.Pair.{Pair}
use Rattle.bus_base.specs.declared.samples.Sample.{Sample}
use Rattle.bus_base.specs.declared.samples.Sample.TheVariants.{Quiet}
use Rattle.bus_base.specs.declared.samples.Drive.TheVariants.{Silent}
use Rattle.bus_line.specs.Past.{Burst, end_of, first_heard, heard_or_now, end_since}
use Rattle.bus_line.specs.Channels.{on_channel}
use Rattle.bus_line.proofs.ChannelLaws.{length-on}
use Rattle.bus_line.proofs.EndLaws.{end_since-stays, end_since-is}
use Rattle.bus_line.proofs.HeardLaws.{first_heard-stays}
use Rattle.bus_line.proofs.SlotLaws.{burst_from-more}
use Rattle.bus_formats.specs.Plans.{StationData}
use Rattle.bus_formats.specs.Times.{no_response}
use Rattle.bus_model.specs.Starts.{Entry, start_of}
use Rattle.bus_model.specs.Attempts.{Begun}
use Rattle.bus_model.specs.Controller.{silence, awaited, whole, reply, reply_from, reply_until, ending_after, command_ending, first_ending, first_read, good_ending, second_ending, drive_command}
use Rattle.bus_model.specs.Course.{Take, Course, course, quiet_from, begin_entry, run_by, runs_next, close_or_run, run_on, with_takes, drive_by, drive_course}
use Rattle.bus_base.specs.Samples.{quiet_pair, quiet_pairs}
use Rattle.bus_law_stations.specs.Silence.{AwaitsFirst, AwaitsSecond, NothingStarts, AreTaken}
use Rattle.bus_law_stations.proofs.Resting.{quiet-on, cases-option}

pub pairs-long : (n : ℕ) (past : List Pair) → length (quiet_pairs n ++ past) ≡ n + length past
pairs-long zero past = omega arith
pairs-long (suc n) past = let rest : length (quiet_pairs n ++ past) ≡ n + length past = pairs-long n past in omega (arith, rest)

-- quiet ticks don't move the tick from which both channels are quiet
quiet-from : (n : ℕ) (past : List Pair) → quiet_from (quiet_pairs n ++ past) ≡ quiet_from past
quiet-from zero past = refl
quiet-from (suc n) past = let rest : quiet_from (quiet_pairs n ++ past) ≡ quiet_from past = quiet-from n past in omega (arith, rest)

-- ---- an answer that is awaited

either-none : {X : Type 0} (b : Bool) (o : Option X) → o ≡ None → (if b then None else o) ≡ None
either-none true o none = refl
either-none false o none = none

heard-none : (past : List Sample) (a : ℕ) → first_heard past a ≡ None → first_heard (Quiet ∷ past) a ≡ None
unfolding first_heard
heard-none past a none =
    either-none (nat_lt (length past) a) (heard_or_now Quiet (length past) (first_heard past a)) (ap (heard_or_now Quiet (length past)) none)

pub not-whole : (b : Bool) (burst : Burst) → (if b then silence else awaited) ≡ whole burst → ⊥
not-whole true burst e = cc
not-whole false burst e = cc

until-stays : (k : ℕ) (x : Sample) (past : List Sample) (a : ℕ) (burst : Burst) (b : Bool) (o p : Option ℕ) →
    ((e : ℕ) → o ≡ Some e → (p ≡ Some e) × (a + (e - a) ≤ length past)) →
    (if b then silence else reply_until k past a o) ≡ whole burst → (if b then silence else reply_until k (x ∷ past) a p) ≡ whole burst
until-stays k x past a burst true o p same e = absurd (cc)
until-stays k x past a burst false None p same e = absurd (cc)
until-stays k x past a burst false (Some end) p same e =
    let at = same end refl in
    ap (reply_until k (x ∷ past) a) at.0 ∙ ap whole (burst_from-more x past a (end - a) at.1) ∙ e

-- a whole answer stays the same
pub whole-stays : (k : ℕ) (x : Sample) (past : List Sample) (e : ℕ) (burst : Burst) → reply k past e ≡ whole burst → reply k (x ∷ past) e ≡ whole burst
whole-stays k x past e burst is = elim (cases-option (first_heard past e)) [
  | inl none ↦ absurd (not-whole (nat_lt (e + no_response) (length past)) burst (sym (ap (reply_from k past e) none) ∙ is))
  | inr found ↦
      ap (reply_from k (x ∷ past) e) (first_heard-stays x past e found.0 found.1)
      ∙ until-stays k x past found.0 burst (nat_lt (e + no_response) found.0) (end_since k past found.0) (end_since k (x ∷ past) found.0)
      (λ end at. let is = end_since-is k past found.0 end at in
      (end_since-stays k x past found.0 end at, omega (arith, is.from, is.known)))
      (sym (ap (reply_from k past e) found.1) ∙ is)
]

first-stays : (k : ℕ) (begun : Begun) (past : List Sample) (e : ℕ) → AwaitsFirst k begun past e → AwaitsFirst k begun (Quiet ∷ past) e
first-stays k begun past e w = record {
  ended = end_since-stays k Quiet past begun.start e w.ended;
  shape = w.shape;
  expects = w.expects;
  silent = heard-none past e w.silent;
}

second-stays : (k : ℕ) (begun : Begun) (past : List Sample) (e : ℕ) → AwaitsSecond k begun past e → AwaitsSecond k begun (Quiet ∷ past) e
second-stays k begun past e w = record {
  command_end = w.command_end;
  ended = end_since-stays k Quiet past begun.start w.command_end w.ended;
  first = w.first;
  second = w.second;
  expects_first = w.expects_first;
  expects_second = w.expects_second;
  burst = w.burst;
  status = w.status;
  answered = whole-stays k Quiet past w.command_end w.burst w.answered;
  good = w.good;
  end = w.end;
  silent = heard-none past e w.silent;
}

abbrev pub Awaits : ℕ → Begun → List Sample → ℕ → Type 0
Awaits k begun past e = AwaitsFirst k begun past e ⊎ AwaitsSecond k begun past e

pub awaits-stays : (k : ℕ) (begun : Begun) (past : List Sample) (e : ℕ) → Awaits k begun past e → Awaits k begun (Quiet ∷ past) e
awaits-stays k begun past e (inl w) = inl (first-stays k begun past e w)
awaits-stays k begun past e (inr w) = inr (second-stays k begun past e w)

-- ---- nothing ends

pub reply-awaited : (k : ℕ) (past : List Sample) (e : ℕ) → first_heard past e ≡ None → length past ≤ e + no_response → reply k past e ≡ awaited
reply-awaited k past e silent early =
    let no : nat_lt (e + no_response) (length past) ≡ false = le-ltb (e + no_response) (length past) early in
    ap (reply_from k past e) silent ∙ (rw no refl)

no-ending : (k : ℕ) (begun : Begun) (shown : List Pair) (past : List Sample) (e : ℕ) → Awaits k begun past e → length past ≤ e + no_response →
    ending_after k begun.entry.item shown past (end_since k past begun.start) ≡ None
no-ending k begun shown past e (inl w) early =
    let item = begun.entry.item in
    ap (ending_after k begun.entry.item shown past) w.ended
    ∙ ap (command_ending k begun.entry.item shown past e) w.expects
    ∙ ap (first_ending k begun.entry.item shown past e) (reply-awaited k past e w.silent early)
no-ending k begun shown past e (inr w) early =
    let silent : first_heard past (end_of w.burst) ≡ None = ap (first_heard past) w.end ∙ w.silent in
    ap (ending_after k begun.entry.item shown past) w.ended
    ∙ ap (command_ending k begun.entry.item shown past w.command_end) w.expects_first
    ∙ ap (first_ending k begun.entry.item shown past w.command_end) w.answered
    ∙ ap (first_read k begun.entry.item shown past w.burst) w.good
    ∙ ap (good_ending k begun.entry.item shown past w.status w.burst) w.expects_second
    ∙ ap (second_ending k begun.entry.item shown past w.status) (reply-awaited k past (end_of w.burst) silent (omega (arith, early, w.end)))

-- ---- one tick

tick-later : (k : ℕ) (c : Course) (past : List Pair) (m : ℕ) → NothingStarts k c past (suc m) → NothingStarts k c (quiet_pair ∷ past) m
tick-later k c past m h = record {
  waits = λ begun is. let w = h.waits begun is in
      (w.0, rw (quiet-on begun.state.channel) (awaits-stays k begun (on_channel begun.state.channel past) w.0 w.1), omega (arith, w.2));
  starts = λ none holds entry later left.
      let start = h.starts none holds entry later left in
      let same : quiet_from (quiet_pair ∷ past) ≡ quiet_from past = quiet-from 1 past in
      let at = ap (start_of c.opening c.retry c.origin entry) same in
      omega (arith, start, at);
}

pub starts-later : (k : ℕ) (c : Course) (past : List Pair) (n m : ℕ) → NothingStarts k c past (n + m) → NothingStarts k c (quiet_pairs n ++ past) m
starts-later k c past zero m h = let same : 0 + m ≡ m = omega arith in rw same at h
starts-later k c past (suc n) m h =
    let same : suc n + m ≡ n + suc m = omega arith in
    tick-later k c (quiet_pairs n ++ past) m (starts-later k c past n (suc m) (rw same at h))

begin-none : (k : ℕ) (c : Course) (past : List Pair) (left : List Entry) → c.left ≡ left → c.runs ≡ None → c.holds ≡ true → NothingStarts k c past 1 →
    begin_entry past c left ≡ None
begin-none k c past [] is none holds h = refl
begin-none k c past (entry ∷ later) is none holds h =
    let late = h.starts none holds entry later is in
    let test : (start_of c.opening c.retry c.origin entry (quiet_from past) == length past) ≡ false =
    ne_eqb (start_of c.opening c.retry c.origin entry (quiet_from past)) (length past) (λ e. omega (arith, e, late)) in
    rw test refl

run-none : (k : ℕ) (c : Course) (past : List Pair) (b : Bool) → c.holds ≡ b → c.runs ≡ None → NothingStarts k c past 1 →
    (if b then begin_entry past c c.left else None) ≡ None
run-none k c past false holds none h = refl
run-none k c past true holds none h = begin-none k c past c.left refl none holds h

none-next : (k : ℕ) (c : Course) (past : List Pair) → c.runs ≡ None → NothingStarts k c past 1 → run_by past c None ≡ None
none-next k c past none h = run-none k c past c.holds refl none h

run-by : (k : ℕ) (c : Course) (past : List Pair) (o : Option Begun) → c.runs ≡ o → NothingStarts k c past 1 →
    run_on k quiet_pair past c (run_by past c o) ≡ c
run-by k c past None is h = ap (run_on k quiet_pair past c) (none-next k c past is h)
run-by k c past (Some begun) is h =
    let later = tick-later k c past 0 h in
    let w = later.waits begun is in
    let long : length (on_channel begun.state.channel (quiet_pair ∷ past)) ≡ suc (length past) = length-on begun.state.channel (quiet_pair ∷ past) in
    ap (close_or_run c begun (length past))
    (no-ending k begun (quiet_pair ∷ past) (on_channel begun.state.channel (quiet_pair ∷ past)) w.0 w.1 (omega (arith, w.2, long)))
    ∙ ap (λ o. record c { runs = o }) (sym is)

pub not-taken : (heard n : ℕ) (takes : List Take) (c : Course) → AreTaken heard takes → heard < n → with_takes takes n c ≡ c
not-taken heard n [] c taken late = refl
not-taken heard n (take ∷ takes) c taken late =
    let test : (take.heard == n) ≡ false = ne_eqb take.heard n (λ e. omega (arith, e, taken.0, late)) in
    rw test (not-taken heard n takes c taken.1 late)

pub fewer : (k : ℕ) (c : Course) (past : List Pair) (n : ℕ) → NothingStarts k c past (suc n) → NothingStarts k c past n
fewer k c past n h = record {
  waits = λ begun is. let w = h.waits begun is in (w.0, w.1, omega (arith, w.2));
  starts = λ none holds entry later left. let start = h.starts none holds entry later left in omega (arith, start);
}

pub known : (k : ℕ) (begun : Begun) (past : List Sample) (e : ℕ) → Awaits k begun past e → (x : ℕ) × (end_since k past begun.start ≡ Some x)
known k begun past e (inl w) = (e, w.ended)
known k begun past e (inr w) = (w.command_end, w.ended)

-- ---- many ticks

pub still-course : (k : ℕ) (station : StationData) (starts : Bool) (takes : List Take) (past : List Pair) (n : ℕ) →
    AreTaken (length past) takes → NothingStarts k (course k station starts takes past) past n →
    course k station starts takes (quiet_pairs n ++ past) ≡ course k station starts takes past
unfolding course
still-course k station starts takes past zero taken h = refl
still-course k station starts takes past (suc n) taken h =
    let c = course k station starts takes past in
    let later = quiet_pairs n ++ past in
    let more : suc n ≡ n + 1 = omega arith in
    let long : length (quiet_pairs n ++ past) ≡ n + length past = pairs-long n past in
    let before = still-course k station starts takes past n taken (fewer k c past n h) in
    ap (λ (d : Course). with_takes takes (suc (length later)) (run_on k quiet_pair later d (runs_next later d))) before
    ∙ ap (with_takes takes (suc (length later))) (run-by k c later c.runs refl (starts-later k c past n 1 (rw more at h)))
    ∙ not-taken (length past) (suc (length later)) takes c taken (omega (arith, long))

drive-none : (k : ℕ) (c : Course) (past : List Pair) (o : Option Begun) → c.runs ≡ o → NothingStarts k c past 1 → drive_by k past (run_by past c o) ≡ Silent
drive-none k c past None is h = ap (drive_by k past) (none-next k c past is h)
drive-none k c past (Some begun) is h =
    let w = h.waits begun is in
    let end = known k begun (on_channel begun.state.channel past) w.0 w.1 in
    ap (drive_command begun (on_channel begun.state.channel past)) end.1

pub still-drive : (k : ℕ) (station : StationData) (starts : Bool) (takes : List Take) (past : List Pair) (n : ℕ) →
    AreTaken (length past) takes → NothingStarts k (course k station starts takes past) past (suc n) →
    drive_course k (quiet_pairs n ++ past) (course k station starts takes (quiet_pairs n ++ past)) ≡ Silent
still-drive k station starts takes past n taken h =
    let c = course k station starts takes past in
    let more : suc n ≡ n + 1 = omega arith in
    ap (drive_course k (quiet_pairs n ++ past)) (still-course k station starts takes past n taken (fewer k c past n h))
    ∙ drive-none k c (quiet_pairs n ++ past) c.runs refl (starts-later k c past n 1 (rw more at h))
