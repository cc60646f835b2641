-- A serving station with a duty of the message table, over quiet ticks before anything comes of it: nothing is due of it, and it has that duty still.
use Rattle.std.proofs.Common.{◌≡◌, inl, ℕ, ◌+◌, ◌<◌, ◌≤◌, Bool, true, false, List, [], ◌++◌, length, sym, ap, ◌∙◌, arith}
use Rattle.std.proofs.lemmas.Bool.{true≢false}
use Rattle.std.proofs.lemmas.Option.{none-some}
use Rattle.std.specs.Prelude.{not, ◌||◌}
use Rattle.bus_base.specs.Samples.{same_channel, quiet_pairs}
use Rattle.bus_base.specs.declared.samples.Channel.{Channel}
use Rattle.bus_base.specs.declared.samples.Channel.TheVariants.{A, B}
use Rattle.bus_base.specs.declared.samples.Pair.{Pair}
use Rattle.bus_base.specs.declared.samples.Part.{Part}
use Rattle.bus_base.specs.declared.samples.Sample.{Sample}
use Rattle.bus_words.specs.declared.word.Word.{Word}
use Rattle.bus_line.specs.Past.{quiet_ticks, runs, heard_within}
use Rattle.bus_formats.specs.Plans.{StationData}
use Rattle.bus_formats.specs.Times.{relay_wait}
use Rattle.bus_model.specs.Course.{Course}
use Rattle.bus_model.specs.Hearing.{heard_on}
use Rattle.bus_model.specs.Orders.{Duty, free, owes, promises, due_after}
use Rattle.bus_model.specs.Standing.{Standing, mark_on, superseded, ignored_from, is_owed, is_promise, promised_on}
use Rattle.bus_model.specs.Starts.{starts}
use Rattle.bus_model.specs.Terminal.{given_up}
use Rattle.bus_model.specs.Control.{StationSoFar, outside_takes}
use Rattle.bus_law_messages.proofs.Heard.{hearing-long}
use Rattle.bus_law_messages.proofs.Pausing.{serving-still}
use Rattle.bus_law_stations.specs.Silence.{NothingStarts, StationRests}
use Rattle.bus_law_stations.specs.Turns.{Serves}
use Rattle.bus_law_stations.proofs.LegTicks.{heeded-later}
use Rattle.bus_law_stations.proofs.Ready.{three-first}
use Rattle.bus_law_stations.proofs.Resting.{heard-quiet, heard-long, rests-quiet}
use Rattle.bus_law_stations.proofs.StillController.{pairs-long}
use Rattle.bus_law_stations.proofs.StillStation.{still-so-far, still-after, still-terminal}
use Rattle.bus_law_table.proofs.Still.{serving-rests}
use Rattle.bus_law_phases.specs.Scenarios.{Scenario, course_of, hearing_of, standing_of}
use Rattle.bus_law_phases.specs.Moments.{Hears, Owes, Promises, HasDuty, DutyLasts}
use Rattle.bus_law_phases.proofs.Within.{within-still, within-any}

-- a station that serves starts nothing
serving-starts : (k : ℕ) (c : Course) (past : List Pair) (n : ℕ) → Serves c → NothingStarts k c past n
serving-starts k c past n serves = record {
  waits = λ begun is. absurd (none-some begun (sym serves.idle ∙ is));
  starts = λ idle holds entry later left. absurd (true≢false (sym holds ∙ serves.serves));
}

-- a terminal that owes an answer promises nothing
promised-not : (k : ℕ) (s : Standing) → is_promise s.duty ≡ false → promised_on k s s.channel ≡ true → ⊥
promised-not k s none made = true≢false (sym made ∙ three-first (is_promise s.duty) (same_channel s.channel s.channel) (not (superseded k s)) none)

either-given : (a b c : Bool) → (a || b) ≡ false → (b ≡ false → c ≡ false) → (a || c) ≡ false
either-given true b c none make = absurd (true≢false none)
either-given false b c none make = make none

module _ (w : Scenario) (past : List Pair) (station : StationData) (c : Channel) (e : ℕ) (part : Part) where
  abbrev s : Standing
  s = standing_of w station past

  abbrev Stays : ℕ → Type 0
  Stays n = (tick : ℕ) → length past ≤ tick → tick < length past + n →
      outside_takes w.lag station (starts w.plan station) w.loads w.outside tick w.outside ≡ []

  -- ---- nothing is due

  owes-rests : (words : List Word) (acceptance : Bool) (n : ℕ) → Owes w past station c e part words acceptance →
      length past + n ≤ due_after station.terminal e → Stays n → StationRests w.lag station (starts w.plan station) w.loads w.outside past n
  owes-rests words acceptance n owing lasts stays =
      let long : length (hearing_of w station past).ticks ≡ length past = hearing-long w.lag station (starts w.plan station) w.loads w.outside past in
      let due : due_after station.terminal s.end ≡ due_after station.terminal e = ap (due_after station.terminal) owing.end in
      record {
        controller = serving-starts w.lag (course_of w station past) past n owing.hears.serves;
        terminal = record {
          rests_a = owing.hears.rests A;
          rests_b = owing.hears.rests B;
          answer = λ owed. inl (omega (arith, long, due, lasts));
          promise = λ made. absurd (promised-not w.lag s (ap is_promise owing.duty) made);
        };
        serves = stays;
      }

  promises-rests : (command transmitter n : ℕ) → Promises w past station c e command transmitter → length past + n ≤ e + relay_wait → Stays n →
      StationRests w.lag station (starts w.plan station) w.loads w.outside past n
  promises-rests command transmitter n waiting lasts stays =
      let long : length (hearing_of w station past).ticks ≡ length past = hearing-long w.lag station (starts w.plan station) w.loads w.outside past in
      let end = waiting.end in
      record {
        controller = serving-starts w.lag (course_of w station past) past n waiting.hears.serves;
        terminal = record {
          rests_a = waiting.hears.rests A;
          rests_b = waiting.hears.rests B;
          answer = λ owed. absurd (true≢false (sym owed ∙ ap is_owed waiting.duty));
          promise = λ made. inl (omega (arith, long, end, lasts));
        };
        serves = stays;
      }

  pub duty-rests : (duty : Duty) (n : ℕ) → HasDuty w past station c e part duty → DutyLasts (length past + n) e station duty → Stays n →
      StationRests w.lag station (starts w.plan station) w.loads w.outside past n
  duty-rests free n has lasts stays = serving-rests w.lag w.plan w.loads w.outside w.absent station past has n stays
  duty-rests (owes words acceptance) n has lasts stays = owes-rests words acceptance n has lasts stays
  duty-rests (promises command transmitter) n has lasts stays = promises-rests command transmitter n has lasts stays

  -- ---- it has the duty still

  module _ (n : ℕ) (rests : StationRests w.lag station (starts w.plan station) w.loads w.outside past n) where
    abbrev later : List Pair
    later = quiet_pairs n ++ past

    many : length (quiet_pairs n ++ past) ≡ n + length past
    many = pairs-long n past

    course-same : course_of w station later ≡ course_of w station past
    course-same = still-after w.lag station (starts w.plan station) w.loads w.outside past n rests

    stands-same : standing_of w station later ≡ s
    stands-same = still-terminal w.lag station (starts w.plan station) w.loads w.outside past n rests

    -- it heard n quiet ticks more
    heard-is : (d : Channel) → heard_on d (hearing_of w station later).ticks ≡ quiet_ticks n ++ heard_on d (hearing_of w station past).ticks
    heard-is d =
        let so = still-so-far w.lag station (starts w.plan station) w.loads w.outside past n rests in
        ap (λ (b : StationSoFar). heard_on d b.hearing.ticks) so.2
        ∙ heard-quiet d so.0 (hearing_of w station past).ticks
        ∙ ap (λ m. quiet_ticks m ++ heard_on d (hearing_of w station past).ticks) so.1

    hears-later : Hears w past station → Hears w later station
    hears-later hears = record {
      serves = record {
        serves = ap (λ (c : Course). c.holds) course-same ∙ hears.serves.serves;
        idle = ap (λ (c : Course). c.runs) course-same ∙ hears.serves.idle;
      };
      rests = λ d. ap (runs w.lag) (heard-is d) ∙ rests-quiet w.lag n (heard_on d (hearing_of w station past).ticks) (hears.rests d);
      heeds = λ d. ap (λ (u : Standing). ignored_from w.lag (heard_on d (hearing_of w station later).ticks) (mark_on u.sent d)) stands-same
          ∙ ap (λ xs. ignored_from w.lag xs (mark_on s.sent d)) (heard-is d)
          ∙ heeded-later w.lag (quiet_ticks n) (heard_on d (hearing_of w station past).ticks) (mark_on s.sent d) (hears.heeds d);
    }

    owes-later : (words : List Word) (acceptance : Bool) → Owes w past station c e part words acceptance →
        length past + n ≤ due_after station.terminal e → Owes w later station c e part words acceptance
    owes-later words acceptance owing lasts =
        let xs : List Sample = heard_on c (hearing_of w station past).ticks in
        record {
          hears = hears-later owing.hears;
          duty = ap (λ (u : Standing). u.duty) stands-same ∙ owing.duty;
          channel = ap (λ (u : Standing). u.channel) stands-same ∙ owing.channel;
          end = ap (λ (u : Standing). u.end) stands-same ∙ owing.end;
          part_is = ap (λ (u : Standing). u.part) stands-same ∙ owing.part_is;
          kept = ap (given_up w.lag station.terminal (heard_on c (hearing_of w station later).ticks)) stands-same
              ∙ ap (λ ys. given_up w.lag station.terminal ys s) (heard-is c)
              ∙ either-given (superseded w.lag s) (heard_within xs s.end (due_after station.terminal s.end))
              (heard_within (quiet_ticks n ++ xs) s.end (due_after station.terminal s.end)) owing.kept
              (within-still n xs s.end (due_after station.terminal s.end));
          early = omega (arith, many, lasts);
        }

    promises-later : (command transmitter : ℕ) → Promises w past station c e command transmitter → length past + n ≤ e + relay_wait →
        Promises w later station c e command transmitter
    promises-later command transmitter waiting lasts =
        let xs : List Sample = heard_on c (hearing_of w station past).ticks in
        let long : length (hearing_of w station past).ticks ≡ length past = hearing-long w.lag station (starts w.plan station) w.loads w.outside past in
        let all : length xs ≡ length (hearing_of w station past).ticks = heard-long c (hearing_of w station past).ticks in
        let ended = waiting.ended in
        record {
          hears = hears-later waiting.hears;
          duty = ap (λ (u : Standing). u.duty) stands-same ∙ waiting.duty;
          channel = ap (λ (u : Standing). u.channel) stands-same ∙ waiting.channel;
          end = ap (λ (u : Standing). u.end) stands-same ∙ waiting.end;
          kept = ap (superseded w.lag) stands-same ∙ waiting.kept;
          silent = ap (λ ys. heard_within ys e (length later)) (heard-is c)
              ∙ within-still n xs e (length later) (within-any xs e (length past) (length later) (omega (arith, long, all)) waiting.silent);
          ended = omega (arith, ended, many);
          early = omega (arith, many, lasts);
        }

    pub duty-later : (duty : Duty) → HasDuty w past station c e part duty → DutyLasts (length past + n) e station duty → Stays n →
        HasDuty w later station c e part duty
    duty-later free has lasts stays = serving-still w.lag station (starts w.plan station) w.loads w.outside past has n stays
    duty-later (owes words acceptance) has lasts stays = owes-later words acceptance has lasts
    duty-later (promises command transmitter) has lasts stays = promises-later command transmitter has lasts
