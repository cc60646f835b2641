-- A station that yielded to a command, where the end of that command becomes known: its terminal obeyed it, or passed over it.
use Rattle.std.proofs.Common.{◌≡◌, inl, inr, ℕ, zero, suc, ◌+◌, ◌<◌, ◌≤◌, Bool, false, List, [], ◌∷◌, ◌++◌, length, Some, None, refl, sym, ap, ◌∙◌, subst, arith, length-append, append_assoc}
use Rattle.std.proofs.lemmas.Bool.{true≢false}
use Rattle.std.specs.Prelude.{◌||◌}
use Rattle.bus_base.specs.Samples.{other_of}
use Rattle.bus_base.specs.declared.samples.Channel.{Channel}
use Rattle.bus_base.specs.declared.samples.Channel.TheVariants.{A, B}
use Rattle.bus_base.specs.declared.samples.Pair.{Pair}
use Rattle.bus_base.specs.declared.samples.Part.TheVariants.{Command, First}
use Rattle.bus_base.specs.declared.samples.Sample.{Sample}
use Rattle.bus_words.specs.declared.word.Word.{Word}
use Rattle.bus_line.specs.Past.{Burst, InLeg, quiet_ticks, runs, ended_now, rest_of, heard_within}
use Rattle.bus_line.specs.Channels.{on_channel}
use Rattle.bus_formats.specs.Plans.{TerminalData, StationData}
use Rattle.bus_formats.specs.Times.{doubting}
use Rattle.bus_formats.specs.declared.fault.Hit.{Hit}
use Rattle.bus_model.specs.Attempts.{Begun}
use Rattle.bus_model.specs.Control.{StationSoFar, moment_of, outside_takes}
use Rattle.bus_model.specs.Course.{Course}
use Rattle.bus_model.specs.Hearing.{Hearing, Moment, heard_on}
use Rattle.bus_model.specs.Memory.{Memory}
use Rattle.bus_model.specs.Orders.{Duty, free, owes, promises, Obeyed, Order, last_order, due_after}
use Rattle.bus_model.specs.Standing.{Standing, at_rest, mark_on, is_from, superseded, ignored_from, is_owed, is_promise}
use Rattle.bus_model.specs.Starts.{starts, has_items}
use Rattle.bus_model.specs.Terminal.{given_up, standing, took_now}
use Rattle.bus_law_line.specs.Shown.{first_samples}
use Rattle.bus_law_messages.specs.Settled.{IsServing}
use Rattle.bus_law_messages.proofs.Heard.{hearing-long, end-accepts-not, end-obeyed, end-passed}
use Rattle.bus_law_messages.proofs.Listening.{this-or-other}
use Rattle.bus_law_moments.specs.Doubts.{IsInDoubt}
use Rattle.bus_law_offers.specs.Yielding.{course_yielded, HeardYielding}
use Rattle.bus_law_offers.proofs.Yielding.{listens, heard-rests, unmarked, stands-rest, not-promised, yielded-serves, hears-more, hears-leg}
use Rattle.bus_law_parts.specs.Parts.{part_ticks, part_sample, HitsFit}
use Rattle.bus_law_parts.proofs.PartBursts.{ended-part, rests-part, row-tail}
use Rattle.bus_law_phases.specs.Moments.{Hears, Owes, Promises, HasDuty}
use Rattle.bus_law_phases.specs.PartRuns.{burst_shown, RunsAlone}
use Rattle.bus_law_phases.specs.Scenarios.{Scenario, course_of, hearing_of, standing_of}
use Rattle.bus_law_phases.proofs.Within.{within-still, within-late}
use Rattle.bus_law_stations.specs.Legs.{obeyed_in, after_command}
use Rattle.bus_law_stations.specs.Turns.{moments_of, Serves}
use Rattle.bus_law_stations.proofs.LegTicks.{heard-append}
use Rattle.bus_law_stations.proofs.Ready.{other-mark}
use Rattle.bus_law_stations.proofs.Resting.{heard-long, rests-quiet, cases-option}
use Rattle.bus_law_table.proofs.Idle.{moments-shown, moments-many}

count-row : (row : ℕ → Sample) (n : ℕ) → length (first_samples row n) ≡ n
count-row row zero = refl
count-row row (suc n) = ap suc (count-row row n)

both-false : (a b : Bool) → a ≡ false → b ≡ false → (a || b) ≡ false
both-false a b first second = rw (first, second) refl

-- a terminal at rest was addressed on no channel
none-addressed : (s : Standing) (memory : Memory) (d : Channel) → s ≡ at_rest memory → mark_on s.addressed d ≡ None
none-addressed s memory A rest = ap (λ (u : Standing). u.addressed.a) rest
none-addressed s memory B rest = ap (λ (u : Standing). u.addressed.b) rest

module _ (w : Scenario) (past : List Pair) (station : StationData) (begun : Begun) (x : ℕ) (doubt : IsInDoubt w past station begun x) (lag : w.lag ≡ 3)
    (early : suc (length past) < x + doubting)
    (stays : (tick : ℕ) → length past ≤ tick → outside_takes w.lag station (starts w.plan station) w.loads w.outside tick w.outside ≡ []) (c : Channel)
    (y : Pair) (ticks : List Pair) (hits : List Hit) (words : List Word) (some : 0 < part_ticks hits words) (fits : HitsFit Command hits words)
    (many : length ticks ≡ w.lag + part_ticks hits words) (alone : RunsAlone w.lag c ticks)
    (shown : on_channel c (y ∷ ticks) ≡ first_samples (part_sample hits words) (part_ticks hits words + suc w.lag))
    (quiet : on_channel (other_of c) (y ∷ ticks) ≡ quiet_ticks (length (y ∷ ticks))) (prompt : 8 ≤ station.terminal.delay) where
  abbrev k : ℕ
  k = w.lag

  abbrev t : TerminalData
  t = station.terminal

  abbrev memory : Memory
  memory = (hearing_of w station past).memory

  abbrev heard : List Moment
  heard = (hearing_of w station past).ticks

  abbrev d : Course
  d = course_yielded w past station begun

  abbrev s : Standing
  s = standing_of w station past

  abbrev burst : Burst
  burst = burst_shown (length past) hits words

  -- the first tick after it
  abbrev e : ℕ
  e = length past + part_ticks hits words

  abbrev later : List Pair
  later = (y ∷ ticks) ++ past

  abbrev moments : List Moment
  moments = moments_of d ticks

  below : w.lag < 40
  below = omega (arith, lag)

  long-before : length (hearing_of w station past).ticks ≡ length past
  long-before = hearing-long w.lag station (starts w.plan station) w.loads w.outside past

  -- ---- what its terminal heard

  pub hears-ticks : (ms : List Pair) → 0 < length ms → RunsAlone w.lag c ms → HeardYielding w past station begun ms
  hears-ticks [] none runs = absurd (omega (arith, none))
  hears-ticks (z ∷ ms) any runs = hears-leg w past station begun x doubt lag early stays c z ms runs

  end-burst : ended_now w.lag (heard_on c (moment_of y d ∷ (moments ++ heard))) ≡ Some (burst_shown (length past) hits words)
  end-burst =
      ap (ended_now k) (heard-append c (moments_of d (y ∷ ticks)) heard)
      ∙ ap (λ xs. ended_now k (xs ++ heard_on c heard)) (moments-shown c d (y ∷ ticks) ∙ shown)
      ∙ ended-part k Command hits words lag fits (heard_on c heard) some (heard-rests w past station begun x doubt lag early stays c c)
      ∙ ap (λ n. Some (burst_shown n hits words)) (heard-long c heard ∙ long-before)

  end-quiet : heard_on (other_of c) (moment_of y d ∷ moments) ≡ quiet_ticks (length (moment_of y d ∷ moments))
  end-quiet = moments-shown (other_of c) d (y ∷ ticks) ∙ quiet ∙ ap quiet_ticks (sym (moments-many d (y ∷ ticks)))

  end-leg : InLeg w.lag (heard_on c moments)
  end-leg = let leg = alone.leg in rw (moments-shown c d ticks) leg

  hears-all : HeardYielding w past station begun (y ∷ ticks)
  hears-all =
      hears-more w past station begun x doubt lag early stays c y ticks (hears-ticks ticks (omega (arith, many, some)) alone)
      (end-accepts-not w.lag t w.loads memory c heard moments (moment_of y d) burst below (listens w past station begun x doubt lag early stays c) end-leg end-quiet
      end-burst (sym long-before))

  pub end-hearing : hearing_of w station ((y ∷ ticks) ++ past) ≡ record { memory = memory; ticks = moment_of y d ∷ (moments ++ heard) }
  end-hearing = ap (λ (so : StationSoFar). so.hearing) hears-all.so

  -- its controller has yielded
  pub end-course : course_of w station ((y ∷ ticks) ++ past) ≡ course_yielded w past station begun
  end-course = hears-all.course

  pub end-serves : Serves (course_of w station ((y ∷ ticks) ++ past))
  end-serves = subst Serves (sym end-course) (yielded-serves w past station begun x doubt lag early stays c)

  -- ---- what it made of the command

  abbrev obeys : Order → Obeyed
  obeys order = obeyed_in t w.loads (e + w.lag) s c order (rest_of burst) (has_items d.left)

  handled-at : length (moments ++ heard) ≡ e + w.lag
  handled-at =
      let both : length (moments ++ heard) ≡ length moments + length heard = length-append moments heard in
      let here : length moments ≡ length ticks = moments-many d ticks in
      omega (arith, both, here, long-before, many)

  pub obeyed-so : (order : Order) → last_order station.terminal.address burst.slots ≡ Some order →
      let o : Obeyed = obeyed_in station.terminal w.loads (e + w.lag) s c order (rest_of burst) (has_items d.left) in
      (slot_end : ℕ) × (standing_of w station ((y ∷ ticks) ++ past) ≡ after_command s c e slot_end o)
      × (took_now w.lag station.terminal w.loads (hearing_of w station ((y ∷ ticks) ++ past)) ≡ o.taken)
  obeyed-so order last =
      let found = end-obeyed w.lag t w.loads memory c heard moments (moment_of y d) burst below (listens w past station begun x doubt lag early stays c) end-leg
      end-quiet end-burst (sym long-before) order last in (
        found.0,
        ap (λ (h : Hearing). standing w.lag t w.loads h.memory h.ticks) end-hearing
            ∙ found.3
            ∙ ap (λ tick. after_command s c e found.0 (obeyed_in t w.loads tick s c order (rest_of burst) (has_items d.left))) handled-at,
        ap (took_now w.lag t w.loads) end-hearing
            ∙ found.4
            ∙ ap (λ tick. (obeyed_in t w.loads tick s c order (rest_of burst) (has_items d.left)).taken) handled-at,
      )

  pub passed-so : last_order station.terminal.address burst.slots ≡ None → (standing_of w station ((y ∷ ticks) ++ past) ≡ standing_of w station past)
      × (took_now w.lag station.terminal w.loads (hearing_of w station ((y ∷ ticks) ++ past)) ≡ None)
  passed-so last =
      let found = end-passed w.lag t w.loads memory c heard moments (moment_of y d) burst below (listens w past station begun x doubt lag early stays c) end-leg
      end-quiet end-burst (sym long-before) last (not-promised w past station begun x doubt lag early stays c) in (
        ap (λ (h : Hearing). standing w.lag t w.loads h.memory h.ticks) end-hearing ∙ found.0,
        ap (took_now w.lag t w.loads) end-hearing ∙ found.1,
      )

  -- ---- what it hears afterwards

  heard-is : (a : Channel) → heard_on a (hearing_of w station later).ticks ≡ on_channel a (y ∷ ticks) ++ heard_on a heard
  heard-is a =
      ap (λ (h : Hearing). heard_on a h.ticks) end-hearing
      ∙ heard-append a (moments_of d (y ∷ ticks)) heard
      ∙ ap (λ xs. xs ++ heard_on a heard) (moments-shown a d (y ∷ ticks))

  long : length later ≡ e + suc w.lag
  long =
      let both : length ((y ∷ ticks) ++ past) ≡ length (y ∷ ticks) + length past = length-append (y ∷ ticks) past in omega (arith, both, many)

  rests-later : (a : Channel) → runs w.lag (heard_on a (hearing_of w station later).ticks) ≡ false
  rests-later a = ap (runs k) (heard-is a) ∙ elim (this-or-other c a) [
    | inl same ↦ ap (λ b. runs k (on_channel b (y ∷ ticks) ++ heard_on a heard)) same
        ∙ ap (λ xs. runs k (xs ++ heard_on a heard)) shown
        ∙ rests-part k Command hits words lag fits (suc k) (heard_on a heard) (omega arith)
    | inr other ↦ ap (λ b. runs k (on_channel b (y ∷ ticks) ++ heard_on a heard)) other
        ∙ ap (λ xs. runs k (xs ++ heard_on a heard)) quiet
        ∙ rests-quiet k (length (y ∷ ticks)) (heard_on a heard) (heard-rests w past station begun x doubt lag early stays c a)
  ]

  -- the ticks before the end of the burst
  abbrev front : List Sample
  front = first_samples (part_sample hits words) (part_ticks hits words) ++ heard_on c heard

  front-long : length front ≡ e
  front-long =
      let both = length-append (first_samples (part_sample hits words) (part_ticks hits words)) (heard_on c heard) in
      let row = count-row (part_sample hits words) (part_ticks hits words) in
      let one = heard-long c heard in
      let all = long-before in omega (arith, both, row, one, all)

  heard-end : heard_on c (hearing_of w station later).ticks ≡ quiet_ticks (suc w.lag) ++ front
  heard-end =
      heard-is c
      ∙ ap (λ xs. xs ++ heard_on c heard) (shown ∙ row-tail k Command hits words lag fits (suc k))
      ∙ append_assoc (quiet_ticks (suc k)) (first_samples (part_sample hits words) (part_ticks hits words)) (heard_on c heard)

  -- its channel was quiet since
  silent-since : (b : ℕ) → heard_within (heard_on c (hearing_of w station later).ticks) e b ≡ false
  silent-since b = ap (λ xs. heard_within xs e b) heard-end ∙ within-still (suc k) front e b (within-late front e b (omega (arith, front-long)))

  -- ---- by what stands of it

  module _ (u : Standing) (stands : standing_of w station ((y ∷ ticks) ++ past) ≡ u) (sent : u.sent ≡ s.sent) where
    heeds-later : (a : Channel) → ignored_from w.lag (heard_on a (hearing_of w station later).ticks) (mark_on (standing_of w station later).sent a) ≡ false
    heeds-later a =
        ap (λ (v : Standing). ignored_from k (heard_on a (hearing_of w station later).ticks) (mark_on v.sent a)) stands
        ∙ ap (λ m. ignored_from k (heard_on a (hearing_of w station later).ticks) (mark_on m a)) sent
        ∙ ap (ignored_from k (heard_on a (hearing_of w station later).ticks)) (unmarked w past station begun x doubt lag early stays c a)

    hears-later : Hears w later station
    hears-later = record { serves = end-serves; rests = rests-later; heeds = heeds-later }

    pub left-free : u.duty ≡ free → IsServing w.lag station (starts w.plan station) w.loads w.outside ((y ∷ ticks) ++ past)
    left-free none = record {
      serves = end-serves;
      free = record {
        rests = rests-later;
        heeds = heeds-later;
        over = λ owed. absurd (true≢false (sym owed ∙ ap (λ (v : Standing). is_owed v.duty) stands ∙ ap is_owed none));
        promise = ap (λ (v : Standing). is_promise v.duty) stands ∙ ap is_promise none;
      };
    }

    module _ (channel : u.channel ≡ c) (end : u.end ≡ e) (marks : mark_on u.addressed (other_of c) ≡ mark_on s.addressed (other_of c)) where
      -- no command came later on the other channel
      newest : superseded w.lag u ≡ false
      newest =
          ap (λ a. is_from (u.end + k) (mark_on u.addressed (other_of a))) channel
          ∙ ap (is_from (u.end + k)) (marks ∙ none-addressed s memory (other_of c) (stands-rest w past station begun x doubt lag early stays c))

      pub left-owes : (ws : List Word) (acceptance : Bool) → u.part ≡ First → u.duty ≡ owes ws acceptance → Owes w ((y ∷ ticks) ++ past) station c e First ws acceptance
      left-owes ws acceptance is owed = record {
        hears = hears-later;
        duty = ap (λ (v : Standing). v.duty) stands ∙ owed;
        channel = ap (λ (v : Standing). v.channel) stands ∙ channel;
        end = ap (λ (v : Standing). v.end) stands ∙ end;
        part_is = ap (λ (v : Standing). v.part) stands ∙ is;
        kept = ap (given_up k t (heard_on c (hearing_of w station later).ticks)) stands
            ∙ both-false (superseded k u) (heard_within (heard_on c (hearing_of w station later).ticks) u.end (due_after t u.end)) newest
            (ap (λ a. heard_within (heard_on c (hearing_of w station later).ticks) a (due_after t u.end)) end ∙ silent-since (due_after t u.end));
        early = omega (arith, long, prompt, lag);
      }

      pub left-promises : (command transmitter : ℕ) → u.duty ≡ promises command transmitter → Promises w ((y ∷ ticks) ++ past) station c e command transmitter
      left-promises command transmitter made = record {
        hears = hears-later;
        duty = ap (λ (v : Standing). v.duty) stands ∙ made;
        channel = ap (λ (v : Standing). v.channel) stands ∙ channel;
        end = ap (λ (v : Standing). v.end) stands ∙ end;
        kept = ap (superseded k) stands ∙ newest;
        silent = silent-since (length later);
        ended = omega (arith, long);
        early = omega (arith, long, lag);
      }

  -- ---- what it owes then

  has-obeyed : (order : Order) → last_order station.terminal.address burst.slots ≡ Some order → (duty : Duty) → (obeys order).duty ≡ duty →
      HasDuty w ((y ∷ ticks) ++ past) station c e First duty
  has-obeyed order last free is =
      let o = obeyed-so order last in left-free (after_command s c e o.0 (obeys order)) o.1 refl is
  has-obeyed order last (owes ws acceptance) is =
      let o = obeyed-so order last in
      left-owes (after_command s c e o.0 (obeys order)) o.1 refl refl refl (other-mark s c (Some o.0)) ws acceptance refl is
  has-obeyed order last (promises command transmitter) is =
      let o = obeyed-so order last in
      left-promises (after_command s c e o.0 (obeys order)) o.1 refl refl refl (other-mark s c (Some o.0)) command transmitter is

  pub yielded-has : (duty : Duty) →
      ((order : Order) → last_order station.terminal.address burst.slots ≡ Some order →
      (obeyed_in station.terminal w.loads (e + w.lag) s c order (rest_of burst) (has_items d.left)).duty ≡ duty) →
      (last_order station.terminal.address burst.slots ≡ None → duty ≡ free) → HasDuty w ((y ∷ ticks) ++ past) station c e First duty
  yielded-has duty obeyed none = elim (cases-option (last_order station.terminal.address burst.slots)) [
    | inl without ↦ subst (HasDuty w ((y ∷ ticks) ++ past) station c e First) (sym (none without))
        (left-free s (passed-so without).0 refl (ap (λ (v : Standing). v.duty) (stands-rest w past station begun x doubt lag early stays c)))
    | inr found ↦ has-obeyed found.0 found.1 duty (obeyed found.0 found.1)
  ]
