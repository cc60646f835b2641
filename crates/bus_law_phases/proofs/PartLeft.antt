-- What the end of a part leaves of a station that listened to it: it is free; or it owes an answer; or it promised to take the next burst.
use Rattle.std.proofs.Common.{◌≡◌, inl, inr, ℕ, zero, suc, ◌+◌, ◌<◌, ◌≤◌, Bool, false, List, [], ◌∷◌, ◌++◌, length, Some, None, refl, ap, ◌∙◌, arith, append_assoc, length-append}
use Rattle.std.specs.Prelude.{◌||◌}
use Rattle.bus_base.specs.Samples.{other_of}
use Rattle.bus_base.specs.declared.samples.Channel.{Channel}
use Rattle.bus_base.specs.declared.samples.Pair.{Pair}
use Rattle.bus_base.specs.declared.samples.Part.{Part}
use Rattle.bus_base.specs.declared.samples.Part.TheVariants.{First, Second}
use Rattle.bus_base.specs.declared.samples.Sample.{Sample}
use Rattle.bus_words.specs.declared.word.Word.{Word}
use Rattle.bus_line.specs.Past.{Burst, InLeg, quiet_ticks, runs, rest_of, heard_within}
use Rattle.bus_line.specs.Channels.{on_channel}
use Rattle.bus_formats.specs.Plans.{TerminalData, StationData}
use Rattle.bus_formats.specs.declared.fault.Hit.{Hit}
use Rattle.bus_model.specs.Orders.{free, owes, promises, Obeyed, Order, last_order, due_after}
use Rattle.bus_model.specs.Hearing.{Hearing, heard_on}
use Rattle.bus_model.specs.Standing.{Standing, mark_on, is_from, superseded, ignored_from}
use Rattle.bus_model.specs.Starts.{starts, has_items}
use Rattle.bus_model.specs.Terminal.{given_up}
use Rattle.bus_model.specs.Course.{Course}
use Rattle.bus_model.specs.Control.{outside_takes}
use Rattle.bus_law_line.specs.Shown.{first_samples}
use Rattle.bus_law_parts.specs.Parts.{part_ticks, part_sample, HitsFit}
use Rattle.bus_law_parts.proofs.PartBursts.{rests-part, row-tail}
use Rattle.bus_law_stations.specs.Legs.{obeyed_in, settled_in, after_command, after_promise}
use Rattle.bus_law_stations.specs.Turns.{moments_of}
use Rattle.bus_law_stations.proofs.BurstEnds.{marks-before}
use Rattle.bus_law_stations.proofs.Due.{not-from}
use Rattle.bus_law_stations.proofs.LegTicks.{heard-append, heeded-later}
use Rattle.bus_law_stations.proofs.Ready.{other-mark}
use Rattle.bus_law_stations.proofs.Resting.{heard-long, rests-quiet}
use Rattle.bus_law_messages.specs.Settled.{IsServing}
use Rattle.bus_law_messages.specs.Promises.{Listens, HeardBurst}
use Rattle.bus_law_messages.proofs.Heard.{hearing-long}
use Rattle.bus_law_messages.proofs.Listening.{moments-shown, this-or-other}
use Rattle.bus_law_phases.proofs.Settling.{serving-then}
use Rattle.bus_law_phases.specs.Scenarios.{Scenario, course_of, hearing_of, standing_of}
use Rattle.bus_law_phases.specs.Moments.{Hears, Owes, Promises}
use Rattle.bus_law_phases.specs.PartRuns.{burst_shown}
use Rattle.bus_law_phases.proofs.PartHeard.{heard-burst}
use Rattle.bus_law_phases.proofs.Within.{within-still, within-late}

count-row : (row : ℕ → Sample) (n : ℕ) → length (first_samples row n) ≡ n
count-row row zero = refl
count-row row (suc n) = ap suc (count-row row n)

both-false : (a b : Bool) → a ≡ false → b ≡ false → (a || b) ≡ false
both-false a b first second = rw (first, second) refl

module _ (w : Scenario) (past : List Pair) (station : StationData) (c : Channel) (listens : Listens w.lag station (starts w.plan station) w.loads w.outside past c)
    (x : Pair) (ticks : List Pair) (part : Part) (hits : List Hit) (words : List Word)
    (lag : w.lag ≡ 3) (some : 0 < part_ticks hits words) (fits : HitsFit part hits words) (many : length ticks ≡ w.lag + part_ticks hits words)
    (leg : InLeg w.lag (on_channel c ticks))
    (shown : on_channel c (x ∷ ticks) ≡ first_samples (part_sample hits words) (part_ticks hits words + suc w.lag))
    (quiet : on_channel (other_of c) (x ∷ ticks) ≡ quiet_ticks (length (x ∷ ticks)))
    (stays : (tick : ℕ) → length past ≤ tick → tick < length past + length (x ∷ ticks) →
    outside_takes w.lag station (starts w.plan station) w.loads w.outside tick w.outside ≡ []) where
  abbrev k : ℕ
  k = w.lag

  abbrev t : TerminalData
  t = station.terminal

  abbrev burst : Burst
  burst = burst_shown (length past) hits words

  -- the first tick after it
  abbrev e : ℕ
  e = length past + part_ticks hits words

  abbrev later : List Pair
  later = (x ∷ ticks) ++ past

  abbrev s : Standing
  s = standing_of w station past

  pub heard : HeardBurst w.lag station (starts w.plan station) w.loads w.outside past (x ∷ ticks) c burst
  heard =
      heard-burst w.lag station (starts w.plan station) w.loads w.outside past c (omega (arith, lag)) listens x ticks part hits words lag some fits many leg
      shown quiet stays

  abbrev obeys : Order → Obeyed
  obeys order = obeyed_in t w.loads (e + k) s c order (rest_of burst) (has_items (course_of w station past).left)

  abbrev settles : ℕ → ℕ → Obeyed
  settles command transmitter = settled_in t w.loads (e + k) s c command transmitter burst

  -- ---- no burst runs

  rests-more : (d : Channel) (before : List Sample) → runs k before ≡ false → runs k (on_channel d (x ∷ ticks) ++ before) ≡ false
  rests-more d before rests = elim (this-or-other c d) [
    | inl same ↦ ap (λ a. runs k (on_channel a (x ∷ ticks) ++ before)) same
        ∙ ap (λ xs. runs k (xs ++ before)) shown
        ∙ rests-part k part hits words lag fits (suc k) before (omega arith)
    | inr other ↦ ap (λ a. runs k (on_channel a (x ∷ ticks) ++ before)) other
        ∙ ap (λ xs. runs k (xs ++ before)) quiet
        ∙ rests-quiet k (length (x ∷ ticks)) before rests
  ]

  -- ---- it owes nothing

  pub left-serving : ((order : Order) → last_order t.address burst.slots ≡ Some order → (obeys order).duty ≡ free) →
      ((command transmitter : ℕ) → last_order t.address burst.slots ≡ None → s.duty ≡ promises command transmitter →
      (settles command transmitter).duty ≡ free) →
      IsServing w.lag station (starts w.plan station) w.loads w.outside later
  left-serving obeyed settled =
      serving-then w.lag station (starts w.plan station) w.loads w.outside past c (x ∷ ticks) burst listens heard rests-more obeyed settled

  -- ---- what it hears afterwards

  heard-is : (d : Channel) → heard_on d (hearing_of w station later).ticks ≡ on_channel d (x ∷ ticks) ++ heard_on d (hearing_of w station past).ticks
  heard-is d =
      ap (λ (h : Hearing). heard_on d h.ticks) heard.hears
      ∙ heard-append d (moments_of (course_of w station past) (x ∷ ticks)) (hearing_of w station past).ticks
      ∙ ap (λ xs. xs ++ heard_on d (hearing_of w station past).ticks) (moments-shown d (course_of w station past) (x ∷ ticks))

  long : length later ≡ e + suc k
  long =
      let both : length ((x ∷ ticks) ++ past) ≡ length (x ∷ ticks) + length past = length-append (x ∷ ticks) past in omega (arith, both, many)

  -- the ticks before the end of the burst
  abbrev front : List Sample
  front = first_samples (part_sample hits words) (part_ticks hits words) ++ heard_on c (hearing_of w station past).ticks

  front-long : length front ≡ e
  front-long =
      let both = length-append (first_samples (part_sample hits words) (part_ticks hits words)) (heard_on c (hearing_of w station past).ticks) in
      let row = count-row (part_sample hits words) (part_ticks hits words) in
      let one = heard-long c (hearing_of w station past).ticks in
      let all = hearing-long w.lag station (starts w.plan station) w.loads w.outside past in omega (arith, both, row, one, all)

  heard-end : heard_on c (hearing_of w station later).ticks ≡ quiet_ticks (suc k) ++ front
  heard-end =
      heard-is c
      ∙ ap (λ xs. xs ++ heard_on c (hearing_of w station past).ticks) (shown ∙ row-tail k part hits words lag fits (suc k))
      ∙ append_assoc (quiet_ticks (suc k)) (first_samples (part_sample hits words) (part_ticks hits words)) (heard_on c (hearing_of w station past).ticks)

  -- its channel was quiet since
  silent-since : (b : ℕ) → heard_within (heard_on c (hearing_of w station later).ticks) e b ≡ false
  silent-since b =
      ap (λ xs. heard_within xs e b) heard-end
      ∙ within-still (suc k) front e b (within-late front e b (omega (arith, front-long)))

  module _ (u : Standing) (stands : standing_of w station later ≡ u) (sent : u.sent ≡ s.sent) where
    hears-later : Hears w later station
    hears-later = record {
      serves = record {
        serves = ap (λ (d : Course). d.holds) heard.course ∙ listens.serves.serves;
        idle = ap (λ (d : Course). d.runs) heard.course ∙ listens.serves.idle;
      };
      rests = λ d. ap (runs k) (heard-is d) ∙ rests-more d (heard_on d (hearing_of w station past).ticks) (listens.listens.rests d);
      heeds = λ d. ap (λ (v : Standing). ignored_from k (heard_on d (hearing_of w station later).ticks) (mark_on v.sent d)) stands
          ∙ ap (λ m. ignored_from k (heard_on d (hearing_of w station later).ticks) (mark_on m d)) sent
          ∙ ap (λ xs. ignored_from k xs (mark_on s.sent d)) (heard-is d)
          ∙ heeded-later k (on_channel d (x ∷ ticks)) (heard_on d (hearing_of w station past).ticks) (mark_on s.sent d) (listens.listens.heeds d);
    }

    module _ (channel : u.channel ≡ c) (end : u.end ≡ e) (marks : mark_on u.addressed (other_of c) ≡ mark_on s.addressed (other_of c)) where
      -- no command came later on the other channel
      newest : superseded k u ≡ false
      newest =
          ap (λ d. is_from (u.end + k) (mark_on u.addressed (other_of d))) channel
          ∙ ap (is_from (u.end + k)) marks
          ∙ not-from (u.end + k) (mark_on s.addressed (other_of c))
          (λ m is. let early = marks-before k t w.loads (hearing_of w station past).memory (other_of c) (hearing_of w station past).ticks m is in
          let all = hearing-long w.lag station (starts w.plan station) w.loads w.outside past in omega (arith, early, all, end))

      pub left-owes : (which : Part) (ws : List Word) (acceptance : Bool) → u.part ≡ which → u.duty ≡ owes ws acceptance →
          length later ≤ due_after t e → Owes w later station c e which ws acceptance
      left-owes which ws acceptance is owed early = record {
        hears = hears-later;
        duty = ap (λ (v : Standing). v.duty) stands ∙ owed;
        channel = ap (λ (v : Standing). v.channel) stands ∙ channel;
        end = ap (λ (v : Standing). v.end) stands ∙ end;
        part_is = ap (λ (v : Standing). v.part) stands ∙ is;
        kept = ap (given_up k t (heard_on c (hearing_of w station later).ticks)) stands
            ∙ both-false (superseded k u) (heard_within (heard_on c (hearing_of w station later).ticks) u.end (due_after t u.end)) newest
            (ap (λ a. heard_within (heard_on c (hearing_of w station later).ticks) a (due_after t u.end)) end ∙ silent-since (due_after t u.end));
        early = early;
      }

      pub left-promises : (command transmitter : ℕ) → u.duty ≡ promises command transmitter → Promises w later station c e command transmitter
      left-promises command transmitter made = record {
        hears = hears-later;
        duty = ap (λ (v : Standing). v.duty) stands ∙ made;
        channel = ap (λ (v : Standing). v.channel) stands ∙ channel;
        end = ap (λ (v : Standing). v.end) stands ∙ end;
        kept = ap (superseded k) stands ∙ newest;
        silent = silent-since (length later);
        ended = omega (arith, long);
        early = omega (arith, long, lag);
      }

  -- ---- by what it obeyed, or settled

  pub obeyed-owes : (order : Order) (ws : List Word) (acceptance : Bool) → last_order t.address burst.slots ≡ Some order →
      (obeys order).duty ≡ owes ws acceptance → length later ≤ due_after t e → Owes w later station c e First ws acceptance
  obeyed-owes order ws acceptance last owed early =
      let o = heard.obeyed order last in
      left-owes (after_command s c e o.0 (obeys order)) o.1 refl refl refl (other-mark s c (Some o.0)) First ws acceptance refl owed early

  pub obeyed-promises : (order : Order) (command transmitter : ℕ) → last_order t.address burst.slots ≡ Some order →
      (obeys order).duty ≡ promises command transmitter → Promises w later station c e command transmitter
  obeyed-promises order command transmitter last made =
      let o = heard.obeyed order last in
      left-promises (after_command s c e o.0 (obeys order)) o.1 refl refl refl (other-mark s c (Some o.0)) command transmitter made

  pub settled-owes : (command transmitter : ℕ) (ws : List Word) (acceptance : Bool) → last_order t.address burst.slots ≡ None →
      s.duty ≡ promises command transmitter → s.channel ≡ c → (settles command transmitter).duty ≡ owes ws acceptance → length later ≤ due_after t e →
      Owes w later station c e Second ws acceptance
  settled-owes command transmitter ws acceptance last made on owed early =
      let o = heard.settled command transmitter last made in
      left-owes (after_promise s e (settles command transmitter)) o.0 refl on refl refl Second ws acceptance refl owed early
