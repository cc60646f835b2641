-- A message whose answer never comes, to the end: its station waits, closes it, and when all promises have run out the moment lies between two
-- messages.
use Rattle.std.proofs.Common.{◌≡◌, ◌⊎◌, inl, inr, ℕ, suc, ◌+◌, ◌-◌, ◌≤◌, false, List, [], ◌∷◌, ◌++◌, length, map, Option, Some, None, refl, sym, ap, ◌∙◌, subst, arith}
use Rattle.std.proofs.lemmas.Bool.{true≢false}
use Rattle.std.proofs.lemmas.List.Elements.{All-nil, All-cons, All-head, All-tail}
use Rattle.std.proofs.lemmas.Option.{none-some, same_Some}
use Rattle.std.specs.List.{All}
use Rattle.bus_base.specs.Samples.{quiet_pairs}
use Rattle.bus_base.specs.declared.samples.Channel.{Channel}
use Rattle.bus_base.specs.declared.samples.Pair.{Pair}
use Rattle.bus_base.specs.declared.samples.Part.{Part}
use Rattle.bus_base.specs.declared.samples.Part.TheVariants.{Second}
use Rattle.bus_base.specs.declared.samples.Sample.{Sample}
use Rattle.bus_line.specs.Past.{quiet_ticks}
use Rattle.bus_line.specs.Channels.{on_channel}
use Rattle.bus_formats.specs.Plans.{StationData}
use Rattle.bus_formats.specs.Times.{no_response, relay_wait, ending_quiet, settling_quiet}
use Rattle.bus_retry.specs.declared.RetryState.{RetryState}
use Rattle.bus_formats.specs.declared.form.Outcome.TheVariants.{NoResponse}
use Rattle.bus_model.specs.Attempts.{Begun, Ended, without_words}
use Rattle.bus_model.specs.Course.{Course, gives, close, quiet_from}
use Rattle.bus_model.specs.Memory.{TimedLoad}
use Rattle.bus_model.specs.Message.{After, after_silence_of, after_silence}
use Rattle.bus_model.specs.Orders.{Duty, free, owes, promises}
use Rattle.bus_model.specs.Standing.{is_owed}
use Rattle.bus_model.specs.Starts.{Entry, usual, quiet_for, start_of}
use Rattle.bus_model.specs.Strikes.{ShownBurst, burst_end}
use Rattle.bus_law_phases.proofs.Awaiting.{awaits-quiet, second-quiet}
use Rattle.bus_law_messages.proofs.Pausing.{on-quiet, from-quiet}
use Rattle.bus_law_stations.specs.Silence.{AwaitsFirst, AwaitsSecond, NothingStarts}
use Rattle.bus_law_table.specs.Stations.{IsNamedApart}
use Rattle.bus_law_phases.specs.Scenarios.{Scenario, trace_at, shown_at, course_of, StaysFrom}
use Rattle.bus_law_phases.specs.Passages.{Passage, nothing_happens}
use Rattle.bus_law_phases.specs.Silences.{GoesOnTo}
use Rattle.bus_law_phases.specs.Moments.{DutyLasts, Underway, LastsTo}
use Rattle.bus_law_phases.specs.Rests.{Rested}
use Rattle.bus_law_phases.specs.Closings.{AwaitsAnswer, unanswered, StaysUnanswered, attempt_ends, stations_closed}
use Rattle.bus_law_phases.proofs.Lasting.{lasting}
use Rattle.bus_law_phases.proofs.Passing.{joined}
use Rattle.bus_law_phases.proofs.SilencedEnd.{without-response}
use Rattle.bus_law_phases.proofs.SilencedItems.{items-silence}
use Rattle.bus_law_phases.proofs.SilencedMoments.{closed-rested}
use Rattle.bus_law_phases.proofs.SilencedPromises.{promises-over}
use Rattle.bus_law_phases.proofs.Staying.{long-later, stays-later}

-- ---- what the table makes of silence where nobody promised

silence-none : (k : ℕ) (loads : List TimedLoad) (burst : ShownBurst) (a : After) → a.duty ≡ free → (after_silence k loads burst a).station ≡ a.station
silence-none k loads burst a is = ap (λ duty. (after_silence_of k loads burst a.station duty).station) is

pub silence-stations : (k : ℕ) (loads : List TimedLoad) (burst : ShownBurst) (afters : List After) → All (λ after. after.duty ≡ free) afters →
    map (λ after. after.station) (map (after_silence k loads burst) afters) ≡ map (λ after. after.station) afters
silence-stations k loads burst [] all = refl
silence-stations k loads burst (a ∷ afters) all =
    ap (λ x. x ∷ map (λ after. after.station) (map (after_silence k loads burst) afters))
    (silence-none k loads burst a (All-head (λ after. after.duty ≡ free) a afters all))
    ∙ ap (λ xs. a.station ∷ xs) (silence-stations k loads burst afters (All-tail (λ after. after.duty ≡ free) a afters all))

-- ---- how long a moment lasts in which nobody owes an answer

lasts-by : (u e : ℕ) (station : StationData) (duty : Duty) → is_owed duty ≡ false → u ≤ e + relay_wait → DutyLasts u e station duty
lasts-by u e station free none early = tt
lasts-by u e station (owes words acceptance) none early = absurd (true≢false none)
lasts-by u e station (promises command transmitter) none early = early

all-last : (u e : ℕ) (afters : List After) → u ≤ e + relay_wait → All (λ after. is_owed after.duty ≡ false) afters → All (LastsTo u e) afters
all-last u e [] early none = All-nil (LastsTo u e)
all-last u e (a ∷ afters) early none =
    All-cons (LastsTo u e) a afters (lasts-by u e a.station.plan a.duty (All-head (λ after. is_owed after.duty ≡ false) a afters none) early)
    (all-last u e afters early (All-tail (λ after. is_owed after.duty ≡ false) a afters none))

-- from one tick to a later one
lasting-to : (w : Scenario) (t u place : ℕ) (holder : StationData) (c : Channel) (e : ℕ) (part : Part) (afters : List After) → t ≤ u →
    Underway w (trace_at w t) place holder c e part afters → NothingStarts w.lag (course_of w holder (shown_at w t)) (shown_at w t) (u - t) →
    All (LastsTo u e) afters → StaysFrom w t → GoesOnTo w (shown_at w t) u →
    (shown_at w u ≡ quiet_pairs (u - t) ++ shown_at w t) × Underway w (trace_at w u) place holder c e part afters
    × (course_of w holder (shown_at w u) ≡ course_of w holder (shown_at w t)) × Passage w t u nothing_happens
lasting-to w t u place holder c e part afters later moment waits lasts stays goes =
    let same : u ≡ t + (u - t) = omega (arith, later) in
    subst (λ v. (shown_at w v ≡ quiet_pairs (u - t) ++ shown_at w t) × Underway w (trace_at w v) place holder c e part afters
    × (course_of w holder (shown_at w v) ≡ course_of w holder (shown_at w t)) × Passage w t v nothing_happens) (sym same)
    (lasting w t (u - t) place holder c e part afters moment waits (subst (λ v. All (LastsTo v e) afters) same lasts) stays
    (subst (GoesOnTo w (shown_at w t)) same goes))

-- ---- the station that waits

-- it waits for the same answer over quiet ticks, and its message would end so still
waits-on : (k : ℕ) (begun : Begun) (n : ℕ) (past : List Sample) (e : ℕ) (waits : AwaitsFirst k begun past e ⊎ AwaitsSecond k begun past e) →
    (later : AwaitsFirst k begun (quiet_ticks n ++ past) e ⊎ AwaitsSecond k begun (quiet_ticks n ++ past) e)
    × (unanswered k begun (quiet_ticks n ++ past) e later ≡ unanswered k begun past e waits)
waits-on k begun n past e (inl first) = (inl (awaits-quiet k begun n past e first), refl)
waits-on k begun n past e (inr second) =
    let still = second-quiet k begun n past e second in
    (inr still.0, ap (λ (s : ℕ). without_words (NoResponse Second) (Some s) None) still.1)

ending-keeps : (k : ℕ) (begun : Begun) (past : List Sample) (e : ℕ) (waits : AwaitsFirst k begun past e ⊎ AwaitsSecond k begun past e) →
    gives (unanswered k begun past e waits).outcome ≡ false
ending-keeps k begun past e (inl first) = refl
ending-keeps k begun past e (inr second) = refl

-- its next message waits until nobody can still answer
ending-opens : (k : ℕ) (begun : Begun) (past : List Sample) (e tick : ℕ) (c : Course) (waits : AwaitsFirst k begun past e ⊎ AwaitsSecond k begun past e) →
    (close c begun (unanswered k begun past e waits) tick).opening ≡ usual settling_quiet (suc tick)
ending-opens k begun past e tick c (inl first) = refl
ending-opens k begun past e tick c (inr second) = refl

needs : (retry : Option RetryState) (entry : Entry) (need : ℕ) → need ≤ quiet_for retry entry need
needs None entry need = omega arith
needs (Some state) entry need = omega arith

-- a closed message starts nothing before that
closed-rests : (k : ℕ) (c : Course) (past : List Pair) (n tick : ℕ) → c.runs ≡ None → c.opening ≡ usual settling_quiet tick →
    length past + n ≤ quiet_from past + settling_quiet → NothingStarts k c past n
closed-rests k c past n tick idle opens early = record {
  waits = λ begun runs. absurd (none-some begun (sym idle ∙ runs));
  starts = λ still holds entry later left.
      let need = needs c.retry entry settling_quiet in
      subst (λ o. length past + n ≤ start_of o c.retry c.origin entry (quiet_from past)) (sym opens) (omega (arith, early, need));
}

-- ---- the world

module _ (w : Scenario) (t place : ℕ) (holder : StationData) (part : Part) (burst : ShownBurst) (afters : List After) (begun : Begun)
    (apart : IsNamedApart w.plan place holder) (stays : StaysFrom w t) (so : StaysUnanswered w t place holder part burst afters begun) where
  abbrev e : ℕ
  e = burst_end burst

  abbrev closing : ℕ
  closing = burst_end burst + no_response

  abbrev out : ℕ
  out = burst_end burst + relay_wait

  abbrev before : Course
  before = course_of w holder (shown_at w t)

  abbrev ended : Ended
  ended = unanswered w.lag begun (on_channel begun.state.channel (shown_at w t)) e so.awaits.waits

  long : (u : ℕ) → t ≤ u → length (shown_at w u) ≡ u
  long u up = long-later w t u up stays

  stays-from : (u : ℕ) → t ≤ u → StaysFrom w u
  stays-from u later = stays-later w t u later stays

  goes-to : (u v : ℕ) → quiet_from (shown_at w u) ≡ e → v ≤ e + ending_quiet → GoesOnTo w (shown_at w u) v
  goes-to u v quiet early = inr (omega (arith, quiet, early))

  -- until an answer would count no more
  waits : NothingStarts w.lag (course_of w holder (shown_at w t)) (shown_at w t) (closing - t)
  waits =
      let early = so.early in
      let now : length (shown_at w t) ≡ t = long t (omega arith) in
      record {
        waits = λ other is. (
          e,
          subst (λ b. AwaitsFirst w.lag b (on_channel b.state.channel (shown_at w t)) e ⊎ AwaitsSecond w.lag b (on_channel b.state.channel (shown_at w t)) e)
              (same_Some begun other (sym so.awaits.runs ∙ is)) so.awaits.waits,
          omega (arith, now, early),
        );
        starts = λ idle holds entry later left. absurd (none-some begun (sym idle ∙ so.awaits.runs));
      }

  waited : (shown_at w closing ≡ quiet_pairs (closing - t) ++ shown_at w t)
      × Underway w (trace_at w (burst_end burst + no_response)) place holder burst.channel (burst_end burst) part afters
      × (course_of w holder (shown_at w closing) ≡ course_of w holder (shown_at w t)) × Passage w t closing nothing_happens
  waited =
      lasting-to w t closing place holder burst.channel e part afters so.early so.moment waits (all-last closing e afters (omega arith) so.unowed) stays
      (goes-to t closing so.quiet (omega arith))

  still : (later : AwaitsFirst w.lag begun (on_channel begun.state.channel (shown_at w closing)) e
      ⊎ AwaitsSecond w.lag begun (on_channel begun.state.channel (shown_at w closing)) e)
      × (unanswered w.lag begun (on_channel begun.state.channel (shown_at w closing)) e later ≡ ended)
  still =
      subst (λ xs. (later : AwaitsFirst w.lag begun xs e ⊎ AwaitsSecond w.lag begun xs e) × (unanswered w.lag begun xs e later ≡ ended))
      (sym (ap (on_channel begun.state.channel) waited.0 ∙ on-quiet begun.state.channel (closing - t) (shown_at w t)))
      (waits-on w.lag begun (closing - t) (on_channel begun.state.channel (shown_at w t)) e so.awaits.waits)

  awaits-then : AwaitsAnswer w (shown_at w closing) holder begun e
  awaits-then = record { runs = ap (λ (c : Course). c.runs) waited.2 ∙ so.awaits.runs; waits = still.0 }

  quiet-then : quiet_from (shown_at w closing) ≡ e
  quiet-then = ap quiet_from waited.0 ∙ from-quiet (closing - t) (shown_at w t) ∙ so.quiet

  -- its station closes it
  closes-now : (shown_at w (suc closing) ≡ quiet_pairs 1 ++ shown_at w closing)
      × Underway w (trace_at w (suc closing)) place holder burst.channel (burst_end burst) part afters
      × (course_of w holder (shown_at w (suc closing)) ≡ close before begun ended closing) × (quiet_from (shown_at w (suc closing)) ≡ e)
      × Passage w closing (suc closing) (attempt_ends holder begun ended closing)
  unfolding awaits-then
  closes-now =
      let over = without-response w closing place holder burst.channel e part afters begun waited.1 awaits-then refl
      (all-last (suc closing) e afters (omega arith) so.unowed) (stays-from closing so.early) in (
        over.0,
        over.1,
        over.2
            ∙ ap (λ c. close c begun (unanswered w.lag begun (on_channel begun.state.channel (shown_at w closing)) e still.0) closing) waited.2
            ∙ ap (λ x. close before begun x closing) still.1,
        over.3 ∙ quiet-then,
        subst (λ x. Passage w closing (suc closing) (attempt_ends holder begun x closing)) still.1 over.4,
      )

  -- it starts nothing until the promises have run out
  rests-for : (u n : ℕ) → t ≤ u → quiet_from (shown_at w u) ≡ e → u + n ≤ e + settling_quiet → course_of w holder (shown_at w u) ≡ close before begun ended closing →
      NothingStarts w.lag (course_of w holder (shown_at w u)) (shown_at w u) n
  rests-for u n up quiet early is =
      let now = long u up in
      closed-rests w.lag (course_of w holder (shown_at w u)) (shown_at w u) n (suc closing) (ap (λ (c : Course). c.runs) is)
      (ap (λ (c : Course). c.opening) is
      ∙ ending-opens w.lag begun (on_channel begun.state.channel (shown_at w t)) e closing before so.awaits.waits) (omega (arith, now, quiet, early))

  rested : (shown_at w out ≡ quiet_pairs (out - suc closing) ++ shown_at w (suc closing))
      × Underway w (trace_at w (burst_end burst + relay_wait)) place holder burst.channel (burst_end burst) part afters
      × (course_of w holder (shown_at w out) ≡ course_of w holder (shown_at w (suc closing))) × Passage w (suc closing) out nothing_happens
  rested =
      let early = so.early in
      lasting-to w (suc closing) out place holder burst.channel e part afters (omega arith) closes-now.1
      (rests-for (suc closing) (out - suc closing) (omega (arith, early)) closes-now.3 (omega arith) closes-now.2) (all-last out e afters (omega arith) so.unowed)
      (stays-from (suc closing) (omega (arith, early))) (goes-to (suc closing) out closes-now.3 (omega arith))

  quiet-out : quiet_from (shown_at w out) ≡ e
  quiet-out = ap quiet_from rested.0 ∙ from-quiet (out - suc closing) (shown_at w (suc closing)) ∙ closes-now.3

  closed-out : course_of w holder (shown_at w out) ≡ close before begun ended closing
  closed-out = rested.2 ∙ closes-now.2

  abbrev settled : List After
  settled = map (after_silence w.lag w.loads burst) afters

  -- promises run out
  over : (shown_at w (suc out) ≡ quiet_pairs 1 ++ shown_at w out)
      × Underway w (trace_at w (suc out)) place holder burst.channel (burst_end burst) part (map (after_silence w.lag w.loads burst) afters)
      × All (λ after. after.duty ≡ free) (map (after_silence w.lag w.loads burst) afters)
      × (course_of w holder (shown_at w (suc out)) ≡ course_of w holder (shown_at w out)) × (quiet_from (shown_at w (suc out)) ≡ quiet_from (shown_at w out))
      × Passage w out (suc out) nothing_happens
  over =
      let early = so.early in
      promises-over w out place holder burst e part afters rested.1 refl so.unowed (rests-for out 1 (omega (arith, early)) quiet-out (omega arith) closed-out)
      (stays-from out (omega (arith, early))) (goes-to out (suc out) quiet-out (omega arith))

  closed-over : course_of w holder (shown_at w (suc out)) ≡ close before begun ended closing
  closed-over = over.3 ∙ closed-out

  pub unanswered-over : Rested w (trace_at w (suc (burst_end burst + relay_wait))) place holder
      (stations_closed holder begun (unanswered w.lag begun (on_channel begun.state.channel (shown_at w t)) (burst_end burst) so.awaits.waits)
      (map (after_silence w.lag w.loads burst) afters))
      × (course_of w holder (shown_at w (suc (burst_end burst + relay_wait)))
      ≡ close (course_of w holder (shown_at w t)) begun
      (unanswered w.lag begun (on_channel begun.state.channel (shown_at w t)) (burst_end burst) so.awaits.waits) (burst_end burst + no_response))
      × (quiet_from (shown_at w (suc (burst_end burst + relay_wait))) ≡ burst_end burst)
      × Passage w t (suc (burst_end burst + relay_wait)) (attempt_ends holder begun
      (unanswered w.lag begun (on_channel begun.state.channel (shown_at w t)) (burst_end burst) so.awaits.waits) (burst_end burst + no_response))
  unanswered-over = (
    closed-rested w (trace_at w (suc out)) place holder burst.channel e part settled over.1 apart before begun ended closing record {
      held = so.moment.holds;
      closes = closed-over;
      keeps = ending-keeps w.lag begun (on_channel begun.state.channel (shown_at w t)) e so.awaits.waits;
      duties = over.2;
      items = items-silence holder before w.lag w.loads burst afters so.items;
    },
    closed-over,
    over.4 ∙ quiet-out,
    joined w t out (suc out) (attempt_ends holder begun ended closing) nothing_happens
        (joined w t (suc closing) out (attempt_ends holder begun ended closing) nothing_happens
        (joined w t closing (suc closing) nothing_happens (attempt_ends holder begun ended closing) waited.3 closes-now.4) rested.3) over.5,
  )
