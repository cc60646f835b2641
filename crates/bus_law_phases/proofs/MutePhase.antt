-- An answer of which nothing is shown: both channels are quiet while it is sent, nothing comes to pass, and then nobody owes it any more.
use Rattle.std.proofs.Common.{◌≡◌, ◌≢◌, inl, inr, ℕ, zero, suc, ◌+◌, ◌<◌, ◌≤◌, false, List, [], ◌∷◌, ◌++◌, length, map, Some, None, refl, sym, ap, ◌∙◌, subst, arith}
use Rattle.std.proofs.lemmas.Bool.{cases_eq, cases_Bool, true≢false}
use Rattle.std.proofs.lemmas.Option.{same_Some}
use Rattle.std.specs.List.{All}
use Rattle.std.specs.Prelude.{not, ◌&&◌, ◌||◌, is_none, slice_get, flat_map}
use Rattle.bus_base.specs.Samples.{quiet_pair, quiet_pairs}
use Rattle.bus_base.specs.declared.samples.Channel.{Channel}
use Rattle.bus_base.specs.declared.samples.Drive.TheVariants.{Silent}
use Rattle.bus_base.specs.declared.samples.Pair.{Pair}
use Rattle.bus_base.specs.declared.samples.Part.{Part}
use Rattle.bus_line.specs.Past.{runs}
use Rattle.bus_line.specs.Channels.{on_channel}
use Rattle.bus_formats.specs.Accepted.{IsAccepted}
use Rattle.bus_formats.specs.Plans.{StationData}
use Rattle.bus_formats.specs.Times.{no_response}
use Rattle.bus_formats.specs.declared.fault.Hit.{Hit}
use Rattle.bus_model.specs.Control.{outside_takes, drives_next}
use Rattle.bus_model.specs.Course.{Course, quiet_from}
use Rattle.bus_model.specs.Message.{Present, After}
use Rattle.bus_model.specs.Orders.{Duty, free, owes, promises, due_after}
use Rattle.bus_model.specs.Sending.{drive_sample}
use Rattle.bus_model.specs.Standing.{is_owed}
use Rattle.bus_model.specs.Starts.{starts, has_items}
use Rattle.bus_model.specs.Strikes.{hits_on, ShownBurst, burst_end, Answer}
use Rattle.bus_model.specs.Terminal.{took_now}
use Rattle.bus_model.specs.Transmissions.{station_drive}
use Rattle.bus_model.specs.Wire.{drivers}
use Rattle.bus_model.specs.World.{Trace, is_present, drives_after}
use Rattle.bus_model.specs.WorldLog.{present_stations, ended_by}
use Rattle.bus_law_line.specs.Senders.{Sender}
use Rattle.bus_law_messages.proofs.Pausing.{on-quiet, from-quiet}
use Rattle.bus_law_messages.proofs.Sending.{place-silent, place-drives}
use Rattle.bus_law_parts.specs.Parts.{part_ticks}
use Rattle.bus_law_stations.specs.Silence.{NothingStarts, StationRests}
use Rattle.bus_law_stations.proofs.Resting.{rests-quiet}
use Rattle.bus_law_stations.proofs.StillStation.{still-after, still-quiet}
use Rattle.bus_law_table.proofs.Pairing.{Each}
use Rattle.bus_law_table.proofs.Still.{rests-takes}
use Rattle.bus_law_phases.specs.Scenarios.{Scenario, trace_at, shown_at, driven_at, commands_in, course_of, hearing_of, IsPresentAt, NoneTakesFrom, StaysFrom}
use Rattle.bus_law_phases.specs.Passages.{HoldsAlone, IsOrderly, Passage, nothing_happens}
use Rattle.bus_law_phases.specs.Silences.{GoesOnTo}
use Rattle.bus_law_phases.specs.Moments.{HasDuty, DutyLasts, Owes, IsHolder, IsServer, IsAfter, Underway}
use Rattle.bus_law_phases.specs.Mutes.{IsMute, answered_by, answered}
use Rattle.bus_law_phases.proofs.MuteDuties.{IsOwing, OwesThis, owing-beside, all-owe-this, mute-part, due-early, answer-attempt, all-answered}
use Rattle.bus_law_phases.proofs.MuteStation.{mute-course, mute-drives, mute-none, mute-serving, mute-told}
use Rattle.bus_law_phases.proofs.MuteTicks.{MuteTicks, mute-ticks, mute-counts, mute-drivers, mute-spent, mute-fresh}
use Rattle.bus_law_phases.proofs.Pairs.{beside-at, beside-with}
use Rattle.bus_law_phases.proofs.Passing.{joined, none-passed}
use Rattle.bus_law_phases.proofs.Resting.{rests-fewer, each-present, none-of-each}
use Rattle.bus_law_phases.proofs.SilencedBeside.{ends-none, server-rests, server-then, not-holder, at-each, holder-told}
use Rattle.bus_law_phases.proofs.SilencedPromises.{beside-image}
use Rattle.bus_law_phases.proofs.SilencedStart.{named-apart}
use Rattle.bus_law_phases.proofs.SilencedTick.{NoneTakesBlocks, over-not-now, quiet-tick-passes}
use Rattle.bus_law_phases.proofs.SilencedUnmoved.{pairs-none}
use Rattle.bus_law_phases.proofs.Unheard.{holder-rests}
use Rattle.bus_law_phases.proofs.Staying.{long-at, long-later, ticks-later}

module _ (w : Scenario) (t place : ℕ) (holder : StationData) (part : Part) (burst : ShownBurst) (afters : List After) (answer : Answer)
    (lag : w.lag ≡ 3) (accepted : IsAccepted w.plan) (stays : StaysFrom w t) (m : IsMute w t place holder part burst afters answer)
    (waits : NothingStarts w.lag (course_of w holder (shown_at w t)) (shown_at w t) (suc w.lag)) (goes : GoesOnTo w (shown_at w t) (t + suc w.lag)) where
  abbrev past : List Pair
  past = shown_at w t

  abbrev later : ℕ → List Pair
  later n = quiet_pairs n ++ past

  abbrev c : Channel
  c = burst.channel

  abbrev e : ℕ
  e = burst_end burst

  abbrev all : ℕ
  all = suc w.lag

  abbrev Now : StationData → After → Type 0
  Now = IsAfter w past place holder c e part

  long : length (shown_at w t) ≡ t
  long = long-at w t stays

  stays-here : NoneTakesFrom w (length (shown_at w t))
  stays-here = subst (NoneTakesFrom w) (sym long) stays.takes

  owes-this : Each (OwesThis burst answer) afters
  owes-this = all-owe-this burst afters answer m.moment.one m.found

  owes-station : (station : StationData) (after : After) → IsServer w past c e part station after → IsOwing burst answer after →
      Owes w past station c e part answer.words answer.acceptance
  owes-station station after server owing = subst (HasDuty w past station c e part) owing.duty server.duty

  due-station : (station : StationData) (after : After) → IsServer w past c e part station after → IsOwing burst answer after →
      due_after station.terminal e ≡ length past
  due-station station after server owing =
      ap (λ (p : Present). due_after p.plan.terminal e) server.is ∙ sym owing.start ∙ m.due ∙ sym long

  -- ---- who sends it

  module _ (a : ℕ) (answering : StationData) (away : a ≢ place) (at : IsPresentAt w a answering)
      (owed : Owes w past answering c e part answer.words answer.acceptance) (due : due_after answering.terminal e ≡ length past)
      (own_address : answer.address ≡ answering.terminal.address) where
    stays-for : (other : ℕ) (station : StationData) → IsPresentAt w other station → (tick : ℕ) → length past ≤ tick →
        outside_takes w.lag station (starts w.plan station) w.loads w.outside tick w.outside ≡ []
    stays-for other station there tick low = stays-here other station there tick low

    early : length (shown_at w t) + 4 ≤ e + no_response
    early = let most = due-early w.plan a answering e accepted at.there in omega (arith, most, due)

    lasts-by : (station : StationData) (duty : Duty) → is_owed duty ≡ false → DutyLasts (length past + all) e station duty
    lasts-by station free none = tt
    lasts-by station (owes words acceptance) none = absurd (true≢false none)
    lasts-by station (promises command transmitter) none = omega (arith, early, lag)

    rests-own : StationRests w.lag holder (starts w.plan holder) w.loads w.outside past all
    rests-own =
        holder-rests w.lag holder (starts w.plan holder) w.loads w.outside past m.moment.holds all waits
        (λ tick low high. stays-for place holder m.moment.at tick low)

    -- another one owes none
    unowed : (other : ℕ) (station : StationData) (after : After) → IsPresentAt w other station → other ≢ a → IsServer w past c e part station after →
        OwesThis burst answer after → is_owed after.duty ≡ false
    unowed other station after there aside server owes_it = elim (cases_Bool (is_owed after.duty)) [
      | inr none ↦ none
      | inl some ↦ absurd (named-apart w.plan accepted a answering at.there other station there.there aside
          (ap (λ (p : Present). p.plan.terminal.address) server.is ∙ sym (owes_it some).address ∙ own_address))
    ]

    rests-other : (other : ℕ) (station : StationData) → IsPresentAt w other station → other ≢ place → other ≢ a →
        StationRests w.lag station (starts w.plan station) w.loads w.outside past all
    rests-other other station there apart aside =
        let found = beside-at Now (OwesThis burst answer) (is_present w.absent) w.plan.stations afters other station m.moment.stations owes-this
        there.there there.present in
        elim found.1 [
          | inl own ↦ not-holder w (trace_at w t) place holder c e part afters m.moment all stays-here other station there apart own.0
          | inr server ↦ server-rests w (trace_at w t) place holder c e part afters m.moment all stays-here other station found.0 there server.3
              (lasts-by found.0.station.plan found.0.duty (unowed other station found.0 there aside server.3 found.2))
        ]

    -- a fact of all of them
    three : (P : StationData → Type 0) → P holder → P answering →
        ((other : ℕ) (station : StationData) → IsPresentAt w other station → other ≢ place → other ≢ a → P station) →
        (other : ℕ) (station : StationData) → IsPresentAt w other station → P station
    three P own speaks others =
        at-each w place holder m.moment.at P own (λ other station there apart. elim (cases_eq other a) [
          | inl same ↦ (let here : slice_get w.plan.stations a ≡ Some station = ap (slice_get w.plan.stations) (sym same) ∙ there.there in
              subst P (same_Some answering station (sym at.there ∙ here)) speaks)
          | inr aside ↦ others other station there apart aside
        ])

    fewer : (station : StationData) (n : ℕ) → n ≤ all → StationRests w.lag station (starts w.plan station) w.loads w.outside past all →
        StationRests w.lag station (starts w.plan station) w.loads w.outside past n
    fewer station n few rests = rests-fewer w.lag station (starts w.plan station) w.loads w.outside past all n few rests

    -- ---- what they do over n of the ticks

    course-then : (n : ℕ) → n ≤ all → (other : ℕ) (station : StationData) → IsPresentAt w other station →
        course_of w station (later n) ≡ course_of w station past
    course-then n few =
        three (λ station. course_of w station (later n) ≡ course_of w station past)
        (still-after w.lag holder (starts w.plan holder) w.loads w.outside past n (fewer holder n few rests-own))
        (mute-course w past answering c e part answer.words answer.acceptance owed due (stays-for a answering at) n)
        (λ other station there apart aside.
        still-after w.lag station (starts w.plan station) w.loads w.outside past n (fewer station n few (rests-other other station there apart aside)))

    takes-then : (n : ℕ) → n < all → NoneTakesBlocks w (later n)
    takes-then n few =
        three (λ station. took_now w.lag station.terminal w.loads (hearing_of w station (quiet_pair ∷ later n)) ≡ None)
        (rests-takes w.lag w.plan w.loads w.outside w.absent holder past n (fewer holder (suc n) (omega (arith, few)) rests-own))
        (mute-none w past answering c e part answer.words answer.acceptance owed due (stays-for a answering at) n)
        (λ other station there apart aside.
        rests-takes w.lag w.plan w.loads w.outside w.absent station past n
        (fewer station (suc n) (omega (arith, few)) (rests-other other station there apart aside)))

    silent-then : (n : ℕ) → n < all → (other : ℕ) (station : StationData) → IsPresentAt w other station → other ≢ a →
        drives_next w.lag station (starts w.plan station) w.loads w.outside (later n) ≡ Silent
    silent-then n few other station there aside = elim (cases_eq other place) [
      | inl same ↦ (let here : slice_get w.plan.stations place ≡ Some station = ap (slice_get w.plan.stations) (sym same) ∙ there.there in
          subst (λ st. drives_next w.lag st (starts w.plan st) w.loads w.outside (later n) ≡ Silent)
          (same_Some holder station (sym m.moment.at.there ∙ here))
          (still-quiet w.lag holder (starts w.plan holder) w.loads w.outside past n (fewer holder (suc n) (omega (arith, few)) rests-own)))
      | inr apart ↦ still-quiet w.lag station (starts w.plan station) w.loads w.outside past n
          (fewer station (suc n) (omega (arith, few)) (rests-other other station there apart aside))
    ]

    hands : (n : ℕ) → n ≤ all → HoldsAlone w (quiet_pairs n ++ shown_at w t)
    hands n few = record {
      place = place;
      holder = holder;
      at = m.moment.at;
      holds = ap (λ (d : Course). d.holds) (course-then n few place holder m.moment.at) ∙ m.moment.holds;
      others = λ other station there apart.
          ap (λ (d : Course). d.holds) (course-then n few other station there) ∙ (m.moment.serves other station there apart).serves;
    }

    -- ---- the ticks

    abbrev s : Sender
    s = record { station = a; channel = c; part = part; words = answer.words }

    abbrev hits : List Hit
    hits = hits_on w.plan.faults (commands_in w (driven_at w t)) part

    mute : part_ticks (hits_on w.plan.faults (commands_in w (driven_at w t)) part) answer.words ≡ 0
    mute = mute-part hits _ answer m.found m.mute

    own : (n : ℕ) → n < all → slice_get (drives_after w.lag w.plan w.loads w.outside w.absent (later n)) a ≡ Some (drive_sample c part answer.words n)
    own n few =
        place-drives w.lag w.plan w.loads w.outside w.absent (later n) a answering (drive_sample c part answer.words n) at.there at.present
        (mute-drives w past answering c e part answer.words answer.acceptance owed due (stays-for a answering at) n (omega (arith, few)))

    others : (n : ℕ) → n < all → (other : ℕ) → other ≢ a →
        station_drive other (drives_after w.lag w.plan w.loads w.outside w.absent (later n)) ≡ Silent
    others n few other aside =
        place-silent w.lag w.plan w.loads w.outside w.absent (later n) other (λ st there present.
        silent-then n few other st record { there = there; present = present } aside)

    ticks : (n : ℕ) → n ≤ all → MuteTicks w (trace_at w t) s hits n
    ticks n few =
        mute-ticks w (trace_at w t) s hits all (m.moment.fresh c a) m.moment.spent
        (ap (λ i. hits_on w.plan.faults i part) (answer-attempt w t part m.part_is)) m.fits mute (omega (arith, lag)) own others n few

    later-is : (n : ℕ) (few : n ≤ all) → trace_at w (t + n) ≡ record { shown = later n; driven = (ticks n few).driven ++ driven_at w t }
    later-is n few = sym (ticks-later w t n stays) ∙ (ticks n few).world

    shown-is : (n : ℕ) → n ≤ all → shown_at w (t + n) ≡ quiet_pairs n ++ shown_at w t
    shown-is n few = ap (λ (tr : Trace). tr.shown) (later-is n few)

    driven-is : (n : ℕ) (few : n ≤ all) → driven_at w (t + n) ≡ (ticks n few).driven ++ driven_at w t
    driven-is n few = ap (λ (tr : Trace). tr.driven) (later-is n few)

    next-tick : (n : ℕ) → t + suc n ≡ suc (t + n)
    next-tick n = omega arith

    counts : (n : ℕ) → n ≤ all → commands_in w (driven_at w (t + n)) ≡ commands_in w (driven_at w t)
    counts n few = ap (λ driven. commands_in w driven) (driven-is n few) ∙ mute-counts w (trace_at w t) s hits m.part_is n (ticks n few)

    rests-then : (n : ℕ) (d : Channel) → runs w.lag (on_channel d (quiet_pairs n ++ shown_at w t)) ≡ false
    rests-then n d = ap (runs w.lag) (on-quiet d n past) ∙ rests-quiet w.lag n (on_channel d past) (m.moment.rests d)

    goes-then : (n : ℕ) → n < all → GoesOnTo w (quiet_pairs n ++ shown_at w t) (suc (t + n))
    goes-then n few = elim goes [
      | inl busy ↦ inl record {
        place = busy.place;
        station = busy.station;
        at = busy.at;
        busy = ap (λ (d : Course). not d.holds || (is_none d.runs && not (has_items d.left))) (course-then n (omega (arith, few)) busy.place busy.station busy.at)
            ∙ busy.busy;
      }
      | inr bound ↦ inr (let same : quiet_from (quiet_pairs n ++ shown_at w t) ≡ quiet_from (shown_at w t) = from-quiet n past in
          omega (arith, bound, few, same))
    ]

    orderly : (n : ℕ) → n < all → IsOrderly w (t + n)
    orderly n few =
        let more : suc n ≤ all = omega (arith, few) in
        let less : n ≤ all = omega (arith, few) in
        record {
          alone = λ d. subst (λ u. drivers w.plan.faults d (driven_at w u) ≤ 1) (next-tick n)
              (subst (λ driven. drivers w.plan.faults d driven ≤ 1) (sym (driven-is (suc n) more))
              (mute-drivers w (trace_at w t) s hits m.part_is n (ticks (suc n) more) d));
          hands = inl (subst (λ u. HoldsAlone w (shown_at w u)) (next-tick n)
              (subst (HoldsAlone w) (sym (shown-is (suc n) more)) (hands (suc n) more)));
          goes_on = over-not-now w (t + n) (long-later w t (t + n) (omega arith) stays) (subst (λ p. GoesOnTo w p (suc (t + n))) (sym (shown-is n less)) (goes-then n few));
        }

    ended : (n : ℕ) → n < all →
        flat_map (ended_by w.lag w.plan w.loads w.outside w.absent (quiet_pair ∷ later n) (length (later n)))
        (present_stations w.lag w.plan w.loads w.outside w.absent) ≡ []
    ended n few =
        let more : suc n ≤ all = omega (arith, few) in
        let less : n ≤ all = omega (arith, few) in
        none-of-each (λ st. ended_by w.lag w.plan w.loads w.outside w.absent (quiet_pair ∷ later n) (length (later n)) st ≡ [])
        (ended_by w.lag w.plan w.loads w.outside w.absent (quiet_pair ∷ later n) (length (later n)))
        (present_stations w.lag w.plan w.loads w.outside w.absent)
        (each-present w past (λ st. ended_by w.lag w.plan w.loads w.outside w.absent (quiet_pair ∷ later n) (length (later n)) st ≡ [])
        (λ other station there.
        ends-none w (later n) station (course-then (suc n) more other station there ∙ sym (course-then n less other station there)))) (λ st is. is)

    step : (n : ℕ) → n < all → Passage w (t + n) (suc (t + n)) nothing_happens
    step n few =
        let more : suc n ≤ all = omega (arith, few) in
        let less : n ≤ all = omega (arith, few) in
        let here : shown_at w (t + n) ≡ quiet_pairs n ++ shown_at w t = shown-is n less in
        quiet-tick-passes w (t + n)
        (ap (shown_at w) (sym (next-tick n)) ∙ shown-is (suc n) more ∙ ap (λ p. quiet_pair ∷ p) (sym here))
        (λ d. ap (λ p. runs w.lag (on_channel d p)) here ∙ rests-then n d)
        (ap (λ u. commands_in w (driven_at w u)) (sym (next-tick n)) ∙ counts (suc n) more ∙ sym (counts n less))
        (orderly n few) (subst (NoneTakesBlocks w) (sym here) (takes-then n few)) []
        (ap (λ p. flat_map (ended_by w.lag w.plan w.loads w.outside w.absent (quiet_pair ∷ p) (length p))
        (present_stations w.lag w.plan w.loads w.outside w.absent)) here ∙ ended n few)

    passes : (n : ℕ) → n ≤ all → Passage w t (t + n) nothing_happens
    passes zero few = let same : t ≡ t + 0 = omega arith in subst (λ u. Passage w t u nothing_happens) same (none-passed w t)
    passes (suc n) few =
        subst (λ u. Passage w t u nothing_happens) (sym (next-tick n))
        (joined w t (t + n) (suc (t + n)) nothing_happens nothing_happens (passes n (omega (arith, few))) (step n (omega (arith, few))))

    -- ---- the stations afterwards

    own-then : (after : After) → IsHolder w past holder after → IsHolder w (later all) holder (answered after)
    own-then after own =
        let still = holder-told w past holder all rests-own after own in
        subst (λ duty. IsHolder w (later all) holder (answered_by after duty)) (sym own.duty) still

    told-by : (other : ℕ) (station : StationData) (after : After) → IsPresentAt w other station → IsServer w past c e part station after →
        OwesThis burst answer after → (duty : Duty) → after.duty ≡ duty → IsServer w (later all) c e part station (answered_by after duty)
    told-by other station after there server owes_it free is =
        server-then w (trace_at w t) place holder c e part afters m.moment all stays-here other station after there server
        (lasts-by after.station.plan after.duty (ap is_owed is))
    told-by other station after there server owes_it (promises command transmitter) is =
        server-then w (trace_at w t) place holder c e part afters m.moment all stays-here other station after there server
        (lasts-by after.station.plan after.duty (ap is_owed is))
    told-by other station after there server owes_it (owes words acceptance) is =
        let owing = owes_it (ap is_owed is) in
        let mine = owes-station station after server owing in
        let when = due-station station after server owing in
        record {
          is = mute-told w past station c e part answer.words answer.acceptance mine when (stays-for other station there) after.station server.is;
          duty = mute-serving w past station c e part answer.words answer.acceptance mine when (stays-for other station there);
        }

    after-then : (station : StationData) (after : After) → Now station after → OwesThis burst answer after →
        IsAfter w (later all) place holder c e part station (answered after)
    after-then station after is owes_it = elim is [
      | inl own ↦ inl (
        own.0,
        subst (λ st. IsHolder w (later all) st (answered after)) (sym own.0)
            (own-then after (subst (λ st. IsHolder w past st after) own.0 own.1)),
      )
      | inr server ↦ inr (server.0, server.1, server.2, told-by server.0 station after server.2 server.3 owes_it after.duty refl)
    ]

    then-underway : Underway w (trace_at w (t + all)) place holder c e part (map answered afters)
    then-underway =
        let whole : all ≤ all = omega arith in
        subst (λ tr. Underway w tr place holder c e part (map answered afters)) (sym (later-is all whole)) record {
          rests = rests-then all;
          fresh = mute-fresh w (trace_at w t) s hits m.part_is w.lag (ticks all whole) lag mute;
          spent = mute-spent w (trace_at w t) s hits m.part_is w.lag (ticks all whole) mute;
          at = m.moment.at;
          holds = ap (λ (d : Course). d.holds) (course-then all whole place holder m.moment.at) ∙ m.moment.holds;
          serves = λ other station there apart.
              let before = m.moment.serves other station there apart in
              let same = course-then all whole other station there in
              record { serves = ap (λ (d : Course). d.holds) same ∙ before.serves; idle = ap (λ (d : Course). d.runs) same ∙ before.idle };
          stations = beside-image (IsAfter w (later all) place holder c e part) answered (present_stations w.lag w.plan w.loads w.outside w.absent) afters
              (beside-with Now (λ station after. IsAfter w (later all) place holder c e part station (answered after)) (OwesThis burst answer)
              (present_stations w.lag w.plan w.loads w.outside w.absent) afters m.moment.stations owes-this after-then);
          one = pairs-none (map answered afters) (all-answered afters);
        }

    whole-law : (shown_at w (t + suc w.lag) ≡ quiet_pairs (suc w.lag) ++ shown_at w t)
        × Underway w (trace_at w (t + suc w.lag)) place holder burst.channel (burst_end burst) part (map answered afters)
        × All (λ after. is_owed after.duty ≡ false) (map answered afters)
        × (course_of w holder (shown_at w (t + suc w.lag)) ≡ course_of w holder (shown_at w t))
        × (quiet_from (shown_at w (t + suc w.lag)) ≡ quiet_from (shown_at w t)) × Passage w t (t + suc w.lag) nothing_happens
    whole-law =
        let whole : all ≤ all = omega arith in (
          shown-is all whole,
          then-underway,
          all-answered afters,
          ap (course_of w holder) (shown-is all whole) ∙ course-then all whole place holder m.moment.at,
          ap quiet_from (shown-is all whole) ∙ from-quiet all past,
          passes all whole,
        )

  -- the entry that owes it isn't that of the station in control
  free-owes : (after : After) → after.duty ≡ free → IsOwing burst answer after → ⊥
  free-owes after is owing = let bad : free ≡ owes answer.words answer.acceptance = sym is ∙ owing.duty in absurd (cc)

  pub mute-passes : (shown_at w (t + suc w.lag) ≡ quiet_pairs (suc w.lag) ++ shown_at w t)
      × Underway w (trace_at w (t + suc w.lag)) place holder burst.channel (burst_end burst) part (map answered afters)
      × All (λ after. is_owed after.duty ≡ false) (map answered afters)
      × (course_of w holder (shown_at w (t + suc w.lag)) ≡ course_of w holder (shown_at w t))
      × (quiet_from (shown_at w (t + suc w.lag)) ≡ quiet_from (shown_at w t)) × Passage w t (t + suc w.lag) nothing_happens
  mute-passes =
      let found = owing-beside Now burst (present_stations w.lag w.plan w.loads w.outside w.absent) afters answer m.moment.stations m.found in
      elim found.2 [
        | inl own ↦ absurd (free-owes found.1 own.1.duty found.3)
        | inr server ↦ whole-law server.0 found.0 server.1 server.2 (owes-station found.0 found.1 server.3 found.3)
            (due-station found.0 found.1 server.3 found.3)
            (found.3.address ∙ sym (ap (λ (p : Present). p.plan.terminal.address) server.3.is))
      ]
