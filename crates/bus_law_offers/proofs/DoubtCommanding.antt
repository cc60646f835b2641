-- The first command of a station that took control is sent while the one that offered it doubts: what each station does in its ticks.
use Rattle.std.proofs.Common.{◌≡◌, ◌≢◌, inl, inr, ℕ, suc, ◌+◌, ◌<◌, ◌≤◌, true, false, List, [], ◌∷◌, ◌++◌, length, Some, None, refl, sym, ap, ◌∙◌, subst, arith}
use Rattle.std.proofs.lemmas.Bool.{cases_eq}
use Rattle.std.proofs.lemmas.Option.{same_Some}
use Rattle.std.specs.Prelude.{slice_get, not, ◌&&◌, ◌||◌, is_none, flat_map}
use Rattle.bus_base.specs.declared.samples.Channel.{Channel}
use Rattle.bus_base.specs.declared.samples.Drive.TheVariants.{Silent}
use Rattle.bus_base.specs.declared.samples.Pair.{Pair}
use Rattle.bus_base.specs.declared.samples.Part.TheVariants.{Command}
use Rattle.bus_formats.specs.Forms.{command_words}
use Rattle.bus_formats.specs.Plans.{StationData}
use Rattle.bus_formats.specs.Times.{taking_over, doubting}
use Rattle.bus_formats.specs.declared.form.Outcome.TheVariants.{Yielded}
use Rattle.bus_model.specs.Attempts.{Begun, without_words}
use Rattle.bus_model.specs.Control.{so_far, outside_takes, drives_next}
use Rattle.bus_model.specs.Course.{Course, quiet_from}
use Rattle.bus_model.specs.Message.{Present}
use Rattle.bus_model.specs.Sending.{drive_sample}
use Rattle.bus_model.specs.Starts.{Entry, Opening, starts, start_of, has_items}
use Rattle.bus_model.specs.Terminal.{took_now}
use Rattle.bus_model.specs.Transmissions.{station_drive}
use Rattle.bus_model.specs.World.{Trace, is_present, drives_after}
use Rattle.bus_model.specs.WorldLog.{present_stations, ended_by}
use Rattle.bus_law_control.proofs.Holding.{yielded-before, heard-nothing}
use Rattle.bus_law_line.specs.Senders.{Sender}
use Rattle.bus_law_messages.specs.Commands.{command_sender}
use Rattle.bus_law_messages.specs.Settled.{InControl, IsServing}
use Rattle.bus_law_messages.proofs.Holding.{keeps-control, holder-sends}
use Rattle.bus_law_messages.proofs.Listening.{serving-listens, serving-nothing, serving-silent}
use Rattle.bus_law_messages.proofs.Sending.{place-silent, place-drives}
use Rattle.bus_law_moments.specs.Doubts.{attempt_yielded, RestedInDoubt}
use Rattle.bus_law_offers.specs.Yielding.{HeardYielding}
use Rattle.bus_law_offers.proofs.Yielding.{hears-leg, yielding-silent, yielding-takes}
use Rattle.bus_law_phases.specs.Answers.{attempts_ended}
use Rattle.bus_law_phases.specs.Commands.{attempt_recorded}
use Rattle.bus_law_phases.specs.PartRuns.{RunsAlone}
use Rattle.bus_law_phases.specs.Passages.{HoldsAlone}
use Rattle.bus_law_phases.specs.Scenarios.{Scenario, course_of, hearing_of, IsPresentAt, NoneTakesFrom}
use Rattle.bus_law_phases.specs.Silences.{SomeoneIsBusy}
use Rattle.bus_law_phases.proofs.AnswerHolders.{closed-attempts, no-attempts}
use Rattle.bus_law_phases.proofs.AnswerSending.{by-three}
use Rattle.bus_law_phases.proofs.Legs.{runs-less}
use Rattle.bus_law_phases.proofs.Spares.{one-gives}
use Rattle.bus_law_stations.specs.Messages.{BeginsMessage, message_begun, with_running, ShowsBurst}
use Rattle.bus_law_stations.proofs.Commanding.{command-runs}
use Rattle.bus_law_stations.proofs.StillStation.{always-taken}
use Rattle.bus_law_stations.proofs.Turning.{serving-same, holding-course}
use Rattle.bus_law_table.proofs.Takes.{serving-takes, unheard-takes}

module _ (w : Scenario) (now : Trace) (place : ℕ) (holder : StationData) (stations : List Present) (offer : Begun) (x : ℕ) (entry : Entry) (lag : w.lag ≡ 3)
    (moment : RestedInDoubt w now place holder stations offer x) (begins : BeginsMessage (course_of w holder now.shown) now.shown entry)
    (stays : NoneTakesFrom w (length now.shown)) where
  abbrev past : List Pair
  past = now.shown

  abbrev begun : Begun
  begun = message_begun (course_of w holder past) entry (length past)

  abbrev sender : Sender
  sender = command_sender place begun

  abbrev c : Channel
  c = begun.state.channel

  abbrev offerer : StationData
  offerer = moment.offerer

  below : w.lag < 40
  below = omega (arith, lag)

  -- it starts in the tick that it was given
  pub starts-at : x + taking_over ≡ length now.shown
  starts-at =
      let e : Course = course_of w holder past in
      ap (λ (o : Opening). start_of o e.retry e.origin entry (quiet_from past)) (sym moment.takes) ∙ begins.starts

  pub soon : suc (length now.shown) < x + doubting
  soon = let at = starts-at in omega (arith, at)

  -- ---- the station in control

  pub controls : InControl (course_of w holder past) (length past)
  controls = record {
    holds = moment.holds;
    idle = moment.idle;
    before = yielded-before w.lag holder (starts w.plan holder) (so_far w.lag holder (starts w.plan holder) w.loads w.outside past).takes past;
  }

  pub shows-of : (ticks : List Pair) → RunsAlone w.lag c ticks → ShowsBurst w.lag c past ticks
  shows-of ticks alone = record { rests = moment.rests c; leg = alone.leg }

  pub own-drives : (ticks : List Pair) → RunsAlone w.lag c ticks →
      slice_get (drives_after w.lag w.plan w.loads w.outside w.absent (ticks ++ past)) place ≡ Some (drive_sample c Command (command_words entry.item.kind)
      (length ticks))
  own-drives ticks alone =
      place-drives w.lag w.plan w.loads w.outside w.absent (ticks ++ past) place holder
      (drive_sample c Command (command_words entry.item.kind) (length ticks)) moment.at.there moment.at.present
      (holder-sends w.lag holder (starts w.plan holder) w.loads w.outside past entry controls begins ticks (shows-of ticks alone))

  -- its message runs from the first tick on
  holder-runs : (first : Pair) (ticks : List Pair) → RunsAlone w.lag c (first ∷ ticks) →
      course_of w holder ((first ∷ ticks) ++ past) ≡ with_running (course_of w holder past) begun
  holder-runs first ticks alone =
      holding-course w.lag holder (starts w.plan holder) w.loads w.outside past (first ∷ ticks)
      (keeps-control w.lag holder (starts w.plan holder) w.loads w.outside past entry controls begins (first ∷ ticks) (shows-of (first ∷ ticks) alone))
      ∙ command-runs w.lag holder (starts w.plan holder) (so_far w.lag holder (starts w.plan holder) w.loads w.outside past).takes past entry
      (always-taken w.lag holder (starts w.plan holder) w.loads w.outside past) begins ticks first (shows-of (first ∷ ticks) alone)

  holder-holds : (first : Pair) (ticks : List Pair) → RunsAlone w.lag c (first ∷ ticks) → (course_of w holder ((first ∷ ticks) ++ past)).holds ≡ true
  holder-holds first ticks alone = ap (λ (d : Course). d.holds) (holder-runs first ticks alone) ∙ moment.holds

  holder-takes : (first : Pair) (ticks : List Pair) → RunsAlone w.lag c (first ∷ ticks) →
      took_now w.lag holder.terminal w.loads (hearing_of w holder ((first ∷ ticks) ++ past)) ≡ None
  holder-takes first ticks alone =
      unheard-takes w.lag holder (starts w.plan holder) w.loads w.outside first (ticks ++ past)
      (heard-nothing w.lag holder (starts w.plan holder) w.loads w.outside ((first ∷ ticks) ++ past) (holder-holds first ticks alone))

  pub someone-busy : (ticks : List Pair) → RunsAlone w.lag c ticks → SomeoneIsBusy w (ticks ++ past)
  someone-busy [] alone =
      let holds = moment.holds in
      let idle = moment.idle in
      let left = begins.left in
      record { place = place; station = holder; at = moment.at; busy = rw (holds, idle, left) refl }
  someone-busy (first ∷ ticks) alone =
      let holds = moment.holds in
      record {
        place = place;
        station = holder;
        at = moment.at;
        busy = ap (λ (d : Course). not d.holds || (is_none d.runs && not (has_items d.left))) (holder-runs first ticks alone) ∙ rw holds refl;
      }

  -- ---- the station that doubts

  pub offerer-stays : (tick : ℕ) → length now.shown ≤ tick → outside_takes w.lag offerer (starts w.plan offerer) w.loads w.outside tick w.outside ≡ []
  offerer-stays tick low = stays moment.before offerer moment.offerer_at tick low

  pub offerer-hears : (first : Pair) (ticks : List Pair) → RunsAlone w.lag c (first ∷ ticks) → HeardYielding w past offerer offer (first ∷ ticks)
  offerer-hears first ticks alone = hears-leg w past offerer offer x moment.doubt lag soon offerer-stays c first ticks alone

  -- ---- the others

  module _ (other : ℕ) (station : StationData) (at : IsPresentAt w other station) (apart : other ≢ place) (aside : other ≢ moment.before) where
    serving : IsServing w.lag station (starts w.plan station) w.loads w.outside past
    serving = moment.others other station at apart aside

    stays-for : (n tick : ℕ) → length past ≤ tick → tick < length past + n →
        outside_takes w.lag station (starts w.plan station) w.loads w.outside tick w.outside ≡ []
    stays-for n tick low high = stays other station at tick low

    server-silent : (ticks : List Pair) → RunsAlone w.lag c ticks → drives_next w.lag station (starts w.plan station) w.loads w.outside (ticks ++ past) ≡ Silent
    server-silent ticks alone =
        serving-silent w.lag station (starts w.plan station) w.loads w.outside past c below
        (serving-listens w.lag station (starts w.plan station) w.loads w.outside past c serving) ticks alone.leg alone.quiet (stays-for (length ticks))

    pub server-same : (ticks : List Pair) → RunsAlone w.lag c ticks → course_of w station (ticks ++ past) ≡ course_of w station past
    server-same ticks alone =
        serving-same w.lag station (starts w.plan station) w.loads w.outside past ticks serving.serves
        (serving-nothing w.lag station (starts w.plan station) w.loads w.outside past c below
        (serving-listens w.lag station (starts w.plan station) w.loads w.outside past c serving) ticks alone.leg alone.quiet (stays-for (length ticks)))

    server-takes : (first : Pair) (ticks : List Pair) → RunsAlone w.lag c (first ∷ ticks) →
        took_now w.lag station.terminal w.loads (hearing_of w station ((first ∷ ticks) ++ past)) ≡ None
    server-takes first ticks alone =
        serving-takes w.lag station (starts w.plan station) w.loads w.outside past c serving first ticks alone.leg alone.quiet (stays-for (length (first ∷ ticks)))

  -- ---- all of them

  pub others-silent : (ticks : List Pair) → RunsAlone w.lag c ticks → (other : ℕ) → other ≢ place →
      station_drive other (drives_after w.lag w.plan w.loads w.outside w.absent (ticks ++ past)) ≡ Silent
  others-silent ticks alone other apart =
      place-silent w.lag w.plan w.loads w.outside w.absent (ticks ++ past) other (λ station there present.
      elim (cases_eq other moment.before) [
        | inl same ↦ (let here : slice_get w.plan.stations moment.before ≡ Some station = ap (slice_get w.plan.stations) (sym same) ∙ there in
            let is : moment.offerer ≡ station = same_Some moment.offerer station (sym moment.offerer_at.there ∙ here) in
            subst (λ st. drives_next w.lag st (starts w.plan st) w.loads w.outside (ticks ++ past) ≡ Silent) is
            (yielding-silent w past offerer offer x moment.doubt lag soon offerer-stays c ticks alone))
        | inr aside ↦ server-silent other station record { there = there; present = present } apart aside ticks alone
      ])

  pub all-still : (y z : Pair) (ticks : List Pair) → RunsAlone w.lag c (y ∷ (z ∷ ticks)) → (other : ℕ) (station : StationData) → IsPresentAt w other station →
      (course_of w station ((y ∷ (z ∷ ticks)) ++ past)).ended ≡ (course_of w station ((z ∷ ticks) ++ past)).ended
  all-still y z ticks alone =
      let less = runs-less w.lag c y (z ∷ ticks) alone in
      by-three w (λ station. (course_of w station ((y ∷ (z ∷ ticks)) ++ past)).ended ≡ (course_of w station ((z ∷ ticks) ++ past)).ended) place holder
      moment.before offerer moment.at moment.offerer_at
      (ap (λ (d : Course). d.ended) (holder-runs y (z ∷ ticks) alone ∙ sym (holder-runs z ticks less)))
      (ap (λ (d : Course). d.ended) ((offerer-hears y (z ∷ ticks) alone).course ∙ sym (offerer-hears z ticks less).course))
      (λ other station at apart aside. ap (λ (d : Course). d.ended)
      (server-same other station at apart aside (y ∷ (z ∷ ticks)) alone ∙ sym (server-same other station at apart aside (z ∷ ticks) less)))

  pub all-takes : (first : Pair) (ticks : List Pair) → RunsAlone w.lag c (first ∷ ticks) → (other : ℕ) (station : StationData) → IsPresentAt w other station →
      took_now w.lag station.terminal w.loads (hearing_of w station ((first ∷ ticks) ++ past)) ≡ None
  all-takes first ticks alone =
      by-three w (λ station. took_now w.lag station.terminal w.loads (hearing_of w station ((first ∷ ticks) ++ past)) ≡ None) place holder moment.before
      offerer moment.at moment.offerer_at (holder-takes first ticks alone)
      (yielding-takes w past offerer offer x moment.doubt lag soon offerer-stays c first ticks alone)
      (λ other station at apart aside. server-takes other station at apart aside first ticks alone)

  pub held : (first : Pair) (ticks : List Pair) → RunsAlone w.lag c (first ∷ ticks) → HoldsAlone w ((first ∷ ticks) ++ past)
  held first ticks alone = record {
    place = place;
    holder = holder;
    at = moment.at;
    holds = holder-holds first ticks alone;
    others = λ other station at apart. elim (cases_eq other moment.before) [
      | inl same ↦ (let here : slice_get w.plan.stations moment.before ≡ Some station = ap (slice_get w.plan.stations) (sym same) ∙ at.there in
          let is : moment.offerer ≡ station = same_Some moment.offerer station (sym moment.offerer_at.there ∙ here) in
          subst (λ st. (course_of w st ((first ∷ ticks) ++ past)).holds ≡ false) is (ap (λ (d : Course). d.holds) (offerer-hears first ticks alone).course))
      | inr aside ↦ ap (λ (d : Course). d.holds) (server-same other station at apart aside (first ∷ ticks) alone)
          ∙ (moment.others other station at apart aside).serves.serves
    ];
  }

  -- ---- the attempt that ends with the first tick: the offer, yielded

  others-end : (first : Pair) → RunsAlone w.lag c (first ∷ []) → (other : ℕ) (station : StationData) → slice_get w.plan.stations other ≡ Some station →
      other ≢ moment.before → is_present w.absent station ≡ true →
      ended_by w.lag w.plan w.loads w.outside w.absent (first ∷ past) (length past) station ≡ []
  others-end first alone other station there aside present = elim (cases_eq other place) [
    | inl same ↦ (let here : slice_get w.plan.stations place ≡ Some station = ap (slice_get w.plan.stations) (sym same) ∙ there in
        let is : holder ≡ station = same_Some holder station (sym moment.at.there ∙ here) in
        subst (λ st. ended_by w.lag w.plan w.loads w.outside w.absent (first ∷ past) (length past) st ≡ []) is
        (ap (attempts_ended w holder (length past)) (holder-runs first [] alone) ∙ no-attempts w holder past (length past) (omega arith)))
    | inr apart ↦ (let at : IsPresentAt w other station = record { there = there; present = present } in
        ap (attempts_ended w station (length past)) (server-same other station at apart aside (first ∷ []) alone)
        ∙ no-attempts w station past (length past) (omega arith))
  ]

  pub first-ends : (first : Pair) → RunsAlone w.lag c (first ∷ []) →
      flat_map (ended_by w.lag w.plan w.loads w.outside w.absent (first ∷ past) (length past)) (present_stations w.lag w.plan w.loads w.outside w.absent)
      ≡ attempt_yielded offerer offer x ∷ []
  first-ends first alone =
      one-gives (is_present w.absent) (ended_by w.lag w.plan w.loads w.outside w.absent (first ∷ past) (length past)) w.plan.stations moment.before offerer
      moment.offerer_at.there moment.offerer_at.present (others-end first alone)
      ∙ ap (attempts_ended w offerer (length past)) (offerer-hears first [] alone).course
      ∙ closed-attempts w offerer (course_of w offerer past) offer (without_words Yielded None None) (length past)
      ∙ ap (λ n. attempt_recorded offerer.terminal.address offer (without_words Yielded None None) n ∷ []) (sym starts-at)
