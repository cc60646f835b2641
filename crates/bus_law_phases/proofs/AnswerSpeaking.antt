-- The station that answers, whatever strikes its words: it hears none of them, takes no block of them, and is free after them.
use Rattle.std.proofs.Common.{◌≡◌, inl, inr, ℕ, suc, ◌+◌, ◌<◌, ◌≤◌, Bool, true, false, List, [], ◌∷◌, ◌++◌, length, Option, Some, None, refl, sym, ap, ◌∙◌, subst, arith, length-append}
use Rattle.std.specs.Prelude.{is_some, is_none}
use Rattle.bus_base.specs.Samples.{sample_on, other_of}
use Rattle.bus_base.specs.declared.samples.Channel.{Channel}
use Rattle.bus_base.specs.declared.samples.Channel.TheVariants.{A, B}
use Rattle.bus_base.specs.declared.samples.Pair.{Pair}
use Rattle.bus_base.specs.declared.samples.Part.{Part}
use Rattle.bus_words.specs.declared.word.Word.{Word}
use Rattle.bus_line.specs.Past.{quiet_ticks, runs, ended_now, end_since}
use Rattle.bus_line.specs.Channels.{on_channel}
use Rattle.bus_formats.specs.Plans.{TerminalData, StationData}
use Rattle.bus_formats.specs.declared.fault.Hit.{Hit}
use Rattle.bus_model.specs.Memory.{TimedLoad}
use Rattle.bus_model.specs.Orders.{owes, due_after}
use Rattle.bus_model.specs.Hearing.{Moment, Hearing, heard_on}
use Rattle.bus_model.specs.Standing.{Standing, mark_on, ignored_from, is_owed, is_promise}
use Rattle.bus_model.specs.Starts.{starts}
use Rattle.bus_model.specs.Terminal.{order_on, order_now, taken_by, took_now, standing, standing_after, accepted_by, accepted_now}
use Rattle.bus_model.specs.Course.{Course}
use Rattle.bus_model.specs.Control.{OutsideTake, StationSoFar, moment_of, course_after, hearing_after, outside_takes}
use Rattle.bus_law_line.specs.Shown.{first_samples}
use Rattle.bus_law_parts.specs.Parts.{part_ticks, part_sample, HitsFit}
use Rattle.bus_law_parts.proofs.PartBursts.{end-part, rests-part}
use Rattle.bus_law_stations.specs.Legs.{HearsBurst, with_sent}
use Rattle.bus_law_stations.specs.Turns.{moments_of, TakesNothing}
use Rattle.bus_law_stations.proofs.LegTicks.{heard-append, heeded-later, leg-endless, leg-ends-not}
use Rattle.bus_law_stations.proofs.Ready.{orders-none}
use Rattle.bus_law_stations.proofs.Resting.{heard-long, rests-quiet}
use Rattle.bus_law_stations.proofs.SenderTicks.{sender-stands, sender-ends}
use Rattle.bus_law_stations.proofs.Turning.{serving-hears, serving-same}
use Rattle.bus_law_stations.proofs.Unheeded.{quiet-unheeded}
use Rattle.bus_law_messages.specs.Settled.{IsFree, IsServing}
use Rattle.bus_law_messages.specs.Promises.{IsReplying}
use Rattle.bus_law_messages.proofs.Heard.{hearing-long}
use Rattle.bus_law_messages.proofs.Listening.{moments-shown, moments-many, quiet-not-ended, this-or-other}
use Rattle.bus_law_table.proofs.Idle.{order-none, no-running}
use Rattle.bus_law_phases.specs.Scenarios.{Scenario}
use Rattle.bus_law_phases.specs.Moments.{Owes}
use Rattle.bus_law_phases.specs.PartRuns.{RunsAlone}
use Rattle.bus_law_phases.proofs.Legs.{runs-less}

pub own-sent : (d : Channel) (v : Standing) (m : Option ℕ) → mark_on (with_sent v d m).sent d ≡ m
own-sent A v m = refl
own-sent B v m = refl

pub other-sent : (d : Channel) (v : Standing) (m : Option ℕ) → mark_on (with_sent v d m).sent (other_of d) ≡ mark_on v.sent (other_of d)
other-sent A v m = refl
other-sent B v m = refl

-- a station whose answer is due, and accepts no control
pub replies-from : (w : Scenario) (past : List Pair) (station : StationData) (c : Channel) (e : ℕ) (part : Part) (words : List Word) →
    Owes w past station c e part words false → due_after station.terminal e ≡ length past →
    IsReplying w.lag station (starts w.plan station) w.loads w.outside past c part words
replies-from w past station c e part words owed due = record {
  serves = owed.hears.serves;
  begins = record {
    owes = ap is_owed owed.duty;
    channel = owed.channel;
    due = ap (due_after station.terminal) owed.end ∙ due ∙ sym (hearing-long w.lag station (starts w.plan station) w.loads w.outside past);
    kept = owed.kept;
  };
  duty = owed.duty;
  part_is = owed.part_is;
  rests = owed.hears.rests;
  heeds = owed.hears.heeds (other_of c);
}

module _ (k : ℕ) (station : StationData) (starts : Bool) (loads : List TimedLoad) (outside : List OutsideTake) (past : List Pair) (c : Channel)
    (part : Part) (words : List Word) (answers : IsReplying k station starts loads outside past c part words) where
  abbrev t : TerminalData
  t = station.terminal

  abbrev course : Course
  course = course_after k station starts loads outside past

  abbrev hearing : Hearing
  hearing = hearing_after k station starts loads outside past

  abbrev s : Standing
  s = standing_after k t loads hearing

  abbrev Stays : ℕ → Type 0
  Stays n = (tick : ℕ) → length past ≤ tick → tick < length past + n → outside_takes k station starts loads outside tick outside ≡ []

  hears-answer : (ticks : List Pair) → RunsAlone k c ticks → HearsBurst k t s c hearing.ticks (moments_of course ticks)
  hears-answer ticks alone = record {
    rests = answers.rests c;
    leg = (let leg = alone.leg in rw (moments-shown c course ticks) leg);
    beside = quiet-unheeded k t s (other_of c) hearing.ticks (moments_of course ticks) (answers.rests (other_of c))
        (moments-shown (other_of c) course ticks ∙ alone.quiet ∙ ap quiet_ticks (sym (moments-many course ticks)));
  }

  -- it goes on owing the answer
  still-owed : (ticks : List Pair) → RunsAlone k c ticks →
      (standing k t loads hearing.memory (moments_of course ticks ++ hearing.ticks)).duty ≡ owes words false
  still-owed [] alone = answers.duty
  still-owed (x ∷ ticks) alone =
      ap (λ (u : Standing). u.duty)
      (sender-stands k t loads hearing.memory c hearing.ticks (moments_of course ticks) (moment_of x course) answers.begins (hears-answer (x ∷ ticks) alone))
      ∙ answers.duty

  -- so it accepts no control
  accepts-none : (x : Pair) (ticks : List Pair) → RunsAlone k c ticks →
      accepted_now k t loads record { memory = hearing.memory; ticks = moment_of x course ∷ (moments_of course ticks ++ hearing.ticks) } ≡ None
  accepts-none x ticks alone =
      let u = standing k t loads hearing.memory (moments_of course ticks ++ hearing.ticks) in
      ap (accepted_by k t loads (heard_on u.channel (moments_of course ticks ++ hearing.ticks)) (sample_on x u.channel) u) (still-owed ticks alone)

  takes-more : (x : Pair) (ticks : List Pair) → RunsAlone k c ticks → Stays (length (x ∷ ticks)) → TakesNothing k station starts loads outside past (x ∷ ticks)
  takes-more x [] alone stays = (accepts-none x [] alone, stays (length past) (omega arith) (omega arith), tt)
  takes-more x (y ∷ ticks) alone stays =
      let long : length (ticks ++ past) ≡ length ticks + length past = length-append ticks past in (
        accepts-none x (y ∷ ticks) alone,
        stays (suc (length (ticks ++ past))) (omega (arith, long)) (omega (arith, long)),
        takes-more y ticks (runs-less k c y ticks alone) (λ tick low high. stays tick low (omega (arith, high))),
      )

  takes-nothing : (ticks : List Pair) → RunsAlone k c ticks → Stays (length ticks) → TakesNothing k station starts loads outside past ticks
  takes-nothing [] alone stays = tt
  takes-nothing (x ∷ ticks) alone stays = takes-more x ticks (runs-less k c x ticks alone) stays

  -- ---- while it sends

  pub speaking-same : (ticks : List Pair) → RunsAlone k c ticks → Stays (length ticks) → course_after k station starts loads outside (ticks ++ past) ≡ course
  speaking-same ticks alone stays = serving-same k station starts loads outside past ticks answers.serves (takes-nothing ticks alone stays)

  pub speaking-takes : (x : Pair) (ticks : List Pair) → RunsAlone k c (x ∷ ticks) → Stays (length (x ∷ ticks)) →
      took_now k t loads (hearing_after k station starts loads outside ((x ∷ ticks) ++ past)) ≡ None
  speaking-takes x ticks alone stays =
      let ms = moments_of course ticks in
      let before = ms ++ hearing.ticks in
      let v = standing k t loads hearing.memory before in
      let heard : hearing_after k station starts loads outside ((x ∷ ticks) ++ past) ≡ record { memory = hearing.memory; ticks = moment_of x course ∷ before } =
      ap (λ (so : StationSoFar). so.hearing)
      (serving-hears k station starts loads outside past (x ∷ ticks) answers.serves (takes-nothing (x ∷ ticks) alone stays)) in
      let runs_on : ended_now k (heard_on c (moment_of x course ∷ (moments_of course ticks ++ hearing.ticks))) ≡ None =
      ap (ended_now k) (heard-append c (moments_of course (x ∷ ticks)) hearing.ticks)
      ∙ leg-ends-not k (sample_on x c) (heard_on c ms) (heard_on c hearing.ticks) (hears-answer (x ∷ ticks) alone).leg in
      ap (took_now k t loads) heard
      ∙ ap (taken_by k t loads (length before) (moment_of x course).has_items v)
      (orders-none k t v c (moment_of x course ∷ before)
      (order-none k t v c (moment_of x course) before runs_on)
      (order-none k t v (other_of c) (moment_of x course) before
      (quiet-not-ended k (other_of c) hearing.ticks ms (moment_of x course) (answers.rests (other_of c))
      (moments-shown (other_of c) course (x ∷ ticks) ∙ alone.quiet ∙ ap quiet_ticks (sym (moments-many course (x ∷ ticks))))))
      (no-running k t v (moment_of x course ∷ before)
      (ap is_promise (still-owed ticks (runs-less k c x ticks alone)))))

  -- ---- at the end

  module _ (x y : Pair) (ticks : List Pair) (alone : RunsAlone k c (y ∷ ticks)) (stays : Stays (length (x ∷ y ∷ ticks)))
      (quiet : on_channel (other_of c) (x ∷ y ∷ ticks) ≡ quiet_ticks (length (x ∷ y ∷ ticks))) where
    abbrev all : List Pair
    all = x ∷ y ∷ ticks

    abbrev heard : List Moment
    heard = moments_of course all ++ hearing.ticks

    abbrev u : Standing
    u = with_sent s c (Some (length hearing.ticks))

    end-takes : TakesNothing k station starts loads outside past all
    end-takes = takes-more x (y ∷ ticks) alone stays

    end-hearing : hearing_after k station starts loads outside (all ++ past) ≡ record { memory = hearing.memory; ticks = heard }
    end-hearing = ap (λ (so : StationSoFar). so.hearing) (serving-hears k station starts loads outside past all answers.serves end-takes)

    end-quiet : heard_on (other_of c) (moments_of course all) ≡ quiet_ticks (length (moments_of course all))
    end-quiet = moments-shown (other_of c) course all ∙ quiet ∙ ap quiet_ticks (sym (moments-many course all))

    end-stands : standing k t loads hearing.memory heard ≡ with_sent s c (Some (length hearing.ticks))
    end-stands =
        sender-ends k t loads hearing.memory c hearing.ticks (moments_of course ticks) (moment_of x course) (moment_of y course) answers.begins
        (hears-answer (y ∷ ticks) alone)
        (quiet-unheeded k t s (other_of c) hearing.ticks (moments_of course all) (answers.rests (other_of c)) end-quiet).0

    -- it keeps what it kept
    pub spoken-keeps : (standing_after k t loads (hearing_after k station starts loads outside (all ++ past))).memory ≡ s.memory
    spoken-keeps = ap (λ (h : Hearing). (standing_after k t loads h).memory) end-hearing ∙ ap (λ (v : Standing). v.memory) end-stands

    pub spoken-same : course_after k station starts loads outside (all ++ past) ≡ course
    spoken-same = serving-same k station starts loads outside past all answers.serves end-takes

    -- and takes no block in the newest tick, where it ignores its own burst
    pub spoken-takes : took_now k t loads (hearing_after k station starts loads outside (all ++ past)) ≡ None
    spoken-takes =
        let ms = moments_of course (y ∷ ticks) in
        let before = ms ++ hearing.ticks in
        let endless : end_since k (heard_on c (ms ++ hearing.ticks)) (length hearing.ticks) ≡ None =
        ap (λ xs. end_since k xs (length hearing.ticks)) (heard-append c ms hearing.ticks)
        ∙ ap (end_since k (heard_on c ms ++ heard_on c hearing.ticks)) (sym (heard-long c hearing.ticks))
        ∙ leg-endless k (heard_on c ms) (heard_on c hearing.ticks) (answers.rests c) (hears-answer (y ∷ ticks) alone).leg in
        let ignored : ignored_from k (heard_on c (ms ++ hearing.ticks)) (mark_on (with_sent s c (Some (length hearing.ticks))).sent c) ≡ true =
        ap (ignored_from k (heard_on c before)) (own-sent c s (Some (length hearing.ticks))) ∙ ap is_none endless in
        let own : order_on k t (moment_of x course ∷ before) u c ≡ None = rw ignored refl in
        let stands : standing k t loads hearing.memory (ms ++ hearing.ticks) ≡ with_sent s c (Some (length hearing.ticks)) =
        sender-stands k t loads hearing.memory c hearing.ticks (moments_of course ticks) (moment_of y course) answers.begins (hears-answer (y ∷ ticks) alone) in
        ap (took_now k t loads) end-hearing
        ∙ ap (λ (v : Standing). taken_by k t loads (length before) (moment_of x course).has_items v (order_now k t (moment_of x course ∷ before) v)) stands
        ∙ ap (taken_by k t loads (length before) (moment_of x course).has_items u)
        (orders-none k t u c (moment_of x course ∷ before) own
        (order-none k t u (other_of c) (moment_of x course) before
        (quiet-not-ended k (other_of c) hearing.ticks ms (moment_of x course) (answers.rests (other_of c)) end-quiet))
        (no-running k t u (moment_of x course ∷ before) (ap is_promise answers.duty)))

    -- ---- it is free, since the end of its words is known

    module _ (hits : List Hit) (three : k ≡ 3) (fits : HitsFit part hits words) (some : 0 < part_ticks hits words)
        (shown : on_channel c (x ∷ y ∷ ticks) ≡ first_samples (part_sample hits words) (part_ticks hits words + suc k)) where
      end-shown : heard_on c heard ≡ first_samples (part_sample hits words) (part_ticks hits words + suc k) ++ heard_on c hearing.ticks
      end-shown =
          heard-append c (moments_of course all) hearing.ticks ∙ ap (λ xs. xs ++ heard_on c hearing.ticks) (moments-shown c course all ∙ shown)

      end-found : end_since k (heard_on c heard) (length hearing.ticks) ≡ Some (length (heard_on c hearing.ticks) + part_ticks hits words)
      end-found =
          ap (λ xs. end_since k xs (length hearing.ticks)) end-shown
          ∙ ap (end_since k (first_samples (part_sample hits words) (part_ticks hits words + suc k) ++ heard_on c hearing.ticks))
          (sym (heard-long c hearing.ticks))
          ∙ end-part k part hits words three fits (suc k) (heard_on c hearing.ticks) some (answers.rests c) (omega arith)

      end-rests : (d : Channel) → runs k (heard_on d heard) ≡ false
      end-rests d = elim (this-or-other c d) [
        | inl same ↦ ap (λ a. runs k (heard_on a heard)) same
            ∙ ap (runs k) end-shown
            ∙ rests-part k part hits words three fits (suc k) (heard_on c hearing.ticks) (omega arith)
        | inr other ↦ ap (λ a. runs k (heard_on a heard)) other
            ∙ ap (runs k) (heard-append (other_of c) (moments_of course all) hearing.ticks ∙ ap (λ xs. xs ++ heard_on (other_of c) hearing.ticks) end-quiet)
            ∙ rests-quiet k (length (moments_of course all)) (heard_on (other_of c) hearing.ticks) (answers.rests (other_of c))
      ]

      end-heeds : (d : Channel) → ignored_from k (heard_on d heard) (mark_on (with_sent s c (Some (length hearing.ticks))).sent d) ≡ false
      end-heeds d = elim (this-or-other c d) [
        | inl same ↦ ap (λ e. ignored_from k (heard_on e heard) (mark_on (with_sent s c (Some (length hearing.ticks))).sent e)) same
            ∙ ap (ignored_from k (heard_on c heard)) (own-sent c s (Some (length hearing.ticks)))
            ∙ ap is_none end-found
        | inr apart ↦ ap (λ e. ignored_from k (heard_on e heard) (mark_on (with_sent s c (Some (length hearing.ticks))).sent e)) apart
            ∙ ap (ignored_from k (heard_on (other_of c) heard)) (other-sent c s (Some (length hearing.ticks)))
            ∙ ap (λ xs. ignored_from k xs (mark_on s.sent (other_of c))) (heard-append (other_of c) (moments_of course all) hearing.ticks)
            ∙ heeded-later k (heard_on (other_of c) (moments_of course all)) (heard_on (other_of c) hearing.ticks) (mark_on s.sent (other_of c)) answers.heeds
      ]

      end-over : is_some (end_since k (heard_on s.channel heard) (due_after t s.end)) ≡ true
      end-over =
          ap (λ d. is_some (end_since k (heard_on d heard) (due_after t s.end))) answers.begins.channel
          ∙ ap (λ a. is_some (end_since k (heard_on c heard) a)) answers.begins.due
          ∙ ap is_some end-found

      end-free : IsFree k t (with_sent s c (Some (length hearing.ticks))) heard
      end-free = record { rests = end-rests; heeds = end-heeds; over = λ owed. end-over; promise = ap is_promise answers.duty }

      pub spoken-serving : IsServing k station starts loads outside (all ++ past)
      spoken-serving = record {
        serves = record {
          serves = ap (λ (d : Course). d.holds) spoken-same ∙ answers.serves.serves;
          idle = ap (λ (d : Course). d.runs) spoken-same ∙ answers.serves.idle;
        };
        free = subst (λ h. IsFree k t (standing_after k t loads h) h.ticks) (sym end-hearing)
            (subst (λ v. IsFree k t v heard) (sym end-stands) end-free);
      }
