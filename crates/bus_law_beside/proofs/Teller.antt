-- The station whose answer was abandoned: it sends it on beside a command on the other channel, and hears that.
use Rattle.std.proofs.Common.{◌≡◌, inl, inr, ℕ, suc, ◌+◌, ◌-◌, ◌<◌, ◌≤◌, Bool, false, List, [], ◌∷◌, ◌++◌, length, Some, None, sym, ap, ◌∙◌, subst, arith, length-append, append_assoc}
use Rattle.std.proofs.lemmas.Bool.{cases_lt, true≢false}
use Rattle.std.specs.Prelude.{if◌then◌else◌, is_some, is_none, drop}
use Rattle.bus_base.specs.Samples.{sample_on, other_of}
use Rattle.bus_base.specs.declared.samples.Channel.{Channel}
use Rattle.bus_base.specs.declared.samples.Drive.TheVariants.{Silent}
use Rattle.bus_base.specs.declared.samples.Pair.{Pair}
use Rattle.bus_base.specs.declared.samples.Part.TheVariants.{First}
use Rattle.bus_base.specs.declared.samples.Sample.{Sample}
use Rattle.bus_words.specs.declared.word.Word.{Word}
use Rattle.bus_line.specs.Past.{Burst, InLeg, quiet_ticks, runs, ended_now, end_of, end_since}
use Rattle.bus_line.specs.Channels.{on_channel}
use Rattle.bus_line.specs.Cutting.{running_slots}
use Rattle.bus_formats.specs.Plans.{TerminalData, StationData}
use Rattle.bus_model.specs.Memory.{TimedLoad}
use Rattle.bus_model.specs.Hearing.{Moment, Hearing, heard_on}
use Rattle.bus_model.specs.Orders.{owes, last_order, due_after}
use Rattle.bus_model.specs.Sending.{drive_sample}
use Rattle.bus_model.specs.Standing.{Standing, mark_on, ignored_from, is_promise}
use Rattle.bus_model.specs.Terminal.{given_up, drive_of, drive_duty, order_now, taken_by, standing, standing_after, drives, took_now, accepted_by}
use Rattle.bus_model.specs.Course.{Course}
use Rattle.bus_model.specs.Control.{OutsideTake, StationSoFar, moment_of, outside_takes, course_after, hearing_after, drives_next}
use Rattle.bus_law_control.proofs.Accepting.{kept-later}
use Rattle.bus_law_control.proofs.OtherChannel.{beside-sends}
use Rattle.bus_law_line.specs.Shown.{first_samples}
use Rattle.bus_law_stations.specs.Legs.{AreUnheeded, IsUnheeded, HearsBurst, IsReady, with_addressed, with_sent}
use Rattle.bus_law_stations.specs.Turns.{moments_of, TakesNothing}
use Rattle.bus_law_stations.proofs.LegTicks.{heard-append, heeded-later, leg-ends-not}
use Rattle.bus_law_stations.proofs.Obeying.{running-marks}
use Rattle.bus_law_stations.proofs.Ready.{orders-none, order-other, ready-running}
use Rattle.bus_law_stations.proofs.Resting.{heard-long, rests-quiet}
use Rattle.bus_law_stations.proofs.SenderTicks.{sender-stands}
use Rattle.bus_law_stations.proofs.Turning.{serving-hears, serving-same, serving-sends}
use Rattle.bus_law_stations.proofs.Unheeded.{quiet-unheeded}
use Rattle.bus_law_messages.specs.Promises.{IsReplying}
use Rattle.bus_law_messages.proofs.Listening.{moments-shown, moments-many}
use Rattle.bus_law_table.proofs.Idle.{order-none}
use Rattle.bus_law_phases.specs.PartRuns.{RunsAlone}
use Rattle.bus_law_phases.proofs.AnswerSpeaking.{own-sent, other-sent}
use Rattle.bus_law_phases.proofs.Legs.{runs-less}
use Rattle.bus_law_beside.specs.Rows.{RowEnds}
use Rattle.bus_law_beside.proofs.TellerBegins.{over-silent, TellerBegins}
use Rattle.bus_law_beside.proofs.Bystander.{moments-join}
use Rattle.bus_law_beside.proofs.RowLaws.{endless-to, end-from, quiet-row}

module _ (k : ℕ) (station : StationData) (starts : Bool) (loads : List TimedLoad) (outside : List OutsideTake) (before : List Pair) (c d : Channel)
    (words : List Word) (o : Pair) (os : List Pair) (old_row : ℕ → Sample) (old_known : ℕ) (old_burst : Burst)
    (b : TellerBegins k station starts loads outside before c d words o os old_row old_known old_burst) where
  cd : c ≡ other_of d
  cd = b.cd

  dc : d ≡ other_of c
  dc = b.dc

  three : k ≡ 3
  three = b.three

  small : k < 40
  small = omega (arith, three)

  prompt : 8 ≤ station.terminal.delay
  prompt = b.prompt

  abbrev answers : IsReplying k station starts loads outside before c First words
  answers = b.answers

  abbrev alone : RunsAlone k c (o ∷ os)
  alone = b.alone

  abbrev old : RowEnds k old_row old_known old_burst (heard_on c (hearing_after k station starts loads outside before).ticks)
  old = b.old

  began : old_burst.first ≡ length (heard_on c (hearing_after k station starts loads outside before).ticks)
  began = b.began

  abbrev t : TerminalData
  t = station.terminal

  abbrev course : Course
  course = course_after k station starts loads outside before

  abbrev hearing : Hearing
  hearing = hearing_after k station starts loads outside before

  abbrev heard : List Moment
  heard = hearing.ticks

  abbrev s : Standing
  s = standing_after k t loads hearing

  abbrev olds : List Pair
  olds = o ∷ os

  -- what it heard as the command begins, and what stands of it then
  abbrev pub heard_then : List Moment
  heard_then = moments_of course olds ++ heard

  abbrev pub stands_then : Standing
  stands_then = standing k t loads hearing.memory heard_then

  abbrev Stays : ℕ → Type 0
  Stays n = (tick : ℕ) → length before ≤ tick → tick < length before + n → outside_takes k station starts loads outside tick outside ≡ []

  -- ---- as the command begins

  hears-old : (ticks : List Pair) → RunsAlone k c ticks → HearsBurst k t s c heard (moments_of course ticks)
  hears-old ticks runs = record {
    rests = answers.rests c;
    leg = (let leg = runs.leg in rw (moments-shown c course ticks) leg);
    beside = quiet-unheeded k t s (other_of c) heard (moments_of course ticks) (answers.rests (other_of c))
        (moments-shown (other_of c) course ticks ∙ runs.quiet ∙ ap quiet_ticks (sym (moments-many course ticks)));
  }

  pub is-sent : stands_then ≡ with_sent s c (Some (length heard))
  is-sent = sender-stands k t loads hearing.memory c heard (moments_of course os) (moment_of o course) answers.begins (hears-old olds alone)

  old-duty : (ticks : List Pair) → RunsAlone k c ticks → (standing k t loads hearing.memory (moments_of course ticks ++ heard)).duty ≡ owes words false
  old-duty [] runs = answers.duty
  old-duty (x ∷ ticks) runs =
      ap (λ (u : Standing). u.duty)
      (sender-stands k t loads hearing.memory c heard (moments_of course ticks) (moment_of x course) answers.begins (hears-old (x ∷ ticks) runs))
      ∙ answers.duty

  old-takes : (ticks : List Pair) → RunsAlone k c ticks → Stays (length ticks) → TakesNothing k station starts loads outside before ticks
  old-takes [] runs stays = tt
  old-takes (x ∷ ticks) runs stays =
      let long : length (ticks ++ before) ≡ length ticks + length before = length-append ticks before in
      let less = runs-less k c x ticks runs in
      let u = standing k t loads hearing.memory (moments_of course ticks ++ heard) in (
        ap (accepted_by k t loads (heard_on u.channel (moments_of course ticks ++ heard)) (sample_on x u.channel) u) (old-duty ticks less),
        stays (length (ticks ++ before)) (omega (arith, long)) (omega (arith, long)),
        old-takes ticks less (λ tick low high. stays tick low (omega (arith, high))),
      )

  pub then-duty : stands_then.duty ≡ owes words false
  then-duty = old-duty olds alone

  pub then-channel : stands_then.channel ≡ c
  then-channel = ap (λ (u : Standing). u.channel) is-sent ∙ answers.begins.channel

  pub then-due : due_after t stands_then.end ≡ length heard
  then-due = ap (λ (u : Standing). due_after t u.end) is-sent ∙ answers.begins.due

  pub then-mark : mark_on stands_then.sent c ≡ Some (length heard)
  then-mark = ap (λ (u : Standing). mark_on u.sent c) is-sent ∙ own-sent c s (Some (length heard))

  pub then-part : stands_then.part ≡ First
  then-part = ap (λ (u : Standing). u.part) is-sent ∙ answers.part_is

  then-other : mark_on stands_then.sent d ≡ mark_on s.sent d
  then-other =
      ap (mark_on stands_then.sent) dc ∙ ap (λ (u : Standing). mark_on u.sent (other_of c)) is-sent ∙ other-sent c s (Some (length heard))
      ∙ ap (mark_on s.sent) (sym dc)

  pub long-then : length heard_then ≡ suc (length os) + length heard
  long-then =
      let all = length-append (moments_of course olds) heard in
      let many : length (moments_of course olds) ≡ length olds = moments-many course olds in omega (arith, all, many)

  pub rests-d : runs k (heard_on d heard_then) ≡ false
  rests-d =
      ap (λ a. runs k (heard_on a heard_then)) dc
      ∙ ap (runs k) (heard-append (other_of c) (moments_of course olds) heard
      ∙ ap (λ xs. xs ++ heard_on (other_of c) heard) (moments-shown (other_of c) course olds ∙ alone.quiet))
      ∙ rests-quiet k (length olds) (heard_on (other_of c) heard) (answers.rests (other_of c))

  heeds-d : ignored_from k (heard_on d heard_then) (mark_on stands_then.sent d) ≡ false
  heeds-d =
      ap (ignored_from k (heard_on d heard_then)) then-other
      ∙ ap (λ a. ignored_from k (heard_on a heard_then) (mark_on s.sent a)) dc
      ∙ ap (λ xs. ignored_from k xs (mark_on s.sent (other_of c))) (heard-append (other_of c) (moments_of course olds) heard)
      ∙ heeded-later k (heard_on (other_of c) (moments_of course olds)) (heard_on (other_of c) heard) (mark_on s.sent (other_of c)) answers.heeds

  pub ready : IsReady k t stands_then d heard_then
  ready = record {
    hears = heeds-d;
    answer = λ owed. omega (arith, then-due, long-then);
    promise = λ made. absurd (true≢false (sym made ∙ ap is_promise then-duty));
  }

  pub kept-then : given_up k t (heard_on c heard_then) stands_then ≡ false
  kept-then =
      ap (given_up k t (heard_on c heard_then)) is-sent
      ∙ kept-later k t s c heard (moments_of course olds) (let due = answers.begins.due in omega (arith, due)) answers.begins.kept

  late-then : stands_then.end + k ≤ length heard_then
  late-then = omega (arith, then-due, long-then, prompt, three)

  -- ---- while the command is sent

  -- what it hears of both
  pub record Hears (ticks : List Pair) : Type 0 where
    pub leg : InLeg k (on_channel d ticks)
    pub old : on_channel c (ticks ++ olds) ≡ first_samples old_row (length (ticks ++ olds))

  hears-less : (x : Pair) (ticks : List Pair) → Hears (x ∷ ticks) → Hears ticks
  hears-less x ticks so = record { leg = so.leg.2; old = ap (λ (xs : List Sample). drop 1 xs) so.old }

  pub joined : (ticks : List Pair) → moments_of course (ticks ++ olds) ++ heard ≡ moments_of course ticks ++ heard_then
  joined ticks =
      ap (λ ms. ms ++ heard) (moments-join course ticks olds) ∙ append_assoc (moments_of course ticks) (moments_of course olds) heard

  old-heard : (ticks : List Pair) → on_channel c (ticks ++ olds) ≡ first_samples old_row (length (ticks ++ olds)) →
      heard_on c (moments_of course (ticks ++ olds)) ≡ first_samples old_row (length (moments_of course (ticks ++ olds)))
  old-heard ticks shown = moments-shown c course (ticks ++ olds) ∙ shown ∙ ap (first_samples old_row) (sym (moments-many course (ticks ++ olds)))

  pub old-past : (ticks : List Pair) → on_channel c (ticks ++ olds) ≡ first_samples old_row (length (ticks ++ olds)) →
      heard_on c (moments_of course ticks ++ heard_then) ≡ first_samples old_row (length (ticks ++ olds)) ++ heard_on c heard
  old-past ticks shown =
      ap (heard_on c) (sym (joined ticks)) ∙ heard-append c (moments_of course (ticks ++ olds)) heard
      ∙ ap (λ xs. xs ++ heard_on c heard) (moments-shown c course (ticks ++ olds) ∙ shown)

  pub endless : (ticks : List Pair) → on_channel c (ticks ++ olds) ≡ first_samples old_row (length (ticks ++ olds)) → length (ticks ++ olds) ≤ old_known →
      end_since k (heard_on c (moments_of course ticks ++ heard_then)) (length heard) ≡ None
  endless ticks shown low =
      ap (λ xs. end_since k xs (length heard)) (old-past ticks shown)
      ∙ ap (end_since k (first_samples old_row (length (ticks ++ olds)) ++ heard_on c heard)) (sym (heard-long c heard))
      ∙ endless-to k old_row old_known old_burst (heard_on c heard) old (length (ticks ++ olds)) low

  pub ended-by : (ticks : List Pair) → on_channel c (ticks ++ olds) ≡ first_samples old_row (length (ticks ++ olds)) → old_known < length (ticks ++ olds) →
      end_since k (heard_on c (moments_of course ticks ++ heard_then)) (length heard) ≡ Some (end_of old_burst)
  ended-by ticks shown late =
      ap (λ xs. end_since k xs (length heard)) (old-past ticks shown)
      ∙ ap (end_since k (first_samples old_row (length (ticks ++ olds)) ++ heard_on c heard)) (sym (heard-long c heard))
      ∙ end-from k old_row old_known old_burst (heard_on c heard) old (length (ticks ++ olds)) late began

  -- of what it sent nothing counts
  pub old-unheeded : (ticks : List Pair) → on_channel c (ticks ++ olds) ≡ first_samples old_row (length (ticks ++ olds)) →
      AreUnheeded k t stands_then c heard_then (moments_of course ticks)
  old-unheeded [] shown = tt
  old-unheeded (x ∷ ticks) shown =
      let less : on_channel c (ticks ++ olds) ≡ first_samples old_row (length (ticks ++ olds)) = ap (λ (xs : List Sample). drop 1 xs) shown in (
        elim (cases_lt old_known (length (ticks ++ olds))) [
          | inl late ↦ subst (λ ms. IsUnheeded k t stands_then c (moment_of x course ∷ ms)) (joined ticks)
              (quiet-row k t stands_then c heard small old_row old_known old_burst old (moment_of x course) (moments_of course (ticks ++ olds))
              (old-heard (x ∷ ticks) shown) (let many = moments-many course (ticks ++ olds) in omega (arith, late, many)))
          | inr low ↦ inl (ap (ignored_from k (heard_on c (moments_of course ticks ++ heard_then))) then-mark ∙ ap is_none (endless ticks less low))
        ],
        old-unheeded ticks less,
      )

  pub hears-command : (ticks : List Pair) → Hears ticks → HearsBurst k t stands_then d heard_then (moments_of course ticks)
  hears-command ticks so = record {
    rests = rests-d;
    leg = (let leg = so.leg in rw (moments-shown d course ticks) leg);
    beside = subst (λ a. AreUnheeded k t stands_then a heard_then (moments_of course ticks)) cd (old-unheeded ticks so.old);
  }

  -- it goes on owing its answer
  duty-on : (ticks : List Pair) → Hears ticks → (standing k t loads hearing.memory (moments_of course ticks ++ heard_then)).duty ≡ owes words false
  duty-on ticks so =
      ap (λ (u : Standing). u.duty) (running-marks k t loads hearing.memory d heard_then (moments_of course ticks) small ready (hears-command ticks so)).1
      ∙ then-duty

  takes-none : (ticks : List Pair) → Hears ticks → Stays (length (ticks ++ olds)) → TakesNothing k station starts loads outside before (ticks ++ olds)
  takes-none [] so stays = old-takes olds alone stays
  takes-none (x ∷ ticks) so stays =
      let long : length ((ticks ++ olds) ++ before) ≡ length (ticks ++ olds) + length before = length-append (ticks ++ olds) before in
      let less = hears-less x ticks so in
      let u = standing k t loads hearing.memory (moments_of course (ticks ++ olds) ++ heard) in
      let duty : (standing k t loads hearing.memory (moments_of course (ticks ++ olds) ++ heard)).duty ≡ owes words false =
      ap (λ ms. (standing k t loads hearing.memory ms).duty) (joined ticks) ∙ duty-on ticks less in (
        ap (accepted_by k t loads (heard_on u.channel (moments_of course (ticks ++ olds) ++ heard)) (sample_on x u.channel) u) duty,
        stays (length ((ticks ++ olds) ++ before)) (omega (arith, long)) (omega (arith, long)),
        takes-none ticks less (λ tick low high. stays tick low (omega (arith, high))),
      )

  module _ (ticks : List Pair) (so : Hears ticks) (stays : Stays (length (ticks ++ olds))) where
    pub teller-hears : hearing_after k station starts loads outside ((ticks ++ olds) ++ before)
        ≡ record { memory = hearing.memory; ticks = moments_of course ticks ++ heard_then }
    teller-hears =
        ap (λ (so : StationSoFar). so.hearing)
        (serving-hears k station starts loads outside before (ticks ++ olds) answers.serves (takes-none ticks so stays))
        ∙ ap (λ ms. record { memory = hearing.memory; ticks = ms }) (joined ticks)

    pub teller-same : course_after k station starts loads outside ((ticks ++ olds) ++ before) ≡ course_after k station starts loads outside before
    teller-same = serving-same k station starts loads outside before (ticks ++ olds) answers.serves (takes-none ticks so stays)

    sends : drives_next k station starts loads outside ((ticks ++ olds) ++ before)
        ≡ drives k t loads record { memory = hearing.memory; ticks = moments_of course ticks ++ heard_then }
    sends =
        serving-sends k station starts loads outside before (ticks ++ olds) answers.serves (takes-none ticks so stays)
        ∙ ap (λ ms. drives k t loads record { memory = hearing.memory; ticks = ms }) (joined ticks)

    long-now : length (moments_of course ticks ++ heard_then) - due_after t stands_then.end ≡ length (ticks ++ olds)
    long-now =
        let all = length-append (moments_of course ticks) heard_then in
        let many = moments-many course ticks in
        let both = length-append ticks olds in
        omega (arith, all, many, both, then-due, long-then)

    -- it sends its words until a command for it ends on the other channel
    pub teller-sends : length (ticks ++ olds) ≤ old_known → drives_next k station starts loads outside ((ticks ++ olds) ++ before)
        ≡ (if is_some (last_order t.address (running_slots k (heard_on d (moments_of course ticks ++ heard_then)))) then Silent
        else drive_sample c First words (length (ticks ++ olds)))
    teller-sends low =
        let over = is_some (last_order t.address (running_slots k (heard_on d (moments_of course ticks ++ heard_then)))) in
        sends
        ∙ beside-sends k t loads hearing.memory d heard_then (moments_of course ticks) words false then-duty (then-channel ∙ cd)
        (omega (arith, then-due, long-then)) late-then
        (ap (λ a. given_up k t (heard_on a heard_then) stands_then) (sym cd) ∙ kept-then)
        (ap (λ a. end_since k (heard_on a (moments_of course ticks ++ heard_then)) (due_after t stands_then.end)) (sym cd)
        ∙ ap (end_since k (heard_on c (moments_of course ticks ++ heard_then))) then-due ∙ endless ticks so.old low)
        small ready (hears-command ticks so)
        ∙ ap (λ a. if over then Silent else drive_sample a stands_then.part words (length (moments_of course ticks ++ heard_then) - due_after t stands_then.end))
        (sym cd)
        ∙ ap (λ p. if over then Silent else drive_sample c p words (length (moments_of course ticks ++ heard_then) - due_after t stands_then.end)) then-part
        ∙ ap (λ n. if over then Silent else drive_sample c First words n) long-now

    -- and nothing once its own end is known
    pub teller-silent : old_known < length (ticks ++ olds) → drives_next k station starts loads outside ((ticks ++ olds) ++ before) ≡ Silent
    teller-silent late =
        let m = running-marks k t loads hearing.memory d heard_then (moments_of course ticks) small ready (hears-command ticks so) in
        let u = with_addressed stands_then d m.0 in
        let past = moments_of course ticks ++ heard_then in
        sends
        ∙ ap (drive_of k t past) m.1
        ∙ ap (drive_duty k t (heard_on stands_then.channel past) u) then-duty
        ∙ over-silent k t (heard_on stands_then.channel past) u words false
        (ap (λ a. is_some (end_since k (heard_on a past) (due_after t stands_then.end))) then-channel
        ∙ ap (λ n. is_some (end_since k (heard_on c past) n)) then-due
        ∙ ap is_some (ended-by ticks so.old late))

  -- it takes no block meanwhile
  pub teller-takes : (x : Pair) (ticks : List Pair) → Hears (x ∷ ticks) → Stays (length ((x ∷ ticks) ++ olds)) →
      took_now k t loads (hearing_after k station starts loads outside (((x ∷ ticks) ++ olds) ++ before)) ≡ None
  teller-takes x ticks so stays =
      let ms = moments_of course ticks in
      let past = ms ++ heard_then in
      let hears = hears-command (x ∷ ticks) so in
      let m = running-marks k t loads hearing.memory d heard_then ms small ready (hears-command ticks (hears-less x ticks so)) in
      let u = with_addressed stands_then d m.0 in
      ap (took_now k t loads) (teller-hears (x ∷ ticks) so stays)
      ∙ ap (λ (v : Standing). taken_by k t loads (length past) (moment_of x course).has_items v (order_now k t (moment_of x course ∷ past) v)) m.1
      ∙ ap (taken_by k t loads (length past) (moment_of x course).has_items u)
      (orders-none k t u d (moment_of x course ∷ past)
      (order-none k t u d (moment_of x course) past
      (ap (ended_now k) (heard-append d (moments_of course (x ∷ ticks)) heard_then)
      ∙ leg-ends-not k (sample_on x d) (heard_on d ms) (heard_on d heard_then) hears.leg))
      (order-other k t stands_then d m.0 (moment_of x course) past (λ made. absurd (true≢false (sym made ∙ ap is_promise then-duty))) hears.beside.0)
      (ready-running k t stands_then d m.0 (moment_of x course) heard_then ms ready hears.leg))

  -- ---- with one tick more

  pub end-takes : (x : Pair) (ticks : List Pair) → Hears ticks → Stays (length ((x ∷ ticks) ++ olds)) →
      TakesNothing k station starts loads outside before ((x ∷ ticks) ++ olds)
  end-takes x ticks so stays =
      let long : length ((ticks ++ olds) ++ before) ≡ length (ticks ++ olds) + length before = length-append (ticks ++ olds) before in
      let u = standing k t loads hearing.memory (moments_of course (ticks ++ olds) ++ heard) in
      let duty : (standing k t loads hearing.memory (moments_of course (ticks ++ olds) ++ heard)).duty ≡ owes words false =
      ap (λ ms. (standing k t loads hearing.memory ms).duty) (joined ticks) ∙ duty-on ticks so in (
        ap (accepted_by k t loads (heard_on u.channel (moments_of course (ticks ++ olds) ++ heard)) (sample_on x u.channel) u) duty,
        stays (length ((ticks ++ olds) ++ before)) (omega (arith, long)) (omega (arith, long)),
        takes-none ticks so (λ tick low high. stays tick low (omega (arith, high))),
      )

  pub end-hears : (x : Pair) (ticks : List Pair) → Hears ticks → Stays (length ((x ∷ ticks) ++ olds)) →
      hearing_after k station starts loads outside (((x ∷ ticks) ++ olds) ++ before)
      ≡ record { memory = hearing.memory; ticks = moment_of x course ∷ (moments_of course ticks ++ heard_then) }
  end-hears x ticks so stays =
      ap (λ (so : StationSoFar). so.hearing)
      (serving-hears k station starts loads outside before ((x ∷ ticks) ++ olds) answers.serves (end-takes x ticks so stays))
      ∙ ap (λ ms. record { memory = hearing.memory; ticks = moment_of x course ∷ ms }) (joined ticks)

  pub end-same : (x : Pair) (ticks : List Pair) → Hears ticks → Stays (length ((x ∷ ticks) ++ olds)) →
      course_after k station starts loads outside (((x ∷ ticks) ++ olds) ++ before) ≡ course_after k station starts loads outside before
  end-same x ticks so stays =
      serving-same k station starts loads outside before ((x ∷ ticks) ++ olds) answers.serves (end-takes x ticks so stays)

  -- as the command begins
  pub then-hears : Stays (length olds) → hearing_after k station starts loads outside (olds ++ before)
      ≡ record { memory = hearing.memory; ticks = heard_then }
  then-hears stays =
      ap (λ (so : StationSoFar). so.hearing) (serving-hears k station starts loads outside before olds answers.serves (old-takes olds alone stays))

  pub then-same : Stays (length olds) → course_after k station starts loads outside (olds ++ before) ≡ course_after k station starts loads outside before
  then-same stays = serving-same k station starts loads outside before olds answers.serves (old-takes olds alone stays)
