-- The station that sends an answer of which nothing is shown: until k + 1 quiet ticks are over it drives, and then it is free.
use Rattle.std.proofs.Common.{◌≡◌, inl, inr, ℕ, zero, suc, ◌+◌, ◌<◌, ◌≤◌, Bool, false, List, [], ◌∷◌, ◌++◌, length, Option, Some, None, refl, sym, ap, ◌∙◌, subst, arith}
use Rattle.bus_base.specs.Samples.{quiet_pair, quiet_pairs, other_of}
use Rattle.bus_base.specs.declared.samples.Channel.{Channel}
use Rattle.bus_base.specs.declared.samples.Channel.TheVariants.{A, B}
use Rattle.bus_base.specs.declared.samples.Pair.{Pair}
use Rattle.bus_base.specs.declared.samples.Part.{Part}
use Rattle.bus_base.specs.declared.samples.Sample.TheVariants.{Quiet}
use Rattle.bus_words.specs.declared.word.Word.{Word}
use Rattle.bus_line.specs.Past.{quiet_ticks, runs}
use Rattle.bus_line.specs.Channels.{on_channel}
use Rattle.bus_formats.specs.Plans.{StationData, TerminalData}
use Rattle.bus_model.specs.Control.{StationSoFar, moment_of, outside_takes, drives_next}
use Rattle.bus_model.specs.Course.{Course}
use Rattle.bus_model.specs.Hearing.{Moment, Hearing, heard_on}
use Rattle.bus_model.specs.Message.{Present}
use Rattle.bus_model.specs.Orders.{due_after}
use Rattle.bus_model.specs.Sending.{drive_sample}
use Rattle.bus_model.specs.Standing.{Standing, mark_on, ignored_from, is_owed, is_promise}
use Rattle.bus_model.specs.Starts.{starts}
use Rattle.bus_model.specs.Terminal.{is_over, took_now, standing}
use Rattle.bus_law_control.specs.Answers.{HearsQuiet}
use Rattle.bus_law_control.proofs.Muted.{mute-sends, mute-takes, muted-stands, muted-heeds, muted-over, sent-own}
use Rattle.bus_law_messages.specs.Settled.{IsFree, IsServing}
use Rattle.bus_law_messages.proofs.Heard.{hearing-long}
use Rattle.bus_law_messages.proofs.Listening.{moments-shown, moments-many, this-or-other}
use Rattle.bus_law_stations.specs.Legs.{BeginsAnswer, with_sent}
use Rattle.bus_law_stations.specs.Turns.{moments_of, TakesNothing}
use Rattle.bus_law_stations.proofs.LegTicks.{heard-append, heeded-later}
use Rattle.bus_law_stations.proofs.Resting.{rests-quiet}
use Rattle.bus_law_stations.proofs.StillController.{pairs-long}
use Rattle.bus_law_stations.proofs.Turning.{serving-hears, serving-same, serving-sends}
use Rattle.bus_law_stations.proofs.Unheeded.{quiet-unheeded}
use Rattle.bus_law_table.specs.Stations.{loaded_at}
use Rattle.bus_law_table.proofs.Still.{still-told}
use Rattle.bus_law_phases.specs.Scenarios.{Scenario, course_of, hearing_of, standing_of, present_of}
use Rattle.bus_law_phases.specs.Moments.{Owes}

on-quiets : (d : Channel) (n : ℕ) → on_channel d (quiet_pairs n) ≡ quiet_ticks n
on-quiets d zero = refl
on-quiets A (suc n) = ap (λ xs. Quiet ∷ xs) (on-quiets A n)
on-quiets B (suc n) = ap (λ xs. Quiet ∷ xs) (on-quiets B n)

quiets-long : (n : ℕ) → length (quiet_pairs n) ≡ n
quiets-long zero = refl
quiets-long (suc n) = ap suc (quiets-long n)

sent-other : (s : Standing) (c : Channel) (m : Option ℕ) → mark_on (with_sent s c m).sent (other_of c) ≡ mark_on s.sent (other_of c)
sent-other s A m = refl
sent-other s B m = refl

module _ (w : Scenario) (past : List Pair) (station : StationData) (c : Channel) (e : ℕ) (part : Part) (words : List Word) (acceptance : Bool)
    (owed : Owes w past station c e part words acceptance) (due : due_after station.terminal e ≡ length past)
    (stays : (tick : ℕ) → length past ≤ tick → outside_takes w.lag station (starts w.plan station) w.loads w.outside tick w.outside ≡ []) where
  abbrev t : TerminalData
  t = station.terminal

  abbrev h : Hearing
  h = hearing_of w station past

  abbrev s : Standing
  s = standing_of w station past

  abbrev d : Course
  d = course_of w station past

  abbrev later : ℕ → List Pair
  later n = quiet_pairs n ++ past

  abbrev moments : ℕ → List Moment
  moments n = moments_of d (quiet_pairs n)

  long : length h.ticks ≡ length past
  long = hearing-long w.lag station (starts w.plan station) w.loads w.outside past

  many : (n : ℕ) → length (moments n) ≡ n
  many n = moments-many d (quiet_pairs n) ∙ quiets-long n

  shown : (a : Channel) (n : ℕ) → heard_on a (moments n) ≡ quiet_ticks (length (moments n))
  shown a n = moments-shown a d (quiet_pairs n) ∙ on-quiets a n ∙ ap quiet_ticks (sym (many n))

  begins : BeginsAnswer w.lag t s c h.ticks
  begins = record {
    owes = ap is_owed owed.duty;
    channel = owed.channel;
    due = ap (due_after t) owed.end ∙ due ∙ sym long;
    kept = owed.kept;
  }

  hears : (n : ℕ) → HearsQuiet w.lag t s c h.ticks (moments n)
  hears n = record {
    rests = owed.hears.rests c;
    quiet = shown c n;
    beside = quiet-unheeded w.lag t s (other_of c) h.ticks (moments n) (owed.hears.rests (other_of c)) (shown (other_of c) n);
  }

  takes-nothing : (n : ℕ) → TakesNothing w.lag station (starts w.plan station) w.loads w.outside past (quiet_pairs n)
  takes-nothing zero = tt
  takes-nothing (suc n) =
      let more : length (quiet_pairs n ++ past) ≡ n + length past = pairs-long n past in (
        (mute-takes w.lag t w.loads h.memory c h.ticks (moments n) (moment_of quiet_pair d) begins (hears (suc n))).1,
        stays (length (later n)) (omega (arith, more)),
        takes-nothing n,
      )

  hearing-is : (n : ℕ) → hearing_of w station (later n) ≡ record { memory = h.memory; ticks = moments n ++ h.ticks }
  hearing-is n =
      ap (λ (so : StationSoFar). so.hearing)
      (serving-hears w.lag station (starts w.plan station) w.loads w.outside past (quiet_pairs n) owed.hears.serves (takes-nothing n))

  -- ---- while it sends

  pub mute-course : (n : ℕ) → course_of w station (later n) ≡ d
  mute-course n = serving-same w.lag station (starts w.plan station) w.loads w.outside past (quiet_pairs n) owed.hears.serves (takes-nothing n)

  pub mute-drives : (n : ℕ) → n ≤ w.lag →
      drives_next w.lag station (starts w.plan station) w.loads w.outside (later n) ≡ drive_sample c part words n
  mute-drives n few =
      let same = many n in
      serving-sends w.lag station (starts w.plan station) w.loads w.outside past (quiet_pairs n) owed.hears.serves (takes-nothing n)
      ∙ mute-sends w.lag t w.loads h.memory c h.ticks (moments n) words acceptance begins (hears n) owed.duty (omega (arith, few, same))
      ∙ ap (λ (p : Part). drive_sample c p words (length (moments n))) owed.part_is
      ∙ ap (drive_sample c part words) same

  pub mute-none : (n : ℕ) → took_now w.lag t w.loads (hearing_of w station (later (suc n))) ≡ None
  mute-none n =
      ap (took_now w.lag t w.loads) (hearing-is (suc n))
      ∙ (mute-takes w.lag t w.loads h.memory c h.ticks (moments n) (moment_of quiet_pair d) begins (hears (suc n))).0

  -- ---- when it is over

  abbrev u : Standing
  u = with_sent s c (Some (length h.ticks))

  abbrev heard : List Moment
  heard = moments (suc w.lag) ++ h.ticks

  stands : standing_of w station (later (suc w.lag)) ≡ u
  stands =
      ap (λ (x : Hearing). standing w.lag t w.loads x.memory x.ticks) (hearing-is (suc w.lag))
      ∙ muted-stands w.lag t w.loads h.memory c h.ticks (moments w.lag) (moment_of quiet_pair d) begins (hears (suc w.lag))

  over-now : w.lag < length (moments (suc w.lag))
  over-now = let same = many (suc w.lag) in omega (arith, same)

  rests-then : (a : Channel) → runs w.lag (heard_on a (moments (suc w.lag) ++ h.ticks)) ≡ false
  rests-then a =
      ap (runs w.lag) (heard-append a (moments (suc w.lag)) h.ticks)
      ∙ ap (λ xs. runs w.lag (xs ++ heard_on a h.ticks)) (shown a (suc w.lag))
      ∙ rests-quiet w.lag (length (moments (suc w.lag))) (heard_on a h.ticks) (owed.hears.rests a)

  heeds-own : ignored_from w.lag (heard_on c (moments (suc w.lag) ++ h.ticks)) (mark_on (with_sent s c (Some (length h.ticks))).sent c) ≡ false
  heeds-own =
      ap (ignored_from w.lag (heard_on c heard)) (sent-own s c (Some (length h.ticks)))
      ∙ muted-heeds w.lag t s c h.ticks (moments (suc w.lag)) (hears (suc w.lag)) over-now

  heeds-other : ignored_from w.lag (heard_on (other_of c) (moments (suc w.lag) ++ h.ticks))
      (mark_on (with_sent s c (Some (length h.ticks))).sent (other_of c)) ≡ false
  heeds-other =
      ap (ignored_from w.lag (heard_on (other_of c) heard)) (sent-other s c (Some (length h.ticks)))
      ∙ ap (λ xs. ignored_from w.lag xs (mark_on s.sent (other_of c))) (heard-append (other_of c) (moments (suc w.lag)) h.ticks)
      ∙ heeded-later w.lag (heard_on (other_of c) (moments (suc w.lag))) (heard_on (other_of c) h.ticks) (mark_on s.sent (other_of c))
      (owed.hears.heeds (other_of c))

  heeds-then : (a : Channel) → ignored_from w.lag (heard_on a (moments (suc w.lag) ++ h.ticks)) (mark_on (with_sent s c (Some (length h.ticks))).sent a) ≡ false
  heeds-then a = elim (this-or-other c a) [
    | inl same ↦ subst (λ x. ignored_from w.lag (heard_on x heard) (mark_on u.sent x) ≡ false) (sym same) heeds-own
    | inr other ↦ subst (λ x. ignored_from w.lag (heard_on x heard) (mark_on u.sent x) ≡ false) (sym other) heeds-other
  ]

  free-then : IsFree w.lag t (with_sent s c (Some (length h.ticks))) (moments (suc w.lag) ++ h.ticks)
  free-then = record {
    rests = rests-then;
    heeds = heeds-then;
    over = λ still. ap (λ x. is_over w.lag t (heard_on x heard) s) owed.channel
        ∙ muted-over w.lag t s c h.ticks (moments (suc w.lag)) (hears (suc w.lag)) begins over-now;
    promise = ap is_promise owed.duty;
  }

  pub mute-serving : IsServing w.lag station (starts w.plan station) w.loads w.outside (later (suc w.lag))
  mute-serving = record {
    serves = record {
      serves = ap (λ (x : Course). x.holds) (mute-course (suc w.lag)) ∙ owed.hears.serves.serves;
      idle = ap (λ (x : Course). x.runs) (mute-course (suc w.lag)) ∙ owed.hears.serves.idle;
    };
    free = subst (λ (x : Hearing). IsFree w.lag t (standing_of w station (later (suc w.lag))) x.ticks) (sym (hearing-is (suc w.lag)))
        (subst (λ x. IsFree w.lag t x heard) (sym stands) free-then);
  }

  pub mute-told : (y : Present) → present_of w station past ≡ loaded_at w.loads (length past) y →
      present_of w station (later (suc w.lag)) ≡ loaded_at w.loads (length (later (suc w.lag))) y
  mute-told y same =
      still-told w.lag w.plan w.loads w.outside w.absent station past (quiet_pairs (suc w.lag)) y same (mute-course (suc w.lag))
      (ap (λ (v : Standing). v.memory) stands)
