-- The station in control, after a command of which the first word was struck: it waits for its answer, closes its message without one, and waits for quiet.
use Rattle.std.proofs.Common.{◌≡◌, inl, inr, ℕ, suc, ◌+◌, ◌-◌, ◌<◌, ◌≤◌, Bool, true, false, List, [], ◌∷◌, ◌++◌, length, Some, None, refl, sym, ap, ◌∙◌, subst, arith, length-append, append_assoc}
use Rattle.std.proofs.lemmas.Bool.{cases_lt, cases_eq, lt-ltb, le-ltb}
use Rattle.std.specs.Prelude.{nat_lt, if◌then◌else◌, ◌&&◌, ◌==◌}
use Rattle.bus_base.specs.declared.samples.Channel.{Channel}
use Rattle.bus_base.specs.declared.samples.Drive.TheVariants.{Silent}
use Rattle.bus_base.specs.declared.samples.Pair.{Pair}
use Rattle.bus_base.specs.declared.samples.Part.TheVariants.{First}
use Rattle.bus_line.specs.Past.{end_of}
use Rattle.bus_line.specs.Channels.{on_channel, quiet_both}
use Rattle.bus_formats.specs.Forms.{answers_of, command_words}
use Rattle.bus_formats.specs.Plans.{StationData}
use Rattle.bus_formats.specs.Times.{no_response}
use Rattle.bus_formats.specs.declared.form.Outcome.TheVariants.{NoResponse}
use Rattle.bus_formats.specs.declared.form.Shape.{Shape}
use Rattle.bus_model.specs.Attempts.{Begun, Ended, without_words}
use Rattle.bus_model.specs.Control.{so_far, drives_next, yielded_in}
use Rattle.bus_model.specs.Course.{Course, close, course}
use Rattle.bus_model.specs.Message.{Present, After, unmoved}
use Rattle.bus_model.specs.Starts.{Entry, starts}
use Rattle.bus_model.specs.Strikes.{ShownAnswer}
use Rattle.bus_law_control.specs.Silent.{StaysSilent}
use Rattle.bus_law_control.specs.Waiting.{StartsLater, StartedNone}
use Rattle.bus_law_control.proofs.Early.{needs-quiet}
use Rattle.bus_law_control.proofs.OwnChannel.{first-over}
use Rattle.bus_law_control.proofs.SilentHolder.{waits-silent, rests-silent, kept-then, course-then}
use Rattle.bus_law_stations.specs.Messages.{with_running}
use Rattle.bus_law_stations.specs.Silence.{AwaitsFirst}
use Rattle.bus_law_stations.specs.Turns.{KeepsControl}
use Rattle.bus_law_stations.proofs.StillStation.{always-taken}
use Rattle.bus_law_parts.specs.Parts.{part_ticks}
use Rattle.bus_law_phases.specs.Moments.{IsHolder}
use Rattle.bus_law_phases.specs.PartRuns.{burst_shown}
use Rattle.bus_law_phases.specs.Scenarios.{Scenario, shown_at, course_of}
use Rattle.bus_law_phases.proofs.AnswerLeft.{holder-left}
use Rattle.bus_law_beside.specs.Beside.{BeginsBeside}
use Rattle.bus_law_beside.proofs.BesideBegins as start
use Rattle.bus_law_beside.proofs.BesideDrives as both
use Rattle.bus_law_beside.proofs.BesideEnd as end
use Rattle.bus_law_beside.proofs.BesideHolder as control
use Rattle.bus_law_beside.proofs.StopTicks.{BreaksOff}
use Rattle.bus_law_beside.proofs.Tail as tail

by-yes : (b : Bool) (x y : Course) → b ≡ true → (if b then x else y) ≡ x
by-yes b x y on = rw on refl

by-no : (b : Bool) (x y : Course) → b ≡ false → (if b then x else y) ≡ y
by-no b x y off = rw off refl

-- an attempt that ended without an answer wasn't yielded
unyielded : (b : Bool) → (b && false) ≡ false
unyielded true = refl
unyielded false = refl

-- the last n of some ticks
pub split : (n : ℕ) (ys : List Pair) → n ≤ length ys → (us : List Pair) × (vs : List Pair) × (us ++ vs ≡ ys) × (length vs ≡ n)
split n [] low = ([], [], refl, omega (arith, low))
split n (y ∷ ys) low = elim (cases_eq n (suc (length ys))) [
  | inl same ↦ ([], y ∷ ys, refl, sym same)
  | inr other ↦ (let rest = split n ys (omega (arith, low, other)) in (y ∷ rest.0, rest.1, ap (λ xs. y ∷ xs) rest.2, rest.3))
]

module _ (w : Scenario) (t place : ℕ) (holder : StationData) (stations : List Present) (entry : Entry) (old : ShownAnswer)
    (p : BeginsBeside w t place holder stations entry old) (o : Pair) (os : List Pair) (is_old : p.beside.ticks ≡ o ∷ os) (valid : Bool) (sends m : ℕ)
    (breaks : BreaksOff old (t - old.sent.start) valid sends m)
    (orders : both.OrdersIt w t place holder stations entry old p o os is_old valid sends m breaks) (shape : Shape)
    (expects : (answers_of entry.item.kind).first ≡ Some shape) (limit : ℕ)
    (quiet : (ys : List Pair) → tail.IsTail w t place holder stations entry old p o os is_old valid sends m breaks orders ys → length ys ≤ limit →
    quiet_both (ys ++ tail.later w t place holder stations entry old p o os is_old valid sends m breaks orders) < 40) where
  abbrev past : List Pair
  past = (o ∷ os) ++ shown_at w old.sent.start

  abbrev d : Channel
  d = tail.d w t place holder stations entry old p o os is_old valid sends m breaks orders

  abbrev later : List Pair
  later = tail.later w t place holder stations entry old p o os is_old valid sends m breaks orders

  abbrev IsTail : List Pair → Type 0
  IsTail ys = tail.IsTail w t place holder stations entry old p o os is_old valid sends m breaks orders ys

  abbrev begun : Begun
  begun = start.begun w t place holder stations entry old p o os is_old valid sends m breaks

  -- the first tick after the command
  abbrev pub e : ℕ
  e = length past + part_ticks (start.hits w t place holder stations entry old p o os is_old valid sends m breaks) (command_words entry.item.kind)

  abbrev ending : Ended
  ending = without_words (NoResponse First) None None

  same-end : end_of (burst_shown (length past) (start.hits w t place holder stations entry old p o os is_old valid sends m breaks)
      (command_words entry.item.kind)) ≡ e
  same-end = omega arith

  pub long-later : length later ≡ e + 4
  long-later =
      let all : length (tail.ours w t place holder stations entry old p o os is_old valid sends m breaks orders ++ past) ≡ length
      (tail.ours w t place holder stations entry old p o os is_old valid sends m breaks orders) + length past = length-append
      (tail.ours w t place holder stations entry old p o os is_old valid sends m breaks orders) past in
      let many = end.many w t place holder stations entry old p o os is_old valid sends m breaks orders in
      let lag = p.lag in
      omega (arith, all, many, lag)

  waits0 : (course_of w holder later ≡ with_running (course_of w holder past) begun) × AwaitsFirst w.lag begun (on_channel d later) e
  waits0 =
      let is = (control.closed w t place holder stations entry old p o os is_old valid sends m breaks orders).waits shape expects in
      (is.0, subst (AwaitsFirst w.lag begun (on_channel d later)) same-end is.1)

  pub runs-at-first : course_of w holder later ≡ with_running (course_of w holder past) begun
  runs-at-first = waits0.0

  holds0 : (course_of w holder later).holds ≡ true
  holds0 = control.holds-later w t place holder stations entry old p o os is_old valid sends m breaks orders

  runs0 : (course_of w holder later).runs ≡ Some begun
  runs0 = ap (λ (a : Course). a.runs) waits0.0

  -- its course once it closed its message
  abbrev pub closed : Course
  closed = close (course_of w holder past) begun ending (e + no_response)

  -- it waits
  waiting : (ys : List Pair) → IsTail ys → length ys ≤ 20 → StaysSilent w.lag holder (starts w.plan holder) w.loads w.outside later ys
  waiting ys so low =
      waits-silent w.lag holder (starts w.plan holder) w.loads w.outside later holds0 begun runs0 e (inl waits0.1) ys so.quiet
      (omega (arith, long-later, low))

  -- it closes its message
  module _ (y : Pair) (vs : List Pair) (so : IsTail (y ∷ vs)) (many : length vs ≡ 20) where
    stays : StaysSilent w.lag holder (starts w.plan holder) w.loads w.outside later vs
    stays = waiting vs (tail.less w t place holder stations entry old p o os is_old valid sends m breaks orders y vs so) (omega (arith, many))

    at : length (vs ++ later) ≡ e + no_response
    at = let all : length (vs ++ later) ≡ length vs + length later = length-append vs later in omega (arith, all, many, long-later)

    closes-now : course w.lag holder (starts w.plan holder) (so_far w.lag holder (starts w.plan holder) w.loads w.outside later).takes (y ∷ (vs ++ later))
        ≡ closed
    closes-now =
        first-over w.lag holder (starts w.plan holder) (so_far w.lag holder (starts w.plan holder) w.loads w.outside later).takes later begun e
        (always-taken w.lag holder (starts w.plan holder) w.loads w.outside later) runs0 waits0.1 y vs so.quiet (omega (arith, many, long-later))
        ∙ ap (close (course_of w holder later) begun ending) at
        ∙ ap (λ a. close a begun ending (e + no_response)) waits0.0

    unyielded-now : yielded_in (length (vs ++ later)) closed.ended ≡ false
    unyielded-now = unyielded ((e + no_response) == length (vs ++ later))

    closes-keep : KeepsControl w.lag holder (starts w.plan holder) w.loads w.outside later (y ∷ vs)
    closes-keep = kept-then w.lag holder (starts w.plan holder) w.loads w.outside later vs holds0 stays y closed closes-now unyielded-now

    closes : course_of w holder ((y ∷ vs) ++ later) ≡ closed
    closes = course-then w.lag holder (starts w.plan holder) w.loads w.outside later vs holds0 stays y closed closes-now unyielded-now

    -- and then it waits for quiet
    abbrev base : List Pair
    base = (y ∷ vs) ++ later

    later-so : (us : List Pair) → IsTail (us ++ (y ∷ vs)) → length (us ++ (y ∷ vs)) ≤ limit → StartsLater (course_of w holder base) (us ++ base)
    later-so us all low =
        needs-quiet (course_of w holder base) (us ++ base) 40 (suc (e + no_response)) (ap (λ (a : Course). a.opening) closes)
        (subst (λ ps. quiet_both ps < 40) (append_assoc us (y ∷ vs) later) (quiet (us ++ (y ∷ vs)) all low))

    started-none : (us : List Pair) → IsTail (us ++ (y ∷ vs)) → length (us ++ (y ∷ vs)) ≤ limit → StartedNone (course_of w holder base) base us
    started-none [] all low = tt
    started-none (u ∷ us) all low =
        let less = tail.less w t place holder stations entry old p o os is_old valid sends m breaks orders u (us ++ (y ∷ vs)) all in (
          later-so us less (omega (arith, low)),
          started-none us less (omega (arith, low)),
        )

    resting : (us : List Pair) → IsTail (us ++ (y ∷ vs)) → length (us ++ (y ∷ vs)) ≤ limit →
        StaysSilent w.lag holder (starts w.plan holder) w.loads w.outside base us
    resting us all low =
        rests-silent w.lag holder (starts w.plan holder) w.loads w.outside base (ap (λ (a : Course). a.holds) closes) (ap (λ (a : Course). a.runs) closes) us
        (started-none us all low) (later-so us all low)

  -- ---- all of it

  -- what it does after these ticks
  pub record Waits (ys : List Pair) : Type 0 where
    pub is : course_of w holder (ys ++ later) ≡ (if nat_lt 20 (length ys) then closed else course_of w holder later)
    pub silent : drives_next w.lag holder (starts w.plan holder) w.loads w.outside (ys ++ later) ≡ Silent
    pub keeps : (after : After) → IsHolder w later holder after → IsHolder w (ys ++ later) holder (unmoved after.station)

  early : (ys : List Pair) → IsTail ys → length ys ≤ 20 → Waits ys
  early ys so low =
      let stays = waiting ys so low in record {
        is = stays.same ∙ sym (by-no (nat_lt 20 (length ys)) closed (course_of w holder later) (le-ltb 20 (length ys) low));
        silent = stays.silent;
        keeps = λ after is. holder-left w later ys holder holds0 stays.keeps after is;
      }

  after-it : (us vs : List Pair) → IsTail (us ++ vs) → length (us ++ vs) ≤ limit → length vs ≡ 21 → IsTail vs → Waits (us ++ vs)
  after-it us [] so low many tail_so = absurd (omega (arith, many))
  after-it us (y ∷ vs) so low many tail_so =
      let twenty : length vs ≡ 20 = omega (arith, many) in
      let stays = resting y vs tail_so twenty us so low in
      let joined : us ++ ((y ∷ vs) ++ later) ≡ (us ++ (y ∷ vs)) ++ later = sym (append_assoc us (y ∷ vs) later) in
      let all = length-append us (y ∷ vs) in
      let kept : (course_of w holder ((y ∷ vs) ++ later)).holds ≡ true = ap (λ (a : Course). a.holds) (closes y vs tail_so twenty) in
      record {
        is = ap (course_of w holder) (sym joined) ∙ stays.same ∙ closes y vs tail_so twenty
            ∙ sym (by-yes (nat_lt 20 (length (us ++ (y ∷ vs)))) closed (course_of w holder later)
            (lt-ltb 20 (length (us ++ (y ∷ vs))) (omega (arith, all, twenty))));
        silent = ap (drives_next w.lag holder (starts w.plan holder) w.loads w.outside) (sym joined) ∙ stays.silent;
        keeps = λ after is. subst (λ ps. IsHolder w ps holder (unmoved after.station)) joined
            (holder-left w ((y ∷ vs) ++ later) us holder kept stays.keeps (unmoved after.station)
            (holder-left w later (y ∷ vs) holder holds0 (closes-keep y vs tail_so twenty) after is));
      }

  last-of : (us vs : List Pair) → IsTail (us ++ vs) → IsTail vs
  last-of [] vs so = so
  last-of (u ∷ us) vs so = last-of us vs (tail.less w t place holder stations entry old p o os is_old valid sends m breaks orders u (us ++ vs) so)

  pub waits : (ys : List Pair) → IsTail ys → length ys ≤ limit → Waits ys
  waits ys so low = elim (cases_lt 20 (length ys)) [
    | inr few ↦ early ys so few
    | inl more ↦ (
        let parts = split 21 ys (omega (arith, more)) in
        let whole : IsTail (parts.0 ++ parts.1) = subst (λ zs. IsTail zs) (sym parts.2) so in
        let count : length (parts.0 ++ parts.1) ≤ limit = subst (λ (zs : List Pair). length zs ≤ limit) (sym parts.2) low in
        subst Waits parts.2 (after-it parts.0 parts.1 whole count parts.3 (last-of parts.0 parts.1 whole)))
  ]

  -- it holds control
  pub still-holds : (ys : List Pair) → IsTail ys → length ys ≤ limit → (course_of w holder (ys ++ later)).holds ≡ true
  still-holds ys so low = ap (λ (a : Course). a.holds) (waits ys so low).is ∙ by (nat_lt 20 (length ys)) where
    by : (b : Bool) → (if b then closed else course_of w holder later).holds ≡ true
    by true = refl
    by false = holds0
