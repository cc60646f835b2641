-- A tick of a station that holds control.
use Rattle.std.proofs.Common.{◌≡◌, ℕ, suc, Bool, true, false, nat_le, nat_lt, List, [], ◌∷◌, length, Option, Some, None, refl, sym, ap, ◌∙◌, subst, arith, inl, inr, if◌then◌else◌}
use Rattle.std.proofs.lemmas.Bool.{cases_lt}
use Rattle.std.proofs.lemmas.Bool.Decides.{nat_tests}
use Rattle.bus_base.specs.declared.samples.Pair.{Pair}
use Rattle.bus_base.specs.declared.samples.Tick.{Tick}
use Rattle.bus_formats.specs.Plans.{StationData}
use Rattle.bus_formats.specs.declared.log.Attempt.{Attempt}
use Rattle.bus_model.specs.Memory.{TimedLoad}
use Rattle.bus_model.specs.Starts.{Opening, usual, superseding, taking}
use Rattle.bus_model.specs.Hearing.{Moment, Hearing}
use Rattle.bus_model.specs.Terminal.{standing, order_now}
use Rattle.bus_model.specs.Course.{Course, course}
use Rattle.bus_model.specs.Control.{OutsideTake, StationSoFar, hold, serve, hear_more, moment_of, unheard, yielded_in, is_yielded, taking_from}
use Rattle.bus_terminal.specs.Stands.{channel_of}
use Rattle.bus_terminal.specs.TerminalStands.{TerminalKeeps}
use Rattle.bus_controller.specs.ControllerStands.{ControllerKeeps}
use Rattle.bus_station.specs.Roles.{tick_of, still_taking}
use Rattle.bus_station.specs.Told.{ended_in, delivery_of, heard_newest, delivered_newest}
use Rattle.bus_station.specs.StationStands.{taking_of, Stands, StationKeeps, AfterTick}
use Rattle.bus_station.specs.declared.station.Station.{Station}
use Rattle.bus_station.specs.declared.event.StationEvent.TheVariants as events
use Rattle.bus_station.proofs.Courses.{ended-before, is-calm, has-ended}
use Rattle.bus_station.proofs.Yields.{none-told, none-yielded, one-told, one-yielded}
use Rattle.bus_station.proofs.Quiet.{woken-took}
use Rattle.bus_station.proofs.SoFar.{so_far-tick, keeps}
use Rattle.bus_station.proofs.Ticks.{made-more, taken-more}
use Rattle.bus_station.proofs.Serving.{sofar, before}

-- ---- the first command's tick

-- a tick and its number
told : (first : ℕ) (early : Bool) → (if early then Some record { 0 = first } else None) ≡ tick_of (if early then Some first else None)
told first true = refl
told first false = refl

-- it is kept where this tick is before it
still-if : (n first : ℕ) (b : Bool) → (b ≡ false → nat_lt n first ≡ false) → still_taking (tick_of (if b then Some first else None)) n ≡ tick_of
    (if nat_lt n first then Some first else None)
still-if n first true h = told first (nat_lt n first)
still-if n first false h = rw (h refl) refl

-- before it is up to it from the next tick on
next-le : (n first : ℕ) → nat_lt n first ≡ nat_le (suc n) first
next-le n first = elim (cases_lt n first) [
  | inl less ↦ (
      let here : nat_lt n first ≡ true = grind (arith, nat_tests, less) in
      let there : nat_le (suc n) first ≡ true = grind (arith, nat_tests, less) in
      here ∙ sym there)
  | inr over ↦ (
      let here : nat_lt n first ≡ false = grind (arith, nat_tests, over) in
      let there : nat_le (suc n) first ≡ false = grind (arith, nat_tests, over) in
      here ∙ sym there)
]

-- it is kept until it was heard
still-by : (n first : ℕ) → still_taking (tick_of (if nat_le n first then Some first else None)) n ≡ tick_of (if nat_le (suc n) first then Some first else None)
still-by n first =
    still-if n first (nat_le n first) (λ late. grind (arith, nat_tests, late))
    ∙ ap (λ (b : Bool). tick_of (if b then Some first else None)) (next-le n first)

-- it is known until it was heard
still : (n : ℕ) (o : Opening) → still_taking (tick_of (taking_from n o)) n ≡ tick_of (taking_from (suc n) o)
still n (usual need tick) = refl
still n (superseding tick channel) = refl
still n (taking first) = still-by n first

-- control is being taken as before where nothing ended
held-taking : (n : ℕ) (c d : Course) → c.holds ≡ true → d.holds ≡ c.holds → d.opening ≡ c.opening → still_taking (tick_of (taking_of n c)) n ≡ tick_of
    (taking_of (suc n) d)
held-taking n c d on holds opens = rw (holds, on, opens) (still n c.opening)

-- and no longer where an attempt ended
ended-taking : (n : ℕ) (d : Course) → taking_from n d.opening ≡ None → (b : Bool) → d.holds ≡ b → None ≡ tick_of (taking_of n d)
ended-taking n d none true on = rw (on, none) refl
ended-taking n d none false off = rw off refl

module _ (k : ℕ) (station : StationData) (starts : Bool) (loads : List TimedLoad) (outside : List OutsideTake) where
  -- a station that held control, after a tick in which its terminal heard this
  pub so_far-held : (x : Pair) (past : List Pair) (y : Bool) → (before k station starts loads outside past).holds ≡ true →
      yielded_in (length past) (course k station starts (sofar k station starts loads outside past).takes (x ∷ past)).ended ≡ y →
      sofar k station starts loads outside (x ∷ past)
      ≡ record (sofar k station starts loads outside past) {
        hearing = hear_more (sofar k station starts loads outside past).hearing
            (if y then moment_of x (course k station starts (sofar k station starts loads outside past).takes (x ∷ past)) else unheard);
      }
  so_far-held x past y on is =
      let s : StationSoFar = sofar k station starts loads outside past in
      let d : Course = course k station starts s.takes (x ∷ past) in
      so_far-tick k station starts loads outside x past
      ∙ ap (λ (b : Bool). if b then hold k station starts loads outside x past s d
      else serve k station starts loads outside x past s (before k station starts loads outside past)) on
      ∙ ap (λ (b : Bool). record s { hearing = hear_more s.hearing (if b then moment_of x d else unheard) }) is

  -- while control is held no block is taken
  none-delivered : (x : Pair) (past : List Pair) → (before k station starts loads outside past).holds ≡ true →
      None ≡ delivered_newest k station starts loads outside (x ∷ past)
  none-delivered x past on =
      let kept = keeps k station starts loads outside past in
      let now : Moment = heard_newest k station starts loads outside x past in
      let h : Hearing = (sofar k station starts loads outside past).hearing in
      sym (ap (delivery_of (length h.ticks) (channel_of (standing k station.terminal loads h.memory h.ticks)
      (order_now k station.terminal (now ∷ h.ticks) (standing k station.terminal loads h.memory h.ticks))))
      (woken-took k station.terminal loads h.memory now h.ticks (length past) (kept.deaf on)))

  -- a station that held control stands for one tick more
  held-stands : (old new : Station) (x : Pair) (past : List Pair) (y : Bool) → Stands k station starts loads outside old past
      (sofar k station starts loads outside past) →
      (before k station starts loads outside past).holds ≡ true →
      yielded_in (length past) (course k station starts (sofar k station starts loads outside past).takes (x ∷ past)).ended ≡ y →
      ControllerKeeps k station starts (sofar k station starts loads outside past).takes new.controller (x ∷ past) →
      TerminalKeeps k station.terminal loads new.terminal (hear_more (sofar k station starts loads outside past).hearing
      (if y then moment_of x (course k station starts (sofar k station starts loads outside past).takes (x ∷ past)) else unheard)) →
      new.address ≡ old.address →
      new.taking ≡ tick_of (taking_of (suc (length past)) (course k station starts (sofar k station starts loads outside past).takes (x ∷ past))) →
      StationKeeps k station starts loads outside new (x ∷ past)
  unfolding StationKeeps
  held-stands old new x past y st on yields controller terminal address first_is =
      subst (λ (s : StationSoFar). Stands k station starts loads outside new (x ∷ past) s) (sym (so_far-held x past y on yields)) record {
        address = address ∙ st.address;
        controller = controller;
        terminal = terminal;
        taking = first_is;
        made = made-more station.terminal.address (length past) loads st.made;
        taken = taken-more station.terminal.address (length past) outside st.taken;
      }

  -- control is held on where no attempt ended, and then no tick is heard
  pub rested-next : (x : Pair) (past : List Pair) → (before k station starts loads outside past).holds ≡ true →
      (course k station starts (sofar k station starts loads outside past).takes (x ∷ past)).ended ≡ (before k station starts loads outside past).ended →
      ((sofar k station starts loads outside (x ∷ past)).hearing.ticks ≡ unheard ∷ (sofar k station starts loads outside past).hearing.ticks)
      × ((before k station starts loads outside (x ∷ past)).holds ≡ true)
  rested-next x past on same =
      let n : ℕ = length past in
      let s : StationSoFar = sofar k station starts loads outside past in
      let c : Course = before k station starts loads outside past in
      let d : Course = course k station starts s.takes (x ∷ past) in
      let kept = keeps k station starts loads outside past in
      let calm = is-calm k station starts s.takes x past kept.later same in
      let quiet : yielded_in n d.ended ≡ false = ap (yielded_in n) same ∙ none-yielded n c.ended (ended-before k station starts s.takes past) in
      let held = so_far-held x past false on quiet in (
        ap (λ (t : StationSoFar). t.hearing.ticks) held,
        ap (λ (t : StationSoFar). (course k station starts t.takes (x ∷ past)).holds) held ∙ calm.holds ∙ on,
      )

  -- where one ended its tick is heard if control was yielded in it
  pub closed-next : (x : Pair) (past : List Pair) (a : Attempt) → (before k station starts loads outside past).holds ≡ true →
      (course k station starts (sofar k station starts loads outside past).takes (x ∷ past)).ended ≡ a ∷ (before k station starts loads outside past).ended →
      (sofar k station starts loads outside (x ∷ past)).hearing.ticks
      ≡ (if is_yielded a.outcome then moment_of x (course k station starts (sofar k station starts loads outside past).takes (x ∷ past)) else unheard)
      ∷ (sofar k station starts loads outside past).hearing.ticks
  closed-next x past a on is =
      let n : ℕ = length past in
      let s : StationSoFar = sofar k station starts loads outside past in
      let c : Course = before k station starts loads outside past in
      let kept = keeps k station starts loads outside past in
      let ending = has-ended k station starts s.takes x past kept.later a is in
      ap (λ (t : StationSoFar). t.hearing.ticks)
      (so_far-held x past (is_yielded a.outcome) on (ap (yielded_in n) is ∙ one-yielded n a c.ended ending.at))

  -- no attempt ended
  pub rested : (old new : Station) (x : Pair) (past : List Pair) → Stands k station starts loads outside old past (sofar k station starts loads outside past) →
      (before k station starts loads outside past).holds ≡ true →
      (course k station starts (sofar k station starts loads outside past).takes (x ∷ past)).ended ≡ (before k station starts loads outside past).ended →
      ControllerKeeps k station starts (sofar k station starts loads outside past).takes new.controller (x ∷ past) →
      TerminalKeeps k station.terminal loads new.terminal (hear_more (sofar k station starts loads outside past).hearing unheard) →
      new.address ≡ old.address → new.taking ≡ still_taking old.taking (length past) →
      AfterTick k station starts loads outside new events.Nothing x past
  rested old new x past st on same controller terminal address first_is =
      let n : ℕ = length past in
      let s : StationSoFar = sofar k station starts loads outside past in
      let c : Course = before k station starts loads outside past in
      let d : Course = course k station starts s.takes (x ∷ past) in
      let kept = keeps k station starts loads outside past in
      let old_ones = ended-before k station starts s.takes past in
      let calm = is-calm k station starts s.takes x past kept.later same in
      let quiet : yielded_in n d.ended ≡ false = ap (yielded_in n) same ∙ none-yielded n c.ended old_ones in
      record {
        stands = held-stands old new x past false st on quiet controller terminal address
            (first_is ∙ ap (λ (t : Option Tick). still_taking t n) st.taking ∙ held-taking n c d on calm.holds calm.opening);
        ended = sym (
            ap (λ (t : StationSoFar). ended_in station.terminal.address n (course k station starts t.takes (x ∷ past)).ended)
            (so_far-held x past false on quiet)
            ∙ ap (ended_in station.terminal.address n) same
            ∙ none-told station.terminal.address n c.ended old_ones);
        took = none-delivered x past on;
      }

  -- this attempt ended
  pub closed : (old new : Station) (x : Pair) (past : List Pair) (a : Attempt) → Stands k station starts loads outside old past
      (sofar k station starts loads outside past) →
      (before k station starts loads outside past).holds ≡ true →
      (course k station starts (sofar k station starts loads outside past).takes (x ∷ past)).ended ≡ a ∷ (before k station starts loads outside past).ended →
      ControllerKeeps k station starts (sofar k station starts loads outside past).takes new.controller (x ∷ past) →
      TerminalKeeps k station.terminal loads new.terminal (hear_more (sofar k station starts loads outside past).hearing
      (if is_yielded a.outcome then moment_of x (course k station starts (sofar k station starts loads outside past).takes (x ∷ past)) else unheard)) →
      new.address ≡ old.address → new.taking ≡ None →
      AfterTick k station starts loads outside new (events.Ended (record a { station = new.address })) x past
  closed old new x past a st on is controller terminal address first_is =
      let n : ℕ = length past in
      let s : StationSoFar = sofar k station starts loads outside past in
      let c : Course = before k station starts loads outside past in
      let d : Course = course k station starts s.takes (x ∷ past) in
      let kept = keeps k station starts loads outside past in
      let ending = has-ended k station starts s.takes x past kept.later a is in
      let yields : yielded_in n d.ended ≡ is_yielded a.outcome = ap (yielded_in n) is ∙ one-yielded n a c.ended ending.at in
      record {
        stands = held-stands old new x past (is_yielded a.outcome) st on yields controller terminal address
            (first_is ∙ ended-taking (suc n) d (ending.opens (suc n)) d.holds refl);
        ended = ap (λ (own : ℕ). record a { station = own } ∷ []) (address ∙ st.address) ∙ sym (
            ap (λ (t : StationSoFar). ended_in station.terminal.address n (course k station starts t.takes (x ∷ past)).ended)
            (so_far-held x past (is_yielded a.outcome) on yields)
            ∙ ap (ended_in station.terminal.address n) is
            ∙ one-told station.terminal.address n a c.ended ending.at);
        took = none-delivered x past on;
      }
