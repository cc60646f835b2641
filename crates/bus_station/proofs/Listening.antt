-- By which cutters a station's terminal hears, tick by tick.
use Rattle.std.proofs.Common.{◌≡◌, ℕ, suc, ◌<◌, Bool, true, false, ◌||◌, nat_le, List, ◌∷◌, refl, sym, ap, subst, arith, if◌then◌else◌}
use Rattle.std.proofs.lemmas.Bool.Decides.{nat_tests}
use Rattle.bus_base.specs.declared.samples.Channel.TheVariants.{A, B}
use Rattle.bus_base.specs.declared.samples.Pair.{Pair}
use Rattle.bus_line.specs.Channels.{on_channel, quiet_both}
use Rattle.bus_receiver.specs.Cuts.{CuttersStand, CuttersHear}
use Rattle.bus_receiver.specs.declared.cutters.Cutters.{Cutters}
use Rattle.bus_receiver.specs.declared.cutters.Cuts.{Cuts}
use Rattle.bus_receiver.specs.declared.receiver.Moment.{Moment as HeardMoment}
use Rattle.bus_receiver.proofs.Rests.{both-for-all, quiet-rests as channel-rests}
use Rattle.bus_formats.specs.Plans.{StationData, TerminalData}
use Rattle.bus_model.specs.Memory.{TimedLoad}
use Rattle.bus_model.specs.Hearing.{Moment, Hearing, heard_on}
use Rattle.bus_model.specs.Control.{OutsideTake, hear_more, unheard, holds_control, hearing_after}
use Rattle.bus_terminal.specs.Quiet.{quiet_moments}
use Rattle.bus_terminal.specs.Stands.{AreMade}
use Rattle.bus_terminal.specs.TerminalStands.{TerminalKeeps, TerminalHears}
use Rattle.bus_terminal.specs.declared.terminal.Terminal.{Terminal}
use Rattle.bus_terminal.specs.declared.state.TerminalEvent.{TerminalEvent}
use Rattle.bus_terminal.proofs.Resting.{keeps-resting, hears-resting, quiet-rests}
use Rattle.bus_station.specs.Hears.{HeardBy}
use Rattle.bus_station.specs.Listening.{HearsBy, InStep, IsNext}
use Rattle.bus_station.specs.declared.station.Station.{Station}

-- ---- one cutter or the other

-- the cutters that were chosen heard the tick
pub chosen-hear : (k : ℕ) (own : Bool) (a b a' b' : Cutters) (shown : Pair) (cuts : Cuts) → (own ≡ true → CuttersHear k a a' shown cuts) →
    (own ≡ false → CuttersHear k b b' shown cuts) → CuttersHear k (if own then a else b) (if own then a' else b') shown cuts
chosen-hear k true a b a' b' shown cuts f g = f refl
chosen-hear k false a b a' b' shown cuts f g = g refl

-- those of its own, where it hears by them
pub own-hears : (k : ℕ) (own : Bool) (value : Station) (bus : Cutters) (ticks : List Moment) → own ≡ true → HearsBy k own value bus ticks →
    TerminalHears k value.terminal ticks
own-hears k true value bus ticks is st = st
own-hears k false value bus ticks is st = absurd (cc)

-- and the other way
pub hears-own : (k : ℕ) (own : Bool) (value : Station) (bus : Cutters) (ticks : List Moment) → own ≡ true → TerminalHears k value.terminal ticks →
    HearsBy k own value bus ticks
hears-own k true value bus ticks is st = st
hears-own k false value bus ticks is st = absurd (cc)

-- while it serves it hears by what is asked for
pub hears-off : (k : ℕ) (h own : Bool) (value : Station) (bus : Cutters) (ticks : List Moment) → h ≡ false → HearsBy k (h || own) value bus ticks →
    HearsBy k own value bus ticks
hears-off k false own value bus ticks off st = st
hears-off k true own value bus ticks off st = absurd (cc)

-- and the other way
pub off-hears : (k : ℕ) (h own : Bool) (value : Station) (bus : Cutters) (ticks : List Moment) → h ≡ false → HearsBy k own value bus ticks →
    HearsBy k (h || own) value bus ticks
off-hears k false own value bus ticks off st = st
off-hears k true own value bus ticks off st = absurd (cc)

-- with control by its own cutters
pub hears-on : (k : ℕ) (h own : Bool) (value : Station) (bus : Cutters) (ticks : List Moment) → h ≡ true → HearsBy k (h || own) value bus ticks →
    TerminalHears k value.terminal ticks
hears-on k true own value bus ticks on st = st
hears-on k false own value bus ticks on st = absurd (cc)

-- and the other way
pub on-hears : (k : ℕ) (h own : Bool) (value : Station) (bus : Cutters) (ticks : List Moment) → h ≡ true → TerminalHears k value.terminal ticks →
    HearsBy k (h || own) value bus ticks
on-hears k true own value bus ticks on st = st
on-hears k false own value bus ticks on st = absurd (cc)

-- one of two is so
pub or-last : (h own : Bool) → own ≡ true → (h || own) ≡ true
or-last true own is = refl
or-last false own is = is

-- a station that hears by its own cutters, and whose terminal may hear by those of the bus unless it has control or is alone
pub either-hears : (k : ℕ) (h alone : Bool) (value : Station) (bus : Cutters) (ticks : List Moment) → TerminalHears k value.terminal ticks →
    (h ≡ false → alone ≡ false → CuttersStand k bus (heard_on A ticks) (heard_on B ticks)) → HearsBy k (h || alone) value bus ticks
either-hears k true alone value bus ticks own others = own
either-hears k false true value bus ticks own others = own
either-hears k false false value bus ticks own others = others refl refl

-- the same cutters for the same ticks
pub hears-same : (k : ℕ) (own : Bool) (old new : Station) (bus : Cutters) (ticks : List Moment) → new.terminal.cutters ≡ old.terminal.cutters →
    HearsBy k own old bus ticks → HearsBy k own new bus ticks
hears-same k own old new bus ticks same st =
    subst (λ (cutters : Cutters). CuttersStand k (if own then cutters else bus) (heard_on A ticks) (heard_on B ticks)) (sym same) st

-- ---- quiet ticks

-- a terminal that heard quiet ticks keeps the same with one more
pub rested-keeps : (k : ℕ) (t : TerminalData) (loads : List TimedLoad) (value : Terminal) (hearing : Hearing) (n : ℕ) → hearing.ticks ≡ quiet_moments n →
    AreMade t.address (suc n) loads → TerminalKeeps k t loads value hearing → TerminalKeeps k t loads value (hear_more hearing unheard)
rested-keeps k t loads value hearing n is made st =
    subst (λ (ticks : List Moment). TerminalKeeps k t loads value (record { memory = hearing.memory; ticks = ticks }))
    (ap (λ (ticks : List Moment). unheard ∷ ticks) (sym is))
    (keeps-resting k t loads value hearing.memory n (suc n) made
    (subst (λ (ticks : List Moment). TerminalKeeps k t loads value (record { memory = hearing.memory; ticks = ticks })) is st))

-- so do its cutters
pub rested-hears : (k : ℕ) (value : Terminal) (ticks : List Moment) (n : ℕ) → ticks ≡ quiet_moments n → TerminalHears k value ticks →
    TerminalHears k value (unheard ∷ ticks)
rested-hears k value ticks n is st =
    subst (λ (heard : List Moment). TerminalHears k value (unheard ∷ heard)) (sym is)
    (hears-resting k value.cutters n (suc n) (subst (λ (heard : List Moment). TerminalHears k value heard) is st))

-- cutters of the bus that are at rest stand for quiet ticks too
pub quiet-stand : (k : ℕ) (bus : Cutters) (past : List Pair) (n : ℕ) → CuttersStand k bus (on_channel A past) (on_channel B past) → k < quiet_both past →
    CuttersStand k bus (heard_on A (quiet_moments n)) (heard_on B (quiet_moments n))
quiet-stand k bus past n st long =
    both-for-all k bus (on_channel A past) (on_channel B past) (heard_on A (quiet_moments n)) (heard_on B (quiet_moments n)) st
    (channel-rests k A past long) (channel-rests k B past long) (quiet-rests k A n) (quiet-rests k B n)

-- ---- control is given

-- a number that isn't up to another is above it
above : (n k : ℕ) → nat_le n k ≡ false → k < n
above n k e = grind (arith, nat_tests, e)

-- after a tick in which an attempt ended, those who hear for the station stand for what its terminal heard
pub given-stand : (k : ℕ) (moment : HeardMoment) (before after : Cutters) (past : List Pair) (now : Moment) (ticks : List Moment) (n : ℕ) (y : Bool) →
    IsNext k moment before after past → ticks ≡ quiet_moments n → now.shown ≡ moment.shown →
    nat_le (if y then moment.before else moment.quiet) k ≡ false →
    CuttersStand k after (heard_on A ((if y then now else unheard) ∷ ticks)) (heard_on B ((if y then now else unheard) ∷ ticks))
given-stand k moment before after past now ticks n true next rests shown far =
    let long : k < quiet_both past = subst (λ (q : ℕ). k < q) (ap (λ (m : HeardMoment). m.before) next.is) (above moment.before k far) in
    let old = quiet-stand k before past n next.stands long in
    subst (λ (x : Pair). CuttersStand k after (x.a ∷ heard_on A ticks) (x.b ∷ heard_on B ticks)) (sym shown)
    (next.hears.stands (heard_on A ticks) (heard_on B ticks)
    (subst (λ (heard : List Moment). CuttersStand k before (heard_on A heard) (heard_on B heard)) (sym rests) old))
given-stand k moment before after past now ticks n false next rests shown far =
    let long : k < quiet_both (moment.shown ∷ past) = subst (λ (q : ℕ). k < q) (ap (λ (m : HeardMoment). m.quiet) next.is) (above moment.quiet k far) in
    subst (λ (heard : List Moment). CuttersStand k after (heard_on A (unheard ∷ heard)) (heard_on B (unheard ∷ heard))) (sym rests)
    (quiet-stand k after (moment.shown ∷ past) (suc n) (next.hears.stands (on_channel A past) (on_channel B past) next.stands) long)

-- ---- what a terminal heard, by equal names

pub heard-by : (k : ℕ) (t : TerminalData) (loads : List TimedLoad) (terminal : Terminal) (event : TerminalEvent) (tick n : ℕ) (hearing : Hearing)
    (heard shown : Pair) (may items : Bool) →
    heard ≡ shown → may ≡ items → n ≡ tick →
    HeardBy k t loads terminal event n hearing (record { shown = heard; has_items = may }) →
    HeardBy k t loads terminal event tick hearing (record { shown = shown; has_items = items })
heard-by k t loads terminal event tick n hearing heard shown may items e f g st =
    subst (λ (i : ℕ). HeardBy k t loads terminal event i hearing (record { shown = shown; has_items = items })) g
    (subst (λ (b : Bool). HeardBy k t loads terminal event n hearing (record { shown = shown; has_items = b })) f
    (subst (λ (x : Pair). HeardBy k t loads terminal event n hearing (record { shown = x; has_items = may })) e st))

-- ---- in step

module _ (k : ℕ) (station : StationData) (starts : Bool) (loads : List TimedLoad) (outside : List OutsideTake) where
  -- what in step means
  pub step-hears : (value : Station) (bus : Cutters) (past : List Pair) → InStep k station starts loads outside value bus past →
      HearsBy k (holds_control k station starts loads outside past || value.alone) value bus (hearing_after k station starts loads outside past).ticks
  unfolding InStep
  step-hears value bus past st = st

  -- and the other way
  pub hears-step : (value : Station) (bus : Cutters) (past : List Pair) →
      HearsBy k (holds_control k station starts loads outside past || value.alone) value bus (hearing_after k station starts loads outside past).ticks →
      InStep k station starts loads outside value bus past
  unfolding InStep
  hears-step value bus past st = st

  -- a station that told what it noticed is in step as before
  pub told-step : (old new : Station) (bus : Cutters) (past : List Pair) → new.terminal ≡ old.terminal → new.alone ≡ old.alone →
      InStep k station starts loads outside old bus past → InStep k station starts loads outside new bus past
  told-step old new bus past terminal alone st =
      hears-step new bus past
      (subst (λ (b : Bool). HearsBy k (holds_control k station starts loads outside past || b) new bus
      (hearing_after k station starts loads outside past).ticks) (sym alone)
      (hears-same k (holds_control k station starts loads outside past || old.alone) old new bus (hearing_after k station starts loads outside past).ticks
      (ap (λ (t : Terminal). t.cutters) terminal) (step-hears old bus past st)))

  -- a station that heard a tick by its own cutters where it is alone, and by those of the bus where it isn't
  pub served-step : (value : Station) (bus : Cutters) (past : List Pair) (own : Bool) → own ≡ value.alone →
      HearsBy k (holds_control k station starts loads outside past || own) value bus (hearing_after k station starts loads outside past).ticks →
      InStep k station starts loads outside value bus past
  served-step value bus past own is st =
      hears-step value bus past
      (subst (λ (b : Bool). HearsBy k (holds_control k station starts loads outside past || b) value bus
      (hearing_after k station starts loads outside past).ticks) is st)
