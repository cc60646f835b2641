-- The stations after an attempt: the one in control closed it, and the others are as its message left them.
use Rattle.std.proofs.Common.{◌≡◌, ◌≢◌, ℕ, Bool, true, false, not, List, refl, sym, ap, ◌∙◌}
use Rattle.std.proofs.lemmas.Bool.{eq-eqb, ne_eqb}
use Rattle.std.specs.Prelude.{◌==◌, if◌then◌else◌}
use Rattle.bus_formats.specs.Plans.{StationData}
use Rattle.bus_retry.specs.Retries.{next_of}
use Rattle.bus_model.specs.Memory.{Memory, TimedLoad, with_loads}
use Rattle.bus_model.specs.Message.{Present}
use Rattle.bus_model.specs.Attempts.{Begun, Ended}
use Rattle.bus_model.specs.Course.{Course, gives, close}
use Rattle.bus_model.specs.Run.{is_at, after_attempt}
use Rattle.bus_law_table.specs.Stations.{loaded_at}

-- ---- one station of the table

-- the one in control after its attempt ended so, and another one as it was
abbrev pub closed : StationData → Begun → Ended → Present → Present
closed holder begun e station =
    if is_at holder.terminal.address station then after_attempt begun e.outcome (next_of begun.entry.item begun.state e.outcome) station else station

by-test : (b v : Bool) (x y : Present) → b ≡ v → (if b then x else y) ≡ (if v then x else y)
by-test b v x y is = rw is refl

pub other-closed : (holder x : StationData) (begun : Begun) (e : Ended) (p : Present) → p.plan ≡ x → x.terminal.address ≢ holder.terminal.address →
    closed holder begun e p ≡ p
other-closed holder x begun e p is apart =
    by-test (is_at holder.terminal.address p) false (after_attempt begun e.outcome (next_of begun.entry.item begun.state e.outcome) p) p
    (ap (λ (q : StationData). q.terminal.address == holder.terminal.address) is ∙ ne_eqb x.terminal.address holder.terminal.address apart)

own-closed : (holder : StationData) (begun : Begun) (e : Ended) (p : Present) → p.plan ≡ holder →
    closed holder begun e p ≡ after_attempt begun e.outcome (next_of begun.entry.item begun.state e.outcome) p
own-closed holder begun e p is =
    by-test (is_at holder.terminal.address p) true (after_attempt begun e.outcome (next_of begun.entry.item begun.state e.outcome) p) p
    (ap (λ (q : StationData). q.terminal.address == holder.terminal.address) is ∙ eq-eqb holder.terminal.address holder.terminal.address refl)

-- ---- the one in control

abbrev station_with : StationData → Course → Memory → Present
station_with station c memory = record { plan = station; memory = memory; left = c.left; live = c.live; serves = not c.holds }

pub own-told : (holder : StationData) (begun : Begun) (e : Ended) (c d : Course) (tick now : ℕ) (loads : List TimedLoad) (before after memory : Memory) (y :
    Present) →
    d ≡ close c begun e tick → c.holds ≡ true → gives e.outcome ≡ false →
    station_with holder c before ≡ record y { memory = memory } →
    after ≡ with_loads holder.terminal.address now loads y.memory →
    station_with holder d after ≡ loaded_at loads now (closed holder begun e y)
own-told holder begun e c d tick now loads before after memory y is holds keeps same kept =
    let whole : y ≡ station_with holder c y.memory = sym (ap (λ (q : Present). record q { memory = y.memory }) same) in
    let here : closed holder begun e y ≡ after_attempt begun e.outcome (next_of begun.entry.item begun.state e.outcome) (station_with holder c y.memory) =
    own-closed holder begun e y (sym (ap (λ (q : Present). q.plan) same))
    ∙ ap (after_attempt begun e.outcome (next_of begun.entry.item begun.state e.outcome)) whole in
    let still : not c.holds ≡ not (not (gives e.outcome)) = ap not holds ∙ sym (ap (λ b. not (not b)) keeps) in
    ap (λ x. station_with holder x after) is
    ∙ ap (station_with holder (close c begun e tick)) kept
    ∙ sym (ap (λ b. record (station_with holder (close c begun e tick) (with_loads holder.terminal.address now loads y.memory)) { serves = b }) still)
    ∙ sym (ap (loaded_at loads now) here)
