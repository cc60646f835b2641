-- What was made so far, and what a terminal tells of a tick.
use Rattle.std.proofs.Common.{◌≡◌, ℕ, suc, ◌+◌, ◌<◌, Bool, true, false, ◌==◌, ◌&&◌, nat_le, List, [], ◌∷◌, length, Option, Some, None, refl, ◌∙◌, arith, inl, inr}
use Rattle.std.specs.Prelude.{is_some}
use Rattle.std.proofs.lemmas.Bool.{cases_Bool, eqb-true}
use Rattle.std.proofs.lemmas.Bool.Decides.{nat_tests}
use Rattle.bus_base.specs.declared.samples.Channel.{Channel}
use Rattle.bus_base.specs.declared.samples.Sample.{Sample}
use Rattle.bus_line.specs.Past.{Burst, ended_now, end_of}
use Rattle.bus_formats.specs.Plans.{TerminalData}
use Rattle.bus_formats.specs.declared.log.Delivery.{Delivery}
use Rattle.bus_model.specs.Memory.{TimedLoad}
use Rattle.bus_model.specs.Orders.{Duty, free, owes, promises, Taken, due_after}
use Rattle.bus_model.specs.Hearing.{Moment, Hearing, heard_on}
use Rattle.bus_model.specs.Standing.{Standing}
use Rattle.bus_model.specs.Terminal.{standing, accepted_now, accepted_by, heard_status, given_up}
use Rattle.bus_model.specs.Control.{OutsideTake, hear_more}
use Rattle.bus_terminal.specs.Stands.{AreMade, TakenIs, AcceptedIs}
use Rattle.bus_terminal.specs.declared.state.TerminalEvent.{TerminalEvent}
use Rattle.bus_terminal.specs.declared.state.TerminalEvent.TheVariants as heards
use Rattle.bus_terminal.proofs.Ends.{ended-place}
use Rattle.bus_terminal.proofs.Heard.{length-heard}
use Rattle.bus_terminal.proofs.Standing.{by-test}
use Rattle.bus_station.specs.Told.{delivery_of}
use Rattle.bus_station.specs.StationStands.{AreTaken}

-- ---- what was made so far

-- loads
pub made-more : (address n : ℕ) (loads : List TimedLoad) → AreMade address n loads → AreMade address (suc n) loads
made-more address n [] made = made
made-more address n (load ∷ loads) made = (λ e. (let before = made.0 e in omega (arith, before)), made-more address n loads made.1)

-- takes
pub taken-more : (address n : ℕ) (outside : List OutsideTake) → AreTaken address n outside → AreTaken address (suc n) outside
taken-more address n [] taken = taken
taken-more address n (take ∷ takes) taken = (λ e. (let before = taken.0 e in omega (arith, before)), taken-more address n takes taken.1)

-- a take of an earlier tick isn't one of this
pub not-outside : (address own tick n : ℕ) → (address ≡ own → tick < n) → ((tick == n) && (address == own)) ≡ false
not-outside address own tick n before = elim (cases_Bool (address == own)) [
  | inl same ↦ (
      let early : tick < n = before (eqb-true address own same) in
      let no : (tick == n) ≡ false = grind (arith, nat_tests, early) in
      rw no refl)
  | inr other ↦ rw other (both (tick == n))
] where
  both : (b : Bool) → (b && false) ≡ false
  both true = refl
  both false = refl

-- ---- the events of a terminal

-- the block that a terminal tells
abbrev pub delivery_heard : TerminalEvent → Option Delivery
delivery_heard (heards.Took delivery) = Some delivery
delivery_heard _ = None

-- it tells the block that was taken
pub taken-told : (event : TerminalEvent) (tick : ℕ) (c : Channel) (taken : Option Taken) → TakenIs event tick c taken →
    delivery_heard event ≡ delivery_of tick c taken
taken-told heards.Nothing tick c taken h = rw h refl
taken-told heards.Accepted tick c taken h = rw h refl
taken-told (heards.Took delivery) tick c taken h = rw (h.2, ← h.1, ← h.0) refl

-- and where it tells no acceptance, none came
pub none-accepted : (event : TerminalEvent) (end : Option ℕ) → (event ≡ heards.Accepted → ⊥) → AcceptedIs event end → end ≡ None
none-accepted heards.Nothing end other h = h
none-accepted (heards.Took delivery) end other h = h
none-accepted heards.Accepted end other h = absurd (other refl)

-- an end that is known
pub some-end : (end : Option ℕ) → is_some end ≡ true → (n : ℕ) × (end ≡ Some n)
some-end None h = absurd (cc)
some-end (Some n) h = (n, refl)

-- ---- the end of an answer that accepts

-- the end of the burst that is the answer
status-end : (due : ℕ) (o : Option Burst) (end : ℕ) → heard_status due o ≡ Some end → (burst : Burst) × (o ≡ Some burst) × (end_of burst ≡ end)
status-end due None end h = absurd (cc)
status-end due (Some burst) end h =
    by-test (λ (r : Option ℕ). r ≡ Some end → (b : Burst) × (Some burst ≡ Some b) × (end_of b ≡ end)) ((burst.first == due) && nat_le 40 burst.ticks)
    (Some (end_of burst)) None
    (λ _ is. (burst, refl, (let same : end_of burst ≡ end = cc in same))) (λ _ is. absurd (cc)) h

-- it lies k ticks before the newest
accepted-end-by : (k : ℕ) (t : TerminalData) (loads : List TimedLoad) (past : List Sample) (x : Sample) (s : Standing) (d : Duty) (end : ℕ) →
    accepted_by k t loads past x s d ≡ Some end → end + k ≡ length past
accepted-end-by k t loads past x s free end h = absurd (cc)
accepted-end-by k t loads past x s (promises command transmitter) end h = absurd (cc)
accepted-end-by k t loads past x s (owes words false) end h = absurd (cc)
accepted-end-by k t loads past x s (owes words true) end h =
    by-test (λ (r : Option ℕ). r ≡ Some end → end + k ≡ length past) (given_up k t past s) None (heard_status (due_after t s.end) (ended_now k (x ∷ past)))
    (λ _ is. absurd (cc))
    (λ _ is. (
    let (burst, ended, here) = status-end (due_after t s.end) (ended_now k (x ∷ past)) end is in
    let place = ended-place k (x ∷ past) burst ended in
    omega (arith, place.0, here)))
    h

-- it lies k ticks before the tick in which it is known
pub accepted-end : (k : ℕ) (t : TerminalData) (loads : List TimedLoad) (now : Moment) (hearing : Hearing) (end : ℕ) →
    accepted_now k t loads (hear_more hearing now) ≡ Some end → end + k ≡ length hearing.ticks
accepted-end k t loads now hearing end h =
    let s : Standing = standing k t loads hearing.memory hearing.ticks in
    accepted-end-by k t loads (heard_on s.channel hearing.ticks) _ s s.duty end h ∙ length-heard s.channel hearing.ticks
