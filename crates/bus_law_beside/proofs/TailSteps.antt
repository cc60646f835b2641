-- One tick more, in which no terminal takes a block, and the attempts that end are those of one station.
use Rattle.std.proofs.Common.{◌≡◌, ◌≢◌, ℕ, Bool, true, false, List, [], ◌∷◌, ◌++◌, length, None, refl, ap, ◌∙◌}
use Rattle.std.proofs.lemmas.List.{append-nil}
use Rattle.std.specs.Prelude.{if◌then◌else◌, option_map}
use Rattle.bus_base.specs.declared.samples.Pair.{Pair}
use Rattle.bus_formats.specs.Plans.{StationData}
use Rattle.bus_formats.specs.declared.log.Attempt.{Attempt}
use Rattle.bus_model.specs.Terminal.{took_now}
use Rattle.bus_model.specs.World.{is_present}
use Rattle.bus_model.specs.WorldLog.{present_stations, ended_by, attempts}
use Rattle.bus_law_table.specs.Happened.{block_at, took_in, blocks_in as blocks_now, blocks_found}
use Rattle.bus_law_table.proofs.Pairing.{none-each}
use Rattle.bus_law_phases.specs.Answers.{attempts_ended}
use Rattle.bus_law_phases.specs.Scenarios.{Scenario, blocks_in, attempts_in, course_of, hearing_of, standing_of, IsPresentAt}
use Rattle.bus_law_phases.proofs.Resting.{each-present}
use Rattle.bus_law_phases.proofs.Spares.{one-gives}

-- ---- one tick more

pub none-taken : (w : Scenario) (x : Pair) (rest : List Pair) → ((other : ℕ) (station : StationData) → IsPresentAt w other station →
    took_now w.lag station.terminal w.loads (hearing_of w station (x ∷ rest)) ≡ None) → blocks_in w (x ∷ rest) ≡ blocks_in w rest
unfolding blocks_found
none-taken w x rest takes =
    let tick = length rest in
    let None_of = λ (st : StationData). took_in w.lag w.plan w.loads w.outside w.absent (x ∷ rest) tick st ≡ None in
    let none : blocks_now w.lag w.plan w.loads w.outside w.absent (x ∷ rest) tick ≡ [] =
    none-each None_of (took_in w.lag w.plan w.loads w.outside w.absent (x ∷ rest) tick) (present_stations w.lag w.plan w.loads w.outside w.absent)
    (each-present w rest None_of (λ other station at.
    ap (option_map (block_at tick (standing_of w station (x ∷ rest)).channel station)) (takes other station at))) (λ st is. is) in
    ap (λ bs. blocks_in w rest ++ bs) none ∙ append-nil (blocks_in w rest)

-- the attempts of one station that end in a tick are those of the run
pub one-ends : (w : Scenario) (x : Pair) (rest : List Pair) (place : ℕ) (holder : StationData) (ended : List Attempt) → IsPresentAt w place holder →
    attempts_ended w holder (length rest) (course_of w holder (x ∷ rest)) ≡ ended →
    ((other : ℕ) (station : StationData) → IsPresentAt w other station → other ≢ place →
    attempts_ended w station (length rest) (course_of w station (x ∷ rest)) ≡ []) →
    attempts_in w (x ∷ rest) ≡ attempts_in w rest ++ ended
unfolding attempts
one-ends w x rest place holder ended at own others =
    ap (λ xs. attempts_in w rest ++ xs)
    (one-gives (is_present w.absent) (ended_by w.lag w.plan w.loads w.outside w.absent (x ∷ rest) (length rest)) w.plan.stations place
    holder at.there at.present (λ other station there away present. others other station record { there = there; present = present } away)
    ∙ own)

pub by-yes : {X : Type 0} (b : Bool) (x y : X) → b ≡ true → (if b then x else y) ≡ x
by-yes b x y on = rw on refl

pub by-no : {X : Type 0} (b : Bool) (x y : X) → b ≡ false → (if b then x else y) ≡ y
by-no b x y off = rw off refl
