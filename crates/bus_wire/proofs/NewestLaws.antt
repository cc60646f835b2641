-- The newest tick in which a channel was driven tells whether it was driven since a tick, and whether it was in the newest tick.
use Rattle.std.proofs.Common.{◌≡◌, ℕ, suc, ◌<◌, Bool, true, false, ◌||◌, nat_lt, List, [], ◌∷◌, length, Option, Some, None, refl, ap, ◌∙◌, arith, if◌then◌else◌}
use Rattle.std.specs.Prelude.{IfSome}
use Rattle.std.proofs.lemmas.Bool.Decides.{nat_tests}
use Rattle.bus_base.specs.declared.samples.Channel.{Channel}
use Rattle.bus_base.specs.declared.samples.Drive.{Drive}
use Rattle.bus_model.specs.Transmissions.{drives_on, station_drive, newest_drives, drove_since, driven_since}
use Rattle.bus_wire.specs.Newest.{by_station, by_any, tick_or, newest, since}
use Rattle.bus_wire.specs.Steps.{is_next}

tick_or-before : (now : Bool) (tick : ℕ) (earlier : Option ℕ) → IfSome earlier (λ t. t < tick) → IfSome (tick_or now tick earlier) (λ t. t < suc tick)
tick_or-before true tick earlier h = omega arith
tick_or-before false tick None h = tt
tick_or-before false tick (Some t) h = omega arith

-- it lies before the tick to come
pub newest-before : (test : List Drive → Bool) (driven : List (List Drive)) → IfSome (newest test driven) (λ t. t < length driven)
unfolding newest
newest-before test [] = tt
newest-before test (now ∷ before) = tick_or-before (test now) (length before) (newest test before) (newest-before test before)

since-more : (now : Bool) (tick from : ℕ) (earlier : Option ℕ) → IfSome earlier (λ t. t < tick) →
    (if nat_lt tick from then false else (now || since earlier from)) ≡ since (tick_or now tick earlier) from
since-more true tick from earlier h = grind (arith, nat_tests)
since-more false tick from None h = grind (arith, nat_tests)
since-more false tick from (Some t) h = grind (arith, nat_tests)

-- a station drove the channel since a tick
pub drove-newest : (station : ℕ) (c : Channel) (driven : List (List Drive)) (from : ℕ) →
    drove_since station c driven from ≡ since (newest (by_station station c) driven) from
unfolding newest drove_since
drove-newest station c [] from = refl
drove-newest station c (now ∷ before) from =
    ap (λ earlier. if nat_lt (length before) from then false else (by_station station c now || earlier)) (drove-newest station c before from)
    ∙ since-more (by_station station c now) (length before) from (newest (by_station station c) before) (newest-before (by_station station c) before)

-- so did any station
pub driven-newest : (c : Channel) (driven : List (List Drive)) (from : ℕ) → driven_since c driven from ≡ since (newest (by_any c) driven) from
unfolding newest driven_since
driven-newest c [] from = refl
driven-newest c (now ∷ before) from =
    ap (λ earlier. if nat_lt (length before) from then false else (by_any c now || earlier)) (driven-newest c before from)
    ∙ since-more (by_any c now) (length before) from (newest (by_any c) before) (newest-before (by_any c) before)

next-more : (now : Bool) (tick : ℕ) (earlier : Option ℕ) → IfSome earlier (λ t. t < tick) → now ≡ is_next (tick_or now tick earlier) (suc tick)
next-more true tick earlier h = grind (arith, nat_tests)
next-more false tick None h = refl
next-more false tick (Some t) h = grind (arith, nat_tests)

-- a station drove the channel in the tick before the one to come
pub next-newest : (station : ℕ) (c : Channel) (driven : List (List Drive)) →
    drives_on c (station_drive station (newest_drives driven)) ≡ is_next (newest (by_station station c) driven) (length driven)
unfolding newest
next-newest station c [] = refl
next-newest station c (now ∷ before) =
    next-more (by_station station c now) (length before) (newest (by_station station c) before) (newest-before (by_station station c) before)

-- one tick more, in which the test fails or passes
pub newest-quiet : (test : List Drive → Bool) (now : List Drive) (driven : List (List Drive)) → test now ≡ false →
    newest test (now ∷ driven) ≡ newest test driven
unfolding newest
newest-quiet test now driven e = rw e refl

pub newest-now : (test : List Drive → Bool) (now : List Drive) (driven : List (List Drive)) → test now ≡ true →
    newest test (now ∷ driven) ≡ Some (length driven)
unfolding newest
newest-now test now driven e = rw e refl
