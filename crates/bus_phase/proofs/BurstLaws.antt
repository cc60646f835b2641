-- A burst within the standard's tolerance is read exactly.
use Rattle.std.proofs.Common.{◌≡◌, ℕ, zero, suc, ◌+◌, ◌-◌, ◌≤◌, max, List, [], ◌∷◌, ◌++◌, length, take, drop, refl, ap, sym, ◌∙◌, subst, arith, append_assoc, append-nil, length-append}
use Rattle.std.specs.Prelude.{replicate, true, false, nat_lt, nat_le, Option, Some, None}
use Rattle.std.proofs.lemmas.List.{take-append-drop, length-replicate, length-drop, take_all}
use Rattle.std.proofs.lemmas.Bool.Decides.{nat_tests}
use Rattle.bus_base.specs.declared.samples.Sample.{Sample}
use Rattle.bus_base.specs.declared.samples.Sample.TheVariants.{Plus, Minus, Quiet}
use Rattle.bus_base.specs.Samples.{exchanged, is_quiet}
use Rattle.bus_phase.specs.Times.{nearest, error_of}
use Rattle.bus_phase.specs.Rows.{RowData, fit, put, put_at, place_of}
use Rattle.bus_phase.specs.Following.{tick_put, followed}
use Rattle.bus_phase.specs.Anchors.{reference}
use Rattle.bus_phase.specs.Phases.{no_changes}
use Rattle.bus_phase.specs.Bursts.{Crossing, moment_on, track_in_burst, samples_told, track_after, samples_over, run_samples, IsWithinTolerance, follower_at_lead, follower_in_burst, first_of}
use Rattle.bus_phase.specs.declared.anchor.Anchor.{Anchor}
use Rattle.bus_phase.specs.declared.follower.Follower.{Follower}
use Rattle.bus_phase.specs.declared.track.Track.{Track}

-- a channel in a burst, with the tick of the anchor
abbrev burst_track : Sample → ℕ → ℕ → ℕ → List Sample → Track
burst_track level tick before now waiting = record {
  cleaner = record { sure = exchanged level; until = now; level = level; since = now; is_sure = false };
  changes = no_changes;
  follower = record {
    cleaned = exchanged level;
    since = before;
    lead = None;
    anchor = Some record { tick = tick; at = before };
    row = record { waiting = waiting; level = exchanged level };
  };
}

-- after a crossing in a tick that became the anchor
abbrev crossed_track : Sample → Sample → ℕ → ℕ → ℕ → ℕ → List Sample → Track
crossed_track level next settled tick now at waiting = record {
  cleaner = record { sure = level; until = at; level = next; since = at; is_sure = false };
  changes = no_changes;
  follower = record {
    cleaned = level;
    since = now;
    lead = None;
    anchor = Some record { tick = tick_put settled tick; at = now };
    row = put settled tick level record { waiting = waiting; level = next };
  };
}

-- ---- what is told of a row

pub told_front : (n : ℕ) (waiting : List Sample) (level : Sample) → n ≤ length waiting →
    samples_told n record { waiting = waiting; level = level } ≡ take n waiting
told_front zero waiting level h = refl
told_front (suc n) [] level h = absurd (omega arith)
told_front (suc n) (x ∷ xs) level h = ap (λ l. x ∷ l) (told_front n xs level (omega arith))

told_tick : (n : ℕ) (level : Sample) (tick before now : ℕ) (waiting : List Sample) → n ≤ length waiting →
    track_after n (burst_track level tick before now waiting) ≡ burst_track level tick before now (drop n waiting)
told_tick zero level tick before now waiting h = refl
told_tick (suc n) level tick before now [] h = absurd (omega arith)
told_tick (suc n) level tick before now (x ∷ xs) h = told_tick n level tick before now xs (omega arith)

-- a channel in a burst whose first ticks are told is the channel with the rest of its row
pub told_rest : (n : ℕ) (level : Sample) (settled before now : ℕ) (waiting : List Sample) → n ≤ length waiting →
    track_after n (track_in_burst level settled before now waiting) ≡ track_in_burst level (settled + n) before now (drop n waiting)
told_rest n level settled before now waiting h =
    let same : settled + length waiting ≡ settled + n + length (drop n waiting) = omega (arith, length-drop n waiting) in
    told_tick n level (settled + length waiting) before now waiting h
    ∙ ap (λ (k : ℕ). burst_track level k before now (drop n waiting)) same

-- ---- a crossing

-- a row that is fitted to more ticks than wait goes on with its level
pub fit_more : (n : ℕ) (level : Sample) (waiting : List Sample) → fit (length waiting + n) level waiting ≡ waiting ++ replicate n level
fit_more n level waiting =
    let whole : take (length waiting + n) waiting ≡ waiting = take_all (length waiting + n) waiting (omega arith) in
    let more : length waiting + n - length waiting ≡ n = omega arith in
    ap (λ (k : ℕ). take (length waiting + n) waiting ++ replicate k level) more ∙ ap (λ (l : List Sample). l ++ replicate n level) whole

-- a change so many ticks after the row's end
pub put_after : (settled n : ℕ) (level next : Sample) (waiting : List Sample) → length waiting + n ≤ 64 →
    put settled (settled + length waiting + n) next record { waiting = waiting; level = level }
    ≡ record { waiting = waiting ++ replicate n level; level = next }
put_after settled n level next waiting h =
    let place : place_of settled (settled + length waiting + n) ≡ length waiting + n = omega arith in
    ap (λ (k : ℕ). put_at k next record { waiting = waiting; level = level }) place
    ∙ ap (λ (l : List Sample). let r : RowData = record { waiting = l; level = next } in r) (fit_more n level waiting)

-- the tick of that change is the row's new end
tick_after_put : (settled n : ℕ) (level : Sample) (waiting : List Sample) → length waiting + n ≤ 64 →
    tick_put settled (settled + length waiting + n) ≡ settled + length (waiting ++ replicate n level)
tick_after_put settled n level waiting h =
    omega (arith, length-append waiting (replicate n level), length-replicate n level)

-- one moment of a burst at plus: the run before it is found to be sure, and the crossing to it is followed
crossed_plus : (tick settled before now at : ℕ) (other : Option Anchor) (waiting : List Sample) → now - now ≡ 0 → now + 0 ≡ now → nat_lt now before ≡ false →
    nat_le (error_of (now - before)) 125000 ≡ true → nat_le 150000 (at - now) ≡ true →
    moment_on at Minus other settled (burst_track Plus tick before now waiting) ≡ crossed_track Plus Minus settled (tick + nearest (now - before)) now at waiting
crossed_plus tick settled before now at other waiting none same order good later = simp (none, same, order, good, later)

-- one moment of a burst at minus: the run before it is found to be sure, and the crossing to it is followed
crossed_minus : (tick settled before now at : ℕ) (other : Option Anchor) (waiting : List Sample) → now - now ≡ 0 → now + 0 ≡ now → nat_lt now before ≡ false →
    nat_le (error_of (now - before)) 125000 ≡ true → nat_le 150000 (at - now) ≡ true →
    moment_on at Plus other settled (burst_track Minus tick before now waiting) ≡ crossed_track Minus Plus settled (tick + nearest (now - before)) now at waiting
crossed_minus tick settled before now at other waiting none same order good later = simp (none, same, order, good, later)

-- a channel after a crossing, with the anchor's tick and its row
abbrev with_row : Sample → ℕ → RowData → ℕ → ℕ → Track
with_row next tick row now at = record {
  cleaner = record { sure = exchanged next; until = at; level = next; since = at; is_sure = false };
  changes = no_changes;
  follower = record { cleaned = exchanged next; since = now; lead = None; anchor = Some record { tick = tick; at = now }; row = row };
}

-- a crossing so many ticks after the one before leaves a channel in a burst, with so many samples more
in_burst_again : (level next : Sample) (settled n now at : ℕ) (waiting : List Sample) → length waiting + n ≤ 64 → level ≡ exchanged next → next ≡ exchanged level →
    crossed_track level next settled (settled + length waiting + n) now at waiting
    ≡ track_in_burst next settled now at (waiting ++ replicate n next)
in_burst_again level next settled n now at waiting few is back =
    subst (λ (l : Sample). crossed_track l next settled (settled + length waiting + n) now at waiting ≡ track_in_burst next settled now at (waiting ++ replicate n next)) (sym is)
    (ap (λ (k : ℕ). with_row next k (put settled (settled + length waiting + n) (exchanged next) record { waiting = waiting; level = next }) now at) (tick_after_put settled n next waiting few)
    ∙ ap (λ (r : RowData). with_row next (settled + length (waiting ++ replicate n next)) r now at) (put_after settled n next (exchanged next) waiting few))

-- one moment: the run before it is found to be sure, and its crossing becomes the anchor
pub one_crossing : (level : Sample) (settled before now at : ℕ) (other : Option Anchor) (waiting : List Sample) → is_quiet level ≡ false →
    before ≤ now → error_of (now - before) ≤ 125000 → now + 375000 ≤ at → length waiting + nearest (now - before) ≤ 64 →
    moment_on at (exchanged level) other settled (track_in_burst level settled before now waiting)
    ≡ track_in_burst (exchanged level) settled now at (waiting ++ replicate (nearest (now - before)) (exchanged level))
one_crossing Plus settled before now at other waiting sign order good later few =
    crossed_plus (settled + length waiting) settled before now at other waiting (omega arith) (omega arith) (grind (arith, nat_tests)) (grind (arith, nat_tests)) (grind (arith, nat_tests))
    ∙ in_burst_again Plus Minus settled (nearest (now - before)) now at waiting few refl refl
one_crossing Minus settled before now at other waiting sign order good later few =
    crossed_minus (settled + length waiting) settled before now at other waiting (omega arith) (omega arith) (grind (arith, nat_tests)) (grind (arith, nat_tests)) (grind (arith, nat_tests))
    ∙ in_burst_again Minus Plus settled (nearest (now - before)) now at waiting few refl refl
one_crossing Quiet settled before now at other waiting sign order good later few = absurd (cc)

other_sign : (level : Sample) → is_quiet level ≡ false → is_quiet (exchanged level) ≡ false
other_sign Plus h = refl
other_sign Minus h = refl
other_sign Quiet h = h

-- what is told and what waits is one list
joined_again : (n : ℕ) (waiting more rest : List Sample) → take n (waiting ++ more) ++ (drop n (waiting ++ more) ++ rest) ≡ waiting ++ (more ++ rest)
joined_again n waiting more rest =
    sym (append_assoc (take n (waiting ++ more)) (drop n (waiting ++ more)) rest)
    ∙ ap (λ (l : List Sample). l ++ rest) (take-append-drop n (waiting ++ more)) ∙ append_assoc waiting more rest

pub read_exactly : (level : Sample) (settled before now : ℕ) (waiting : List Sample) (crossings : List Crossing) → is_quiet level ≡ false →
    IsWithinTolerance (length waiting) before now crossings →
    samples_over level settled (track_in_burst level settled before now waiting) crossings ≡ waiting ++ run_samples level before now crossings
read_exactly level settled before now waiting [] sign good = sym (append-nil waiting)
read_exactly level settled before now waiting (x ∷ xs) sign good =
    let n : ℕ = nearest (now - before) in
    let more : List Sample = replicate (nearest (now - before)) (exchanged level) in
    let len : length (waiting ++ more) ≡ length waiting + nearest (now - before) =
    length-append waiting more ∙ ap (λ (k : ℕ). length waiting + k) (length-replicate (nearest (now - before)) (exchanged level)) in
    let told : x.told ≤ length (waiting ++ more) = subst (λ (k : ℕ). x.told ≤ k) (sym len) good.4 in
    let left : length (drop x.told (waiting ++ more)) ≡ length waiting + nearest (now - before) - x.told =
    length-drop x.told (waiting ++ more) ∙ ap (λ (k : ℕ). k - x.told) len in
    let rest : IsWithinTolerance (length (drop x.told (waiting ++ more))) now x.at xs =
    subst (λ (k : ℕ). IsWithinTolerance k now x.at xs) (sym left) good.5 in
    subst (λ (t : Track). samples_told x.told t.follower.row ++ samples_over (exchanged level) (settled + x.told) (track_after x.told t) xs
    ≡ waiting ++ run_samples level before now (x ∷ xs))
    (sym (one_crossing level settled before now x.at x.other waiting sign good.0 good.1 good.2 good.3))
    (ap (λ (l : List Sample). l ++ samples_over (exchanged level) (settled + x.told) (track_after x.told (track_in_burst (exchanged level) settled now x.at (waiting ++ more))) xs)
    (told_front x.told (waiting ++ more) (exchanged (exchanged level)) told)
    ∙ ap (λ (t : Track). take x.told (waiting ++ more) ++ samples_over (exchanged level) (settled + x.told) t xs)
    (told_rest x.told (exchanged level) settled now x.at (waiting ++ more) told)
    ∙ ap (λ (l : List Sample). take x.told (waiting ++ more) ++ l)
    (read_exactly (exchanged level) (settled + x.told) now x.at (drop x.told (waiting ++ more)) xs (other_sign level sign) rest)
    ∙ joined_again x.told waiting more (run_samples (exchanged level) now x.at xs))

-- ---- where a burst begins and ends

-- two changes after the row's end
put_twice : (settled gap n : ℕ) (level next : Sample) (waiting : List Sample) (tick : ℕ) → settled + length waiting + gap + n ≡ tick → length waiting + gap + n ≤ 64 →
    put settled tick next (put settled (tick - n) level record { waiting = waiting; level = Quiet })
    ≡ record { waiting = (waiting ++ replicate gap Quiet) ++ replicate n level; level = next }
put_twice settled gap n level next waiting tick is few =
    let begins : tick - n ≡ settled + length waiting + gap = omega (arith, is) in
    let long : length (waiting ++ replicate gap Quiet) ≡ length waiting + gap =
    length-append waiting (replicate gap Quiet) ∙ ap (λ (k : ℕ). length waiting + k) (length-replicate gap Quiet) in
    let ends : tick ≡ settled + length (waiting ++ replicate gap Quiet) + n = omega (arith, is, long) in
    ap (λ (k : ℕ). put settled tick next (put settled k level record { waiting = waiting; level = Quiet })) begins
    ∙ ap (λ (r : RowData). put settled tick next r) (put_after settled gap Quiet level waiting (omega arith))
    ∙ ap (λ (k : ℕ). put settled k next record { waiting = waiting ++ replicate gap Quiet; level = level }) ends
    ∙ put_after settled n level next (waiting ++ replicate gap Quiet) (omega (arith, long))

-- the greater of two numbers is no less than either
most_right : (a b : ℕ) → b ≤ max a b
most_right a b = omega arith

-- a tick among those that wait, or the next, stays
put_same : (settled tick : ℕ) → settled ≤ tick → tick ≤ settled + 64 → tick_put settled tick ≡ tick
put_same settled tick low high = omega (arith, low, high)

late_enough : (a end n : ℕ) → end ≤ max a (end + n)
late_enough a end n = omega arith

abbrev first_with : Sample → ℕ → ℕ → RowData → Follower
first_with next at tick row = record { cleaned = next; since = at; lead = None; anchor = Some record { tick = tick; at = at }; row = row }

-- the first crossing of a burst
first_by : (level next : Sample) (other anchor : Option Anchor) (settled since from at : ℕ) (waiting : List Sample) (tick n : ℕ) →
    is_quiet level ≡ false → is_quiet next ≡ false → first_of other anchor settled from at waiting ≡ tick → nearest (at - from) ≡ n →
    tick_put settled tick ≡ tick → settled + length waiting + n ≤ tick → tick ≤ settled + 64 →
    followed other settled at next (follower_at_lead level since from anchor waiting)
    ≡ follower_in_burst next at tick at ((waiting ++ replicate (tick - n - settled - length waiting) Quiet) ++ replicate n level)
first_by level next other anchor settled since from at waiting tick n sign also is run same late few =
    let gap : settled + length waiting + (tick - n - settled - length waiting) + n ≡ tick = omega (arith, late) in
    rw (sign, also, is, run, same) (ap (λ (r : RowData). first_with next at tick r) (put_twice settled (tick - n - settled - length waiting) n level next waiting tick gap (omega (arith, late, few))))

-- a crossing so many ticks after the anchor ends the burst's last run
pub last_run : (level : Sample) (other : Option Anchor) (settled since before at : ℕ) (waiting : List Sample) → is_quiet level ≡ false → nat_lt at before ≡ false →
    length waiting + nearest (at - before) ≤ 64 →
    (followed other settled at Quiet (follower_in_burst level since (settled + length waiting) before waiting)).row
    ≡ record { waiting = waiting ++ replicate (nearest (at - before)) level; level = Quiet }
last_run level other settled since before at waiting sign order few =
    rw (sign, order) (put_after settled (nearest (at - before)) level Quiet waiting few)

pub first_run : (level next : Sample) (other anchor : Option Anchor) (settled since from at : ℕ) (waiting : List Sample) →
    is_quiet level ≡ false → is_quiet next ≡ false → first_of other anchor settled from at waiting ≤ settled + 64 →
    followed other settled at next (follower_at_lead level since from anchor waiting)
    ≡ follower_in_burst next at (first_of other anchor settled from at waiting) at
    ((waiting ++ replicate (first_of other anchor settled from at waiting - nearest (at - from) - settled - length waiting) Quiet)
    ++ replicate (nearest (at - from)) level)
first_run level next other anchor settled since from at waiting sign also few =
    first_by level next other anchor settled since from at waiting (first_of other anchor settled from at waiting) (nearest (at - from)) sign also refl refl
    (put_same settled (first_of other anchor settled from at waiting) (let low : settled ≤ first_of other anchor settled from at waiting = omega (arith, late_enough (reference anchor other at) (settled + length waiting) (nearest (at - from))) in low) few)
    (most_right (reference anchor other at) (settled + length waiting + nearest (at - from))) few
