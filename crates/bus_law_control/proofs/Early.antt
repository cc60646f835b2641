-- A controller that starts nothing yet.
use Rattle.std.proofs.Common.{◌≡◌, ℕ, suc, ◌+◌, ◌<◌, ◌≤◌, Bool, true, false, List, [], ◌∷◌, ◌++◌, length, Option, Some, None, refl, ap, ◌∙◌, arith}
use Rattle.std.proofs.lemmas.Bool.{ne_eqb}
use Rattle.std.specs.Prelude.{◌==◌, if◌then◌else◌}
use Rattle.bus_base.specs.Samples.{is_quiet, sample_on}
use Rattle.bus_base.specs.declared.samples.Channel.{Channel}
use Rattle.bus_base.specs.declared.samples.Channel.TheVariants.{A, B}
use Rattle.bus_base.specs.declared.samples.Pair.{Pair}
use Rattle.bus_base.specs.declared.samples.Sample.{Sample}
use Rattle.bus_base.specs.declared.samples.Sample.TheVariants.{Plus, Minus, Quiet}
use Rattle.bus_base.specs.declared.samples.Drive.TheVariants.{Silent}
use Rattle.bus_line.specs.Past.{quiet, InLeg}
use Rattle.bus_line.specs.Channels.{on_channel, both_quiet, quiet_both}
use Rattle.bus_line.proofs.ChannelLaws.{on-append}
use Rattle.bus_line.proofs.Legs.{quiet-below, quiet-append}
use Rattle.bus_formats.specs.Plans.{StationData}
use Rattle.bus_retry.specs.declared.RetryState.{RetryState}
use Rattle.bus_model.specs.Starts.{Entry, usual, start_of, quiet_for}
use Rattle.bus_model.specs.Course.{Take, Course, course, quiet_from, begin_entry, run_by, runs_next, run_on, with_takes, drive_by, drive_course}
use Rattle.bus_law_stations.specs.Silence.{AreTaken}
use Rattle.bus_law_stations.proofs.StillController.{not-taken}
use Rattle.bus_law_stations.proofs.Commanding.{pairs-append}
use Rattle.bus_law_control.specs.Waiting.{StartsLater, StartedNone}

-- no entry begins before its start
begin-none : (past : List Pair) (c : Course) (left : List Entry) → c.left ≡ left → StartsLater c past → begin_entry past c left ≡ None
begin-none past c [] is later = refl
begin-none past c (entry ∷ rest) is later =
    let late = later entry rest is in
    let test : (start_of c.opening c.retry c.origin entry (quiet_from past) == length past) ≡ false =
    ne_eqb (start_of c.opening c.retry c.origin entry (quiet_from past)) (length past) (λ e. omega (arith, e, late)) in
    rw test refl

-- none on either branch
either-none : {X : Type 0} (b : Bool) (o : Option X) → o ≡ None → (if b then o else None) ≡ None
either-none true o none = none
either-none false o none = refl

-- so no message runs next
next-none : (past : List Pair) (c : Course) → c.runs ≡ None → StartsLater c past → runs_next past c ≡ None
next-none past c idle later = ap (run_by past c) idle ∙ either-none c.holds (begin_entry past c c.left) (begin-none past c c.left refl later)

-- nothing changes over such ticks
pub early-course : (k : ℕ) (station : StationData) (starts : Bool) (takes : List Take) (past ticks : List Pair) → AreTaken (length past) takes →
    (course k station starts takes past).runs ≡ None → StartedNone (course k station starts takes past) past ticks →
    course k station starts takes (ticks ++ past) ≡ course k station starts takes past
unfolding course
early-course k station starts takes past [] taken idle none = refl
early-course k station starts takes past (x ∷ ticks) taken idle none =
    let c = course k station starts takes past in
    let later = ticks ++ past in
    let long : length (ticks ++ past) ≡ length ticks + length past = pairs-append ticks past in
    ap (λ (d : Course). with_takes takes (suc (length later)) (run_on k x later d (runs_next later d)))
    (early-course k station starts takes past ticks taken idle none.1)
    ∙ ap (λ o. with_takes takes (suc (length later)) (run_on k x later c o)) (next-none later c idle none.0)
    ∙ not-taken (length past) (suc (length later)) takes c taken (omega (arith, long))

-- and nothing is sent
pub early-silent : (k : ℕ) (station : StationData) (starts : Bool) (takes : List Take) (past ticks : List Pair) → AreTaken (length past) takes →
    (course k station starts takes past).runs ≡ None → StartedNone (course k station starts takes past) past ticks →
    StartsLater (course k station starts takes past) (ticks ++ past) →
    drive_course k (ticks ++ past) (course k station starts takes (ticks ++ past)) ≡ Silent
early-silent k station starts takes past ticks taken idle none later =
    ap (drive_course k (ticks ++ past)) (early-course k station starts takes past ticks taken idle none)
    ∙ ap (drive_by k (ticks ++ past)) (next-none (ticks ++ past) (course k station starts takes past) idle later)

-- ---- the quiet that it needs

-- an item's own gap only adds to what is needed
needs : (retry : Option RetryState) (entry : Entry) (need : ℕ) → need ≤ quiet_for retry entry need
needs None entry need = omega arith
needs (Some state) entry need = omega arith

-- no more ticks were quiet than there were
both-few : (past : List Pair) → quiet_both past ≤ length past
both-few [] = omega arith
both-few (x ∷ past) = few (both_quiet x) (both-few past) where
  -- with a tick more
  few : (b : Bool) → quiet_both past ≤ length past → (if b then suc (quiet_both past) else 0) ≤ suc (length past)
  few true rest = omega (arith, rest)
  few false rest = omega arith

-- so nothing starts before
pub needs-quiet : (c : Course) (past : List Pair) (need tick : ℕ) → c.opening ≡ usual need tick → quiet_both past < need → StartsLater c past
needs-quiet c past need tick opens few entry later left =
    let wants : need ≤ quiet_for c.retry entry need = needs c.retry entry need in
    let fits : quiet_both past ≤ length past = both-few past in
    let from : length past < start_of (usual need tick) c.retry c.origin entry (quiet_from past) = omega (arith, wants, fits, few) in
    rw opens from

-- ---- a burst that runs on a channel

-- both channels quiet is each quiet
pair-quiet : (a b : Bool) (c : Channel) (x : Pair) → is_quiet x.a ≡ a → is_quiet x.b ≡ b → both_quiet x ≡ true → is_quiet (sample_on x c) ≡ true
pair-quiet true true A x at_a at_b both = at_a
pair-quiet true true B x at_a at_b both = at_b
pair-quiet true false c x at_a at_b both = absurd (let bad : both_quiet x ≡ false = rw (at_a, at_b) refl in grind (arith, both, bad))
pair-quiet false b c x at_a at_b both = absurd (let bad : both_quiet x ≡ false = rw at_a refl in grind (arith, both, bad))

-- a quiet tick is counted
quiet-one : (x : Sample) (past : List Sample) → is_quiet x ≡ true → quiet (x ∷ past) ≡ suc (quiet past)
quiet-one Plus past is = absurd (grind (arith, is))
quiet-one Minus past is = absurd (grind (arith, is))
quiet-one Quiet past is = refl

-- with a tick more
below-one : (b : Bool) (c : Channel) (x : Pair) (past : List Pair) → both_quiet x ≡ b → quiet_both past ≤ quiet (on_channel c past) →
    (if b then suc (quiet_both past) else 0) ≤ quiet (on_channel c (x ∷ past))
below-one false c x past is rest = omega arith
below-one true c x past is rest =
    let one = quiet-one (sample_on x c) (on_channel c past) (pair-quiet (is_quiet x.a) (is_quiet x.b) c x refl refl is) in omega (arith, rest, one)

-- both channels are quiet no longer than each of them
pub both-below : (c : Channel) (past : List Pair) → quiet_both past ≤ quiet (on_channel c past)
both-below c [] = omega arith
both-below c (x ∷ past) = below-one (both_quiet x) c x past refl (both-below c past)

-- while a burst runs both are quiet for no more ticks than the lag has
pub leg-breaks : (k : ℕ) (c : Channel) (past ticks : List Pair) (x : Pair) → InLeg k (on_channel c (x ∷ ticks)) → quiet_both ((x ∷ ticks) ++ past) ≤ k
leg-breaks k c past ticks x leg =
    let below : quiet_both ((x ∷ ticks) ++ past) ≤ quiet (on_channel c ((x ∷ ticks) ++ past)) = both-below c ((x ∷ ticks) ++ past) in
    let parts : on_channel c ((x ∷ ticks) ++ past) ≡ on_channel c (x ∷ ticks) ++ on_channel c past = on-append c (x ∷ ticks) past in
    let same : quiet (on_channel c (x ∷ ticks) ++ on_channel c past) ≡ quiet (on_channel c (x ∷ ticks)) =
    quiet-append (on_channel c (x ∷ ticks)) (on_channel c past) (quiet-below k (sample_on x c) (on_channel c ticks) leg) in
    let all : quiet (on_channel c ((x ∷ ticks) ++ past)) ≡ quiet (on_channel c (x ∷ ticks)) = ap quiet parts ∙ same in
    let few = leg.0 in omega (arith, below, all, few)

-- while it runs nothing starts
pub leg-starts : (k : ℕ) (c : Course) (channel : Channel) (past ticks : List Pair) (need tick : ℕ) → c.opening ≡ usual need tick → k < need →
    InLeg k (on_channel channel ticks) → StartsLater c past → StartedNone c past ticks × StartsLater c (ticks ++ past)
leg-starts k c channel past [] need tick opens small leg first = (tt, first)
leg-starts k c channel past (x ∷ ticks) need tick opens small leg first =
    let before = leg-starts k c channel past ticks need tick opens small leg.2 first in
    let few = leg-breaks k channel past ticks x leg in
    ((before.1, before.0), needs-quiet c ((x ∷ ticks) ++ past) need tick opens (omega (arith, few, small)))
