-- The message that still waits tells what closes.
use Rattle.std.proofs.Common.{◌≡◌, ℕ, suc, ◌+◌, ◌<◌, List, [], ◌∷◌, length, refl, ap, sym, ◌∙◌, arith}
use Rattle.std.specs.Prelude.{Bool, true, false, not, nat_lt, nat_le, ◌==◌, ◌&&◌, if◌then◌else◌, Option, Some, None}
use Rattle.std.proofs.lemmas.Bool.Decides.{nat_tests}
use Rattle.bus_base.specs.declared.samples.Sample.{Sample}
use Rattle.bus_line.specs.Past.{Burst, runs, first_tick, ended_now}
use Rattle.bus_formats.specs.Times.{no_response}
use Rattle.bus_monitor.specs.Messages.{Waiting, waits, is_answer, unanswered}
use Rattle.bus_monitor.specs.Listings.{running_on}
use Rattle.bus_monitor.specs.Progress.{waits_after_end, waiting, closed_at_burst, closed_in_time, closed_with, closed_now}
use Rattle.bus_monitor.specs.Awaited.{still, awaited, closes_of, waits_of, kept_in_time}
use Rattle.bus_monitor.proofs.PastLaws.{RunsOn, runs-on, an-end}
use Rattle.bus_monitor.proofs.PastLaws as past_laws
use Rattle.bus_monitor.proofs.MessageLaws.{IsFresh, fresh-waits, shown_first}

-- ---- a tick in which a burst ends

by-answer : {T : Type 0} (answer : Bool) (f : Option Waiting → T) (w : Waiting) →
    (if answer then f (Some w) else f None) ≡ f (if not answer then None else Some w)
by-answer true f w = refl
by-answer false f w = refl

closes-still : (k tick : ℕ) (w : Option Waiting) (burst : Burst) →
    closed_at_burst k w burst ≡ closes_of k (still k (Some burst.first) tick w) burst
closes-still k tick None burst = refl
closes-still k tick (Some w) burst = by-answer (is_answer k w burst.first) (λ v. closes_of k v burst) w

waits-still : (k tick : ℕ) (w : Option Waiting) (burst : Burst) → waits k w burst ≡ waits_of k (still k (Some burst.first) tick w) burst
waits-still k tick None burst = refl
waits-still k tick (Some w) burst = by-answer (is_answer k w burst.first) (λ v. waits_of k v burst) w

still-fresh : (k tick : ℕ) (w : Option Waiting) → IsFresh k tick w → k < no_response → still k None (suc tick) w ≡ w
still-fresh k tick None fresh short = refl
still-fresh k tick (Some w) fresh short =
    let late : nat_lt (w.from + no_response) (suc tick) ≡ false = grind (arith, nat_tests, fresh, short) in
    rw late refl

ran-first : (k : ℕ) (x : Sample) (past : List Sample) (burst : Burst) → ended_now k (x ∷ past) ≡ Some burst → running_on k past ≡ Some burst.first
ran-first k x past burst some =
    let over : past_laws.Ends k past burst (x ∷ past) = an-end k x past burst some in
    ap (λ b. if b then Some (first_tick k past) else None) over.ran ∙ ap Some (sym over.first)

pub closed-end : (k : ℕ) (x : Sample) (past : List Sample) (burst : Burst) → ended_now k (x ∷ past) ≡ Some burst →
    closed_now k (x ∷ past) ≡ closes_of k (awaited k past) burst
unfolding closed_now awaited
closed-end k x past burst some =
    ap (closed_with k (length past) (runs k (x ∷ past)) (waiting k past)) some
    ∙ closes-still k (length past) (waiting k past) burst
    ∙ ap (λ r. closes_of k (still k r (length past) (waiting k past)) burst) (sym (ran-first k x past burst some))

pub awaited-end : (k : ℕ) (x : Sample) (past : List Sample) (burst : Burst) → k < no_response → ended_now k (x ∷ past) ≡ Some burst →
    awaited k (x ∷ past) ≡ waits_of k (awaited k past) burst
unfolding awaited waiting
awaited-end k x past burst short some =
    let over : past_laws.Ends k past burst (x ∷ past) = an-end k x past burst some in
    let none : running_on k (x ∷ past) ≡ None = ap (λ b. if b then Some (first_tick k (x ∷ past)) else None) over.over in
    let now : waits_after_end k (waiting k past) (ended_now k (x ∷ past)) ≡ waits k (waiting k past) burst = ap (waits_after_end k (waiting k past)) some in
    ap (λ r. still k r (suc (length past)) (waits_after_end k (waiting k past) (ended_now k (x ∷ past)))) none
    ∙ ap (still k None (suc (length past))) now
    ∙ still-fresh k (length past) (waits k (waiting k past) burst) (fresh-waits k (length past) burst (waiting k past) over.end) short
    ∙ waits-still k (length past) (waiting k past) burst
    ∙ ap (λ r. waits_of k (still k r (length past) (waiting k past)) burst) (sym (ran-first k x past burst some))

-- ---- a tick in which no burst ends

if-late : (late : Bool) (tick : ℕ) (running : Bool) (w : Waiting) → (late ≡ true → (not running && (tick == w.from + no_response)) ≡ false) →
    (if not running && (tick == w.from + no_response) then unanswered w else []) ≡ closed_in_time tick running (if late then None else Some w)
if-late true tick running w over = rw (over refl) refl
if-late false tick running w over = refl

later-late : (late now due : Bool) (w : Waiting) → (late ≡ true → now ≡ true) → (late ≡ false → now ≡ due) → (v : Option Waiting → Option Waiting) →
    v None ≡ None → v (Some w) ≡ (if due then None else Some w) → (if now then None else Some w) ≡ v (if late then None else Some w)
later-late true now due w stays comes v nothing some = rw (stays refl) (sym nothing)
later-late false now due w stays comes v nothing some = rw (comes refl) (sym some)

time-closed : (k tick first : ℕ) (ran running : Bool) (w : Option Waiting) → (ran ≡ true → running ≡ true) →
    closed_in_time tick running w ≡ closed_in_time tick running (still k (shown_first ran first) tick w)
time-closed k tick first ran running None on = refl
time-closed k tick first true true (Some w) on = if-late (not (is_answer k w first)) tick true w (λ _. refl)
time-closed k tick first true false (Some w) on = let e : false ≡ true = on refl in absurd (cc)
time-closed k tick first false true (Some w) on = if-late (nat_lt (w.from + no_response) tick) tick true w (λ _. refl)
time-closed k tick first false false (Some w) on =
    if-late (nat_lt (w.from + no_response) tick) tick false w (λ late. grind (arith, nat_tests, late))

time-kept : (k tick first later : ℕ) (ran running : Bool) (w : Option Waiting) → (ran ≡ true → running ≡ true) → (ran ≡ true → later ≡ first) →
    (ran ≡ false → running ≡ true → later ≡ tick) →
    still k (shown_first running later) (suc tick) w ≡ kept_in_time tick running (still k (shown_first ran first) tick w)
time-kept k tick first later ran running None on same begins = refl
time-kept k tick first later true true (Some w) on same begins =
    later-late (not (is_answer k w first)) (not (is_answer k w later)) false w (λ late. rw (same refl) late) (λ early. rw (same refl) early)
    (kept_in_time tick true) refl refl
time-kept k tick first later true false (Some w) on same begins = let e : false ≡ true = on refl in absurd (cc)
time-kept k tick first later false true (Some w) on same begins =
    let now : later ≡ tick = begins refl refl in
    later-late (nat_lt (w.from + no_response) tick) (not (nat_le later (w.from + no_response))) false w
    (λ late. rw now (grind (arith, nat_tests, late))) (λ early. rw now (grind (arith, nat_tests, early))) (kept_in_time tick true) refl refl
time-kept k tick first later false false (Some w) on same begins =
    later-late (nat_lt (w.from + no_response) tick) (nat_lt (w.from + no_response) (suc tick)) (tick == w.from + no_response) w
    (λ late. grind (arith, nat_tests, late)) (λ early. grind (arith, nat_tests, early)) (kept_in_time tick false) refl refl

pub closed-time : (k : ℕ) (x : Sample) (past : List Sample) → ended_now k (x ∷ past) ≡ None →
    closed_now k (x ∷ past) ≡ closed_in_time (length past) (runs k (x ∷ past)) (awaited k past)
unfolding closed_now awaited
closed-time k x past none =
    ap (closed_with k (length past) (runs k (x ∷ past)) (waiting k past)) none
    ∙ time-closed k (length past) (first_tick k past) (runs k past) (runs k (x ∷ past)) (waiting k past) (runs-on k x past none).on

pub awaited-time : (k : ℕ) (x : Sample) (past : List Sample) → ended_now k (x ∷ past) ≡ None →
    awaited k (x ∷ past) ≡ kept_in_time (length past) (runs k (x ∷ past)) (awaited k past)
unfolding awaited waiting
awaited-time k x past none =
    let on : RunsOn k x past = runs-on k x past none in
    ap (λ found. still k (running_on k (x ∷ past)) (suc (length past)) (waits_after_end k (waiting k past) found)) none
    ∙ time-kept k (length past) (first_tick k past) (first_tick k (x ∷ past)) (runs k past) (runs k (x ∷ past)) (waiting k past) on.on on.same on.begins
