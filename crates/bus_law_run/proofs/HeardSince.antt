-- What a terminal heard are the newest ticks that were shown; before them it was quiet to it, while its station held control.
use Rattle.std.proofs.Common.{◌≡◌, ℕ, zero, suc, ◌+◌, ◌-◌, ◌<◌, Bool, true, false, List, [], ◌∷◌, ◌++◌, length, Some, None, refl, sym, ap, ◌∙◌, subst, arith, length-append}
use Rattle.std.proofs.lemmas.Bool.{true≢false}
use Rattle.std.proofs.lemmas.Bool.Decides.{nat_tests}
use Rattle.std.specs.Prelude.{not, ◌&&◌, ◌==◌, nat_lt, if◌then◌else◌, IsSome}
use Rattle.bus_base.specs.Samples.{sample_on}
use Rattle.bus_base.specs.declared.samples.Channel.{Channel}
use Rattle.bus_base.specs.declared.samples.Channel.TheVariants.{A, B}
use Rattle.bus_base.specs.declared.samples.Pair.{Pair}
use Rattle.bus_base.specs.declared.samples.Sample.{Sample}
use Rattle.bus_base.specs.declared.samples.Sample.TheVariants.{Plus, Minus, Quiet}
use Rattle.bus_line.specs.Channels.{on_channel}
use Rattle.bus_line.specs.Past.{quiet, stopped, quiet_ticks, newest_burst, ended_now}
use Rattle.bus_line.proofs.ChannelLaws.{length-on, on-append}
use Rattle.bus_formats.specs.Plans.{StationData}
use Rattle.bus_model.specs.Control.{OutsideTake, StationSoFar, moment_of, hear_more, yielded_in, unheard, unheard_ticks, taken_over, hold, serve, so_far, course_with, holds_control}
use Rattle.bus_model.specs.Course.{Take, Course}
use Rattle.bus_model.specs.Hearing.{Moment, Hearing, heard_on}
use Rattle.bus_model.specs.Memory.{TimedLoad}
use Rattle.bus_law_control.proofs.Holding.{heard-nothing}
use Rattle.bus_law_run.specs.Blocks.{heard_newest}

-- ---- the newest ticks

pub record HeardSince (past : List Pair) (ticks : List Moment) : Type 0 where
  pub newer : List Pair
  pub older : List Pair
  pub all : past ≡ newer ++ older
  pub heard : (c : Channel) → heard_on c ticks ≡ on_channel c newer ++ quiet_ticks (length older)

pub unheard-on : (c : Channel) (past : List Pair) → heard_on c (unheard_ticks past) ≡ quiet_ticks (length past)
unheard-on A [] = refl
unheard-on A (x ∷ past) = ap (λ xs. Quiet ∷ xs) (unheard-on A past)
unheard-on B [] = refl
unheard-on B (x ∷ past) = ap (λ xs. Quiet ∷ xs) (unheard-on B past)

-- none of them
none-since : (past : List Pair) → HeardSince past (unheard_ticks past)
none-since past = record { newer = []; older = past; all = refl; heard = λ c. unheard-on c past }

-- one more
one-since : (shown : Pair) (past : List Pair) (ticks : List Moment) (may : Course) → HeardSince past ticks → HeardSince (shown ∷ past) (moment_of shown may ∷ ticks)
one-since shown past ticks may since = record {
  newer = shown ∷ since.newer;
  older = since.older;
  all = ap (λ xs. shown ∷ xs) since.all;
  heard = λ c. ap (λ xs. sample_on shown c ∷ xs) (since.heard c);
}

module _ (k : ℕ) (station : StationData) (starts : Bool) (loads : List TimedLoad) (outside : List OutsideTake) where
  abbrev so : List Pair → StationSoFar
  so past = so_far k station starts loads outside past

  -- in the newest tick
  abbrev Now : Pair → List Pair → Type 0
  Now shown past = HeardSince (shown ∷ past) (heard_newest k station starts loads outside shown past ∷ (so past).hearing.ticks)

  -- by whether the station holds control
  abbrev so_by : Bool → Pair → List Pair → StationSoFar
  so_by holds shown past =
      if holds then hold k station starts loads outside shown past (so past) (course_with k station starts loads outside (so past).takes (shown ∷ past))
      else serve k station starts loads outside shown past (so past) (course_with k station starts loads outside (so past).takes past)

  abbrev heard_by : Bool → Pair → List Pair → Moment
  heard_by holds shown past =
      if not holds then moment_of shown (course_with k station starts loads outside (so past).takes past)
      else if yielded_in (length past) (course_with k station starts loads outside (so_by holds shown past).takes (shown ∷ past)).ended
      then moment_of shown (course_with k station starts loads outside (so_by holds shown past).takes (shown ∷ past)) else unheard

  held-since : (shown : Pair) (past : List Pair) (ticks : List Moment) (yields : Bool) (may : Course) → ticks ≡ unheard_ticks past →
      HeardSince (shown ∷ past) ((if yields then moment_of shown may else unheard) ∷ ticks)
  held-since shown past ticks true may nothing = one-since shown past ticks may (subst (HeardSince past) (sym nothing) (none-since past))
  held-since shown past ticks false may nothing =
      subst (λ ts. HeardSince (shown ∷ past) (unheard ∷ ts)) (sym nothing) (none-since (shown ∷ past))

  now-by : (holds : Bool) (shown : Pair) (past : List Pair) → HeardSince past (so past).hearing.ticks →
      (holds ≡ true → (so past).hearing.ticks ≡ unheard_ticks past) → HeardSince (shown ∷ past) (heard_by holds shown past ∷ (so past).hearing.ticks)
  now-by true shown past since nothing =
      let c : Course = course_with k station starts loads outside (so past).takes (shown ∷ past) in
      held-since shown past (so past).hearing.ticks (yielded_in (length past) c.ended) c (nothing refl)
  now-by false shown past since nothing =
      one-since shown past (so past).hearing.ticks (course_with k station starts loads outside (so past).takes past) since

  taken-since : (shown : Pair) (past : List Pair) (hearing : Hearing) (takes : List Take) → HeardSince (shown ∷ past) hearing.ticks →
      HeardSince (shown ∷ past) (taken_over k station starts loads outside (shown ∷ past) (so past) hearing takes).hearing.ticks
  taken-since shown past hearing [] since = since
  taken-since shown past hearing (take ∷ takes) since = none-since (shown ∷ past)

  next-by : (holds : Bool) (shown : Pair) (past : List Pair) → HeardSince (shown ∷ past) (heard_by holds shown past ∷ (so past).hearing.ticks) →
      HeardSince (shown ∷ past) (so_by holds shown past).hearing.ticks
  next-by true shown past since = since
  next-by false shown past since = taken-since shown past (hear_more (so past).hearing (heard_by false shown past)) _ since

  heard-since : (past : List Pair) → HeardSince past (so past).hearing.ticks
  unfolding so_far
  heard-since [] = none-since []
  heard-since (shown ∷ past) =
      next-by (holds_control k station starts loads outside past) shown past
      (now-by (holds_control k station starts loads outside past) shown past (heard-since past) (heard-nothing k station starts loads outside past))

  pub now-since : (shown : Pair) (past : List Pair) → Now shown past
  unfolding so_far
  now-since shown past =
      now-by (holds_control k station starts loads outside past) shown past (heard-since past) (heard-nothing k station starts loads outside past)

-- ---- a burst that ended among them was shown

pub quiet-all : (n : ℕ) → quiet (quiet_ticks n) ≡ n
quiet-all zero = refl
quiet-all (suc n) = ap suc (quiet-all n)

quiet-same : (xs ys : List Sample) (n : ℕ) → quiet (xs ++ quiet_ticks n) < length xs + n → quiet (xs ++ ys) ≡ quiet (xs ++ quiet_ticks n)
quiet-same [] ys n short = let all = quiet-all n in absurd (omega (arith, short, all))
quiet-same (Plus ∷ xs) ys n short = refl
quiet-same (Minus ∷ xs) ys n short = refl
quiet-same (Quiet ∷ xs) ys n short = ap suc (quiet-same xs ys n (omega (arith, short)))

pub quiet-long : (n : ℕ) → length (quiet_ticks n) ≡ n
quiet-long zero = refl
quiet-long (suc n) = ap suc (quiet-long n)

both : (a b : Bool) → (a && b) ≡ true → (a ≡ true) × (b ≡ true)
both true true is = (refl, refl)
both true false is = absurd (true≢false (sym is))
both false b is = absurd (true≢false (sym is))

if-some : {X : Type 0} (b : Bool) (x : X) → IsSome (if b then Some x else None) → b ≡ true
if-some true x some = refl
if-some false x some = absurd (true≢false (sym some))

some-if : {X : Type 0} (b : Bool) (x : X) → b ≡ true → IsSome (if b then Some x else None)
some-if true x is = refl
some-if false x is = absurd (true≢false (sym is))

ends-same : (k : ℕ) (xs ys : List Sample) → quiet ys ≡ quiet xs → length ys ≡ length xs → IsSome (ended_now k xs) → IsSome (ended_now k ys)
ends-same k xs ys same long some =
    let test : ((quiet xs == suc k) && nat_lt 0 (length xs - quiet xs)) ≡ true = if-some _ (newest_burst k xs) some in
    some-if ((quiet ys == suc k) && nat_lt 0 (stopped ys)) (newest_burst k ys)
    (ap (λ n. (n == suc k) && nat_lt 0 (length ys - n)) same ∙ ap (λ n. (quiet xs == suc k) && nat_lt 0 (n - quiet xs)) long ∙ test)

pub ended-shown : (k : ℕ) (past : List Pair) (ticks : List Moment) (c : Channel) → HeardSince past ticks → IsSome (ended_now k (heard_on c ticks)) →
    IsSome (ended_now k (on_channel c past))
ended-shown k past ticks c since some =
    let xs : List Sample = on_channel c since.newer in
    let ys : List Sample = on_channel c since.older in
    let zs : List Sample = xs ++ quiet_ticks (length since.older) in
    let heard : IsSome (ended_now k (xs ++ quiet_ticks (length since.older))) = subst (λ ss. IsSome (ended_now k ss)) (since.heard c) some in
    let stops : nat_lt 0 (stopped zs) ≡ true =
    (both (quiet zs == suc k) (nat_lt 0 (stopped zs)) (if-some ((quiet zs == suc k) && nat_lt 0 (stopped zs)) (newest_burst k zs) heard)).1 in
    let long : length (xs ++ quiet_ticks (length since.older)) ≡ length xs + length since.older =
    length-append xs (quiet_ticks (length since.older)) ∙ ap (λ n. length xs + n) (quiet-long (length since.older)) in
    let short : quiet (xs ++ quiet_ticks (length since.older)) < length xs + length since.older = grind (arith, nat_tests, stops, long) in
    let shown : on_channel c past ≡ xs ++ ys = ap (on_channel c) since.all ∙ on-append c since.newer since.older in
    subst (λ ss. IsSome (ended_now k ss)) (sym shown)
    (ends-same k (xs ++ quiet_ticks (length since.older)) (xs ++ ys) (quiet-same xs ys (length since.older) short)
    (length-append xs ys ∙ ap (λ n. length xs + n) (length-on c since.older) ∙ sym long) heard)
