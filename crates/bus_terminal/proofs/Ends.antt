-- Where the burst of an order ended.
use Rattle.std.proofs.Common.{◌≡◌, ℕ, suc, ◌+◌, Bool, true, false, not, ◌&&◌, ◌==◌, nat_lt, nat_le, List, ◌∷◌, length, Option, Some, None, refl, ap, ◌∙◌, subst, arith, if◌then◌else◌}
use Rattle.std.specs.Prelude.{⊤}
use Rattle.std.specs.Option.{option_or}
use Rattle.std.proofs.lemmas.Bool.Decides.{nat_tests}
use Rattle.bus_base.specs.Samples.{same_channel}
use Rattle.bus_base.specs.declared.samples.Channel.{Channel}
use Rattle.bus_base.specs.declared.samples.Channel.TheVariants.{A, B}
use Rattle.bus_base.specs.declared.samples.Sample.{Sample}
use Rattle.bus_line.specs.Past.{Burst, quiet, stopped, newest_burst, ended_now, end_of, rest_of, heard_within}
use Rattle.bus_line.specs.Bursts.{IsEndedNow}
use Rattle.bus_line.proofs.LookUpLaws.{ended-known}
use Rattle.bus_formats.specs.Plans.{TerminalData}
use Rattle.bus_formats.specs.Times.{relay_wait}
use Rattle.bus_model.specs.Orders.{Order, last_order}
use Rattle.bus_model.specs.Hearing.{Moment, heard_on}
use Rattle.bus_model.specs.Standing.{Standing, obeys, settles, runs_out, Handled, ignored_from, mark_on, outrun, superseded, promised_on, is_promise}
use Rattle.bus_model.specs.Terminal.{order_by, order_of, order_on, order_now}
use Rattle.bus_terminal.proofs.Standing.{by-test}

-- the burst of an order ended in the newest tick, on the order's channel
abbrev pub Ends : ℕ → List Moment → Standing → Handled → Type 0
Ends k heard s (obeys c end order rest) = (burst : Burst) × (ended_now k (heard_on c heard) ≡ Some burst) × (end ≡ end_of burst)
Ends k heard s (settles end slots rest) = (burst : Burst) × (ended_now k (heard_on s.channel heard) ≡ Some burst) × (end ≡ end_of burst)
Ends k heard s runs_out = ⊤

abbrev pub EndsIf : ℕ → List Moment → Standing → Option Handled → Type 0
EndsIf k heard s None = ⊤
EndsIf k heard s (Some order) = Ends k heard s order

pub same-true : (a b : Channel) → same_channel a b ≡ true → a ≡ b
same-true A A h = refl
same-true B B h = refl
same-true A B h = cc
same-true B A h = cc

second-true : (p q r t : Bool) → (p && q && r && t) ≡ true → q ≡ true
second-true true true r t h = refl
second-true true false r t h = cc
second-true false q r t h = cc

by-last : (k : ℕ) (terminal : TerminalData) (heard : List Moment) (s : Standing) (c : Channel) (burst : Burst) (last : Option Order) →
    ended_now k (heard_on c heard) ≡ Some burst → EndsIf k heard s (order_by k terminal s c burst last)
by-last k terminal heard s c burst (Some last) e =
    by-test (EndsIf k heard s) (outrun s c) None (Some (obeys c (end_of burst) last (rest_of burst))) (λ _. tt) (λ _. (burst, e, refl))
by-last k terminal heard s c burst None e =
    by-test (EndsIf k heard s) (promised_on k s c && nat_le burst.first (s.end + relay_wait)) (Some (settles (end_of burst) burst.slots (rest_of burst))) None
    (λ both. let on : s.channel ≡ c = same-true s.channel c (second-true (is_promise s.duty) (same_channel s.channel c) (not (superseded k s))
    (nat_le burst.first (s.end + relay_wait)) both) in
    (burst, ap (λ (x : Channel). ended_now k (heard_on x heard)) on ∙ e, refl))
    (λ _. tt)

by-ended : (k : ℕ) (terminal : TerminalData) (heard : List Moment) (s : Standing) (c : Channel) (o : Option Burst) → ended_now k (heard_on c heard) ≡ o →
    EndsIf k heard s (order_of k terminal s c o)
by-ended k terminal heard s c None e = tt
by-ended k terminal heard s c (Some burst) e = by-last k terminal heard s c burst (last_order terminal.address burst.slots) e

on-ends : (k : ℕ) (terminal : TerminalData) (now : Moment) (past : List Moment) (s : Standing) (c : Channel) →
    EndsIf k (now ∷ past) s (order_on k terminal (now ∷ past) s c)
on-ends k terminal now past s c =
    by-test (EndsIf k (now ∷ past) s) (ignored_from k (heard_on c past) (mark_on s.sent c)) None
    (order_of k terminal s c (ended_now k (heard_on c (now ∷ past)))) (λ _. tt)
    (λ _. by-ended k terminal (now ∷ past) s c (ended_now k (heard_on c (now ∷ past))) refl)

either-ends : (k : ℕ) (heard : List Moment) (s : Standing) (a b : Option Handled) → EndsIf k heard s a → EndsIf k heard s b → EndsIf k heard s (option_or a b)
either-ends k heard s None b p q = q
either-ends k heard s (Some order) b p q = p

out-ends : (k : ℕ) (heard : List Moment) (s : Standing) (b : Bool) → EndsIf k heard s (if b then Some runs_out else None)
out-ends k heard s true = tt
out-ends k heard s false = tt

pub now-ends : (k : ℕ) (terminal : TerminalData) (now : Moment) (past : List Moment) (s : Standing) (order : Handled) →
    order_now k terminal (now ∷ past) s ≡ Some order →
    Ends k (now ∷ past) s order
now-ends k terminal now past s order e =
    let all : EndsIf k (now ∷ past) s (order_now k terminal (now ∷ past) s) =
    either-ends k (now ∷ past) s (order_on k terminal (now ∷ past) s A) _ (on-ends k terminal now past s A)
    (either-ends k (now ∷ past) s (order_on k terminal (now ∷ past) s B) _ (on-ends k terminal now past s B)
    (out-ends k (now ∷ past) s (promised_on k s s.channel && (length (now ∷ past) == suc (s.end + relay_wait)) && not (heard_within
    (heard_on s.channel (now ∷ past)) s.end (length (now ∷ past)))))) in
    subst (EndsIf k (now ∷ past) s) e all

-- ---- the ticks since

some-test : {A : Type 0} (b : Bool) (x y : A) → (if b then Some x else None) ≡ Some y → b ≡ true
some-test true x y e = refl
some-test false x y e = (let none : None ≡ Some y = e in cc)

pub ended-place : (k : ℕ) (past : List Sample) (burst : Burst) → ended_now k past ≡ Some burst → (length past ≡ end_of burst + suc k) × (quiet past ≡ suc k)
ended-place k past burst e =
    let known : IsEndedNow k past burst.first burst.ticks = ended-known k past burst e in
    let both : ((quiet past == suc k) && nat_lt 0 (stopped past)) ≡ true = some-test ((quiet past == suc k) && nat_lt 0 (stopped past))
    (newest_burst k past) burst e in
    (omega (arith, known.now), grind (arith, nat_tests, both))
