-- An order comes from the channel with the newer command, or from the promise that stands.
use Rattle.std.proofs.Common.{◌≡◌, ℕ, suc, ◌+◌, ◌<◌, Bool, true, false, not, ◌&&◌, ◌==◌, nat_le, List, ◌∷◌, length, Option, Some, None, refl, sym, ap, ◌∙◌, subst, arith, if◌then◌else◌}
use Rattle.std.specs.Prelude.{IfSome, ⊤}
use Rattle.std.specs.Option.{option_or}
use Rattle.std.proofs.lemmas.Bool.Decides.{nat_tests}
use Rattle.bus_base.specs.Samples.{same_channel, other_of, sample_on}
use Rattle.bus_base.specs.declared.samples.Channel.{Channel}
use Rattle.bus_base.specs.declared.samples.Channel.TheVariants.{A, B}
use Rattle.bus_line.specs.Past.{Burst, ended_now, end_of, rest_of, heard_within}
use Rattle.bus_line.specs.Cutting.{running_slots}
use Rattle.bus_line.proofs.CollectLaws.{end-closes}
use Rattle.bus_formats.specs.Plans.{TerminalData}
use Rattle.bus_formats.specs.Times.{relay_wait}
use Rattle.bus_model.specs.Memory.{Memory}
use Rattle.bus_model.specs.Orders.{Duty, free, owes, promises, Order, last_order}
use Rattle.bus_model.specs.Hearing.{Moment, heard_on}
use Rattle.bus_model.specs.Standing.{Standing, obeys, settles, runs_out, Handled, ignored_from, mark_on, is_newer, outrun, superseded, promised_on, is_promise}
use Rattle.bus_model.specs.Terminal.{order_by, order_of, order_on, order_now, marked_by, after_order, done_by}
use Rattle.bus_terminal.specs.Newest.{is_left, AreMarked, IsNewest}
use Rattle.bus_terminal.proofs.Heard.{length-heard}
use Rattle.bus_terminal.proofs.Standing.{by-test}
use Rattle.bus_terminal.proofs.Ends.{Ends, now-ends, ended-place, same-true}
use Rattle.bus_terminal.proofs.Newest.{newest-tick}

-- what is known of an order in the newest tick, where s stood before it
abbrev pub IsNewer : ℕ → List Moment → Standing → Handled → Type 0
IsNewer k past s (obeys c end order rest) =
    (is_newer c (mark_on s.addressed c) (mark_on s.addressed (other_of c)) ≡ true) × (ignored_from k (heard_on c past) (mark_on s.sent c) ≡ false)
IsNewer k past s (settles end slots rest) =
    (is_left s.duty ≡ true) × (superseded k s ≡ false) × (ignored_from k (heard_on s.channel past) (mark_on s.sent s.channel) ≡ false)
IsNewer k past s runs_out = ⊤

-- where there is an order
abbrev pub IsNewerIf : ℕ → List Moment → Standing → Option Handled → Type 0
IsNewerIf k past s None = ⊤
IsNewerIf k past s (Some order) = IsNewer k past s order

-- of two marks one is newer
one-newer : (c : Channel) (this other : Option ℕ) → (this ≡ None → ⊥) → is_newer (other_of c) other this ≡ false → is_newer c this other ≡ true
one-newer c None other some older = absurd (some refl)
one-newer A (Some m) None some older = refl
one-newer B (Some m) None some older = refl
one-newer A (Some m) (Some t) some older = grind (arith, nat_tests, older)
one-newer B (Some m) (Some t) some older = grind (arith, nat_tests, older)

-- a promise is left
promise-left : (d : Duty) → is_promise d ≡ true → is_left d ≡ true
promise-left free h = h
promise-left (owes words acceptance) h = refl
promise-left (promises command transmitter) h = refl

-- the parts of the test for a burst that is taken for a promise
promised-parts : (p q r t : Bool) → (p && q && not r && t) ≡ true → (p ≡ true) × (r ≡ false) × (q ≡ true)
promised-parts true true false t h = (refl, refl, refl)
promised-parts true true true t h = cc
promised-parts true false r t h = cc
promised-parts false q r t h = cc

-- an order by a burst with this last command, or without one
newer-last : (k : ℕ) (terminal : TerminalData) (past : List Moment) (s : Standing) (c : Channel) (burst : Burst) (last : Option Order) →
    ignored_from k (heard_on c past) (mark_on s.sent c) ≡ false → (mark_on s.addressed c ≡ None → last ≡ None) →
    IsNewerIf k past s (order_by k terminal s c burst last)
newer-last k terminal past s c burst (Some last) heard marked =
    by-test (IsNewerIf k past s) (outrun s c) None (Some (obeys c (end_of burst) last (rest_of burst))) (λ _. tt)
    (λ newer. (one-newer c (mark_on s.addressed c) (mark_on s.addressed (other_of c)) (λ none. (let no : Some last ≡ None = marked none in cc)) newer, heard))
newer-last k terminal past s c burst None heard marked =
    by-test (IsNewerIf k past s) (promised_on k s c && nat_le burst.first (s.end + relay_wait)) (Some (settles (end_of burst) burst.slots (rest_of burst))) None
    (λ both. let parts = promised-parts (is_promise s.duty) (same_channel s.channel c) (superseded k s) (nat_le burst.first (s.end + relay_wait)) both in
    let on : c ≡ s.channel = sym (same-true s.channel c parts.2) in
    (promise-left s.duty parts.0, parts.1, subst (λ (d : Channel). ignored_from k (heard_on d past) (mark_on s.sent d) ≡ false) on heard))
    (λ _. tt)

-- an order by the burst whose end is known, or none
newer-ended : (k : ℕ) (terminal : TerminalData) (now : Moment) (past : List Moment) (s : Standing) (c : Channel) (o : Option Burst) →
    ignored_from k (heard_on c past) (mark_on s.sent c) ≡ false → (mark_on s.addressed c ≡ None →
    last_order terminal.address (running_slots k (heard_on c past)) ≡ None) → ended_now k (heard_on c (now ∷ past)) ≡ o →
    IsNewerIf k past s (order_of k terminal s c o)
newer-ended k terminal now past s c None heard bare e = tt
newer-ended k terminal now past s c (Some burst) heard bare e =
    newer-last k terminal past s c burst (last_order terminal.address burst.slots) heard
    (λ none. ap (last_order terminal.address) (end-closes k (sample_on now.shown c) (heard_on c past) burst e).slots ∙ bare none)

-- an order on a channel
on-newer : (k : ℕ) (terminal : TerminalData) (now : Moment) (past : List Moment) (s : Standing) (c : Channel) → AreMarked k terminal.address past s →
    IsNewerIf k past s (order_on k terminal (now ∷ past) s c)
on-newer k terminal now past s c marked =
    by-test (IsNewerIf k past s) (ignored_from k (heard_on c past) (mark_on s.sent c)) None
    (order_of k terminal s c (ended_now k (heard_on c (now ∷ past)))) (λ _. tt)
    (λ heard. newer-ended k terminal now past s c (ended_now k (heard_on c (now ∷ past))) heard (marked.on c heard) refl)

-- the first of two orders
either-newer : (k : ℕ) (past : List Moment) (s : Standing) (a b : Option Handled) → IsNewerIf k past s a → IsNewerIf k past s b →
    IsNewerIf k past s (option_or a b)
either-newer k past s None b p q = q
either-newer k past s (Some order) b p q = p

-- a promise that runs out
out-newer : (k : ℕ) (past : List Moment) (s : Standing) (b : Bool) → IsNewerIf k past s (if b then Some runs_out else None)
out-newer k past s true = tt
out-newer k past s false = tt

-- the order of the newest tick
pub now-newer : (k : ℕ) (terminal : TerminalData) (now : Moment) (past : List Moment) (s : Standing) (order : Handled) → AreMarked k terminal.address past s →
    order_now k terminal (now ∷ past) s ≡ Some order → IsNewer k past s order
now-newer k terminal now past s order marked e =
    let all : IsNewerIf k past s (order_now k terminal (now ∷ past) s) =
    either-newer k past s (order_on k terminal (now ∷ past) s A) _ (on-newer k terminal now past s A marked)
    (either-newer k past s (order_on k terminal (now ∷ past) s B) _ (on-newer k terminal now past s B marked)
    (out-newer k past s (promised_on k s s.channel && (length (now ∷ past) == suc (s.end + relay_wait)) && not (heard_within (heard_on s.channel
    (now ∷ past)) s.end (length (now ∷ past)))))) in
    subst (IsNewerIf k past s) e all

-- what an order leaves is newer than the commands on the other channel
left-newest : (k : ℕ) (terminal : TerminalData) (now : Moment) (past : List Moment) (s : Standing) (memory : Memory) (may : Bool) (order : Handled) →
    (is_left s.duty ≡ true → IsNewest k (length past) s) → ((c : Channel) → IfSome (mark_on s.addressed c) (λ m. m < length past)) →
    Ends k (now ∷ past) s order → IsNewer k past s order →
    is_left (after_order s order (done_by k terminal s memory may order)).duty ≡ true →
    IsNewest k (suc (length past)) (marked_by k terminal now past s (after_order s order (done_by k terminal s memory may order)))
left-newest k terminal now past s memory may (obeys c end order rest) before marks (burst, e, at) newer left =
    newest-tick k terminal now past s (after_order s (obeys c end order rest) (done_by k terminal s memory may (obeys c end order rest)))
    (omega (arith, (ended-place k (heard_on c (now ∷ past)) burst e).0, length-heard c (now ∷ past), at)) (marks (other_of c)) (λ _. newer.0)
left-newest k terminal now past s memory may (settles end slots rest) before marks (burst, e, at) newer left =
    newest-tick k terminal now past s (after_order s (settles end slots rest) (done_by k terminal s memory may (settles end slots rest)))
    (omega (arith, (ended-place k (heard_on s.channel (now ∷ past)) burst e).0, length-heard s.channel (now ∷ past), at)) (marks (other_of s.channel))
    (λ _. (before newer.0).newest newer.1)
left-newest k terminal now past s memory may runs_out before marks ends newer left = (let no : false ≡ true = left in cc)

-- the same of the order in the newest tick
pub newest-order : (k : ℕ) (terminal : TerminalData) (now : Moment) (past : List Moment) (s : Standing) (memory : Memory) (may : Bool) (order : Handled) →
    order_now k terminal (now ∷ past) s ≡ Some order → AreMarked k terminal.address past s → (is_left s.duty ≡ true → IsNewest k (length past) s) →
    ((c : Channel) → IfSome (mark_on s.addressed c) (λ m. m < length past)) →
    is_left (after_order s order (done_by k terminal s memory may order)).duty ≡ true →
    IsNewest k (suc (length past)) (marked_by k terminal now past s (after_order s order (done_by k terminal s memory may order)))
newest-order k terminal now past s memory may order is marked before marks left =
    left-newest k terminal now past s memory may order before marks (now-ends k terminal now past s order is)
    (now-newer k terminal now past s order marked is) left
