-- What the code finds to be handled is what is handled by the definition.
use Rattle.std.proofs.Common.{◌≡◌, ℕ, ◌+◌, Bool, true, false, not, ◌&&◌, nat_le, List, ◌∷◌, take, Option, Some, None, refl, sym, ap, ◌∙◌, subst, if◌then◌else◌}
use Rattle.std.specs.Option.{option_or}
use Rattle.bus_base.specs.Samples.{same_channel}
use Rattle.bus_base.specs.declared.samples.Channel.{Channel}
use Rattle.bus_base.specs.declared.samples.Channel.TheVariants.{A, B}
use Rattle.bus_words.specs.declared.word.Word.{Word}
use Rattle.bus_line.specs.Past.{Burst, ended_now, end_of, rest_of}
use Rattle.bus_formats.specs.Plans.{TerminalData}
use Rattle.bus_ears.specs.Ears.{Holds, IsHeard, IsToldBurst, AreTold}
use Rattle.bus_ears.specs.declared.ear.Heard.{Heard}
use Rattle.bus_ears.specs.declared.ear.HeardBurst.{HeardBurst}
use Rattle.bus_ears.specs.declared.ear.TheConstants.{MOST_SLOTS}
use Rattle.bus_formats.specs.Times.{relay_wait}
use Rattle.bus_model.specs.Orders.{last_order}
use Rattle.bus_model.specs.Hearing.{Moment, heard_on}
use Rattle.bus_model.specs.Standing.{Standing, obeys, settles, mark_on, ignored_from, outrun, superseded, promised_on, is_promise}
use Rattle.bus_model.specs.Standing as standing
use Rattle.bus_model.specs.Terminal.{order_by, order_of, order_on, order_now, running_out}
use Rattle.bus_terminal.specs.Holding.{AreListened}
use Rattle.bus_terminal.specs.Handling.{settles_with, order_with, order_from, order_told, out_with, handled_told, IsWaiting, Awaits, AreHandled}
use Rattle.bus_terminal.specs.declared.common.Listened.{Listened}
use Rattle.bus_terminal.specs.declared.handling.Waiting.{Waiting}
use Rattle.bus_terminal.specs.declared.handling.Handled.{Handled}
use Rattle.bus_terminal.specs.declared.handling.Handled.TheVariants as told

three : (a b c : Bool) → a ≡ true → c ≡ false → (a && b && not c) ≡ b
three true true false e f = refl
three true false false e f = refl
three false b c e f = cc
three true b true e f = cc

-- a promise that stands, by what the code knows of it
pub promised-with : (k : ℕ) (w : Waiting) (s : Standing) (c : Channel) → Awaits k (Some w) s → promised_on k s c ≡ same_channel w.channel c
promised-with k w s c (is, fresh) =
    let promise : is_promise s.duty ≡ true = rw is.duty refl in
    three (is_promise s.duty) (same_channel s.channel c) (superseded k s) promise fresh ∙ ap (λ (x : Channel). same_channel x c) is.channel

settled : (k : ℕ) (terminal : TerminalData) (s : Standing) (c : Channel) (w : Waiting) (told_burst : HeardBurst) (burst : Burst) (b : Bool) → IsWaiting w s →
    told_burst.end ≡ end_of burst → told_burst.rest ≡ rest_of burst → told_burst.slots.items ≡ take MOST_SLOTS burst.slots →
    AreHandled (if b then Some (told.Settles w told_burst) else None) (if b then Some (settles (end_of burst) burst.slots (rest_of burst)) else None) s
settled k terminal s c w told_burst burst false is end rest slots = tt
settled k terminal s c w told_burst burst true is end rest slots = record { waiting = is; end_is = end; slots_are = slots; rest_is = rest }

without : (k : ℕ) (terminal : TerminalData) (s : Standing) (c : Channel) (waiting : Option Waiting) (told_burst : HeardBurst) (burst : Burst) →
    Awaits k waiting s →
    IsToldBurst MOST_SLOTS terminal.address told_burst burst → told_burst.slots.items ≡ take MOST_SLOTS burst.slots →
    AreHandled (settles_with c waiting told_burst) (order_by k terminal s c burst None) s
without k terminal s c None told_burst burst none is slots = rw (none c) tt
without k terminal s c (Some w) told_burst burst awaits is slots =
    let test : (promised_on k s c && nat_le burst.first (s.end + relay_wait)) ≡ (same_channel w.channel c && nat_le told_burst.first (w.end + relay_wait)) =
    ap (λ (b : Bool). b && nat_le burst.first (s.end + relay_wait)) (promised-with k w s c awaits)
    ∙ ap (λ (n : ℕ). same_channel w.channel c && nat_le n (s.end + relay_wait)) (sym is.first)
    ∙ ap (λ (n : ℕ). same_channel w.channel c && nat_le told_burst.first (n + relay_wait)) awaits.0.end in
    subst (λ (b : Bool). AreHandled (settles_with c (Some w) told_burst) (if b then Some (settles (end_of burst) burst.slots (rest_of burst)) else None) s)
    (sym test)
    (settled k terminal s c w told_burst burst (same_channel w.channel c && nat_le told_burst.first (w.end + relay_wait)) awaits.0 is.end is.rest slots)

commanded : (k : ℕ) (terminal : TerminalData) (s : Standing) (c : Channel) (told_burst : HeardBurst) (burst : Burst) (b : Bool) (command : ℕ)
    (tail : List (Option Word)) →
    IsToldBurst MOST_SLOTS terminal.address told_burst burst → told_burst.slots.items ≡ take MOST_SLOTS tail →
    AreHandled (if b then None else Some (told.Obeys c command told_burst))
    (if b then None else Some (obeys c (end_of burst) (record { command = command; tail = tail }) (rest_of burst))) s
commanded k terminal s c told_burst burst true command tail is slots = tt
commanded k terminal s c told_burst burst false command tail is slots =
    record { channel_is = refl; end_is = is.end; command_is = refl; slots_are = slots; rest_is = is.rest }

by-command : (k : ℕ) (terminal : TerminalData) (s : Standing) (c : Channel) (waiting : Option Waiting) (newer : Bool) (told_burst : HeardBurst)
    (burst : Burst) (command : Option ℕ) →
    Awaits k waiting s → newer ≡ outrun s c → IsToldBurst MOST_SLOTS terminal.address told_burst burst →
    Holds MOST_SLOTS terminal.address command told_burst.slots.items burst.slots →
    AreHandled (order_with c newer waiting told_burst command) (order_by k terminal s c burst (last_order terminal.address burst.slots)) s
by-command k terminal s c waiting newer told_burst burst None awaits older is (none, slots) = rw none
    (without k terminal s c waiting told_burst burst awaits is slots)
by-command k terminal s c waiting newer told_burst burst (Some command) awaits older is (tail, found, slots) =
    rw (found, older) (commanded k terminal s c told_burst burst (outrun s c) command tail is slots)

by-burst : (k : ℕ) (terminal : TerminalData) (s : Standing) (c : Channel) (waiting : Option Waiting) (newer : Bool) (ignored : Bool)
    (t : Option HeardBurst) (o : Option Burst) →
    Awaits k waiting s → newer ≡ outrun s c → AreTold MOST_SLOTS terminal.address t o →
    AreHandled (if ignored then None else order_from c newer waiting t) (if ignored then None else order_of k terminal s c o) s
by-burst k terminal s c waiting newer true t o awaits older are = tt
by-burst k terminal s c waiting newer false None None awaits older are = tt
by-burst k terminal s c waiting newer false None (Some burst) awaits older are = absurd are
by-burst k terminal s c waiting newer false (Some told_burst) None awaits older are = absurd are
by-burst k terminal s c waiting newer false (Some told_burst) (Some burst) awaits older are =
    by-command k terminal s c waiting newer told_burst burst told_burst.command awaits older are are.slots

-- the order on one channel
pub order-found : (k : ℕ) (terminal : TerminalData) (past : List Moment) (moment : Moment) (s : Standing) (c : Channel) (heard : Heard) (newer : Bool)
    (waiting : Option Waiting) →
    IsHeard k MOST_SLOTS terminal.address heard (heard_on c (moment ∷ past)) (ignored_from k (heard_on c past) (mark_on s.sent c)) →
    newer ≡ outrun s c → Awaits k waiting s →
    AreHandled (order_told c heard newer waiting) (order_on k terminal (moment ∷ past) s c) s
order-found k terminal past moment s c heard newer waiting is older awaits =
    rw is.ignored_is (by-burst k terminal s c waiting newer (ignored_from k (heard_on c past) (mark_on s.sent c)) heard.burst
    (ended_now k (heard_on c (moment ∷ past))) awaits older is.burst)

either : (s : Standing) (a b : Option Handled) (o p : Option standing.Handled) → AreHandled a o s → AreHandled b p s →
    AreHandled (option_or a b) (option_or o p) s
either s None b None p first second = second
either s None b (Some order) p first second = absurd first
either s (Some handled) b None p first second = absurd first
either s (Some handled) b (Some order) p first second = first

-- whether a promise that stands runs out in the newest tick
abbrev pub RunsOut : ℕ → TerminalData → Option Waiting → Bool → List Moment → Standing → Type 0
RunsOut k terminal waiting out heard s = AreHandled (if out then out_with waiting else None) (running_out k terminal heard s) s

pub all-found : (k : ℕ) (terminal : TerminalData) (past : List Moment) (moment : Moment) (s : Standing) (heard : Listened) (waiting : Option Waiting)
    (out : Bool) →
    AreListened k terminal.address heard (moment ∷ past) past s → Awaits k waiting s → RunsOut k terminal waiting out (moment ∷ past) s →
    AreHandled (handled_told heard waiting out) (order_now k terminal (moment ∷ past) s) s
all-found k terminal past moment s heard waiting out are awaits last =
    either s _ _ _ _ (order-found k terminal past moment s A heard.a heard.a_outrun waiting are.heard_a are.outrun_a awaits)
    (either s _ _ _ _ (order-found k terminal past moment s B heard.b heard.b_outrun waiting are.heard_b are.outrun_b awaits) last)

-- what the code finds in what the ears told
pub found-as : (found : Option Handled) (listened told_of : Listened) (waiting : Option Waiting) (out : Bool) → found ≡ handled_told listened waiting out →
    listened ≡ told_of → found ≡ handled_told told_of waiting out
found-as found listened told_of waiting out e same = e ∙ ap (λ (x : Listened). handled_told x waiting out) same
