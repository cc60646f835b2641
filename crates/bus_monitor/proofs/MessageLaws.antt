-- The messages of one channel grow by those that close in the newest tick.
use Rattle.std.proofs.Common.{◌≡◌, ℕ, suc, ◌+◌, ◌<◌, List, [], ◌∷◌, ◌++◌, length, refl, ap, sym, ◌∙◌, arith, append_assoc}
use Rattle.std.specs.Prelude.{Bool, true, false, not, nat_lt, nat_le, ◌==◌, if◌then◌else◌, Option, Some, None, is_some, option_to_list}
use Rattle.std.proofs.lemmas.List.{append-nil}
use Rattle.std.proofs.lemmas.Bool.Decides.{nat_tests}
use Rattle.bus_base.specs.declared.samples.Channel.{Channel}
use Rattle.bus_base.specs.declared.samples.Pair.{Pair}
use Rattle.bus_base.specs.declared.samples.Sample.{Sample}
use Rattle.bus_line.specs.Past.{Burst, runs, first_tick, ended_now, end_of}
use Rattle.bus_line.specs.Channels.{on_channel}
use Rattle.bus_formats.specs.Forms.{answers_of}
use Rattle.bus_formats.specs.Times.{no_response}
use Rattle.bus_formats.specs.declared.form.Reading.{Reading}
use Rattle.bus_formats.specs.declared.form.Reading.TheVariants.{Good, Ends}
use Rattle.bus_formats.specs.declared.plan.Kind.{Kind}
use Rattle.bus_monitor.specs.Messages.{Closed, Waiting, messages, closes, waits, waits_on, waits_after, opens, opened, opening, closed_by, answer_read, is_answer, unanswered, closed_at_end}
use Rattle.bus_monitor.specs.Listings.{running_on, messages_on, bursts_on}
use Rattle.bus_monitor.specs.Progress.{waits_after_end, waiting, closed_at_burst, closed_in_time, closed_with, closed_now}
use Rattle.bus_monitor.proofs.PastLaws.{RunsOn, runs-on, an-end}
use Rattle.bus_monitor.proofs.PastLaws as past_laws
use Rattle.bus_monitor.proofs.ChannelLaws.{ended, length-on_channel, bursts-channel}

-- the messages that bursts close, and the message that waits after them
closes_all : ℕ → Option Waiting → List Burst → List Closed
closes_all k w [] = []
closes_all k w (burst ∷ bursts) = closes k w burst ++ closes_all k (waits k w burst) bursts

unfoldable pub waits_all : ℕ → Option Waiting → List Burst → Option Waiting
waits_all k w [] = w
waits_all k w (burst ∷ bursts) = waits_all k (waits k w burst) bursts

messages-split : (k : ℕ) (running : Option ℕ) (ticks : ℕ) (w : Option Waiting) (bursts : List Burst) →
    messages k running ticks w bursts ≡ closes_all k w bursts ++ closed_at_end k running ticks (waits_all k w bursts)
unfolding messages closes_all waits_all
messages-split k running ticks w [] = refl
messages-split k running ticks w (burst ∷ bursts) =
    rw (messages-split k running ticks (waits k w burst) bursts) (sym (append_assoc (closes k w burst) (closes_all k (waits k w burst) bursts) (closed_at_end k running ticks (waits_all k (waits k w burst) bursts))))

closes_all-one : (k : ℕ) (w : Option Waiting) (bursts : List Burst) (burst : Burst) →
    closes_all k w (bursts ++ (burst ∷ [])) ≡ closes_all k w bursts ++ closes k (waits_all k w bursts) burst
unfolding closes_all waits_all
closes_all-one k w [] burst = append-nil (closes k w burst)
closes_all-one k w (b ∷ bursts) burst =
    rw (closes_all-one k (waits k w b) bursts burst)
    (sym (append_assoc (closes k w b) (closes_all k (waits k w b) bursts) (closes k (waits_all k (waits k w b) bursts) burst)))

waits_all-one : (k : ℕ) (w : Option Waiting) (bursts : List Burst) (burst : Burst) →
    waits_all k w (bursts ++ (burst ∷ [])) ≡ waits k (waits_all k w bursts) burst
unfolding waits_all
waits_all-one k w [] burst = refl
waits_all-one k w (b ∷ bursts) burst = waits_all-one k (waits k w b) bursts burst

waits_all-found : (k : ℕ) (w : Option Waiting) (bursts : List Burst) (found : Option Burst) →
    waits_all k w (bursts ++ option_to_list found) ≡ waits_after_end k (waits_all k w bursts) found
waits_all-found k w bursts None = ap (waits_all k w) (append-nil bursts)
waits_all-found k w bursts (Some burst) = waits_all-one k w bursts burst

-- the message that waits, by the bursts that ended
pub waiting-ended : (k : ℕ) (past : List Sample) → waiting k past ≡ waits_all k None (ended k past)
unfolding waiting ended waits_all
waiting-ended k [] = refl
waiting-ended k (x ∷ past) = rw (waiting-ended k past) (sym (waits_all-found k None (ended k past) (ended_now k (x ∷ past))))

-- ---- what the end of the past adds

-- a message that waits does so from a burst's end that became known in this tick
abbrev pub IsFresh : ℕ → ℕ → Option Waiting → Type 0
IsFresh k tick None = Unit {0}
IsFresh k tick (Some w) = w.from + k ≡ tick

fresh-if : (k tick : ℕ) (test : Bool) (v w : Option Waiting) → IsFresh k tick v → IsFresh k tick w → IsFresh k tick (if test then v else w)
fresh-if k tick true v w fresh-v fresh-w = fresh-v
fresh-if k tick false v w fresh-v fresh-w = fresh-w

fresh-opens : (k tick : ℕ) (burst : Burst) (kind : Option Kind) → end_of burst + k ≡ tick → IsFresh k tick (opens k burst kind)
fresh-opens k tick burst None at = tt
fresh-opens k tick burst (Some kind) at = fresh-if k tick (is_some (answers_of kind).first) _ None at tt

fresh-after : (k tick end : ℕ) (w : Waiting) (reading : Reading) → end + k ≡ tick → IsFresh k tick (waits_after k w end reading)
fresh-after k tick end w (Good status) at = fresh-if k tick (waits_on w) _ None at tt
fresh-after k tick end w (Ends outcome status) at = tt

pub fresh-waits : (k tick : ℕ) (burst : Burst) (w : Option Waiting) → end_of burst + k ≡ tick → IsFresh k tick (waits k w burst)
fresh-waits k tick burst None at = fresh-opens k tick burst (opening k burst) at
fresh-waits k tick burst (Some w) at =
    fresh-if k tick (is_answer k w burst.first) (waits_after k w (end_of burst) (answer_read k w burst)) (opens k burst (opening k burst))
    (fresh-after k tick (end_of burst) w (answer_read k w burst) at) (fresh-opens k tick burst (opening k burst) at)

-- such a message hasn't waited too long
fresh-open : (k tick : ℕ) (w : Option Waiting) → IsFresh k tick w → k < no_response → closed_at_end k None (suc tick) w ≡ []
fresh-open k tick None fresh short = refl
fresh-open k tick (Some w) fresh short =
    let late : nat_lt (w.from + no_response) (suc tick) ≡ false = grind (arith, nat_tests, fresh, short) in
    rw late refl

-- ---- a tick in which no burst ends

abbrev pub shown_first : Bool → ℕ → Option ℕ
shown_first running first = if running then Some first else None

still : (tick : ℕ) (w : Waiting) (before now : Bool) → now ≡ before →
    (if now then unanswered w else []) ≡ (if before then unanswered w else []) ++ []
still tick w before now same = rw same (sym (append-nil (if before then unanswered w else [])))

grows : (past now : Bool) (xs : List Closed) (due : Bool) → (past ≡ true → (now ≡ true) × (due ≡ false)) → (past ≡ false → now ≡ due) →
    (if now then xs else []) ≡ (if past then xs else []) ++ (if due then xs else [])
grows true now xs due stays comes = rw ((stays refl).0, (stays refl).1) (sym (append-nil xs))
grows false now xs due stays comes = rw (comes refl) refl

no-end : (k : ℕ) (tick first later : ℕ) (ran running : Bool) (w : Option Waiting) →
    (ran ≡ true → running ≡ true) → (ran ≡ true → later ≡ first) → (ran ≡ false → running ≡ true → later ≡ tick) →
    closed_at_end k (shown_first running later) (suc tick) w ≡ closed_at_end k (shown_first ran first) tick w ++ closed_in_time tick running w
no-end k tick first later ran running None on same begins = refl
no-end k tick first later true true (Some w) on same begins =
    still tick w (not (is_answer k w first)) (not (is_answer k w later)) (rw (same refl) refl)
no-end k tick first later true false (Some w) on same begins = let e : false ≡ true = on refl in absurd (cc)
no-end k tick first later false true (Some w) on same begins =
    let now : later ≡ tick = begins refl refl in
    still tick w (nat_lt (w.from + no_response) tick) (not (nat_le later (w.from + no_response))) (rw now (grind (arith, nat_tests)))
no-end k tick first later false false (Some w) on same begins =
    grows (nat_lt (w.from + no_response) tick) (nat_lt (w.from + no_response) (suc tick)) (unanswered w) (tick == w.from + no_response)
    (λ late. (grind (arith, nat_tests, late), grind (arith, nat_tests, late))) (λ early. grind (arith, nat_tests, early))

-- ---- a tick in which a burst ends

split-by : (answer : Bool) (read late opened : List Closed) →
    (if answer then read else late ++ opened) ≡ (if not answer then late else []) ++ (if answer then read else opened)
split-by true read late opened = refl
split-by false read late opened = refl

-- a message that waited when the burst began had closed, or the burst is its answer
closes-split : (k : ℕ) (tick : ℕ) (w : Option Waiting) (burst : Burst) →
    closes k w burst ≡ closed_at_end k (Some burst.first) tick w ++ closed_at_burst k w burst
closes-split k tick None burst = refl
closes-split k tick (Some w) burst =
    split-by (is_answer k w burst.first) (closed_by k w (end_of burst) (answer_read k w burst)) (unanswered w) (opened k burst (opening k burst))

waiting-step : (k : ℕ) (x : Sample) (past : List Sample) (burst : Burst) → ended_now k (x ∷ past) ≡ Some burst →
    waiting k (x ∷ past) ≡ waits k (waiting k past) burst
unfolding waiting
waiting-step k x past burst some = ap (waits_after_end k (waiting k past)) some

-- ---- both

-- the messages of one channel at the end of its past
abbrev pub messages_of : ℕ → List Sample → List Closed
messages_of k past = messages k (shown_first (runs k past) (first_tick k past)) (length past) None (ended k past)

glue : (closed before after old new added : List Closed) → new ≡ closed ++ after → old ≡ closed ++ before → after ≡ before ++ added →
    new ≡ old ++ added
glue closed before after old new added is was step =
    is ∙ ap (λ xs. closed ++ xs) step ∙ sym (append_assoc closed before added) ∙ ap (λ xs. xs ++ added) (sym was)

-- what the past's end adds to the messages that its bursts close
at-end : (k : ℕ) (running : Option ℕ) (ticks : ℕ) (past : List Sample) →
    messages k running ticks None (ended k past) ≡ closes_all k None (ended k past) ++ closed_at_end k running ticks (waiting k past)
at-end k running ticks past =
    messages-split k running ticks None (ended k past)
    ∙ ap (λ w. closes_all k None (ended k past) ++ closed_at_end k running ticks w) (sym (waiting-ended k past))

grow-none : (k : ℕ) (x : Sample) (past : List Sample) → ended_now k (x ∷ past) ≡ None →
    messages_of k (x ∷ past) ≡ messages_of k past ++ closed_now k (x ∷ past)
unfolding ended closed_now
grow-none k x past none =
    let on : RunsOn k x past = runs-on k x past none in
    let running : Option ℕ = shown_first (runs k (x ∷ past)) (first_tick k (x ∷ past)) in
    let ran : Option ℕ = shown_first (runs k past) (first_tick k past) in
    let added : closed_now k (x ∷ past) ≡ closed_in_time (length past) (runs k (x ∷ past)) (waiting k past) =
    ap (closed_with k (length past) (runs k (x ∷ past)) (waiting k past)) none in
    let bursts : ended k (x ∷ past) ≡ ended k past = ap (λ found. ended k past ++ option_to_list found) none ∙ append-nil (ended k past) in
    let is : messages_of k (x ∷ past) ≡ closes_all k None (ended k past) ++ closed_at_end k running (suc (length past)) (waiting k past) =
    ap (λ bs. messages k running (suc (length past)) None bs) bursts ∙ at-end k running (suc (length past)) past in
    glue (closes_all k None (ended k past)) (closed_at_end k ran (length past) (waiting k past))
    (closed_at_end k running (suc (length past)) (waiting k past)) (messages_of k past) (messages_of k (x ∷ past)) (closed_now k (x ∷ past))
    is (at-end k ran (length past) past)
    (no-end k (length past) (first_tick k past) (first_tick k (x ∷ past)) (runs k past) (runs k (x ∷ past)) (waiting k past) on.on on.same on.begins
    ∙ ap (λ xs. closed_at_end k ran (length past) (waiting k past) ++ xs) (sym added))

grow-some : (k : ℕ) (x : Sample) (past : List Sample) (burst : Burst) → k < no_response → ended_now k (x ∷ past) ≡ Some burst →
    messages_of k (x ∷ past) ≡ messages_of k past ++ closed_now k (x ∷ past)
unfolding ended closed_now
grow-some k x past burst short some =
    let over : past_laws.Ends k past burst (x ∷ past) = an-end k x past burst some in
    let w : Option Waiting = waiting k past in
    let running : Option ℕ = shown_first (runs k (x ∷ past)) (first_tick k (x ∷ past)) in
    let none : running ≡ None = ap (λ now. shown_first now (first_tick k (x ∷ past))) over.over in
    let ran : shown_first (runs k past) (first_tick k past) ≡ Some burst.first =
    ap (λ before. shown_first before (first_tick k past)) over.ran ∙ ap Some (sym over.first) in
    let added : closed_now k (x ∷ past) ≡ closed_at_burst k w burst =
    ap (closed_with k (length past) (runs k (x ∷ past)) w) some in
    let bursts : ended k (x ∷ past) ≡ ended k past ++ (burst ∷ []) = ap (λ found. ended k past ++ option_to_list found) some in
    let waits-now : waiting k (x ∷ past) ≡ waits k w burst = waiting-step k x past burst some in
    let nothing : closed_at_end k running (suc (length past)) (waiting k (x ∷ past)) ≡ [] =
    ap (λ r. closed_at_end k r (suc (length past)) (waiting k (x ∷ past))) none
    ∙ ap (closed_at_end k None (suc (length past))) waits-now
    ∙ fresh-open k (length past) (waits k w burst) (fresh-waits k (length past) burst w over.end) short in
    let closes-now : closes_all k None (ended k (x ∷ past)) ≡ closes_all k None (ended k past) ++ closes k w burst =
    ap (closes_all k None) bursts ∙ closes_all-one k None (ended k past) burst
    ∙ ap (λ v. closes_all k None (ended k past) ++ closes k v burst) (sym (waiting-ended k past)) in
    let is : messages_of k (x ∷ past) ≡ closes_all k None (ended k past) ++ closes k w burst =
    at-end k running (suc (length past)) (x ∷ past)
    ∙ ap (λ xs. closes_all k None (ended k (x ∷ past)) ++ xs) nothing
    ∙ append-nil (closes_all k None (ended k (x ∷ past))) ∙ closes-now in
    let was : messages_of k past ≡ closes_all k None (ended k past) ++ closed_at_end k (Some burst.first) (length past) w =
    at-end k (shown_first (runs k past) (first_tick k past)) (length past) past
    ∙ ap (λ r. closes_all k None (ended k past) ++ closed_at_end k r (length past) w) ran in
    glue (closes_all k None (ended k past)) (closed_at_end k (Some burst.first) (length past) w) (closes k w burst)
    (messages_of k past) (messages_of k (x ∷ past)) (closed_now k (x ∷ past)) is was
    (closes-split k (length past) w burst ∙ ap (λ xs. closed_at_end k (Some burst.first) (length past) w ++ xs) (sym added))

grow-by : (k : ℕ) (x : Sample) (past : List Sample) (found : Option Burst) → k < no_response → ended_now k (x ∷ past) ≡ found →
    messages_of k (x ∷ past) ≡ messages_of k past ++ closed_now k (x ∷ past)
grow-by k x past None short is = grow-none k x past is
grow-by k x past (Some burst) short is = grow-some k x past burst short is

-- one tick more
pub messages-grow : (k : ℕ) (x : Sample) (past : List Sample) → k < no_response →
    messages_of k (x ∷ past) ≡ messages_of k past ++ closed_now k (x ∷ past)
messages-grow k x past short = grow-by k x past (ended_now k (x ∷ past)) short refl

pub messages-channel : (k : ℕ) (c : Channel) (past : List Pair) → messages_on k c past ≡ messages_of k (on_channel c past)
messages-channel k c past =
    let running : Option ℕ = running_on k (on_channel c past) in
    ap (λ n. messages k running n None (bursts_on k c past)) (sym (length-on_channel c past))
    ∙ ap (messages k running (length (on_channel c past)) None) (bursts-channel k c past)
