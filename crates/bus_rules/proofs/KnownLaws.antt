-- What a tick of a channel tells is what becomes known of its breaches.
use Rattle.std.proofs.Common.{◌≡◌, ℕ, ◌+◌, ◌-◌, List, [], ◌∷◌, ◌++◌, length, refl, ap, sym, ◌∙◌, arith, inl, inr}
use Rattle.std.specs.Prelude.{Bool, true, false, not, ◌||◌, nat_lt, nat_le, min, if◌then◌else◌, is_none, is_some, Option, Some, None}
use Rattle.std.specs.List.{list_any}
use Rattle.std.proofs.lemmas.Bool.{cases_lt, lt-ltb, le-ltb}
use Rattle.std.proofs.lemmas.Bool.Decides.{nat_tests}
use Rattle.std.proofs.lemmas.List.{append-nil}
use Rattle.std.proofs.lemmas.List.Folds.{list_any-append}
use Rattle.bus_base.specs.declared.samples.Channel.{Channel}
use Rattle.bus_base.specs.declared.samples.Sample.{Sample}
use Rattle.bus_words.specs.declared.word.Word.{Word}
use Rattle.bus_line.specs.Past.{Burst, runs, first_tick, ended_now}
use Rattle.bus_line.specs.Cutting.{running_slots}
use Rattle.bus_line.specs.declared.cutter.TheConstants.{LAG}
use Rattle.bus_formats.specs.Forms.{answers_of}
use Rattle.bus_formats.specs.Times.{no_response, least_quiet}
use Rattle.bus_formats.specs.declared.form.Reading.{Reading}
use Rattle.bus_formats.specs.declared.form.Reading.TheVariants.{Good, Ends}
use Rattle.bus_formats.specs.declared.plan.Kind.{Kind}
use Rattle.bus_monitor.specs.Messages.{Closed, Waiting, is_answer, opening, opened, closed_by, waits_on, answer_read}
use Rattle.bus_monitor.specs.Progress.{waiting, closed_at_burst, closed_with, closed_now}
use Rattle.bus_monitor.specs.Awaited.{awaited, still}
use Rattle.bus_monitor.specs.Told.{begins, from_of, is_bad, taken_of, NoEnd, IsEnd}
use Rattle.bus_monitor.specs.declared.told.BurstEnd.{BurstEnd}
use Rattle.bus_monitor.specs.declared.told.Taken.TheVariants as takens
use Rattle.bus_rules.specs.Breaches.{breach_where, answered, begun_so, is_bad_reply, taken_so, ended_so, at_end, at_begin, known_on, longest_burst}
use Rattle.bus_rules.specs.Stands.{begun_by, taken_by, ended_by}
use Rattle.bus_rules.specs.declared.breach.Breach.{Breach}
use Rattle.bus_rules.specs.declared.breach.Rule.TheVariants.{Word as WordRule, Long, Unknown, Reply}

-- ---- a tick in which no burst ends or begins

pub known-none : (k : ℕ) (c : Channel) (quiet : ℕ) (x : Sample) (past : List Sample) → NoEnd k x past false → known_on k c quiet (x ∷ past) ≡ []
known-none k c quiet x past goes =
    ap (λ found. at_end k c (waiting k past) found ++ at_begin k c (length past) quiet (waiting k past) (begins k (x ∷ past))) goes.none
    ∙ ap (at_begin k c (length past) quiet (waiting k past)) goes.begun_is

-- ---- a burst that begins

by-late : (late early : Bool) (w : Waiting) → early ≡ not late → (if late then None else Some w) ≡ (if early then Some w else None)
by-late true early w is = rw is refl
by-late false early w is = rw is refl

early-is : (most tick : ℕ) → nat_le tick most ≡ not (nat_lt most tick)
early-is most tick = elim (cases_lt most tick) [
  | inl less ↦ rw (lt-ltb most tick less) (grind (arith, nat_tests, less))
  | inr within ↦ rw (le-ltb most tick within) (grind (arith, nat_tests, within))
]

late-same : (k tick : ℕ) (w : Option Waiting) → still k None tick w ≡ answered k w tick
late-same k tick None = refl
late-same k tick (Some w) = by-late (nat_lt (w.from + no_response) tick) (nat_le tick (w.from + no_response)) w (early-is (w.from + no_response) tick)

-- the message that is awaited where no burst runs is the one that a burst from now on answers
awaited-answered : (k : ℕ) (past : List Sample) → runs k past ≡ false → awaited k past ≡ answered k (waiting k past) (length past)
unfolding awaited
awaited-answered k past off =
    ap (λ b. still k (if b then Some (first_tick k past) else None) (length past) (waiting k past)) off ∙ late-same k (length past) (waiting k past)

begun-same : (c : Channel) (first quiet : ℕ) (busy : Bool) (w : Option Waiting) → busy ≡ nat_lt quiet (min least_quiet first) →
    begun_by c first busy (from_of w) ≡ begun_so c first quiet w
begun-same c first quiet busy None is = rw is refl
begun-same c first quiet busy (Some w) is = refl

pub known-begun : (k : ℕ) (c : Channel) (quiet now : ℕ) (busy : Bool) (from : Option ℕ) (x : Sample) (past : List Sample) → NoEnd k x past true →
    from ≡ from_of (awaited k past) → runs k past ≡ false → length past ≡ now → busy ≡ nat_lt quiet (min least_quiet now) →
    begun_by c now busy from ≡ known_on k c quiet (x ∷ past)
known-begun k c quiet now busy from x past goes waits off here is =
    ap (λ f. begun_by c now busy f) (waits ∙ ap from_of (awaited-answered k past off))
    ∙ begun-same c now quiet busy (answered k (waiting k past) (length past)) is
    ∙ ap (λ n. begun_so c n quiet (answered k (waiting k past) (length past))) (sym here)
    ∙ sym (ap (λ found. at_end k c (waiting k past) found ++ at_begin k c (length past) quiet (waiting k past) (begins k (x ∷ past))) goes.none
    ∙ ap (at_begin k c (length past) quiet (waiting k past)) goes.begun_is)

-- ---- a burst that ends

-- which of two lists of messages closed, where neither has one that ended badly
no-breach : (c : Channel) (first : ℕ) (b : Bool) (closed : Closed) → taken_of (closed ∷ []) ≡ takens.Known →
    [] ≡ taken_by c first (taken_of (if b then [] else closed ∷ []))
no-breach c first true closed is = refl
no-breach c first false closed is = rw is refl

opened-taken : (k : ℕ) (c : Channel) (burst : Burst) (kind : Option Kind) →
    breach_where (is_none kind) c Unknown burst.first ≡ taken_by c burst.first (taken_of (opened k burst kind))
opened-taken k c burst None = refl
opened-taken k c burst (Some kind) = no-breach c burst.first (is_some (answers_of kind).first) _ refl

ended-taken : (c : Channel) (first : ℕ) (bad : Bool) →
    breach_where bad c Reply first ≡ taken_by c first (if bad then takens.BadReply else takens.Known)
ended-taken c first true = refl
ended-taken c first false = refl

reply-taken : (k : ℕ) (c : Channel) (first end : ℕ) (w : Waiting) (reading : Reading) →
    breach_where (is_bad_reply reading) c Reply first ≡ taken_by c first (taken_of (closed_by k w end reading))
reply-taken k c first end w (Good status) = no-breach c first (waits_on w) _ refl
reply-taken k c first end w (Ends outcome status) = ended-taken c first (is_bad outcome)

by-answer : (k : ℕ) (c : Channel) (burst : Burst) (w : Waiting) (answer : Bool) →
    taken_so k c (if answer then Some w else None) burst
    ≡ taken_by c burst.first (taken_of (if answer then closed_by k w (burst.first + burst.ticks) (answer_read k w burst) else opened k burst (opening k burst)))
by-answer k c burst w true = reply-taken k c burst.first (burst.first + burst.ticks) w (answer_read k w burst)
by-answer k c burst w false = opened-taken k c burst (opening k burst)

burst-taken : (k : ℕ) (c : Channel) (burst : Burst) (w : Option Waiting) →
    taken_so k c (answered k w burst.first) burst ≡ taken_by c burst.first (taken_of (closed_at_burst k w burst))
burst-taken k c burst None = opened-taken k c burst (opening k burst)
burst-taken k c burst (Some w) = by-answer k c burst w (is_answer k w burst.first)

-- what the burst was tells whether it is a breach
end-taken : (k : ℕ) (c : Channel) (x : Sample) (past : List Sample) (burst : Burst) → ended_now k (x ∷ past) ≡ Some burst →
    taken_so k c (answered k (waiting k past) burst.first) burst ≡ taken_by c burst.first (taken_of (closed_now k (x ∷ past)))
unfolding closed_now
end-taken k c x past burst is =
    burst-taken k c burst (waiting k past)
    ∙ ap (λ found. taken_by c burst.first (taken_of (closed_with k (length past) (runs k (x ∷ past)) (waiting k past) found))) (sym is)

three-parts : (c : Channel) (damaged damaged' long long' : Bool) (first first' : ℕ) (taken taken' : List Breach) →
    damaged ≡ damaged' → long ≡ long' → first ≡ first' → taken ≡ taken' →
    (breach_where damaged c WordRule first ++ (breach_where long c Long first ++ taken))
    ≡ (breach_where damaged' c WordRule first' ++ (breach_where long' c Long first' ++ taken'))
three-parts c damaged damaged' long long' first first' taken taken' d l f t = rw (d, l, f, t) refl

pub known-ended : (k : ℕ) (c : Channel) (quiet now : ℕ) (x : Sample) (past : List Sample) (e : BurstEnd) (damaged : Bool) → k ≡ LAG → IsEnd k x past e →
    begins k (x ∷ past) ≡ false → damaged ≡ list_any is_none (running_slots k past) → length past ≡ now →
    ended_by c now e damaged ≡ known_on k c quiet (x ∷ past)
known-ended k c quiet now x past e damaged lag end none is here =
    let burst : Burst = end.burst in
    let ticks : burst.ticks ≡ (now - LAG) - e.first = let at = end.end in omega (arith, at, end.first, here, lag) in
    sym (
    ap (λ found. at_end k c (waiting k past) found ++ at_begin k c (length past) quiet (waiting k past) (begins k (x ∷ past))) end.is
    ∙ ap (λ b. ended_so k c (answered k (waiting k past) burst.first) burst ++ at_begin k c (length past) quiet (waiting k past) b) none
    ∙ append-nil (ended_so k c (answered k (waiting k past) burst.first) burst)
    ∙ three-parts c _ (nat_lt 0 e.rest || damaged) _ (nat_lt longest_burst ((now - LAG) - e.first)) burst.first e.first _ (taken_by c e.first e.taken)
    (ap (λ r. nat_lt 0 r || list_any is_none burst.slots) end.rest ∙ ap (λ d. nat_lt 0 e.rest || d) (ap (list_any is_none) end.slots ∙ sym is))
    (ap (nat_lt longest_burst) ticks)
    end.first
    (end-taken k c x past burst end.is ∙ ap (λ f. taken_by c f (taken_of (closed_now k (x ∷ past)))) end.first ∙ ap (taken_by c e.first) (sym end.taken))
    )

-- ---- whether a slot of the burst that runs is no valid word

none-some : (word : Option Word) → (is_none word || false) ≡ not (is_some word)
none-some None = refl
none-some (Some word) = refl

pub damaged-more : (old new : List (Option Word)) (word : Option Word) (damaged valid : Bool) → damaged ≡ list_any is_none old → valid ≡ is_some word →
    new ≡ old ++ word ∷ [] → (damaged || not valid) ≡ list_any is_none new
damaged-more old new word damaged valid is v more =
    ap (λ d. d || not valid) is ∙ ap (λ b. list_any is_none old || not b) v ∙ ap (λ b. list_any is_none old || b) (sym (none-some word))
    ∙ sym (list_any-append is_none old (word ∷ [])) ∙ ap (list_any is_none) (sym more)
