-- The lines of both listings grow by those of the newest tick.
use Rattle.std.proofs.Common.{◌≡◌, subst, ℕ, suc, ◌+◌, ◌<◌, ◌≤◌, List, [], ◌∷◌, ◌++◌, length, refl, ap, sym, ◌∙◌, arith, append_assoc}
use Rattle.std.specs.Prelude.{Bool, true, false, nat_lt, ◌==◌, is_some, if◌then◌else◌, Option, Some, None, option_to_list, map, flat_map}
use Rattle.std.proofs.lemmas.List.{append-nil, map-append}
use Rattle.std.proofs.lemmas.List.Concat.{flat_map-append}
use Rattle.std.proofs.lemmas.Bool.Decides.{nat_tests}
use Rattle.bus_base.specs.Samples.{sample_on}
use Rattle.bus_base.specs.declared.samples.Channel.{Channel}
use Rattle.bus_base.specs.declared.samples.Channel.TheVariants.{A, B}
use Rattle.bus_base.specs.declared.samples.Pair.{Pair}
use Rattle.bus_base.specs.declared.samples.Sample.{Sample}
use Rattle.bus_line.specs.Past.{Burst, Slot, runs, ended_now, end_of, slot_now}
use Rattle.bus_line.specs.Channels.{on_channel, valid, valid_now, valid_of, valid_word}
use Rattle.bus_formats.specs.Times.{no_response}
use Rattle.bus_formats.specs.Forms.{answers_of}
use Rattle.bus_formats.specs.declared.form.Reading.{Reading}
use Rattle.bus_formats.specs.declared.form.Reading.TheVariants.{Good, Ends}
use Rattle.bus_formats.specs.declared.plan.Kind.{Kind}
use Rattle.bus_words.specs.declared.word.Word.{Word}
use Rattle.bus_text.specs.Texts.{word_line}
use Rattle.bus_monitor.specs.Messages.{Closed, Waiting, messages, waits_on, opened, opening, closed_by, answer_read, is_answer, unanswered}
use Rattle.bus_monitor.specs.Listings.{heard_word, lines_on, lines_of_both, place_line, ClosedLine, closed_line}
use Rattle.bus_monitor.specs.Progress.{heard_at, heard_of, words_now, word_lines, waiting, closed_at_burst, closed_in_time, closed_with, closed_now, message_lines, messages_now}
use Rattle.bus_monitor.proofs.PastLaws.{an-end}
use Rattle.bus_monitor.proofs.ChannelLaws.{ended, length-on_channel}
use Rattle.bus_monitor.proofs.MessageLaws.{messages-grow, messages-channel, messages_of}

-- ---- words

heard-word : (c : Channel) (p : ℕ) (word : Option Word) → map heard_word (valid_word c p word) ≡ option_to_list (heard_at c p word)
heard-word c p None = refl
heard-word c p (Some word) = refl

heard-slot : (c : Channel) (slot : Option Slot) → map heard_word (valid_of c slot) ≡ option_to_list (heard_of c slot)
heard-slot c None = refl
heard-slot c (Some slot) = heard-word c slot.first slot.word

pub heard-valid : (k : ℕ) (past : List Pair) → map heard_word (valid_now k A past ++ valid_now k B past) ≡ words_now k past
heard-valid k past =
    map-append heard_word (valid_now k A past) (valid_now k B past)
    ∙ (rw (heard-slot A (slot_now k (on_channel A past)), heard-slot B (slot_now k (on_channel B past))) refl)

pub words-grow : (k : ℕ) (shown : Pair) (past : List Pair) →
    word_lines k (shown ∷ past) ≡ word_lines k past ++ flat_map word_line (words_now k (shown ∷ past))
unfolding word_lines valid
words-grow k shown past =
    ap (flat_map word_line) (map-append heard_word (valid k past) (valid_now k A (shown ∷ past) ++ valid_now k B (shown ∷ past)))
    ∙ flat_map-append word_line (map heard_word (valid k past)) (map heard_word (valid_now k A (shown ∷ past) ++ valid_now k B (shown ∷ past)))
    ∙ ap (λ xs. flat_map word_line (map heard_word (valid k past)) ++ flat_map word_line xs) (heard-valid k (shown ∷ past))

-- ---- the tick in which a message closes

abbrev pub AllAt : ℕ → List Closed → Type 0
AllAt tick [] = Unit {0}
AllAt tick (closed ∷ later) = (closed.tick ≡ tick) × AllAt tick later

abbrev pub AllBefore : ℕ → List Closed → Type 0
AllBefore tick [] = Unit {0}
AllBefore tick (closed ∷ later) = (closed.tick < tick) × AllBefore tick later

all-if : (tick : ℕ) (test : Bool) (xs ys : List Closed) → (test ≡ true → AllAt tick xs) → (test ≡ false → AllAt tick ys) →
    AllAt tick (if test then xs else ys)
all-if tick true xs ys when other = when refl
all-if tick false xs ys when other = other refl

opened-at : (k tick : ℕ) (burst : Burst) (kind : Option Kind) → end_of burst + k ≡ tick → AllAt tick (opened k burst kind)
opened-at k tick burst None at = (at, tt)
opened-at k tick burst (Some kind) at = all-if tick (is_some (answers_of kind).first) [] _ (λ _. tt) (λ _. (at, tt))

closed_by-at : (k tick end : ℕ) (w : Waiting) (reading : Reading) → end + k ≡ tick → AllAt tick (closed_by k w end reading)
closed_by-at k tick end w (Good status) at = all-if tick (waits_on w) [] _ (λ _. tt) (λ _. (at, tt))
closed_by-at k tick end w (Ends outcome status) at = (at, tt)

burst-at : (k tick : ℕ) (w : Option Waiting) (burst : Burst) → end_of burst + k ≡ tick → AllAt tick (closed_at_burst k w burst)
burst-at k tick None burst at = opened-at k tick burst (opening k burst) at
burst-at k tick (Some w) burst at =
    all-if tick (is_answer k w burst.first) (closed_by k w (end_of burst) (answer_read k w burst)) (opened k burst (opening k burst))
    (λ _. closed_by-at k tick (end_of burst) w (answer_read k w burst) at) (λ _. opened-at k tick burst (opening k burst) at)

time-at : (tick : ℕ) (running : Bool) (w : Option Waiting) → AllAt tick (closed_in_time tick running w)
time-at tick running None = tt
time-at tick true (Some w) = tt
time-at tick false (Some w) =
    all-if tick (tick == w.from + no_response) (unanswered w) [] (λ due. (grind (arith, nat_tests, due), tt)) (λ _. tt)

closed-found : (k : ℕ) (x : Sample) (past : List Sample) (found : Option Burst) → ended_now k (x ∷ past) ≡ found →
    AllAt (length past) (closed_with k (length past) (runs k (x ∷ past)) (waiting k past) found)
closed-found k x past None is = time-at (length past) (runs k (x ∷ past)) (waiting k past)
closed-found k x past (Some burst) is = burst-at k (length past) (waiting k past) burst (an-end k x past burst is).end

-- what closes in a tick has its number
pub closed-at : (k : ℕ) (x : Sample) (past : List Sample) → AllAt (length past) (closed_now k (x ∷ past))
unfolding closed_now
closed-at k x past = closed-found k x past (ended_now k (x ∷ past)) refl

before-grow : (tick : ℕ) (xs added : List Closed) → AllBefore tick xs → AllAt tick added → AllBefore (suc tick) (xs ++ added)
before-grow tick [] [] before at = tt
before-grow tick [] (closed ∷ added) before at = (omega (arith, at.0), before-grow tick [] added tt at.1)
before-grow tick (closed ∷ xs) added before at = (omega (arith, before.0), before-grow tick xs added before.1 at)

-- what has closed did so before the tick to come
pub messages-before : (k : ℕ) (past : List Sample) → k < no_response → AllBefore (length past) (messages_of k past)
unfolding messages ended
messages-before k [] short = tt
messages-before k (x ∷ past) short =
    rw (messages-grow k x past short)
    (before-grow (length past) (messages_of k past) (closed_now k (x ∷ past)) (messages-before k past short) (closed-at k x past))

-- ---- the lines of both channels

abbrev pub LinesAt : ℕ → List ClosedLine → Type 0
LinesAt tick [] = Unit {0}
LinesAt tick (l ∷ later) = (l.tick ≡ tick) × LinesAt tick later

abbrev pub LinesBefore : ℕ → List ClosedLine → Type 0
LinesBefore tick [] = Unit {0}
LinesBefore tick (l ∷ later) = (l.tick < tick) × LinesBefore tick later

abbrev pub LinesUpTo : ℕ → List ClosedLine → Type 0
LinesUpTo tick [] = Unit {0}
LinesUpTo tick (l ∷ later) = (l.tick ≤ tick) × LinesUpTo tick later

lines-at : (c : Channel) (tick : ℕ) (xs : List Closed) → AllAt tick xs → LinesAt tick (map (closed_line c) xs)
lines-at c tick [] at = tt
lines-at c tick (closed ∷ xs) at = (at.0, lines-at c tick xs at.1)

lines-before : (c : Channel) (tick : ℕ) (xs : List Closed) → AllBefore tick xs → LinesBefore tick (map (closed_line c) xs)
lines-before c tick [] before = tt
lines-before c tick (closed ∷ xs) before = (before.0, lines-before c tick xs before.1)

upto-before : (tick : ℕ) (xs : List ClosedLine) → LinesBefore tick xs → LinesUpTo tick xs
upto-before tick [] before = tt
upto-before tick (l ∷ xs) before = (omega (arith, before.0), upto-before tick xs before.1)

upto-append : (tick : ℕ) (xs ys : List ClosedLine) → LinesUpTo tick xs → LinesAt tick ys → LinesUpTo tick (xs ++ ys)
upto-append tick [] [] upto at = tt
upto-append tick [] (l ∷ ys) upto at = (omega (arith, at.0), upto-append tick [] ys tt at.1)
upto-append tick (l ∷ xs) ys upto at = (upto.0, upto-append tick xs ys upto.1 at)

upto-if : (tick : ℕ) (test : Bool) (xs ys : List ClosedLine) → LinesUpTo tick xs → LinesUpTo tick ys → LinesUpTo tick (if test then xs else ys)
upto-if tick true xs ys when other = when
upto-if tick false xs ys when other = other

upto-place : (tick : ℕ) (l : ClosedLine) (xs : List ClosedLine) → l.tick ≤ tick → LinesUpTo tick xs → LinesUpTo tick (place_line l xs)
upto-place tick l [] at upto = (at, tt)
upto-place tick l (other ∷ xs) at upto =
    upto-if tick (nat_lt l.tick other.tick) (l ∷ other ∷ xs) (other ∷ place_line l xs) (at, upto) (upto.0, upto-place tick l xs at upto.1)

upto-both : (tick : ℕ) (xs ys : List ClosedLine) → LinesUpTo tick xs → LinesBefore tick ys → LinesUpTo tick (lines_of_both xs ys)
upto-both tick xs [] upto before = upto
upto-both tick xs (l ∷ ys) upto before =
    upto-both tick (place_line l xs) ys (upto-place tick l xs (omega (arith, before.0)) upto) before.1

append-if : (test : Bool) (xs xs' ys ys' added : List ClosedLine) → xs ≡ xs' ++ added → ys ≡ ys' ++ added →
    (if test then xs else ys) ≡ (if test then xs' else ys') ++ added
append-if true xs xs' ys ys' added when other = when
append-if false xs xs' ys ys' added when other = other

-- a line that closed before takes its place among the lines that closed before
place-before : (tick : ℕ) (l : ClosedLine) (xs added : List ClosedLine) → l.tick < tick → LinesAt tick added →
    place_line l (xs ++ added) ≡ place_line l xs ++ added
place-before tick l [] [] before at = refl
place-before tick l [] (other ∷ added) before at =
    let first : nat_lt l.tick other.tick ≡ true = grind (arith, nat_tests, before, at.0) in rw first refl
place-before tick l (other ∷ xs) added before at =
    append-if (nat_lt l.tick other.tick) (l ∷ other ∷ (xs ++ added)) (l ∷ other ∷ xs) (other ∷ place_line l (xs ++ added)) (other ∷ place_line l xs) added
    refl (ap (λ ys. other ∷ ys) (place-before tick l xs added before at))

-- a line that closes now comes last
place-at : (tick : ℕ) (l : ClosedLine) (xs : List ClosedLine) → l.tick ≡ tick → LinesUpTo tick xs → place_line l xs ≡ xs ++ (l ∷ [])
place-at tick l [] at upto = refl
place-at tick l (other ∷ xs) at upto =
    let later : nat_lt l.tick other.tick ≡ false = grind (arith, nat_tests, at, upto.0) in
    rw (later, place-at tick l xs at upto.1) refl

both-before : (tick : ℕ) (xs ys added : List ClosedLine) → LinesBefore tick ys → LinesAt tick added →
    lines_of_both (xs ++ added) ys ≡ lines_of_both xs ys ++ added
both-before tick xs [] added before at = refl
both-before tick xs (l ∷ ys) added before at =
    ap (λ zs. lines_of_both zs ys) (place-before tick l xs added before.0 at) ∙ both-before tick (place_line l xs) ys added before.1 at

both-append : (xs ys zs : List ClosedLine) → lines_of_both xs (ys ++ zs) ≡ lines_of_both (lines_of_both xs ys) zs
both-append xs [] zs = refl
both-append xs (l ∷ ys) zs = both-append (place_line l xs) ys zs

both-at : (tick : ℕ) (xs added : List ClosedLine) → LinesUpTo tick xs → LinesAt tick added → lines_of_both xs added ≡ xs ++ added
both-at tick xs [] upto at = sym (append-nil xs)
both-at tick xs (l ∷ added) upto at =
    ap (λ zs. lines_of_both zs added) (place-at tick l xs at.0 upto)
    ∙ both-at tick (xs ++ (l ∷ [])) added (upto-append tick xs (l ∷ []) upto (at.0, tt)) at.1
    ∙ append_assoc xs (l ∷ []) added

-- the lines that close now come after all others, A before B
both-grow : (tick : ℕ) (xs ys a b : List ClosedLine) → LinesBefore tick xs → LinesBefore tick ys → LinesAt tick a → LinesAt tick b →
    lines_of_both (xs ++ a) (ys ++ b) ≡ (lines_of_both xs ys ++ a) ++ b
both-grow tick xs ys a b before-x before-y at-a at-b =
    both-append (xs ++ a) ys b
    ∙ ap (λ zs. lines_of_both zs b) (both-before tick xs ys a before-y at-a)
    ∙ both-at tick (lines_of_both xs ys ++ a) b
    (upto-append tick (lines_of_both xs ys) a (upto-both tick xs ys (upto-before tick xs before-x) before-y) at-a) at-b

-- the lines of one channel, and what a tick adds to them
lines-of : ℕ → Channel → List Pair → List ClosedLine
lines-of k c past = map (closed_line c) (messages_of k (on_channel c past))

lines-channel : (k : ℕ) (c : Channel) (past : List Pair) → lines_on k c past ≡ lines-of k c past
unfolding lines-of
lines-channel k c past = ap (map (closed_line c)) (messages-channel k c past)

lines-grow : (k : ℕ) (c : Channel) (shown : Pair) (past : List Pair) → k < no_response →
    lines-of k c (shown ∷ past) ≡ lines-of k c past ++ map (closed_line c) (closed_now k (on_channel c (shown ∷ past)))
unfolding lines-of
lines-grow k c shown past short =
    ap (map (closed_line c)) (messages-grow k (sample_on shown c) (on_channel c past) short)
    ∙ map-append (closed_line c) (messages_of k (on_channel c past)) (closed_now k (on_channel c (shown ∷ past)))

before-now : (k : ℕ) (c : Channel) (past : List Pair) → k < no_response → LinesBefore (length past) (lines-of k c past)
unfolding lines-of
before-now k c past short =
    let P : ℕ → Type 0 = λ tick. LinesBefore tick (map (closed_line c) (messages_of k (on_channel c past))) in
    subst P (length-on_channel c past)
    (lines-before c (length (on_channel c past)) (messages_of k (on_channel c past)) (messages-before k (on_channel c past) short))

at-now : (k : ℕ) (c : Channel) (shown : Pair) (past : List Pair) →
    LinesAt (length past) (map (closed_line c) (closed_now k (on_channel c (shown ∷ past))))
at-now k c shown past =
    let P : ℕ → Type 0 = λ tick. LinesAt tick (map (closed_line c) (closed_now k (on_channel c (shown ∷ past)))) in
    subst P (length-on_channel c past)
    (lines-at c (length (on_channel c past)) (closed_now k (on_channel c (shown ∷ past))) (closed-at k (sample_on shown c) (on_channel c past)))

lines_now-grow : (k : ℕ) (shown : Pair) (past : List Pair) → k < no_response →
    lines_of_both (lines_on k A (shown ∷ past)) (lines_on k B (shown ∷ past))
    ≡ (lines_of_both (lines_on k A past) (lines_on k B past) ++ map (closed_line A) (closed_now k (on_channel A (shown ∷ past))))
    ++ map (closed_line B) (closed_now k (on_channel B (shown ∷ past)))
lines_now-grow k shown past short =
    rw (
      lines-channel k A (shown ∷ past),
      lines-channel k B (shown ∷ past),
      lines-channel k A past,
      lines-channel k B past,
      lines-grow k A shown past short,
      lines-grow k B shown past short,
    )
    (both-grow (length past) (lines-of k A past) (lines-of k B past) (map (closed_line A) (closed_now k (on_channel A (shown ∷ past))))
    (map (closed_line B) (closed_now k (on_channel B (shown ∷ past))))
    (before-now k A past short) (before-now k B past short) (at-now k A shown past) (at-now k B shown past))

-- one tick more
pub message_lines-grow : (k : ℕ) (shown : Pair) (past : List Pair) → k < no_response →
    message_lines k (shown ∷ past) ≡ message_lines k past ++ (messages_now k A (shown ∷ past) ++ messages_now k B (shown ∷ past))
unfolding message_lines
message_lines-grow k shown past short =
    let text : ClosedLine → List ℕ = λ l. l.text in
    let before : List ClosedLine = lines_of_both (lines_on k A past) (lines_on k B past) in
    let a : List ClosedLine = map (closed_line A) (closed_now k (on_channel A (shown ∷ past))) in
    let b : List ClosedLine = map (closed_line B) (closed_now k (on_channel B (shown ∷ past))) in
    ap (flat_map text) (lines_now-grow k shown past short)
    ∙ flat_map-append text (before ++ a) b
    ∙ ap (λ xs. xs ++ flat_map text b) (flat_map-append text before a)
    ∙ append_assoc (flat_map text before) (flat_map text a) (flat_map text b)
