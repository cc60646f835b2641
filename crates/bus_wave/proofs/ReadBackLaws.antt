-- The ticks that a reader of a wave finds.
use Rattle.std.proofs.Common.{◌≡◌, ℕ, zero, suc, ◌+◌, ◌-◌, ◌<◌, ◌≤◌, List, [], ◌∷◌, ◌++◌, length, drop, get_or, refl, ap, sym, ◌∙◌, subst, inl, inr, append-nil, arith}
use Rattle.std.specs.Prelude.{Bool, true, false, ◌==◌, ◌&&◌, nat_lt, if◌then◌else◌, Option, Some, None}
use Rattle.std.proofs.lemmas.Bool.Decides.{nat_tests}
use Rattle.std.proofs.lemmas.Bool.{cases_lt}
use Rattle.std.proofs.Math.Seq.{drop-cons}
use Rattle.bus_base.specs.Samples.{quiet_pair}
use Rattle.bus_base.specs.declared.samples.Channel.{Channel}
use Rattle.bus_base.specs.declared.samples.Channel.TheVariants.{A, B}
use Rattle.bus_base.specs.declared.samples.Pair.{Pair}
use Rattle.bus_base.specs.declared.samples.Sample.{Sample}
use Rattle.bus_base.specs.declared.samples.Sample.TheVariants.{Plus, Minus, Quiet}
use Rattle.bus_line.specs.Spelling.{same_sample}
use Rattle.bus_wave.specs.Marks.{
  Change,
  time,
  level,
  negative,
  message,
  sender,
  gap,
  word,
  change_if,
  mark_changes,
  level_change,
  negative_change,
  level_changes,
  time_change,
  changes_of,
  tick_changes,
  is_still,
  is_unmarked,
  is_minus,
  same_bool,
}
use Rattle.bus_wave.specs.ReadBack.{Seen, filled, see, see_all, ticks_of}
use Rattle.bus_wave.specs.Waves.{columns, columns_at_end, shown_before, changes_at, drawn, changes_from, changes_left, end_changes, undrawn, horizon, wave_changes}
use Rattle.bus_wave.specs.declared.marks.Column.{Column}
use Rattle.bus_wave.specs.declared.marks.Marks.{Marks}
use Rattle.bus_wave.proofs.ColumnLaws.{shown-earlier, shown-newest, shown-at-end, before-earlier, before-at-end, before-next}

see-append : (xs ys : List Change) (seen : Seen) → see_all (xs ++ ys) seen ≡ see_all ys (see_all xs seen)
see-append [] ys seen = refl
see-append (x ∷ xs) ys seen = see-append xs ys (see x seen)

-- ---- lines that say nothing of the levels

message-if : {T : Type 0} (line : T → Change) (o : Option T) (seen : Seen) → ((x : T) → see (line x) seen ≡ seen) → see_all (change_if line o) seen ≡ seen
message-if line None seen h = refl
message-if line (Some x) seen h = h x

marks-say-nothing : (c : Channel) (marks : Marks) (seen : Seen) → see_all (mark_changes c marks) seen ≡ seen
marks-say-nothing c marks seen =
    see-append ((change_if (message c) marks.message ++ change_if (sender c) marks.sender) ++ change_if (gap c) marks.gap) (change_if (word c) marks.word) seen
    ∙ ap (see_all (change_if (word c) marks.word))
    (see-append (change_if (message c) marks.message ++ change_if (sender c) marks.sender) (change_if (gap c) marks.gap) seen
    ∙ ap (see_all (change_if (gap c) marks.gap))
    (see-append (change_if (message c) marks.message) (change_if (sender c) marks.sender) seen
    ∙ ap (see_all (change_if (sender c) marks.sender)) (message-if (message c) marks.message seen (λ x. refl))
    ∙ message-if (sender c) marks.sender seen (λ x. refl))
    ∙ message-if (gap c) marks.gap seen (λ x. refl))
    ∙ message-if (word c) marks.word seen (λ x. refl)

negative-says-nothing : (c : Channel) (before now : Sample) (seen : Seen) → see_all (negative_change c before now) seen ≡ seen
negative-says-nothing c before now seen = go (same_bool (is_minus before) (is_minus now))
  where
    go : (b : Bool) → see_all (if b then [] else negative c (is_minus now) ∷ []) seen ≡ seen
    go true = refl
    go false = refl

-- ---- levels

same-is : (x y : Sample) → same_sample x y ≡ true → x ≡ y
same-is Plus Plus h = refl
same-is Minus Minus h = refl
same-is Quiet Quiet h = refl
same-is Plus Minus h = absurd (cc)
same-is Plus Quiet h = absurd (cc)
same-is Minus Plus h = absurd (cc)
same-is Minus Quiet h = absurd (cc)
same-is Quiet Plus h = absurd (cc)
same-is Quiet Minus h = absurd (cc)

level-a : (x now : Sample) (seen : Seen) → seen.shown.a ≡ x → see_all (level_change A x now) seen ≡ record { ticks = seen.ticks; shown = record { a = now; b = seen.shown.b } }
level-a x now seen h = go (same_sample x now) refl
  where
    go : (b : Bool) → same_sample x now ≡ b → see_all (if b then [] else level A now ∷ []) seen ≡ record { ticks = seen.ticks; shown = record { a = now; b = seen.shown.b } }
    go true e = ap (λ (v : Sample). record { ticks = seen.ticks; shown = record { a = v; b = seen.shown.b } }) (h ∙ same-is x now e)
    go false e = refl

level-b : (x now : Sample) (seen : Seen) → seen.shown.b ≡ x → see_all (level_change B x now) seen ≡ record { ticks = seen.ticks; shown = record { a = seen.shown.a; b = now } }
level-b x now seen h = go (same_sample x now) refl
  where
    go : (b : Bool) → same_sample x now ≡ b → see_all (if b then [] else level B now ∷ []) seen ≡ record { ticks = seen.ticks; shown = record { a = seen.shown.a; b = now } }
    go true e = ap (λ (v : Sample). record { ticks = seen.ticks; shown = record { a = seen.shown.a; b = v } }) (h ∙ same-is x now e)
    go false e = refl

-- ---- one tick

-- a reader that saw the lines of the ticks before this one: these, the newest first, of which the last showed this
pub record AtTick (seen : Seen) (t : ℕ) (earlier : List Pair) (before : Pair) : Type 0 where
  pub shown : seen.shown ≡ before
  pub few : length seen.ticks ≤ t
  pub long : length earlier ≡ t
  pub ticks : filled (t - length seen.ticks) seen.shown seen.ticks ≡ earlier

filled-next : (seen : Seen) (t : ℕ) → length seen.ticks ≤ t →
    filled (suc t - length seen.ticks) seen.shown seen.ticks ≡ seen.shown ∷ filled (t - length seen.ticks) seen.shown seen.ticks
filled-next seen t few =
    let more : suc t - length seen.ticks ≡ suc (t - length seen.ticks) = omega (arith, few) in
    ap (λ n. filled n seen.shown seen.ticks) more

-- where nothing changes
still-tick : (seen : Seen) (t : ℕ) (earlier : List Pair) (before : Pair) → AtTick seen t earlier before → AtTick seen (suc t) (before ∷ earlier) before
still-tick seen t earlier before at = record {
  shown = at.shown;
  few = let few = at.few in omega (arith, few);
  long = ap suc at.long;
  ticks = filled-next seen t at.few ∙ ap (λ (p : Pair). p ∷ filled (t - length seen.ticks) seen.shown seen.ticks) at.shown ∙ ap (λ (ps : List Pair). before ∷ ps) at.ticks;
}

none-left : (xs : List Pair) → length xs ≤ 0 → xs ≡ []
none-left [] h = refl
none-left (x ∷ xs) h = absurd (omega (arith, h))

-- the time of a tick ends what was shown before
timed : (seen : Seen) (t : ℕ) (earlier : List Pair) (before : Pair) → AtTick seen t earlier before →
    see_all (time_change t) seen ≡ record { ticks = earlier; shown = before }
timed seen t earlier before at = go (t == 0) refl
  where
    go : (b : Bool) → (t == 0) ≡ b → see_all (if b then [] else time t ∷ []) seen ≡ record { ticks = earlier; shown = before }
    go true e =
        let zero-is : t ≡ 0 = grind (arith, nat_tests, e) in
        let few = at.few in
        let long = at.long in
        let none : seen.ticks ≡ [] = none-left seen.ticks (omega (arith, few, zero-is)) in
        let none-earlier : earlier ≡ [] = none-left earlier (omega (arith, long, zero-is)) in
        ap (λ (ps : List Pair). record { ticks = ps; shown = seen.shown }) (none ∙ sym none-earlier)
        ∙ ap (λ (p : Pair). record { ticks = earlier; shown = p }) at.shown
    go false e =
        ap (λ (ps : List Pair). record { ticks = ps; shown = seen.shown }) at.ticks
        ∙ ap (λ (p : Pair). record { ticks = earlier; shown = p }) at.shown

levels-seen : (c : Channel) (x now : Sample) (seen : Seen) → see_all (level_changes c x now) seen ≡ see_all (level_change c x now) seen
levels-seen c x now seen = see-append (level_change c x now) (negative_change c x now) seen ∙ negative-says-nothing c x now (see_all (level_change c x now) seen)

changed-seen : (seen : Seen) (t : ℕ) (earlier : List Pair) (before : Pair) (column : Column) → AtTick seen t earlier before →
    see_all (changes_of t before column) seen ≡ record { ticks = earlier; shown = column.shown }
changed-seen seen t earlier before column at =
    let s0 : Seen = record { ticks = earlier; shown = before } in
    let s1 : Seen = record { ticks = earlier; shown = record { a = column.shown.a; b = before.b } } in
    let s2 : Seen = record { ticks = earlier; shown = column.shown } in
    let t0 = time_change t in
    let la = level_changes A before.a column.shown.a in
    let lb = level_changes B before.b column.shown.b in
    let ma = mark_changes A column.a in
    let mb = mark_changes B column.b in
    see-append (((t0 ++ la) ++ lb) ++ ma) mb seen
    ∙ marks-say-nothing B column.b (see_all (((t0 ++ la) ++ lb) ++ ma) seen)
    ∙ see-append ((t0 ++ la) ++ lb) ma seen
    ∙ marks-say-nothing A column.a (see_all ((t0 ++ la) ++ lb) seen)
    ∙ see-append (t0 ++ la) lb seen
    ∙ ap (see_all lb) (see-append t0 la seen ∙ ap (see_all la) (timed seen t earlier before at) ∙ levels-seen A before.a column.shown.a s0 ∙ level-a before.a column.shown.a s0 refl)
    ∙ levels-seen B before.b column.shown.b s1
    ∙ level-b before.b column.shown.b s1 refl

at-full : (t : ℕ) (earlier : List Pair) (x : Pair) → length earlier ≡ t → AtTick (record { ticks = earlier; shown = x }) (suc t) (x ∷ earlier) x
at-full t earlier x long = record {
  shown = refl;
  few = omega (arith, long);
  long = ap suc long;
  ticks = let one : suc t - length earlier ≡ suc zero = omega (arith, long) in ap (λ n. filled n x earlier) one;
}

pair-is : (p q : Pair) → p.a ≡ q.a → p.b ≡ q.b → p ≡ q
pair-is p q a b = rw (sym a, sym b) refl

and-left : (a b : Bool) → (a && b) ≡ true → a ≡ true
and-left true b h = refl
and-left false b h = absurd (cc)

and-right : (a b : Bool) → (a && b) ≡ true → b ≡ true
and-right true b h = h
and-right false b h = absurd (cc)

still-is : (before : Pair) (column : Column) → is_still before column ≡ true → before ≡ column.shown
still-is before column h =
    let three = and-left ((same_sample before.a column.shown.a && same_sample before.b column.shown.b) && is_unmarked column.a) (is_unmarked column.b) h in
    let two = and-left (same_sample before.a column.shown.a && same_sample before.b column.shown.b) (is_unmarked column.a) three in
    pair-is before column.shown
    (same-is before.a column.shown.a (and-left (same_sample before.a column.shown.a) (same_sample before.b column.shown.b) two))
    (same-is before.b column.shown.b (and-right (same_sample before.a column.shown.a) (same_sample before.b column.shown.b) two))

-- the lines of a tick
pub next-tick : (seen : Seen) (t : ℕ) (earlier : List Pair) (before : Pair) (column : Column) → AtTick seen t earlier before →
    AtTick (see_all (tick_changes t before column) seen) (suc t) (column.shown ∷ earlier) column.shown
next-tick seen t earlier before column at = go (is_still before column) refl
  where
    go : (b : Bool) → is_still before column ≡ b →
        AtTick (see_all (if b then [] else changes_of t before column) seen) (suc t) (column.shown ∷ earlier) column.shown
    go true e = subst (λ (p : Pair). AtTick seen (suc t) (p ∷ earlier) p) (still-is before column e) (still-tick seen t earlier before at)
    go false e =
        subst (λ (s : Seen). AtTick s (suc t) (column.shown ∷ earlier) column.shown) (sym (changed-seen seen t earlier before column at))
        (at-full t earlier column.shown at.long)

at-same : (s s' : Seen) (t t' : ℕ) (e e' : List Pair) (b b' : Pair) → AtTick s t e b → s ≡ s' → t ≡ t' → e ≡ e' → b ≡ b' → AtTick s' t' e' b'
at-same s s' t t' e e' b b' at p q r u =
    subst (λ (v : Pair). AtTick s' t' e' v) u
    (subst (λ (v : List Pair). AtTick s' t' v b) r (subst (λ v. AtTick s' v e b) q (subst (λ (v : Seen). AtTick v t e b) p at)))

-- ---- all ticks

-- what a tick showed
shown-is : (k : ℕ) (past : List Pair) (t : ℕ) → t < length past → (columns k past t).shown ≡ get_or past (length past - suc t) quiet_pair
shown-is k [] t h = absurd (omega (arith, h))
shown-is k (x ∷ past) t h = elim (cases_lt t (length past)) [
  | inl earlier ↦
      let place : suc (length past) - suc t ≡ suc (length past - suc t) = omega (arith, earlier) in
      shown-earlier k x past t earlier ∙ shown-is k past t earlier ∙ sym (ap (λ i. get_or (x ∷ past) i quiet_pair) place)
  | inr newest ↦
      let same : t ≡ length past = omega (arith, h, newest) in
      let place : suc (length past) - suc t ≡ 0 = omega (arith, same) in
      ap (λ u. (columns k (x ∷ past) u).shown) same ∙ shown-newest k x past ∙ sym (ap (λ i. get_or (x ∷ past) i quiet_pair) place)
]

abbrev start : Seen
start = record { ticks = []; shown = quiet_pair }

drawn-next : (k : ℕ) (x : Pair) (past : List Pair) (b : Bool) → nat_lt (suc (length past)) horizon ≡ b →
    AtTick (see_all (drawn k past) start) (undrawn (length past)) (drop (length past - undrawn (length past)) past)
    (shown_before (columns k past) (undrawn (length past))) →
    AtTick (see_all (drawn k past ++ (if b then [] else changes_at (columns k (x ∷ past)) (suc (length past) - horizon))) start)
    (undrawn (suc (length past))) (drop (suc (length past) - undrawn (suc (length past))) (x ∷ past))
    (shown_before (columns k (x ∷ past)) (undrawn (suc (length past))))
drawn-next k x past true e at =
    let n = length past in
    let short : suc n < 1536 = grind (arith, nat_tests, e) in
    let same : undrawn n ≡ undrawn (suc n) = omega (arith, short) in
    let place : suc n - undrawn (suc n) ≡ suc (n - undrawn n) = omega (arith, short) in
    at-same _ _ _ _ _ _ _ _ at
    (ap (λ cs. see_all cs start) (sym (append-nil (drawn k past))))
    same
    (sym (ap (λ i. drop i (x ∷ past)) place))
    (sym (before-earlier k x past (undrawn n) (omega arith)) ∙ ap (shown_before (columns k (x ∷ past))) same)
drawn-next k x past false e at =
    let n = length past in
    let known = columns k (x ∷ past) in
    let t = suc n - horizon in
    let long : 1536 ≤ suc n = grind (arith, nat_tests, e) in
    let same : undrawn n ≡ t = omega (arith, long) in
    let next : suc t ≡ undrawn (suc n) = omega (arith, long) in
    let more : t + 1 ≡ undrawn (suc n) = omega (arith, long) in
    let place : suc n - undrawn (suc n) ≡ suc n - suc t = omega (arith, long) in
    let within : suc n - suc t < length (x ∷ past) = omega (arith, long) in
    let before : suc (suc n - suc t) ≡ suc (n - undrawn n) = omega (arith, long) in
    let here : AtTick (see_all (drawn k past) start) t (drop (n - undrawn n) past) (shown_before known t) =
    at-same _ _ _ _ _ _ _ _ at refl same refl (sym (before-earlier k x past (undrawn n) (omega arith)) ∙ ap (shown_before known) same) in
    at-same _ _ _ _ _ _ _ _ (next-tick (see_all (drawn k past) start) t (drop (n - undrawn n) past) (shown_before known t) (known t) here)
    (sym (see-append (drawn k past) (changes_at known t) start))
    next
    (ap (λ (p : Pair). p ∷ drop (n - undrawn n) past) (shown-is k (x ∷ past) t (omega (arith, long)))
    ∙ sym (ap (λ i. drop i (x ∷ past)) place ∙ drop-cons (x ∷ past) (suc n - suc t) quiet_pair within
    ∙ ap (λ i. get_or (x ∷ past) (suc n - suc t) quiet_pair ∷ drop i (x ∷ past)) before))
    (before-next known t ∙ ap (shown_before known) more)

drawn-at : (k : ℕ) (past : List Pair) →
    AtTick (see_all (drawn k past) start) (undrawn (length past)) (drop (length past - undrawn (length past)) past)
    (shown_before (columns k past) (undrawn (length past)))
unfolding drawn
drawn-at k [] = record { shown = refl; few = omega arith; long = refl; ticks = refl }
drawn-at k (x ∷ past) = drawn-next k x past (nat_lt (suc (length past)) horizon) refl (drawn-at k past)

left-at : (k : ℕ) (past : List Pair) (m : ℕ) → undrawn (length past) + m ≤ length past →
    AtTick (see_all (changes_from (columns_at_end k past) (undrawn (length past)) m) (see_all (drawn k past) start)) (undrawn (length past) + m)
    (drop (length past - (undrawn (length past) + m)) past) (shown_before (columns_at_end k past) (undrawn (length past) + m))
unfolding changes_from
left-at k past zero h =
    let n = length past in
    let u = undrawn n in
    let same : u ≡ u + 0 = omega arith in
    at-same _ _ _ _ _ _ _ _ (drawn-at k past) refl same (ap (λ t. drop (n - t) past) same)
    (sym (before-at-end k past u (omega arith)) ∙ ap (shown_before (columns_at_end k past)) same)
left-at k past (suc m) h =
    let n = length past in
    let t = undrawn n + m in
    let known = columns_at_end k past in
    let early : t < n = omega (arith, h) in
    let next : suc t ≡ undrawn n + suc m = omega arith in
    let more : t + 1 ≡ undrawn n + suc m = omega arith in
    let within : n - suc t < length past = omega (arith, early) in
    let before : suc (n - suc t) ≡ n - t = omega (arith, early) in
    at-same _ _ _ _ _ _ _ _
    (next-tick (see_all (changes_from known (undrawn n) m) (see_all (drawn k past) start)) t (drop (n - t) past) (shown_before known t) (known t)
    (left-at k past m (omega (arith, early))))
    (sym (see-append (changes_from known (undrawn n) m) (changes_at known t) (see_all (drawn k past) start)))
    next
    (ap (λ (p : Pair). p ∷ drop (n - t) past) (shown-at-end k past t early ∙ shown-is k past t early)
    ∙ sym (ap (λ i. drop (n - i) past) (sym next) ∙ drop-cons past (n - suc t) quiet_pair within
    ∙ ap (λ i. get_or past (n - suc t) quiet_pair ∷ drop i past) before))
    (before-next known t ∙ ap (shown_before known) more)

-- the lines of the end
end-seen : (known : ℕ → Column) (seen : Seen) (t : ℕ) (earlier : List Pair) (before : Pair) → AtTick seen t earlier before →
    (see_all (end_changes known t) seen).ticks ≡ earlier
end-seen known seen t earlier before at =
    let ma = mark_changes A (known t).a in
    let mb = mark_changes B (known t).b in
    ap (λ (s : Seen). s.ticks) (
    see-append (time_change t ++ ma) mb seen
    ∙ marks-say-nothing B (known t).b (see_all (time_change t ++ ma) seen)
    ∙ see-append (time_change t) ma seen
    ∙ marks-say-nothing A (known t).a (see_all (time_change t) seen)
    ∙ timed seen t earlier before at)

pub found-again : (k : ℕ) (past : List Pair) → ticks_of (wave_changes k past) ≡ past
found-again k past =
    let n = length past in
    let u = undrawn n in
    let known = columns_at_end k past in
    let m = n - u in
    let s0 = see_all (drawn k past) start in
    let all : u + m ≡ n = omega arith in
    let none : n - (u + m) ≡ 0 = omega arith in
    let at : AtTick (see_all (changes_from known u m) s0) n past (shown_before known n) =
    at-same _ _ _ _ _ _ _ _ (left-at k past m (omega arith)) refl all (ap (λ i. drop i past) none) (ap (shown_before known) all) in
    ap (λ (s : Seen). s.ticks) (see-append (drawn k past) (changes_left known n) start ∙ see-append (changes_from known u m) (end_changes known n) s0)
    ∙ end-seen known (see_all (changes_from known u m) s0) n past (shown_before known n) at
