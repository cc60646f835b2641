-- What is kept of each tick, and what is drawn of it.
use Rattle.std.proofs.Common.{◌≡◌, ℕ, zero, suc, ◌+◌, ◌-◌, ◌<◌, ◌≤◌, List, [], ◌∷◌, ◌++◌, length, refl, ap, sym, ◌∙◌, subst, append_assoc, append-nil, length-append, inl, inr, arith}
use Rattle.std.specs.Prelude.{true, false, ◌==◌, if◌then◌else◌, nat_lt}
use Rattle.std.proofs.lemmas.Bool.Decides.{nat_tests}
use Rattle.std.proofs.lemmas.Bool.{cases_Bool}
use Rattle.bus_base.specs.Samples.{quiet_pair}
use Rattle.bus_base.specs.declared.samples.Channel.{Channel}
use Rattle.bus_base.specs.declared.samples.Channel.TheVariants.{A, B}
use Rattle.bus_base.specs.declared.samples.Pair.{Pair}
use Rattle.bus_line.specs.Channels.{on_channel}
use Rattle.bus_wave.specs.Delays.{is_open, kept, open_after, open_after_all}
use Rattle.bus_wave.specs.Drawers.{text_to}
use Rattle.bus_wave.specs.Marks.{Change, column_of, column_with, tick_changes}
use Rattle.bus_wave.specs.Texts.{changes_text, head_text}
use Rattle.bus_wave.specs.Told.{Told, told_last}
use Rattle.bus_wave.specs.Waves.{after, after_all, begun, changes_at, changes_from, columns, columns_at_end, drawn, drawn_now, horizon, shown_before, told_on, undrawn, wave_so_far}
use Rattle.bus_wave.specs.declared.marks.Column.{Column}
use Rattle.bus_wave.proofs.ColumnLaws.{begun-other, shown-before-by, shown-earlier}
use Rattle.bus_wave.proofs.TextLaws.{changes-append}

-- ---- marks of ticks that are open, and of old ones

open-one : (ticks : ℕ) (c : Channel) (told : Told) (known : ℕ → Column) (t : ℕ) → is_open ticks t ≡ true → open_after ticks c told known t ≡ after c told known t
open-one ticks c told known t h = ap (λ b. if b then after c told known t else known t) h

after-same : (c : Channel) (told : Told) (known other : ℕ → Column) (t : ℕ) → known t ≡ other t → after c told known t ≡ after c told other t
after-same c told known other t same = ap (λ (column : Column). if t == told.tick then column_with c told.mark column else column) same

pub open-live : (ticks : ℕ) (c : Channel) (told : List Told) (known other : ℕ → Column) (t : ℕ) → is_open ticks t ≡ true → known t ≡ other t →
    open_after_all ticks c told known t ≡ after_all c told other t
open-live ticks c [] known other t h same = same
open-live ticks c (x ∷ xs) known other t h same =
    open-live ticks c xs (open_after ticks c x known) (after c x other) t h (open-one ticks c x known t h ∙ after-same c x known other t same)

pub open-old : (ticks : ℕ) (c : Channel) (told : List Told) (known : ℕ → Column) (t : ℕ) → is_open ticks t ≡ false → open_after_all ticks c told known t ≡ known t
open-old ticks c [] known t h = refl
open-old ticks c (x ∷ xs) known t h =
    open-old ticks c xs (open_after ticks c x known) t h ∙ ap (λ b. if b then after c x known t else known t) h

-- ---- what is kept

pub kept-open : (k : ℕ) (x : Pair) (past : List Pair) (t : ℕ) → is_open (suc (length past)) t ≡ true → kept k (x ∷ past) t ≡ columns k (x ∷ past) t
unfolding kept
kept-open k x past t h = ap (λ b. if b then columns k (x ∷ past) t else kept k past t) h

pub kept-old : (k : ℕ) (x : Pair) (past : List Pair) (t : ℕ) → is_open (suc (length past)) t ≡ false → kept k (x ∷ past) t ≡ kept k past t
unfolding kept
kept-old k x past t h = ap (λ b. if b then columns k (x ∷ past) t else kept k past t) h

kept-none : (k t : ℕ) → kept k [] t ≡ columns k [] t
unfolding kept columns
kept-none k t = refl

-- of a tick that isn't due before the next one it is what is known
pub kept-live : (k : ℕ) (past : List Pair) (t : ℕ) → length past ≤ t + horizon → kept k past t ≡ columns k past t
kept-live k [] t h = kept-none k t
kept-live k (x ∷ past) t h = kept-open k x past t (grind (arith, nat_tests, h))

-- of one that was due, it stays
pub kept-stays : (k : ℕ) (more past : List Pair) (t : ℕ) → t + horizon ≤ length past → kept k (more ++ past) t ≡ kept k past t
kept-stays k [] past t h = refl
kept-stays k (x ∷ more) past t h =
    let long : length (more ++ past) ≡ length more + length past = length-append more past in
    kept-old k x (more ++ past) t (grind (arith, nat_tests, h, long)) ∙ kept-stays k more past t h

pub kept-shown : (k : ℕ) (past : List Pair) (t : ℕ) → t < length past → (kept k past t).shown ≡ (columns k past t).shown
kept-shown k [] t h = absurd (omega (arith, h))
kept-shown k (x ∷ past) t h = elim (cases_Bool (is_open (suc (length past)) t)) [
  | inl on ↦ ap (λ (c : Column). c.shown) (kept-open k x past t on)
  | inr off ↦ (
      let early : t < length past = grind (arith, nat_tests, off) in
      ap (λ (c : Column). c.shown) (kept-old k x past t off) ∙ kept-shown k past t early ∙ sym (shown-earlier k x past t early)
      )
]

pub before-kept : (k : ℕ) (past : List Pair) (t : ℕ) → t ≤ length past → shown_before (kept k past) t ≡ shown_before (columns k past) t
before-kept k past t h =
    shown-before-by (t == 0) (kept k past) (columns k past) t (λ some. kept-shown k past (t - 1) (grind (arith, nat_tests, some, h)))

-- ---- a tick more, and the end

begun-same : (n : ℕ) (x : Pair) (known other : ℕ → Column) (t : ℕ) → known t ≡ other t → begun n x known t ≡ begun n x other t
begun-same n x known other t same = ap (λ (column : Column). if t == n then column_of x else column) same

columns-are : (k : ℕ) (x : Pair) (past : List Pair) (t : ℕ) →
    after_all B (told_on k B x past) (after_all A (told_on k A x past) (begun (length past) x (columns k past))) t ≡ columns k (x ∷ past) t
unfolding columns
columns-are k x past t = refl

ends-are : (k : ℕ) (past : List Pair) (t : ℕ) →
    after_all B (told_last k (on_channel B past)) (after_all A (told_last k (on_channel A past)) (begun (length past) quiet_pair (columns k past))) t
    ≡ columns_at_end k past t
unfolding columns_at_end
ends-are k past t = refl

module _ (k : ℕ) (past : List Pair) (x : Pair) (on-a on-b : List Told) where
  -- what the marks of a new tick make of what is kept
  abbrev pub with-marks : ℕ → Column
  with-marks = open_after_all (suc (length past)) B on-b (open_after_all (suc (length past)) A on-a (begun (length past) x (kept k past)))

  pub marks-live : (t : ℕ) → is_open (suc (length past)) t ≡ true →
      with-marks t ≡ after_all B on-b (after_all A on-a (begun (length past) x (columns k past))) t
  marks-live t on =
      let near : length past ≤ t + horizon = grind (arith, nat_tests, on) in
      open-live (suc (length past)) B on-b (open_after_all (suc (length past)) A on-a (begun (length past) x (kept k past)))
      (after_all A on-a (begun (length past) x (columns k past))) t on
      (open-live (suc (length past)) A on-a (begun (length past) x (kept k past)) (begun (length past) x (columns k past)) t on
      (begun-same (length past) x (kept k past) (columns k past) t (kept-live k past t near)))

  pub marks-old : (t : ℕ) → is_open (suc (length past)) t ≡ false → with-marks t ≡ kept k past t
  marks-old t off =
      let early : t < length past = grind (arith, nat_tests, off) in
      open-old (suc (length past)) B on-b (open_after_all (suc (length past)) A on-a (begun (length past) x (kept k past))) t off
      ∙ open-old (suc (length past)) A on-a (begun (length past) x (kept k past)) t off
      ∙ begun-other (length past) t x (kept k past) early

pub kept-next : (k : ℕ) (x : Pair) (past : List Pair) (t : ℕ) → with-marks k past x (told_on k A x past) (told_on k B x past) t ≡ kept k (x ∷ past) t
kept-next k x past t = elim (cases_Bool (is_open (suc (length past)) t)) [
  | inl on ↦ marks-live k past x (told_on k A x past) (told_on k B x past) t on ∙ columns-are k x past t ∙ sym (kept-open k x past t on)
  | inr off ↦ marks-old k past x (told_on k A x past) (told_on k B x past) t off ∙ sym (kept-old k x past t off)
]

pub ended-next : (k : ℕ) (past : List Pair) (t : ℕ) → length past < t + horizon →
    with-marks k past quiet_pair (told_last k (on_channel A past)) (told_last k (on_channel B past)) t ≡ columns_at_end k past t
ended-next k past t near =
    marks-live k past quiet_pair (told_last k (on_channel A past)) (told_last k (on_channel B past)) t (grind (arith, nat_tests, near)) ∙ ends-are k past t

-- a tick that tells nothing
pub kept-still : (k : ℕ) (x : Pair) (past : List Pair) (t : ℕ) → told_on k A x past ≡ [] → told_on k B x past ≡ [] →
    begun (length past) x (kept k past) t ≡ kept k (x ∷ past) t
kept-still k x past t none-a none-b =
    subst (λ told. with-marks k past x [] told t ≡ kept k (x ∷ past) t) none-b
    (subst (λ told. with-marks k past x told (told_on k B x past) t ≡ kept k (x ∷ past) t) none-a (kept-next k x past t))

-- ---- lines of ticks

changes-at-same : (known other : ℕ → Column) (t : ℕ) → known t ≡ other t → shown_before known t ≡ shown_before other t → changes_at known t ≡ changes_at other t
changes-at-same known other t now before =
    ap (λ (p : Pair). tick_changes t p (known t)) before ∙ ap (λ (c : Column). tick_changes t (shown_before other t) c) now

before-same : (known other : ℕ → Column) (t : ℕ) → known (t - 1) ≡ other (t - 1) → shown_before known t ≡ shown_before other t
before-same known other t same = ap (λ (c : Column). if t == 0 then quiet_pair else c.shown) same

pub changes-same : (known other : ℕ → Column) (first n : ℕ) → ((t : ℕ) → t < first + n → known t ≡ other t) →
    changes_from known first n ≡ changes_from other first n
unfolding changes_from
changes-same known other first zero same = refl
changes-same known other first (suc n) same =
    ap (λ (cs : List Change). cs ++ changes_at known (first + n)) (changes-same known other first n (λ t h. same t (omega (arith, h))))
    ∙ ap (λ (cs : List Change). changes_from other first n ++ cs)
    (changes-at-same known other (first + n) (same (first + n) (omega arith)) (before-same known other (first + n) (same ((first + n) - 1) (omega arith))))

pub changes-parts : (known : ℕ → Column) (first n m : ℕ) → changes_from known first (n + m) ≡ changes_from known first n ++ changes_from known (first + n) m
unfolding changes_from
changes-parts known first n zero =
    let all : n + 0 ≡ n = omega arith in
    ap (changes_from known first) all ∙ sym (append-nil (changes_from known first n))
changes-parts known first n (suc m) =
    let next : n + suc m ≡ suc (n + m) = omega arith in
    let place : first + (n + m) ≡ (first + n) + m = omega arith in
    ap (changes_from known first) next
    ∙ ap (λ (cs : List Change). cs ++ changes_at known (first + (n + m))) (changes-parts known first n m)
    ∙ ap (λ t. (changes_from known first n ++ changes_from known (first + n) m) ++ changes_at known t) place
    ∙ append_assoc (changes_from known first n) (changes_from known (first + n) m) (changes_at known ((first + n) + m))

-- ---- what was drawn

drawn-more : (k : ℕ) (x : Pair) (past : List Pair) → drawn k (x ∷ past) ≡ drawn k past ++ drawn_now k (x ∷ past)
unfolding drawn
drawn-more k x past = refl

drawn-none : (k : ℕ) → drawn k [] ≡ changes_from (kept k []) 0 0
unfolding drawn changes_from
drawn-none k = refl

none-from : (known other : ℕ → Column) (n m : ℕ) → n ≡ 0 → m ≡ 0 → changes_from known 0 n ≡ changes_from other 0 m
unfolding changes_from
none-from known other n m a b = rw (a, b) refl

more-from : (known : ℕ → Column) (n : ℕ) → changes_from known 0 (suc n) ≡ changes_from known 0 n ++ changes_at known n
unfolding changes_from
more-from known n = let same : 0 + n ≡ n = omega arith in ap (λ t. changes_from known 0 n ++ changes_at known t) same

-- the lines so far are those of what is kept
pub drawn-kept : (k : ℕ) (past : List Pair) → drawn k past ≡ changes_from (kept k past) 0 (undrawn (length past))
drawn-kept k [] = drawn-none k
drawn-kept k (x ∷ past) = elim (cases_Bool (nat_lt (suc (length past)) horizon)) [
  | inl few ↦ (
      let now : undrawn (suc (length past)) ≡ 0 = grind (arith, nat_tests, few) in
      let before : undrawn (length past) ≡ 0 = grind (arith, nat_tests, few) in
      drawn-more k x past
      ∙ ap (λ b. drawn k past ++ (if b then [] else changes_at (columns k (x ∷ past)) (suc (length past) - horizon))) few
      ∙ append-nil (drawn k past) ∙ drawn-kept k past
      ∙ none-from (kept k past) (kept k (x ∷ past)) (undrawn (length past)) (undrawn (suc (length past))) before now
      )
  | inr many ↦ (
      let m : ℕ = undrawn (length past) in
      let long : 1536 ≤ suc (length past) = grind (arith, nat_tests, many) in
      let due : suc (length past) - horizon ≡ m = omega (arith, long) in
      let next : undrawn (suc (length past)) ≡ suc m = omega (arith, long) in
      let here : is_open (suc (length past)) m ≡ true = grind (arith, nat_tests, long) in
      let known : ℕ → Column = kept k (x ∷ past) in
      drawn-more k x past
      ∙ ap (λ b. drawn k past ++ (if b then [] else changes_at (columns k (x ∷ past)) (suc (length past) - horizon))) many
      ∙ ap (λ t. drawn k past ++ changes_at (columns k (x ∷ past)) t) due
      ∙ ap (λ (cs : List Change). cs ++ changes_at (columns k (x ∷ past)) m) (drawn-kept k past)
      ∙ ap (λ (cs : List Change). cs ++ changes_at (columns k (x ∷ past)) m)
      (changes-same (kept k past) known 0 m (λ t h. sym (kept-old k x past t (grind (arith, nat_tests, h, long)))))
      ∙ ap (λ (cs : List Change). changes_from known 0 m ++ cs)
      (sym (changes-at-same known (columns k (x ∷ past)) m (kept-open k x past m here) (before-kept k (x ∷ past) m (omega (arith, long)))))
      ∙ sym (more-from known m)
      ∙ ap (changes_from known 0) (sym next)
      )
]

-- ---- texts

pub text-more : (known : ℕ → Column) (a b : ℕ) → a ≤ b → text_to known a ++ changes_text (changes_from known a (b - a)) ≡ text_to known b
text-more known a b h =
    let all : a + (b - a) ≡ b = omega (arith, h) in
    let place : 0 + a ≡ a = omega arith in
    append_assoc head_text (changes_text (changes_from known 0 a)) (changes_text (changes_from known a (b - a)))
    ∙ ap (λ t. head_text ++ t) (sym (changes-append (changes_from known 0 a) (changes_from known a (b - a))))
    ∙ ap (λ f. head_text ++ changes_text (changes_from known 0 a ++ changes_from known f (b - a))) (sym place)
    ∙ ap (λ (cs : List Change). head_text ++ changes_text cs) (sym (changes-parts known 0 a (b - a)))
    ∙ ap (text_to known) all

pub text-kept : (k : ℕ) (past : List Pair) → text_to (kept k past) (undrawn (length past)) ≡ wave_so_far k past
unfolding wave_so_far
text-kept k past = ap (λ (cs : List Change). head_text ++ changes_text cs) (sym (drawn-kept k past))

pub text-same : (known other : ℕ → Column) (n : ℕ) → ((t : ℕ) → t < n → known t ≡ other t) → text_to known n ≡ text_to other n
text-same known other n same =
    ap (λ (cs : List Change). head_text ++ changes_text cs) (changes-same known other 0 n (λ t h. same t (omega (arith, h))))

pub before-stays : (k : ℕ) (more past : List Pair) → shown_before (kept k (more ++ past)) (undrawn (length past)) ≡ shown_before (kept k past) (undrawn (length past))
before-stays k more past =
    shown-before-by (undrawn (length past) == 0) (kept k (more ++ past)) (kept k past) (undrawn (length past))
    (λ some. ap (λ (c : Column). c.shown) (kept-stays k more past (undrawn (length past) - 1) (grind (arith, nat_tests, some))))

pub text-stays : (k : ℕ) (more past : List Pair) → text_to (kept k (more ++ past)) (undrawn (length past)) ≡ wave_so_far k past
text-stays k more past =
    text-same (kept k (more ++ past)) (kept k past) (undrawn (length past)) (λ t h. kept-stays k more past t (omega (arith, h))) ∙ text-kept k past
