-- Bad words and gaps, with a tick more.
use Rattle.std.proofs.Common.{◌≡◌, ℕ, suc, ◌+◌, ◌-◌, ◌*◌, ◌/◌, ◌<◌, ◌≤◌, Bool, true, false, List, [], ◌∷◌, ◌++◌, length, drop, Option, Some, None, refl, ap, ◌∙◌, arith}
use Rattle.std.specs.Prelude.{nat_lt, ◌==◌, if◌then◌else◌}
use Rattle.std.specs.Option.{option_or}
use Rattle.std.proofs.lemmas.Bool.Decides.{nat_tests}
use Rattle.bus_base.specs.declared.samples.Sample.{Sample}
use Rattle.bus_base.specs.declared.samples.Pair.{Pair}
use Rattle.bus_words.specs.declared.word.Word.{Word}
use Rattle.bus_line.specs.Past.{runs, stopped, first_tick}
use Rattle.bus_line.specs.Channels.{quiet_both, both_quiet}
use Rattle.bus_line.specs.Cutting.{running_slots}
use Rattle.bus_line.proofs.SlotLaws.{samples-more, slots-count}
use Rattle.bus_line.proofs.CollectLaws.{running-on}
use Rattle.bus_line.proofs.PastLaws.{runs-parts, first_tick-lt}
use Rattle.bus_table.specs.Exchanges.{gap_now, gap_before}
use Rattle.bus_table.specs.Flaws.{slot_flaw, bad_slot, bad_slots}
use Rattle.bus_table.specs.Notes.{gap_at}
use Rattle.bus_table.specs.declared.flaw.BadWord.{BadWord}

-- ---- options

pub or-none : (o : Option BadWord) → option_or o None ≡ o
or-none None = refl
or-none (Some bad) = refl

pub or-assoc : (a b c : Option BadWord) → option_or a (option_or b c) ≡ option_or (option_or a b) c
or-assoc None b c = refl
or-assoc (Some bad) b c = refl

-- ---- bad words

slot-more : (x : Sample) (past : List Sample) (p : ℕ) (word : Option Word) → p + 40 ≤ length past → bad_slot (x ∷ past) p word ≡ bad_slot past p word
slot-more x past p (Some word) fits = refl
slot-more x past p None fits = ap (λ xs. Some (record { at = p; flaw = slot_flaw xs })) (samples-more x past p 40 fits)

-- a tick more changes no slot before it
pub bad-more : (x : Sample) (past : List Sample) (p : ℕ) (slots : List (Option Word)) → p + 40 * length slots ≤ length past →
    bad_slots (x ∷ past) p slots ≡ bad_slots past p slots
bad-more x past p [] fits = refl
bad-more x past p (word ∷ slots) fits =
    ap (λ b. option_or b (bad_slots (x ∷ past) (p + 40) slots)) (slot-more x past p word (omega (arith, fits)))
    ∙ ap (option_or (bad_slot past p word)) (bad-more x past (p + 40) slots (omega (arith, fits)))

-- the first bad one of the slots and one more
pub bad-append : (past : List Sample) (p : ℕ) (slots : List (Option Word)) (word : Option Word) →
    bad_slots past p (slots ++ word ∷ []) ≡ option_or (bad_slots past p slots) (bad_slot past (p + 40 * length slots) word)
bad-append past p [] word =
    let e : p ≡ p + 40 * 0 = omega arith in
    or-none (bad_slot past p word) ∙ ap (λ q. bad_slot past q word) e
bad-append past p (slot ∷ slots) word =
    let e : p + 40 + 40 * length slots ≡ p + 40 * suc (length slots) = omega arith in
    ap (option_or (bad_slot past p slot)) (bad-append past (p + 40) slots word)
    ∙ or-assoc (bad_slot past p slot) (bad_slots past (p + 40) slots) (bad_slot past (p + 40 + 40 * length slots) word)
    ∙ ap (λ q. option_or (option_or (bad_slot past p slot) (bad_slots past (p + 40) slots)) (bad_slot past q word)) e

-- the slots of the burst that runs are before the tick to come
pub slots-within : (k : ℕ) (past : List Sample) → runs k past ≡ true → first_tick k past + 40 * length (running_slots k past) ≤ length past
slots-within k past on =
    let count : length (running_slots k past) ≡ (stopped past - first_tick k past) / 40 =
    ap length (running-on k past on) ∙ slots-count past (first_tick k past) (stopped past - first_tick k past) in
    let less : first_tick k past < stopped past = first_tick-lt k past (runs-parts k past on).0 in
    omega (arith, count, less)

pub first-within : (k : ℕ) (past : List Sample) → runs k past ≡ true → first_tick k past < length past
first-within k past on =
    let less : first_tick k past < stopped past = first_tick-lt k past (runs-parts k past on).0 in
    omega (arith, less)

-- ---- gaps

-- a tick more changes no gap before it
pub gap-more : (shown : Pair) (past : List Pair) (tick : ℕ) → tick ≤ length past → gap_before (shown ∷ past) tick ≡ gap_before past tick
gap-more shown past tick fits =
    let at : suc (length past) - tick ≡ suc (length past - tick) = omega (arith, fits) in
    ap (λ n. gap_now (drop n (shown ∷ past))) at

-- the gap up to the newest tick
pub gap-here : (shown : Pair) (past : List Pair) → gap_before (shown ∷ past) (length past) ≡ gap_now past
gap-here shown past =
    let at : suc (length past) - length past ≡ 1 = omega arith in
    ap (λ n. gap_now (drop n (shown ∷ past))) at

both-if : (b : Bool) (n m : ℕ) → n ≤ m → (if b then suc n else 0) ≤ suc m
both-if true n m h = omega (arith, h)
both-if false n m h = omega arith

pub both-le : (past : List Pair) → quiet_both past ≤ length past
both-le [] = omega arith
both-le (shown ∷ past) = both-if (both_quiet shown) (quiet_both past) (length past) (both-le past)

-- the gap by the tick after the last in which either channel wasn't quiet
by-test : (q l : ℕ) → q ≤ l → (if l - q == 0 then None else Some (l - (l - q) + 4)) ≡ (if nat_lt q l then Some (q + 4) else None)
by-test q l h = go (nat_lt q l) refl
  where
    go : (b : Bool) → nat_lt q l ≡ b → (if l - q == 0 then None else Some (l - (l - q) + 4)) ≡ (if b then Some (q + 4) else None)
    go true less =
        let some : (l - q == 0) ≡ false = grind (arith, nat_tests, less) in
        let e : l - (l - q) ≡ q = omega (arith, h) in
        rw (some, e) refl
    go false more =
        let none : (l - q == 0) ≡ true = grind (arith, nat_tests, more) in
        rw none refl

pub gap-at : (past : List Pair) (ticks stop : ℕ) → ticks ≡ length past → stop ≡ length past - quiet_both past → gap_at ticks stop ≡ gap_now past
gap-at past ticks stop t s =
    ap (λ n. gap_at n stop) t ∙ ap (gap_at (length past)) s ∙ by-test (quiet_both past) (length past) (both-le past)
