-- The messages that are drawn have the ranges of a plan, and name terminals alone.
use Rattle.std.proofs.Common.{◌≡◌, ℕ, zero, suc, ◌+◌, ◌-◌, ◌/◌, ◌%◌, ◌<◌, ◌≤◌, Bool, true, false, List, [], ◌∷◌, ◌++◌, length, arith, refl, sym, ap, ◌∙◌, inl, Option, None, Some}
use Rattle.std.specs.Prelude.{◌≢◌, ◌==◌, if◌then◌else◌, All, AllPairs, IsSome}
use Rattle.std.proofs.lemmas.List.Elements.{All-nil, All-cons}
use Rattle.std.proofs.Math.Nat.{mod-lt, mod-eq_of_lt}
use Rattle.std.proofs.lemmas.List.{append_assoc}
use Rattle.std.proofs.lemmas.Bool.Decides.{nat_tests}
use Rattle.bus_formats.specs.Accepted.{AreWords, HasReceiveRanges, HasTransmitRanges, HasModeRanges, HasKindRanges, HasItemRanges, addresses_named, words_sent, HasSuperseding}
use Rattle.bus_formats.specs.Codes.{transmit_status_word}
use Rattle.bus_formats.specs.Forms.{form_of}
use Rattle.bus_formats.specs.Plans.{ItemData}
use Rattle.bus_formats.specs.declared.plan.Kind.{Kind}
use Rattle.bus_formats.specs.declared.plan.Kind.TheVariants.{Receive, Transmit, Relay, Mode}
use Rattle.bus_bench.specs.Generated.{address_in, sub_in, count_in, words_from, kind_of, item_with, items_from, upper, drawn_after}

below-31 : (bits : ℕ) → address_in bits < 31
below-31 bits = mod-lt bits (omega arith)

next-below-31 : (bits : ℕ) → (address_in bits + 1) % 31 < 31
next-below-31 bits = mod-lt (address_in bits + 1) (omega arith)

sub-within : (bits : ℕ) → sub_in bits ≤ 29
sub-within bits = let some : 0 < 29 = omega arith in let low = mod-lt bits some in omega (arith, low)

count-within : (bits : ℕ) → count_in bits ≤ 32
count-within bits = let some : 0 < 32 = omega arith in let low = mod-lt (bits / 31) some in omega (arith, low)

-- the next terminal is another one
apart : (a : ℕ) → a < 31 → a ≢ (a + 1) % 31
apart a below same = omega (arith, below, same)

words-length : (first count : ℕ) → length (words_from first count) ≡ count
words-length first zero = refl
words-length first (suc count) = ap suc (words-length (suc first) count)

are-words : (first count : ℕ) → AreWords (words_from first count)
are-words first zero = All-nil (λ w. w < 65536)
are-words first (suc count) = All-cons (λ w. w < 65536) (first % 65536) (words_from (suc first) count) (mod-lt first (omega arith)) (are-words (suc first) count)

-- what holds of four kinds holds of whichever is taken
any-of : (P : Kind → Type 0) (first second third : Bool) (a b c d : Kind) → P a → P b → P c → P d →
    P (if first then a else if second then b else if third then c else d)
any-of P true second third a b c d of-a of-b of-c of-d = of-a
any-of P false true third a b c d of-a of-b of-c of-d = of-b
any-of P false false true a b c d of-a of-b of-c of-d = of-c
any-of P false false false a b c d of-a of-b of-c of-d = of-d

-- what holds of a message of each kind holds of each message
pub by-kind : (P : Kind → Type 0) (n bits : ℕ) → P (Receive (address_in bits) (sub_in bits) (words_from bits (count_in bits))) →
    P (Transmit (address_in bits) (sub_in bits) (count_in bits)) →
    P (Relay (address_in bits) (sub_in bits) ((address_in bits + 1) % 31) (sub_in bits) (count_in bits)) →
    P (Mode (address_in bits) 0 true transmit_status_word None) → P (kind_of n bits)
by-kind P n bits = any-of P (n % 4 == 0) (n % 4 == 1) (n % 4 == 2) _ _ _ _

module _ (bits : ℕ) where
  data-ranges : HasTransmitRanges (address_in bits) (sub_in bits) (count_in bits)
  data-ranges =
      let a = below-31 bits in let s = sub-within bits in let c = count-within bits in
      record {
        address = omega (arith, a);
        subaddress = (omega arith, omega (arith, s));
        words = (omega arith, c);
      }

  receive-ranges : (to count : ℕ) → to < 31 → count ≡ count_in bits → HasReceiveRanges to (sub_in bits) count
  receive-ranges to count below is =
      let s = sub-within bits in let c = count-within bits in
      record {
        address = omega (arith, below);
        subaddress = (omega arith, omega (arith, s));
        words = (omega (arith, is), omega (arith, is, c));
      }

  mode-ranges : HasModeRanges (address_in bits) 0 transmit_status_word
  mode-ranges = let a = below-31 bits in record { address = omega (arith, a); subaddress = inl refl; mode = omega arith }

pub kind-ranges : (n bits : ℕ) → HasKindRanges (kind_of n bits)
kind-ranges n bits = by-kind HasKindRanges n bits
    (receive-ranges bits (address_in bits) _ (below-31 bits) (words-length bits (count_in bits)))
    (data-ranges bits)
    (data-ranges bits, receive-ranges bits ((address_in bits + 1) % 31) (count_in bits) (next-below-31 bits) refl)
    (mode-ranges bits)

no-words : AreWords []
no-words = All-nil (λ w. w < 65536)

pub are-words-sent : (n bits : ℕ) → AreWords (words_sent (kind_of n bits))
are-words-sent n bits = by-kind (λ kind. AreWords (words_sent kind)) n bits (are-words bits (count_in bits)) no-words no-words no-words

one-terminal : (bits : ℕ) → All (λ a. a < 31) (address_in bits ∷ [])
one-terminal bits = All-cons (λ a. a < 31) (address_in bits) [] (below-31 bits) (All-nil (λ a. a < 31))

next-terminal : (bits : ℕ) → All (λ a. a < 31) ((address_in bits + 1) % 31 ∷ [])
next-terminal bits = All-cons (λ a. a < 31) ((address_in bits + 1) % 31) [] (next-below-31 bits) (All-nil (λ a. a < 31))

-- each names terminals alone, and an RT-to-RT transfer two
pub names-terminals : (n bits : ℕ) → All (λ a. a < 31) (addresses_named (kind_of n bits))
names-terminals n bits = by-kind (λ kind. All (λ a. a < 31) (addresses_named kind)) n bits (one-terminal bits) (one-terminal bits)
    (All-cons (λ a. a < 31) (address_in bits) ((address_in bits + 1) % 31 ∷ []) (below-31 bits) (next-terminal bits)) (one-terminal bits)

alone : (a : ℕ) → AllPairs (λ a b. a ≢ b) (a ∷ [])
alone a i j d before within = absurd (omega (arith, before, within))

two-apart : (a b : ℕ) → a ≢ b → AllPairs (λ a b. a ≢ b) (a ∷ b ∷ [])
two-apart a b apart zero (suc zero) d before within = apart
two-apart a b apart zero zero d before within = absurd (omega (arith, before))
two-apart a b apart zero (suc (suc j)) d before within = absurd (omega (arith, within))
two-apart a b apart (suc i) j d before within = absurd (omega (arith, before, within))

pub names-apart : (n bits : ℕ) → AllPairs (λ a b. a ≢ b) (addresses_named (kind_of n bits))
names-apart n bits = by-kind (λ kind. AllPairs (λ a b. a ≢ b) (addresses_named kind)) n bits (alone (address_in bits)) (alone (address_in bits))
    (two-apart (address_in bits) ((address_in bits + 1) % 31) (apart (address_in bits) (below-31 bits))) (alone (address_in bits))

mode-form : (a : ℕ) → a < 31 → IsSome (form_of (Mode a 0 true transmit_status_word None))
mode-form a below = let test : a == 31 ≡ a == 31 = refl in grind (arith, nat_tests, below)

pub has-form : (n bits : ℕ) → IsSome (form_of (kind_of n bits))
has-form n bits = by-kind (λ kind. IsSome (form_of kind)) n bits refl refl refl (mode-form (address_in bits) (below-31 bits))

-- ---- all of them

pub item-ranges : (n bits : ℕ) → HasItemRanges (item_with (kind_of n bits))
item-ranges n bits = record {
  kind = kind-ranges n bits;
  words = are-words-sent n bits;
  gap = (omega arith, omega arith);
  retry = omega arith;
  abandon = tt;
}

pub all-ranges : (n drawn count : ℕ) → All HasItemRanges (items_from n drawn count)
all-ranges n drawn zero = All-nil HasItemRanges
all-ranges n drawn (suc count) =
    All-cons HasItemRanges (item_with (kind_of n (upper (drawn_after drawn)))) (items_from (suc n) (drawn_after drawn) count) (item-ranges n (upper (drawn_after drawn))) (all-ranges (suc n) (drawn_after drawn) count)

pub how-many-items : (n drawn count : ℕ) → length (items_from n drawn count) ≡ count
how-many-items n drawn zero = refl
how-many-items n drawn (suc count) = ap suc (how-many-items (suc n) (drawn_after drawn) count)

-- no answer is given up
pub none-abandoned : (n drawn count : ℕ) → HasSuperseding (items_from n drawn count)
none-abandoned n drawn zero = tt
none-abandoned n drawn (suc count) = (λ some. let bad : false ≡ true = some in cc, none-abandoned (suc n) (drawn_after drawn) count)

-- one word more, before those that are still to come
pub next-word : (done : List ℕ) (first i count : ℕ) → i < count → first + i < 65536 →
    (done ++ (first + i) ∷ []) ++ words_from (first + (i + 1)) (count - (i + 1)) ≡ done ++ words_from (first + i) (count - i)
next-word done first i count within fits =
    let left : count - i ≡ suc (count - (i + 1)) = omega (arith, within) in
    let next : first + (i + 1) ≡ suc (first + i) = omega arith in
    let word : (first + i) % 65536 ≡ first + i = mod-eq_of_lt fits in
    append_assoc done ((first + i) ∷ []) (words_from (first + (i + 1)) (count - (i + 1)))
    ∙ ap (λ rest. done ++ rest) (ap (λ n. (first + i) ∷ words_from n (count - (i + 1))) next ∙ ap (λ w. w ∷ words_from (suc (first + i)) (count - (i + 1))) (sym word)
    ∙ ap (words_from (first + i)) (sym left))

-- the same where that word was pushed
pub word-pushed : (done now : List ℕ) (first i count value : ℕ) → i < count → count ≤ 32 → first < 32768 → value ≡ first + i → now ≡ done ++ value ∷ [] →
    done ++ words_from (first + i) (count - i) ≡ words_from first count → now ++ words_from (first + (i + 1)) (count - (i + 1)) ≡ words_from first count
word-pushed done now first i count value within few fits is pushed whole =
    ap (λ xs. xs ++ words_from (first + (i + 1)) (count - (i + 1))) (pushed ∙ ap (λ w. done ++ w ∷ []) is)
    ∙ next-word done first i count within (omega (arith, within, few, fits)) ∙ whole

-- ---- messages one by one

-- one message more, before those that are still to come
pub item-pushed : (done now : List ItemData) (item : ItemData) (i drawn next number count : ℕ) → i < count → next ≡ drawn_after drawn →
    item ≡ item_with (kind_of (i + 1) (upper next)) → now ≡ done ++ item ∷ [] →
    done ++ items_from (i + 1) drawn (count - i) ≡ items_from 1 number count →
    now ++ items_from (i + 1 + 1) next (count - (i + 1)) ≡ items_from 1 number count
item-pushed done now item i drawn next number count within drew is pushed whole =
    let left : count - i ≡ suc (count - (i + 1)) = omega (arith, within) in
    let later : i + 1 + 1 ≡ suc (i + 1) = omega arith in
    let same : item ∷ items_from (i + 1 + 1) next (count - (i + 1)) ≡ items_from (i + 1) drawn (count - i) =
    ap (λ n. item ∷ items_from n next (count - (i + 1))) later ∙ ap (λ it. it ∷ items_from (suc (i + 1)) next (count - (i + 1))) is
    ∙ ap (λ x. item_with (kind_of (i + 1) (upper x)) ∷ items_from (suc (i + 1)) x (count - (i + 1))) drew ∙ ap (items_from (i + 1) drawn) (sym left) in
    ap (λ xs. xs ++ items_from (i + 1 + 1) next (count - (i + 1))) pushed
    ∙ append_assoc done (item ∷ []) (items_from (i + 1 + 1) next (count - (i + 1))) ∙ ap (λ rest. done ++ rest) same ∙ whole
