-- The digits of a number: looked up, and four at a time.
use Rattle.std.proofs.Common.{◌≡◌, ℕ, ◌+◌, ◌/◌, ◌%◌, ◌^◌, ◌<◌, ◌≤◌, List, [], ◌∷◌, ◌++◌, map, get_or, ap, sym, refl, ◌∙◌, arith, append_assoc, decimal}
use Rattle.std.specs.List.{range_with_len}
use Rattle.std.proofs.lemmas.Fmt.{decimal_digit, decimal_step}
use Rattle.std.proofs.lemmas.List.FromFn.{get_or-map-range_with_len}

-- both digits of a number below 100
abbrev pub both_digits : ℕ → List ℕ
both_digits n = (48 + n / 10) ∷ (48 + n % 10) ∷ []

-- those of all of these
abbrev pub each_both : List (List ℕ)
each_both = map both_digits (range_with_len 0 100)

both-found : (n : ℕ) → n < 100 → get_or each_both n [] ≡ both_digits n
both-found n h = get_or-map-range_with_len both_digits 0 100 n n [] h (omega arith)

pub tens-found : (i n : ℕ) → i ≡ n → n < 100 → get_or (get_or each_both i []) 0 0 ≡ 48 + n / 10
tens-found i n e h = ap (λ i. get_or (get_or each_both i []) 0 0) e ∙ ap (λ ds. get_or ds 0 0) (both-found n h)

pub ones-found : (i n : ℕ) → i ≡ n → n < 100 → get_or (get_or each_both i []) 1 0 ≡ 48 + n % 10
ones-found i n e h = ap (λ i. get_or (get_or each_both i []) 1 0) e ∙ ap (λ ds. get_or ds 1 0) (both-found n h)

-- the last digit follows those of a tenth
after-tenth : (n : ℕ) (front : List ℕ) → 10 ≤ n → n < 2 ^ 64 → decimal (n / 10) ≡ front → decimal n ≡ front ++ ((48 + n % 10) ∷ [])
after-tenth n front big fits e = decimal_step n big fits ∙ ap (λ ds. ds ++ ((48 + n % 10) ∷ [])) e

two-digits : (n : ℕ) → 10 ≤ n → n < 100 → decimal n ≡ (48 + n / 10) ∷ (48 + n % 10) ∷ []
two-digits n big few = after-tenth n ((48 + n / 10) ∷ []) big (omega (arith, few)) (decimal_digit (n / 10) (omega (arith, few)))

three-digits : (n : ℕ) → 100 ≤ n → n < 1000 → decimal n ≡ (48 + n / 10 / 10) ∷ (48 + n / 10 % 10) ∷ (48 + n % 10) ∷ []
three-digits n big few =
    after-tenth n ((48 + n / 10 / 10) ∷ (48 + n / 10 % 10) ∷ []) (omega (arith, big)) (omega (arith, few)) (two-digits (n / 10) (omega (arith, big)) (omega (arith, few)))

four-digits : (n : ℕ) → 1000 ≤ n → n < 10000 →
    decimal n ≡ (48 + n / 10 / 10 / 10) ∷ (48 + n / 10 / 10 % 10) ∷ (48 + n / 10 % 10) ∷ (48 + n % 10) ∷ []
four-digits n big few =
    after-tenth n ((48 + n / 10 / 10 / 10) ∷ (48 + n / 10 / 10 % 10) ∷ (48 + n / 10 % 10) ∷ []) (omega (arith, big)) (omega (arith, few))
    (three-digits (n / 10) (omega (arith, big)) (omega (arith, few)))

-- the last four digits follow those of the rest
after-front : (n : ℕ) → 10000 ≤ n → n < 2 ^ 64 →
    decimal n ≡ decimal (n / 10 / 10 / 10 / 10) ++ ((48 + n / 10 / 10 / 10 % 10) ∷ (48 + n / 10 / 10 % 10) ∷ (48 + n / 10 % 10) ∷ (48 + n % 10) ∷ [])
after-front n big fits =
    let front = decimal (n / 10 / 10 / 10 / 10) in
    after-tenth n (front ++ ((48 + n / 10 / 10 / 10 % 10) ∷ (48 + n / 10 / 10 % 10) ∷ (48 + n / 10 % 10) ∷ [])) (omega (arith, big)) fits
    (after-tenth (n / 10) (front ++ ((48 + n / 10 / 10 / 10 % 10) ∷ (48 + n / 10 / 10 % 10) ∷ [])) (omega (arith, big)) (omega (arith, fits))
    (after-tenth (n / 10 / 10) (front ++ ((48 + n / 10 / 10 / 10 % 10) ∷ [])) (omega (arith, big)) (omega (arith, fits))
    (decimal_step (n / 10 / 10 / 10) (omega (arith, big)) (omega (arith, fits)))
    ∙ append_assoc front _ _)
    ∙ append_assoc front _ _)
    ∙ append_assoc front _ _

-- ---- as the code takes them from pairs of digits

pub one : (n ones : ℕ) → n < 10 → ones ≡ 48 + n % 10 → ones ∷ [] ≡ decimal n
one n ones few e =
    let d : ones ≡ 48 + n = omega (arith, few, e) in
    rw d (sym (decimal_digit n few))

pub two : (n tens ones : ℕ) → 10 ≤ n → n < 100 → tens ≡ 48 + n / 10 → ones ≡ 48 + n % 10 → tens ∷ ones ∷ [] ≡ decimal n
two n tens ones big few d e = rw (d, e) (sym (two-digits n big few))

pub three : (n hundreds tens ones : ℕ) → 100 ≤ n → n < 1000 → hundreds ≡ 48 + n / 100 % 10 → tens ≡ 48 + n % 100 / 10 → ones ≡ 48 + n % 100 % 10 →
    hundreds ∷ tens ∷ ones ∷ [] ≡ decimal n
three n hundreds tens ones big few d e f =
    let h : hundreds ≡ 48 + n / 10 / 10 = omega (arith, few, d) in
    let t : tens ≡ 48 + n / 10 % 10 = omega (arith, few, e) in
    let o : ones ≡ 48 + n % 10 = omega (arith, few, f) in
    rw (h, t, o) (sym (three-digits n big few))

-- four digits of a number below 10,000
abbrev pub last_four : ℕ → List ℕ
last_four n = (48 + n / 1000) ∷ (48 + n / 100 % 10) ∷ (48 + n / 10 % 10) ∷ (48 + n % 10) ∷ []

same-four : (a b c d e f g h : ℕ) → a ≡ e → b ≡ f → c ≡ g → d ≡ h → a ∷ b ∷ c ∷ d ∷ [] ≡ e ∷ f ∷ g ∷ h ∷ []
same-four a b c d e f g h i j k l = rw (i, j, k, l) refl

pub four : (n : ℕ) → 1000 ≤ n → n < 10000 → last_four n ≡ decimal n
four n big few = same-four _ _ _ _ _ _ _ _ (omega arith) (omega arith) (omega arith) (omega arith) ∙ sym (four-digits n big few)

pub rest-and-four : (n rest last : ℕ) → 10000 ≤ n → n < 2 ^ 64 → rest ≡ n / 10000 → last ≡ n % 10000 → decimal rest ++ last_four last ≡ decimal n
rest-and-four n rest last big fits d e =
    let r : rest ≡ n / 10 / 10 / 10 / 10 = omega (arith, d) in
    let fours : last_four last ≡ (48 + n / 10 / 10 / 10 % 10) ∷ (48 + n / 10 / 10 % 10) ∷ (48 + n / 10 % 10) ∷ (48 + n % 10) ∷ [] =
    same-four _ _ _ _ _ _ _ _ (omega (arith, e)) (omega (arith, e)) (omega (arith, e)) (omega (arith, e)) in
    rw (r, fours) (sym (after-front n big fits))

pub appends-both : (old middle new front back whole : List ℕ) → middle ≡ old ++ front → new ≡ middle ++ back → front ++ back ≡ whole → new ≡ old ++ whole
appends-both old middle new front back whole d e f =
    e ∙ ap (λ m. m ++ back) d ∙ append_assoc old front back ∙ ap (λ ds. old ++ ds) f
