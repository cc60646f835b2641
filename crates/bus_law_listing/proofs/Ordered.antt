-- Lists in order: insertion keeps the members, and a list in strict order has no other with the same members.
use Rattle.std.proofs.Common.{◌≡◌, ◌⊎◌, inl, inr, ℕ, ◌<◌, Bool, true, false, List, [], ◌∷◌, ◌++◌, map, refl, sym, ap, ◌∙◌, subst, arith}
use Rattle.std.proofs.lemmas.Bool.{cases_Bool}
use Rattle.std.proofs.lemmas.Bool.Decides.{nat_tests}
use Rattle.std.specs.Prelude.{nat_lt, ◌==◌, if◌then◌else◌}
use Rattle.bus_base.specs.declared.samples.Channel.{Channel}
use Rattle.bus_base.specs.declared.samples.Channel.TheVariants.{A, B}
use Rattle.bus_model.specs.Log.{is_before, with_entry, in_order}
use Rattle.bus_law_listing.proofs.Members.{Has, Each, Pairs, each-has, has-each, each-more}

-- ---- lists with the same members

-- the members after the first are among those after the first
same-tails : {X : Type 0} (R : X → X → Type 0) (x : X) (xs ys : List X) → ((a b : X) → R a b → R b a → ⊥) → Each (R x) xs →
    Each (Has (x ∷ ys)) xs → Each (Has ys) xs
same-tails R x xs ys strict later each = has-each (Has ys) xs (λ z at. elim (each-has (Has (x ∷ ys)) xs z each at) [
  | inl same ↦ (let r = each-has (R x) xs z later at in let own = subst (R x) (sym same) r in absurd (strict x x own own))
  | inr has ↦ has
])

-- two lists in strict order with the same members are equal
pub same-lists : {X : Type 0} (R : X → X → Type 0) (xs ys : List X) → ((a b : X) → R a b → R b a → ⊥) → Pairs R xs → Pairs R ys →
    Each (Has ys) xs → Each (Has xs) ys → xs ≡ ys
same-lists R [] [] strict px py hx hy = refl
same-lists R [] (y ∷ ys) strict px py hx hy = absurd hy.0
same-lists R (x ∷ xs) [] strict px py hx hy = absurd hx.0
same-lists R (x ∷ xs) (y ∷ ys) strict px py hx hy =
    let same : y ≡ x = elim hx.0 [
      | inl e ↦ e
      | inr later ↦ elim hy.0 [
        | inl e ↦ sym e
        | inr before ↦ absurd (strict x y (each-has (R x) xs y px.0 before) (each-has (R y) ys x py.0 later))
      ]
    ] in
    let first : Each (R x) ys = subst (λ z. Each (R z) ys) same py.0 in
    let tails : xs ≡ ys = same-lists R xs ys strict px.1 py.1
    (same-tails R x xs ys strict px.0 (subst (λ z. Each (Has (z ∷ ys)) xs) same hx.1))
    (same-tails R x ys xs strict first hy.1) in
    ap (λ z. z ∷ xs) (sym same) ∙ ap (λ zs. y ∷ zs) tails

-- ---- insertion

module _ {X : Type 0} (tick_of : X → ℕ) (channel_of : X → Channel) where
  -- before in strict order
  abbrev pub Strictly : X → X → Type 0
  Strictly x y = (tick_of x < tick_of y) ⊎ ((tick_of x ≡ tick_of y) × (channel_of x ≡ A) × (channel_of y ≡ B))

  -- not in one tick of one channel
  abbrev pub Apart : X → X → Type 0
  Apart x y = channel_of x ≡ channel_of y → tick_of x ≡ tick_of y → ⊥

  -- of two entries one alone stands before the other
  pub not-both : (x y : X) → Strictly x y → Strictly y x → ⊥
  not-both x y (inl a) (inl b) = omega (arith, a, b)
  not-both x y (inl a) (inr b) = omega (arith, a, b.0)
  not-both x y (inr a) (inl b) = omega (arith, a.0, b)
  not-both x y (inr a) (inr b) = (let bad : A ≡ B = sym a.1 ∙ b.2 in absurd (cc))

  -- what stands before one that stands before a third stands before that
  pub in-turn : (x y z : X) → Strictly x y → Strictly y z → Strictly x z
  in-turn x y z (inl a) (inl b) = inl (omega (arith, a, b))
  in-turn x y z (inl a) (inr b) = inl (omega (arith, a, b.0))
  in-turn x y z (inr a) (inl b) = inl (omega (arith, a.0, b))
  in-turn x y z (inr a) (inr b) = (let bad : A ≡ B = sym b.1 ∙ a.2 in absurd (cc))

  -- the test of the order holds there
  strictly-by : (t u : ℕ) (c d : Channel) → (t < u) ⊎ ((t ≡ u) × (c ≡ A) × (d ≡ B)) → is_before t c u ≡ true
  strictly-by t u c d (inl less) = grind (arith, nat_tests, less)
  strictly-by t u A d (inr both) = (let e = both.0 in grind (arith, nat_tests, e))
  strictly-by t u B d (inr both) = (let bad = both.1 in absurd (cc))

  -- for two entries
  pub strictly-before : (x y : X) → Strictly x y → is_before (tick_of x) (channel_of x) (tick_of y) ≡ true
  strictly-before x y is = strictly-by (tick_of x) (tick_of y) (channel_of x) (channel_of y) is

  -- where it holds, one stands strictly before the other, if they are apart
  before-by : (t u : ℕ) (c d : Channel) → (c ≡ d → t ≡ u → ⊥) → is_before t c u ≡ true → (t < u) ⊎ ((t ≡ u) × (c ≡ A) × (d ≡ B))
  before-by t u A A apart test = inl (let h = apart refl in grind (arith, nat_tests, h, test))
  before-by t u A B apart test = elim (cases_Bool (nat_lt t u)) [
    | inl less ↦ inl (grind (arith, nat_tests, less))
    | inr other ↦ inr (grind (arith, nat_tests, other, test), refl, refl)
  ]
  before-by t u B d apart test = inl (grind (arith, nat_tests, test))

  -- and where it doesn't, after it
  after-by : (t u : ℕ) (c d : Channel) → (c ≡ d → t ≡ u → ⊥) → is_before t c u ≡ false → (u < t) ⊎ ((u ≡ t) × (d ≡ A) × (c ≡ B))
  after-by t u A d apart test = inl (grind (arith, nat_tests, test))
  after-by t u B B apart test = inl (let h = apart refl in grind (arith, nat_tests, h, test))
  after-by t u B A apart test = elim (cases_Bool (t == u)) [
    | inl same ↦ inr (grind (arith, nat_tests, same), refl, refl)
    | inr other ↦ inl (grind (arith, nat_tests, other, test))
  ]

  -- ---- members

  -- each entry of either list
  by-test : (P : X → Type 0) (b : Bool) (xs ys : List X) → Each P xs → Each P ys → Each P (if b then xs else ys)
  by-test P true xs ys a b = a
  by-test P false xs ys a b = b

  -- with one entry more
  pub each-entry : (P : X → Type 0) (entry : X) (others : List X) → P entry → Each P others → Each P (with_entry tick_of channel_of entry others)
  each-entry P entry [] one each = (one, tt)
  each-entry P entry (other ∷ others) one each =
      by-test P (is_before (tick_of entry) (channel_of entry) (tick_of other)) _ _ (one, each) (each.0, each-entry P entry others one each.1)

  -- of a list in order
  pub each-order : (P : X → Type 0) (xs : List X) → Each P xs → Each P (in_order tick_of channel_of xs)
  each-order P [] each = tt
  each-order P (x ∷ xs) each = each-entry P x (in_order tick_of channel_of xs) each.0 (each-order P xs each.1)

  -- each entry of a list with one more is that one or one of the others
  of-test : (P : X → Type 0) (b : Bool) (entry other : X) (others rest : List X) → (Each P rest → P entry × Each P others) →
      Each P (if b then entry ∷ other ∷ others else other ∷ rest) → P entry × Each P (other ∷ others)
  of-test P true entry other others rest tell each = each
  of-test P false entry other others rest tell each = let more = tell each.1 in (more.0, (each.0, more.1))

  -- by insertion
  pub entry-each : (P : X → Type 0) (entry : X) (others : List X) → Each P (with_entry tick_of channel_of entry others) → P entry × Each P others
  entry-each P entry [] each = each
  entry-each P entry (other ∷ others) each =
      of-test P (is_before (tick_of entry) (channel_of entry) (tick_of other)) entry other others (with_entry tick_of channel_of entry others)
      (entry-each P entry others) each

  -- by all insertions
  pub order-each : (P : X → Type 0) (xs : List X) → Each P (in_order tick_of channel_of xs) → Each P xs
  order-each P [] each = tt
  order-each P (x ∷ xs) each =
      let more = entry-each P x (in_order tick_of channel_of xs) each in (more.0, order-each P xs more.1)

  -- ---- pairs, of a relation that is the same both ways

  -- the pairs of a list with one entry more
  pairs-of-test : (R : X → X → Type 0) (b : Bool) (entry other : X) (others rest : List X) → ((x y : X) → R x y → R y x) →
      (Each (R other) rest → R other entry × Each (R other) others) → (Pairs R rest → Each (R entry) others × Pairs R others) →
      Pairs R (if b then entry ∷ other ∷ others else other ∷ rest) → Each (R entry) (other ∷ others) × Pairs R (other ∷ others)
  pairs-of-test R true entry other others rest both first later pairs = pairs
  pairs-of-test R false entry other others rest both first later pairs =
      let now = first pairs.0 in let more = later pairs.1 in ((both other entry now.0, more.0), (now.1, more.1))

  -- by insertion
  entry-pairs : (R : X → X → Type 0) (entry : X) (others : List X) → ((x y : X) → R x y → R y x) →
      Pairs R (with_entry tick_of channel_of entry others) → Each (R entry) others × Pairs R others
  entry-pairs R entry [] both pairs = pairs
  entry-pairs R entry (other ∷ others) both pairs =
      pairs-of-test R (is_before (tick_of entry) (channel_of entry) (tick_of other)) entry other others (with_entry tick_of channel_of entry others) both
      (entry-each (R other) entry others) (entry-pairs R entry others both) pairs

  -- by all insertions
  pub order-pairs : (R : X → X → Type 0) (xs : List X) → ((x y : X) → R x y → R y x) → Pairs R (in_order tick_of channel_of xs) → Pairs R xs
  order-pairs R [] both pairs = tt
  order-pairs R (x ∷ xs) both pairs =
      let more = entry-pairs R x (in_order tick_of channel_of xs) both pairs in
      (order-each (R x) xs more.0, order-pairs R xs both more.1)

  -- ---- the order

  -- an entry before the first of a list in strict order, or after it
  strictly-test : (b : Bool) (entry other : X) (others rest : List X) → (b ≡ true → Strictly entry other) → Pairs Strictly (other ∷ others) →
      (b ≡ false → Pairs Strictly (other ∷ rest)) → Pairs Strictly (if b then entry ∷ other ∷ others else other ∷ rest)
  strictly-test true entry other others rest first old later =
      let now = first refl in ((now, each-more (Strictly other) (Strictly entry) others (λ z. in-turn entry other z now) old.0), old)
  strictly-test false entry other others rest first old later = later refl

  -- insertion keeps strict order
  strictly-entry : (entry : X) (others : List X) → Each (Apart entry) others → Pairs Strictly others →
      Pairs Strictly (with_entry tick_of channel_of entry others)
  strictly-entry entry [] apart old = (tt, tt)
  strictly-entry entry (other ∷ others) apart old =
      strictly-test (is_before (tick_of entry) (channel_of entry) (tick_of other)) entry other others (with_entry tick_of channel_of entry others)
      (before-by (tick_of entry) (tick_of other) (channel_of entry) (channel_of other) apart.0) old
      (λ test. (
        each-entry (Strictly other) entry others (after-by (tick_of entry) (tick_of other) (channel_of entry) (channel_of other) apart.0 test) old.0,
        strictly-entry entry others apart.1 old.1,
      ))

  -- entries of different ticks or channels come in strict order
  pub strictly-order : (xs : List X) → Pairs Apart xs → Pairs Strictly (in_order tick_of channel_of xs)
  strictly-order [] apart = tt
  strictly-order (x ∷ xs) apart =
      strictly-entry x (in_order tick_of channel_of xs) (each-order (Apart x) xs apart.0) (strictly-order xs apart.1)

  -- ---- one list after the other

  -- x stands before y
  abbrev pub Before : X → X → Type 0
  Before x y = is_before (tick_of x) (channel_of x) (tick_of y) ≡ true

  -- an entry that stands before all others comes first
  first-entry : (entry : X) (others : List X) → Each (Before entry) others → with_entry tick_of channel_of entry others ≡ entry ∷ others
  first-entry entry [] before = refl
  first-entry entry (other ∷ others) before = let test = before.0 in rw test refl

  -- a test splits over what comes after
  append-test : (b : Bool) (entry other : X) (others rest more ys : List X) → more ≡ rest ++ ys →
      (if b then entry ∷ other ∷ (others ++ ys) else other ∷ more) ≡ (if b then entry ∷ other ∷ others else other ∷ rest) ++ ys
  append-test true entry other others rest more ys same = refl
  append-test false entry other others rest more ys same = ap (λ zs. other ∷ zs) same

  -- an entry that stands before all of a second list is inserted into the first
  entry-append : (entry : X) (xs ys : List X) → Each (Before entry) ys →
      with_entry tick_of channel_of entry (xs ++ ys) ≡ with_entry tick_of channel_of entry xs ++ ys
  entry-append entry [] ys before = first-entry entry ys before
  entry-append entry (x ∷ xs) ys before =
      append-test (is_before (tick_of entry) (channel_of entry) (tick_of x)) entry x xs (with_entry tick_of channel_of entry xs)
      (with_entry tick_of channel_of entry (xs ++ ys)) ys (entry-append entry xs ys before)

  -- where all of one list stand before all of the other, each is put in order by itself
  pub order-append : (xs ys : List X) → Each (λ x. Each (Before x) ys) xs →
      in_order tick_of channel_of (xs ++ ys) ≡ in_order tick_of channel_of xs ++ in_order tick_of channel_of ys
  order-append [] ys before = refl
  order-append (x ∷ xs) ys before =
      ap (with_entry tick_of channel_of x) (order-append xs ys before.1)
      ∙ entry-append x (in_order tick_of channel_of xs) (in_order tick_of channel_of ys) (each-order (Before x) ys before.0)

  -- what is in order stays as it is
  pub order-same : (xs : List X) → Pairs Strictly xs → in_order tick_of channel_of xs ≡ xs
  order-same [] pairs = refl
  order-same (x ∷ xs) pairs =
      ap (with_entry tick_of channel_of x) (order-same xs pairs.1)
      ∙ first-entry x xs (each-more (Strictly x) (Before x) xs (strictly-before x) pairs.0)

-- ---- what is made of the entries

-- a test of the entries is one of what is made of them
map-test : {X Y : Type 0} (f : X → Y) (b d : Bool) (entry other : X) (others rest : List X) (more : List Y) → b ≡ d → map f rest ≡ more →
    map f (if b then entry ∷ other ∷ others else other ∷ rest) ≡ (if d then f entry ∷ f other ∷ map f others else f other ∷ more)
map-test f true true entry other others rest more same later = refl
map-test f false false entry other others rest more same later = ap (λ zs. f other ∷ zs) later
map-test f true false entry other others rest more same later = absurd (cc)
map-test f false true entry other others rest more same later = absurd (cc)

module _ {X Y : Type 0} (f : X → Y) (tick_of : X → ℕ) (channel_of : X → Channel) (tick_to : Y → ℕ) (channel_to : Y → Channel)
    (ticks : (x : X) → tick_of x ≡ tick_to (f x)) (channels : (x : X) → channel_of x ≡ channel_to (f x)) where
  -- what is made of a list with one entry more
  map-entry : (entry : X) (others : List X) →
      map f (with_entry tick_of channel_of entry others) ≡ with_entry tick_to channel_to (f entry) (map f others)
  map-entry entry [] = refl
  map-entry entry (other ∷ others) =
      map-test f (is_before (tick_of entry) (channel_of entry) (tick_of other)) (is_before (tick_to (f entry)) (channel_to (f entry)) (tick_to (f other)))
      entry other others (with_entry tick_of channel_of entry others) (with_entry tick_to channel_to (f entry) (map f others))
      (ap (λ t. is_before t (channel_of entry) (tick_of other)) (ticks entry)
      ∙ ap (λ c. is_before (tick_to (f entry)) c (tick_of other)) (channels entry)
      ∙ ap (is_before (tick_to (f entry)) (channel_to (f entry))) (ticks other))
      (map-entry entry others)

  -- they come in the same order
  pub map-order : (xs : List X) → map f (in_order tick_of channel_of xs) ≡ in_order tick_to channel_to (map f xs)
  map-order [] = refl
  map-order (x ∷ xs) =
      map-entry x (in_order tick_of channel_of xs) ∙ ap (with_entry tick_to channel_to (f x)) (map-order xs)
