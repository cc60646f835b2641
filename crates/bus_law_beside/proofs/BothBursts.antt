-- Two bursts on two channels, the one inside the time of the other: in which order they are found.
use Rattle.std.proofs.Common.{◌≡◌, ◌≢◌, inl, inr, ℕ, suc, ◌+◌, ◌<◌, ◌≤◌, Bool, true, false, List, [], ◌∷◌, ◌++◌, length, map, Option, Some, None, refl, sym, ap, ◌∙◌, arith, length-append, append_assoc}
use Rattle.std.proofs.lemmas.Bool.{cases_lt, cases_eq, lt-ltb, le-ltb}
use Rattle.std.proofs.lemmas.Bool.Decides.{nat_tests}
use Rattle.std.proofs.lemmas.List.{append-nil}
use Rattle.std.specs.Prelude.{nat_lt, ◌==◌, ◌||◌, ◌&&◌, if◌then◌else◌, drop}
use Rattle.bus_base.specs.Samples.{other_of, same_channel}
use Rattle.bus_base.specs.declared.samples.Channel.{Channel}
use Rattle.bus_base.specs.declared.samples.Channel.TheVariants.{A, B}
use Rattle.bus_base.specs.declared.samples.Pair.{Pair}
use Rattle.bus_base.specs.declared.samples.Sample.{Sample}
use Rattle.bus_line.specs.Past.{Burst, ended_now}
use Rattle.bus_line.specs.Channels.{WholeBurst, on_channel, bursts, burst_of}
use Rattle.bus_line.proofs.ChannelLaws.{on-append}
use Rattle.bus_law_line.specs.Shown.{first_samples}
use Rattle.bus_model.specs.Strikes.{ShownBurst, burst_end}
use Rattle.bus_law_table.specs.Happened.{burst_found}
use Rattle.bus_law_beside.specs.Beside.{ends_before, by_ends}
use Rattle.bus_law_beside.specs.Rows.{RowEnds}
use Rattle.bus_law_beside.proofs.RowLaws.{ends-once}

-- what ends in one tick on a channel, and on the other one, A before B
abbrev two : Channel → Option Burst → Option Burst → List WholeBurst
two A own other = burst_of A own ++ burst_of B other
two B own other = burst_of A other ++ burst_of B own

two-now : (k : ℕ) (c : Channel) (x : Pair) (past : List Pair) (own other : Option Burst) → ended_now k (on_channel c (x ∷ past)) ≡ own →
    ended_now k (on_channel (other_of c) (x ∷ past)) ≡ other → bursts k (x ∷ past) ≡ bursts k past ++ two c own other
unfolding bursts
two-now k A x past own other first second = rw (first, second) refl
two-now k B x past own other first second = rw (first, second) refl

two-none : (c : Channel) → two c None None ≡ []
two-none A = refl
two-none B = refl

two-own : (c : Channel) (burst : Burst) → two c (Some burst) None ≡ record { channel = c; burst = burst } ∷ []
two-own A burst = refl
two-own B burst = refl

two-other : (c : Channel) (burst : Burst) → two c None (Some burst) ≡ record { channel = other_of c; burst = burst } ∷ []
two-other A burst = refl
two-other B burst = refl

two-both : (c : Channel) (own other : Burst) → two c (Some own) (Some other)
    ≡ (if same_channel c A then record { channel = c; burst = own } ∷ record { channel = other_of c; burst = other } ∷ []
    else record { channel = other_of c; burst = other } ∷ record { channel = c; burst = own } ∷ [])
two-both A own other = refl
two-both B own other = refl

by-yes : {X : Type 0} (b : Bool) (x y : X) → b ≡ true → (if b then x else y) ≡ x
by-yes b x y on = rw on refl

by-no : {X : Type 0} (b : Bool) (x y : X) → b ≡ false → (if b then x else y) ≡ y
by-no b x y off = rw off refl

module _ (k : ℕ) (c : Channel) (old_row row : ℕ → Sample) (old_known known : ℕ) (old_burst burst : Burst) (first before : List Pair)
    (old : RowEnds k old_row old_known old_burst (on_channel c before))
    (new : RowEnds k row known burst (on_channel (other_of c) (first ++ before)))
    (some : length first ≤ old_known) (inside : old_known ≤ length first + known) where
  abbrev past : List Pair
  past = first ++ before

  -- the ticks so far
  pub record Rows (ticks : List Pair) : Type 0 where
    pub own : on_channel c (ticks ++ first) ≡ first_samples old_row (length (ticks ++ first))
    pub other : on_channel (other_of c) ticks ≡ first_samples row (length ticks)

  less : (x : Pair) (ticks : List Pair) → Rows (x ∷ ticks) → Rows ticks
  less x ticks rows = record {
    own = ap (λ (xs : List Sample). drop 1 xs) rows.own;
    other = ap (λ (xs : List Sample). drop 1 xs) rows.other;
  }

  own-now : (x : Pair) (ticks : List Pair) → Rows (x ∷ ticks) →
      ended_now k (on_channel c (x ∷ (ticks ++ past))) ≡ ended_now k (first_samples old_row (suc (length (ticks ++ first))) ++ on_channel c before)
  own-now x ticks rows =
      ap (λ ps. ended_now k (on_channel c (x ∷ ps))) (sym (append_assoc ticks first before))
      ∙ ap (ended_now k) (on-append c (x ∷ (ticks ++ first)) before ∙ ap (λ xs. xs ++ on_channel c before) rows.own)

  other-now : (x : Pair) (ticks : List Pair) → Rows (x ∷ ticks) →
      ended_now k (on_channel (other_of c) (x ∷ (ticks ++ past))) ≡ ended_now k (first_samples row (suc (length ticks)) ++ on_channel (other_of c) past)
  other-now x ticks rows =
      ap (ended_now k) (on-append (other_of c) (x ∷ ticks) past ∙ ap (λ xs. xs ++ on_channel (other_of c) past) rows.other)

  abbrev found : WholeBurst
  found = record { channel = c; burst = old_burst }

  -- those of the older one are found as its end is known
  abbrev Found : List Pair → List WholeBurst
  Found ticks = if nat_lt old_known (length (ticks ++ first)) then found ∷ [] else []

  old-late : (x : Pair) (ticks : List Pair) → old_known < length (ticks ++ first) → Found (x ∷ ticks) ≡ found ∷ []
  old-late x ticks late =
      by-yes (nat_lt old_known (length ((x ∷ ticks) ++ first))) (found ∷ []) [] (lt-ltb old_known (length ((x ∷ ticks) ++ first)) (omega (arith, late)))

  pub both-bursts : (ticks : List Pair) → length ticks ≤ known → Rows ticks → bursts k (ticks ++ past) ≡ bursts k past ++ Found ticks
  both-bursts [] low rows =
      sym (ap (λ bs. bursts k past ++ bs) (by-no (nat_lt old_known (length first)) (found ∷ []) [] (le-ltb old_known (length first) some))
      ∙ append-nil (bursts k past))
  both-bursts (x ∷ ticks) low rows =
      let i = length (ticks ++ first) in
      let rest = both-bursts ticks (omega (arith, low)) (less x ticks rows) in
      let other : ended_now k (on_channel (other_of c) (x ∷ (ticks ++ past))) ≡ None =
      other-now x ticks rows ∙ ends-once k row known burst (on_channel (other_of c) past) new (length ticks) (λ at. omega (arith, at, low)) in
      elim (cases_eq (length (ticks ++ first)) old_known) [
        | inl at ↦ (
            let own : ended_now k (on_channel c (x ∷ (ticks ++ past))) ≡ Some old_burst =
            own-now x ticks rows ∙ ap (λ n. ended_now k (first_samples old_row (suc n) ++ on_channel c before)) at ∙ old.ended in
            let none : Found ticks ≡ [] =
            by-no (nat_lt old_known (length (ticks ++ first))) (found ∷ []) [] (le-ltb old_known (length (ticks ++ first)) (omega (arith, at))) in
            let one : Found (x ∷ ticks) ≡ found ∷ [] =
            by-yes (nat_lt old_known (length ((x ∷ ticks) ++ first))) (found ∷ []) []
            (lt-ltb old_known (length ((x ∷ ticks) ++ first)) (omega (arith, at))) in
            two-now k c x (ticks ++ past) (Some old_burst) None own other
            ∙ ap (λ bs. bursts k (ticks ++ past) ++ bs) (two-own c old_burst)
            ∙ ap (λ bs. bs ++ (found ∷ [])) (rest ∙ ap (λ bs. bursts k past ++ bs) none ∙ append-nil (bursts k past))
            ∙ sym (ap (λ bs. bursts k past ++ bs) one))
        | inr apart ↦ (
            let own : ended_now k (on_channel c (x ∷ (ticks ++ past))) ≡ None =
            own-now x ticks rows ∙ ends-once k old_row old_known old_burst (on_channel c before) old (length (ticks ++ first)) apart in
            let same : Found (x ∷ ticks) ≡ Found ticks =
            ap (λ (b : Bool). if b then found ∷ [] else [])
            (same-test old_known (length (ticks ++ first)) apart) in
            two-now k c x (ticks ++ past) None None own other
            ∙ ap (λ bs. bursts k (ticks ++ past) ++ bs) (two-none c)
            ∙ append-nil (bursts k (ticks ++ past))
            ∙ rest
            ∙ ap (λ bs. bursts k past ++ bs) (sym same))
      ]
    where
      same-test : (a i : ℕ) → i ≢ a → nat_lt a (suc i) ≡ nat_lt a i
      same-test a i apart = elim (cases_lt a i) [
        | inl low ↦ lt-ltb a (suc i) (omega (arith, low)) ∙ sym (lt-ltb a i low)
        | inr high ↦ le-ltb a (suc i) (omega (arith, high, apart)) ∙ sym (le-ltb a i high)
      ]

  -- ---- with the tick in which the end of the newer one is known

  abbrev later : WholeBurst
  later = record { channel = other_of c; burst = burst }

  pub record AtEnd (x : Pair) (ticks : List Pair) : Type 0 where
    pub rows : Rows (x ∷ ticks)
    pub many : length ticks ≡ known

  pub end-earlier : (x : Pair) (ticks : List Pair) → AtEnd x ticks → old_known < length (ticks ++ first) →
      bursts k (x ∷ (ticks ++ past)) ≡ bursts k past ++ (found ∷ later ∷ [])
  end-earlier x ticks at late =
      let many = at.many in
      let rest = both-bursts ticks (omega (arith, many)) (less x ticks at.rows) in
      let other : ended_now k (on_channel (other_of c) (x ∷ (ticks ++ past))) ≡ Some burst =
      other-now x ticks at.rows ∙ ap (λ n. ended_now k (first_samples row (suc n) ++ on_channel (other_of c) past)) at.many ∙ new.ended in
      let own : ended_now k (on_channel c (x ∷ (ticks ++ past))) ≡ None =
      own-now x ticks at.rows ∙ ends-once k old_row old_known old_burst (on_channel c before) old (length (ticks ++ first)) (λ e. omega (arith, e, late)) in
      let one : Found ticks ≡ found ∷ [] =
      by-yes (nat_lt old_known (length (ticks ++ first))) (found ∷ []) [] (lt-ltb old_known (length (ticks ++ first)) late) in
      two-now k c x (ticks ++ past) None (Some burst) own other
      ∙ ap (λ bs. bursts k (ticks ++ past) ++ bs) (two-other c burst)
      ∙ ap (λ bs. bs ++ (later ∷ [])) (rest ∙ ap (λ bs. bursts k past ++ bs) one)
      ∙ append_assoc (bursts k past) (found ∷ []) (later ∷ [])

  pub end-same : (x : Pair) (ticks : List Pair) → AtEnd x ticks → length (ticks ++ first) ≡ old_known →
      bursts k (x ∷ (ticks ++ past)) ≡ bursts k past ++ (if same_channel c A then found ∷ later ∷ [] else later ∷ found ∷ [])
  end-same x ticks at same =
      let many = at.many in
      let rest = both-bursts ticks (omega (arith, many)) (less x ticks at.rows) in
      let other : ended_now k (on_channel (other_of c) (x ∷ (ticks ++ past))) ≡ Some burst =
      other-now x ticks at.rows ∙ ap (λ n. ended_now k (first_samples row (suc n) ++ on_channel (other_of c) past)) at.many ∙ new.ended in
      let own : ended_now k (on_channel c (x ∷ (ticks ++ past))) ≡ Some old_burst =
      own-now x ticks at.rows ∙ ap (λ n. ended_now k (first_samples old_row (suc n) ++ on_channel c before)) same ∙ old.ended in
      let none : Found ticks ≡ [] =
      by-no (nat_lt old_known (length (ticks ++ first))) (found ∷ []) [] (le-ltb old_known (length (ticks ++ first)) (omega (arith, same))) in
      two-now k c x (ticks ++ past) (Some old_burst) (Some burst) own other
      ∙ ap (λ bs. bursts k (ticks ++ past) ++ bs) (two-both c old_burst burst)
      ∙ ap (λ bs. bs ++ (if same_channel c A then found ∷ later ∷ [] else later ∷ found ∷ []))
      (rest ∙ ap (λ bs. bursts k past ++ bs) none ∙ append-nil (bursts k past))

  -- as the message table has them
  module _ (a b : ShownBurst) (is_old : burst_found a ≡ found) (is_new : burst_found b ≡ later)
      (ends : (x : Pair) (ticks : List Pair) → AtEnd x ticks → burst_end b + old_known ≡ burst_end a + length (ticks ++ first)) where
    in-place : (ps : Bool) → map burst_found (if ps then a ∷ b ∷ [] else b ∷ a ∷ []) ≡ (if ps then found ∷ later ∷ [] else later ∷ found ∷ [])
    in-place true = rw (is_old, is_new) refl
    in-place false = rw (is_old, is_new) refl

    on-channel : a.channel ≡ c
    on-channel = ap (λ (w : WholeBurst). w.channel) is_old

    pub by-their-ends : (x : Pair) (ticks : List Pair) → AtEnd x ticks → bursts k (x ∷ (ticks ++ past)) ≡ bursts k past ++ map burst_found (by_ends a b)
    by-their-ends x ticks at =
        let even = ends x ticks at in
        let many = at.many in
        let long = length-append ticks first in
        elim (cases_eq (length (ticks ++ first)) old_known) [
          | inl same ↦ (
              let test : ends_before a b ≡ same_channel c A =
              ends-same (burst_end a) (burst_end b) (same_channel a.channel A) (omega (arith, even, same)) ∙ ap (λ d. same_channel d A) on-channel in
              end-same x ticks at same
              ∙ ap (λ bs. bursts k past ++ bs) (sym (in-place (same_channel c A))
              ∙ ap (λ (p : Bool). map burst_found (if p then a ∷ b ∷ [] else b ∷ a ∷ [])) (sym test)))
          | inr apart ↦ (
              let late : old_known < length (ticks ++ first) = omega (arith, apart, inside, many, long) in
              let test : ends_before a b ≡ true = ends-earlier (burst_end a) (burst_end b) (same_channel a.channel A) (omega (arith, even, late)) in
              end-earlier x ticks at late
              ∙ ap (λ bs. bursts k past ++ bs) (sym (in-place true)
              ∙ ap (λ (p : Bool). map burst_found (if p then a ∷ b ∷ [] else b ∷ a ∷ [])) (sym test)))
        ]
      where
        ends-same : (m n : ℕ) (b : Bool) → m ≡ n → (nat_lt m n || ((m == n) && b)) ≡ b
        ends-same m n true same = grind (arith, nat_tests, same)
        ends-same m n false same = grind (arith, nat_tests, same)

        ends-earlier : (m n : ℕ) (b : Bool) → m < n → (nat_lt m n || ((m == n) && b)) ≡ true
        ends-earlier m n b low = let yes : nat_lt m n ≡ true = lt-ltb m n low in rw yes refl
