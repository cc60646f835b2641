-- Two bursts on two channels, where the one that began first ends after the other one: how they are found.
use Rattle.std.proofs.Common.{◌≡◌, ◌≢◌, inl, inr, ℕ, suc, ◌+◌, ◌<◌, ◌≤◌, true, false, List, [], ◌∷◌, ◌++◌, length, Option, Some, None, refl, sym, ap, ◌∙◌, arith, length-append, append_assoc}
use Rattle.std.proofs.lemmas.Bool.{cases_lt, cases_eq, lt-ltb, le-ltb}
use Rattle.std.proofs.lemmas.List.{append-nil}
use Rattle.std.specs.Prelude.{nat_lt, if◌then◌else◌, drop}
use Rattle.bus_base.specs.Samples.{other_of}
use Rattle.bus_base.specs.declared.samples.Channel.{Channel}
use Rattle.bus_base.specs.declared.samples.Channel.TheVariants.{A, B}
use Rattle.bus_base.specs.declared.samples.Pair.{Pair}
use Rattle.bus_base.specs.declared.samples.Sample.{Sample}
use Rattle.bus_line.specs.Past.{Burst, ended_now}
use Rattle.bus_line.specs.Channels.{WholeBurst, on_channel, bursts, burst_of}
use Rattle.bus_line.proofs.ChannelLaws.{on-append}
use Rattle.bus_law_line.specs.Shown.{first_samples}
use Rattle.bus_law_beside.specs.Rows.{RowEnds}
use Rattle.bus_law_beside.proofs.RowLaws.{ends-once}

abbrev two : Channel → Option Burst → Option Burst → List WholeBurst
two A own other = burst_of A own ++ burst_of B other
two B own other = burst_of A other ++ burst_of B own

two-now : (k : ℕ) (c : Channel) (x : Pair) (past : List Pair) (own other : Option Burst) → ended_now k (on_channel c (x ∷ past)) ≡ own →
    ended_now k (on_channel (other_of c) (x ∷ past)) ≡ other → bursts k (x ∷ past) ≡ bursts k past ++ two c own other
unfolding bursts
two-now k A x past own other first second = rw (first, second) refl
two-now k B x past own other first second = rw (first, second) refl

two-none : (c : Channel) → two c None None ≡ []
two-none A = refl
two-none B = refl

two-own : (c : Channel) (burst : Burst) → two c (Some burst) None ≡ record { channel = c; burst = burst } ∷ []
two-own A burst = refl
two-own B burst = refl

two-other : (c : Channel) (burst : Burst) → two c None (Some burst) ≡ record { channel = other_of c; burst = burst } ∷ []
two-other A burst = refl
two-other B burst = refl

-- one that is found from a tick on
abbrev from_on : ℕ → ℕ → WholeBurst → List WholeBurst
from_on known n burst = if nat_lt known n then burst ∷ [] else []

found-from : (known n : ℕ) (burst : WholeBurst) → known < n → from_on known n burst ≡ burst ∷ []
found-from known n burst late = let on : nat_lt known n ≡ true = lt-ltb known n late in rw on refl

found-before : (known n : ℕ) (burst : WholeBurst) → n ≤ known → from_on known n burst ≡ []
found-before known n burst low = let off : nat_lt known n ≡ false = le-ltb known n low in rw off refl

same-found : (known i : ℕ) (burst : WholeBurst) → i ≢ known → from_on known (suc i) burst ≡ from_on known i burst
same-found known i burst apart = elim (cases_lt known i) [
  | inl low ↦ found-from known (suc i) burst (omega (arith, low)) ∙ sym (found-from known i burst low)
  | inr high ↦ found-before known (suc i) burst (omega (arith, high, apart)) ∙ sym (found-before known i burst high)
]

module _ (k : ℕ) (c : Channel) (old_row row : ℕ → Sample) (old_known known : ℕ) (old_burst burst : Burst) (first before : List Pair)
    (old : RowEnds k old_row old_known old_burst (on_channel c before))
    (new : RowEnds k row known burst (on_channel (other_of c) (first ++ before)))
    (outside : length first + known < old_known) where
  abbrev past : List Pair
  past = first ++ before

  abbrev IsOwn : List Pair → Type 0
  IsOwn ticks = on_channel c (ticks ++ first) ≡ first_samples old_row (length (ticks ++ first))

  abbrev IsOther : List Pair → Type 0
  IsOther ticks = on_channel (other_of c) ticks ≡ first_samples row (length ticks)

  own-now : (x : Pair) (ticks : List Pair) → IsOwn (x ∷ ticks) →
      ended_now k (on_channel c (x ∷ (ticks ++ past))) ≡ ended_now k (first_samples old_row (suc (length (ticks ++ first))) ++ on_channel c before)
  own-now x ticks own =
      ap (λ ps. ended_now k (on_channel c (x ∷ ps))) (sym (append_assoc ticks first before))
      ∙ ap (ended_now k) (on-append c (x ∷ (ticks ++ first)) before ∙ ap (λ xs. xs ++ on_channel c before) own)

  other-now : (x : Pair) (ticks : List Pair) → IsOther (x ∷ ticks) →
      ended_now k (on_channel (other_of c) (x ∷ (ticks ++ past))) ≡ ended_now k (first_samples row (suc (length ticks)) ++ on_channel (other_of c) past)
  other-now x ticks other =
      ap (ended_now k) (on-append (other_of c) (x ∷ ticks) past ∙ ap (λ xs. xs ++ on_channel (other_of c) past) other)

  abbrev pub found_old : WholeBurst
  found_old = record { channel = c; burst = old_burst }

  abbrev pub found_new : WholeBurst
  found_new = record { channel = other_of c; burst = burst }

  abbrev Found : List Pair → List WholeBurst
  Found ticks = from_on known (length ticks) found_new ++ from_on old_known (length (ticks ++ first)) found_old

  pub all-bursts : (ticks : List Pair) → IsOwn ticks → IsOther ticks → bursts k (ticks ++ past) ≡ bursts k past ++ Found ticks
  all-bursts [] own other =
      sym (ap (λ bs. bursts k past ++ bs) (ap (λ bs. bs ++ from_on old_known (length first) found_old) (found-before known 0 found_new (omega arith))
      ∙ found-before old_known (length first) found_old (omega (arith, outside)))
      ∙ append-nil (bursts k past))
  all-bursts (x ∷ ticks) own other =
      let rest = all-bursts ticks (ap (λ (xs : List Sample). drop 1 xs) own) (ap (λ (xs : List Sample). drop 1 xs) other) in
      let long = length-append ticks first in
      elim (cases_eq (length ticks) known) [
        | inl at ↦ (
            let last : ended_now k (on_channel (other_of c) (x ∷ (ticks ++ past))) ≡ Some burst =
            other-now x ticks other ∙ ap (λ n. ended_now k (first_samples row (suc n) ++ on_channel (other_of c) past)) at ∙ new.ended in
            let none : ended_now k (on_channel c (x ∷ (ticks ++ past))) ≡ None =
            own-now x ticks own
            ∙ ends-once k old_row old_known old_burst (on_channel c before) old (length (ticks ++ first)) (λ e. omega (arith, e, at, long, outside)) in
            let no_old : from_on old_known (length (ticks ++ first)) found_old ≡ [] =
            found-before old_known (length (ticks ++ first)) found_old (omega (arith, at, long, outside)) in
            let no_old_yet : from_on old_known (suc (length (ticks ++ first))) found_old ≡ [] =
            found-before old_known (suc (length (ticks ++ first))) found_old (omega (arith, at, long, outside)) in
            let no_new : from_on known (length ticks) found_new ≡ [] = found-before known (length ticks) found_new (omega (arith, at)) in
            let one_new : from_on known (suc (length ticks)) found_new ≡ found_new ∷ [] =
            found-from known (suc (length ticks)) found_new (omega (arith, at)) in
            two-now k c x (ticks ++ past) None (Some burst) none last
            ∙ ap (λ bs. bursts k (ticks ++ past) ++ bs) (two-other c burst)
            ∙ ap (λ bs. bs ++ (found_new ∷ [])) (rest
            ∙ ap (λ bs. bursts k past ++ bs) (ap (λ bs. bs ++ from_on old_known (length (ticks ++ first)) found_old) no_new ∙ no_old)
            ∙ append-nil (bursts k past))
            ∙ sym (ap (λ bs. bursts k past ++ bs) (ap (λ bs. bs ++ from_on old_known (suc (length (ticks ++ first))) found_old) one_new
            ∙ ap (λ bs. found_new ∷ bs) no_old_yet)))
        | inr apart ↦ (
            let none : ended_now k (on_channel (other_of c) (x ∷ (ticks ++ past))) ≡ None =
            other-now x ticks other ∙ ends-once k row known burst (on_channel (other_of c) past) new (length ticks) apart in
            let new_same : from_on known (suc (length ticks)) found_new ≡ from_on known (length ticks) found_new =
            same-found known (length ticks) found_new apart in
            elim (cases_eq (length (ticks ++ first)) old_known) [
              | inl at ↦ (
                  let last : ended_now k (on_channel c (x ∷ (ticks ++ past))) ≡ Some old_burst =
                  own-now x ticks own ∙ ap (λ n. ended_now k (first_samples old_row (suc n) ++ on_channel c before)) at ∙ old.ended in
                  let no_old : from_on old_known (length (ticks ++ first)) found_old ≡ [] =
                  found-before old_known (length (ticks ++ first)) found_old (omega (arith, at)) in
                  let one_old : from_on old_known (suc (length (ticks ++ first))) found_old ≡ found_old ∷ [] =
                  found-from old_known (suc (length (ticks ++ first))) found_old (omega (arith, at)) in
                  two-now k c x (ticks ++ past) (Some old_burst) None last none
                  ∙ ap (λ bs. bursts k (ticks ++ past) ++ bs) (two-own c old_burst)
                  ∙ ap (λ bs. bs ++ (found_old ∷ [])) (rest ∙ ap (λ bs. bursts k past ++ (from_on known (length ticks) found_new ++ bs)) no_old
                  ∙ ap (λ bs. bursts k past ++ bs) (append-nil (from_on known (length ticks) found_new)))
                  ∙ append_assoc (bursts k past) (from_on known (length ticks) found_new) (found_old ∷ [])
                  ∙ sym (ap (λ bs. bursts k past ++ bs) (ap (λ bs. bs ++ from_on old_known (suc (length (ticks ++ first))) found_old) new_same
                  ∙ ap (λ bs. from_on known (length ticks) found_new ++ bs) one_old)))
              | inr aside ↦ (
                  let still : ended_now k (on_channel c (x ∷ (ticks ++ past))) ≡ None =
                  own-now x ticks own ∙ ends-once k old_row old_known old_burst (on_channel c before) old (length (ticks ++ first)) aside in
                  two-now k c x (ticks ++ past) None None still none
                  ∙ ap (λ bs. bursts k (ticks ++ past) ++ bs) (two-none c)
                  ∙ append-nil (bursts k (ticks ++ past))
                  ∙ rest
                  ∙ sym (ap (λ bs. bursts k past ++ bs) (ap (λ bs. bs ++ from_on old_known (suc (length (ticks ++ first))) found_old) new_same
                  ∙ ap (λ bs. from_on known (length ticks) found_new ++ bs) (same-found old_known (length (ticks ++ first)) found_old aside))))
            ])
      ]

  pub both-found : (ticks : List Pair) → IsOwn ticks → IsOther ticks → known < length ticks → old_known < length (ticks ++ first) →
      bursts k (ticks ++ past) ≡ bursts k past ++ (found_new ∷ found_old ∷ [])
  both-found ticks own other first_late old_late =
      all-bursts ticks own other
      ∙ ap (λ bs. bursts k past ++ bs) (ap (λ bs. bs ++ from_on old_known (length (ticks ++ first)) found_old)
      (found-from known (length ticks) found_new first_late)
      ∙ ap (λ bs. found_new ∷ bs) (found-from old_known (length (ticks ++ first)) found_old old_late))
