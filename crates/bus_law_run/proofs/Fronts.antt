-- What was found in the world in earlier ticks is a front of what is found later.
use Rattle.std.proofs.Common.{◌≡◌, inl, inr, ℕ, zero, suc, ◌+◌, ◌≤◌, Bool, true, false, List, [], ◌∷◌, ◌++◌, length, refl, sym, ap, ◌∙◌, subst, arith, append_assoc, length-append}
use Rattle.std.proofs.lemmas.Bool.{cases_eq}
use Rattle.std.proofs.lemmas.List.{append-nil}
use Rattle.std.specs.Prelude.{if◌then◌else◌}
use Rattle.std.specs.List.{AllByRecursion as Each}
use Rattle.bus_base.specs.declared.samples.Channel.{Channel}
use Rattle.bus_base.specs.declared.samples.Pair.{Pair}
use Rattle.bus_line.specs.Channels.{valid, bursts}
use Rattle.bus_model.specs.Log.{is_before, with_entry, in_order}
use Rattle.bus_model.specs.WorldLog.{attempts}
use Rattle.bus_law_table.specs.Happened.{blocks_found}
use Rattle.bus_law_phases.specs.Scenarios.{Scenario, StaysFrom, shown_at, attempts_in, blocks_in}
use Rattle.bus_law_phases.proofs.Staying.{newest, shown-next, stays-later}

-- what is found in the first ticks, and what more in later ones
abbrev pub IsFront : {X : Type 0} → List X → List X → Type 0
IsFront {X} firsts all = (more : List X) × (all ≡ firsts ++ more)

module _ {X : Type 0} (w : Scenario) (a : ℕ) (f : List Pair → List X) (grows : (t : ℕ) → a ≤ t → IsFront (f (shown_at w t)) (f (shown_at w (suc t)))) where
  front : (t u : ℕ) → a ≤ t → t ≤ u → IsFront (f (shown_at w t)) (f (shown_at w u))
  front t zero from few = let same : t ≡ zero = omega (arith, few) in ([], ap (λ n. f (shown_at w n)) (sym same) ∙ sym (append-nil (f (shown_at w t))))
  front t (suc u) from few = elim (cases_eq t (suc u)) [
    | inl same ↦ ([], ap (λ n. f (shown_at w n)) (sym same) ∙ sym (append-nil (f (shown_at w t))))
    | inr other ↦ (let before = front t u from (omega (arith, few, other)) in let now = grows u (omega (arith, from, few, other)) in
        (before.0 ++ now.0, now.1 ∙ ap (λ xs. xs ++ now.0) before.1 ∙ append_assoc (f (shown_at w t)) before.0 now.0))
  ]

module _ (w : Scenario) (a : ℕ) (stays : StaysFrom w a) where
  next-shown : (t : ℕ) → a ≤ t → shown_at w (suc t) ≡ newest w t ∷ shown_at w t
  next-shown t from = shown-next w t (stays-later w a t from stays)

  pub attempts-front : (t u : ℕ) → a ≤ t → t ≤ u → IsFront (attempts_in w (shown_at w t)) (attempts_in w (shown_at w u))
  unfolding attempts
  attempts-front = front w a (attempts_in w) (λ t from. (_, ap (attempts_in w) (next-shown t from)))

  pub bursts-front : (t u : ℕ) → a ≤ t → t ≤ u → IsFront (bursts w.lag (shown_at w t)) (bursts w.lag (shown_at w u))
  unfolding bursts
  bursts-front = front w a (bursts w.lag) (λ t from. (_, ap (bursts w.lag) (next-shown t from)))

  pub blocks-front : (t u : ℕ) → a ≤ t → t ≤ u → IsFront (blocks_in w (shown_at w t)) (blocks_in w (shown_at w u))
  unfolding blocks_found
  blocks-front = front w a (blocks_in w) (λ t from. (_, ap (blocks_in w) (next-shown t from)))

  pub words-front : (t u : ℕ) → a ≤ t → t ≤ u → IsFront (valid w.lag (shown_at w t)) (valid w.lag (shown_at w u))
  unfolding valid
  words-front = front w a (valid w.lag) (λ t from. (_, ap (valid w.lag) (next-shown t from)))

-- ---- so there are fewer, and what holds of each later one holds of them

pub front-few : {X : Type 0} (firsts all : List X) → IsFront firsts all → length firsts ≤ length all
front-few firsts all is =
    let long : length all ≡ length firsts + length is.0 = ap length is.1 ∙ length-append firsts is.0 in omega (arith, long)

each-left : {X : Type 0} (P : X → Type 0) (firsts more : List X) → Each P (firsts ++ more) → Each P firsts
each-left P [] more each = tt
each-left P (x ∷ firsts) more each = (each.0, each-left P firsts more each.1)

pub front-each : {X : Type 0} (P : X → Type 0) (firsts all : List X) → IsFront firsts all → Each P all → Each P firsts
front-each P firsts all is each = each-left P firsts is.0 (subst (Each P) is.1 each)

-- ---- a list in order is as long as it was

module _ {X : Type 0} (tick_of : X → ℕ) (channel_of : X → Channel) where
  either-long : (b : Bool) (n : ℕ) (xs ys : List X) → length xs ≡ n → length ys ≡ n → length (if b then xs else ys) ≡ n
  either-long true n xs ys first second = first
  either-long false n xs ys first second = second

  with-long : (x : X) (xs : List X) → length (with_entry tick_of channel_of x xs) ≡ suc (length xs)
  with-long x [] = refl
  with-long x (y ∷ ys) =
      either-long (is_before (tick_of x) (channel_of x) (tick_of y)) (suc (suc (length ys))) (x ∷ y ∷ ys) (y ∷ with_entry tick_of channel_of x ys) refl
      (ap suc (with-long x ys))

  pub ordered-long : (xs : List X) → length (in_order tick_of channel_of xs) ≡ length xs
  ordered-long [] = refl
  ordered-long (x ∷ xs) = with-long x (in_order tick_of channel_of xs) ∙ ap suc (ordered-long xs)
