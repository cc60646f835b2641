-- Which burst is handled in a tick, where one is.
use Rattle.std.proofs.Common.{◌≡◌, ℕ, ◌+◌, ◌&&◌, nat_le, List, ◌∷◌, length, Option, Some, None, refl, subst, arith}
use Rattle.std.specs.Prelude.{⊤}
use Rattle.std.specs.Option.{option_or}
use Rattle.bus_base.specs.declared.samples.Channel.{Channel}
use Rattle.bus_base.specs.declared.samples.Channel.TheVariants.{A, B}
use Rattle.bus_words.specs.declared.word.Word.{Word}
use Rattle.bus_line.specs.Past.{Burst, ended_now, end_of, rest_of}
use Rattle.bus_line.proofs.LookUpLaws.{ended-known}
use Rattle.bus_formats.specs.Plans.{TerminalData}
use Rattle.bus_formats.specs.Times.{relay_wait}
use Rattle.bus_model.specs.Orders.{Order, last_order}
use Rattle.bus_model.specs.Hearing.{Moment, heard_on}
use Rattle.bus_model.specs.Standing.{Standing, Handled, obeys, settles, runs_out, ignored_from, mark_on, outrun, promised_on}
use Rattle.bus_model.specs.Terminal.{order_by, order_of, order_on, running_out, order_now}
use Rattle.bus_law_ticks.proofs.Choices.{by-test}
use Rattle.bus_law_ticks.proofs.Heard.{length-heard}

-- a command comes with the slots after it in a burst that ended in the newest tick, and what is taken for a promise is such a burst
abbrev pub IsOf : ℕ → TerminalData → List Moment → Handled → Type 0
IsOf k terminal ticks (obeys c end order rest) =
    (burst : Burst) × (ended_now k (heard_on c ticks) ≡ Some burst) × (last_order terminal.address burst.slots ≡ Some order) × (end ≡ end_of burst)
    × (rest ≡ rest_of burst)
IsOf k terminal ticks (settles end slots rest) =
    (c : Channel) × (burst : Burst) × (ended_now k (heard_on c ticks) ≡ Some burst) × (slots ≡ burst.slots) × (end ≡ end_of burst) × (rest ≡ rest_of burst)
IsOf k terminal ticks runs_out = ⊤

abbrev pub IsOfIf : ℕ → TerminalData → List Moment → Option Handled → Type 0
IsOfIf k terminal ticks None = ⊤
IsOfIf k terminal ticks (Some order) = IsOf k terminal ticks order

module _ (k : ℕ) (terminal : TerminalData) (ticks : List Moment) (s : Standing) where
  by-last : (c : Channel) (burst : Burst) (last : Option Order) → ended_now k (heard_on c ticks) ≡ Some burst →
      last_order terminal.address burst.slots ≡ last → IsOfIf k terminal ticks (order_by k terminal s c burst last)
  by-last c burst (Some last) ended found =
      by-test (IsOfIf k terminal ticks) (outrun s c) None (Some (obeys c (end_of burst) last (rest_of burst))) (λ _. tt) (λ _. (burst, ended, found, refl, refl))
  by-last c burst None ended found =
      by-test (IsOfIf k terminal ticks) (promised_on k s c && nat_le burst.first (s.end + relay_wait))
      (Some (settles (end_of burst) burst.slots (rest_of burst))) None (λ _. (c, burst, ended, refl, refl, refl)) (λ _. tt)

  by-ended : (c : Channel) (o : Option Burst) → ended_now k (heard_on c ticks) ≡ o → IsOfIf k terminal ticks (order_of k terminal s c o)
  by-ended c None ended = tt
  by-ended c (Some burst) ended = by-last c burst (last_order terminal.address burst.slots) ended refl

  out-of : IsOfIf k terminal ticks (running_out k terminal ticks s)
  out-of = by-test (IsOfIf k terminal ticks) _ (Some runs_out) None (λ _. tt) (λ _. tt)

  or-of : (o p : Option Handled) → IsOfIf k terminal ticks o → IsOfIf k terminal ticks p → IsOfIf k terminal ticks (option_or o p)
  or-of None p h g = g
  or-of (Some order) p h g = h

on-of : (k : ℕ) (terminal : TerminalData) (now : Moment) (past : List Moment) (s : Standing) (c : Channel) →
    IsOfIf k terminal (now ∷ past) (order_on k terminal (now ∷ past) s c)
on-of k terminal now past s c =
    by-test (IsOfIf k terminal (now ∷ past)) (ignored_from k (heard_on c past) (mark_on s.sent c)) None _ (λ _. tt)
    (λ _. by-ended k terminal (now ∷ past) s c (ended_now k (heard_on c (now ∷ past))) refl)

-- what is handled in the newest tick
now-of : (k : ℕ) (terminal : TerminalData) (now : Moment) (past : List Moment) (s : Standing) →
    IsOfIf k terminal (now ∷ past) (order_now k terminal (now ∷ past) s)
now-of k terminal now past s =
    or-of k terminal (now ∷ past) s _ _ (on-of k terminal now past s A)
    (or-of k terminal (now ∷ past) s _ _ (on-of k terminal now past s B) (out-of k terminal (now ∷ past) s))

pub handled-of : (k : ℕ) (terminal : TerminalData) (now : Moment) (past : List Moment) (s : Standing) (order : Handled) →
    order_now k terminal (now ∷ past) s ≡ Some order → IsOf k terminal (now ∷ past) order
handled-of k terminal now past s order is = subst (IsOfIf k terminal (now ∷ past)) is (now-of k terminal now past s)

-- the end of a burst is known k ticks after it
pub end-known : (k : ℕ) (c : Channel) (now : Moment) (past : List Moment) (burst : Burst) (end : ℕ) → ended_now k (heard_on c (now ∷ past)) ≡ Some burst →
    end ≡ end_of burst → end + k ≡ length past
end-known k c now past burst end ended is =
    let known = ended-known k (heard_on c (now ∷ past)) burst ended in
    let at = known.now in
    let long = length-heard c past in
    omega (arith, at, long, is)

pub obeyed-known : (k : ℕ) (terminal : TerminalData) (s : Standing) (now : Moment) (past : List Moment) (c : Channel) (end rest : ℕ) (order : Order) →
    order_now k terminal (now ∷ past) s ≡ Some (obeys c end order rest) → end + k ≡ length past
obeyed-known k terminal s now past c end rest order is =
    let of = handled-of k terminal now past s (obeys c end order rest) is in end-known k c now past of.0 end of.1 of.3

pub settled-known : (k : ℕ) (terminal : TerminalData) (s : Standing) (now : Moment) (past : List Moment) (end rest : ℕ) (slots : List (Option Word)) →
    order_now k terminal (now ∷ past) s ≡ Some (settles end slots rest) → end + k ≡ length past
settled-known k terminal s now past end rest slots is =
    let of = handled-of k terminal now past s (settles end slots rest) is in end-known k of.0 now past of.1 end of.2 of.4
