-- The last command in the slots of a burst, and the slots kept after it, with one slot more.
use Rattle.std.proofs.Common.{◌≡◌, ℕ, true, false, nat_lt, List, [], ◌∷◌, ◌++◌, length, take, Option, Some, None, refl, sym, ap, ◌∙◌, arith, inl, inr, length-append}
use Rattle.std.specs.Option.{option_or}
use Rattle.std.proofs.lemmas.Bool.{cases_lt, lt-ltb, le-ltb}
use Rattle.std.proofs.lemmas.List.{length-take-le, take-append-le, take_all}
use Rattle.bus_words.specs.declared.word.Word.{Word}
use Rattle.bus_model.specs.Orders.{Order, last_order, order_with, command_for}
use Rattle.bus_ears.specs.Ears.{Holds}
use Rattle.bus_ears.specs.Steps.{kept_with}

-- a command for the terminal is the last one
pub push-command : (own : ℕ) (slots : List (Option Word)) (word : Option Word) (command : ℕ) → command_for own word ≡ Some command →
    last_order own (slots ++ word ∷ []) ≡ Some record { command = command; tail = [] }
push-command own [] word command e = rw e refl
push-command own (slot ∷ slots) word command e = rw (push-command own slots word command e) refl

abbrev pub longer : Option Word → Option Order → Option Order
longer word None = None
longer word (Some order) = Some record { command = order.command; tail = order.tail ++ word ∷ [] }

longer-joins : (word : Option Word) (last : Option Order) (command : Option ℕ) (slots : List (Option Word)) →
    option_or (longer word last) (order_with command (slots ++ word ∷ [])) ≡ longer word (option_or last (order_with command slots))
longer-joins word (Some order) command slots = refl
longer-joins word None None slots = refl
longer-joins word None (Some command) slots = refl

-- another slot follows it
pub push-other : (own : ℕ) (slots : List (Option Word)) (word : Option Word) → command_for own word ≡ None →
    last_order own (slots ++ word ∷ []) ≡ longer word (last_order own slots)
push-other own [] word e = rw e refl
push-other own (slot ∷ slots) word e = rw (push-other own slots word e) (longer-joins word (last_order own slots) (command_for own slot) slots)

-- what is kept of one slot more
pub take-kept : (most : ℕ) (slots : List (Option Word)) (word : Option Word) → kept_with most (take most slots) word ≡ take most (slots ++ word ∷ [])
take-kept most slots word = elim (cases_lt (length slots) most) [
  | inl less ↦ (let all : take most slots ≡ slots = take_all most slots (omega (arith, less)) in
      let room : nat_lt (length slots) most ≡ true = lt-ltb (length slots) most less in
      let more : take most (slots ++ word ∷ []) ≡ slots ++ word ∷ [] = take_all most (slots ++ word ∷ []) (omega (arith, less, length-append slots (word ∷ []))) in
      rw (all, room, more) refl)
  | inr full ↦ (let count : length (take most slots) ≡ most = length-take-le most slots (omega (arith, full)) in
      let none : nat_lt (length (take most slots)) most ≡ false = le-ltb (length (take most slots)) most (omega (arith, count)) in
      let same : take most (slots ++ word ∷ []) ≡ take most slots = take-append-le most slots (word ∷ []) (omega (arith, full)) in
      rw (none, same) refl)
]

abbrev no_slots : List (Option Word)
no_slots = []

take-none : (most : ℕ) → no_slots ≡ take most no_slots
take-none most = sym (take_all most no_slots (omega arith))

pub holds-none : (most own : ℕ) → Holds most own None [] []
holds-none most own = (refl, take-none most)

pub holds-command : (most own : ℕ) (slots : List (Option Word)) (word : Option Word) (command : ℕ) → command_for own word ≡ Some command →
    Holds most own (Some command) [] (slots ++ word ∷ [])
holds-command most own slots word command e = ([], push-command own slots word command e, take-none most)

pub holds-other : (most own : ℕ) (last : Option ℕ) (kept slots : List (Option Word)) (word : Option Word) → command_for own word ≡ None →
    Holds most own last kept slots → Holds most own last (kept_with most kept word) (slots ++ word ∷ [])
holds-other most own None kept slots word e h =
    (push-other own slots word e ∙ ap (longer word) h.0, rw h.1 (take-kept most slots word))
holds-other most own (Some command) kept slots word e (tail, found, is_kept) =
    (tail ++ word ∷ [], push-other own slots word e ∙ ap (longer word) found, rw is_kept (take-kept most tail word))
