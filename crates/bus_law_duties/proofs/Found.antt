-- Which command a terminal finds in what faults leave of the words of a burst.
use Rattle.std.proofs.Common.{◌≡◌, ◌≢◌, ◌⊎◌, inl, inr, ℕ, Bool, true, false, List, [], ◌∷◌, map, Option, Some, None, refl, sym, ap, ◌∙◌, subst}
use Rattle.std.proofs.lemmas.Bool.{true≢false}
use Rattle.std.proofs.lemmas.Option.{none-some, same_Some}
use Rattle.std.specs.Prelude.{if◌then◌else◌}
use Rattle.std.specs.Option.{option_or}
use Rattle.bus_words.specs.Fields.{address_of}
use Rattle.bus_words.specs.declared.word.Word.{Word}
use Rattle.bus_formats.specs.Forms.{command_word, data_word}
use Rattle.bus_formats.specs.Readings.{command_in}
use Rattle.bus_formats.specs.declared.fault.Hit.{Hit}
use Rattle.bus_model.specs.Orders.{is_for, command_by, command_for, Order, order_with, last_order}
use Rattle.bus_model.specs.Strikes.{struck}
use Rattle.bus_law_duties.specs.Words.{with_data, added_slot, AreLeftOf}
use Rattle.bus_law_duties.proofs.Fields.{not-for}
use Rattle.bus_law_duties.proofs.Struck.{struck-left}

-- what may be left of one word
abbrev pub IsLeftOf : Word → Option Word → Type 0
IsLeftOf word slot = (slot ≡ Some word) ⊎ (slot ≡ None) ⊎ (slot ≡ added_slot)

-- an option is none, or some value
pub cases-option : {X : Type 0} (o : Option X) → (o ≡ None) ⊎ ((a : X) × (o ≡ Some a))
cases-option None = inl refl
cases-option (Some a) = inr (a, refl)

-- ---- no command

-- a slot without a command
pub no-command : (own : ℕ) (slot : Option Word) (slots : List (Option Word)) → command_in slot ≡ None → last_order own slots ≡ None →
    last_order own (slot ∷ slots) ≡ None
no-command own slot slots none later =
    ap (λ o. option_or o (order_with (command_for own slot) slots)) later ∙ ap (λ o. order_with (command_by own o) slots) none

-- what is left of a data word
pub data-left : (bits : ℕ) (slot : Option Word) → IsLeftOf (data_word bits) slot → command_in slot ≡ None
data-left bits slot (inl whole) = ap command_in whole
data-left bits slot (inr (inl none)) = ap command_in none
data-left bits slot (inr (inr added)) = ap command_in added

-- data words are a command for nobody
pub data-unaddressed : (own : ℕ) (data_words : List ℕ) (slots : List (Option Word)) → AreLeftOf (map data_word data_words) slots →
    last_order own slots ≡ None
data-unaddressed own data_words [] left = refl
data-unaddressed own [] (slot ∷ slots) left = no-command own slot slots (ap command_in left.0) (data-unaddressed own [] slots left.1)
data-unaddressed own (bits ∷ data_words) (slot ∷ slots) left =
    no-command own slot slots (data-left bits slot left.0) (data-unaddressed own data_words slots left.1)

-- ---- the command at the first slot

-- the command is that of the first slot, and the slots after it are the others
pub record AtFirst (own bits : ℕ) (slots : List (Option Word)) (order : Order) : Type 0 where
  pub command : order.command ≡ bits
  pub is : is_for own bits ≡ true
  pub shown : slots ≡ Some (command_word bits) ∷ order.tail
  pub last : last_order own order.tail ≡ None

-- an order is found where the command is for the terminal
with-test : (b : Bool) (bits : ℕ) (tail : List (Option Word)) (order : Order) → order_with (if b then Some bits else None) tail ≡ Some order →
    (b ≡ true) × (order ≡ record { command = bits; tail = tail })
with-test true bits tail order found = (refl, sym (same_Some _ _ found))
with-test false bits tail order found = absurd (none-some order found)

-- where no later slot has one, the order is that of the first slot
pub first-found : (own bits : ℕ) (slot : Option Word) (slots : List (Option Word)) (order : Order) → IsLeftOf (command_word bits) slot →
    last_order own slots ≡ None → last_order own (slot ∷ slots) ≡ Some order → AtFirst own bits (slot ∷ slots) order
first-found own bits slot slots order (inl whole) later found =
    let r = with-test (is_for own bits) bits slots order
    (sym (ap (λ o. option_or o (order_with (command_for own slot) slots)) later ∙ ap (λ s. order_with (command_for own s) slots) whole) ∙ found) in record {
      command = ap (λ (o : Order). o.command) r.1;
      is = r.0;
      shown = ap (λ s. s ∷ slots) whole ∙ ap (λ (o : Order). Some (command_word bits) ∷ o.tail) (sym r.1);
      last = ap (λ (o : Order). last_order own o.tail) r.1 ∙ later;
    }
first-found own bits slot slots order (inr (inl none)) later found =
    absurd (none-some order (sym (no-command own slot slots (ap command_in none) later) ∙ found))
first-found own bits slot slots order (inr (inr added)) later found =
    absurd (none-some order (sym (no-command own slot slots (ap command_in added) later) ∙ found))

-- equal lists have equal rests
pub same-tail : (a b : Option Word) (xs ys : List (Option Word)) → a ∷ xs ≡ b ∷ ys → xs ≡ ys
same-tail a b xs ys same = cc

-- in a command with its data words
pub one-found : (own bits : ℕ) (data_words : List ℕ) (slots : List (Option Word)) (order : Order) → AreLeftOf (with_data bits data_words) slots →
    last_order own slots ≡ Some order → AtFirst own bits slots order × AreLeftOf (map data_word data_words) order.tail
one-found own bits data_words [] order left found = absurd (none-some order found)
one-found own bits data_words (slot ∷ slots) order left found =
    let first = first-found own bits slot slots order left.0 (data-unaddressed own data_words slots left.1) found in
    (first, subst (AreLeftOf (map data_word data_words)) (same-tail slot (Some (command_word bits)) slots order.tail first.shown) left.1)

-- ---- the two commands of a relay

-- the command is that of the second slot
pub record AtSecond (own bits : ℕ) (slots : List (Option Word)) (order : Order) : Type 0 where
  pub slot : Option Word
  pub command : order.command ≡ bits
  pub is : is_for own bits ≡ true
  pub shown : slots ≡ slot ∷ Some (command_word bits) ∷ order.tail

-- what is found in the slots after the first
second-found : (own first second : ℕ) (slot : Option Word) (slots : List (Option Word)) (order later : Order) → AreLeftOf (with_data second []) slots →
    last_order own slots ≡ Some later → last_order own (slot ∷ slots) ≡ Some order → AtSecond own second (slot ∷ slots) order × AreLeftOf [] order.tail
second-found own first second slot slots order later left inner found =
    let same : later ≡ order = same_Some later order (sym (ap (λ o. option_or o (order_with (command_for own slot) slots)) inner) ∙ found) in
    let at = one-found own second [] slots later left inner in (
      record {
        slot = slot;
        command = ap (λ (o : Order). o.command) (sym same) ∙ at.0.command;
        is = at.0.is;
        shown = ap (λ s. slot ∷ s) at.0.shown ∙ ap (λ (o : Order). slot ∷ Some (command_word second) ∷ o.tail) same;
      },
      subst (λ (o : Order). AreLeftOf [] o.tail) same at.1,
    )

-- the order of a relay, by what is found after the first slot
relay-by : (own first second : ℕ) (slot : Option Word) (slots : List (Option Word)) (order : Order) → IsLeftOf (command_word first) slot →
    AreLeftOf (with_data second []) slots → last_order own (slot ∷ slots) ≡ Some order →
    (last_order own slots ≡ None) ⊎ ((later : Order) × (last_order own slots ≡ Some later)) →
    (AtFirst own first (slot ∷ slots) order × AreLeftOf (with_data second []) order.tail) ⊎ (AtSecond own second (slot ∷ slots) order × AreLeftOf [] order.tail)
relay-by own first second slot slots order one left found (inl none) =
    let at = first-found own first slot slots order one none found in
    inl (at, subst (AreLeftOf (with_data second [])) (same-tail slot (Some (command_word first)) slots order.tail at.shown) left)
relay-by own first second slot slots order one left found (inr later) =
    inr (second-found own first second slot slots order later.0 left later.1 found)

-- it is that of the first command or of the second
pub relay-found : (own first second : ℕ) (slots : List (Option Word)) (order : Order) → AreLeftOf (command_word first ∷ with_data second []) slots →
    last_order own slots ≡ Some order →
    (AtFirst own first slots order × AreLeftOf (with_data second []) order.tail) ⊎ (AtSecond own second slots order × AreLeftOf [] order.tail)
relay-found own first second [] order left found = absurd (none-some order found)
relay-found own first second (slot ∷ slots) order left found =
    relay-by own first second slot slots order left.0 left.1 found (cases-option (last_order own slots))

-- ---- an answer

-- what is left of a status with data words is a command for no other terminal
unaddressed : (own status : ℕ) (data_words : List ℕ) (slots : List (Option Word)) → is_for own status ≡ false → AreLeftOf (with_data status data_words) slots →
    (last_order own slots ≡ None) ⊎ ((order : Order) × (last_order own slots ≡ Some order)) → last_order own slots ≡ None
unaddressed own status data_words slots other left (inl none) = none
unaddressed own status data_words slots other left (inr found) =
    absurd (true≢false (sym (one-found own status data_words slots found.0 left found.1).0.is ∙ other))

pub left-unaddressed : (status own : ℕ) (data_words : List ℕ) (slots : List (Option Word)) → address_of status ≢ own → address_of status ≢ 31 →
    AreLeftOf (with_data status data_words) slots → last_order own slots ≡ None
left-unaddressed status own data_words slots apart one left =
    unaddressed own status data_words slots (not-for own status apart one) left (cases-option (last_order own slots))

-- so with any hits
pub answer-unaddressed : (hits : List Hit) (status own : ℕ) (data_words : List ℕ) → address_of status ≢ own → address_of status ≢ 31 →
    last_order own (struck hits (with_data status data_words)) ≡ None
answer-unaddressed hits status own data_words apart one =
    left-unaddressed status own data_words (struck hits (with_data status data_words)) apart one (struck-left hits (with_data status data_words))
