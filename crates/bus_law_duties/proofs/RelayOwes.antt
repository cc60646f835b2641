-- Who owes an answer to a relay's commands: the transmitter to the second one, or the receiver to the first, and never both.
use Rattle.std.proofs.Common.{◌≡◌, ◌≢◌, ◌⊎◌, inl, inr, ℕ, Bool, true, false, List, [], ◌∷◌, Option, Some, None, refl, sym, ap, ◌∙◌}
use Rattle.std.proofs.lemmas.Option.{none-some}
use Rattle.std.specs.Prelude.{if◌then◌else◌}
use Rattle.std.specs.Option.{option_or}
use Rattle.bus_base.specs.declared.samples.Channel.{Channel}
use Rattle.bus_words.specs.Fields.{is_broadcast}
use Rattle.bus_words.specs.declared.word.Word.{Word}
use Rattle.bus_formats.specs.Accepted.{HasKindRanges}
use Rattle.bus_formats.specs.Forms.{command_word}
use Rattle.bus_formats.specs.declared.plan.Kind.TheVariants.{Relay}
use Rattle.bus_model.specs.Commands.{Tail, unexpected, relay_from, tail_of}
use Rattle.bus_model.specs.Memory.{Memory}
use Rattle.bus_model.specs.Message.{Present, address_of_station}
use Rattle.bus_model.specs.Orders.{owes, promises, is_for, Order, order_with, last_order, obey_tail}
use Rattle.bus_model.specs.Starts.{has_items}
use Rattle.bus_law_duties.specs.Words.{with_data, AreLeftOf}
use Rattle.bus_law_duties.proofs.Fields.{own-one, own-terminal, for-own}
use Rattle.bus_law_duties.proofs.Found.{same-tail, AtFirst, AtSecond}
use Rattle.bus_law_duties.proofs.Owes.{free-owes}
use Rattle.bus_law_duties.proofs.Relayed.{first, second, from-is, to-is, is-relayed, none-expected}

-- ---- where the command stood that is answered

-- what a terminal owes to an order
abbrev pub OwesOrder : Present → Channel → Memory → Order → List Word → Bool → Type 0
OwesOrder station c memory order words acceptance =
    (obey_tail station.plan.terminal memory c order.command (has_items station.left)
    (tail_of (address_of_station station) order.command order.tail 0)).duty ≡ owes words acceptance

-- with what follows it
by-tail : (station : Present) (c : Channel) (memory : Memory) (order : Order) (words : List Word) (acceptance : Bool) (tail : Tail) →
    tail_of (address_of_station station) order.command order.tail 0 ≡ tail → OwesOrder station c memory order words acceptance →
    (obey_tail station.plan.terminal memory c order.command (has_items station.left) tail).duty ≡ owes words acceptance
by-tail station c memory order words acceptance tail same is =
    sym (ap (λ t. (obey_tail station.plan.terminal memory c order.command (has_items station.left) t).duty) same) ∙ is

-- a promise is no answer owed
promises-owes : (command transmitter : ℕ) (words : List Word) (acceptance : Bool) → promises command transmitter ≡ owes words acceptance → ⊥
promises-owes command transmitter words acceptance is = cc

-- a command alone is an order for its terminal
alone-found : (own bits : ℕ) → is_for own bits ≡ true →
    last_order own (Some (command_word bits) ∷ []) ≡ Some (record { command = bits; tail = [] })
alone-found own bits is = ap (λ (b : Bool). option_or None (order_with (if b then Some bits else None) [])) is

-- of a relay: the receiver, to the first command; not where the second follows it whole and alone
pub record OwesFirst (own to one two : ℕ) (slots : List (Option Word)) : Type 0 where
  pub own_is : own ≡ to
  pub tail : List (Option Word)
  pub shown : slots ≡ Some (command_word one) ∷ tail
  pub other : tail ≢ Some (command_word two) ∷ []

-- the transmitter, to the second one, which is the last word
pub record OwesSecond (own from two : ℕ) (slots : List (Option Word)) : Type 0 where
  pub own_is : own ≡ from
  pub slot : Option Word
  pub shown : slots ≡ slot ∷ Some (command_word two) ∷ []

module _ (from from_sub to to_sub count : ℕ) (ranges : HasKindRanges (Relay from from_sub to to_sub count)) where
  -- the two command words
  abbrev one_bits : ℕ
  one_bits = first from from_sub to to_sub count ranges

  abbrev two_bits : ℕ
  two_bits = second from from_sub to to_sub count ranges

  module _ (station : Present) (c : Channel) (memory : Memory) (order : Order) (words : List Word) (acceptance : Bool) (slots : List (Option Word))
      (is : OwesOrder station c memory order words acceptance) (single : is_broadcast order.command ≡ false) where
    -- the terminal's address
    abbrev own_address : ℕ
    own_address = address_of_station station

    -- the transmitter finds the second command
    not-transmitter : AtFirst own_address one_bits slots order → order.tail ≡ Some (command_word two_bits) ∷ [] → own_address ≢ from
    not-transmitter at follows same =
        none-some record { command = two_bits; tail = [] } (sym at.last ∙ ap (last_order own_address) follows
        ∙ alone-found own_address two_bits (for-own own_address two_bits (own-terminal own_address one_bits at.is) (inl (from-is from from_sub to to_sub count ranges ∙ sym same))))

    -- so the second command doesn't follow the first one whole and alone: that would be a promise
    first-alone : AtFirst own_address one_bits slots order → order.tail ≡ Some (command_word two_bits) ∷ [] → ⊥
    first-alone at follows =
        let relayed : tail_of own_address order.command order.tail 0 ≡ relay_from from =
        ap (λ bits. tail_of own_address bits order.tail 0) at.command ∙ ap (λ tail. tail_of own_address one_bits tail 0) follows
        ∙ is-relayed from from_sub to to_sub count ranges own_address (not-transmitter at follows) in
        promises-owes order.command from words acceptance (by-tail station c memory order words acceptance (relay_from from) relayed is)

    -- who owes to the first command
    owes-first : AtFirst own_address one_bits slots order → OwesFirst own_address to one_bits two_bits slots
    owes-first at = record {
      own_is = sym (own-one own_address one_bits at.is (ap is_broadcast (sym at.command) ∙ single)) ∙ to-is from from_sub to to_sub count ranges;
      tail = order.tail;
      shown = at.shown;
      other = first-alone at;
    }

    -- nothing follows the second command, or it would be answered by nobody
    second-last : (tail : List (Option Word)) → order.tail ≡ tail → AtSecond own_address two_bits slots order → order.tail ≡ []
    second-last [] same at = same
    second-last (slot ∷ later) same at =
        let none : tail_of own_address order.command order.tail 0 ≡ unexpected =
        ap (λ bits. tail_of own_address bits order.tail 0) at.command ∙ ap (λ tail. tail_of own_address two_bits tail 0) same
        ∙ none-expected from from_sub to to_sub count ranges own_address slot later in
        absurd (free-owes words acceptance (by-tail station c memory order words acceptance unexpected none is))

    -- who owes to the second command
    owes-second : AtSecond own_address two_bits slots order → OwesSecond own_address from two_bits slots
    owes-second at = record {
      own_is = sym (own-one own_address two_bits at.is (ap is_broadcast (sym at.command) ∙ single)) ∙ from-is from from_sub to to_sub count ranges;
      slot = at.slot;
      shown = at.shown ∙ ap (λ tail. at.slot ∷ Some (command_word two_bits) ∷ tail) (second-last order.tail refl at);
    }

    -- one of both
    pub relay-owes : (AtFirst own_address one_bits slots order × AreLeftOf (with_data two_bits []) order.tail) ⊎ (AtSecond own_address two_bits slots order × AreLeftOf [] order.tail) →
        OwesFirst own_address to one_bits two_bits slots ⊎ OwesSecond own_address from two_bits slots
    relay-owes (inl at) = inl (owes-first at.0)
    relay-owes (inr at) = inr (owes-second at.0)

-- two that owe something have one address: both commands aren't answered
pub both-owe : (own other from to one two : ℕ) (slots : List (Option Word)) → OwesFirst own to one two slots ⊎ OwesSecond own from two slots →
    OwesFirst other to one two slots ⊎ OwesSecond other from two slots → own ≡ other
both-owe own other from to one two slots (inl a) (inl b) = a.own_is ∙ sym b.own_is
both-owe own other from to one two slots (inr a) (inr b) = a.own_is ∙ sym b.own_is
both-owe own other from to one two slots (inl a) (inr b) =
    absurd (a.other (same-tail (Some (command_word one)) b.slot a.tail (Some (command_word two) ∷ []) (sym a.shown ∙ b.shown)))
both-owe own other from to one two slots (inr a) (inl b) =
    absurd (b.other (same-tail (Some (command_word one)) a.slot b.tail (Some (command_word two) ∷ []) (sym b.shown ∙ a.shown)))
