-- Who promises something to a command.
use Rattle.std.proofs.Common.{◌≡◌, ◌⊎◌, inl, inr, ℕ, List, [], ◌∷◌, Option, Some, refl, sym, ap, ◌∙◌, subst}
use Rattle.bus_base.specs.declared.samples.Channel.{Channel}
use Rattle.bus_words.specs.Fields.{address_of}
use Rattle.bus_words.specs.declared.word.Word.{Word}
use Rattle.bus_formats.specs.Accepted.{HasKindRanges}
use Rattle.bus_formats.specs.Forms.{command_word, command_words}
use Rattle.bus_formats.specs.Plans.{ItemData}
use Rattle.bus_formats.specs.declared.fault.Hit.{Hit}
use Rattle.bus_formats.specs.declared.plan.Kind.{Kind}
use Rattle.bus_formats.specs.declared.plan.Kind.TheVariants.{Receive, Transmit, Relay, Mode}
use Rattle.bus_model.specs.Commands.{relay_from, tail_of}
use Rattle.bus_model.specs.Memory.{TimedLoad}
use Rattle.bus_model.specs.Message.{Present, address_of_station, After, unmoved, memory_at, command_burst}
use Rattle.bus_model.specs.Orders.{free, promises, Order, last_order}
use Rattle.bus_model.specs.Starts.{has_items}
use Rattle.bus_model.specs.Strikes.{struck}
use Rattle.bus_law_duties.specs.Words.{with_data, AreLeftOf}
use Rattle.bus_law_duties.specs.Duties.{PromisesToRelay, PromisesToCommand}
use Rattle.bus_law_duties.proofs.Fields.{own-or-all, own-terminal, OneCommand, one-command}
use Rattle.bus_law_duties.proofs.Found.{AtFirst, AtSecond, one-found, relay-found}
use Rattle.bus_law_duties.proofs.Obeys.{after, Obeys, obeys-or-not}
use Rattle.bus_law_duties.proofs.Owed.{tail-promised}
use Rattle.bus_law_duties.proofs.Relayed.{data-promised, Relayed, second-promised, relay-other, first, second, from-is, to-is}
use Rattle.bus_law_duties.proofs.Struck.{struck-left}

-- nothing promised is no promise
pub free-promises : (command transmitter : ℕ) → free ≡ promises command transmitter → ⊥
free-promises command transmitter is = cc

-- an order whose words after it are a relay's
pub record Asked (own command transmitter : ℕ) (order : Order) : Type 0 where
  pub command_is : command ≡ order.command
  pub relayed : tail_of own order.command order.tail 0 ≡ relay_from transmitter

-- who finds such an order, by the kind of the message
module _ (own : ℕ) (slots : List (Option Word)) (order : Order) (found : last_order own slots ≡ Some order) (command transmitter : ℕ)
    (asked : Asked own command transmitter order) where
  -- in a message to one address nobody
  one-asked : (kind : Kind) → OneCommand kind → AreLeftOf (command_words kind) slots → ⊥
  one-asked kind one left =
      let at = one-found own one.bits one.data_words slots order (subst (λ ws. AreLeftOf ws slots) one.words_are left) found in
      data-promised own order.command transmitter one.data_words order.tail at.1 asked.relayed

  module _ (from from_sub to to_sub count : ℕ) (ranges : HasKindRanges (Relay from from_sub to to_sub count)) where
    -- the two command words of a relay
    abbrev one : ℕ
    one = first from from_sub to to_sub count ranges

    abbrev two : ℕ
    two = second from from_sub to to_sub count ranges

    -- a receiver is named by itself, or with all
    named-by : (address : ℕ) → address ≡ to → (address ≡ own) ⊎ (address ≡ 31) → (to ≡ own) ⊎ (to ≡ 31)
    named-by address same (inl is) = inl (sym same ∙ is)
    named-by address same (inr all) = inr (sym same ∙ all)

    -- in a relay its receivers, by the first command, where the second follows it whole
    relay-asked : (AtFirst own one slots order × AreLeftOf (with_data two []) order.tail) ⊎ (AtSecond own two slots order × AreLeftOf [] order.tail) →
        PromisesToRelay from from_sub to to_sub count own command transmitter slots
    relay-asked (inr at) = absurd (data-promised own order.command transmitter [] order.tail at.1 asked.relayed)
    relay-asked (inl at) =
        let by : Relayed own one two transmitter order.tail = second-promised own one two transmitter order.tail at.1
        (sym (ap (λ bits. tail_of own bits order.tail 0) at.0.command) ∙ asked.relayed) in record {
          receiver = record {
            terminal = own-terminal own one at.0.is;
            other = λ same. relay-other own one two by.relay (same ∙ sym (from-is from from_sub to to_sub count ranges));
            named = named-by (address_of one) (to-is from from_sub to to_sub count ranges) (own-or-all own one at.0.is);
          };
          command_is = asked.command_is ∙ at.0.command;
          transmitter_is = by.transmitter_is ∙ from-is from from_sub to to_sub count ranges;
          whole = at.0.shown ∙ ap (λ s. Some (command_word one) ∷ s) by.shown;
        }

  -- so by each kind of message
  kind-asked : (kind : Kind) → HasKindRanges kind → AreLeftOf (command_words kind) slots → PromisesToCommand kind own command transmitter slots
  kind-asked (Receive to sub words) ranges left = one-asked (Receive to sub words) (one-command (Receive to sub words) ranges refl) left
  kind-asked (Transmit from sub count) ranges left = one-asked (Transmit from sub count) (one-command (Transmit from sub count) ranges refl) left
  kind-asked (Relay from from_sub to to_sub count) ranges left =
      relay-asked from from_sub to to_sub count ranges
      (relay-found own (first from from_sub to to_sub count ranges) (second from from_sub to to_sub count ranges) slots order left found)
  kind-asked (Mode to mode_sub transmit code word) ranges left =
      one-asked (Mode to mode_sub transmit code word) (one-command (Mode to mode_sub transmit code word) ranges refl) left

module _ (k : ℕ) (loads : List TimedLoad) (c : Channel) (start : ℕ) (hits : List Hit) (item : ItemData) (station : Present) where
  -- by whether the station obeyed
  promised-by : (command transmitter : ℕ) → HasKindRanges item.kind → (after k loads c start hits item station).duty ≡ promises command transmitter →
      (after k loads c start hits item station ≡ unmoved station) ⊎ ((order : Order) × Obeys k loads c start hits item station order) →
      PromisesToCommand item.kind (address_of_station station) command transmitter (struck hits (command_words item.kind))
  promised-by command transmitter ranges is (inl same) = absurd (free-promises command transmitter (sym (ap (λ (a : After). a.duty) same) ∙ is))
  promised-by command transmitter ranges is (inr (order, obeys)) =
      let found = tail-promised station.plan.terminal (memory_at k loads (command_burst c start hits item) station) c order.command (has_items station.left)
      (tail_of (address_of_station station) order.command order.tail 0) command transmitter (sym (ap (λ (a : After). a.duty) obeys.is) ∙ is) in
      kind-asked (address_of_station station) (struck hits (command_words item.kind)) order obeys.found command transmitter
      (record { command_is = found.0; relayed = found.1 }) item.kind ranges (struck-left hits (command_words item.kind))

  -- so a station that promises is a relay's receiver
  pub who-promises : (command transmitter : ℕ) → HasKindRanges item.kind → (after k loads c start hits item station).duty ≡ promises command transmitter →
      PromisesToCommand item.kind (address_of_station station) command transmitter (struck hits (command_words item.kind))
  who-promises command transmitter ranges is = promised-by command transmitter ranges is (obeys-or-not k loads c start hits item station)
