-- Who owes an answer to a command, and what.
use Rattle.std.proofs.Common.{◌≡◌, ◌≢◌, ◌⊎◌, inl, inr, ℕ, ◌+◌, Bool, true, false, List, [], Option, Some, refl, sym, ap, ◌∙◌, subst, arith, All, Contains}
use Rattle.std.proofs.lemmas.Bool.{true≢false}
use Rattle.bus_base.specs.declared.samples.Channel.{Channel}
use Rattle.bus_words.specs.Fields.{is_broadcast}
use Rattle.bus_words.specs.declared.word.Word.{Word}
use Rattle.bus_formats.specs.Accepted.{HasKindRanges, addresses_named}
use Rattle.bus_formats.specs.Codes.{dynamic_bus_control}
use Rattle.bus_formats.specs.Forms.{command_words}
use Rattle.bus_formats.specs.Plans.{ItemData}
use Rattle.bus_formats.specs.declared.fault.Hit.{Hit}
use Rattle.bus_formats.specs.declared.plan.Kind.{Kind}
use Rattle.bus_formats.specs.declared.plan.Kind.TheVariants.{Receive, Transmit, Relay, Mode}
use Rattle.bus_model.specs.Attempts.{is_offer}
use Rattle.bus_model.specs.Commands.{tail_of, has_code}
use Rattle.bus_model.specs.Memory.{TimedLoad}
use Rattle.bus_model.specs.Message.{Present, address_of_station, After, unmoved, memory_at, command_burst}
use Rattle.bus_model.specs.Orders.{free, owes, Order, last_order}
use Rattle.bus_model.specs.Starts.{has_items}
use Rattle.bus_model.specs.Strikes.{burst_end, struck}
use Rattle.bus_law_duties.specs.Words.{with_data, AreLeftOf}
use Rattle.bus_law_duties.specs.Ranges.{HasPresentRanges, HasTimedLoadRanges}
use Rattle.bus_law_duties.specs.Duties.{OwesToCommand}
use Rattle.bus_law_duties.proofs.Fields.{no-code, own-one, own-terminal, OneCommand, one-command}
use Rattle.bus_law_duties.proofs.Found.{AtFirst, AtSecond, one-found, relay-found}
use Rattle.bus_law_duties.proofs.Obeys.{after, obeyed, Obeys, obeys-or-not}
use Rattle.bus_law_duties.proofs.Owed.{Owed, tail-owed}
use Rattle.bus_law_duties.proofs.Relayed.{first, second, first-not-mode, second-not-mode, from-is, to-is}
use Rattle.bus_law_duties.proofs.Sent.{loads-ranges}
use Rattle.bus_law_duties.proofs.Status.{status-address}
use Rattle.bus_law_duties.proofs.Struck.{struck-left}

-- nothing owed is no answer owed
pub free-owes : (words : List Word) (acceptance : Bool) → free ≡ owes words acceptance → ⊥
free-owes words acceptance is = cc

-- ---- whom a command names

-- a terminal for which a command of this kind is
pub record Named (kind : Kind) (own command : ℕ) : Type 0 where
  pub terminal : own ≢ 31
  pub named : is_broadcast command ≡ false → Contains (addresses_named kind) own
  pub offer : has_code command dynamic_bus_control ≡ true → is_offer kind ≡ true

-- the command of a message to one address names it
one-named : (kind : Kind) (own : ℕ) (slots : List (Option Word)) (order : Order) → OneCommand kind → AreLeftOf (command_words kind) slots →
    last_order own slots ≡ Some order → Named kind own order.command
one-named kind own slots order one left found =
    let at = (one-found own one.bits one.data_words slots order (subst (λ ws. AreLeftOf ws slots) one.words_are left) found).0 in record {
      terminal = own-terminal own one.bits at.is;
      named = λ single. let same : one.address ≡ own
          = sym one.at ∙ own-one own one.bits at.is (ap is_broadcast (sym at.command) ∙ single) in
          subst (λ addresses. Contains addresses own) (sym one.named) (0, omega arith, same);
      offer = λ is. sym one.offer ∙ ap (λ bits. has_code bits dynamic_bus_control) (sym at.command) ∙ is;
    }

module _ (from from_sub to to_sub count : ℕ) (ranges : HasKindRanges (Relay from from_sub to to_sub count)) where
  -- the two command words of a relay
  abbrev one : ℕ
  one = first from from_sub to to_sub count ranges

  abbrev two : ℕ
  two = second from from_sub to to_sub count ranges

  -- the first names the receiver, and the second the transmitter
  relay-named : (own : ℕ) (slots : List (Option Word)) (order : Order) →
      (AtFirst own one slots order × AreLeftOf (with_data two []) order.tail) ⊎ (AtSecond own two slots order × AreLeftOf [] order.tail) →
      Named (Relay from from_sub to to_sub count) own order.command
  relay-named own slots order (inl at) = record {
    terminal = own-terminal own one at.0.is;
    named = λ single. let same : to ≡ own = sym (to-is from from_sub to to_sub count ranges)
        ∙ own-one own one at.0.is (ap is_broadcast (sym at.0.command) ∙ single) in (1, omega arith, same);
    offer = λ is. absurd (true≢false (sym is ∙ ap (λ bits. has_code bits dynamic_bus_control) at.0.command
        ∙ no-code one dynamic_bus_control (first-not-mode from from_sub to to_sub count ranges)));
  }
  relay-named own slots order (inr at) = record {
    terminal = own-terminal own two at.0.is;
    named = λ single. let same : from ≡ own = sym (from-is from from_sub to to_sub count ranges)
        ∙ own-one own two at.0.is (ap is_broadcast (sym at.0.command) ∙ single) in (0, omega arith, same);
    offer = λ is. absurd (true≢false (sym is ∙ ap (λ bits. has_code bits dynamic_bus_control) at.0.command
        ∙ no-code two dynamic_bus_control (second-not-mode from from_sub to to_sub count ranges)));
  }

-- so of each kind of message
kind-named : (kind : Kind) (own : ℕ) (slots : List (Option Word)) (order : Order) → HasKindRanges kind → AreLeftOf (command_words kind) slots →
    last_order own slots ≡ Some order → Named kind own order.command
kind-named (Receive to sub words) own slots order ranges left found =
    one-named (Receive to sub words) own slots order (one-command (Receive to sub words) ranges refl) left found
kind-named (Transmit from sub count) own slots order ranges left found =
    one-named (Transmit from sub count) own slots order (one-command (Transmit from sub count) ranges refl) left found
kind-named (Relay from from_sub to to_sub count) own slots order ranges left found =
    relay-named from from_sub to to_sub count ranges own slots order
    (relay-found own (first from from_sub to to_sub count ranges) (second from from_sub to to_sub count ranges) slots order left found)
kind-named (Mode to mode_sub transmit code word) own slots order ranges left found =
    one-named (Mode to mode_sub transmit code word) own slots order (one-command (Mode to mode_sub transmit code word) ranges refl) left found

-- ---- what a station owes

module _ (k : ℕ) (loads : List TimedLoad) (c : Channel) (start : ℕ) (hits : List Hit) (item : ItemData) (station : Present) where
  -- a station that owes something obeyed an order, and owes it to that
  pub record OwesTo (words : List Word) (acceptance : Bool) : Type 0 where
    pub order : Order
    pub obeys : Obeys k loads c start hits item station order
    pub owed : Owed station.plan.terminal (memory_at k loads (command_burst c start hits item) station) order.command (has_items station.left)
        (obeyed k loads c start hits item station order) words acceptance

  -- by whether it obeyed
  owes-by : (words : List Word) (acceptance : Bool) → (after k loads c start hits item station).duty ≡ owes words acceptance →
      (after k loads c start hits item station ≡ unmoved station) ⊎ ((order : Order) × Obeys k loads c start hits item station order) →
      OwesTo words acceptance
  owes-by words acceptance is (inl same) = absurd (free-owes words acceptance (sym (ap (λ (a : After). a.duty) same) ∙ is))
  owes-by words acceptance is (inr (order, obeys)) = record {
    order = order;
    obeys = obeys;
    owed = tail-owed station.plan.terminal (memory_at k loads (command_burst c start hits item) station) c order.command (has_items station.left)
        (tail_of (address_of_station station) order.command order.tail 0) words acceptance (sym (ap (λ (a : After). a.duty) obeys.is) ∙ is);
  }

  -- so what is owed is owed to an order
  pub owes-to : (words : List Word) (acceptance : Bool) → (after k loads c start hits item station).duty ≡ owes words acceptance →
      OwesTo words acceptance
  owes-to words acceptance is = owes-by words acceptance is (obeys-or-not k loads c start hits item station)

  -- which names the station
  pub owes-named : (words : List Word) (acceptance : Bool) (to : OwesTo words acceptance) → HasKindRanges item.kind →
      Named item.kind (address_of_station station) to.order.command
  owes-named words acceptance to ranges =
      kind-named item.kind (address_of_station station) (struck hits (command_words item.kind)) to.order ranges
      (struck-left hits (command_words item.kind)) to.obeys.found

  -- what it owes is its status with data words in their ranges
  pub who-owes : (words : List Word) (acceptance : Bool) → HasKindRanges item.kind → All HasTimedLoadRanges loads → HasPresentRanges station →
      (after k loads c start hits item station).duty ≡ owes words acceptance →
      (data_words : List ℕ) × OwesToCommand item.kind (after k loads c start hits item station) acceptance data_words words
  who-owes words acceptance ranges fit present is =
      let to = owes-to words acceptance is in
      let named = owes-named words acceptance to ranges in
      let o = obeyed k loads c start hits item station to.order in
      let s = status-address station.plan.terminal o.memory.registers acceptance present.terminal.address in
      let sends = to.owed.sendable present.terminal
      (loads-ranges (address_of_station station) (burst_end (command_burst c start hits item) + k) loads station.memory fit present.memory) in (
        to.owed.data_words,
        subst (λ (a : After). OwesToCommand item.kind a acceptance to.owed.data_words words) (sym to.obeys.is) (record {
          answer = record { words_are = to.owed.words_are; status = s.0; address = s.1; fits = sends.fit; few = sends.few };
          serves = to.obeys.serves;
          terminal = named.terminal;
          named = named.named to.owed.one;
          accepted = λ accepts. let a = to.owed.accepted accepts in
              record { offer = named.offer a.offered; willing = a.willing; items = a.items; error = a.error };
        }),
      )
