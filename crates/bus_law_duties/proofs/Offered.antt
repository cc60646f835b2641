-- How the answer to an offer of control is read, whatever hits strike it.
use Rattle.std.proofs.Common.{◌≡◌, ◌≢◌, inl, inr, ℕ, ◌/◌, ◌%◌, ◌≤◌, Bool, true, false, List, [], ◌∷◌, Option, Some, None, refl, sym, ap, ◌∙◌, subst, arith}
use Rattle.std.proofs.lemmas.Bool.{true≢false}
use Rattle.std.proofs.lemmas.Bool.Decides.{nat_tests}
use Rattle.std.specs.Prelude.{◌&&◌, ◌==◌, not, if◌then◌else◌, get_or}
use Rattle.bus_base.specs.declared.samples.Channel.{Channel}
use Rattle.bus_base.specs.declared.samples.Part.TheVariants.{First}
use Rattle.bus_words.specs.Fields.{address_of, is_clean, flags_in, is_broadcast}
use Rattle.bus_words.specs.declared.status.Flags.{Flags}
use Rattle.bus_words.specs.declared.word.Word.{Word}
use Rattle.bus_words.proofs.FlagBits.{status_bits_of, flags_are}
use Rattle.bus_formats.specs.Accepted.{HasKindRanges, addresses_named}
use Rattle.bus_formats.specs.Codes.{dynamic_bus_control, transmit_status_word, transmit_last_command, carried}
use Rattle.bus_formats.specs.Forms.{command_word, command_words, mode_count}
use Rattle.bus_formats.specs.Plans.{TerminalData, ItemData}
use Rattle.bus_formats.specs.Readings.{command_in, status_from, status_alone, status_full, bad_reply, read_offer, read_status, read_mode, read_shape, read_answer}
use Rattle.bus_formats.specs.declared.fault.Hit.{Hit}
use Rattle.bus_formats.specs.declared.form.Outcome.TheVariants.{Declined, Passed, Illegal}
use Rattle.bus_formats.specs.declared.form.Reading.{Reading}
use Rattle.bus_formats.specs.declared.form.Reading.TheVariants.{Ends}
use Rattle.bus_formats.specs.declared.form.Shape.{Shape}
use Rattle.bus_formats.specs.declared.log.Registers.{Registers}
use Rattle.bus_formats.specs.declared.plan.Kind.{Kind}
use Rattle.bus_formats.specs.declared.plan.Kind.TheVariants.{Receive, Transmit, Relay, Mode}
use Rattle.bus_model.specs.Attempts.{is_offer}
use Rattle.bus_model.specs.Commands.{has_code}
use Rattle.bus_model.specs.Memory.{TimedLoad, status_of}
use Rattle.bus_model.specs.Message.{Present, address_of_station, After}
use Rattle.bus_model.specs.Orders.{owes}
use Rattle.bus_model.specs.Strikes.{struck}
use Rattle.bus_law_duties.specs.Words.{with_data, AreLeftOf}
use Rattle.bus_law_duties.specs.Duties.{status_after}
use Rattle.bus_law_duties.specs.Offers.{meant_by, IsReadAsMeant}
use Rattle.bus_law_duties.proofs.Fields.{skips, takes, own-one, own-terminal, OneCommand, one-command}
use Rattle.bus_law_duties.proofs.Found.{one-found}
use Rattle.bus_law_duties.proofs.Obeys.{after, obeyed}
use Rattle.bus_law_duties.proofs.Owes.{owes-to}
use Rattle.bus_law_duties.proofs.Status.{status-address}
use Rattle.bus_law_duties.proofs.Struck.{struck-left}

-- ---- a status that stands alone

-- what is known of the status of a terminal that answers an offer
record Answers (to status : ℕ) (acceptance : Bool) : Type 0 where
  address : address_of status ≡ to
  clean : is_clean status ≡ true
  accepts : (flags_in status).acceptance ≡ acceptance
  error : acceptance ≡ true → (flags_in status).message_error ≡ false

-- it is read as the status of the terminal that was asked
status-read : (to status : ℕ) (acceptance : Bool) → Answers to status acceptance → status_from to (Some status) ≡ Some status
status-read to status acceptance a =
    let at : address_of status ≡ to = a.address in
    let same : (address_of status == to) ≡ true = grind (arith, nat_tests, at) in
    ap (λ (b : Bool). if b && is_clean status then Some status else None) same
    ∙ ap (λ (b : Bool). if b then Some status else None) a.clean

-- one that accepts, with no message error, passes control
accepting-read : (status : ℕ) (error accepts : Bool) → error ≡ false → accepts ≡ true →
    (if error then Ends (Illegal First) (Some status) else if accepts then Ends Passed (Some status) else Ends Declined (Some status))
    ≡ Ends Passed (Some status)
accepting-read status error accepts fine willing =
    skips error (Ends (Illegal First) (Some status)) (if accepts then Ends Passed (Some status) else Ends Declined (Some status)) fine
    ∙ takes accepts (Ends Passed (Some status)) (Ends Declined (Some status)) willing

-- it is read as it is meant
offer-read : (to status : ℕ) (acceptance : Bool) → Answers to status acceptance → read_offer First (Some status) ≡ meant_by status acceptance
offer-read to status true a = accepting-read status (flags_in status).message_error (flags_in status).acceptance (a.error refl) a.accepts
offer-read to status false a =
    ap (λ (b : Bool). if (flags_in status).message_error then Ends (Illegal First) (Some status)
    else if b then Ends Passed (Some status) else Ends Declined (Some status)) a.accepts

-- ---- what is left of a status

module _ (shape : Shape) (status : ℕ) (acceptance : Bool) (a : Answers shape.address status acceptance) where
  -- the status alone
  alone-read : (slots : List (Option Word)) → slots ≡ Some (command_word status) ∷ [] →
      read_offer First (status_alone shape slots 0) ≡ meant_by status acceptance
  alone-read slots same =
      ap (λ s. read_offer First (status_alone shape s 0)) same
      ∙ ap (read_offer First) (status-read shape.address status acceptance a)
      ∙ offer-read shape.address status acceptance a

  -- a slot that is no status
  none-read : (slot : Option Word) → command_in slot ≡ None → read_offer First (status_alone shape (slot ∷ []) 0) ≡ bad_reply First
  none-read slot none = ap (λ o. read_offer First (status_from shape.address o)) none

  -- all else is a bad reply
  otherwise-read : (slots : List (Option Word)) → AreLeftOf (with_data status []) slots → slots ≢ Some (command_word status) ∷ [] →
      read_offer First (status_alone shape slots 0) ≡ bad_reply First
  otherwise-read [] left other = refl
  otherwise-read (slot ∷ []) (inl same, rest) other = absurd (other (ap (λ s. s ∷ []) same))
  otherwise-read (slot ∷ []) (inr (inl none), rest) other = none-read slot (ap command_in none)
  otherwise-read (slot ∷ []) (inr (inr added), rest) other = none-read slot (ap command_in added)
  otherwise-read (slot ∷ next ∷ slots) left other = refl

  -- so what is left is read as it was meant, or as a bad reply
  read-as-meant : (slots : List (Option Word)) → AreLeftOf (with_data status []) slots →
      IsReadAsMeant status acceptance slots (read_offer First (status_alone shape slots 0))
  read-as-meant slots left = record { alone = alone-read slots; otherwise = otherwise-read slots left }

-- ---- an offer

-- the answer to an offer is read by its status alone
by-offer : (to mode_sub code : ℕ) (transmit : Bool) (word : Option ℕ) (slots : List (Option Word)) → (code == dynamic_bus_control) ≡ true → to ≢ 31 →
    read_answer (Mode to mode_sub transmit code word) First slots 0
    ≡ read_offer First (status_alone (record { address = to; count = mode_count (carried transmit code) }) slots 0)
by-offer to mode_sub code transmit word slots offers one =
    let shape : Shape = record { address = to; count = mode_count (carried transmit code) } in
    let kind : Kind = Mode to mode_sub transmit code word in
    let test : (to == 31) ≡ false = grind (arith, nat_tests, one) in
    let alone : Option ℕ = status_alone shape slots 0 in
    let others : Reading = if transmit && (code == transmit_status_word) then read_status First alone
    else read_mode First (transmit && (code == transmit_last_command)) (status_full shape slots 0) alone in
    ap (λ (o : Option Shape). read_shape First kind o slots 0) (skips {X = Option Shape} (to == 31) None (Some shape) test)
    ∙ takes (code == dynamic_bus_control) (read_offer First alone) others offers

-- a word without the four unused bits is clean
clean-test : (status : ℕ) → status / 512 % 2 ≡ 0 → status / 32 % 8 ≡ 0 → is_clean status ≡ true
clean-test status instrumentation reserved = grind (arith, nat_tests, instrumentation, reserved)

-- the status of a terminal
status-answers : (terminal : TerminalData) (registers : Registers) (acceptance : Bool) → terminal.address ≤ 31 →
    (acceptance ≡ true → registers.message_error ≡ false) → Answers terminal.address (status_of terminal registers acceptance) acceptance
status-answers terminal registers acceptance low fine =
    let flags : Flags = record {
      message_error = registers.message_error;
      service = terminal.service;
      broadcast = registers.broadcast;
      busy = terminal.busy;
      subsystem = terminal.subsystem_flag;
      acceptance = acceptance;
      terminal = terminal.terminal_flag && not registers.inhibited;
    } in
    let bits = status_bits_of terminal.address flags in
    let same : flags_in (status_of terminal registers acceptance) ≡ flags = flags_are (status_of terminal registers acceptance) flags bits in record {
      address = (status-address terminal registers acceptance low).1;
      clean = clean-test (status_of terminal registers acceptance) bits.instrumentation bits.reserved;
      accepts = ap (λ (f : Flags). f.acceptance) same;
      error = λ accepts. ap (λ (f : Flags). f.message_error) same ∙ fine accepts;
    }

-- the kind of an offer, and what is read of a terminal's answer to it
kind-read : (kind : Kind) (own status : ℕ) (acceptance : Bool) (slots : List (Option Word)) → is_offer kind ≡ true →
    ((to mode_sub code : ℕ) (transmit : Bool) (word : Option ℕ) → kind ≡ Mode to mode_sub transmit code word → to ≡ own) → own ≢ 31 →
    Answers own status acceptance → AreLeftOf (with_data status []) slots → IsReadAsMeant status acceptance slots (read_answer kind First slots 0)
kind-read (Receive to sub words) own status acceptance slots offers at one a left = absurd (true≢false (sym offers))
kind-read (Transmit from sub count) own status acceptance slots offers at one a left = absurd (true≢false (sym offers))
kind-read (Relay from from_sub to to_sub count) own status acceptance slots offers at one a left = absurd (true≢false (sym offers))
kind-read (Mode to mode_sub transmit code word) own status acceptance slots offers at one a left =
    let same : to ≡ own = at to mode_sub code transmit word refl in
    let shape : Shape = record { address = to; count = mode_count (carried transmit code) } in
    subst (IsReadAsMeant status acceptance slots) (sym (by-offer to mode_sub code transmit word slots offers (λ all. one (sym same ∙ all))))
    (read-as-meant shape status acceptance (subst (λ n. Answers n status acceptance) (sym same) a) slots left)

-- an offer has one command
offer-one : (kind : Kind) → HasKindRanges kind → is_offer kind ≡ true → OneCommand kind
offer-one (Receive to sub words) ranges offers = absurd (true≢false (sym offers))
offer-one (Transmit from sub count) ranges offers = absurd (true≢false (sym offers))
offer-one (Relay from from_sub to to_sub count) ranges offers = absurd (true≢false (sym offers))
offer-one (Mode to mode_sub transmit code word) ranges offers = one-command (Mode to mode_sub transmit code word) ranges refl

-- the address that it names
mode-address : (kind : Kind) (one : OneCommand kind) (to mode_sub code : ℕ) (transmit : Bool) (word : Option ℕ) → kind ≡ Mode to mode_sub transmit code word →
    to ≡ one.address
mode-address kind one to mode_sub code transmit word same =
    ap (λ (xs : List ℕ). get_or xs 0 0) (sym (ap addresses_named same) ∙ one.named)

module _ (k : ℕ) (loads : List TimedLoad) (c : Channel) (start : ℕ) (hits strikes : List Hit) (item : ItemData) (station : Present) where
  -- the answer of a station to an offer is its status, and is read so
  pub offer-is-read : (words : List Word) (acceptance : Bool) → HasKindRanges item.kind → is_offer item.kind ≡ true → address_of_station station ≤ 31 →
      (after k loads c start hits item station).duty ≡ owes words acceptance →
      (words ≡ with_data (status_after (after k loads c start hits item station) acceptance) [])
      × IsReadAsMeant (status_after (after k loads c start hits item station) acceptance) acceptance (struck strikes words)
      (read_answer item.kind First (struck strikes words) 0)
  offer-is-read words acceptance ranges offers low is =
      let own = address_of_station station in
      let to = owes-to k loads c start hits item station words acceptance is in
      let one = offer-one item.kind ranges offers in
      let at = (one-found own one.bits one.data_words (struck hits (command_words item.kind)) to.order
      (subst (λ ws. AreLeftOf ws (struck hits (command_words item.kind))) one.words_are (struck-left hits (command_words item.kind))) to.obeys.found).0 in
      let named : address_of one.bits ≡ own = own-one own one.bits at.is (ap is_broadcast (sym at.command) ∙ to.owed.one) in
      let none : to.owed.data_words ≡ [] = to.owed.alone (ap (λ bits. has_code bits dynamic_bus_control) at.command ∙ one.offer ∙ offers) in
      let registers = (obeyed k loads c start hits item station to.order).memory.registers in
      let status : ℕ = status_of station.plan.terminal registers acceptance in
      let words_are : words ≡ with_data status [] = to.owed.words_are ∙ ap (with_data status) none in
      let a = status-answers station.plan.terminal registers acceptance low (λ accepts. (to.owed.accepted accepts).error) in
      let r : IsReadAsMeant status acceptance (struck strikes words) (read_answer item.kind First (struck strikes words) 0) =
      kind-read item.kind own status acceptance (struck strikes words) offers
      (λ address mode_sub code transmit word same. mode-address item.kind one address mode_sub code transmit word same ∙ sym one.at ∙ named)
      (own-terminal own one.bits at.is) a
      (subst (λ ws. AreLeftOf ws (struck strikes words)) words_are (struck-left strikes words)) in
      subst (λ (x : After). (words ≡ with_data (status_after x acceptance) [])
      × IsReadAsMeant (status_after x acceptance) acceptance (struck strikes words) (read_answer item.kind First (struck strikes words) 0))
      (sym to.obeys.is) (words_are, r)
