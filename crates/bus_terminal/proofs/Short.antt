-- The first slots after a command decide as all of them do: what is too long stays so.
use Rattle.std.proofs.Common.{◌≡◌, ℕ, zero, suc, ◌<◌, ◌≤◌, Bool, List, [], ◌∷◌, take, Option, Some, None, refl, ap, arith}
use Rattle.std.proofs.lemmas.Bool.Decides.{nat_tests}
use Rattle.bus_base.specs.declared.samples.Channel.{Channel}
use Rattle.bus_words.specs.Fields.{word_count}
use Rattle.bus_words.specs.declared.word.Word.{Word}
use Rattle.bus_formats.specs.Plans.{TerminalData}
use Rattle.bus_formats.specs.Readings.{command_in, datum_in, data_in, word_before}
use Rattle.bus_model.specs.Commands.{words_after, relay_in, tail_of}
use Rattle.bus_model.specs.Memory.{Memory}
use Rattle.bus_model.specs.Orders.{obey, obey_tail, keep_promise, kept, relayed, data_from}

pub data-short : (n m : ℕ) (slots : List (Option Word)) → n < m → data_in n (take m slots) ≡ data_in n slots
data-short n zero slots h = absurd (omega arith)
data-short zero (suc m) [] h = refl
data-short zero (suc m) (slot ∷ slots) h = refl
data-short (suc n) (suc m) [] h = refl
data-short (suc n) (suc m) (slot ∷ slots) h = ap (word_before (datum_in slot)) (data-short n m slots (omega (arith, h)))

relay-short : (own command m : ℕ) (slots : List (Option Word)) → relay_in own command (take (suc (suc m)) slots) ≡ relay_in own command slots
relay-short own command m [] = refl
relay-short own command m (slot ∷ []) = refl
relay-short own command m (slot ∷ second ∷ slots) = refl

tail-short : (own command m rest : ℕ) (slots : List (Option Word)) → words_after command < suc (suc m) →
    tail_of own command (take (suc (suc m)) slots) rest ≡ tail_of own command slots rest
tail-short own command m zero slots h = rw (relay-short own command m slots, data-short (words_after command) (suc (suc m)) slots h) refl
tail-short own command m (suc rest) slots h = refl

pub obey-short : (terminal : TerminalData) (memory : Memory) (c : Channel) (command m rest : ℕ) (slots : List (Option Word)) (may : Bool) →
    words_after command < suc (suc m) →
    obey terminal memory c command (take (suc (suc m)) slots) rest may ≡ obey terminal memory c command slots rest may
obey-short terminal memory c command m rest slots may h =
    ap (obey_tail terminal memory c command may) (tail-short terminal.address command m rest slots h)

relayed-short : (count transmitter m rest : ℕ) (slots : List (Option Word)) → count < m →
    relayed count transmitter (take (suc m) slots) rest ≡ relayed count transmitter slots rest
relayed-short count transmitter m rest [] h = refl
relayed-short count transmitter m zero (slot ∷ slots) h =
    from (command_in slot) where
      from : (status : Option ℕ) → data_from count transmitter status (take m slots) ≡ data_from count transmitter status slots
      from None = refl
      from (Some status) = rw (data-short count m slots h) refl
relayed-short count transmitter m (suc rest) (slot ∷ slots) h = refl

pub promise-short : (terminal : TerminalData) (memory : Memory) (c : Channel) (command transmitter m rest : ℕ) (slots : List (Option Word)) →
    word_count command < m →
    keep_promise terminal memory c command transmitter (take (suc m) slots) rest ≡ keep_promise terminal memory c command transmitter slots rest
promise-short terminal memory c command transmitter m rest slots h =
    ap (kept terminal memory c command) (relayed-short (word_count command) transmitter m rest slots h)

pub count-fits : (command : ℕ) → word_count command ≤ 32
count-fits command = grind (arith, nat_tests)

pub words-fit : (command : ℕ) → words_after command ≤ 32
words-fit command = grind (arith, nat_tests, count-fits command)
