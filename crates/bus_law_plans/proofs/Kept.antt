-- What a terminal keeps stays within the ranges of words and blocks, whatever it obeys or takes.
use Rattle.std.proofs.Common.{◌≡◌, ℕ, zero, suc, ◌<◌, ◌≤◌, Bool, true, false, List, [], ◌∷◌, length, set, get_or, Option, Some, None, refl, ap, subst, arith}
use Rattle.std.proofs.lemmas.Option.{none-some, same_Some}
use Rattle.std.specs.Prelude.{if◌then◌else◌}
use Rattle.std.specs.List.{AllByRecursion as Each}
use Rattle.std.proofs.lemmas.List.Elements.{recursion_from_All, All-from_recursion}
use Rattle.bus_base.specs.Samples.{other_of}
use Rattle.bus_base.specs.declared.samples.Channel.{Channel}
use Rattle.bus_base.specs.declared.samples.Channel.TheVariants.{A, B}
use Rattle.bus_words.specs.Fields.{is_broadcast, is_mode, is_transmit, sub_of, field_of, word_count}
use Rattle.bus_words.specs.declared.word.Sync.{Sync}
use Rattle.bus_words.specs.declared.word.Sync.TheVariants.{Command, Datum}
use Rattle.bus_words.specs.declared.word.Word.{Word}
use Rattle.bus_formats.specs.Codes.{transmit_status_word, transmitter_shutdown, override_transmitter_shutdown, inhibit_terminal_flag, override_inhibit_terminal_flag, reset_remote_terminal, synchronize_with_data, transmit_last_command}
use Rattle.bus_formats.specs.Plans.{TerminalData}
use Rattle.bus_formats.specs.Readings.{command_with, datum_with, command_in, datum_in, word_before, data_in}
use Rattle.bus_formats.specs.declared.form.Carries.{Carries}
use Rattle.bus_formats.specs.declared.form.Carries.TheVariants.{Nothing, FromTerminal, ToTerminal}
use Rattle.bus_formats.specs.declared.log.Registers.{Registers}
use Rattle.bus_formats.specs.Codes.{carried}
use Rattle.bus_model.specs.Commands.{Tail, unexpected, relay_from, carries, relay_in, tail_by, tail_of, words_after, mode_words_after, has_code, is_illegal}
use Rattle.bus_model.specs.Memory.{Memory, TimedLoad, with_off, load_block, load_due, with_loads}
use Rattle.bus_model.specs.Orders.{Duty, free, promises, Taken, Obeyed, answer, answer_data, accepts, marked, mode_effect, reset, block_taken, after_taking, leaves, answered, obey_data, obey_tail, obey, data_from, relayed, with_error, unkept, kept, keep_promise}
use Rattle.bus_law_plans.specs.Memories.{IsBlock, AreBlocks, HasRegisterRanges, HasMemoryRanges}
use Rattle.bus_law_plans.proofs.Lists.{either}
use Rattle.bus_law_plans.proofs.Struck.{Slot}
use Rattle.bus_law_plans.proofs.Answered.{count-few}

-- a word of sixteen bits
abbrev pub IsWord : ℕ → Type 0
IsWord w = w < 65536

-- a word on the bus of sixteen bits
abbrev pub FitsWord : Word → Type 0
FitsWord word = word.bits < 65536

-- the slots' words are of sixteen bits
abbrev pub FitSlots : List (Option Word) → Type 0
FitSlots slots = Each (Slot FitsWord) slots

-- ---- blocks

-- one element is written over
pub each-set : {X : Type 0} (P : X → Type 0) (xs : List X) (i : ℕ) (v : X) → P v → Each P xs → Each P (set xs i v)
each-set P [] i v h all = tt
each-set P (x ∷ xs) zero v h all = (h, all.1)
each-set P (x ∷ xs) (suc i) v h all = (all.0, each-set P xs i v h all.1)

-- no words are a block too
pub no-words : IsBlock []
no-words = record { few = omega arith; spelled = All-from_recursion IsWord [] tt }

load-keeps : (m : Memory) (sub : ℕ) (words : List ℕ) → IsBlock words → HasMemoryRanges m → HasMemoryRanges (load_block m sub words)
load-keeps m sub words block is =
    record { registers = is.registers; received = is.received; transmit = each-set IsBlock m.transmit sub words block is.transmit }

-- blocks that are put up for sending
pub loads-keep : (address now : ℕ) (loads : List TimedLoad) (m : Memory) → AreBlocks loads → HasMemoryRanges m → HasMemoryRanges (with_loads address now loads m)
loads-keep address now [] m all is = is
loads-keep address now (load ∷ loads) m all is =
    loads-keep address now loads (if load_due address now load then load_block m load.sub load.words else m) all.1
    (either HasMemoryRanges (load_due address now load) (load_block m load.sub load.words) m (load-keeps m load.sub load.words all.0 is) is)

taking-keeps : (m : Memory) (taken : Option Taken) → ((block : Taken) → taken ≡ Some block → IsBlock block.words) → HasMemoryRanges m → HasMemoryRanges (after_taking m taken)
taking-keeps m None block is = is
taking-keeps m (Some t) block is =
    record { registers = is.registers; received = each-set IsBlock m.received t.sub t.words (block t refl) is.received; transmit = is.transmit }

-- ---- words in slots

-- a command in a slot is of sixteen bits
pub command-word : (slot : Option Word) (c : ℕ) → Slot FitsWord slot → command_in slot ≡ Some c → c < 65536
command-word None c fits is = absurd (none-some c is)
command-word (Some word) c fits is = by-sync word.sync is
  where
    by-sync : (sync : Sync) → command_with sync word.bits ≡ Some c → c < 65536
    by-sync Command found = subst IsWord (same_Some word.bits c found) fits
    by-sync Datum found = absurd (none-some c found)

datum-word : (slot : Option Word) (w : ℕ) → Slot FitsWord slot → datum_in slot ≡ Some w → w < 65536
datum-word None w fits is = absurd (none-some w is)
datum-word (Some word) w fits is = by-sync word.sync is
  where
    by-sync : (sync : Sync) → datum_with sync word.bits ≡ Some w → w < 65536
    by-sync Datum found = subst IsWord (same_Some word.bits w found) fits
    by-sync Command found = absurd (none-some w found)

-- data words that are read are as many as are asked for
pub record AreRead (count : ℕ) (words : List ℕ) : Type 0 where
  pub many : length words ≡ count
  pub fit : Each IsWord words

one-read : (n : ℕ) (first : Option ℕ) (rest : Option (List ℕ)) (words : List ℕ) → ((w : ℕ) → first ≡ Some w → w < 65536) →
    ((ws : List ℕ) → rest ≡ Some ws → AreRead n ws) → word_before first rest ≡ Some words → AreRead (suc n) words
one-read n None rest words h i is = absurd (none-some words is)
one-read n (Some w) None words h i is = absurd (none-some words is)
one-read n (Some w) (Some ws) words h i is =
    subst (AreRead (suc n)) (same_Some (w ∷ ws) words is) record { many = ap suc (i ws refl).many; fit = (h w refl, (i ws refl).fit) }

-- data words that are read are of sixteen bits, and as many as are asked for
pub data-read : (count : ℕ) (slots : List (Option Word)) (words : List ℕ) → FitSlots slots → data_in count slots ≡ Some words → AreRead count words
data-read zero [] words fits is = subst (AreRead 0) (same_Some [] words is) record { many = refl; fit = tt }
data-read zero (slot ∷ slots) words fits is = absurd (none-some words is)
data-read (suc n) [] words fits is = absurd (none-some words is)
data-read (suc n) (slot ∷ slots) words fits is =
    one-read n (datum_in slot) (data_in n slots) words (λ w. datum-word slot w fits.0) (λ ws. data-read n slots ws fits.1) is

mode-few : (carries : Carries) → mode_words_after carries ≤ 32
mode-few Nothing = omega arith
mode-few FromTerminal = omega arith
mode-few ToTerminal = omega arith

after-few : (command : ℕ) → words_after command ≤ 32
after-few command =
    either (λ (n : ℕ). n ≤ 32) (is_mode command) (mode_words_after (carried (is_transmit command) (field_of command))) _ (mode-few _)
    (either (λ (n : ℕ). n ≤ 32) (is_transmit command) 0 (word_count command) (omega arith) (count-few command))

read-block : (count : ℕ) (words : List ℕ) → count ≤ 32 → AreRead count words → IsBlock words
read-block count words few is = record { few = omega (arith, is.many, few); spelled = All-from_recursion IsWord words is.fit }

-- the words after a command, where they are those that it wants
abbrev WhenCarried : Tail → Type 0
WhenCarried (carries words) = IsBlock words
WhenCarried _ = Unit {0}

tail-is : (relay : Option ℕ) (read : Option (List ℕ)) → ((words : List ℕ) → read ≡ Some words → IsBlock words) → WhenCarried (tail_by relay read)
tail-is (Some transmitter) read h = tt
tail-is None (Some words) h = h words refl
tail-is None None h = tt

tail-block : (own command : ℕ) (slots : List (Option Word)) (rest : ℕ) → FitSlots slots → WhenCarried (tail_of own command slots rest)
tail-block own command slots zero fits =
    tail-is (relay_in own command slots) (data_in (words_after command) slots)
    (λ words is. read-block (words_after command) words (after-few command) (data-read (words_after command) slots words fits is))
tail-block own command slots (suc n) fits = tt

-- ---- registers

abbrev Ranges : Registers → Type 0
Ranges r = HasRegisterRanges r

marked-ranges : (r : Registers) (command : ℕ) (e : Bool) → command < 65536 → Ranges r → Ranges (marked r command e)
marked-ranges r command e small is = record { last = either IsWord _ r.last command is.last small; sync = is.sync }

off-ranges : (r : Registers) (c : Channel) (b : Bool) → Ranges r → Ranges (with_off r c b)
off-ranges r A b is = record { last = is.last; sync = is.sync }
off-ranges r B b is = record { last = is.last; sync = is.sync }

first-word : (words : List ℕ) → Each IsWord words → get_or words 0 0 < 65536
first-word [] all = omega arith
first-word (w ∷ words) all = all.0

effect-ranges : (r : Registers) (c : Channel) (command : ℕ) (words : List ℕ) → Each IsWord words → Ranges r → Ranges (mode_effect r c command words)
effect-ranges r c command words fits is =
    either Ranges (has_code command transmitter_shutdown) _ _ (off-ranges r (other_of c) true is)
    (either Ranges (has_code command override_transmitter_shutdown) _ _ (off-ranges r (other_of c) false is)
    (either Ranges (has_code command inhibit_terminal_flag) _ _ record { last = is.last; sync = is.sync }
    (either Ranges (has_code command override_inhibit_terminal_flag) _ _ record { last = is.last; sync = is.sync }
    (either Ranges (has_code command synchronize_with_data) _ _ record { last = is.last; sync = first-word words fits } is))))

-- ---- an order

module _ (terminal : TerminalData) (memory : Memory) (c : Channel) (command : ℕ) (small : command < 65536) (is : HasMemoryRanges memory) where
  abbrev Keeps : Obeyed → Type 0
  Keeps o = HasMemoryRanges o.memory

  leaves-ranges : (r : Registers) (taken : Option Taken) (duty : Duty) → ((block : Taken) → taken ≡ Some block → IsBlock block.words) → Ranges r →
      Keeps (leaves terminal memory c r taken duty)
  leaves-ranges r taken duty block ranges =
      taking-keeps (record memory { registers = r }) taken block record { registers = ranges; received = is.received; transmit = is.transmit }

  nothing-taken : (block : Taken) → None ≡ Some block → IsBlock block.words
  nothing-taken block found = absurd (none-some block found)

  answered-ranges : (r : Registers) (words : List ℕ) → Ranges r → Keeps (answered terminal memory c command r words)
  answered-ranges r words ranges = leaves-ranges r None (answer terminal r c command false words) nothing-taken ranges

  block-of : (words : List ℕ) → IsBlock words → (block : Taken) → block_taken terminal command words ≡ Some block → IsBlock block.words
  block-of words fits =
      either (λ (taken : Option Taken). (block : Taken) → taken ≡ Some block → IsBlock block.words) _ None
      (Some record { sub = sub_of command; broadcast = is_broadcast command; words = words }) nothing-taken
      (λ block found. subst (λ (t : Taken). IsBlock t.words) (same_Some _ block found) fits)

  data-ranges : (words : List ℕ) (may : Bool) → IsBlock words → Keeps (obey_data terminal memory c command words may memory.registers)
  data-ranges words may fits =
      let r : Registers = memory.registers in
      let effect : Registers = mode_effect (marked r command false) c command words in
      either Keeps (is_illegal terminal command) _ _ (answered-ranges (marked r command true) [] (marked-ranges r command true small is.registers))
      (either Keeps (has_code command transmit_status_word) _ _
      (answered-ranges (record r { last = command }) [] record { last = small; sync = is.registers.sync })
      (either Keeps (has_code command transmit_last_command) _ _ (answered-ranges r (r.last ∷ []) is.registers)
      (either Keeps (has_code command reset_remote_terminal) _ _ (answered-ranges (reset r) [] record { last = omega arith; sync = is.registers.sync })
      (leaves-ranges effect (block_taken terminal command words)
      (answer terminal effect c command (accepts terminal command may) (answer_data terminal memory command)) (block-of words fits)
      (effect-ranges (marked r command false) c command words (recursion_from_All IsWord words fits.spelled) (marked-ranges r command false small is.registers))))))

  tail-ranges : (may : Bool) (tail : Tail) → WhenCarried tail → Keeps (obey_tail terminal memory c command may tail)
  tail-ranges may unexpected fits = leaves-ranges (marked memory.registers command true) None free nothing-taken (marked-ranges memory.registers command true small is.registers)
  tail-ranges may (relay_from transmitter) fits =
      leaves-ranges (marked memory.registers command false) None (promises command transmitter) nothing-taken (marked-ranges memory.registers command false small is.registers)
  tail-ranges may (carries words) fits = data-ranges words may fits

  -- what obeying a command leaves
  pub obeyed-ranges : (slots : List (Option Word)) (rest : ℕ) (may : Bool) → FitSlots slots → Keeps (obey terminal memory c command slots rest may)
  obeyed-ranges slots rest may fits = tail-ranges may (tail_of terminal.address command slots rest) (tail-block terminal.address command slots rest fits)

  error-ranges : (b : Bool) → Ranges (with_error terminal memory c b)
  error-ranges b = record { last = is.registers.last; sync = is.registers.sync }

  -- and what a promise leaves that isn't kept
  pub unkept-ranges : Keeps (unkept terminal memory c)
  unkept-ranges = leaves-ranges (with_error terminal memory c true) None free nothing-taken (error-ranges true)

  kept-ranges : (words : Option (List ℕ)) → ((ws : List ℕ) → words ≡ Some ws → IsBlock ws) → Keeps (kept terminal memory c command words)
  kept-ranges None fits = unkept-ranges
  kept-ranges (Some words) fits =
      either Keeps (is_illegal terminal command) _ _ (answered-ranges (with_error terminal memory c true) [] (error-ranges true))
      (leaves-ranges memory.registers (block_taken terminal command words) (answer terminal memory.registers c command false []) (block-of words (fits words refl)) is.registers)

from-data : (count transmitter : ℕ) (status : Option ℕ) (slots : List (Option Word)) (words : List ℕ) → FitSlots slots → count ≤ 32 →
    data_from count transmitter status slots ≡ Some words → IsBlock words
from-data count transmitter None slots words fits few is = absurd (none-some words is)
from-data count transmitter (Some status) slots words fits few is =
    either (λ (o : Option (List ℕ)). o ≡ Some words → IsBlock words) _ (data_in count slots) None
    (λ found. read-block count words few (data-read count slots words fits found)) (λ found. absurd (none-some words found)) is

relayed-block : (count transmitter : ℕ) (slots : List (Option Word)) (rest : ℕ) (words : List ℕ) → FitSlots slots → count ≤ 32 →
    relayed count transmitter slots rest ≡ Some words → IsBlock words
relayed-block count transmitter [] rest words fits few is = absurd (none-some words is)
relayed-block count transmitter (slot ∷ slots) zero words fits few is = from-data count transmitter (command_in slot) slots words fits.1 few is
relayed-block count transmitter (slot ∷ slots) (suc n) words fits few is = absurd (none-some words is)

-- what a relay's receiver keeps of the burst that it promised to take
pub promise-ranges : (terminal : TerminalData) (memory : Memory) (c : Channel) (command transmitter : ℕ) (slots : List (Option Word)) (rest : ℕ) →
    command < 65536 → HasMemoryRanges memory → FitSlots slots → HasMemoryRanges (keep_promise terminal memory c command transmitter slots rest).memory
promise-ranges terminal memory c command transmitter slots rest small is fits =
    kept-ranges terminal memory c command small is (relayed (word_count command) transmitter slots rest)
    (λ ws found. relayed-block (word_count command) transmitter slots rest ws fits (count-few command) found)
