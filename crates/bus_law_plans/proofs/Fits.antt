-- The words of commands and answers are words of sixteen bits.
use Rattle.std.proofs.Common.{◌≡◌, ◌⊎◌, inl, inr, ℕ, zero, suc, ◌%◌, ◌<◌, ◌≤◌, Bool, true, false, List, [], ◌∷◌, ◌++◌, length, map, replicate, get_or, sym, subst, arith}
use Rattle.std.specs.Prelude.{◌||◌, ◌==◌, not, option_to_list}
use Rattle.std.specs.List.{AllByRecursion as Each}
use Rattle.std.proofs.lemmas.List.Elements.{recursion_from_All}
use Rattle.bus_words.specs.Fields.{is_mode, is_transmit, sub_of, word_count, command_bits, status_bits}
use Rattle.bus_words.specs.declared.status.Flags.{Flags}
use Rattle.bus_words.specs.declared.word.Word.{Word}
use Rattle.bus_words.proofs.FlagBits.{bit_small, status_sum}
use Rattle.bus_formats.specs.Accepted.{AreWords, HasKindRanges, words_sent}
use Rattle.bus_formats.specs.Codes.{transmit_vector_word, transmit_bit_word}
use Rattle.bus_formats.specs.Forms.{data_word, command_words}
use Rattle.bus_formats.specs.Plans.{TerminalData}
use Rattle.bus_formats.specs.declared.plan.Kind.{Kind}
use Rattle.bus_formats.specs.declared.plan.Kind.TheVariants.{Receive, Transmit, Relay, Mode}
use Rattle.bus_model.specs.Commands.{has_code}
use Rattle.bus_model.specs.Memory.{Memory, sending_on, wrap_around, received_on}
use Rattle.bus_model.specs.Orders.{answer_data, filled}
use Rattle.bus_law_plans.specs.Memories.{IsBlock, HasMemoryRanges}
use Rattle.bus_law_plans.proofs.Answered.{IsData, status_alone, last_command, whole_answer, IsAnswer, data-few}
use Rattle.bus_law_plans.proofs.Lists.{either, each-append, each-take, each-replicate, each-map}
use Rattle.bus_law_plans.proofs.Kept.{IsWord, FitsWord, no-words}
use Rattle.bus_law_plans.proofs.Sized.{data-long}

-- ---- a command

-- the fields of a command word make sixteen bits
pub bits-fit : (address sub field : ℕ) (transmit : Bool) → address ≤ 31 → sub ≤ 31 → field ≤ 31 → command_bits address transmit sub field < 65536
bits-fit address sub field true small low few = omega (arith, small, low, few)
bits-fit address sub field false small low few = omega (arith, small, low, few)

data-fit : (words : List ℕ) → Each IsWord words → Each FitsWord (map data_word words)
data-fit words all = each-map FitsWord data_word words all

-- the subaddress of a mode command is one of five bits
pub mode-sub : (sub : ℕ) → (sub ≡ 0) ⊎ (sub ≡ 31) → sub ≤ 31
mode-sub sub (inl none) = omega (arith, none)
mode-sub sub (inr all) = omega (arith, all)

-- the words of a command within its ranges are of sixteen bits
pub command-fits : (kind : Kind) → HasKindRanges kind → AreWords (words_sent kind) → Each FitsWord (command_words kind)
command-fits (Receive to sub words) ranges fit = (
  bits-fit to sub (length words % 32) false ranges.address (omega (arith, ranges.subaddress)) (omega arith),
  data-fit words (recursion_from_All IsWord words fit),
)
command-fits (Transmit from sub count) ranges fit =
    (bits-fit from sub (count % 32) true (omega (arith, ranges.address)) (omega (arith, ranges.subaddress)) (omega arith), tt)
command-fits (Relay from from_sub to to_sub count) ranges fit = (
  bits-fit to to_sub (count % 32) false ranges.1.address (omega (arith, ranges.1.subaddress)) (omega arith),
  (bits-fit from from_sub (count % 32) true (omega (arith, ranges.0.address)) (omega (arith, ranges.0.subaddress)) (omega arith), tt),
)
command-fits (Mode to mode_sub transmit code word) ranges fit = (
  bits-fit to mode_sub code transmit ranges.address (mode-sub mode_sub ranges.subaddress) ranges.mode,
  data-fit (option_to_list word) (recursion_from_All IsWord (option_to_list word) fit),
)

-- ---- an answer

-- a status word is of sixteen bits
pub status-fits : (address : ℕ) (flags : Flags) → address ≤ 31 → status_bits address flags < 65536
status-fits address flags small =
    omega (
      arith,
      small,
      status_sum address flags,
      bit_small flags.message_error,
      bit_small flags.service,
      bit_small flags.broadcast,
      bit_small flags.busy,
      bit_small flags.subsystem,
      bit_small flags.acceptance,
      bit_small flags.terminal,
    )

get-block : (blocks : List (List ℕ)) (i : ℕ) → Each IsBlock blocks → IsBlock (get_or blocks i [])
get-block [] i all = no-words
get-block (block ∷ blocks) zero all = all.0
get-block (block ∷ blocks) (suc i) all = get-block blocks i all.1

sending-block : (memory : Memory) (sub : ℕ) → HasMemoryRanges memory → IsBlock (sending_on memory sub)
sending-block memory sub is =
    either IsBlock (sub == wrap_around) (received_on memory sub) (get_or memory.transmit sub []) (get-block memory.received sub is.received)
    (get-block memory.transmit sub is.transmit)

filled-fit : (count : ℕ) (words : List ℕ) → Each IsWord words → Each IsWord (filled count words)
filled-fit count words all =
    each-take IsWord count (words ++ replicate count 0) (each-append IsWord words (replicate count 0) all (each-replicate IsWord count 0 (omega arith)))

module _ (terminal : TerminalData) (memory : Memory) (command : ℕ) (vector : terminal.vector < 65536) (bits : terminal.bit < 65536) (is : HasMemoryRanges memory) where
  answer-fits : Each IsWord (answer_data terminal memory command)
  answer-fits =
      either (Each IsWord) (has_code command transmit_vector_word) (terminal.vector ∷ []) _ (vector, tt)
      (either (Each IsWord) (has_code command transmit_bit_word) (terminal.bit ∷ []) _ (bits, tt)
      (either (Each IsWord) (is_mode command || not (is_transmit command) || terminal.busy) [] (filled (word_count command) (sending_on memory (sub_of command))) tt
      (filled-fit (word_count command) (sending_on memory (sub_of command))
      (recursion_from_All IsWord (sending_on memory (sub_of command)) (sending-block memory (sub_of command) is).spelled))))

  sent-fits : (words : List ℕ) → IsData terminal memory command words → Each IsWord words
  sent-fits words (status_alone same) = subst (Each IsWord) (sym same) tt
  sent-fits words (last_command mode same) = subst (Each IsWord) (sym same) (is.registers.last, tt)
  sent-fits words (whole_answer same) = subst (Each IsWord) (sym same) answer-fits

-- an answer: its words fit, and they are a status and at most 32 others
pub record FitsAnswer (words : List Word) : Type 0 where
  pub fit : Each FitsWord words
  pub some : 0 < length words
  pub few : length words ≤ 33

-- the words of an answer are of sixteen bits
pub spoken-fits : (terminal : TerminalData) (memory : Memory) (command : ℕ) (may acceptance : Bool) (words : List Word) → terminal.vector < 65536 →
    terminal.bit < 65536 → terminal.address ≤ 31 → HasMemoryRanges memory → IsAnswer terminal memory command may words acceptance → FitsAnswer words
spoken-fits terminal memory command may acceptance words vector bits small is answer =
    let few : length answer.words_sent ≤ 32 = data-few terminal memory command answer.words_sent answer.sent in
    subst FitsAnswer (sym answer.words_are) record {
      fit = (status-fits terminal.address _ small, data-fit answer.words_sent (sent-fits terminal memory command vector bits is answer.words_sent answer.sent));
      some = omega arith;
      few = omega (arith, few, data-long answer.words_sent);
    }
