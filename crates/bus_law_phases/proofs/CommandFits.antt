-- The command of a message fits: it has words of sixteen bits, and whatever strikes it leaves the first of them.
use Rattle.std.proofs.Common.{◌≡◌, ◌⊎◌, inl, inr, ℕ, ◌%◌, ◌<◌, ◌≤◌, Bool, true, false, List, [], ◌∷◌, length, map, arith, All}
use Rattle.std.proofs.lemmas.List.{length-map}
use Rattle.std.proofs.lemmas.List.Elements.{All-cons, All-map}
use Rattle.std.specs.Prelude.{Some, None, option_to_list}
use Rattle.bus_base.specs.declared.samples.Part.TheVariants.{Command}
use Rattle.bus_words.specs.Fields.{command_bits}
use Rattle.bus_words.specs.declared.word.Word.{Word}
use Rattle.bus_formats.specs.Accepted.{AreWords, HasKindRanges, words_sent, HasItemRanges, IsAccepted}
use Rattle.bus_formats.specs.Forms.{command_word, data_word, data_command, command_words}
use Rattle.bus_formats.specs.Plans.{ItemData, PlanData}
use Rattle.bus_formats.specs.declared.fault.Hit.{Hit}
use Rattle.bus_formats.specs.declared.plan.Kind.{Kind}
use Rattle.bus_formats.specs.declared.plan.Kind.TheVariants.{Receive, Transmit, Relay, Mode}
use Rattle.bus_model.specs.Strikes.{hits_on}
use Rattle.bus_law_messages.proofs.Over.{some-words}
use Rattle.bus_law_parts.specs.Parts.{part_ticks, HitsFit}
use Rattle.bus_law_parts.proofs.Fits.{hits-fit}
use Rattle.bus_law_parts.proofs.Lengths.{whole-or-short}

-- ---- the words of a command

-- a mode command has subaddress 0 or 31
mode-sub : (sub : ℕ) → (sub ≡ 0) ⊎ (sub ≡ 31) → sub ≤ 31
mode-sub sub (inl none) = omega (arith, none)
mode-sub sub (inr all) = omega (arith, all)

-- a word with command sync, and the data words after it
abbrev with_data : ℕ → List ℕ → List Word
with_data bits words = command_word bits ∷ map data_word words

-- a word has sixteen bits
abbrev Fits : Word → Type 0
Fits word = word.bits < 65536

-- so do data words
data-fit : (words : List ℕ) → AreWords words → All Fits (map data_word words)
data-fit words fit = All-map Fits data_word words fit

-- and a command with data words after it
with-data-fit : (bits : ℕ) (words : List ℕ) → bits < 65536 → AreWords words → All Fits (with_data bits words)
with-data-fit bits words first rest = All-cons Fits (command_word bits) (map data_word words) first (data-fit words rest)

-- a command word is made of fields that fit
bits-fit : (address sub field : ℕ) (transmit : Bool) → address ≤ 31 → sub ≤ 31 → field ≤ 31 → command_bits address transmit sub field < 65536
bits-fit address sub field true small low few = omega (arith, small, low, few)
bits-fit address sub field false small low few = omega (arith, small, low, few)

-- each word of a command fits
command-fits : (kind : Kind) → HasKindRanges kind → AreWords (words_sent kind) → All Fits (command_words kind)
command-fits (Receive to sub words) ranges fit =
    with-data-fit (command_bits to false sub (length words % 32)) words
    (bits-fit to sub (length words % 32) false ranges.address (omega (arith, ranges.subaddress)) (omega arith)) fit
command-fits (Transmit from sub count) ranges fit =
    with-data-fit (command_bits from true sub (count % 32)) []
    (bits-fit from sub (count % 32) true (omega (arith, ranges.address)) (omega (arith, ranges.subaddress)) (omega arith)) fit
command-fits (Relay from from_sub to to_sub count) ranges fit =
    All-cons Fits (data_command to false to_sub count) (data_command from true from_sub count ∷ [])
    (bits-fit to to_sub (count % 32) false ranges.1.address (omega (arith, ranges.1.subaddress)) (omega arith))
    (with-data-fit (command_bits from true from_sub (count % 32)) []
    (bits-fit from from_sub (count % 32) true (omega (arith, ranges.0.address)) (omega (arith, ranges.0.subaddress)) (omega arith)) fit)
command-fits (Mode to mode_sub transmit code word) ranges fit =
    with-data-fit (command_bits to transmit mode_sub code) (option_to_list word)
    (bits-fit to mode_sub code transmit ranges.address (mode-sub mode_sub ranges.subaddress) ranges.mode) fit

-- ---- the command, as faults leave it

-- it has at most 40 words
few-words : (kind : Kind) → HasKindRanges kind → length (command_words kind) ≤ 40
few-words (Receive to sub words) ranges =
    let many : length (map data_word words) ≡ length words = length-map words data_word in let most = ranges.words.1 in omega (arith, many, most)
few-words (Transmit from sub count) ranges = omega arith
few-words (Relay from from_sub to to_sub count) ranges = omega arith
few-words (Mode to mode_sub transmit code None) ranges = omega arith
few-words (Mode to mode_sub transmit code (Some word)) ranges = omega arith

-- the hits that an accepted plan has on it fit it
pub command-hits-fit : (plan : PlanData) (attempt : ℕ) (item : ItemData) → IsAccepted plan → HasItemRanges item →
    HitsFit Command (hits_on plan.faults attempt Command) (command_words item.kind)
command-hits-fit plan attempt item accepted ranges =
    hits-fit plan attempt Command (command_words item.kind) accepted (some-words item.kind) (few-words item.kind ranges.kind)
    (command-fits item.kind ranges.kind ranges.words)

-- something is shown of it
pub command-shows : (hits : List Hit) (words : List Word) → HitsFit Command hits words → 0 < part_ticks hits words
command-shows hits words fits =
    let some = fits.some in elim (whole-or-short Command hits words fits) [
      | inl whole ↦ (let long = whole.ticks in omega (arith, long, some))
      | inr short ↦ (let long = short.1.ticks in let least = short.1.least in omega (arith, long, least))
    ]
