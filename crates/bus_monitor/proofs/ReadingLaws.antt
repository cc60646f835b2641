-- An answer is read by its first 34 slots: none that is due has more than 33.
use Rattle.std.proofs.Common.{◌≡◌, ℕ, zero, suc, ◌≤◌, List, [], ◌∷◌, take, refl, ap, ◌∙◌, arith}
use Rattle.std.specs.Prelude.{Bool, true, false, ◌==◌, if◌then◌else◌, Option, Some, None}
use Rattle.bus_base.specs.declared.samples.Part.{Part}
use Rattle.bus_base.specs.declared.samples.Part.TheVariants as parts
use Rattle.bus_words.specs.declared.word.Word.{Word}
use Rattle.bus_formats.specs.Accepted.{HasKindRanges}
use Rattle.bus_formats.specs.Codes.{carried}
use Rattle.bus_formats.specs.Forms.{answers_of, mode_count}
use Rattle.bus_formats.specs.Readings.{status_alone, status_full, read_shape, read_answer, shape_in}
use Rattle.bus_formats.specs.declared.form.Shape.{Shape}
use Rattle.bus_formats.specs.declared.form.Carries.{Carries}
use Rattle.bus_formats.specs.declared.form.Carries.TheVariants.{Nothing, FromTerminal, ToTerminal}
use Rattle.bus_formats.specs.declared.plan.Kind.{Kind}
use Rattle.bus_formats.specs.declared.plan.Kind.TheVariants.{Receive, Transmit, Relay, Mode}
use Rattle.bus_monitor.proofs.FrontLaws.{data-front}

-- an answer that is due, if one is, has at most 32 data words
abbrev IsShort : Option Shape → Type 0
IsShort None = Unit {0}
IsShort (Some shape) = shape.count ≤ 32

short-if : (all : Bool) (address count : ℕ) → count ≤ 32 → IsShort (if all then None else Some record { address = address; count = count })
short-if true address count few = tt
short-if false address count few = few

mode-short : (carries : Carries) → mode_count carries ≤ 32
mode-short Nothing = omega arith
mode-short FromTerminal = omega arith
mode-short ToTerminal = omega arith

shape-short : (kind : Kind) (part : Part) → HasKindRanges kind → IsShort (shape_in part (answers_of kind))
shape-short kind parts.Command ranges = tt
shape-short (Receive to sub words) parts.First ranges = short-if (to == 31) to 0 (omega arith)
shape-short (Receive to sub words) parts.Second ranges = tt
shape-short (Transmit from sub count) parts.First ranges = short-if (from == 31) from count ranges.words.1
shape-short (Transmit from sub count) parts.Second ranges = tt
shape-short (Relay from from_sub to to_sub count) parts.First ranges = short-if (from == 31) from count ranges.0.words.1
shape-short (Relay from from_sub to to_sub count) parts.Second ranges = short-if (to == 31) to 0 (omega arith)
shape-short (Mode to mode_sub transmit code word) parts.First ranges =
    short-if (to == 31) to (mode_count (carried transmit code)) (mode-short (carried transmit code))
shape-short (Mode to mode_sub transmit code word) parts.Second ranges = tt

alone-front : (shape : Shape) (slots : List (Option Word)) (rest : ℕ) → status_alone shape (take 34 slots) rest ≡ status_alone shape slots rest
alone-front shape [] rest = refl
alone-front shape (slot ∷ []) rest = refl
alone-front shape (slot ∷ next ∷ slots) rest = refl

full-front : (shape : Shape) (slots : List (Option Word)) (rest : ℕ) → shape.count ≤ 32 →
    status_full shape (take 34 slots) rest ≡ status_full shape slots rest
full-front shape [] rest few = refl
full-front shape (slot ∷ slots) zero few = rw (data-front shape.count 33 slots (omega (arith, few))) refl
full-front shape (slot ∷ slots) (suc rest) few = refl

shape-front : (part : Part) (kind : Kind) (shape : Option Shape) (slots : List (Option Word)) (rest : ℕ) → IsShort shape →
    read_shape part kind shape (take 34 slots) rest ≡ read_shape part kind shape slots rest
shape-front part kind None slots rest few = refl
shape-front part kind (Some shape) slots rest few = rw (alone-front shape slots rest, full-front shape slots rest few) refl

-- the first 34 slots tell as much as all
pub answer-front : (kind : Kind) (part : Part) (slots : List (Option Word)) (rest : ℕ) → HasKindRanges kind →
    read_answer kind part (take 34 slots) rest ≡ read_answer kind part slots rest
answer-front kind part slots rest ranges = shape-front part kind (shape_in part (answers_of kind)) slots rest (shape-short kind part ranges)

-- so does what is kept of them
pub answer-whole : (kind kind' : Kind) (part part' : Part) (slots whole : List (Option Word)) (rest : ℕ) → HasKindRanges kind → kind ≡ kind' →
    part ≡ part' → slots ≡ take 34 whole → read_answer kind part slots rest ≡ read_answer kind' part' whole rest
answer-whole kind kind' part part' slots whole rest ranges same_kind same_part front =
    ap (λ (xs : List (Option Word)). read_answer kind part xs rest) front ∙ answer-front kind part whole rest ranges
    ∙ ap (λ (k : Kind). read_answer k part whole rest) same_kind ∙ ap (λ (p : Part). read_answer kind' p whole rest) same_part
