-- The word that a cut tells is the valid word that ended in the newest tick.
use Rattle.std.proofs.Common.{◌≡◌, ℕ, ◌+◌, ◌*◌, ◌-◌, ◌≤◌, List, ◌∷◌, length, refl, ap, sym, ◌∙◌, arith, lit≤}
use Rattle.std.specs.Prelude.{Option, Some, None}
use Rattle.bus_base.specs.declared.samples.Channel.{Channel}
use Rattle.bus_base.specs.declared.samples.Sample.{Sample}
use Rattle.bus_line.specs.Past.{slot_now, first_tick}
use Rattle.bus_line.specs.Cutting.{cut_now, Tells, Fills}
use Rattle.bus_line.specs.declared.cutter.TheConstants.{LAG}
use Rattle.bus_line.specs.declared.cutter.Cut.{Cut}
use Rattle.bus_line.specs.declared.cutter.Cut.TheVariants as cuts
use Rattle.bus_line.proofs.CutNow.{cut-tells}
use Rattle.bus_line.proofs.CollectLaws.{slot-fills}
use Rattle.bus_words.specs.declared.word.Word.{Word}
use Rattle.bus_monitor.specs.Progress.{heard_at, heard_of}
use Rattle.bus_monitor.specs.Listers.{heard_in}

-- a valid word is known in its last tick
heard-slot : (k : ℕ) (c : Channel) (x : Sample) (past : List Sample) (p : ℕ) (word : Option Word) → k ≤ 39 →
    slot_now k (x ∷ past) ≡ Some record { first = p; word = word } → heard_at c (length past - 39) word ≡ heard_at c p word
heard-slot k c x past p None short is = refl
heard-slot k c x past p (Some word) short is =
    let fills : Fills k x past record { first = p; word = Some word } = slot-fills k x past record { first = p; word = Some word } short is in
    let last : p + 40 ≡ length (x ∷ past) = fills.word refl in
    let first : length past - 39 ≡ p = omega (arith, last) in
    rw first refl

heard-cut : (k : ℕ) (c : Channel) (x : Sample) (past : List Sample) (cut : Cut) → k ≤ 39 → Tells k (x ∷ past) cut →
    heard_in cut c (length past) ≡ heard_of c (slot_now k (x ∷ past))
heard-cut k c x past cuts.Nothing short tells = sym (ap (heard_of c) tells.1)
heard-cut k c x past (cuts.Slot i word) short tells =
    heard-slot k c x past (first_tick k (x ∷ past) + 40 * i) word short tells.1 ∙ sym (ap (heard_of c) tells.1)
heard-cut k c x past (cuts.Ended slots rest) short tells = sym (ap (heard_of c) tells.1)

pub heard-in : (k : ℕ) (c : Channel) (x : Sample) (past : List Sample) → k ≤ 39 →
    heard_in (cut_now k (x ∷ past)) c (length past) ≡ heard_of c (slot_now k (x ∷ past))
heard-in k c x past short = heard-cut k c x past (cut_now k (x ∷ past)) short (cut-tells k (x ∷ past))

pub heard-told : (c : Channel) (x : Sample) (past : List Sample) (cut : Cut) (tick : ℕ) → cut ≡ cut_now LAG (x ∷ past) → tick ≡ length past →
    heard_in cut c tick ≡ heard_of c (slot_now LAG (x ∷ past))
heard-told c x past cut tick is at =
    ap (λ v. heard_in v c tick) is ∙ ap (heard_in (cut_now LAG (x ∷ past)) c) at ∙ heard-in LAG c x past (lit≤ tt)
