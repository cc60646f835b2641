-- What a tick tells of a channel is so.
use Rattle.std.proofs.Common.{◌≡◌, ℕ, ◌-◌, List, ◌∷◌, length, refl, ap, sym, ◌∙◌, arith}
use Rattle.std.specs.Prelude.{Bool, true, false, not, ◌&&◌, if◌then◌else◌, is_some, Option, Some, None}
use Rattle.bus_base.specs.Samples.{is_quiet}
use Rattle.bus_base.specs.declared.samples.Sample.{Sample}
use Rattle.bus_base.specs.declared.samples.Sample.TheVariants.{Plus, Minus, Quiet}
use Rattle.bus_words.specs.declared.word.Word.{Word}
use Rattle.bus_line.specs.Past.{runs, first_tick, newest_burst}
use Rattle.bus_line.specs.Cutting.{cut_now, running_slots, Tells, Closes}
use Rattle.bus_line.specs.declared.cutter.TheConstants.{LAG}
use Rattle.bus_line.specs.declared.cutter.Cut.TheVariants as cuts
use Rattle.bus_line.proofs.CollectLaws.{end-closes, slot-fills}
use Rattle.bus_monitor.specs.Messages.{Waiting}
use Rattle.bus_monitor.specs.Listings.{running_on}
use Rattle.bus_monitor.specs.Awaited.{awaited}
use Rattle.bus_monitor.specs.Steps.{closed_in, burst_next}
use Rattle.bus_monitor.specs.Told.{begins, told_in_pause, from_of, taken_of, TellsSo}
use Rattle.bus_monitor.specs.declared.told.Told.TheVariants as told
use Rattle.bus_monitor.proofs.PastLaws.{an-end}
use Rattle.bus_monitor.proofs.PastLaws as past_laws
use Rattle.bus_monitor.proofs.ListerLaws.{tells-cut, collects-cut, IsEnded, end-closed}

none-begins : (heard : Bool) → (heard && not true) ≡ false
none-begins true = refl
none-begins false = refl

-- while a burst runs none begins
pub runs-none : (k : ℕ) (x : Sample) (past : List Sample) → runs k past ≡ true → begins k (x ∷ past) ≡ false
runs-none k x past ran = ap (λ r. not (is_quiet x) && not r) ran ∙ none-begins (not (is_quiet x))

some-on : (ran : Bool) (first tick : ℕ) → Some first ≡ (if ran then Some tick else None) → ran ≡ true
some-on true first tick is = refl
some-on false first tick is = absurd (cc)

none-on : (ran : Bool) (tick : ℕ) → None ≡ (if ran then Some tick else None) → ran ≡ false
none-on true tick is = absurd (cc)
none-on false tick is = refl

-- a tick in which nothing becomes known of a burst
pub pause-tells : (x : Sample) (past : List Sample) (running : Option ℕ) (w : Option Waiting) → running ≡ running_on LAG past → w ≡ awaited LAG past →
    cuts.Nothing ≡ cut_now LAG (x ∷ past) → TellsSo LAG x past (told_in_pause x running w)
pause-tells x past (Some first) w run wait is = (
  record { none = (tells-cut LAG x past cuts.Nothing is).0; begun_is = runs-none LAG x past (some-on (runs LAG past) first (first_tick LAG past) run) },
  collects-cut LAG x past cuts.Nothing (omega arith) is,
)
pause-tells Quiet past None w run wait is = (
  record { none = (tells-cut LAG Quiet past cuts.Nothing is).0; begun_is = refl },
  collects-cut LAG Quiet past cuts.Nothing (omega arith) is,
)
pause-tells Plus past None w run wait is =
    let off : runs LAG past ≡ false = none-on (runs LAG past) (first_tick LAG past) run in (
      record { none = (tells-cut LAG Plus past cuts.Nothing is).0; begun_is = ap not off },
      collects-cut LAG Plus past cuts.Nothing (omega arith) is,
      ap from_of wait,
      off,
    )
pause-tells Minus past None w run wait is =
    let off : runs LAG past ≡ false = none-on (runs LAG past) (first_tick LAG past) run in (
      record { none = (tells-cut LAG Minus past cuts.Nothing is).0; begun_is = ap not off },
      collects-cut LAG Minus past cuts.Nothing (omega arith) is,
      ap from_of wait,
      off,
    )

-- a tick in which a slot ends
pub slot-tells : (x : Sample) (past : List Sample) (i : ℕ) (word : Option Word) → cuts.Slot i word ≡ cut_now LAG (x ∷ past) →
    TellsSo LAG x past (told.Slot (is_some word))
slot-tells x past i word is =
    let tells : Tells LAG (x ∷ past) (cuts.Slot i word) = tells-cut LAG x past (cuts.Slot i word) is in (
      record { none = tells.0; begun_is = runs-none LAG x past (slot-fills LAG x past _ (omega arith) tells.1).ran },
      word,
      refl,
      (collects-cut LAG x past (cuts.Slot i word) (omega arith) is).1,
    )

-- a tick in which a burst's end becomes known
pub end-tells : (x : Sample) (past : List Sample) (slots rest now : ℕ) (w : Option Waiting) → w ≡ awaited LAG past → length past ≡ now →
    cuts.Ended slots rest ≡ cut_now LAG (x ∷ past) → (e : IsEnded LAG x past rest) →
    TellsSo LAG x past (told.Ended record {
      first = e.first;
      rest = rest;
      taken = taken_of (closed_in (burst_next w e.first (now - LAG) now (running_slots LAG past) rest));
    })
end-tells x past slots rest now w wait here is e =
    let tells : Tells LAG (x ∷ past) (cuts.Ended slots rest) = tells-cut LAG x past (cuts.Ended slots rest) is in
    let ends : past_laws.Ends LAG past (newest_burst LAG (x ∷ past)) (x ∷ past) = an-end LAG x past _ tells.0 in
    let closes : Closes LAG x past (newest_burst LAG (x ∷ past)) = end-closes LAG x past _ tells.0 in
    let first : Some (first_tick LAG past) ≡ Some e.first = ap (λ b. if b then Some (first_tick LAG past) else None) (sym ends.ran) ∙ e.ran in (
      record {
        burst = newest_burst LAG (x ∷ past);
        is = tells.0;
        first = ends.first ∙ (cc);
        rest = tells.3;
        end = ends.end;
        slots = closes.slots;
        taken = ap taken_of (end-closed w x past now rest wait here e);
      },
      (collects-cut LAG x past (cuts.Ended slots rest) (omega arith) is).1,
      runs-none LAG x past ends.ran,
    )
