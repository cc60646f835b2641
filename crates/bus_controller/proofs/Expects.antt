-- An answer is awaited and heard.
use Rattle.std.proofs.Common.{◌≡◌, ℕ, suc, ◌+◌, ◌-◌, ◌/◌, ◌%◌, ◌<◌, ◌≤◌, true, false, List, [], ◌∷◌, length, take, Option, Some, None, refl, sym, ap, ◌∙◌, arith}
use Rattle.bus_base.specs.Samples.{is_quiet}
use Rattle.bus_base.specs.declared.samples.Sample.{Sample}
use Rattle.bus_base.specs.declared.samples.Sample.TheVariants.{Quiet}
use Rattle.bus_words.specs.declared.word.Word.{Word}
use Rattle.bus_line.specs.declared.cutter.Cut.TheVariants as cuts
use Rattle.bus_line.specs.Past.{Burst, quiet, stopped, runs, first_tick, end_since, newest_burst, end_of, rest_of, slot_word}
use Rattle.bus_line.specs.Cutting.{cut_now, cut_of, running_slots, Collects}
use Rattle.bus_line.proofs.PastLaws.{quiet-le, stopped-more, stopped-quiet, runs-parts, runs-from, runs-pulse, rests-more, first_tick-runs, first_tick-begins, first_tick-lt}
use Rattle.bus_line.proofs.EndLaws.{end_since-runs, end_since-ended}
use Rattle.bus_line.proofs.SlotLaws.{burst-first, burst-ticks, burst_from-more}
use Rattle.bus_line.proofs.CutNow.{now-pending, now-ended, now-begins, now-pulse, ended-more}
use Rattle.bus_line.proofs.CollectLaws.{running-off, running-on, cut-collects}
use Rattle.bus_formats.specs.Times.{no_response}
use Rattle.bus_model.specs.Attempts.{Begun}
use Rattle.bus_model.specs.Controller.{reply, whole, silence}
use Rattle.bus_controller.specs.Stands.{Awaits, IsAwaited, IsRunning}
use Rattle.bus_controller.specs.Steps.{kept}
use Rattle.bus_controller.proofs.Words.{take-again}
use Rattle.bus_controller.proofs.Replies.{first-stays, first-quiet, first-begins, reply-stays, reply-whole, reply-silence}
use Rattle.bus_controller.proofs.Doubts.{first-more}

-- what is awaited stays so
pub awaits-more : (k : ℕ) (x : Sample) (samples : List Sample) (b : Begun) (first : Option ℕ) (end : ℕ) → Awaits k samples b first end → Awaits k (x ∷ samples) b first end
awaits-more k x samples b None end a = first-more k x samples b end a
awaits-more k x samples b (Some status) end a = record {
  command = a.command;
  first = first-more k x samples b a.command a.first;
  burst = a.burst;
  heard = reply-stays k x samples a.command a.burst a.heard;
  good = a.good;
  shape = a.shape;
  expected = a.expected;
  end_is = a.end_is;
}

module _ (k : ℕ) (small : k ≤ 3) (samples : List Sample) (end : ℕ) where
  -- the answer begins
  pub begins-running : (x : Sample) → IsAwaited k samples end → end ≤ length samples → is_quiet x ≡ false → IsRunning k (x ∷ samples) end []
  begins-running x a from pulse =
      let first : first_tick k (x ∷ samples) ≡ length samples = first_tick-begins k x samples a.rests pulse in
      let on : runs k (x ∷ samples) ≡ true = runs-pulse k x samples pulse in
      let collects : Collects (cut_now k (x ∷ samples)) (running_slots k samples) (running_slots k (x ∷ samples)) = cut-collects k x samples (omega (arith, small)) in
      let same : running_slots k (x ∷ samples) ≡ running_slots k samples = rw (now-begins k x samples pulse a.rests) at collects in
      let none : running_slots k (x ∷ samples) ≡ [] = same ∙ running-off k samples a.rests in
      record {
        first = length samples;
        heard = first-begins x samples end from a.none pulse;
        soon = a.soon;
        going = rw first at (end_since-runs k (x ∷ samples) on);
        on = on;
        first_is = first;
        kept = rw none refl;
      }

  -- it goes on, with these slots
  goes-running : (x : Sample) (slots new : List (Option Word)) → IsRunning k samples end slots → runs k (x ∷ samples) ≡ true →
      new ≡ take 34 (running_slots k (x ∷ samples)) → IsRunning k (x ∷ samples) end new
  goes-running x slots new r on is =
      let first : first_tick k (x ∷ samples) ≡ r.first = first_tick-runs k x samples r.on ∙ r.first_is in
      record {
        first = r.first;
        heard = first-stays x samples end r.first r.heard;
        soon = r.soon;
        going = rw first at (end_since-runs k (x ∷ samples) on);
        on = on;
        first_is = first;
        kept = is;
      }

  pub pending-running : (slots : List (Option Word)) → IsRunning k samples end slots → quiet samples < k → IsRunning k (Quiet ∷ samples) end slots
  pending-running slots r few =
      let parts = runs-parts k samples r.on in
      let more : stopped (Quiet ∷ samples) ≡ stopped samples = stopped-more samples in
      let on : runs k (Quiet ∷ samples) ≡ true = runs-from k (Quiet ∷ samples) (omega (arith, parts.0, more)) (omega (arith, few)) in
      let collects : Collects (cut_now k (Quiet ∷ samples)) (running_slots k samples) (running_slots k (Quiet ∷ samples)) = cut-collects k Quiet samples (omega (arith, small)) in
      let same : running_slots k (Quiet ∷ samples) ≡ running_slots k samples = rw (now-pending k samples few) at collects in
      goes-running Quiet slots slots r on (r.kept ∙ ap (take 34) (sym same))

  -- what a tick that isn't quiet tells
  pub data PulseCut (x : Sample) (slots : List (Option Word)) : Type 0 where
    plain : cut_now k (x ∷ samples) ≡ cuts.Nothing → IsRunning k (x ∷ samples) end slots → PulseCut x slots
    slot : (i : ℕ) (word : Option Word) → cut_now k (x ∷ samples) ≡ cuts.Slot i word → IsRunning k (x ∷ samples) end (kept slots word) → PulseCut x slots

  pulse-by : (x : Sample) (slots : List (Option Word)) (p : ℕ) (number : Option ℕ) → IsRunning k samples end slots → is_quiet x ≡ false →
      cut_now k (x ∷ samples) ≡ cut_of (x ∷ samples) p None number →
      Collects (cut_now k (x ∷ samples)) (running_slots k samples) (running_slots k (x ∷ samples)) → PulseCut x slots
  pulse-by x slots p None r pulse is collects =
      let same : running_slots k (x ∷ samples) ≡ running_slots k samples = rw is at collects in
      plain is (goes-running x slots slots r (runs-pulse k x samples pulse) (r.kept ∙ ap (take 34) (sym same)))
  pulse-by x slots p (Some i) r pulse is collects =
      let both = rw is at collects in
      slot i (slot_word (x ∷ samples) p i) is (goes-running x slots (kept slots (slot_word (x ∷ samples) p i)) r (runs-pulse k x samples pulse)
      (ap (λ (xs : List (Option Word)). kept xs (slot_word (x ∷ samples) p i)) r.kept
      ∙ take-again 34 (running_slots k samples) (slot_word (x ∷ samples) p i ∷ []) ∙ ap (take 34) (sym both.1)))

  pub pulse-cut : (x : Sample) (slots : List (Option Word)) → IsRunning k samples end slots → is_quiet x ≡ false → PulseCut x slots
  pulse-cut x slots r pulse =
      pulse-by x slots (first_tick k samples) _ r pulse (now-pulse k x samples _ pulse r.on refl) (cut-collects k x samples (omega (arith, small)))

-- an answer that ended: the newest burst, which ended k ticks ago
pub record HasEnded (k : ℕ) (x : Sample) (samples : List Sample) (end : ℕ) (slots : List (Option Word)) : Type 0 where
  pub burst : Burst
  pub cut : (count : ℕ) × (cut_now k (x ∷ samples) ≡ cuts.Ended count (rest_of burst))
  pub heard : reply k (x ∷ samples) end ≡ whole burst
  pub kept_are : slots ≡ take 34 burst.slots
  pub at : end_of burst + k ≡ length samples
  pub still : suc k ≡ quiet (x ∷ samples)

pub ended-running : (k : ℕ) (samples : List Sample) (end : ℕ) (slots : List (Option Word)) → IsRunning k samples end slots → quiet samples ≡ k → HasEnded k Quiet samples end slots
ended-running k samples end slots r all =
    let parts = runs-parts k samples r.on in
    let below : quiet samples ≤ length samples = quiet-le samples in
    let less : first_tick k samples < stopped samples = first_tick-lt k samples parts.0 in
    let first : (newest_burst k samples).first ≡ r.first = burst-first samples (first_tick k samples) (stopped samples - first_tick k samples) ∙ r.first_is in
    let ticks : (newest_burst k samples).ticks ≡ stopped samples - first_tick k samples = burst-ticks samples (first_tick k samples) (stopped samples - first_tick k samples) in
    let last : end_of (newest_burst k samples) ≡ stopped samples = (let f = r.first_is in omega (arith, first, ticks, less, f)) in
    let ended : end_since k (Quiet ∷ samples) r.first ≡ Some (end_of (newest_burst k samples)) =
    ap (λ a. end_since k (Quiet ∷ samples) a) (sym first) ∙ end_since-ended k (Quiet ∷ samples) (newest_burst k samples) (ended-more k samples r.on all) in
    let size : end_of (newest_burst k samples) - r.first ≡ stopped samples - first_tick k samples = (let f = r.first_is in omega (arith, last, f)) in
    let same = burst_from-more Quiet samples (first_tick k samples) (stopped samples - first_tick k samples) (omega (arith, less, below)) in
    record {
      burst = newest_burst k samples;
      cut = ((stopped samples - first_tick k samples) / 40, now-ended k samples r.on all ∙ ap (λ n. cuts.Ended ((stopped samples - first_tick k samples) / 40) (n % 40)) (sym ticks));
      heard = reply-whole k (Quiet ∷ samples) end r.first (end_of (newest_burst k samples)) (first-stays Quiet samples end r.first r.heard) r.soon ended
          ∙ ap whole (rw (size, sym r.first_is) same);
      kept_are = r.kept ∙ ap (take 34) (running-on k samples r.on);
      at = (let whole_is = stopped-quiet samples in omega (arith, last, whole_is, all));
      still = ap suc (sym all);
    }

pub has-ended : (k : ℕ) (x : Sample) (samples : List Sample) (end : ℕ) (slots : List (Option Word)) → x ≡ Quiet → IsRunning k samples end slots → quiet samples ≡ k →
    HasEnded k x samples end slots
has-ended k x samples end slots e r all = rw e (ended-running k samples end slots r all)

-- with a quiet tick the answer is awaited on, or the wait is over
pub quiet-awaited : (k : ℕ) (x : Sample) (samples : List Sample) (end : ℕ) → x ≡ Quiet → end ≤ length samples → IsAwaited k samples end → suc (length samples) ≤ end + no_response →
    IsAwaited k (x ∷ samples) end
quiet-awaited k x samples end e from a soon =
    rw e record { none = first-quiet samples end from a.none; soon = soon; rests = rests-more k samples a.rests }

pub quiet-silence : (k : ℕ) (x : Sample) (samples : List Sample) (end : ℕ) → x ≡ Quiet → end ≤ length samples → IsAwaited k samples end → end + no_response < suc (length samples) →
    reply k (x ∷ samples) end ≡ silence
quiet-silence k x samples end e from a late = rw e (reply-silence k (Quiet ∷ samples) end (first-quiet samples end from a.none) late)

-- with one more of too few quiet ticks it runs on
pub quiet-running : (k : ℕ) (x : Sample) (samples : List Sample) (end : ℕ) (slots : List (Option Word)) → k ≤ 3 → x ≡ Quiet → IsRunning k samples end slots → quiet samples < k →
    (cut_now k (x ∷ samples) ≡ cuts.Nothing) × IsRunning k (x ∷ samples) end slots
quiet-running k x samples end slots small e r few = rw e (now-pending k samples few, pending-running k small samples end slots r few)
