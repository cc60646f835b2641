-- One tick more, for a cutter that stands for a past, at every lag.
use Rattle.std.proofs.Common.{◌≡◌, ℕ, zero, suc, ◌+◌, ◌-◌, ◌*◌, ◌/◌, ◌%◌, ◌<◌, ◌≤◌, ◌^◌, Bool, true, false, if◌then◌else◌, List, ◌∷◌, ◌++◌, length, nat_le, Some, None, Option, refl, sym, ap, ◌∙◌, arith, inl, inr, ◌⊎◌}
use Rattle.std.proofs.lemmas.Bool.Decides.{nat_tests}
use lib.Bits.{bit_or}
use Rattle.bus_base.specs.Samples.{is_quiet}
use Rattle.bus_base.specs.declared.samples.Sample.{Sample}
use Rattle.bus_base.specs.declared.samples.Sample.TheVariants.{Quiet}
use Rattle.bus_line.specs.declared.cutter.Cut.TheVariants as cuts
use Rattle.bus_planes.specs.declared.cutter.BitCutter.{BitCutter}
use Rattle.bus_line.proofs.SlotLaws.{newest-from, word-before}
use Rattle.bus_planes.proofs.BitLaws.{bits-fit, or-bit, heard-pulse, plus-pulse, heard-quiet, plus-quiet, one-heard, one-plus}
use Rattle.bus_line.proofs.CutNow.{now-idle, now-pending, now-ended, now-begins, now-pulse}
use Rattle.bus_line.specs.Spelling.{word_in, is_plus}
use Rattle.bus_planes.specs.Bits.{is_heard, heard_bits, plus_bits}
use Rattle.bus_line.specs.Past.{quiet, samples_from, quiet_ticks, stopped, runs, first_tick, slot_word, slot_between}
use Rattle.bus_line.specs.Cutting.{cut_of, cut_now, newest_samples}
use Rattle.bus_planes.specs.Cutting.{Follows, BitCutterStands, begun}
use Rattle.bus_line.proofs.PastLaws.{quiet-pulse, stopped-more, runs-parts, rests-from, runs-pulse, rests-more, first_tick-runs, first_tick-begins}

-- a cutter that heard quiet ticks alone
quiet-alone : (n : ℕ) → (quiet (quiet_ticks n) ≡ n) × (length (quiet_ticks n) ≡ n)
quiet-alone zero = (refl, refl)
quiet-alone (suc n) = (ap suc (quiet-alone n).0, ap suc (quiet-alone n).1)

-- among quiet ticks alone no burst runs
pub rests-alone : (k n : ℕ) → runs k (quiet_ticks n) ≡ false
rests-alone k n =
    let all : (quiet (quiet_ticks n) ≡ n) × (length (quiet_ticks n) ≡ n) = quiet-alone n in
    rests-from k (quiet_ticks n) (inl (omega (arith, all.0, all.1)))

-- so a new cutter follows them
pub new-stands : (k n : ℕ) → Follows k record { heard = 0; plus = 0; slots = 0; rest = 0; quiet = suc k } (quiet_ticks n)
new-stands k n =
    let off : runs k (quiet_ticks n) ≡ false = rests-alone k n in
    let more : nat_le (suc k) k ≡ false = grind (arith, nat_tests) in
    record {
      short = omega arith;
      runs = more ∙ sym off;
      within = omega arith;
      quiet = λ low. absurd (omega arith);
      here = λ low. absurd (omega arith);
      heard = λ low. absurd (omega arith);
      plus = λ low. absurd (omega arith);
    }

below-two : (b : Bool) → (if b then 1 else 0) < 2
below-two true = omega arith
below-two false = omega arith

module _ (k : ℕ) (c : BitCutter) (past : List Sample) (s : Follows k c past) where
  -- ---- where no burst runs

  -- a cutter that waits for a burst knows that none runs
  pub off : k < c.quiet → runs k past ≡ false
  off idle = grind (arith, nat_tests, s.runs)

  -- a quiet tick tells nothing
  pub idle-cut : k < c.quiet → cuts.Nothing ≡ cut_now k (Quiet ∷ past)
  idle-cut idle = sym (now-idle k past (off idle))

  -- and changes nothing
  pub idle-stands : k < c.quiet → Follows k c (Quiet ∷ past)
  idle-stands idle =
      let rests : runs k (Quiet ∷ past) ≡ false = rests-more k past (off idle) in
      let more : nat_le c.quiet k ≡ false = grind (arith, nat_tests, idle) in
      record {
        short = s.short;
        runs = more ∙ sym rests;
        within = s.within;
        quiet = λ low. absurd (omega arith);
        here = λ low. absurd (omega arith);
        heard = λ low. absurd (omega arith);
        plus = λ low. absurd (omega arith);
      }

  -- a tick that isn't quiet tells nothing
  pub begins-cut : (x : Sample) → k < c.quiet → is_quiet x ≡ false → cuts.Nothing ≡ cut_now k (x ∷ past)
  begins-cut x idle pulse = sym (now-begins k x past pulse (off idle))

  -- and begins a burst
  pub begins-stands : (x : Sample) → k < c.quiet → is_quiet x ≡ false → Follows k (begun x) (x ∷ past)
  begins-stands x idle pulse =
      let first : first_tick k (x ∷ past) ≡ length past = first_tick-begins k x past (off idle) pulse in
      let none : quiet (x ∷ past) ≡ 0 = quiet-pulse x past pulse in
      let few : nat_le 0 k ≡ true = grind (arith, nat_tests) in
      record {
        short = omega arith;
        runs = few ∙ sym (runs-pulse k x past pulse);
        within = omega arith;
        quiet = λ low. sym none;
        here = λ low. omega (arith, first);
        heard = λ low. one-heard x past pulse;
        plus = λ low. one-plus x past;
      }

  -- ---- where a burst runs

  -- a cutter within a burst knows that it runs
  pub on : c.quiet ≤ k → runs k past ≡ true
  on running = grind (arith, nat_tests, s.runs, running)

  -- how far the burst is
  ticks-of : c.quiet ≤ k → stopped past ≡ first_tick k past + (40 * c.slots + c.rest)
  ticks-of running = let here = s.here running in let same = s.quiet running in omega (arith, here, same)

  -- a quiet tick that is bridged tells nothing
  pub pending-cut : c.quiet + 1 ≤ k → cuts.Nothing ≡ cut_now k (Quiet ∷ past)
  pending-cut few = let same : c.quiet ≡ quiet past = s.quiet (omega arith) in sym (now-pending k past (omega (arith, same, few)))

  -- quiet tick k + 1 tells the end
  pub ended-cut : c.quiet ≡ k → cuts.Ended c.slots c.rest ≡ cut_now k (Quiet ∷ past)
  ended-cut all =
      let low : c.quiet ≤ k = omega arith in
      let same : c.quiet ≡ quiet past = s.quiet low in
      let ticks : stopped past ≡ first_tick k past + (40 * c.slots + c.rest) = ticks-of low in
      let slots : (stopped past - first_tick k past) / 40 ≡ c.slots = omega (arith, ticks, s.short) in
      let rest : (stopped past - first_tick k past) % 40 ≡ c.rest = omega (arith, ticks, s.short) in
      sym (now-ended k past (on low) (omega (arith, same, all)) ∙ (rw (slots, rest) refl))

  -- a quiet tick is counted
  pub quiet-stands : c.quiet ≤ k →
      Follows k record { heard = c.heard; plus = c.plus; slots = c.slots; rest = c.rest; quiet = c.quiet + 1 } (Quiet ∷ past)
  quiet-stands running =
      let same : c.quiet ≡ quiet past = s.quiet running in
      let here = s.here running in
      let more : stopped (Quiet ∷ past) ≡ stopped past = stopped-more past in
      let some : 0 < stopped past = (runs-parts k past (on running)).0 in
      let next : c.rest + (c.quiet + 1) ≡ suc (c.rest + c.quiet) = omega arith in
      record {
        short = s.short;
        runs = grind (arith, nat_tests, same, more, some);
        within = omega (arith, running);
        quiet = λ low. omega (arith, same);
        here = λ low. omega (arith, here);
        heard = λ low. rw next (s.heard running ∙ sym (heard-quiet (c.rest + c.quiet) past (omega (arith, here))));
        plus = λ low. rw next (s.plus running ∙ sym (plus-quiet (c.rest + c.quiet) past (omega (arith, here))));
      }

  -- the ticks of the slot that isn't whole are among those that came
  pub slot-within : c.quiet ≤ k → c.rest + c.quiet ≤ length past
  slot-within running = let here = s.here running in omega (arith, here)

  -- with a tick that isn't quiet they are these bits
  pub heard-with : (x : Sample) (place heard : ℕ) → is_quiet x ≡ false → place ≡ c.rest + c.quiet → c.quiet ≤ k → heard ≡ c.heard + 2 ^ place →
      heard ≡ heard_bits (newest_samples (suc place) (x ∷ past))
  heard-with x place heard pulse at running is =
      is ∙ ap (λ n. n + 2 ^ place) (rw at (s.heard running)) ∙ sym (heard-pulse x place past pulse (omega (arith, at, slot-within running)))

  pub plus-with : (x : Sample) (place plus : ℕ) → place ≡ c.rest + c.quiet → c.quiet ≤ k → plus ≡ c.plus + (if is_plus x then 1 else 0) * 2 ^ place →
      plus ≡ plus_bits (newest_samples (suc place) (x ∷ past))
  plus-with x place plus at running is =
      is ∙ ap (λ n. n + (if is_plus x then 1 else 0) * 2 ^ place) (rw at (s.plus running)) ∙ sym (plus-pulse x place past (omega (arith, at, slot-within running)))

  -- a tick that isn't quiet is written down, with the slots and the rest that it makes
  pub pulse-stands : (x : Sample) (place slots rest heard plus : ℕ) → is_quiet x ≡ false → place ≡ c.rest + c.quiet → c.quiet ≤ k →
      40 * slots + rest ≡ 40 * c.slots + (place + 1) → rest < 40 →
      heard ≡ heard_bits (newest_samples rest (x ∷ past)) → plus ≡ plus_bits (newest_samples rest (x ∷ past)) →
      Follows k record { heard = heard; plus = plus; slots = slots; rest = rest; quiet = 0 } (x ∷ past)
  pulse-stands x place slots rest heard plus pulse at running total short heard_is plus_is =
      let none : quiet (x ∷ past) ≡ 0 = quiet-pulse x past pulse in
      let here = s.here running in
      let first : first_tick k (x ∷ past) ≡ first_tick k past = first_tick-runs k x past (on running) in
      let few : nat_le 0 k ≡ true = grind (arith, nat_tests) in
      let same : rest + 0 ≡ rest = omega arith in
      record {
        short = short;
        runs = few ∙ sym (runs-pulse k x past pulse);
        within = omega arith;
        quiet = λ low. sym none;
        here = λ low. omega (arith, here, first, total, at);
        heard = λ low. rw same heard_is;
        plus = λ low. rw same plus_is;
      }

  -- the same numbers as the code computes them
  pub heard-code : (place : ℕ) → place ≡ c.rest + c.quiet → c.quiet ≤ k → k ≤ 3 → bit_or c.heard (1 * 2 ^ place % 2 ^ 64) ≡ c.heard + 2 ^ place
  heard-code place at running small =
      let fits : c.heard < 2 ^ place = rw at (bits-fit is_heard (c.rest + c.quiet) past c.heard (slot-within running) (s.heard running)) in
      or-bit c.heard 1 place fits (omega arith) (omega (arith, at, running, small, s.short)) ∙ omega arith

  pub plus-code : (place b : ℕ) → place ≡ c.rest + c.quiet → c.quiet ≤ k → k ≤ 3 → b < 2 → bit_or c.plus (b * 2 ^ place % 2 ^ 64) ≡ c.plus + b * 2 ^ place
  plus-code place b at running small one =
      let fits : c.plus < 2 ^ place = rw at (bits-fit is_plus (c.rest + c.quiet) past c.plus (slot-within running) (s.plus running)) in
      or-bit c.plus b place fits one (omega (arith, at, running, small, s.short))

  -- so many bits, by any name of their number
  pub heard-next : (x : Sample) (place m : ℕ) → is_quiet x ≡ false → place ≡ c.rest + c.quiet → c.quiet ≤ k → k ≤ 3 → suc place ≡ m →
      bit_or c.heard (1 * 2 ^ place % 2 ^ 64) ≡ heard_bits (newest_samples m (x ∷ past))
  heard-next x place m pulse at running small e =
      heard-with x place (bit_or c.heard (1 * 2 ^ place % 2 ^ 64)) pulse at running (heard-code place at running small)
      ∙ ap (λ n. heard_bits (newest_samples n (x ∷ past))) e

  pub plus-next : (x : Sample) (place m b : ℕ) → place ≡ c.rest + c.quiet → c.quiet ≤ k → k ≤ 3 → suc place ≡ m → b ≡ (if is_plus x then 1 else 0) →
      bit_or c.plus (b * 2 ^ place % 2 ^ 64) ≡ plus_bits (newest_samples m (x ∷ past))
  plus-next x place m b at running small e is =
      rw is (plus-with x place (bit_or c.plus ((if is_plus x then 1 else 0) * 2 ^ place % 2 ^ 64)) at running
      (plus-code place (if is_plus x then 1 else 0) at running small (below-two (is_plus x)))
      ∙ ap (λ n. plus_bits (newest_samples n (x ∷ past))) e)

  -- what a tick that isn't quiet tells, by the ticks of the burst before and with it
  pulse-cut : (x : Sample) (place : ℕ) (number : Option ℕ) → is_quiet x ≡ false → place ≡ c.rest + c.quiet → c.quiet ≤ k →
      slot_between (40 * c.slots + c.rest) (40 * c.slots + (place + 1)) ≡ number →
      cut_now k (x ∷ past) ≡ cut_of (x ∷ past) (first_tick k past) None number
  pulse-cut x place number pulse at running is =
      let here = s.here running in
      let ticks : stopped past ≡ first_tick k past + (40 * c.slots + c.rest) = ticks-of running in
      let before : stopped past - first_tick k past ≡ 40 * c.slots + c.rest = omega (arith, ticks) in
      let now : suc (length past) - first_tick k past ≡ 40 * c.slots + (place + 1) = omega (arith, here, at) in
      now-pulse k x past number pulse (on running) (rw (before, now) is)

  -- before a slot's last place it tells nothing
  pub plain-cut : (x : Sample) (place : ℕ) → is_quiet x ≡ false → place ≡ c.rest + c.quiet → c.quiet ≤ k → place < 39 →
      cuts.Nothing ≡ cut_now k (x ∷ past)
  plain-cut x place pulse at running low =
      let within : (40 * c.slots + (place + 1)) / 40 ≡ (40 * c.slots + c.rest) / 40 = omega (arith, low, at) in
      sym (pulse-cut x place None pulse at running (grind (arith, nat_tests, within)))

  -- from the last place on it tells a slot
  slot-at : (place : ℕ) → place ≡ c.rest + c.quiet → 39 ≤ place → place < 79 →
      slot_between (40 * c.slots + c.rest) (40 * c.slots + (place + 1)) ≡ Some c.slots
  slot-at place at high low =
      let before : (40 * c.slots + c.rest) / 40 ≡ c.slots = omega (arith, s.short) in
      let now : (40 * c.slots + (place + 1)) / 40 ≡ suc c.slots = omega (arith, high, low) in
      rw (before, now) (grind (arith, nat_tests))

  -- in the last place the slot has the word that the newest forty samples spell
  pub full-cut : (x : Sample) (place : ℕ) → is_quiet x ≡ false → place ≡ c.rest + c.quiet → c.quiet ≤ k → place ≡ 39 →
      cuts.Slot c.slots (word_in (newest_samples 40 (x ∷ past))) ≡ cut_now k (x ∷ past)
  unfolding slot_word
  full-cut x place pulse at running full =
      let cut = pulse-cut x place (Some c.slots) pulse at running (slot-at place at (omega arith) (omega arith)) in
      let here = s.here running in
      let slot : samples_from (x ∷ past) (first_tick k past + 40 * c.slots) 40 ≡ newest_samples 40 (x ∷ past) =
      newest-from (x ∷ past) (first_tick k past + 40 * c.slots) 40 (omega (arith, here, at, full)) in
      sym (cut ∙ ap (λ xs. cuts.Slot c.slots (word_in xs)) slot)

  -- after it the slot has no word
  pub crossed-cut : (x : Sample) (place : ℕ) → k ≤ 3 → is_quiet x ≡ false → place ≡ c.rest + c.quiet → c.quiet ≤ k → 39 < place →
      cuts.Slot c.slots None ≡ cut_now k (x ∷ past)
  unfolding slot_word
  crossed-cut x place small pulse at running crossed =
      let cut = pulse-cut x place (Some c.slots) pulse at running (slot-at place at (omega arith) (omega (arith, s.short))) in
      let here = s.here running in
      let same = s.quiet running in
      let word : word_in (samples_from (x ∷ past) (first_tick k past + 40 * c.slots) 40) ≡ None =
      word-before (first_tick k past + 40 * c.slots) (place - 40) x past (omega (arith, here, at, crossed)) (omega (arith, same, at, s.short)) in
      sym (cut ∙ ap (cuts.Slot c.slots) word)

-- where no burst runs, further quiet ticks change nothing
follows-quiet : (k : ℕ) (c : BitCutter) (past : List Sample) (n : ℕ) → runs k past ≡ false → Follows k c past → Follows k c (quiet_ticks n ++ past)
follows-quiet k c past zero rests f = f
follows-quiet k c past (suc n) rests f =
    let idle : k < c.quiet = grind (arith, nat_tests, f.runs, rests) in
    idle-stands k c (quiet_ticks n ++ past) (follows-quiet k c past n rests f) idle

-- so a cutter stands for the past with further quiet ticks
pub stands-quiet : (k : ℕ) (c : BitCutter) (past : List Sample) (n : ℕ) → runs k past ≡ false → BitCutterStands k c past → BitCutterStands k c (quiet_ticks n ++ past)
unfolding BitCutterStands
stands-quiet k c past n rests f = follows-quiet k c past n rests f

-- the same by the quiet ticks
pub quiet-alone-rests : (k : ℕ) (past : List Sample) → (k < quiet past) ⊎ (quiet past ≡ length past) → runs k past ≡ false
quiet-alone-rests k past h = rests-from k past (elim h [
  | inl many ↦ inr many
  | inr all ↦ inl (omega (arith, all))
])
