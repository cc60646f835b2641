-- One tick more, for a cutter that stands for a past, at every lag.
use Rattle.std.proofs.Common.{◌≡◌, ℕ, zero, suc, ◌+◌, ◌-◌, ◌*◌, ◌/◌, ◌%◌, ◌<◌, ◌≤◌, true, false, List, [], ◌∷◌, ◌++◌, length, take, set, nat_le, Some, None, Option, refl, sym, ap, ◌∙◌, arith, inl, inr, ◌⊎◌}
use Rattle.std.proofs.lemmas.Bool.{cases_eq}
use Rattle.std.proofs.lemmas.Bool.Decides.{nat_tests}
use Rattle.std.proofs.lemmas.List.{take_more_set, length-set, take_all}
use Rattle.bus_base.specs.Samples.{is_quiet}
use Rattle.bus_base.specs.declared.samples.Sample.{Sample}
use Rattle.bus_base.specs.declared.samples.Sample.TheVariants.{Quiet}
use Rattle.bus_line.specs.declared.cutter.Cut.TheVariants as cuts
use Rattle.bus_line.specs.declared.cutter.Cutter.{Cutter}
use Rattle.bus_line.proofs.SlotLaws.{reverse-more, newest-from, word-before}
use Rattle.bus_line.proofs.CutNow.{now-idle, now-pending, now-ended, now-begins, now-pulse}
use Rattle.bus_line.specs.Spelling.{word_in}
use Rattle.bus_line.specs.Past.{quiet, samples_from, quiet_ticks, stopped, runs, first_tick, slot_word, slot_between}
use Rattle.bus_line.specs.Cutting.{Follows, CutterStands, begun, cut_of, cut_now, newest_samples}
use Rattle.bus_line.proofs.PastLaws.{quiet-pulse, stopped-more, runs-parts, rests-from, runs-pulse, rests-more, first_tick-runs, first_tick-begins}

-- the samples kept, with one more
kept-more : (m : ℕ) (samples past : List Sample) (x : Sample) → m < length samples → take m samples ≡ newest_samples m past →
    take (suc m) (set samples m x) ≡ newest_samples (suc m) (x ∷ past)
kept-more m samples past x fits kept =
    let more : take (m + 1) (set samples m x) ≡ take m samples ++ x ∷ [] = take_more_set samples m x fits in
    let at : m + 1 ≡ suc m = omega arith in
    (rw at at more) ∙ (rw (reverse-more x (take m past), kept) refl)

-- the same by places in a slot, the last place beginning the next slot
kept-next : (place : ℕ) (samples past : List Sample) (x : Sample) → length samples ≡ 40 →
    take (place % 40) samples ≡ newest_samples (place % 40) past →
    take ((place + 1) % 40) (set samples (place % 40) x) ≡ newest_samples ((place + 1) % 40) (x ∷ past)
kept-next place samples past x forty kept = elim (cases_eq (place % 40) 39) [
  | inl full ↦ (let new : (place + 1) % 40 ≡ 0 = omega (arith, full) in rw new refl)
  | inr more ↦ (
      let new : (place + 1) % 40 ≡ suc (place % 40) = omega (arith, more) in
      rw new (kept-more (place % 40) samples past x (omega (arith, forty)) kept))
]

-- a cutter that heard quiet ticks alone
quiet-alone : (n : ℕ) → (quiet (quiet_ticks n) ≡ n) × (length (quiet_ticks n) ≡ n)
quiet-alone zero = (refl, refl)
quiet-alone (suc n) = (ap suc (quiet-alone n).0, ap suc (quiet-alone n).1)

-- among quiet ticks alone no burst runs
pub rests-alone : (k n : ℕ) → runs k (quiet_ticks n) ≡ false
rests-alone k n =
    let all : (quiet (quiet_ticks n) ≡ n) × (length (quiet_ticks n) ≡ n) = quiet-alone n in
    rests-from k (quiet_ticks n) (inl (omega (arith, all.0, all.1)))

-- so a new cutter follows them
pub new-stands : (k n : ℕ) (samples : List Sample) → length samples ≡ 40 →
    Follows k record { samples = samples; slots = 0; rest = 0; quiet = suc k } (quiet_ticks n)
new-stands k n samples forty =
    let off : runs k (quiet_ticks n) ≡ false = rests-alone k n in
    let more : nat_le (suc k) k ≡ false = grind (arith, nat_tests) in
    record {
      forty = forty;
      short = omega arith;
      runs = more ∙ sym off;
      within = omega arith;
      quiet = λ low. absurd (omega arith);
      here = λ low. absurd (omega arith);
      kept = λ low. absurd (omega arith);
    }

module _ (k : ℕ) (c : Cutter) (past : List Sample) (s : Follows k c past) where
  -- ---- where no burst runs

  -- a cutter that waits for a burst knows that none runs
  pub off : k < c.quiet → runs k past ≡ false
  off idle = grind (arith, nat_tests, s.runs)

  -- a quiet tick tells nothing
  pub idle-cut : k < c.quiet → cuts.Nothing ≡ cut_now k (Quiet ∷ past)
  idle-cut idle = sym (now-idle k past (off idle))

  -- and changes nothing
  pub idle-stands : k < c.quiet → Follows k c (Quiet ∷ past)
  idle-stands idle =
      let rests : runs k (Quiet ∷ past) ≡ false = rests-more k past (off idle) in
      let more : nat_le c.quiet k ≡ false = grind (arith, nat_tests, idle) in
      record {
        forty = s.forty;
        short = s.short;
        runs = more ∙ sym rests;
        within = s.within;
        quiet = λ low. absurd (omega arith);
        here = λ low. absurd (omega arith);
        kept = λ low. absurd (omega arith);
      }

  -- a tick that isn't quiet tells nothing
  pub begins-cut : (x : Sample) → k < c.quiet → is_quiet x ≡ false → cuts.Nothing ≡ cut_now k (x ∷ past)
  begins-cut x idle pulse = sym (now-begins k x past pulse (off idle))

  -- and begins a burst
  pub begins-stands : (x : Sample) → k < c.quiet → is_quiet x ≡ false → Follows k (begun c.samples x) (x ∷ past)
  begins-stands x idle pulse =
      let first : first_tick k (x ∷ past) ≡ length past = first_tick-begins k x past (off idle) pulse in
      let none : quiet (x ∷ past) ≡ 0 = quiet-pulse x past pulse in
      let few : nat_le 0 k ≡ true = grind (arith, nat_tests) in
      record {
        forty = length-set c.samples 0 x ∙ s.forty;
        short = omega arith;
        runs = few ∙ sym (runs-pulse k x past pulse);
        within = omega arith;
        quiet = λ low. sym none;
        here = λ low. omega (arith, first);
        kept = λ low. kept-more 0 c.samples past x (omega (arith, s.forty)) refl;
      }

  -- ---- where a burst runs

  -- a cutter within a burst knows that it runs
  pub on : c.quiet ≤ k → runs k past ≡ true
  on running = grind (arith, nat_tests, s.runs, running)

  -- how far the burst is
  ticks-of : c.quiet ≤ k → stopped past ≡ first_tick k past + (40 * c.slots + c.rest)
  ticks-of running = let here = s.here running in let same = s.quiet running in omega (arith, here, same)

  -- a quiet tick that is bridged tells nothing
  pub pending-cut : c.quiet + 1 ≤ k → cuts.Nothing ≡ cut_now k (Quiet ∷ past)
  pending-cut few = let same : c.quiet ≡ quiet past = s.quiet (omega arith) in sym (now-pending k past (omega (arith, same, few)))

  -- quiet tick k + 1 tells the end
  pub ended-cut : c.quiet ≡ k → cuts.Ended c.slots c.rest ≡ cut_now k (Quiet ∷ past)
  ended-cut all =
      let low : c.quiet ≤ k = omega arith in
      let same : c.quiet ≡ quiet past = s.quiet low in
      let ticks : stopped past ≡ first_tick k past + (40 * c.slots + c.rest) = ticks-of low in
      let slots : (stopped past - first_tick k past) / 40 ≡ c.slots = omega (arith, ticks, s.short) in
      let rest : (stopped past - first_tick k past) % 40 ≡ c.rest = omega (arith, ticks, s.short) in
      sym (now-ended k past (on low) (omega (arith, same, all)) ∙ (rw (slots, rest) refl))

  -- a quiet tick is written down and counted
  pub quiet-stands : (place : ℕ) → place ≡ c.rest + c.quiet → c.quiet ≤ k →
      Follows k record { samples = set c.samples (place % 40) Quiet; slots = c.slots; rest = c.rest; quiet = c.quiet + 1 } (Quiet ∷ past)
  quiet-stands place at running =
      let same : c.quiet ≡ quiet past = s.quiet running in
      let here = s.here running in
      let more : stopped (Quiet ∷ past) ≡ stopped past = stopped-more past in
      let some : 0 < stopped past = (runs-parts k past (on running)).0 in
      let next : c.rest + (c.quiet + 1) ≡ place + 1 = omega (arith, at) in
      record {
        forty = length-set c.samples (place % 40) Quiet ∙ s.forty;
        short = s.short;
        runs = grind (arith, nat_tests, same, more, some);
        within = omega (arith, running);
        quiet = λ low. omega (arith, same);
        here = λ low. omega (arith, here);
        kept = λ low. rw next (kept-next place c.samples past Quiet s.forty (rw at (s.kept running)));
      }

  -- a tick that isn't quiet is written down, with the slots and the rest that it makes
  pub pulse-stands : (x : Sample) (place slots rest : ℕ) → is_quiet x ≡ false → place ≡ c.rest + c.quiet → c.quiet ≤ k →
      40 * slots + rest ≡ 40 * c.slots + (place + 1) → rest < 40 →
      Follows k record { samples = set c.samples (place % 40) x; slots = slots; rest = rest; quiet = 0 } (x ∷ past)
  pulse-stands x place slots rest pulse at running total short =
      let none : quiet (x ∷ past) ≡ 0 = quiet-pulse x past pulse in
      let here = s.here running in
      let first : first_tick k (x ∷ past) ≡ first_tick k past = first_tick-runs k x past (on running) in
      let few : nat_le 0 k ≡ true = grind (arith, nat_tests) in
      let next : (rest + 0) % 40 ≡ (place + 1) % 40 = omega (arith, total, short) in
      record {
        forty = length-set c.samples (place % 40) x ∙ s.forty;
        short = short;
        runs = few ∙ sym (runs-pulse k x past pulse);
        within = omega arith;
        quiet = λ low. sym none;
        here = λ low. omega (arith, here, first, total, at);
        kept = λ low. rw next (kept-next place c.samples past x s.forty (rw at (s.kept running)));
      }

  -- what a tick that isn't quiet tells, by the ticks of the burst before and with it
  pulse-cut : (x : Sample) (place : ℕ) (number : Option ℕ) → is_quiet x ≡ false → place ≡ c.rest + c.quiet → c.quiet ≤ k →
      slot_between (40 * c.slots + c.rest) (40 * c.slots + (place + 1)) ≡ number →
      cut_now k (x ∷ past) ≡ cut_of (x ∷ past) (first_tick k past) None number
  pulse-cut x place number pulse at running is =
      let here = s.here running in
      let ticks : stopped past ≡ first_tick k past + (40 * c.slots + c.rest) = ticks-of running in
      let before : stopped past - first_tick k past ≡ 40 * c.slots + c.rest = omega (arith, ticks) in
      let now : suc (length past) - first_tick k past ≡ 40 * c.slots + (place + 1) = omega (arith, here, at) in
      now-pulse k x past number pulse (on running) (rw (before, now) is)

  -- before a slot's last place it tells nothing
  pub plain-cut : (x : Sample) (place : ℕ) → is_quiet x ≡ false → place ≡ c.rest + c.quiet → c.quiet ≤ k → place < 39 →
      cuts.Nothing ≡ cut_now k (x ∷ past)
  plain-cut x place pulse at running low =
      let within : (40 * c.slots + (place + 1)) / 40 ≡ (40 * c.slots + c.rest) / 40 = omega (arith, low, at) in
      sym (pulse-cut x place None pulse at running (grind (arith, nat_tests, within)))

  -- from the last place on it tells a slot
  slot-at : (place : ℕ) → place ≡ c.rest + c.quiet → 39 ≤ place → place < 79 →
      slot_between (40 * c.slots + c.rest) (40 * c.slots + (place + 1)) ≡ Some c.slots
  slot-at place at high low =
      let before : (40 * c.slots + c.rest) / 40 ≡ c.slots = omega (arith, s.short) in
      let now : (40 * c.slots + (place + 1)) / 40 ≡ suc c.slots = omega (arith, high, low) in
      rw (before, now) (grind (arith, nat_tests))

  -- in the last place the slot has the word that the kept samples spell
  pub full-cut : (x : Sample) (place : ℕ) → is_quiet x ≡ false → place ≡ c.rest + c.quiet → c.quiet ≤ k → place ≡ 39 →
      cuts.Slot c.slots (word_in (set c.samples place x)) ≡ cut_now k (x ∷ past)
  unfolding slot_word
  full-cut x place pulse at running full =
      let cut = pulse-cut x place (Some c.slots) pulse at running (slot-at place at (omega arith) (omega arith)) in
      let here = s.here running in
      let slot : samples_from (x ∷ past) (first_tick k past + 40 * c.slots) 40 ≡ newest_samples 40 (x ∷ past) =
      newest-from (x ∷ past) (first_tick k past + 40 * c.slots) 40 (omega (arith, here, at, full)) in
      let place_is : (c.rest + c.quiet) % 40 ≡ 39 = omega (arith, at, full) in
      let kept : take 40 (set c.samples 39 x) ≡ newest_samples 40 (x ∷ past) =
      kept-more 39 c.samples past x (omega (arith, s.forty)) (rw place_is at (s.kept running)) in
      let whole : take 40 (set c.samples 39 x) ≡ set c.samples 39 x =
      take_all 40 (set c.samples 39 x) (omega (arith, length-set c.samples 39 x, s.forty)) in
      let word : word_in (samples_from (x ∷ past) (first_tick k past + 40 * c.slots) 40) ≡ word_in (set c.samples place x) =
      rw full (ap word_in (slot ∙ sym kept ∙ whole)) in
      sym (cut ∙ ap (cuts.Slot c.slots) word)

  -- after it the slot has no word
  pub crossed-cut : (x : Sample) (place : ℕ) → k ≤ 3 → is_quiet x ≡ false → place ≡ c.rest + c.quiet → c.quiet ≤ k → 39 < place →
      cuts.Slot c.slots None ≡ cut_now k (x ∷ past)
  unfolding slot_word
  crossed-cut x place small pulse at running crossed =
      let cut = pulse-cut x place (Some c.slots) pulse at running (slot-at place at (omega arith) (omega (arith, s.short))) in
      let here = s.here running in
      let same = s.quiet running in
      let word : word_in (samples_from (x ∷ past) (first_tick k past + 40 * c.slots) 40) ≡ None =
      word-before (first_tick k past + 40 * c.slots) (place - 40) x past (omega (arith, here, at, crossed)) (omega (arith, same, at, s.short)) in
      sym (cut ∙ ap (cuts.Slot c.slots) word)

-- where no burst runs, further quiet ticks change nothing
follows-quiet : (k : ℕ) (c : Cutter) (past : List Sample) (n : ℕ) → runs k past ≡ false → Follows k c past → Follows k c (quiet_ticks n ++ past)
follows-quiet k c past zero rests f = f
follows-quiet k c past (suc n) rests f =
    let idle : k < c.quiet = grind (arith, nat_tests, f.runs, rests) in
    idle-stands k c (quiet_ticks n ++ past) (follows-quiet k c past n rests f) idle

-- so a cutter stands for the past with further quiet ticks
pub stands-quiet : (k : ℕ) (c : Cutter) (past : List Sample) (n : ℕ) → runs k past ≡ false → CutterStands k c past → CutterStands k c (quiet_ticks n ++ past)
unfolding CutterStands
stands-quiet k c past n rests f = follows-quiet k c past n rests f

-- the same by the quiet ticks
pub quiet-alone-rests : (k : ℕ) (past : List Sample) → (k < quiet past) ⊎ (quiet past ≡ length past) → runs k past ≡ false
quiet-alone-rests k past h = rests-from k past (elim h [
  | inl many ↦ inr many
  | inr all ↦ inl (omega (arith, all))
])
