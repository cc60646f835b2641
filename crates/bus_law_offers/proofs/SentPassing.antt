-- What came to pass in the ticks of a part and the k + 1 ticks after it, where attempts ended before the last of them.
use Rattle.std.proofs.Common.{◌≡◌, inl, inr, ℕ, suc, ◌+◌, ◌<◌, ◌≤◌, List, [], ◌∷◌, ◌++◌, length, map, sym, ap, ◌∙◌, subst, arith, append_assoc}
use Rattle.std.proofs.lemmas.Bool.{cases_lt}
use Rattle.std.proofs.lemmas.List.{append-nil}
use Rattle.std.specs.Prelude.{flat_map}
use Rattle.bus_base.specs.declared.samples.Pair.{Pair}
use Rattle.bus_line.specs.Channels.{bursts}
use Rattle.bus_formats.specs.declared.log.Attempt.{Attempt}
use Rattle.bus_model.specs.Message.{Delivered}
use Rattle.bus_model.specs.Strikes.{ShownBurst}
use Rattle.bus_model.specs.WorldLog.{present_stations, ended_by, attempts}
use Rattle.bus_law_table.specs.Happened.{burst_found, blocks_in as blocks_now, blocks_found}
use Rattle.bus_law_phases.specs.Passages.{IsOrderly, Passage}
use Rattle.bus_law_phases.specs.Scenarios.{Scenario, shown_at, driven_at, blocks_in, attempts_in, commands_in}

module _ (w : Scenario) (t m : ℕ) (x : Pair) (before : List Pair) (earlier : List Attempt) (blocks : List Delivered) (burst : ShownBurst) (ended : List Attempt)
    (begun : ℕ) (leg : Passage w t (t + m) record { blocks = []; bursts = []; attempts = earlier; commands = begun })
    (shown : shown_at w (t + m) ≡ before) (then_shown : shown_at w (t + suc m) ≡ x ∷ before)
    (took : blocks_now w.lag w.plan w.loads w.outside w.absent (x ∷ before) (length before) ≡ blocks)
    (ends : bursts w.lag (x ∷ before) ≡ bursts w.lag (shown_at w t) ++ map burst_found (burst ∷ []))
    (closes : flat_map (ended_by w.lag w.plan w.loads w.outside w.absent (x ∷ before) (length before))
    (present_stations w.lag w.plan w.loads w.outside w.absent) ≡ ended)
    (counted : commands_in w (driven_at w (t + suc m)) ≡ commands_in w (driven_at w t) + begun) (last : IsOrderly w (t + m)) where
  blocks-then : blocks_in w (x ∷ before) ≡ blocks_in w (shown_at w t) ++ blocks
  unfolding blocks_found
  blocks-then =
      ap (λ bs. blocks_in w before ++ bs) took
      ∙ ap (λ p. blocks_in w p ++ blocks) (sym shown)
      ∙ ap (λ bs. bs ++ blocks) (leg.blocks_are ∙ append-nil (blocks_in w (shown_at w t)))

  attempts-then : attempts_in w (x ∷ before) ≡ attempts_in w (shown_at w t) ++ (earlier ++ ended)
  unfolding attempts
  attempts-then =
      ap (λ xs. attempts_in w before ++ xs) closes
      ∙ ap (λ p. attempts_in w p ++ ended) (sym shown)
      ∙ ap (λ xs. xs ++ ended) leg.attempts_are
      ∙ append_assoc (attempts_in w (shown_at w t)) earlier ended

  orderly-then : (i : ℕ) → t ≤ i → i < t + suc m → IsOrderly w i
  orderly-then i low high = elim (cases_lt i (t + m)) [
    | inl early ↦ leg.orderly i low early
    | inr late ↦ (let same : t + m ≡ i = omega (arith, late, high) in subst (IsOrderly w) same last)
  ]

  pub sent-passes : Passage w t (t + suc m) record { blocks = blocks; bursts = burst ∷ []; attempts = earlier ++ ended; commands = begun }
  sent-passes = record {
    later = omega arith;
    blocks_are = ap (λ p. blocks_in w p) then_shown ∙ blocks-then;
    bursts_are = ap (bursts w.lag) then_shown ∙ ends;
    attempts_are = ap (λ p. attempts_in w p) then_shown ∙ attempts-then;
    counted = counted;
    orderly = orderly-then;
  }
