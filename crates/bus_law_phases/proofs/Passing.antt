-- Passages one after the other.
use Rattle.std.proofs.Common.{◌≡◌, inl, inr, ℕ, ◌<◌, ◌≤◌, List, ◌++◌, map, sym, ap, ◌∙◌, arith, append_assoc}
use Rattle.std.proofs.lemmas.Bool.{cases_lt}
use Rattle.std.proofs.lemmas.List.{append-nil, map-append}
use Rattle.bus_line.specs.Channels.{bursts, WholeBurst}
use Rattle.bus_law_table.specs.Happened.{burst_found}
use Rattle.bus_law_phases.specs.Scenarios.{Scenario, shown_at}
use Rattle.bus_law_phases.specs.Passages.{IsOrderly, Happening, Passage, followed_by, nothing_happens}

-- what is known up to a tick, and from it on
either-orderly : (w : Scenario) (t u v : ℕ) → ((i : ℕ) → t ≤ i → i < u → IsOrderly w i) → ((i : ℕ) → u ≤ i → i < v → IsOrderly w i) →
    (i : ℕ) → t ≤ i → i < v → IsOrderly w i
either-orderly w t u v first later i low high = elim (cases_lt i u) [
  | inl early ↦ first i low early
  | inr late ↦ later i (omega (arith, late)) high
]

-- two lists were added, one after the other
added-twice : {X : Type 0} (a b c first later : List X) → b ≡ a ++ first → c ≡ b ++ later → c ≡ a ++ (first ++ later)
added-twice a b c first later is then = then ∙ ap (λ xs. xs ++ later) is ∙ append_assoc a first later

pub joined : (w : Scenario) (t u v : ℕ) (first later : Happening) → Passage w t u first → Passage w u v later → Passage w t v (followed_by first later)
joined w t u v first later p q = record {
  later = omega (arith, p.later, q.later);
  blocks_are = added-twice _ _ _ first.blocks later.blocks p.blocks_are q.blocks_are;
  bursts_are = added-twice _ _ _ (map burst_found first.bursts) (map burst_found later.bursts) p.bursts_are q.bursts_are
      ∙ ap (λ (xs : List WholeBurst). bursts w.lag (shown_at w t) ++ xs) (sym (map-append burst_found first.bursts later.bursts));
  attempts_are = added-twice _ _ _ first.attempts later.attempts p.attempts_are q.attempts_are;
  counted = omega (arith, p.counted, q.counted);
  orderly = either-orderly w t u v p.orderly q.orderly;
}

pub none-passed : (w : Scenario) (t : ℕ) → Passage w t t nothing_happens
none-passed w t = record {
  later = omega arith;
  blocks_are = sym (append-nil _);
  bursts_are = sym (append-nil _);
  attempts_are = sym (append-nil _);
  counted = omega arith;
  orderly = λ i low high. absurd (omega (arith, low, high));
}
