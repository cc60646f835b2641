-- What is found in the world before the first tick, and from one tick to a later one.
use Rattle.std.proofs.Common.{◌≡◌, inl, inr, ℕ, ◌<◌, ◌≤◌, List, [], ◌++◌, sym, ap, ◌∙◌, arith}
use Rattle.std.proofs.lemmas.Bool.{cases_lt}
use Rattle.std.proofs.lemmas.List.{append-nil}
use Rattle.std.specs.Prelude.{reverse}
use Rattle.bus_line.specs.Channels.{bursts}
use Rattle.bus_formats.specs.declared.log.Attempt.{Attempt}
use Rattle.bus_model.specs.Run.{Run}
use Rattle.bus_model.specs.Transmissions.{transmissions}
use Rattle.bus_model.specs.World.{Trace}
use Rattle.bus_model.specs.WorldLog.{attempts}
use Rattle.bus_law_phases.specs.Passages.{IsOrderly, Passage, nothing_happens}
use Rattle.bus_law_phases.specs.Scenarios.{Scenario, Earlier, IsWhole, shown_at, driven_at, attempts_in, blocks_in, commands_in}
use Rattle.bus_law_run.specs.RunShows.{RunShows}
use Rattle.bus_law_table.specs.Happened.{blocks_found}

-- ---- before the first tick nothing is found

module _ (w : Scenario) (whole : IsWhole w) where
  pub no-attempts : attempts_in w (shown_at w 0) ≡ []
  unfolding attempts
  no-attempts = ap (λ (tr : Trace). attempts_in w tr.shown) whole.first

  pub no-bursts : bursts w.lag (shown_at w 0) ≡ []
  unfolding bursts
  no-bursts = ap (λ (tr : Trace). bursts w.lag tr.shown) whole.first

  pub no-blocks : blocks_in w (shown_at w 0) ≡ []
  unfolding blocks_found
  no-blocks = ap (λ (tr : Trace). blocks_in w tr.shown) whole.first

  pub no-commands : commands_in w (driven_at w 0) ≡ 0
  unfolding transmissions
  no-commands = ap (λ (tr : Trace). commands_in w tr.driven) whole.first

  -- ---- so what was found is what was found since

  module _ (t : ℕ) (run : Run) (pending : List Attempt) (shows : RunShows w t run pending) where
    pub whole-attempts : attempts_in w (shown_at w t) ++ pending ≡ reverse run.attempts
    whole-attempts =
        ap (λ xs. xs ++ pending) (shows.ended_since
        ∙ ap (λ (e : Earlier). attempts_in w (shown_at w e.ticks) ++ shows.ended) whole.earlier
        ∙ ap (λ xs. xs ++ shows.ended) no-attempts)
        ∙ ap (λ (e : Earlier). (e.attempts ++ shows.ended) ++ pending) (sym whole.earlier) ∙ shows.attempts_are

    pub whole-blocks : blocks_in w (shown_at w t) ≡ reverse run.deliveries
    whole-blocks =
        shows.taken_since
        ∙ ap (λ (e : Earlier). blocks_in w (shown_at w e.ticks) ++ shows.taken) whole.earlier
        ∙ ap (λ xs. xs ++ shows.taken) no-blocks
        ∙ ap (λ (e : Earlier). e.blocks ++ shows.taken) (sym whole.earlier) ∙ shows.blocks_are

    pub whole-orderly : (i : ℕ) → i < t → IsOrderly w i
    whole-orderly i early =
        let none : w.earlier.ticks ≡ 0 = ap (λ (e : Earlier). e.ticks) whole.earlier in shows.orderly i (omega (arith, none)) early

-- ---- ticks are in order up to one, and from it on

pub orderly-later : (w : Scenario) (a t u : ℕ) → ((i : ℕ) → a ≤ i → i < t → IsOrderly w i) → ((i : ℕ) → t ≤ i → i < u → IsOrderly w i) → (i : ℕ) → a ≤ i →
    i < u → IsOrderly w i
orderly-later w a t u before after i from early = elim (cases_lt i t) [
  | inl low ↦ before i from low
  | inr high ↦ after i (omega (arith, high)) early
]

-- where nothing more comes to pass, the same is found
pub shows-later : (w : Scenario) (t u : ℕ) (run : Run) (pending : List Attempt) → RunShows w t run pending → Passage w t u nothing_happens →
    RunShows w u run pending
shows-later w t u run pending shows passage = record {
  ended = shows.ended;
  ended_since = passage.attempts_are ∙ append-nil (attempts_in w (shown_at w t)) ∙ shows.ended_since;
  attempts_are = shows.attempts_are;
  bursts_are = passage.bursts_are ∙ append-nil (bursts w.lag (shown_at w t)) ∙ shows.bursts_are;
  taken = shows.taken;
  taken_since = passage.blocks_are ∙ append-nil (blocks_in w (shown_at w t)) ∙ shows.taken_since;
  blocks_are = shows.blocks_are;
  counted = let before = shows.counted in let more = passage.counted in omega (arith, before, more);
  orderly = orderly-later w w.earlier.ticks t u shows.orderly passage.orderly;
}
