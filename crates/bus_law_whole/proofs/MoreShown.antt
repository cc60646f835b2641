-- What is found in the world once a message of the run is over.
use Rattle.std.proofs.Common.{◌≡◌, ℕ, List, [], ◌∷◌, ◌++◌, map, sym, ap, ◌∙◌, arith, append_assoc}
use Rattle.std.proofs.lemmas.List.{map-append, reverse-append, reverse-reverse}
use Rattle.std.specs.Prelude.{◌&&◌, reverse}
use Rattle.bus_line.specs.Channels.{bursts}
use Rattle.bus_formats.specs.declared.log.Attempt.{Attempt}
use Rattle.bus_retry.specs.Retries.{next_of}
use Rattle.bus_model.specs.Attempts.{Begun, recorded}
use Rattle.bus_model.specs.Message.{Message}
use Rattle.bus_model.specs.Run.{Run, with_station, after_attempt, quiet_after}
use Rattle.bus_model.specs.Starts.{opening_after, retry_by, finishes}
use Rattle.bus_model.specs.Strikes.{ShownBurst}
use Rattle.bus_law_listing.specs.Listing.{burst_found, found_in_order}
use Rattle.bus_law_listing.proofs.Found.{found-joined}
use Rattle.bus_law_phases.specs.Commands.{attempt_recorded}
use Rattle.bus_law_phases.specs.Passages.{Passage}
use Rattle.bus_law_phases.specs.Scenarios.{Scenario, shown_at, attempts_in, blocks_in}
use Rattle.bus_law_run.specs.RunShows.{RunShows}
use Rattle.bus_law_run.proofs.Shows.{orderly-later}

-- the newest first, and in order
pub in-order : {X : Type 0} (now before : List X) → reverse (reverse now ++ before) ≡ reverse before ++ now
in-order now before = reverse-append (reverse now) before ∙ ap (λ xs. reverse before ++ xs) (reverse-reverse now)

-- the run after a message by which no control passes
abbrev pub with_attempt : Run → Begun → Message → Run
with_attempt run begun m =
    let choice = next_of begun.entry.item begun.state m.ending.ended.outcome in record {
      stations = with_station run.holder (after_attempt begun m.ending.ended.outcome choice) m.stations;
      holder = run.holder;
      opening = opening_after m.ending.ended.outcome begun.state.channel m.ending.tick;
      retry = retry_by choice;
      origin = run.origin;
      quiet_from = quiet_after m.bursts;
      runs_on = m.ending.runs_on;
      attempts = recorded run.holder begun m.ending.ended m.ending.tick (finishes choice) ∷ run.attempts;
      deliveries = reverse m.deliveries ++ run.deliveries;
      bursts = reverse m.bursts ++ run.bursts;
      counted = run.counted && m.counted;
    }

-- ---- what is found is that run's

module _ (w : Scenario) (t u : ℕ) (run : Run) (begun : Begun) (m : Message) (pending ended after : List Attempt) (found : List ShownBurst)
    (shows : RunShows w t run pending)
    (passage : Passage w t u record { blocks = m.deliveries; bursts = found; attempts = ended; commands = 1 })
    (attempt : ended ++ after ≡ pending ++ attempt_recorded run.holder begun m.ending.ended m.ending.tick ∷ [])
    (ordered : map burst_found found ≡ found_in_order (map burst_found m.bursts)) where
  abbrev this : Attempt
  this = attempt_recorded run.holder begun m.ending.ended m.ending.tick

  attempts-are : (w.earlier.attempts ++ (shows.ended ++ ended)) ++ after ≡ reverse (with_attempt run begun m).attempts
  attempts-are =
      let before : List Attempt = w.earlier.attempts ++ shows.ended in
      ap (λ xs. xs ++ after) (sym (append_assoc w.earlier.attempts shows.ended ended))
      ∙ append_assoc before ended after
      ∙ ap (λ xs. before ++ xs) attempt
      ∙ sym (append_assoc before pending (this ∷ []))
      ∙ ap (λ xs. xs ++ this ∷ []) shows.attempts_are
      ∙ sym (in-order (this ∷ []) run.attempts)

  bursts-are : bursts w.lag (shown_at w u) ≡ found_in_order (map burst_found (reverse (with_attempt run begun m).bursts))
  bursts-are =
      found-joined w.lag (shown_at w u) (map burst_found (reverse run.bursts)) (map burst_found m.bursts)
      (passage.bursts_are
      ∙ ap (λ xs. xs ++ map burst_found found) shows.bursts_are
      ∙ ap (λ xs. found_in_order (map burst_found (reverse run.bursts)) ++ xs) ordered)
      ∙ ap found_in_order (sym (map-append burst_found (reverse run.bursts) m.bursts) ∙ ap (map burst_found) (sym (in-order m.bursts run.bursts)))

  pub more-shown : RunShows w u (with_attempt run begun m) after
  more-shown = record {
    ended = shows.ended ++ ended;
    ended_since = passage.attempts_are ∙ ap (λ xs. xs ++ ended) shows.ended_since
        ∙ append_assoc (attempts_in w (shown_at w w.earlier.ticks)) shows.ended ended;
    attempts_are = attempts-are;
    bursts_are = bursts-are;
    taken = shows.taken ++ m.deliveries;
    taken_since = passage.blocks_are ∙ ap (λ xs. xs ++ m.deliveries) shows.taken_since
        ∙ append_assoc (blocks_in w (shown_at w w.earlier.ticks)) shows.taken m.deliveries;
    blocks_are = sym (append_assoc w.earlier.blocks shows.taken m.deliveries) ∙ ap (λ xs. xs ++ m.deliveries) shows.blocks_are
        ∙ sym (in-order m.deliveries run.deliveries);
    counted = let before = shows.counted in let more = passage.counted in omega (arith, before, more);
    orderly = orderly-later w w.earlier.ticks t u shows.orderly passage.orderly;
  }
