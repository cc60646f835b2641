-- A message whose first answer isn't shown ends without response, and is told.
use Rattle.std.proofs.Common.{◌≡◌, ℕ, suc, ◌+◌, ◌≤◌, false, List, [], ◌∷◌, ◌++◌, map, None, refl, ap, ◌∙◌, subst, inl, arith, All}
use Rattle.std.proofs.lemmas.List.{append-nil}
use Rattle.bus_base.specs.declared.samples.Part.TheVariants.{First}
use Rattle.bus_line.specs.Channels.{on_channel}
use Rattle.bus_formats.specs.Plans.{StationData}
use Rattle.bus_formats.specs.Times.{no_response, relay_wait}
use Rattle.bus_formats.specs.declared.form.Outcome.TheVariants.{NoResponse}
use Rattle.bus_formats.specs.declared.log.Attempt.{Attempt}
use Rattle.bus_model.specs.Attempts.{Ended, without_words}
use Rattle.bus_model.specs.Message.{Present, After, Delivered, after_silence}
use Rattle.bus_model.specs.Standing.{is_owed}
use Rattle.bus_model.specs.Run.{quiet_after}
use Rattle.bus_model.specs.Starts.{Entry}
use Rattle.bus_model.specs.Strikes.{ShownBurst, burst_end}
use Rattle.bus_law_stations.specs.Messages.{with_running}
use Rattle.bus_law_stations.specs.Silence.{AwaitsFirst}
use Rattle.bus_law_phases.specs.Commands.{attempt_recorded}
use Rattle.bus_law_phases.specs.Scenarios.{Scenario, shown_at, course_of}
use Rattle.bus_law_told.specs.Tables.{MessageIs}
use Rattle.bus_law_moments.specs.Told.{message_at, MessageTold}
use Rattle.bus_law_told.proofs.Coming.{Came}
use Rattle.bus_law_told.proofs.Ending.{told}
use Rattle.bus_law_told.proofs.Known.{Begins, c0, begun, command, command_blocks, command_happens}
use Rattle.bus_law_told.proofs.Unanswered.{unanswered-came, unanswered-free, unanswered-course}

module _ (w : Scenario) (t place : ℕ) (holder : StationData) (stations : List Present) (entry : Entry)
    (b : Begins w t place holder stations entry) (u : ℕ) (afters : List After)
    (came : Came w t place holder (c0 w t holder stations entry) u (command w t holder stations entry).channel
    (burst_end (command w t holder stations entry)) First afters (command_happens w t place holder stations entry b))
    (runs : course_of w holder (shown_at w u) ≡ with_running (c0 w t holder stations entry) (begun w t holder stations entry))
    (waits : AwaitsFirst w.lag (begun w t holder stations entry) (on_channel (begun w t holder stations entry).state.channel (shown_at w u))
    (burst_end (command w t holder stations entry))) (unowed : All (λ after. is_owed after.duty ≡ false) afters)
    (soon : u ≤ burst_end (command w t holder stations entry) + no_response) where
  abbrev cmd : ShownBurst
  cmd = command w t holder stations entry

  abbrev e : ℕ
  e = burst_end cmd

  abbrev ended : Ended
  ended = without_words (NoResponse First) None None

  abbrev blocks : List Delivered
  blocks = command_blocks w t holder stations entry

  abbrev settled : List After
  settled = map (after_silence w.lag w.loads cmd) afters

  abbrev attempts_then : List Attempt
  attempts_then = attempt_recorded holder.terminal.address (begun w t holder stations entry) ended (e + no_response) ∷ []

  came-then : Came w t place holder (c0 w t holder stations entry) (suc (e + relay_wait)) cmd.channel e First settled record {
    blocks = blocks;
    bursts = b.found ++ [];
    attempts = b.ended ++ attempts_then;
    commands = 1;
  }
  came-then =
      subst (λ bs. Came w t place holder (c0 w t holder stations entry) (suc (e + relay_wait)) cmd.channel e First settled record {
        blocks = bs;
        bursts = b.found ++ [];
        attempts = b.ended ++ attempts_then;
        commands = 1;
      }) (append-nil blocks)
      (unanswered-came w t place holder (c0 w t holder stations entry) b.began.none u cmd First afters
      (command_happens w t place holder stations entry b) (begun w t holder stations entry) came runs (inl waits) unowed soon ended refl refl
      (omega arith))

  pub no-response-told : MessageIs (message_at w t holder stations entry) ended (e + no_response) settled blocks (cmd ∷ []) →
      MessageTold w t holder stations entry place b.ended b.found
  no-response-told is =
      told w t place holder stations entry b.began.accepted b.began.none b.ended b.found (suc (e + relay_wait)) cmd.channel e First settled blocks [] ended (e + no_response)
      came-then
      (unanswered-free w t place holder (c0 w t holder stations entry) b.began.none u cmd First afters
      (command_happens w t place holder stations entry b) (begun w t holder stations entry) came runs (inl waits) unowed soon ended refl refl
      (omega arith))
      (unanswered-course w t place holder (c0 w t holder stations entry) b.began.none u cmd First afters
      (command_happens w t place holder stations entry b) (begun w t holder stations entry) came runs (inl waits) unowed soon ended refl refl
      (omega arith))
      b.began.held is (ap quiet_after (append-nil b.found) ∙ b.began.known.last) (omega arith) (omega arith) record { keeps = refl; opens = refl }
