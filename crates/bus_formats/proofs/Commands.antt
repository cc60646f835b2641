-- The command words of a message are those of its words that have command sync.
use Rattle.std.proofs.Common.{◌≡◌, ℕ, List, [], ◌∷◌, map, refl}
use Rattle.std.specs.Prelude.{filter_map, Some, None}
use Rattle.bus_formats.specs.Forms.{data_word, command_words, commands_of}
use Rattle.bus_formats.specs.Readings.{command_with}
use Rattle.bus_formats.specs.declared.plan.Kind.{Kind}
use Rattle.bus_formats.specs.declared.plan.Kind.TheVariants.{Receive, Transmit, Relay, Mode}

-- data words are none of them
no-commands : (words : List ℕ) → filter_map (λ w. command_with w.sync w.bits) (map data_word words) ≡ []
no-commands [] = refl
no-commands (w ∷ words) = no-commands words

-- the words sent that have command sync
pub commands-sent : (kind : Kind) → filter_map (λ w. command_with w.sync w.bits) (command_words kind) ≡ commands_of kind
commands-sent (Receive to sub words) = rw (no-commands words) refl
commands-sent (Transmit from sub count) = refl
commands-sent (Relay from from_sub to to_sub count) = refl
commands-sent (Mode to mode_sub transmit code None) = refl
commands-sent (Mode to mode_sub transmit code (Some word)) = refl
