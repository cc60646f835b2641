-- A burst of a run has at most forty words, and so many ticks.
use Rattle.std.proofs.Common.{◌≡◌, ℕ, suc, ◌+◌, ◌-◌, ◌/◌, ◌≤◌, List, [], ◌∷◌, length, take, map, Option, Some, None, refl, ap, arith}
use Rattle.std.proofs.lemmas.List.{length-take}
use Rattle.std.specs.Prelude.{min, option_to_list}
use Rattle.bus_base.specs.declared.samples.Channel.{Channel}
use Rattle.bus_words.specs.declared.word.Word.{Word}
use Rattle.bus_formats.specs.Accepted.{HasKindRanges}
use Rattle.bus_formats.specs.Forms.{data_word, command_words}
use Rattle.bus_formats.specs.declared.plan.Kind.{Kind}
use Rattle.bus_formats.specs.declared.plan.Kind.TheVariants.{Receive, Transmit, Relay, Mode}
use Rattle.bus_model.specs.Log.{words_from}
use Rattle.bus_model.specs.Strikes.{ShownBurst, burst_ticks, burst_end, ShownAnswer, superseded_end, beside_command}
use Rattle.bus_law_plans.specs.Bounds.{IsShort}

-- ---- the words that are heard

-- no more words are heard than slots are shown
pub heard-few : (channel : Channel) (tick : ℕ) (slots : List (Option Word)) → length (words_from channel tick slots) ≤ length slots
heard-few channel tick [] = omega arith
heard-few channel tick (Some word ∷ slots) = omega (arith, heard-few channel (tick + 40) slots)
heard-few channel tick (None ∷ slots) = omega (arith, heard-few channel (tick + 40) slots)

-- a burst of at most forty whole words is short
pub whole-short : (burst : ShownBurst) → burst.rest ≡ 0 → length burst.slots ≤ 40 → IsShort burst
whole-short burst whole few = record {
  slots = few;
  ticks = omega (arith, few, whole);
  words = omega (arith, heard-few burst.channel burst.start burst.slots, few);
}

-- it ends at most 1,600 ticks after its start
pub whole-end : (burst : ShownBurst) → burst.rest ≡ 0 → length burst.slots ≤ 40 → burst_end burst ≤ burst.start + 1600
whole-end burst whole few = omega (arith, whole, few)

-- ---- a command

-- as many words as data words
pub data-long : (words : List ℕ) → length (map data_word words) ≡ length words
data-long [] = refl
data-long (w ∷ words) = ap suc (data-long words)

one-word : (word : Option ℕ) → length (map data_word (option_to_list word)) ≤ 1
one-word None = omega arith
one-word (Some w) = omega arith

-- a command within its ranges has at most forty words
pub command-few : (kind : Kind) → HasKindRanges kind → length (command_words kind) ≤ 40
command-few (Receive to sub words) ranges = omega (arith, data-long words, ranges.words)
command-few (Transmit from sub count) ranges = omega arith
command-few (Relay from from_sub to to_sub count) ranges = omega arith
command-few (Mode to mode_sub transmit code word) ranges = omega (arith, one-word word)

-- ---- an abandoned answer beside a command

superseded-low : (old : ShownAnswer) (start : ℕ) (slots : List (Option Word)) → superseded_end old start slots ≤ burst_end old.burst
superseded-low old start [] = omega arith
superseded-low old start (None ∷ slots) = omega arith
superseded-low old start (Some command ∷ slots) = omega arith

-- an abandoned answer ends no later than by itself
pub beside-end : (command : ShownBurst) (old : ShownAnswer) → burst_end (beside_command command old) ≤ burst_end old.burst
beside-end command old =
    let ticks : ℕ = superseded_end old command.start command.slots - old.burst.start in
    let low : superseded_end old command.start command.slots ≤ burst_end old.burst = superseded-low old command.start command.slots in
    let long : length (take (ticks / 40) old.burst.slots) ≡ min (ticks / 40) (length old.burst.slots) = length-take (ticks / 40) old.burst.slots in
    omega (arith, low, long)

-- and it is short
pub beside-short : (command : ShownBurst) (old : ShownAnswer) → IsShort old.burst → IsShort (beside_command command old)
beside-short command old short =
    let ticks : ℕ = superseded_end old command.start command.slots - old.burst.start in
    let low : superseded_end old command.start command.slots ≤ burst_end old.burst = superseded-low old command.start command.slots in
    let long : length (take (ticks / 40) old.burst.slots) ≡ min (ticks / 40) (length old.burst.slots) = length-take (ticks / 40) old.burst.slots in
    let all : burst_ticks old.burst ≤ 1600 = short.ticks in
    let few : length old.burst.slots ≤ 40 = short.slots in
    record {
      slots = omega (arith, long, few);
      ticks = omega (arith, low, long, all);
      words = omega (arith, heard-few old.burst.channel old.burst.start (take (ticks / 40) old.burst.slots), long, few);
    }
