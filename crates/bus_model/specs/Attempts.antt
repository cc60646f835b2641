-- An attempt at a message: what began, how it ended, and how it is recorded.
use Rattle.std.specs.Prelude.{ℕ, Bool, false, ◌==◌, List, [], filter_map, Option}
use Rattle.bus_words.specs.declared.word.Word.{Word}
use Rattle.bus_formats.specs.Codes.{dynamic_bus_control}
use Rattle.bus_formats.specs.Readings.{datum_in}
use Rattle.bus_formats.specs.declared.form.Outcome.{Outcome}
use Rattle.bus_formats.specs.declared.log.Attempt.{Attempt}
use Rattle.bus_formats.specs.declared.plan.Kind.{Kind}
use Rattle.bus_formats.specs.declared.plan.Kind.TheVariants.{Relay, Mode}
use Rattle.bus_retry.specs.declared.RetryState.{RetryState}
use Rattle.bus_model.specs.Starts.{Entry}

-- an attempt that has begun: its item, its channel and turn, and the first tick of its command
pub record Begun : Type 0 where
  pub entry : Entry
  pub state : RetryState
  pub start : ℕ

-- how a message ended: the outcome, and the statuses and data words that are kept
pub record Ended : Type 0 where
  pub outcome : Outcome
  pub first : Option ℕ
  pub second : Option ℕ
  pub words : List ℕ

-- an ending of which no data words are kept
abbrev pub without_words : Outcome → Option ℕ → Option ℕ → Ended
without_words outcome first second = record { outcome = outcome; first = first; second = second; words = [] }

-- the attempt of the station with this address, as it is recorded in the tick of its ending
abbrev pub recorded : ℕ → Begun → Ended → ℕ → Bool → Attempt
recorded address begun ended tick finishes = record {
  station = address;
  frame = begun.entry.frame;
  item = begun.entry.place;
  turn = begun.state.turn;
  channel = begun.state.channel;
  start = record { 0 = begun.start };
  kind = begun.entry.item.kind;
  outcome = ended.outcome;
  first = ended.first;
  second = ended.second;
  words = ended.words;
  ended = record { 0 = tick };
  finishes = finishes;
}

-- the mode command that offers control (4.3.3.5.1.7.1)
abbrev pub is_offer : Kind → Bool
is_offer (Mode to mode_sub transmit code word) = code == dynamic_bus_control
is_offer _ = false

-- the data words that are kept of a good answer's slots: those that the controller asked for, and a relay's are another terminal's
abbrev pub kept_words : Kind → List (Option Word) → List ℕ
kept_words (Relay from from_sub to to_sub count) slots = []
kept_words _ slots = filter_map datum_in slots
