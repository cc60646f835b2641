-- One tick of an ear, as a function of the ear and of what its cutter told.
use Rattle.std.specs.Prelude.{ℕ, ◌+◌, ◌-◌, ◌*◌, ◌<◌, ◌≤◌, ◌^◌, nat_lt, nat_le, Bool, true, false, if◌then◌else◌, List, [], ◌∷◌, ◌++◌, length, Option, Some, None, ⊤}
use Rattle.bus_base.specs.declared.samples.Sample.{Sample}
use Rattle.bus_base.specs.declared.samples.Sample.TheVariants.{Plus, Minus, Quiet}
use Rattle.bus_words.specs.declared.word.Word.{Word}
use Rattle.bus_line.specs.declared.cutter.Cut.{Cut}
use Rattle.bus_line.specs.declared.cutter.Cut.TheVariants as cuts
use Rattle.bus_model.specs.Orders.{command_for}
use Rattle.bus_ears.specs.declared.ear.Ear.{Ear}
use Rattle.bus_ears.specs.declared.ear.HeardBurst.{HeardBurst}

-- a burst that ended lies before the tick
abbrev pub EndFits : ℕ → ℕ → Cut → Type 0
EndFits k now cuts.Nothing = ⊤
EndFits k now (cuts.Slot i word) = ⊤
EndFits k now (cuts.Ended slots rest) = (now < 2 ^ 60) × (40 * slots + rest + k ≤ now)

-- the slots kept, with one more where there is room
abbrev pub kept_with : ℕ → List (Option Word) → Option Word → List (Option Word)
kept_with most kept word = if nat_lt (length kept) most then kept ++ word ∷ [] else kept

abbrev pub with_slot : ℕ → ℕ → Bool → Ear → Option Word → Option ℕ → Ear
with_slot most now ignored ear word None = record ear { slots = record { items = kept_with most ear.slots.items word } }
with_slot most now ignored ear word (Some command) = record ear {
  command = Some command;
  slots = record { items = [] };
  addressed = if ignored then ear.addressed else Some now;
}

-- a burst whose end became known in the tick now, by what its cutter told
abbrev pub ended_by : ℕ → ℕ → ℕ → ℕ → Ear → HeardBurst
ended_by k now slots rest ear = record {
  first = now - k - (40 * slots + rest);
  end = now - k;
  rest = rest;
  command = ear.command;
  slots = ear.slots;
}

abbrev pub after_cut : ℕ → ℕ → ℕ → ℕ → Cut → Bool → Ear → Ear
after_cut k most own now cuts.Nothing ignored ear = ear
after_cut k most own now (cuts.Slot i word) ignored ear = with_slot most now ignored ear word (command_for own word)
after_cut k most own now (cuts.Ended slots rest) ignored ear =
    record ear { command = None; slots = record { items = [] }; last = ended_by k now slots rest ear }

abbrev pub is_end : Cut → Bool
is_end cuts.Nothing = false
is_end (cuts.Slot i word) = false
is_end (cuts.Ended slots rest) = true

-- the ear from which the last burst's slots were moved out
abbrev pub without_last : Ear → Ear
without_last ear = record ear {
  last = record { first = ear.last.first; end = ear.last.end; rest = ear.last.rest; command = None; slots = record { items = [] } };
}

abbrev pub sending_from : Bool → Option ℕ → Option ℕ
sending_from begins sending = if begins then Some 0 else sending

-- the quiet ticks of an own transmission with one tick more, until there are more than k
abbrev pub still_sending : ℕ → Option ℕ → Sample → Option ℕ
still_sending k None x = None
still_sending k (Some quiet) Quiet = if nat_le k quiet then None else Some (quiet + 1)
still_sending k (Some quiet) Plus = Some 0
still_sending k (Some quiet) Minus = Some 0
