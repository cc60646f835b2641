-- What is told of a message's bursts, one burst more. Nothing here has to be believed: it is what `Exchanges` tells of them.
use Rattle.std.specs.Prelude.{ℕ, ◌+◌, ◌-◌, ◌*◌, ◌==◌, not, ◌&&◌, is_none, if◌then◌else◌, List, [], ◌∷◌, length, Option, Some, None}
use Rattle.std.specs.Option.{option_or}
use Rattle.bus_base.specs.Samples.{is_quiet}
use Rattle.bus_base.specs.declared.samples.Part.{Part}
use Rattle.bus_base.specs.declared.samples.Part.TheVariants as parts
use Rattle.bus_base.specs.declared.samples.Sample.{Sample}
use Rattle.bus_words.specs.declared.word.Word.{Word}
use Rattle.bus_line.specs.Past.{first_tick}
use Rattle.bus_line.specs.Cutting.{running_slots}
use Rattle.bus_line.specs.declared.cutter.Cut.{Cut}
use Rattle.bus_line.specs.declared.cutter.Cut.TheVariants as cuts
use Rattle.bus_line.specs.declared.cutter.TheConstants.{LAG}
use Rattle.bus_monitor.specs.Messages.{Waiting}
use Rattle.bus_table.specs.Exchanges.{Facts, words_behind}
use Rattle.bus_table.specs.Flaws.{bad_slot, bad_rest}
use Rattle.bus_table.specs.declared.channel_rows.ChannelRows.{ChannelRows}
use Rattle.bus_table.specs.declared.flaw.BadWord.{BadWord}

abbrev pub opened_facts : Option ℕ → ℕ → Option BadWord → Facts
opened_facts gap end bad = record { gap = gap; end = end; bad = bad; first = None; second = None; words = [] }

abbrev pub first_facts : Facts → ℕ → ℕ → List ℕ → Option BadWord → Facts
first_facts facts first end words bad = record facts {
  first = Some record { begun = first + 4; end = end; bad = bad };
  words = words;
}

abbrev pub second_facts : Facts → ℕ → ℕ → Option BadWord → Facts
second_facts facts first end bad = record facts { second = Some record { begun = first + 4; end = end; bad = bad } }

-- a burst opens a message, or is the answer that is awaited
abbrev pub noted : Option Part → Facts → Option ℕ → ℕ → ℕ → List ℕ → Option BadWord → Facts
noted None facts gap first end words bad = opened_facts gap end bad
noted (Some parts.Second) facts gap first end words bad = second_facts facts first end bad
noted (Some _) facts gap first end words bad = first_facts facts first end words bad

-- where no burst runs one begins with a sample that isn't quiet
abbrev pub begun : ChannelRows → Sample → Option ℕ → ChannelRows
begun rows x gap =
    if is_none rows.lister.running && not (is_quiet x) then record rows { gap = gap; bad = None } else rows

-- the answer for which a message waits
abbrev pub part_of : Option Waiting → Option Part
part_of None = None
part_of (Some w) = Some w.part

-- a slot that ended with this sample; and the burst that ran, which ended: its first bad word is noted, and what the burst was
abbrev pub slot_noted : ChannelRows → List Sample → ℕ → Option Word → Sample → ChannelRows
slot_noted rows past i word x =
    record rows { bad = option_or rows.bad (bad_slot (x ∷ past) (first_tick LAG past + 40 * i) word) }

abbrev pub end_noted : ChannelRows → List Sample → ℕ → ℕ → ChannelRows
end_noted rows past slots rest = record rows {
  notes = noted (part_of rows.lister.waiting) rows.notes rows.gap (first_tick LAG past) (length past - LAG) (words_behind (running_slots LAG past))
      (option_or rows.bad (bad_rest (first_tick LAG past + 40 * slots) rest));
  ended = length past - LAG;
}

-- what became known with a sample
abbrev pub cut_noted : ChannelRows → List Sample → Cut → Sample → Option ℕ → ChannelRows
cut_noted rows past cuts.Nothing x gap = begun rows x gap
cut_noted rows past (cuts.Slot i word) x gap = slot_noted rows past i word x
cut_noted rows past (cuts.Ended slots rest) x gap = end_noted rows past slots rest

-- the gap before this tick, by the tick after the last one in which either channel wasn't quiet
abbrev pub gap_at : ℕ → ℕ → Option ℕ
gap_at ticks stopped = if stopped == 0 then None else Some (ticks - stopped + 4)
