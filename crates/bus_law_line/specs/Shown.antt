-- What a channel shows of words that are sent without a gap, as the faults strike them (MIL-STD-1553B 4.3.3.4, 4.4.1.2; the faults are the
-- project's own). Lists of samples have the newest first.
use Rattle.std.specs.Prelude.{ℕ, zero, suc, ◌/◌, ◌%◌, List, [], ◌∷◌, get_or, slice_get, Option, Some, None}
use Rattle.bus_base.specs.declared.samples.Channel.{Channel}
use Rattle.bus_base.specs.declared.samples.Sample.{Sample}
use Rattle.bus_base.specs.declared.samples.Sample.TheVariants.{Quiet}
use Rattle.bus_base.specs.declared.samples.Drive.{Drive}
use Rattle.bus_words.specs.declared.word.Word.{Word}
use Rattle.bus_line.specs.Spelling.{spelling, word_in}
use Rattle.bus_formats.specs.declared.fault.Fault.{Fault}
use Rattle.bus_formats.specs.declared.fault.Hit.{Hit}
use Rattle.bus_model.specs.Noticed.{shown_word}
use Rattle.bus_model.specs.Wire.{struck_sample, samples_on}

abbrev pub sample_of_word : ℕ → Option Word → Sample
sample_of_word position None = Quiet
sample_of_word position (Some word) = get_or (spelling word) position Quiet

-- sample i of the spellings of the words, one after the other
abbrev pub sample_of : List Word → ℕ → Sample
sample_of words i = sample_of_word (i % 40) (slice_get words (i / 40))

-- and as these hits strike it
abbrev pub struck_of : List Hit → List Word → ℕ → Sample
struck_of hits words i = struck_sample i hits (sample_of words i)

-- the first n of a row of samples
abbrev pub first_samples : (ℕ → Sample) → ℕ → List Sample
first_samples row zero = []
first_samples row (suc n) = row n ∷ first_samples row n

-- the first n samples of the words, as these hits strike them
abbrev pub struck_spelling : List Hit → List Word → ℕ → List Sample
struck_spelling hits words n = first_samples (struck_of hits words) n

-- what a reader of the wire makes of the words, of which the first has number n in its transmission
abbrev pub slots_shown : List Hit → ℕ → List Word → List (Option Word)
slots_shown hits n [] = []
slots_shown hits n (word ∷ words) = word_in (shown_word n hits word) ∷ slots_shown hits (suc n) words

-- what a channel shows in the newest tick: of stations that drive it together the first, as the wire has it
abbrev pub shown_of : List Sample → Sample
shown_of samples = get_or samples 0 Quiet

-- what a channel showed in all ticks in which this was driven
abbrev pub shown_on : List Fault → Channel → List (List Drive) → List Sample
shown_on faults c [] = []
shown_on faults c (now ∷ before) = shown_of (samples_on faults c (now ∷ before)) ∷ shown_on faults c before
