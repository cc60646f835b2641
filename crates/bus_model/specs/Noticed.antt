-- What a reader of the wire sees of a word of a transmission, for the laws that compare it with the message table.
use Rattle.std.specs.Prelude.{ℕ, ◌+◌, ◌*◌, List, map}
use Rattle.std.specs.List.{range_with_len}
use Rattle.bus_base.specs.declared.samples.Sample.{Sample}
use Rattle.bus_words.specs.declared.word.Word.{Word}
use Rattle.bus_line.specs.Spelling.{spelled}
use Rattle.bus_formats.specs.declared.fault.Hit.{Hit}
use Rattle.bus_model.specs.Wire.{struck_sample}

-- the forty samples that are shown of word n of a transmission, where these hits strike it
unfoldable pub shown_word : ℕ → List Hit → Word → List Sample
shown_word n hits word = map (λ p. struck_sample (40 * n + p) hits (spelled word p)) (range_with_len 0 40)
