-- The texts of a row's fields in both formats: a line of cells parted by commas (RFC 4180), and an object of JSON (RFC 8259).
use Rattle.std.specs.Prelude.{ℕ, ◌/◌, ◌%◌, ◌==◌, if◌then◌else◌, List, [], ◌∷◌, ◌++◌, flat_map, codes, decimal, Option, Some, None}
use Rattle.bus_text.specs.Texts.{hex_word}
use Rattle.bus_table.specs.declared.format.Format.{Format}
use Rattle.bus_table.specs.declared.format.Format.TheVariants.{Csv, Json}

-- what stands before a value: in CSV a comma, in JSON also the field's name
abbrev pub label : Format → List ℕ → List ℕ
label Csv name = codes ","
label Json name = codes ",\"" ++ name ++ codes "\":"

-- where there is no value CSV has nothing
abbrev pub absent : Format → List ℕ
absent Csv = []
absent Json = codes "null"

abbrev pub number_value : Format → Option ℕ → List ℕ
number_value f None = absent f
number_value f (Some n) = decimal n

-- a name that needs no escape; JSON wants quotes
abbrev pub quote : Format → List ℕ
quote Csv = []
quote Json = codes "\""

abbrev pub name_value : Format → List ℕ → List ℕ
name_value f name = quote f ++ name ++ quote f

abbrev pub name_or_absent : Format → Option (List ℕ) → List ℕ
name_or_absent f None = absent f
name_or_absent f (Some name) = name_value f name

-- half a number, with one decimal
abbrev pub half_value : ℕ → List ℕ
half_value n = decimal (n / 2) ++ (if n % 2 == 0 then codes ".0" else codes ".5")

-- a list: in CSV parted by spaces, in JSON an array
abbrev pub opening : Format → List ℕ
opening Csv = []
opening Json = codes "["

abbrev pub closing : Format → List ℕ
closing Csv = []
closing Json = codes "]"

abbrev pub separator : Format → List ℕ
separator Csv = codes " "
separator Json = codes ","

-- a word as four digits
abbrev pub word_value : Format → ℕ → List ℕ
word_value f word = quote f ++ hex_word word ++ quote f

abbrev pub further_words : Format → List ℕ → List ℕ
further_words f words = flat_map (λ word. separator f ++ word_value f word) words

abbrev pub words_in : Format → List ℕ → List ℕ
words_in f [] = []
words_in f (word ∷ words) = word_value f word ++ further_words f words

abbrev pub words_value : Format → List ℕ → List ℕ
words_value f words = opening f ++ words_in f words ++ closing f

abbrev pub numbers_in : Format → List ℕ → List ℕ
numbers_in f [] = []
numbers_in f (n ∷ []) = decimal n
numbers_in f (n ∷ m ∷ ns) = decimal n ++ separator f ++ numbers_in f (m ∷ ns)

abbrev pub numbers_value : Format → List ℕ → List ℕ
numbers_value f ns = opening f ++ numbers_in f ns ++ closing f

-- ---- fields

abbrev pub number_field : Format → List ℕ → Option ℕ → List ℕ
number_field f name n = label f name ++ number_value f n

abbrev pub name_field : Format → List ℕ → Option (List ℕ) → List ℕ
name_field f name value = label f name ++ name_or_absent f value

abbrev pub words_field : Format → List ℕ → List ℕ → List ℕ
words_field f name words = label f name ++ words_value f words

abbrev pub numbers_field : Format → List ℕ → List ℕ → List ℕ
numbers_field f name ns = label f name ++ numbers_value f ns
