-- What a subsystem tells of its deliveries, and the lines that the two kinds say.
use Rattle.std.specs.Prelude.{◌≡◌, ℕ, suc, ◌+◌, min, ◌==◌, if◌then◌else◌, List, [], ◌∷◌, ◌++◌, length, get_or, set, sum_by, codes, decimal, Option, Some, None, ⊤}
use Rattle.bus_formats.specs.declared.log.Delivery.{Delivery}

-- told deliveries grow by one at their end, and whether they are told stays
abbrev pub Takes : Option (List Delivery) → Option (List Delivery) → Delivery → Type 0
Takes None None delivery = ⊤
Takes None (Some now) delivery = ⊥
Takes (Some old) None delivery = ⊥
Takes (Some old) (Some now) delivery = now ≡ old ++ delivery ∷ []

-- a text keeps what it held where it only grows at its end
abbrev pub Keeps : List ℕ → List ℕ → Type 0
Keeps old now = (more : List ℕ) × (now ≡ old ++ more)

-- ---- a recorder's line

-- how many words the deliveries have in all
abbrev pub words_in : List Delivery → ℕ
words_in deliveries = sum_by (λ d. length d.words) deliveries

abbrev pub recorder_text : ℕ → ℕ → List ℕ
recorder_text blocks words = codes "recorder blocks " ++ decimal blocks ++ codes " words " ++ decimal words

abbrev pub recorder_line : List Delivery → List ℕ
recorder_line deliveries = recorder_text (length deliveries) (words_in deliveries)

-- ---- a tally's line

-- the counts after a delivery to a subaddress; the last value of 32 bits stays
abbrev pub counted : List ℕ → ℕ → List ℕ
counted counts sub = set counts sub (min (get_or counts sub 0 + 1) 4294967295)

-- the text of one count, if it is above 0
abbrev pub count_text : ℕ → ℕ → List ℕ
count_text sub count = if count == 0 then [] else codes " " ++ decimal sub ++ codes ":" ++ decimal count

-- the texts of the counts of the subaddresses from this one on
abbrev pub counts_from : ℕ → List ℕ → List ℕ
counts_from sub [] = []
counts_from sub (count ∷ rest) = count_text sub count ++ counts_from (suc sub) rest

abbrev pub tally_line : List ℕ → List ℕ
tally_line counts = codes "tally" ++ counts_from 0 counts
