-- The words of a burst are counted: a cut and an extra change their number, and data words are read by it.
use Rattle.std.proofs.Common.{◌≡◌, ℕ, zero, suc, ◌+◌, ◌-◌, ◌<◌, ◌≤◌, List, [], ◌∷◌, ◌++◌, length, take, refl, sym, ap, ◌∙◌, arith, length-append}
use Rattle.std.proofs.lemmas.List.{length-take, length-replicate}
use Rattle.std.specs.Prelude.{Bool, false, min, map, replicate, Option, Some, None}
use Rattle.std.specs.List.{list_any}
use Rattle.bus_words.specs.declared.word.Sync.{Sync}
use Rattle.bus_words.specs.declared.word.Sync.TheVariants.{Command, Datum}
use Rattle.bus_words.specs.declared.word.Word.{Word}
use Rattle.bus_formats.specs.Forms.{data_word}
use Rattle.bus_formats.specs.Readings.{datum_with, datum_in, word_before, data_in}
use Rattle.bus_formats.specs.declared.fault.Hit.{Hit}
use Rattle.bus_formats.specs.declared.fault.Hit.TheVariants.{Flip, Cut, Extra, Fade}
use Rattle.bus_model.specs.Strikes.{spoils, spoiled, added_by, struck, with_added}
use Rattle.std.proofs.lemmas.Option.{none-some, same_Some}

-- no word is lost among those that are struck
spoiled-long : (hits : List Hit) (n : ℕ) (words : List Word) → length (spoiled hits n words) ≡ length words
spoiled-long hits n [] = refl
spoiled-long hits n (word ∷ words) = ap suc (spoiled-long hits (n + 1) words)

-- an extra of a burst with as many slots brings as many more, to forty
added-long : (hits : List Hit) (slots : List (Option Word)) (more : ℕ) → added_by hits ≡ more → length slots ≤ 40 →
    length (with_added hits slots) ≡ min 40 (length slots + more)
added-long hits slots more h few =
    let zeros = replicate (added_by hits) (Some (data_word 0)) in
    let all : length zeros ≡ added_by hits = length-replicate (added_by hits) (Some (data_word 0)) in
    let taken : length (take (40 - length slots) zeros) ≡ min (40 - length slots) (length zeros) = length-take (40 - length slots) zeros in
    let whole : length (slots ++ take (40 - length slots) zeros) ≡ length slots + length (take (40 - length slots) zeros) =
    length-append slots (take (40 - length slots) zeros) in
    omega (arith, all, taken, whole, h, few)

pub cut-counted : (after : ℕ) (words : List Word) → length words ≤ 40 → length (struck (Cut after ∷ []) words) ≡ min after (length words)
cut-counted after words few =
    let hits = Cut after ∷ [] in
    let kept = take after (spoiled hits 0 words) in
    let long : length (spoiled hits 0 words) ≡ length words = spoiled-long hits 0 words in
    let short : length kept ≡ min after (length (spoiled hits 0 words)) = length-take after (spoiled hits 0 words) in
    let added : length (with_added hits kept) ≡ min 40 (length kept + 0) = added-long hits kept 0 refl (omega (arith, long, short, few)) in
    omega (arith, long, short, added, few)

pub extra-counted : (more : ℕ) (words : List Word) → length words ≤ 40 → length (struck (Extra more ∷ []) words) ≡ min 40 (length words + more)
extra-counted more words few =
    let hits = Extra more ∷ [] in
    let long : length (spoiled hits 0 words) ≡ length words = spoiled-long hits 0 words in
    let added : length (with_added hits (spoiled hits 0 words)) ≡ min 40 (length (spoiled hits 0 words) + more) =
    added-long hits (spoiled hits 0 words) more (omega arith) (omega (arith, long, few)) in
    omega (arith, long, added)

-- ---- reading data words

both-there : (first : Option ℕ) (rest : Option (List ℕ)) (words : List ℕ) → word_before first rest ≡ Some words →
    (w : ℕ) × (ws : List ℕ) × (first ≡ Some w) × (rest ≡ Some ws) × (w ∷ ws ≡ words)
both-there None rest words h = absurd (none-some words h)
both-there (Some w) None words h = absurd (none-some words h)
both-there (Some w) (Some ws) words h = (w, ws, refl, refl, same_Some _ _ h)

datum-sync : (sync : Sync) (bits w : ℕ) → datum_with sync bits ≡ Some w → (sync ≡ Datum) × (bits ≡ w)
datum-sync Command bits w h = absurd (none-some w h)
datum-sync Datum bits w h = (refl, same_Some _ _ h)

datum-word : (slot : Option Word) (w : ℕ) → datum_in slot ≡ Some w → slot ≡ Some (data_word w)
datum-word None w h = absurd (none-some w h)
datum-word (Some word) w h =
    let is = datum-sync word.sync word.bits w h in
    ap (λ s. Some (record { sync = s; bits = word.bits })) is.0 ∙ ap (λ b. Some (record { sync = Datum; bits = b })) is.1

-- data words are read by their exact number, each of them valid
pub data-counted : (count : ℕ) (slots : List (Option Word)) (words : List ℕ) → data_in count slots ≡ Some words →
    (length words ≡ count) × (slots ≡ map (λ w. Some (data_word w)) words)
data-counted zero [] words h =
    let none : [] ≡ words = same_Some _ _ h in
    (ap length (sym none), ap (map (λ w. Some (data_word w))) none)
data-counted zero (slot ∷ slots) words h = absurd (none-some words h)
data-counted (suc n) [] words h = absurd (none-some words h)
data-counted (suc n) (slot ∷ slots) words h =
    let both = both-there (datum_in slot) (data_in n slots) words h in
    let rest = data-counted n slots both.1 both.3 in (
      ap length (sym both.4) ∙ ap suc rest.0,
      ap (λ s. s ∷ slots) (datum-word slot both.0 both.2) ∙ (ap (λ l. Some (data_word both.0) ∷ l) rest.1 ∙ ap (map (λ w. Some (data_word w))) both.4),
    )

-- the word that a flip or a fade strikes is none to the message table, and those after it stay
unspoiled : (hits : List Hit) (n m : ℕ) (words : List Word) → ((i : ℕ) → n < i → list_any (spoils i) hits ≡ false) → n < m →
    spoiled hits m words ≡ map (λ w. Some w) words
unspoiled hits n m [] h later = refl
unspoiled hits n m (word ∷ words) h later =
    rw (h m later, unspoiled hits n (m + 1) words h (omega (arith, later))) refl

pub flip-spoils : (n : ℕ) (set : List Bool) (word : Word) (words : List Word) →
    spoiled (Flip n set ∷ []) n (word ∷ words) ≡ None ∷ map (λ w. Some w) words
flip-spoils n set word words =
    rw (unspoiled (Flip n set ∷ []) n (n + 1) words (λ i h. grind (arith, h)) (omega arith)) (grind arith)

pub fade-spoils : (n : ℕ) (set : List Bool) (word : Word) (words : List Word) →
    spoiled (Fade n set ∷ []) n (word ∷ words) ≡ None ∷ map (λ w. Some w) words
fade-spoils n set word words =
    rw (unspoiled (Fade n set ∷ []) n (n + 1) words (λ i h. grind (arith, h)) (omega arith)) (grind arith)
