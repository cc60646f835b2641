-- What is written is read back.
use Rattle.std.proofs.Common.{◌≡◌, ℕ, zero, suc, ◌+◌, ◌<◌, ◌≤◌, List, [], ◌∷◌, ◌++◌, length, reverse, refl, ap, sym, ◌∙◌, arith, length-append}
use Rattle.std.specs.Prelude.{◌==◌, Bool, true, false, if◌then◌else◌, nat_lt, Option, Some, None, Ok, option_to_list}
use Rattle.std.proofs.lemmas.List.{reverse-reverse, append-nil}
use Rattle.std.proofs.lemmas.Grind.{common_steps}
use Rattle.std.proofs.lemmas.Bool.Decides.{nat_tests}
use Rattle.bus_base.specs.declared.samples.Sample.{Sample}
use Rattle.bus_base.specs.declared.samples.Sample.TheVariants.{Plus, Minus, Quiet}
use Rattle.bus_base.specs.declared.samples.Pair.{Pair}
use Rattle.bus_capture.specs.Captures.{sample_byte, ticks_text, line_feed, line_ticks, header, capture_text}
use Rattle.bus_capture.specs.Readings.{place_after, ticks_in, one_byte, in_ticks, first_byte, second_byte, sample_of, text_limit, capture_ticks}
use Rattle.bus_capture.specs.Reader.{is_refused}
use Rattle.bus_capture.specs.declared.reader.Place.{Place}
use Rattle.bus_capture.specs.declared.reader.Place.TheVariants.{Between, Half, Refused}

-- the bytes of a text in their order, after bytes that stand with the newest first
abbrev pub onto : List ℕ → List ℕ → List ℕ
onto [] bytes = bytes
onto (byte ∷ text) bytes = onto text (byte ∷ bytes)

abbrev pub onto_ticks : List Pair → List Pair → List Pair
onto_ticks [] past = past
onto_ticks (shown ∷ later) past = onto_ticks later (shown ∷ past)

-- a text stands between ticks, after the header, with these ticks
pub record AtTicks (bytes : List ℕ) (past : List Pair) : Type 0 where
  pub place : place_after bytes ≡ Between
  pub ticks : ticks_in bytes ≡ past
  pub begun : 15 ≤ length bytes

byte-sample : (s : Sample) → sample_of (sample_byte s) ≡ Some s
byte-sample Plus = refl
byte-sample Minus = refl
byte-sample Quiet = refl

-- one byte more, by the place that the bytes before it came to
next : (byte : ℕ) (bytes : List ℕ) (before after : Place) (tick : Option Pair) → place_after bytes ≡ before →
    one_byte (length bytes) byte before ≡ record { place = after; tick = tick } →
    (place_after (byte ∷ bytes) ≡ after) × (ticks_in (byte ∷ bytes) ≡ option_to_list tick ++ ticks_in bytes)
unfolding place_after ticks_in
next byte bytes before after tick came step =
    let e : one_byte (length bytes) byte (place_after bytes) ≡ record { place = after; tick = tick } =
    ap (λ p. one_byte (length bytes) byte p) came ∙ step in
    (ap (λ s. s.place) e, ap (λ s. option_to_list s.tick ++ ticks_in bytes) e)

-- in the ticks, below the limit, a byte is what it is there
in-ticks : (at byte : ℕ) (place : Place) → is_refused place ≡ false → 15 ≤ at → at < text_limit → one_byte at byte place ≡ in_ticks at byte place
in-ticks at byte Between going begun room = grind (arith, nat_tests, begun, room)
in-ticks at byte (Half a) going begun room = grind (arith, nat_tests, begun, room)
in-ticks at byte (Refused refusal) going begun room = refl

pub feed-step : (bytes : List ℕ) (past : List Pair) → AtTicks bytes past → length bytes < text_limit → AtTicks (line_feed ∷ bytes) past
feed-step bytes past at room =
    let step : (place_after (line_feed ∷ bytes) ≡ Between) × (ticks_in (line_feed ∷ bytes) ≡ ticks_in bytes) =
    next line_feed bytes Between Between None at.place (in-ticks (length bytes) line_feed Between refl at.begun room) in
    record { place = step.0; ticks = step.1 ∙ at.ticks; begun = omega (arith, at.begun) }

pub pair-step : (shown : Pair) (bytes : List ℕ) (past : List Pair) → AtTicks bytes past → suc (length bytes) < text_limit →
    AtTicks (sample_byte shown.b ∷ sample_byte shown.a ∷ bytes) (shown ∷ past)
pair-step shown bytes past at room =
    let first : in_ticks (length bytes) (sample_byte shown.a) Between ≡ record { place = Half shown.a; tick = None } =
    ap (first_byte (length bytes) (sample_byte shown.a)) (byte-sample shown.a) in
    let half : (place_after (sample_byte shown.a ∷ bytes) ≡ Half shown.a) × (ticks_in (sample_byte shown.a ∷ bytes) ≡ ticks_in bytes) =
    next (sample_byte shown.a) bytes Between (Half shown.a) None at.place
    (in-ticks (length bytes) (sample_byte shown.a) Between refl at.begun (omega (arith, room)) ∙ first) in
    let second : in_ticks (suc (length bytes)) (sample_byte shown.b) (Half shown.a) ≡ record { place = Between; tick = Some shown } =
    ap (second_byte (suc (length bytes)) shown.a) (byte-sample shown.b) in
    let whole : (place_after (sample_byte shown.b ∷ sample_byte shown.a ∷ bytes) ≡ Between)
    × (ticks_in (sample_byte shown.b ∷ sample_byte shown.a ∷ bytes) ≡ shown ∷ ticks_in (sample_byte shown.a ∷ bytes)) =
    next (sample_byte shown.b) (sample_byte shown.a ∷ bytes) (Half shown.a) Between (Some shown) half.0
    (in-ticks (suc (length bytes)) (sample_byte shown.b) (Half shown.a) refl (omega (arith, at.begun)) room ∙ second) in
    record { place = whole.0; ticks = whole.1 ∙ ap (λ xs. shown ∷ xs) (half.1 ∙ at.ticks); begun = omega (arith, at.begun) }

-- ticks that are written are read; the first line feed test is a variable
read-line : (n : ℕ) (test : Bool) (later : List Pair) (bytes : List ℕ) (past : List Pair) →
    ((m : ℕ) (bytes : List ℕ) (past : List Pair) → AtTicks bytes past → length bytes + length (ticks_text m later) ≤ text_limit →
    AtTicks (onto (ticks_text m later) bytes) (onto_ticks later past)) →
    AtTicks bytes past → length bytes + length (if test then line_feed ∷ ticks_text 0 later else ticks_text (suc n) later) ≤ text_limit →
    AtTicks (onto (if test then line_feed ∷ ticks_text 0 later else ticks_text (suc n) later) bytes) (onto_ticks later past)
read-line n true later bytes past rest at room =
    rest 0 (line_feed ∷ bytes) past (feed-step bytes past at (omega (arith, room))) (omega (arith, room))
read-line n false later bytes past rest at room = rest (suc n) bytes past at room

read-ticks : (later : List Pair) (n : ℕ) (bytes : List ℕ) (past : List Pair) → AtTicks bytes past →
    length bytes + length (ticks_text n later) ≤ text_limit →
    AtTicks (onto (ticks_text n later) bytes) (onto_ticks later past)
read-ticks [] zero bytes past at room = at
read-ticks [] (suc n) bytes past at room = feed-step bytes past at (omega (arith, room))
read-ticks (shown ∷ later) n bytes past at room =
    read-line n (suc n == line_ticks) later (sample_byte shown.b ∷ sample_byte shown.a ∷ bytes) (shown ∷ past) (read-ticks later)
    (pair-step shown bytes past at (omega (arith, room))) (omega (arith, room))

onto-reverse : (text bytes : List ℕ) → onto text bytes ≡ reverse text ++ bytes
onto-reverse [] bytes = refl
onto-reverse (byte ∷ text) bytes = grind (arith, common_steps, onto-reverse text (byte ∷ bytes))

onto_ticks-reverse : (later past : List Pair) → onto_ticks later past ≡ reverse later ++ past
onto_ticks-reverse [] past = refl
onto_ticks-reverse (shown ∷ later) past = grind (arith, common_steps, onto_ticks-reverse later (shown ∷ past))

onto-append : (a b bytes : List ℕ) → onto (a ++ b) bytes ≡ onto b (onto a bytes)
onto-append [] b bytes = refl
onto-append (byte ∷ a) b bytes = onto-append a b (byte ∷ bytes)

after-header : AtTicks (onto header []) []
unfolding place_after ticks_in
after-header = record { place = refl; ticks = refl; begun = omega arith }

read-text : (past : List Pair) → length (capture_text past) ≤ text_limit → AtTicks (reverse (capture_text past)) past
unfolding capture_text
read-text past room =
    let long : length (header ++ ticks_text 0 (reverse past)) ≡ 15 + length (ticks_text 0 (reverse past)) = length-append header (ticks_text 0 (reverse past)) in
    let read : AtTicks (onto (ticks_text 0 (reverse past)) (onto header [])) (onto_ticks (reverse past) []) =
    read-ticks (reverse past) 0 (onto header []) [] after-header (omega (arith, long, room)) in
    let bytes : onto (ticks_text 0 (reverse past)) (onto header []) ≡ reverse (header ++ ticks_text 0 (reverse past)) =
    sym (onto-append header (ticks_text 0 (reverse past)) []) ∙ onto-reverse (header ++ ticks_text 0 (reverse past)) [] ∙ append-nil (reverse (header ++ ticks_text 0 (reverse past))) in
    let ticks : onto_ticks (reverse past) [] ≡ past = onto_ticks-reverse (reverse past) [] ∙ append-nil (reverse (reverse past)) ∙ reverse-reverse past in
    rw (← bytes) (rw ticks at read)

pub round-trip : (past : List Pair) → length (capture_text past) ≤ text_limit →
    capture_ticks (capture_text past) ≡ record { ticks = past; ended = Ok (length past) }
unfolding capture_ticks
round-trip past room =
    let read : AtTicks (reverse (capture_text past)) past = read-text past room in
    let begun : nat_lt (length (reverse (capture_text past))) 15 ≡ false = grind (arith, nat_tests, read.begun) in
    rw (read.place, read.ticks, begun) refl
