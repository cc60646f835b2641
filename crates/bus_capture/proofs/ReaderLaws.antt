-- A reader that stands for bytes stands for one byte more.
use Rattle.std.proofs.Common.{◌≡◌, ℕ, suc, ◌+◌, ◌<◌, ◌≤◌, List, [], ◌∷◌, length, refl, ap, arith, length-append}
use Rattle.std.specs.Prelude.{Bool, true, false, Option, Some, None, option_to_list}
use Rattle.std.proofs.lemmas.Bool.Decides.{nat_tests}
use Rattle.bus_base.specs.declared.samples.Pair.{Pair}
use Rattle.bus_capture.specs.Readings.{place_after, ticks_in, tick_now, one_byte, text_limit, answer_at, answer_now}
use Rattle.bus_capture.specs.Reader.{ReaderStands, is_refused, after_byte, tick_count}
use Rattle.bus_capture.specs.declared.reader.CaptureReader.{CaptureReader}
use Rattle.std.specs.Prelude.{Err}
use Rattle.bus_capture.specs.declared.refusal.CaptureRefusal.{CaptureRefusal}
use Rattle.bus_capture.specs.declared.reader.Place.{Place}
use Rattle.bus_capture.specs.declared.reader.Place.TheVariants.{Between, Half, Refused}

-- a byte that isn't refused has an offset below the limit, and nothing was refused before it
one_byte-going : (at byte : ℕ) (place : Place) → is_refused (one_byte at byte place).place ≡ false →
    (at < text_limit) × (is_refused place ≡ false)
one_byte-going at byte (Refused refusal) h = grind (arith, h)
one_byte-going at byte Between h = (grind (arith, nat_tests, h), refl)
one_byte-going at byte (Half a) h = (grind (arith, nat_tests, h), refl)

-- a byte that is refused completes no tick
pub one_byte-refused : (at byte : ℕ) (place : Place) → is_refused (one_byte at byte place).place ≡ true → (one_byte at byte place).tick ≡ None
one_byte-refused at byte (Refused refusal) h = refl
one_byte-refused at byte Between h = grind (arith, nat_tests, h)
one_byte-refused at byte (Half a) h = grind (arith, nat_tests, h)

-- a text has no more ticks than bytes, and no more than the limit
pub record IsShort (bytes : List ℕ) : Type 0 where
  pub few : length (ticks_in bytes) ≤ text_limit
  pub going : is_refused (place_after bytes) ≡ false → (length (ticks_in bytes) ≤ length bytes) × (length bytes ≤ text_limit)

at_most_one : (tick : Option Pair) → length (option_to_list tick) ≤ 1
at_most_one None = omega arith
at_most_one (Some tick) = omega arith

pub ticks-step : (byte : ℕ) (bytes : List ℕ) → length (ticks_in (byte ∷ bytes)) ≡ length (option_to_list (tick_now (byte ∷ bytes))) + length (ticks_in bytes)
unfolding ticks_in
ticks-step byte bytes = length-append (option_to_list (tick_now (byte ∷ bytes))) (ticks_in bytes)

pub place-step : (byte : ℕ) (bytes : List ℕ) → place_after (byte ∷ bytes) ≡ (one_byte (length bytes) byte (place_after bytes)).place
unfolding place_after
place-step byte bytes = refl

-- the bound stays with one byte more, by the place that it comes to
short-step : (byte : ℕ) (bytes : List ℕ) (place : Place) (refused : Bool) → place_after bytes ≡ place →
    is_refused (one_byte (length bytes) byte place).place ≡ refused → IsShort bytes → IsShort (byte ∷ bytes)
short-step byte bytes place true came is before =
    let more : length (ticks_in (byte ∷ bytes)) ≡ length (option_to_list (tick_now (byte ∷ bytes))) + length (ticks_in bytes) = ticks-step byte bytes in
    let none : (one_byte (length bytes) byte (place_after bytes)).tick ≡ None = rw (one_byte, came) (one_byte-refused (length bytes) byte place is) in
    let same : is_refused (place_after (byte ∷ bytes)) ≡ true = rw (place-step byte bytes, came) is in
    let few : length (ticks_in bytes) ≤ text_limit = before.few in
    let empty : length (option_to_list (tick_now (byte ∷ bytes))) ≡ 0 = ap (λ t. length (option_to_list t)) none in
    record { few = omega (arith, more, empty, few); going = λ h. absurd (cc) }
short-step byte bytes place false came is before =
    let more : length (ticks_in (byte ∷ bytes)) ≡ length (option_to_list (tick_now (byte ∷ bytes))) + length (ticks_in bytes) = ticks-step byte bytes in
    let one : length (option_to_list (tick_now (byte ∷ bytes))) ≤ 1 = at_most_one (tick_now (byte ∷ bytes)) in
    let went : (length bytes < text_limit) × (is_refused place ≡ false) = one_byte-going (length bytes) byte place is in
    let were : (length (ticks_in bytes) ≤ length bytes) × (length bytes ≤ text_limit) = before.going (rw came went.1) in
    let few : length (ticks_in (byte ∷ bytes)) ≤ suc (length bytes) = omega (arith, more, one, were.0) in
    record { few = omega (arith, few, went.0); going = λ _. (few, omega (arith, went.0)) }

pub short : (bytes : List ℕ) → IsShort bytes
unfolding ticks_in place_after
short [] = record { few = omega arith; going = λ _. (omega arith, omega arith) }
short (byte ∷ bytes) = short-step byte bytes (place_after bytes) (is_refused (one_byte (length bytes) byte (place_after bytes)).place) refl refl (short bytes)

-- the step of the code is the step of the definition
pub step-same : (r : CaptureReader) (byte : ℕ) (bytes : List ℕ) (place : Place) → place_after bytes ≡ place → ReaderStands r bytes →
    one_byte r.at byte r.place ≡ one_byte (length bytes) byte (place_after bytes)
step-same r byte bytes (Refused refusal) came s = rw (s.place, came) refl
step-same r byte bytes Between came s =
    let going : is_refused (place_after bytes) ≡ false = rw came refl in
    rw (s.place, s.at going) refl
step-same r byte bytes (Half a) came s =
    let going : is_refused (place_after bytes) ≡ false = rw came refl in
    rw (s.place, s.at going) refl

count-same : (tick : Option Pair) → tick_count tick ≡ length (option_to_list tick)
count-same None = refl
count-same (Some tick) = refl

pub reader-after : (r : CaptureReader) (byte : ℕ) (bytes : List ℕ) → ReaderStands r bytes → ReaderStands (after_byte r byte) (byte ∷ bytes)
reader-after r byte bytes s =
    let same : one_byte r.at byte r.place ≡ one_byte (length bytes) byte (place_after bytes) = step-same r byte bytes (place_after bytes) refl s in
    let more : length (ticks_in (byte ∷ bytes)) ≡ length (option_to_list (tick_now (byte ∷ bytes))) + length (ticks_in bytes) = ticks-step byte bytes in
    let short : length (ticks_in (byte ∷ bytes)) ≤ text_limit = (short (byte ∷ bytes)).few in
    let count : tick_count (tick_now (byte ∷ bytes)) ≡ length (option_to_list (tick_now (byte ∷ bytes))) = count-same (tick_now (byte ∷ bytes)) in
    let were : r.ticks ≡ length (ticks_in bytes) = s.ticks in
    record {
      place = rw (same, place-step byte bytes) refl;
      ticks = rw (same) (omega (arith, more, short, count, were));
      at = λ going.
          let went : (length bytes < text_limit) × (is_refused (place_after bytes) ≡ false) =
          one_byte-going (length bytes) byte (place_after bytes) (rw (place-step byte bytes) at going) in
          let at : r.at ≡ length bytes = s.at went.1 in
          omega (arith, at, went.0);
    }

-- what was refused stays refused
pub stays : (at byte : ℕ) (place : Place) (tick : Option Pair) (refusal : CaptureRefusal) → answer_at place tick ≡ Err refusal →
    answer_at (one_byte at byte place).place (one_byte at byte place).tick ≡ Err refusal
stays at byte (Refused refusal') tick refusal h = cc
stays at byte Between tick refusal h = cc
stays at byte (Half a) tick refusal h = cc

pub refused-stays : (bytes : List ℕ) (refusal : CaptureRefusal) (byte : ℕ) → answer_now bytes ≡ Err refusal →
    answer_now (byte ∷ bytes) ≡ Err refusal
refused-stays bytes refusal byte h = rw (place-step byte bytes) (stays (length bytes) byte (place_after bytes) (tick_now bytes) refusal h)
