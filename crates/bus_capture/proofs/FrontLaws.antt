-- Ticks at the front of a piece are read at once as they are byte by byte.
use Rattle.std.proofs.Common.{◌≡◌, ℕ, ◌+◌, ◌<◌, ◌≤◌, List, [], ◌∷◌, ◌++◌, length, reverse, refl, ap, sym, subst, ◌∙◌, arith}
use Rattle.std.specs.Prelude.{Option, Some, None, ◌-◌, min, take, drop, set, get_or}
use Rattle.std.proofs.lemmas.List.{reverse-append, length-reverse, length-take, length-drop, length-set, take_rest, take_more_set}
use Rattle.std.proofs.lemmas.Bool.Decides.{nat_tests}
use Rattle.std.proofs.lemmas.Grind.{common_steps, take_at_read}
use Rattle.std.proofs.Math.Seq.{take-add}
use Rattle.bus_base.specs.declared.samples.Sample.{Sample}
use Rattle.bus_base.specs.declared.samples.Sample.TheVariants.{Plus, Minus, Quiet}
use Rattle.bus_base.specs.declared.samples.Pair.{Pair}
use Rattle.bus_capture.specs.Captures.{sample_byte}
use Rattle.bus_capture.specs.Readings.{ticks_in, sample_of}
use Rattle.bus_capture.specs.Quiet.{ReadsTicks, IsFront, pair_of, tick_front, front_of}
use Rattle.bus_capture.proofs.QuietLaws.{quiet-none, quiet-feed, reads-parts}
use Rattle.bus_capture.proofs.RoundTrip.{AtTicks, pair-step}

-- the byte that writes a sample
byte-of : (byte : ℕ) (s : Sample) → sample_of byte ≡ Some s → byte ≡ sample_byte s
byte-of byte Plus is = grind (arith, nat_tests, common_steps, is)
byte-of byte Minus is = grind (arith, nat_tests, common_steps, is)
byte-of byte Quiet is = grind (arith, nat_tests, common_steps, is)

-- two bytes that are a tick, of which the samples are known
pub pair-reads : (a b : ℕ) (x y : Option Sample) (shown : Pair) → sample_of a ≡ x → sample_of b ≡ y → pair_of x y ≡ Some shown →
    ReadsTicks (a ∷ b ∷ []) (shown ∷ [])
pair-reads a b None y shown one two is = absurd (cc)
pair-reads a b (Some x) None shown one two is = absurd (cc)
pair-reads a b (Some x) (Some y) shown one two is = λ bytes place begun room.
    let same : record { a = x; b = y } ≡ shown = cc in
    let first : a ≡ sample_byte x = byte-of a x one in
    let second : b ≡ sample_byte y = byte-of b y two in
    let read : AtTicks (sample_byte y ∷ sample_byte x ∷ bytes) (record { a = x; b = y } ∷ ticks_in bytes) =
    pair-step (record { a = x; b = y }) bytes (ticks_in bytes) (record { place = place; ticks = refl; begun = begun }) (omega (arith, room)) in
    rw (first, second, sym same) (read.place, read.ticks)

-- the first two bytes are a tick
pub tick-reads : (piece : List ℕ) (shown : Pair) → tick_front piece ≡ Some shown → (2 ≤ length piece) × ReadsTicks (take 2 piece) (shown ∷ [])
tick-reads [] shown is = absurd (cc)
tick-reads (a ∷ []) shown is = absurd (cc)
tick-reads (a ∷ b ∷ rest) shown is = (omega arith, pair-reads a b (sample_of a) (sample_of b) shown refl refl is)

-- there are two bytes more where a tick comes
pub tick-within : (piece : List ℕ) (bytes : ℕ) (shown : Pair) → bytes ≤ length piece →
    tick_front (take (length piece - bytes) (drop bytes piece)) ≡ Some shown → bytes + 2 ≤ length piece
tick-within piece bytes shown within is =
    let two : 2 ≤ length (drop bytes piece) = (tick-reads (drop bytes piece) shown (subst (λ p. tick_front p ≡ Some shown) (take_rest piece bytes) is)).0 in
    let long : length (drop bytes piece) ≡ length piece - bytes = length-drop bytes piece in
    omega (arith, two, long, within)

-- nothing was taken
pub front-none : (piece : List ℕ) (ticks : List Pair) → IsFront piece ticks (front_of 0 0)
front-none piece ticks = record { within = omega arith; room = omega arith; reads = quiet-none }

-- one tick more
pub front-tick : (piece : List ℕ) (ticks : List Pair) (bytes count : ℕ) (shown : Pair) → IsFront piece ticks (front_of bytes count) → count < length ticks →
    tick_front (take (length piece - bytes) (drop bytes piece)) ≡ Some shown → IsFront piece (set ticks count shown) (front_of (bytes + 2) (count + 1))
front-tick piece ticks bytes count shown before room is =
    let next : ReadsTicks (take 2 (drop bytes piece)) (shown ∷ []) =
    (tick-reads (drop bytes piece) shown (subst (λ p. tick_front p ≡ Some shown) (take_rest piece bytes) is)).1 in
    let both : ReadsTicks (take bytes piece ++ take 2 (drop bytes piece)) ((shown ∷ []) ++ reverse (take count ticks)) =
    reads-parts (take bytes piece) (take 2 (drop bytes piece)) (reverse (take count ticks)) (shown ∷ []) before.reads next in
    let front : take (bytes + 2) piece ≡ take bytes piece ++ take 2 (drop bytes piece) = take-add bytes 2 piece in
    let pairs : reverse (take (count + 1) (set ticks count shown)) ≡ (shown ∷ []) ++ reverse (take count ticks) =
    ap reverse (take_more_set ticks count shown room) ∙ reverse-append (take count ticks) (shown ∷ []) in
    let long : length (set ticks count shown) ≡ length ticks = length-set ticks count shown in
    record {
      within = tick-within piece bytes shown before.within is;
      room = omega (arith, room, long);
      reads = subst (λ xs. ReadsTicks xs (reverse (take (count + 1) (set ticks count shown)))) (sym front)
          (subst (λ ps. ReadsTicks (take bytes piece ++ take 2 (drop bytes piece)) ps) (sym pairs) both);
    }

-- one line feed more
pub front-feed : (piece : List ℕ) (ticks : List Pair) (bytes count : ℕ) → IsFront piece ticks (front_of bytes count) → bytes < length piece →
    get_or piece bytes 0 ≡ 10 → IsFront piece ticks (front_of (bytes + 1) count)
front-feed piece ticks bytes count before within is =
    let both : ReadsTicks (take bytes piece ++ 10 ∷ []) (reverse (take count ticks)) =
    reads-parts (take bytes piece) (10 ∷ []) (reverse (take count ticks)) [] before.reads quiet-feed in
    let front : take (bytes + 1) piece ≡ take bytes piece ++ 10 ∷ [] =
    (take_at_read piece bytes 0 within).1 ∙ ap (λ byte. take bytes piece ++ byte ∷ []) is in
    record {
      within = omega (arith, within);
      room = before.room;
      reads = subst (λ xs. ReadsTicks xs (reverse (take count ticks))) (sym front) both;
    }

-- so many ticks were taken
pub long-front : (ticks : List Pair) (count : ℕ) → count ≤ length ticks → length (reverse (take count ticks)) ≡ count
long-front ticks count room =
    let long : length (take count ticks) ≡ min count (length ticks) = length-take count ticks in
    length-reverse (take count ticks) ∙ omega (arith, long, room)
