-- Quiet ticks in a text are read at once as they are byte by byte.
use Rattle.std.proofs.Common.{◌≡◌, ℕ, zero, suc, ◌+◌, ◌≤◌, List, [], ◌∷◌, ◌++◌, length, reverse, refl, ap, sym, subst, ◌∙◌, arith, length-append}
use Rattle.std.specs.Prelude.{◌-◌, ◌^◌, min, ◌==◌, ◌&&◌, if◌then◌else◌, Bool, true, false, take, drop}
use Rattle.std.proofs.lemmas.List.{reverse-append, append_assoc, length-reverse, take_rest, length-drop, length-take}
use Rattle.std.proofs.lemmas.Bool.Decides.{nat_tests}
use Rattle.std.proofs.Math.Seq.{take-add}
use Rattle.bus_base.specs.declared.samples.Sample.TheVariants.{Quiet}
use Rattle.bus_base.specs.declared.samples.Pair.{Pair}
use Rattle.bus_capture.specs.Readings.{place_after, ticks_in, text_limit}
use Rattle.bus_base.specs.Samples.{quiet_pairs}
use Rattle.bus_capture.specs.Quiet.{ReadsTicks, ReadsQuiet, IsStep, step_in, run_of, is_stop, are_stops, four_quiet}
use Rattle.bus_capture.specs.declared.reader.QuietRun.{QuietRun}
use Rattle.bus_capture.specs.declared.reader.Place.TheVariants.{Between}
use Rattle.bus_capture.specs.Reader.{ReaderStands}
use Rattle.bus_capture.specs.declared.reader.CaptureReader.{CaptureReader}
use Rattle.bus_capture.proofs.ReaderLaws.{short}
use Rattle.bus_capture.proofs.RoundTrip.{AtTicks, feed-step, pair-step}

-- no bytes are no ticks
pub quiet-none : ReadsQuiet [] 0
quiet-none bytes place begun room = (place, refl)

-- a line feed is no tick
pub quiet-feed : ReadsQuiet (10 ∷ []) 0
quiet-feed bytes place begun room =
    let at : AtTicks (10 ∷ bytes) (ticks_in bytes) = feed-step bytes (ticks_in bytes) (record { place = place; ticks = refl; begun = begun }) (omega (arith, room)) in
    (at.place, at.ticks)

-- two full stops are a quiet tick
pub quiet-tick : ReadsQuiet (46 ∷ 46 ∷ []) 1
quiet-tick bytes place begun room =
    let at : AtTicks (46 ∷ 46 ∷ bytes) (record { a = Quiet; b = Quiet } ∷ ticks_in bytes) =
    pair-step (record { a = Quiet; b = Quiet }) bytes (ticks_in bytes) (record { place = place; ticks = refl; begun = begun }) (omega (arith, room)) in
    (at.place, at.ticks)

-- what is read in two parts is read whole
pub reads-parts : (front later : List ℕ) (ticks more : List Pair) → ReadsTicks front ticks → ReadsTicks later more → ReadsTicks (front ++ later) (more ++ ticks)
reads-parts front later ticks more first second bytes place begun room =
    let long : length (front ++ later) ≡ length front + length later = length-append front later in
    let middle : (place_after (reverse front ++ bytes) ≡ Between) × (ticks_in (reverse front ++ bytes) ≡ ticks ++ ticks_in bytes) =
    first bytes place begun (omega (arith, room, long)) in
    let same : length (reverse front ++ bytes) ≡ length front + length bytes = length-append (reverse front) bytes ∙ ap (λ n. n + length bytes) (length-reverse front) in
    let last : (place_after (reverse later ++ (reverse front ++ bytes)) ≡ Between)
    × (ticks_in (reverse later ++ (reverse front ++ bytes)) ≡ more ++ ticks_in (reverse front ++ bytes)) =
    second (reverse front ++ bytes) middle.0 (omega (arith, begun, same)) (omega (arith, room, long, same)) in
    let whole : reverse (front ++ later) ++ bytes ≡ reverse later ++ (reverse front ++ bytes) =
    ap (λ xs. xs ++ bytes) (reverse-append front later) ∙ append_assoc (reverse later) (reverse front) bytes in (
      rw whole last.0,
      rw whole (last.1 ∙ ap (λ xs. more ++ xs) middle.1 ∙ sym (append_assoc more ticks (ticks_in bytes))),
    )

-- quiet ticks after quiet ticks
quiet-sum : (m n : ℕ) → quiet_pairs m ++ quiet_pairs n ≡ quiet_pairs (n + m)
quiet-sum zero n = let e : n + 0 ≡ n = omega arith in rw e refl
quiet-sum (suc m) n =
    let e : n + suc m ≡ suc (n + m) = omega arith in
    rw e (ap (λ xs. record { a = Quiet; b = Quiet } ∷ xs) (quiet-sum m n))

quiet-parts : (front later : List ℕ) (ticks more : ℕ) → ReadsQuiet front ticks → ReadsQuiet later more → ReadsQuiet (front ++ later) (ticks + more)
quiet-parts front later ticks more first second =
    subst (λ pairs. ReadsTicks (front ++ later) pairs) (quiet-sum more ticks) (reads-parts front later (quiet_pairs ticks) (quiet_pairs more) first second)

nothing : (piece : List ℕ) → IsStep piece (run_of 0 0)
nothing piece = record { within = omega arith; few = omega arith; reads = quiet-none }

feed-or-nothing : (a : ℕ) (rest : List ℕ) (feed : Bool) → (a == 10) ≡ feed → IsStep (a ∷ rest) (if feed then run_of 1 0 else run_of 0 0)
feed-or-nothing a rest false is = nothing (a ∷ rest)
feed-or-nothing a rest true is =
    let e : a ≡ 10 = grind (arith, nat_tests, is) in
    record { within = omega arith; few = omega arith; reads = rw e quiet-feed }

pair-or-feed : (a b : ℕ) (rest : List ℕ) (first second : Bool) → (a == 46) ≡ first → (b == 46) ≡ second →
    IsStep (a ∷ b ∷ rest) (if first && second then run_of 2 1 else if a == 10 then run_of 1 0 else run_of 0 0)
pair-or-feed a b rest true true one two =
    let e : a ≡ 46 = grind (arith, nat_tests, one) in
    let f : b ≡ 46 = grind (arith, nat_tests, two) in
    record { within = omega arith; few = omega arith; reads = rw (e, f) quiet-tick }
pair-or-feed a b rest true false one two = feed-or-nothing a (b ∷ rest) (a == 10) refl
pair-or-feed a b rest false second one two = feed-or-nothing a (b ∷ rest) (a == 10) refl

-- a step reads quiet ticks
pub step-is : (piece : List ℕ) → IsStep piece (step_in piece)
step-is [] = nothing []
step-is (a ∷ []) = feed-or-nothing a [] (a == 10) refl
step-is (a ∷ b ∷ rest) = pair-or-feed a b rest (a == 46) (b == 46) refl refl

pub both : (a b : Bool) → (a && b) ≡ true → (a ≡ true) × (b ≡ true)
both true b is = (refl, is)
both false b is = absurd (cc)

stop-is : (byte : ℕ) → is_stop byte ≡ true → byte ≡ 46
stop-is byte is = grind (arith, nat_tests, is)

quiet-four : ReadsQuiet (46 ∷ 46 ∷ 46 ∷ 46 ∷ 46 ∷ 46 ∷ 46 ∷ 46 ∷ []) 4
quiet-four =
    let two : ReadsQuiet (46 ∷ 46 ∷ 46 ∷ 46 ∷ []) 2 = quiet-parts (46 ∷ 46 ∷ []) (46 ∷ 46 ∷ []) 1 1 quiet-tick quiet-tick in
    quiet-parts (46 ∷ 46 ∷ 46 ∷ 46 ∷ []) (46 ∷ 46 ∷ 46 ∷ 46 ∷ []) 2 2 two two

stops-quiet : (n : ℕ) (bytes : List ℕ) → length bytes ≡ n + n → are_stops bytes ≡ true → ReadsQuiet bytes n
stops-quiet zero [] long is = quiet-none
stops-quiet zero (a ∷ bytes) long is = absurd (omega (arith, long))
stops-quiet (suc n) [] long is = absurd (omega (arith, long))
stops-quiet (suc n) (a ∷ []) long is = absurd (omega (arith, long))
stops-quiet (suc n) (a ∷ b ∷ rest) long is =
    let first : (is_stop a ≡ true) × ((is_stop b && are_stops rest) ≡ true) = both (is_stop a) (is_stop b && are_stops rest) is in
    let second : (is_stop b ≡ true) × (are_stops rest ≡ true) = both (is_stop b) (are_stops rest) first.1 in
    let later : ReadsQuiet rest n = stops-quiet n rest (omega (arith, long)) second.1 in
    let e : 1 + n ≡ suc n = omega arith in
    rw (stop-is a first.0, stop-is b second.0)
    (subst (λ k. ReadsQuiet (46 ∷ 46 ∷ rest) k) e (quiet-parts (46 ∷ 46 ∷ []) rest 1 n quiet-tick later))

-- full stops alone are read as quiet ticks
pub stops-are : (piece : List ℕ) (bytes ticks : ℕ) → bytes ≡ ticks + ticks → bytes ≤ length piece → are_stops (take bytes piece) ≡ true →
    IsStep piece (run_of bytes ticks)
stops-are piece bytes ticks two within is =
    let long : length (take bytes piece) ≡ min bytes (length piece) = length-take bytes piece in
    record { within = within; few = omega (arith, two); reads = stops-quiet ticks (take bytes piece) (omega (arith, long, two, within)) is }

-- four quiet ticks are read
pub four-is : (piece : List ℕ) → four_quiet piece ≡ true → IsStep piece (run_of 8 4)
four-is (a ∷ b ∷ c ∷ d ∷ e ∷ f ∷ g ∷ h ∷ rest) is =
    let p7 = both _ _ is in
    let p6 = both _ _ p7.0 in
    let p5 = both _ _ p6.0 in
    let p4 = both _ _ p5.0 in
    let p3 = both _ _ p4.0 in
    let p2 = both _ _ p3.0 in
    let p1 = both _ _ p2.0 in
    record {
      within = omega arith;
      few = omega arith;
      reads = rw (stop-is a p1.0, stop-is b p1.1, stop-is c p2.1, stop-is d p3.1, stop-is e p4.1, stop-is f p5.1, stop-is g p6.1, stop-is h p7.1) quiet-four;
    }
four-is [] is = absurd (cc)
four-is (a ∷ []) is = absurd (cc)
four-is (a ∷ b ∷ []) is = absurd (cc)
four-is (a ∷ b ∷ c ∷ []) is = absurd (cc)
four-is (a ∷ b ∷ c ∷ d ∷ []) is = absurd (cc)
four-is (a ∷ b ∷ c ∷ d ∷ e ∷ []) is = absurd (cc)
four-is (a ∷ b ∷ c ∷ d ∷ e ∷ f ∷ []) is = absurd (cc)
four-is (a ∷ b ∷ c ∷ d ∷ e ∷ f ∷ g ∷ []) is = absurd (cc)

-- a step after what was taken before, with what it took
pub taken-more : (piece : List ℕ) (bytes ticks : ℕ) (next : QuietRun) → bytes ≤ length piece → ticks ≤ bytes → ReadsQuiet (take bytes piece) ticks →
    IsStep (take (length piece - bytes) (drop bytes piece)) next → IsStep piece (run_of (bytes + next.bytes) (ticks + next.ticks))
taken-more piece bytes ticks next within few reads is =
    let step : IsStep (drop bytes piece) next = subst (λ p. IsStep p next) (take_rest piece bytes) is in
    let long : length (drop bytes piece) ≡ length piece - bytes = length-drop bytes piece in
    let inside : next.bytes ≤ length (drop bytes piece) = step.within in
    let less : next.ticks ≤ next.bytes = step.few in
    record {
      within = omega (arith, within, inside, long);
      few = omega (arith, few, less);
      reads = rw (take-add bytes next.bytes piece) (quiet-parts (take bytes piece) (take next.bytes (drop bytes piece)) ticks next.ticks reads step.reads);
    }

pub long-quiet : (n : ℕ) → length (quiet_pairs n) ≡ n
long-quiet zero = refl
long-quiet (suc n) = ap suc (long-quiet n)

-- what a front of ticks leaves
pub record IsTaken (front bytes : List ℕ) (ticks : List Pair) : Type 0 where
  pub place : place_after (reverse front ++ bytes) ≡ place_after bytes
  pub ticks_are : ticks_in (reverse front ++ bytes) ≡ ticks ++ ticks_in bytes

-- a reader between two ticks takes them
pub takes : (r : CaptureReader) (front bytes : List ℕ) (ticks : List Pair) → ReaderStands r bytes → r.place ≡ Between → 15 ≤ r.at →
    r.at + length front ≤ text_limit → ReadsTicks front ticks → IsTaken front bytes ticks
takes r front bytes ticks stands place begun room reads =
    let between : place_after bytes ≡ Between = sym stands.place ∙ place in
    let at : r.at ≡ length bytes = stands.at (rw between refl) in
    let read : (place_after (reverse front ++ bytes) ≡ Between) × (ticks_in (reverse front ++ bytes) ≡ ticks ++ ticks_in bytes) =
    reads bytes between (omega (arith, begun, at)) (omega (arith, room, at)) in
    record { place = read.0 ∙ sym between; ticks_are = read.1 }

-- and stands for them, with its counts of bytes and ticks
pub reader-takes : (r : CaptureReader) (front bytes : List ℕ) (ticks : List Pair) (count at more : ℕ) → ReaderStands r bytes → r.place ≡ Between → 15 ≤ r.at →
    r.at + length front ≤ text_limit → ReadsTicks front ticks → length ticks ≡ count →
    at ≡ min (r.at + length front) (2 ^ 64 - 1) → more ≡ min (r.ticks + count) (2 ^ 64 - 1) →
    ReaderStands record { place = r.place; at = at; ticks = more } (reverse front ++ bytes)
reader-takes r front bytes ticks count at more stands place begun room reads counted at_is more_is =
    let taken : IsTaken front bytes ticks = takes r front bytes ticks stands place begun room reads in
    let long : length (reverse front ++ bytes) ≡ length front + length bytes =
    length-append (reverse front) bytes ∙ ap (λ n. n + length bytes) (length-reverse front) in
    let between : place_after bytes ≡ Between = sym stands.place ∙ place in
    let here : r.at ≡ length bytes = stands.at (rw between refl) in
    let all : length (ticks_in (reverse front ++ bytes)) ≡ length ticks + length (ticks_in bytes) =
    ap length taken.ticks_are ∙ length-append ticks (ticks_in bytes) in
    let few : length (ticks_in (reverse front ++ bytes)) ≤ text_limit = (short (reverse front ++ bytes)).few in
    let were : r.ticks ≡ length (ticks_in bytes) = stands.ticks in
    record {
      place = stands.place ∙ sym taken.place;
      ticks = omega (arith, all, few, were, counted, more_is);
      at = λ going. omega (arith, long, here, room, at_is);
    }
