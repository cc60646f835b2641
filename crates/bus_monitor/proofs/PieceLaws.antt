-- A piece that a writer takes in parts.
use Rattle.std.proofs.Common.{◌≡◌, ℕ, ◌+◌, ◌-◌, ◌<◌, ◌≤◌, List, ◌++◌, length, reverse, take, drop, ap, sym, subst, ◌∙◌, arith, append_assoc}
use Rattle.std.specs.Prelude.{Option, Ok, Err}
use Rattle.std.proofs.lemmas.List.{reverse-append, take_rest, length-drop}
use Rattle.std.proofs.Math.Seq.{take-add}
use Rattle.bus_base.specs.declared.samples.Pair.{Pair}
use Rattle.bus_monitor.specs.declared.listing_writer.ListingWriter.{ListingWriter}
use Rattle.bus_monitor.specs.declared.listing_writer.Stop.{Stop}
use Rattle.bus_monitor.specs.Scribes.{Follows, Took, TookSome}
use Rattle.bus_monitor.proofs.WriterLaws.{took-later, reverse-rest}

-- the bytes of two parts, the newest first
pub reverse-parts : {A : Type 0} → (xs bytes : List A) (i n : ℕ) → reverse (take n (drop i xs)) ++ (reverse (take i xs) ++ bytes) ≡ reverse (take (i + n) xs) ++ bytes
reverse-parts xs bytes i n =
    sym (append_assoc (reverse (take n (drop i xs))) (reverse (take i xs)) bytes)
    ∙ ap (λ ys. ys ++ bytes) (sym (reverse-append (take i xs) (take n (drop i xs))) ∙ ap reverse (sym (take-add i n xs)))

-- what stops in the rest of a piece stops in the piece
pub stops-after : {L : Type 0} (stands : L → List Pair → Type 0) (lines : List Pair → List ℕ) (writer : ListingWriter L) (piece bytes : List ℕ) (i : ℕ)
    (first held : Option (List ℕ)) (stop : Stop) →
    Took stands lines writer (reverse (drop i piece) ++ (reverse (take i piece) ++ bytes)) first held {T = Unit {0}} (Err stop) →
    Took stands lines writer (reverse piece ++ bytes) first held {T = Unit {0}} (Err stop)
stops-after stands lines writer piece bytes i first held stop took =
    subst (λ ys. Took stands lines writer ys first held {T = Unit {0}} (Err stop)) (sym (reverse-rest piece bytes i)) took

-- what stops in the front of a piece stops in the piece
pub stops-before : {L : Type 0} (stands : L → List Pair → Type 0) (lines : List Pair → List ℕ) (writer : ListingWriter L) (piece bytes : List ℕ) (i : ℕ)
    (first held : Option (List ℕ)) (stop : Stop) →
    Took stands lines writer (reverse (take i piece) ++ bytes) first held {T = Unit {0}} (Err stop) →
    Took stands lines writer (reverse piece ++ bytes) first held {T = Unit {0}} (Err stop)
stops-before stands lines writer piece bytes i first held stop took =
    stops-after stands lines writer piece bytes i first held stop
    (took-later (Unit {0}) stands lines writer (reverse (drop i piece)) (reverse (take i piece) ++ bytes) first held stop took)

-- what went on in the rest of a piece went on in the piece
pub some-after : {L : Type 0} (stands : L → List Pair → Type 0) (lines : List Pair → List ℕ) (writer : ListingWriter L) (piece bytes : List ℕ) (i count : ℕ)
    (first held : Option (List ℕ)) → i < length piece →
    TookSome stands lines writer (take (length piece - i) (drop i piece)) (reverse (take i piece) ++ bytes) first held (Ok count) →
    TookSome stands lines writer piece bytes first held (Ok (i + count))
some-after stands lines writer piece bytes i count first held within took =
    let rest : take (length piece - i) (drop i piece) ≡ drop i piece = take_rest piece i in
    let took' : TookSome stands lines writer (drop i piece) (reverse (take i piece) ++ bytes) first held (Ok count) =
    subst (λ p. TookSome stands lines writer p (reverse (take i piece) ++ bytes) first held (Ok count)) rest took in
    let some : 0 < count = took'.0 in
    let inside : count ≤ length (drop i piece) = took'.1 in
    let long : length (drop i piece) ≡ length piece - i = length-drop i piece in (
      omega (arith, some),
      omega (arith, inside, long, within),
      subst (λ ys. Follows stands lines writer ys first held) (reverse-parts piece bytes i count) took'.2,
    )

-- what stopped there stopped in the piece
pub stop-after : {L : Type 0} (stands : L → List Pair → Type 0) (lines : List Pair → List ℕ) (writer : ListingWriter L) (piece bytes : List ℕ) (i : ℕ)
    (first held : Option (List ℕ)) (stop : Stop) →
    TookSome stands lines writer (take (length piece - i) (drop i piece)) (reverse (take i piece) ++ bytes) first held (Err stop) →
    TookSome stands lines writer piece bytes first held (Err stop)
stop-after stands lines writer piece bytes i first held stop took =
    stops-after stands lines writer piece bytes i first held stop
    (subst (λ p. TookSome stands lines writer p (reverse (take i piece) ++ bytes) first held (Err stop)) (take_rest piece i) took)
