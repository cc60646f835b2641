-- A text that is written piece by piece, and what is left to say.
use Rattle.std.proofs.Common.{◌≡◌, ℕ, zero, suc, ◌+◌, ◌<◌, List, [], ◌∷◌, ◌++◌, length, get_or, map, drop, true, Option, Some, None, refl, arith, ap, sym, ◌∙◌, append_assoc, append-nil, add-one, subst, drop-cons}
use Rattle.std.specs.Prelude.{if◌then◌else◌}
use Rattle.std.specs.Io.KnownBytes.{Appends}
use Rattle.bus_formats.specs.Plans.{PlanData}
use Rattle.bus_formats.specs.declared.log.BlockEnd.{BlockEnd}
use Rattle.bus_formats.specs.declared.log.TerminalEnd.{TerminalEnd}
use Rattle.bus_outside.specs.Causes.{GrowsByFront}
use Rattle.bus_outside.proofs.Writes.{appends_then, front_then}
use Rattle.bus_report.specs.Report.{terminal_text, terminal_lines, has_subsystem, subsystem_line, said_by, said_later}

-- of the whole text a front was added, and this rest is left
pub record Halfway (a b : Option (List ℕ)) (whole rest : List ℕ) : Type 0 where
  pub front : List ℕ
  pub is : whole ≡ front ++ rest
  pub added : Appends a b front

added_none : (a : Option (List ℕ)) → Appends a a []
added_none None = tt
added_none (Some held) = sym (append-nil held)

-- nothing was added yet
pub halfway_start : (a : Option (List ℕ)) (whole : List ℕ) → Halfway a a whole whole
halfway_start a whole = record { front = []; is = refl; added = added_none a }

-- the next piece was added
pub halfway_more : (a b c : Option (List ℕ)) (whole rest piece later : List ℕ) → Halfway a b whole rest → rest ≡ piece ++ later →
    Appends b c piece → Halfway a c whole later
halfway_more a b c whole rest piece later half is k = record {
  front = half.front ++ piece;
  is = half.is ∙ ap (λ xs. half.front ++ xs) is ∙ sym (append_assoc half.front piece later);
  added = appends_then a b c half.front piece half.added k;
}

-- a front of the next piece was added
pub halfway_front : (a b c : Option (List ℕ)) (whole rest piece later : List ℕ) → Halfway a b whole rest → rest ≡ piece ++ later →
    GrowsByFront b c piece → GrowsByFront a c whole
halfway_front a b c whole rest piece later half is k =
    subst (λ text. GrowsByFront a c text) (sym (half.is ∙ ap (λ xs. half.front ++ xs) is)) (front_then a b c half.front piece later half.added k)

-- nothing is left
pub halfway_end : (a b : Option (List ℕ)) (whole rest : List ℕ) → Halfway a b whole rest → rest ≡ [] → Appends a b whole
halfway_end a b whole rest half is =
    subst (λ text. Appends a b text) (sym (half.is ∙ ap (λ xs. half.front ++ xs) is ∙ append-nil half.front)) half.added

-- the lines of the terminals from a place on begin with those of the terminal there and what its subsystem says
pub next_terminal : (blocks : List BlockEnd) (plan : PlanData) (terminals : List TerminalEnd) (i : ℕ) (t : TerminalEnd) (texts : List (List ℕ)) →
    i < length terminals → t ≡ get_or terminals i t →
    terminal_lines blocks plan (drop i terminals) texts
    ≡ terminal_text blocks t ++ (said_by plan t.address texts ++ terminal_lines blocks plan (drop (i + 1) terminals) (said_later plan t.address texts))
next_terminal blocks plan terminals i t texts within is =
    let here : drop i terminals ≡ t ∷ drop (i + 1) terminals =
    drop-cons terminals i t within ∙ ap (λ x. x ∷ drop (suc i) terminals) (sym is) ∙ ap (λ n. t ∷ drop n terminals) (sym (add-one i)) in
    ap (λ ts. terminal_lines blocks plan ts texts) here
    ∙ append_assoc (terminal_text blocks t) (said_by plan t.address texts) (terminal_lines blocks plan (drop (i + 1) terminals) (said_later plan t.address texts))

-- no terminal is left past the last
pub no_terminal : (blocks : List BlockEnd) (plan : PlanData) (terminals : List TerminalEnd) (texts : List (List ℕ)) →
    terminal_lines blocks plan (drop (length terminals) terminals) texts ≡ []
no_terminal blocks plan [] texts = refl
no_terminal blocks plan (t ∷ terminals) texts = no_terminal blocks plan terminals texts

-- ---- what subsystems say

rest_of_texts : {A : Type 0} (f : A → List ℕ) (xs : List A) (p : ℕ) (x : A) → p < length xs → x ≡ get_or xs p x →
    drop p (map f xs) ≡ f x ∷ drop (suc p) (map f xs)
rest_of_texts f [] p x within is = absurd (omega (arith, within))
rest_of_texts f (y ∷ xs) zero x within is = ap (λ z. f z ∷ map f xs) (sym is)
rest_of_texts f (y ∷ xs) (suc p) x within is = rest_of_texts f xs p x (omega (arith, within)) is

-- the texts from a place on are that of the subsystem there and those after it
pub next_text : {A : Type 0} (f : A → List ℕ) (xs : List A) (p : ℕ) (x : A) → p < length xs → x ≡ get_or xs p x →
    drop p (map f xs) ≡ f x ∷ drop (p + 1) (map f xs)
next_text f xs p x within is = rest_of_texts f xs p x within is ∙ ap (λ n. f x ∷ drop n (map f xs)) (sym (add-one p))

-- a terminal that names a subsystem has the first text
pub said_first : (plan : PlanData) (address : ℕ) (texts : List (List ℕ)) (text : List ℕ) (later : List (List ℕ)) →
    has_subsystem plan address ≡ true → texts ≡ text ∷ later → said_by plan address texts ≡ subsystem_line address text
said_first plan address texts text later named is = ap (said_by plan address) is ∙ ap (λ b. if b then subsystem_line address text else []) named

-- the others are left for those after it
pub said_rest : (plan : PlanData) (address : ℕ) (texts : List (List ℕ)) (text : List ℕ) (later : List (List ℕ)) →
    has_subsystem plan address ≡ true → texts ≡ text ∷ later → said_later plan address texts ≡ later
said_rest plan address texts text later named is = ap (said_later plan address) is ∙ ap (λ b. if b then later else text ∷ later) named
