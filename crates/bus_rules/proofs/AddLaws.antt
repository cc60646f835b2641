-- Lines of breaches that are added one after the other.
use Rattle.std.proofs.Common.{◌≡◌, ℕ, ◌+◌, List, [], ◌++◌, length, refl, ap, sym, ◌∙◌, arith, append_assoc, length-append}
use Rattle.std.proofs.lemmas.List.{append-nil}
use Rattle.std.proofs.lemmas.Grind.{flat_map-append}
use Rattle.bus_rules.specs.JudgeTexts.{breach_line, breach_lines}
use Rattle.bus_rules.specs.Stands.{Adds}
use Rattle.bus_rules.specs.declared.breach.Breach.{Breach}

-- nothing was added
pub adds-none : (text : List ℕ) → Adds text text 0 []
adds-none text = (sym (append-nil text), refl)

pub adds-then : (a b c : List ℕ) (m n : ℕ) (xs ys : List Breach) → Adds a b m xs → Adds b c n ys → Adds a c (m + n) (xs ++ ys)
adds-then a b c m n xs ys first next =
    let long : length (xs ++ ys) ≡ length xs + length ys = length-append xs ys in (
      next.0 ∙ ap (λ t. t ++ breach_lines ys) first.0 ∙ append_assoc a (breach_lines xs) (breach_lines ys)
          ∙ ap (λ t. a ++ t) (sym (flat_map-append breach_line xs ys)),
      omega (arith, first.1, next.1, long),
    )
