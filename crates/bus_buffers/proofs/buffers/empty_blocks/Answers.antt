-- Each of the blocks is made empty.
use Rattle.std.proofs.Common.{◌≡◌, ◌∙◌, sym, [], replicate, get_or, rules, List, ℕ, arith}
use Rattle.std.proofs.lemmas.List.{same_lists, get_or-replicate}
use Rattle.bus_buffers.proofs.buffers.empty_blocks.Goals as goal

pub returns : goal.returns
returns c =
    let none : List ℕ = [] in
    same_lists {X = List ℕ} c.from_fn.result (replicate 31 none) (c.from_fn.ensures.items.long)
    (λ (k : ℕ) (d : List ℕ) h.
    let made = c.from_fn.ensures.items.at k d (omega (arith, h, c.from_fn.ensures.items.long)) in
    let is_empty : get_or c.from_fn.result k d ≡ [] = search rules in
    is_empty ∙ sym (get_or-replicate 31 k none d (omega (arith, h, c.from_fn.ensures.items.long))))
