-- The faults of one part of an attempt among a list, up to the last of them.
use Rattle.std.proofs.Common.{◌≡◌, ℕ, ◌+◌, ◌-◌, ◌<◌, ◌≤◌, false, List, [], ◌∷◌, ◌++◌, length, get_or, take, refl, sym, ap, ◌∙◌, arith}
use Rattle.std.proofs.lemmas.List.{take_more, append-nil}
use Rattle.std.proofs.lemmas.List.Elements.{filter_map-append}
use Rattle.bus_base.specs.declared.samples.Part.{Part}
use Rattle.bus_formats.specs.declared.fault.Fault.{Fault}
use Rattle.bus_model.specs.Strikes.{hit_on, hits_on}
use Rattle.bus_wire.specs.Steps.{names}

-- a fault that isn't named adds no hit
pub other-hit : (attempt : ℕ) (part : Part) (fault : Fault) (faults : List Fault) → names attempt part fault ≡ false →
    hits_on (fault ∷ faults) attempt part ≡ hits_on faults attempt part
other-hit attempt part fault faults e = rw e refl

-- a last fault that isn't named is left out
pub other-hit-last : (attempt : ℕ) (part : Part) (faults : List Fault) (n : ℕ) (fault : Fault) → 0 < n → n ≤ length faults →
    fault ≡ get_or faults (n - 1) fault → names attempt part fault ≡ false → hits_on (take (n - 1) faults) attempt part ≡ hits_on (take n faults) attempt part
other-hit-last attempt part faults n fault some within here e =
    let one : n - 1 + 1 ≡ n = omega arith in
    let ends : take n faults ≡ take (n - 1) faults ++ fault ∷ [] =
    ap (λ m. take m faults) (sym one) ∙ (take_more faults (n - 1) fault (omega arith) ∙ ap (λ last. take (n - 1) faults ++ last ∷ []) (sym here)) in
    rw (ends, filter_map-append (hit_on attempt part) (take (n - 1) faults) (fault ∷ []), other-hit attempt part fault [] e)
    (sym (append-nil (hits_on (take (n - 1) faults) attempt part)))
