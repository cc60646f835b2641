-- A transmission that no fault strikes.
use Rattle.std.proofs.Common.{◌≡◌, ℕ, ◌-◌, ◌≤◌, true, nat_le, List, [], drop, take, sym, ap, ◌∙◌, arith}
use Rattle.std.proofs.lemmas.Bool.Decides.{nat_tests}
use Rattle.bus_formats.specs.declared.fault.Fault.{Fault}
use Rattle.bus_model.specs.Strikes.{hits_on}
use Rattle.bus_wire.specs.Stands.{AreStrikes}
use Rattle.bus_wire.specs.declared.strikes.Strikes.{Strikes}

-- an empty range has no hits
pub unstruck : (faults : List Fault) (s : Strikes) → AreStrikes faults s → nat_le s.until s.from ≡ true → hits_on faults s.attempt s.part ≡ []
unstruck faults s st none =
    let low : s.until ≤ s.from = grind (arith, nat_tests, none) in
    let left : s.until - s.from ≡ 0 = omega (arith, low) in
    sym st.hits ∙ ap (λ n. hits_on (take n (drop s.from faults)) s.attempt s.part) left
