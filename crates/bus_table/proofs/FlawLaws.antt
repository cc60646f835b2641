-- The first of the bits that is none, by its two samples and those behind them.
use Rattle.std.proofs.Common.{◌≡◌, ℕ, ◌+◌, ◌-◌, ◌≤◌, Bool, if◌then◌else◌, List, [], ◌∷◌, length, take, drop, slice_index_or, ap, ◌∙◌, arith}
use Rattle.std.proofs.lemmas.List.{take_all}
use Rattle.bus_base.specs.declared.samples.Sample.{Sample}
use Rattle.bus_base.specs.declared.samples.Sample.TheVariants.{Plus}
use Rattle.bus_table.specs.Flaws.{is_bit, bit_flaw}
use Rattle.bus_table.specs.declared.flaw.Flaw.{Flaw}
use Rattle.bus_table.specs.declared.flaw.Flaw.TheVariants.{Bit}

pub pair-flaw : (n : ℕ) (bits : List Sample) (bit : Bool) (behind r : Flaw) → 2 ≤ length bits →
    bit ≡ is_bit (slice_index_or bits 0 Plus) (slice_index_or bits 1 Plus) →
    behind ≡ bit_flaw (n + 1) (take (length bits - 2) (drop 2 bits)) → r ≡ (if bit then behind else Bit n) → r ≡ bit_flaw n bits
pair-flaw n [] bit behind r h b e q = absurd (omega (arith, h))
pair-flaw n (x ∷ []) bit behind r h b e q = absurd (omega (arith, h))
pair-flaw n (x ∷ y ∷ more) bit behind r h b e q =
    let all : take (length (x ∷ y ∷ more) - 2) more ≡ more = take_all (length (x ∷ y ∷ more) - 2) more (omega arith) in
    q ∙ ap (λ v. if v then behind else Bit n) b ∙ ap (λ v. if is_bit x y then v else Bit n) (e ∙ ap (bit_flaw (n + 1)) all)
