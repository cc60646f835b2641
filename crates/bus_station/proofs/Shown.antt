-- What a station shows of itself.
use Rattle.std.proofs.Common.{◌≡◌, ℕ, Bool, true, false, not, Option, Some, None, refl, ap}
use Rattle.bus_base.specs.declared.samples.Tick.{Tick}
use Rattle.bus_station.specs.Roles.{tick_of, role_by}
use Rattle.bus_station.specs.declared.role.Role.TheVariants.{Controlling, Taking}

-- a station that has no control
pub serves : (b h : Bool) → b ≡ not h → b ≡ true → h ≡ false
serves b true is yielded = cc
serves b false is yielded = refl

-- and one that has it
pub controls : (b h : Bool) → b ≡ not h → b ≡ false → h ≡ true
controls b true is held = refl
controls b false is held = cc

-- it is taking control
pub taking-role : (first : Tick) (o : Option ℕ) (holds : Bool) → Some first ≡ tick_of o → holds ≡ true → Taking first ≡ role_by holds o
taking-role first None holds is on = cc
taking-role first (Some tick) true is on = (let same : first ≡ record { 0 = tick } = cc in ap Taking same)
taking-role first (Some tick) false is on = cc

-- it is controlling
pub controlling-role : (o : Option ℕ) (holds : Bool) → None ≡ tick_of o → holds ≡ true → Controlling ≡ role_by holds o
controlling-role None true is on = refl
controlling-role None false is on = cc
controlling-role (Some tick) holds is on = cc
