-- The number, the printed name and the place of a refusal.
use Rattle.std.specs.Prelude.{ℕ, List, codes, Option, Some, None}
use Rattle.bus_plan.specs.declared.refusal.PlanRefusal.{PlanRefusal}
use Rattle.bus_plan.specs.declared.refusal.PlanRefusal.TheVariants.{NotToml, UnknownKey, Missing, WrongKind, OutOfRange, SameAddress, NoSuchStation, SelfAddressed, BadForm, BadAbandon, Undetectable, SameFault, TooMany}

abbrev pub number_of : PlanRefusal → ℕ
number_of NotToml = 1
number_of (UnknownKey place) = 2
number_of (Missing place) = 3
number_of (WrongKind place) = 4
number_of (OutOfRange place) = 5
number_of (SameAddress place) = 6
number_of (NoSuchStation place) = 7
number_of (SelfAddressed place) = 8
number_of (BadForm place) = 9
number_of (BadAbandon place) = 10
number_of (Undetectable place) = 11
number_of (SameFault place) = 12
number_of (TooMany place) = 13

abbrev pub name_of : PlanRefusal → List ℕ
name_of NotToml = codes "not-toml"
name_of (UnknownKey place) = codes "unknown-key"
name_of (Missing place) = codes "missing"
name_of (WrongKind place) = codes "wrong-kind"
name_of (OutOfRange place) = codes "out-of-range"
name_of (SameAddress place) = codes "same-address"
name_of (NoSuchStation place) = codes "no-such-station"
name_of (SelfAddressed place) = codes "self-addressed"
name_of (BadForm place) = codes "bad-form"
name_of (BadAbandon place) = codes "bad-abandon"
name_of (Undetectable place) = codes "undetectable"
name_of (SameFault place) = codes "same-fault"
name_of (TooMany place) = codes "too-many"

abbrev pub place_of : PlanRefusal → Option (List ℕ)
place_of NotToml = None
place_of (UnknownKey place) = Some place
place_of (Missing place) = Some place
place_of (WrongKind place) = Some place
place_of (OutOfRange place) = Some place
place_of (SameAddress place) = Some place
place_of (NoSuchStation place) = Some place
place_of (SelfAddressed place) = Some place
place_of (BadForm place) = Some place
place_of (BadAbandon place) = Some place
place_of (Undetectable place) = Some place
place_of (SameFault place) = Some place
place_of (TooMany place) = Some place
