-- The faults that tables describe, and the whole plan.
use Rattle.std.specs.Prelude.{ℕ, Bool, not, ◌&&◌, if◌then◌else◌, List, [], codes, Option, Some, None}
use Rattle.toml.specs.Data.{Items, Members}
use Rattle.bus_base.specs.Positions.{set_of}
use Rattle.bus_base.specs.declared.samples.Part.{Part}
use Rattle.bus_base.specs.declared.samples.Part.TheVariants.{Command, First, Second}
use Rattle.bus_formats.specs.Plans.{PlanData}
use Rattle.bus_formats.specs.declared.fault.Fault.{Fault}
use Rattle.bus_formats.specs.declared.fault.Hit.{Hit}
use Rattle.bus_formats.specs.declared.fault.Hit.TheVariants.{Flip, Cut, Extra, Fade}
use Rattle.bus_plan.specs.Decode.{number_at, list_at, tables_at}
use Rattle.bus_plan.specs.DecodeItems.{station_of}
use Rattle.bus_plan.specs.Positions.{positions_of, may_stand, is_undetectable}
use Rattle.bus_plan.specs.Ranges.{address_range, attempt_range, struck_range, after_range, command_after_range, extra_range, flip_range, fade_range}
use Rattle.bus_plan.specs.Rows.{has_text}
use Rattle.bus_plan.specs.declared.rows.Head.{Head}

abbrev pub part_of : Members → Part
part_of ms =
    if has_text (codes "part") (codes "command") ms then Command
    else if has_text (codes "part") (codes "first") ms then First
    else Second

-- the positions of a fault
abbrev pub positions_in : Option Items → List ℕ
positions_in None = []
positions_in (Some ds) = positions_of ds

abbrev pub positions_at : Members → List ℕ
positions_at ms = positions_in (list_at (codes "at") ms)

-- whether positions name a set of flips that can't be detected
abbrev pub names_undetectable : List ℕ → Bool
names_undetectable ps = may_stand flip_range 40 ps && is_undetectable (set_of ps)

-- the flips at positions, where these may stand and can be detected
abbrev pub flips_at : List ℕ → Option (List Bool)
flips_at ps = if may_stand flip_range 40 ps && not (is_undetectable (set_of ps)) then Some (set_of ps) else None

-- the fades at positions, where these may stand
abbrev pub fades_at : List ℕ → Option (List Bool)
fades_at ps = if may_stand fade_range 3 ps then Some (set_of ps) else None

abbrev pub after_of : Members → ℕ
after_of ms =
    if has_text (codes "part") (codes "command") ms then number_at command_after_range 1 (codes "after") ms
    else number_at after_range 0 (codes "after") ms

-- a flip or a fade; where its positions may not stand, an extra
abbrev pub flip_of : ℕ → Option (List Bool) → Hit
flip_of word (Some set) = Flip word set
flip_of word None = Extra 1

abbrev pub fade_of : ℕ → Option (List Bool) → Hit
fade_of word (Some set) = Fade word set
fade_of word None = Extra 1

abbrev pub struck_of : Members → ℕ
struck_of ms = number_at struck_range 0 (codes "word") ms

abbrev pub hit_of : Members → Hit
hit_of ms =
    if has_text (codes "kind") (codes "flip") ms then flip_of (struck_of ms) (flips_at (positions_at ms))
    else if has_text (codes "kind") (codes "fade") ms then fade_of (struck_of ms) (fades_at (positions_at ms))
    else if has_text (codes "kind") (codes "cut") ms then Cut (after_of ms)
    else Extra (number_at extra_range 1 (codes "words") ms)

abbrev pub fault_of : Members → Fault
fault_of ms = record { attempt = number_at attempt_range 1 (codes "attempt") ms; part = part_of ms; hit = hit_of ms }

abbrev pub plan_of : Head → Members → PlanData
plan_of head ms = record {
  start = number_at address_range 0 (codes "start") ms;
  stations = tables_at (station_of head) (codes "station") ms;
  faults = tables_at fault_of (codes "fault") ms;
}
