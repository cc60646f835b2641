use Rattle.std.proofs.Common.{◌≡◌, ℕ, ◌+◌, ◌*◌, drop}
use Rattle.toml.specs.View.{items_view}
use Rattle.bus_plan.specs.Walk.{over_items, in_kind}
use Rattle.bus_plan.specs.declared.rows.TableKind.{TableKind}
use Rattle.bus_plan.specs.declared.rows.TableKind.TheVariants.{Root, Station, Load, Frame, Item, Fault}
use Rattle.bus_plan.proofs.walk.+walk.Given as goal

-- how many levels lie below a table
abbrev pub levels : TableKind → ℕ
levels Root = 3
levels Station = 2
levels Load = 0
levels Frame = 1
levels Item = 0
levels Fault = 0

abbrev pub decreases-in_kind : goal.decreases-in_kind
decreases-in_kind l = 4 * levels l.kind

abbrev pub decreases-over : goal.decreases-over
decreases-over l = 4 * levels l.kind + 3

abbrev pub decreases-over_items : goal.decreases-over_items
decreases-over_items l = 4 * levels l.kind + 2

abbrev pub decreases-over_item : goal.decreases-over_item
decreases-over_item l = 4 * levels l.kind + 1

abbrev pub invariant-over_items-loop-value : goal.invariant-over_items-loop-value
invariant-over_items-loop-value l =
    (l.number ≡ l.value-index + 1)
    × (over_items (in_kind l.rule l.head l.kind) l.path l.number (items_view (drop l.value-index l.value-items)) ≡ over_items (in_kind l.rule l.head l.kind) l.path 1 (items_view l.value-items))
