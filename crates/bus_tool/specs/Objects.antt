-- What becomes of the objects for subsystems, over what each of them tells and says and how much room it has before and after, in their order.
use Rattle.std.specs.Prelude.{◌≡◌, ℕ, List, [], slice_get, Option, Some}
use Rattle.bus_formats.specs.Plans.{StationData, PlanData}
use Rattle.bus_formats.specs.declared.log.Delivery.{Delivery}
use Rattle.bus_line.specs.declared.cutter.TheConstants.{LAG}
use Rattle.bus_law_run.specs.WorldIsRun.{plan_end}
use Rattle.bus_model.specs.World.{world}
use Rattle.bus_run.specs.Deliveries.{deliveries, served, TellsMore}
use Rattle.bus_run.specs.Kept.{places, IsPicked}
use Rattle.bus_run.specs.Rooms.{KeepRoom}
use Rattle.bus_run.specs.Tables.{TellTables}
use Rattle.bus_tool.specs.declared.text.Text.{Text}
use Rattle.bus_tool.specs.declared.text.Text.TheVariants.{Report, Capture}

module _ (told0 told1 : List (Option (List Delivery))) (said0 said1 : List (List ℕ)) (spare0 spare1 : List ℕ) where
  -- the same objects, which tell and say what they did and have the room that they had
  pub record AreSame : Type 0 where
    pub told : told1 ≡ told0
    pub said : said1 ≡ said0
    pub spare : spare1 ≡ spare0

  -- the same objects, which tell and say what they did and have no less room than they had
  pub record AreKept : Type 0 where
    pub told : told1 ≡ told0
    pub said : said1 ≡ said0
    pub spare : KeepRoom spare0 spare1

  -- those objects are left that the plan names, in order of address, one for each station that names a subsystem; each that tells has its
  -- earlier list followed by the blocks that the run of the message table delivers to its station, which are those that the station's terminal took whole in
  -- the plan's world
  pub record AreServed (plan : PlanData) : Type 0 where
    pub before : List (Option (List Delivery))
    pub picked : IsPicked told0 (places plan) before
    pub tables : TellTables plan before told1
    pub told : (p : ℕ) (s : StationData) (old now : Option (List Delivery)) → slice_get (served plan) p ≡ Some s → slice_get before p ≡ Some old →
        slice_get told1 p ≡ Some now → TellsMore old (deliveries plan s (world LAG plan [] [] [] (plan_end plan))) now

  -- after a run: a report's run has the objects that its plan names, a capture's run has none and leaves all as they are
  abbrev pub AfterRun : Text → PlanData → Type 0
  AfterRun Report plan = AreServed plan
  AfterRun Capture plan = AreSame

  -- where memory was wanting: for a report's run some objects may have made room, a capture's run leaves all as they are
  abbrev pub AfterWant : Text → Type 0
  AfterWant Report = AreKept
  AfterWant Capture = AreSame
