-- What contracts see of the log of a run in which a second controller took over: the same fields, with a plain list.
use Rattle.std.specs.Prelude.{ℕ, List, Option}
use Rattle.bus_base.specs.declared.samples.Tick.{Tick}
use Rattle.bus_formats.specs.declared.log.Attempt.{Attempt}

pub record StandbyLogData : Type 0 where
  pub attempts : List Attempt
  pub stop : Option Tick
  pub taken : Tick
  pub end : Tick
  pub clashes : ℕ
