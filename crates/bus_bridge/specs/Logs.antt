-- What contracts see of the log of two buses that one device joins: its fields, with plain lists.
use Rattle.std.specs.Prelude.{ℕ, List}
use Rattle.bus_base.specs.declared.samples.Tick.{Tick}
use Rattle.bus_formats.specs.declared.log.Attempt.{Attempt}
use Rattle.bus_formats.specs.declared.log.Delivery.{Delivery}

pub record BridgeLogData : Type 0 where
  pub taken : List Delivery
  pub attempts : List Attempt
  pub first_end : Tick
  pub second_end : Tick
  pub clashes : ℕ
