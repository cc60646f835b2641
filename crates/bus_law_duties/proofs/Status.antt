-- The status of a terminal has its address, and sixteen bits.
use Rattle.std.proofs.Common.{◌≡◌, ◌<◌, ◌≤◌, Bool, arith}
use Rattle.std.specs.Prelude.{◌&&◌, not}
use Rattle.bus_words.specs.Fields.{address_of}
use Rattle.bus_words.proofs.FlagBits.{bit_small, status_sum}
use Rattle.bus_formats.specs.Plans.{TerminalData}
use Rattle.bus_formats.specs.declared.log.Registers.{Registers}
use Rattle.bus_model.specs.Memory.{status_of}

-- its place values, summed up
pub status-address : (terminal : TerminalData) (registers : Registers) (acceptance : Bool) → terminal.address ≤ 31 →
    (status_of terminal registers acceptance < 65536) × (address_of (status_of terminal registers acceptance) ≡ terminal.address)
status-address terminal registers acceptance low =
    let e = bit_small registers.message_error in
    let s = bit_small terminal.service in
    let b = bit_small registers.broadcast in
    let y = bit_small terminal.busy in
    let u = bit_small terminal.subsystem_flag in
    let a = bit_small acceptance in
    let f = bit_small (terminal.terminal_flag && not registers.inhibited) in
    let sum = status_sum terminal.address record {
      message_error = registers.message_error;
      service = terminal.service;
      broadcast = registers.broadcast;
      busy = terminal.busy;
      subsystem = terminal.subsystem_flag;
      acceptance = acceptance;
      terminal = terminal.terminal_flag && not registers.inhibited;
    } in
    (rw sum (omega (arith, low, e, s, b, y, u, a, f)), rw sum (omega (arith, low, e, s, b, y, u, a, f)))
