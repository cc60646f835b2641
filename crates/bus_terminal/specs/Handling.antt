-- What a terminal handles in a tick: as its code finds it, and what that means.
use Rattle.std.specs.Prelude.{◌≡◌, ℕ, ◌+◌, ◌<◌, ◌^◌, nat_le, Bool, true, false, ◌&&◌, if◌then◌else◌, List, take, Option, Some, None, ⊤, IfSome}
use Rattle.std.specs.Option.{option_or}
use Rattle.bus_base.specs.Samples.{same_channel}
use Rattle.bus_base.specs.declared.samples.Channel.{Channel}
use Rattle.bus_base.specs.declared.samples.Channel.TheVariants.{A, B}
use Rattle.bus_words.specs.declared.word.Word.{Word}
use Rattle.bus_ears.specs.declared.ear.Heard.{Heard}
use Rattle.bus_ears.specs.declared.ear.HeardBurst.{HeardBurst}
use Rattle.bus_ears.specs.declared.ear.TheConstants.{MOST_SLOTS}
use Rattle.bus_formats.specs.Times.{relay_wait}
use Rattle.bus_model.specs.Memory.{Memory}
use Rattle.bus_model.specs.Orders.{promises, Obeyed}
use Rattle.bus_model.specs.Standing.{Standing, obeys, settles, runs_out, promised_on, is_owed}
use Rattle.bus_model.specs.Standing as standing
use Rattle.bus_model.specs.Terminal.{after_order}
use Rattle.bus_orders.specs.Meant.{IsDone}
use Rattle.bus_terminal.specs.declared.common.Listened.{Listened}
use Rattle.bus_terminal.specs.declared.handling.Waiting.{Waiting}
use Rattle.bus_terminal.specs.declared.handling.Handled.{Handled}
use Rattle.bus_terminal.specs.declared.handling.Handled.TheVariants as told
use Rattle.bus_terminal.specs.declared.handling.Performed.{Performed}

-- ---- as the code finds it

abbrev pub WaitFits : Option Waiting → Type 0
WaitFits waiting = IfSome waiting (λ w. w.end < 2 ^ 60)

abbrev pub in_time : ℕ → ℕ → Bool
in_time end first = nat_le first (end + relay_wait)

abbrev pub settles_told : Channel → Waiting → HeardBurst → Option Handled
settles_told c w burst = if same_channel w.channel c && in_time w.end burst.first then Some (told.Settles w burst) else None

abbrev pub settles_with : Channel → Option Waiting → HeardBurst → Option Handled
settles_with c None burst = None
settles_with c (Some w) burst = settles_told c w burst

abbrev pub order_with : Channel → Bool → Option Waiting → HeardBurst → Option ℕ → Option Handled
order_with c outrun waiting burst (Some command) = if outrun then None else Some (told.Obeys c command burst)
order_with c outrun waiting burst None = settles_with c waiting burst

abbrev pub order_from : Channel → Bool → Option Waiting → Option HeardBurst → Option Handled
order_from c outrun waiting None = None
order_from c outrun waiting (Some burst) = order_with c outrun waiting burst burst.command

abbrev pub order_told : Channel → Heard → Bool → Option Waiting → Option Handled
order_told c heard outrun waiting = if heard.ignored then None else order_from c outrun waiting heard.burst

abbrev pub out_with : Option Waiting → Option Handled
out_with None = None
out_with (Some w) = Some (told.RunsOut w)

abbrev pub handled_told : Listened → Option Waiting → Bool → Option Handled
handled_told heard waiting out =
    option_or (order_told A heard.a heard.a_outrun waiting)
    (option_or (order_told B heard.b heard.b_outrun waiting) (if out then out_with waiting else None))

-- the end of what is handled
abbrev pub EndFits : Handled → Type 0
EndFits (told.Obeys c command burst) = burst.end < 2 ^ 60
EndFits (told.Settles w burst) = burst.end < 2 ^ 60
EndFits (told.RunsOut w) = w.end < 2 ^ 60

-- ---- what that means

-- the promise that stands
pub record IsWaiting (w : Waiting) (s : Standing) : Type 0 where
  pub channel : s.channel ≡ w.channel
  pub end : s.end ≡ w.end
  pub duty : s.duty ≡ promises w.promise.command w.promise.transmitter

-- a promise stands, or none
abbrev pub Awaits : ℕ → Option Waiting → Standing → Type 0
Awaits k None s = (c : Channel) → promised_on k s c ≡ false
Awaits k (Some w) s = IsWaiting w s × (standing.superseded k s ≡ false)

pub record IsCommand (c : Channel) (command : ℕ) (burst : HeardBurst) (channel : Channel) (end : ℕ) (bits : ℕ) (kept : List (Option Word))
    (rest : ℕ) : Type 0 where
  pub channel_is : c ≡ channel
  pub end_is : burst.end ≡ end
  pub command_is : command ≡ bits
  pub slots_are : burst.slots.items ≡ take MOST_SLOTS kept
  pub rest_is : burst.rest ≡ rest

pub record IsSettled (w : Waiting) (burst : HeardBurst) (end : ℕ) (kept : List (Option Word)) (rest : ℕ) (s : Standing) : Type 0 where
  pub waiting : IsWaiting w s
  pub end_is : burst.end ≡ end
  pub slots_are : burst.slots.items ≡ take MOST_SLOTS kept
  pub rest_is : burst.rest ≡ rest

abbrev pub HandledIs : Handled → standing.Handled → Standing → Type 0
HandledIs (told.Obeys c command burst) (obeys channel end order rest) s = IsCommand c command burst channel end order.command order.tail rest
HandledIs (told.Settles w burst) (settles end slots rest) s = IsSettled w burst end slots rest s
HandledIs (told.RunsOut w) runs_out s = IsWaiting w s
HandledIs _ _ s = ⊥

abbrev pub AreHandled : Option Handled → Option standing.Handled → Standing → Type 0
AreHandled None None s = ⊤
AreHandled (Some handled) (Some order) s = HandledIs handled order s
AreHandled _ _ s = ⊥

-- what an order left, where s stood before it
pub record PerformedIs (performed : Performed) (memory : Memory) (s : Standing) (order : standing.Handled) (o : Obeyed) : Type 0 where
  pub done : IsDone performed.done memory o
  pub channel : performed.channel ≡ (after_order s order o).channel
  pub end : performed.end ≡ (after_order s order o).end
  pub part : is_owed o.duty ≡ true → performed.part ≡ (after_order s order o).part
