-- Which message is open at the end, by what a lister keeps.
use Rattle.std.proofs.Common.{◌≡◌, ℕ, List, [], ◌∷◌, ◌++◌, length, refl, ap, sym, ◌∙◌, append_assoc}
use Rattle.std.specs.Prelude.{Bool, true, false, if◌then◌else◌, Option, Some, None}
use Rattle.bus_base.specs.declared.samples.Channel.{Channel}
use Rattle.bus_base.specs.declared.samples.Pair.{Pair}
use Rattle.bus_line.specs.Past.{Burst}
use Rattle.bus_line.specs.Channels.{on_channel}
use Rattle.bus_monitor.specs.Messages.{Waiting, waits, open_message, open_at_end, answered_late}
use Rattle.bus_monitor.specs.Listings.{running_on, bursts_on, open_on}
use Rattle.bus_monitor.specs.Progress.{waiting}
use Rattle.bus_monitor.specs.Awaited.{still, awaited, open_of}
use Rattle.bus_monitor.proofs.ChannelLaws.{length-on_channel, bursts-channel}
use Rattle.bus_monitor.proofs.MessageLaws.{waits_all, waiting-ended}

-- what is open after the bursts is told by the message that waits after them
open-after : (k : ℕ) (running : Option ℕ) (ticks : ℕ) (w : Option Waiting) (bursts : List Burst) →
    open_message k running ticks w bursts ≡ open_at_end k running ticks (waits_all k w bursts)
unfolding open_message waits_all
open-after k running ticks w [] = refl
open-after k running ticks w (burst ∷ bursts) = open-after k running ticks (waits k w burst) bursts

open-if : (late : Bool) (running : Option ℕ) (w : Waiting) →
    (if late then running else Some w.first) ≡ open_of running (if late then None else Some w)
open-if true running w = refl
open-if false running w = refl

open-still : (k : ℕ) (running : Option ℕ) (ticks : ℕ) (w : Option Waiting) → open_at_end k running ticks w ≡ open_of running (still k running ticks w)
open-still k running ticks None = refl
open-still k running ticks (Some w) = open-if (answered_late k running ticks w running) running w

-- the message that is awaited, else the burst that runs
pub open-channel : (k : ℕ) (c : Channel) (past : List Pair) →
    open_on k c past ≡ open_of (running_on k (on_channel c past)) (awaited k (on_channel c past))
unfolding awaited
open-channel k c past =
    let running : Option ℕ = running_on k (on_channel c past) in
    open-after k running (length past) None (bursts_on k c past)
    ∙ ap (λ bs. open_at_end k running (length past) (waits_all k None bs)) (bursts-channel k c past)
    ∙ ap (λ w. open_at_end k running (length past) w) (sym (waiting-ended k (on_channel c past)))
    ∙ ap (λ n. open_at_end k running n (waiting k (on_channel c past))) (sym (length-on_channel c past))
    ∙ open-still k running (length (on_channel c past)) (waiting k (on_channel c past))

-- four texts, one after the other
pub after-lines : (lines a b end : List ℕ) → ((lines ++ a) ++ b) ++ end ≡ lines ++ ((a ++ b) ++ end)
after-lines lines a b end = ap (λ xs. xs ++ end) (append_assoc lines a b) ∙ append_assoc lines (a ++ b) end
