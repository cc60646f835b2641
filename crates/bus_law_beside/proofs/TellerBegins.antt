-- The station whose answer was abandoned, as a command begins on the other channel.
use Rattle.std.proofs.Common.{◌≡◌, ℕ, ◌-◌, ◌≤◌, Bool, true, false, List, ◌∷◌, length, refl}
use Rattle.std.specs.Prelude.{◌||◌, nat_lt, if◌then◌else◌}
use Rattle.bus_base.specs.Samples.{other_of}
use Rattle.bus_base.specs.declared.samples.Channel.{Channel}
use Rattle.bus_base.specs.declared.samples.Drive.{Drive}
use Rattle.bus_base.specs.declared.samples.Drive.TheVariants.{Silent}
use Rattle.bus_base.specs.declared.samples.Pair.{Pair}
use Rattle.bus_base.specs.declared.samples.Part.TheVariants.{First}
use Rattle.bus_base.specs.declared.samples.Sample.{Sample}
use Rattle.bus_words.specs.declared.word.Word.{Word}
use Rattle.bus_line.specs.Past.{Burst}
use Rattle.bus_formats.specs.Plans.{TerminalData, StationData}
use Rattle.bus_model.specs.Memory.{TimedLoad}
use Rattle.bus_model.specs.Hearing.{heard_on}
use Rattle.bus_model.specs.Orders.{owes, due_after}
use Rattle.bus_model.specs.Sending.{drive_sample}
use Rattle.bus_model.specs.Standing.{Standing}
use Rattle.bus_model.specs.Terminal.{given_up, is_over, drive_duty}
use Rattle.bus_model.specs.Control.{OutsideTake, hearing_after}
use Rattle.bus_law_messages.specs.Promises.{IsReplying}
use Rattle.bus_law_phases.specs.PartRuns.{RunsAlone}
use Rattle.bus_law_beside.specs.Rows.{RowEnds}

either-silent : (b : Bool) (drive : Drive) → b ≡ true → (if b then Silent else drive) ≡ Silent
either-silent b drive on = rw on refl

last-of : (a b o : Bool) → o ≡ true → ((a || b) || o) ≡ true
last-of true b o on = refl
last-of false true o on = refl
last-of false false o on = on

pub over-silent : (k : ℕ) (t : TerminalData) (past : List Sample) (s : Standing) (words : List Word) (acceptance : Bool) → is_over k t past s ≡ true →
    drive_duty k t past s (owes words acceptance) ≡ Silent
over-silent k t past s words acceptance over =
    either-silent ((nat_lt (length past) (due_after t s.end) || given_up k t past s) || is_over k t past s)
    (drive_sample s.channel s.part words (length past - due_after t s.end))
    (last-of (nat_lt (length past) (due_after t s.end)) (given_up k t past s) (is_over k t past s) over)

-- a station answers on channel c, these ticks of its answer were shown so far, the newest first, and a command begins on channel d: what it hears of the
-- answer is this row, whose burst has this end
pub record TellerBegins (k : ℕ) (station : StationData) (starts : Bool) (loads : List TimedLoad) (outside : List OutsideTake) (before : List Pair)
    (c d : Channel) (words : List Word) (o : Pair) (os : List Pair) (old_row : ℕ → Sample) (old_known : ℕ) (old_burst : Burst) : Type 0 where
  pub cd : c ≡ other_of d
  pub dc : d ≡ other_of c
  pub three : k ≡ 3
  pub prompt : 8 ≤ station.terminal.delay
  pub answers : IsReplying k station starts loads outside before c First words
  pub alone : RunsAlone k c (o ∷ os)
  pub old : RowEnds k old_row old_known old_burst (heard_on c (hearing_after k station starts loads outside before).ticks)
  pub began : old_burst.first ≡ length (heard_on c (hearing_after k station starts loads outside before).ticks)
