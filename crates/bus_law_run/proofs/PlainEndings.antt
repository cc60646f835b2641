-- A message that offers no control doesn't give it away.
use Rattle.std.proofs.Common.{◌≡◌, ℕ, ◌+◌, Bool, true, false, List, length, Option, Some, None, refl, sym, subst}
use Rattle.std.specs.Prelude.{◌&&◌, ◌==◌, if◌then◌else◌, ⊤}
use Rattle.bus_base.specs.declared.samples.Part.TheVariants.{First, Second}
use Rattle.bus_base.specs.declared.samples.Pair.{Pair}
use Rattle.bus_base.specs.declared.samples.Sample.{Sample}
use Rattle.bus_line.specs.Past.{quiet, end_since, Burst, end_of, rest_of}
use Rattle.bus_line.specs.Channels.{on_channel}
use Rattle.bus_formats.specs.Forms.{answers_of}
use Rattle.bus_formats.specs.Plans.{ItemData}
use Rattle.bus_formats.specs.Readings.{read_answer}
use Rattle.bus_formats.specs.declared.form.Shape.{Shape}
use Rattle.bus_formats.specs.declared.form.Outcome.{Outcome}
use Rattle.bus_formats.specs.declared.form.Outcome.TheVariants.{Abandoned}
use Rattle.bus_formats.specs.declared.form.Reading.{Reading}
use Rattle.bus_formats.specs.declared.form.Reading.TheVariants.{Good, Ends}
use Rattle.bus_model.specs.Attempts.{Begun, Ended, is_offer}
use Rattle.bus_model.specs.Controller.{Reply, silence, awaited, running, whole, reply, ended_so, second_read, second_ending, good_ending, read_ending, first_read, abandon_ending, first_ending, command_ending, ending_after, ending_now}
use Rattle.bus_model.specs.Course.{gives}
use Rattle.bus_law_run.proofs.KeptReadings.{reading-keeps}

-- where the message ends, control isn't given away
abbrev pub Keeps : Option Ended → Type 0
Keeps None = ⊤
Keeps (Some e) = gives e.outcome ≡ false

either-keeps : (b : Bool) (o : Option Ended) → Keeps o → Keeps (if b then o else None)
either-keeps true o keeps = keeps
either-keeps false o keeps = tt

module _ (k : ℕ) (item : ItemData) (shown : List Pair) (past : List Sample) (plain : is_offer item.kind ≡ false) where
  second-keeps : (first : ℕ) (reading : Reading) →
      ((outcome : Outcome) (status : Option ℕ) → reading ≡ Ends outcome status → gives outcome ≡ false) → Keeps (second_read k item shown past first reading)
  second-keeps first (Good second) told = refl
  second-keeps first (Ends outcome second) told = told outcome second refl

  second-ending : (first : ℕ) (answer : Reply) → Keeps (second_ending k item shown past first answer)
  second-ending first silence = refl
  second-ending first awaited = tt
  second-ending first running = tt
  second-ending first (whole burst) =
      second-keeps first (read_answer item.kind Second burst.slots (rest_of burst))
      (λ outcome status is. reading-keeps Second item.kind burst.slots (rest_of burst) outcome status plain is)

  good-ending : (status : ℕ) (burst : Burst) (second : Option Shape) → Keeps (good_ending k item shown past status burst second)
  good-ending status burst None = refl
  good-ending status burst (Some shape) = second-ending status (reply k past (end_of burst))

  read-keeps : (burst : Burst) (outcome : Outcome) (status : Option ℕ) → gives outcome ≡ false → Keeps (read_ending k item shown past burst false outcome status)
  read-keeps burst outcome status keeps = keeps

  first-keeps : (burst : Burst) (reading : Reading) →
      ((outcome : Outcome) (status : Option ℕ) → reading ≡ Ends outcome status → gives outcome ≡ false) → Keeps (first_read k item shown past burst reading)
  first-keeps burst (Good status) told = good-ending status burst (answers_of item.kind).second
  first-keeps burst (Ends outcome status) told =
      subst (λ b. Keeps (read_ending k item shown past burst b outcome status)) (sym plain) (read-keeps burst outcome status (told outcome status refl))

  abandon-keeps : (e : ℕ) (abandon : Option ℕ) → Keeps (abandon_ending k item shown past e abandon)
  abandon-keeps e None = tt
  abandon-keeps e (Some n) = either-keeps ((length past == e + n) && (quiet past == 0)) (ended_so Abandoned None None) refl

  first-ending : (e : ℕ) (answer : Reply) → Keeps (first_ending k item shown past e answer)
  first-ending e silence = refl
  first-ending e awaited = tt
  first-ending e running = abandon-keeps e item.abandon
  first-ending e (whole burst) =
      first-keeps burst (read_answer item.kind First burst.slots (rest_of burst))
      (λ outcome status is. reading-keeps First item.kind burst.slots (rest_of burst) outcome status plain is)

  command-keeps : (e : ℕ) (first : Option Shape) → Keeps (command_ending k item shown past e first)
  command-keeps e None = refl
  command-keeps e (Some shape) = first-ending e (reply k past e)

  after-keeps : (end : Option ℕ) → Keeps (ending_after k item shown past end)
  after-keeps None = tt
  after-keeps (Some e) = command-keeps e (answers_of item.kind).first

pub ending-keeps : (k : ℕ) (begun : Begun) (shown : List Pair) → is_offer begun.entry.item.kind ≡ false → Keeps (ending_now k begun shown)
ending-keeps k begun shown plain =
    after-keeps k begun.entry.item shown (on_channel begun.state.channel shown) plain (end_since k (on_channel begun.state.channel shown) begun.start)
