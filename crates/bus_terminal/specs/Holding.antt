-- For which hearings the parts of a terminal stand.
use Rattle.std.specs.Prelude.{◌≡◌, ℕ, Bool, false, ◌&&◌, List, ◌∷◌, Option, Some, None}
use Rattle.bus_base.specs.Samples.{same_channel}
use Rattle.bus_base.specs.declared.samples.Channel.{Channel}
use Rattle.bus_base.specs.declared.samples.Channel.TheVariants.{A, B}
use Rattle.bus_base.specs.declared.samples.Pair.{Pair}
use Rattle.bus_receiver.specs.Cuts.{cuts_now}
use Rattle.bus_receiver.specs.declared.cutters.Cuts.{Cuts}
use Rattle.bus_formats.specs.Plans.{TerminalData}
use Rattle.bus_ears.specs.Ears.{EarStands, IsHeard, heard_of}
use Rattle.bus_ears.specs.declared.ear.TheConstants.{MOST_SLOTS}
use Rattle.bus_model.specs.Hearing.{Moment, heard_on}
use Rattle.bus_model.specs.Standing.{Standing, ignored_from, outrun}
use Rattle.bus_model.specs.Terminal.{begins}
use Rattle.bus_terminal.specs.declared.common.BothHeard.{BothHeard}
use Rattle.bus_terminal.specs.declared.common.Ears.{Ears}
use Rattle.bus_terminal.specs.declared.common.Listened.{Listened}

-- this became known of both channels with the newest tick, before which a terminal heard those
abbrev pub AreCuts : ℕ → Cuts → Pair → List Moment → Type 0
AreCuts k cuts heard past = cuts ≡ cuts_now k (heard.a ∷ heard_on A past) (heard.b ∷ heard_on B past)

abbrev pub begins_on : Option Channel → Channel → Bool
begins_on None c = false
begins_on (Some begun) c = same_channel begun c

-- both ears stand for what was heard, with the marks of what stands
pub record EarsStand (k own : ℕ) (ears : Ears) (past : List Moment) (s : Standing) : Type 0 where
  pub on_a : EarStands k MOST_SLOTS own ears.a (heard_on A past) s.sent.a s.addressed.a
  pub on_b : EarStands k MOST_SLOTS own ears.b (heard_on B past) s.sent.b s.addressed.b

-- the channel on which an answer begins in the tick to come
abbrev pub Listens : ℕ → TerminalData → Option Channel → List Moment → Standing → Type 0
Listens k terminal begun past s = (c : Channel) → begins_on begun c ≡ (begins k terminal past s && same_channel s.channel c)

-- what both ears told, with the bursts that they keep
abbrev pub listened_of : Ears → BothHeard → Listened
listened_of ears both = record { a = heard_of ears.a both.a; b = heard_of ears.b both.b; a_outrun = both.a_outrun; b_outrun = both.b_outrun }

-- what the ears told of the newest tick, where s stood before it
pub record AreListened (k own : ℕ) (told : Listened) (heard past : List Moment) (s : Standing) : Type 0 where
  pub heard_a : IsHeard k MOST_SLOTS own told.a (heard_on A heard) (ignored_from k (heard_on A past) s.sent.a)
  pub heard_b : IsHeard k MOST_SLOTS own told.b (heard_on B heard) (ignored_from k (heard_on B past) s.sent.b)
  pub outrun_a : told.a_outrun ≡ outrun s A
  pub outrun_b : told.b_outrun ≡ outrun s B
