-- The station in control beside an answer: its message waits for that answer, or none runs.
use Rattle.std.specs.Prelude.{◌≡◌, ℕ, ◌+◌, ◌<◌, ◌≤◌, true, false, List, length, Some, None}
use Rattle.bus_base.specs.declared.samples.Channel.{Channel}
use Rattle.bus_base.specs.declared.samples.Pair.{Pair}
use Rattle.bus_base.specs.declared.samples.Part.{Part}
use Rattle.bus_line.specs.Past.{Burst, runs, end_of, rest_of}
use Rattle.bus_line.specs.Channels.{on_channel}
use Rattle.bus_formats.specs.Plans.{StationData}
use Rattle.bus_formats.specs.Readings.{read_answer}
use Rattle.bus_formats.specs.Times.{no_response}
use Rattle.bus_formats.specs.declared.form.Reading.{Reading}
use Rattle.bus_model.specs.Attempts.{Begun, Ended}
use Rattle.bus_model.specs.Course.{Course, close}
use Rattle.bus_model.specs.Starts.{usual}
use Rattle.bus_law_control.specs.Waiting.{StartsLater}
use Rattle.bus_law_phases.specs.Scenarios.{Scenario, course_of}

-- how the controller reads a burst as the answer in this part of its message
abbrev pub answer_read : Begun → Part → Burst → Reading
answer_read begun part burst = read_answer begun.entry.item.kind part burst.slots (rest_of burst)

module _ (w : Scenario) (past : List Pair) (holder : StationData) (c : Channel) where
  -- a station holds control, and no burst runs on a channel
  pub record HoldsInQuiet : Type 0 where
    pub holds : (course_of w holder past).holds ≡ true
    pub rests : runs w.lag (on_channel c past) ≡ false

  -- a message of it runs there, and an answer to the burst that ended in tick e counts where it begins now (no-response time-out, MIL-STD-1553B
  -- 4.3.3.9)
  pub record IsAnsweredInTime (begun : Begun) (e : ℕ) : Type 0 where
    pub at : HoldsInQuiet
    pub started : (course_of w holder past).runs ≡ Some begun
    pub channel : c ≡ begun.state.channel
    pub prompt : length past ≤ e + no_response

  -- no message of it runs, and its next one needs more quiet ticks than the lag has, and doesn't start now
  pub record StartsInQuiet (need tick : ℕ) : Type 0 where
    pub at : HoldsInQuiet
    pub idle : (course_of w holder past).runs ≡ None
    pub opens : (course_of w holder past).opening ≡ usual need tick
    pub needs : w.lag < need
    pub later : StartsLater (course_of w holder past) past

  -- its course after a message ended so, with the tick in which the end of this burst is known
  abbrev pub closed_with : Begun → Burst → Ended → Course
  closed_with begun burst ended = close (course_of w holder past) begun ended (end_of burst + w.lag)
