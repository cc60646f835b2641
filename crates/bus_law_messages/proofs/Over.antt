-- A command whose end is known: what the world showed of it, and what all stations made of it.
use Rattle.std.proofs.Common.{◌≡◌, ◌≢◌, ℕ, suc, ◌+◌, ◌*◌, ◌<◌, true, List, ◌∷◌, ◌++◌, length, Some, sym, ap, ◌∙◌, subst, arith, length-append}
use Rattle.std.specs.Prelude.{slice_get}
use Rattle.bus_base.specs.declared.samples.Channel.{Channel}
use Rattle.bus_base.specs.declared.samples.Drive.{Drive}
use Rattle.bus_base.specs.declared.samples.Pair.{Pair}
use Rattle.bus_base.specs.declared.samples.Part.TheVariants.{Command}
use Rattle.bus_words.specs.declared.word.Word.{Word}
use Rattle.bus_line.specs.Past.{quiet_ticks, ended_now}
use Rattle.bus_line.specs.Channels.{on_channel}
use Rattle.bus_line.proofs.ChannelLaws.{length-on, on-append}
use Rattle.bus_formats.specs.Forms.{command_words}
use Rattle.bus_formats.specs.Plans.{StationData, PlanData}
use Rattle.bus_formats.specs.declared.fault.Hit.{Hit}
use Rattle.bus_formats.specs.declared.plan.Kind.{Kind}
use Rattle.bus_formats.specs.declared.plan.Kind.TheVariants.{Receive, Transmit, Relay, Mode}
use Rattle.bus_model.specs.Memory.{TimedLoad}
use Rattle.bus_model.specs.Starts.{Entry, starts}
use Rattle.bus_model.specs.Strikes.{added_by}
use Rattle.bus_model.specs.Attempts.{Begun}
use Rattle.bus_model.specs.Control.{OutsideTake, course_after}
use Rattle.bus_model.specs.World.{Trace, trace, is_present}
use Rattle.bus_law_stations.specs.Messages.{BeginsMessage, message_begun}
use Rattle.bus_law_messages.specs.Settled.{Settled, NoneTakes}
use Rattle.bus_law_messages.specs.Commands.{command_sender, LeavesWhole, WordsEnd}
use Rattle.bus_law_messages.specs.Ends.{burst_sent, SentCommand, HeardCommand, CommandOver}
use Rattle.bus_law_messages.proofs.Sending.{own-drives, others-silent, none-takes-from, shown-long}
use Rattle.bus_law_messages.proofs.Running.{RunsAlone, words-over}
use Rattle.bus_law_messages.proofs.Heard.{burst-of}
use Rattle.bus_law_messages.proofs.HeardBursts.{heard-command}
use Rattle.bus_law_messages.proofs.Closing.{sent-command}

-- a command has words
pub some-words : (kind : Kind) → 0 < length (command_words kind)
some-words (Receive to sub words) = omega arith
some-words (Transmit from sub count) = omega arith
some-words (Relay from from_sub to to_sub count) = omega arith
some-words (Mode to mode_sub transmit code word) = omega arith

module _ (k : ℕ) (plan : PlanData) (loads : List TimedLoad) (outside : List OutsideTake) (absent : List ℕ) (before : Trace) (place t : ℕ)
    (holder : StationData) (entry : Entry) (hits : List Hit) (long : length before.shown ≡ t) (small : k < 24)
    (settled : Settled k plan loads outside absent before place holder)
    (begins : BeginsMessage (course_after k holder (starts plan holder) loads outside before.shown) before.shown entry)
    (whole : LeavesWhole plan.faults Command before.driven hits (command_words entry.item.kind)) (added : added_by hits ≡ 0)
    (stays : NoneTakes k plan loads outside place t (t + (40 * length (command_words entry.item.kind) + suc k))) where
  abbrev begun : Begun
  begun = message_begun (course_after k holder (starts plan holder) loads outside before.shown) entry t

  abbrev words : List Word
  words = command_words entry.item.kind

  abbrev c : Channel
  c = begun.state.channel

  abbrev Ends : List Pair → List (List Drive) → List (List Drive) → Type 0
  Ends ticks sent silent =
      WordsEnd k plan loads outside absent before (command_sender place begun) hits (40 * length words + suc k) (suc k) ticks sent silent

  below : k < 40
  below = omega (arith, small)

  -- its burst ends on the channel
  channel-ends : (x : Pair) (ticks : List Pair) (sent silent : List (List Drive)) → Ends (x ∷ ticks) sent silent →
      ended_now k (on_channel c (x ∷ (ticks ++ before.shown))) ≡ Some (burst_sent (length before.shown) hits words)
  channel-ends x ticks sent silent so =
      ap (ended_now k) (on-append c (x ∷ ticks) before.shown)
      ∙ ap (λ xs. ended_now k (xs ++ on_channel c before.shown)) so.shown
      ∙ burst-of k hits words (on_channel c before.shown) (settled.rests c) whole.heard (some-words entry.item.kind)
      ∙ ap (λ n. Some (burst_sent n hits words)) (length-on c before.shown)

  sent-it : (x : Pair) (ticks : List Pair) (sent silent : List (List Drive)) → Ends (x ∷ ticks) sent silent → RunsAlone k c ticks →
      SentCommand k holder (starts plan holder) loads outside before.shown (x ∷ ticks) begun (burst_sent t hits words)
  sent-it x ticks sent silent so runs =
      let count : length (ticks ++ before.shown) ≡ length ticks + length before.shown = length-append ticks before.shown in
      let at : suc (length ticks) ≡ 40 * length words + suc k = so.many in
      subst (λ m. SentCommand k holder (starts plan holder) loads outside before.shown (x ∷ ticks)
      (message_begun (course_after k holder (starts plan holder) loads outside before.shown) entry m) (burst_sent m hits words)) long
      (sent-command k holder (starts plan holder) loads outside before.shown entry settled.controls begins small x ticks
      (burst_sent (length before.shown) hits words) record { rests = settled.rests c; leg = runs.0 } (channel-ends x ticks sent silent so)
      (omega (arith, count, at)))

  heard-it : (x : Pair) (ticks : List Pair) (sent silent : List (List Drive)) → Ends (x ∷ ticks) sent silent → RunsAlone k c ticks →
      (other : ℕ) (station : StationData) → slice_get plan.stations other ≡ Some station → other ≢ place → is_present absent station ≡ true →
      HeardCommand k station (starts plan station) loads outside before.shown (x ∷ ticks) c (burst_sent t hits words)
  heard-it x ticks sent silent so runs other station there apart present =
      let at : suc (length ticks) ≡ 40 * length words + suc k = so.many in
      subst (λ m. HeardCommand k station (starts plan station) loads outside before.shown (x ∷ ticks) c (burst_sent m hits words)) long
      (heard-command k station (starts plan station) loads outside before.shown c below (settled.others other station there apart present) x ticks
      hits words (some-words entry.item.kind) whole.heard (omega (arith, at)) runs.0 so.shown (so.quiet ∙ ap quiet_ticks (sym so.many))
      (λ tick low high. stays other station there apart tick (omega (arith, low, long)) (omega (arith, high, long, at))))

  pub command-over : (ticks : List Pair) × (sent : List (List Drive)) × (silent : List (List Drive))
      × CommandOver k plan loads outside absent before place holder begun hits ticks sent silent
  command-over =
      let limit = 40 * length words + suc k in
      let here = none-takes-from k plan loads outside place t (length before.shown) limit long stays in
      let o = words-over k plan loads outside absent before (command_sender place begun) hits limit settled.undriven settled.spent whole
      (own-drives k plan loads outside absent before place holder entry limit below settled begins here)
      (others-silent k plan loads outside absent before place holder entry limit below settled begins here)
      (some-words entry.item.kind) added (omega arith) in (
        o.0 ∷ o.1,
        o.2,
        o.3,
        record { ends = o.4; controls = sent-it o.0 o.1 o.2 o.3 o.4 o.5; others = heard-it o.0 o.1 o.2 o.3 o.4 o.5 },
      )

pub over-at : (k : ℕ) (plan : PlanData) (loads : List TimedLoad) (outside : List OutsideTake) (absent : List ℕ) (t place : ℕ)
    (holder : StationData) (entry : Entry) (hits : List Hit) → k < 24 →
    let before : Trace = trace k plan loads outside absent t in
    Settled k plan loads outside absent before place holder →
    BeginsMessage (course_after k holder (starts plan holder) loads outside before.shown) before.shown entry →
    NoneTakes k plan loads outside place t (t + (40 * length (command_words entry.item.kind) + suc k)) →
    LeavesWhole plan.faults Command before.driven hits (command_words entry.item.kind) → added_by hits ≡ 0 →
    (ticks : List Pair) × (sent : List (List Drive)) × (silent : List (List Drive))
    × CommandOver k plan loads outside absent before place holder
    (message_begun (course_after k holder (starts plan holder) loads outside before.shown) entry t) hits ticks sent silent
over-at k plan loads outside absent t place holder entry hits small settled begins stays whole added =
    command-over k plan loads outside absent (trace k plan loads outside absent t) place t holder entry hits (shown-long k plan loads outside absent t)
    small settled begins whole added stays
