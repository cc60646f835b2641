-- A message of the table whose answer is abandoned: how it ends, and what it leaves.
use Rattle.std.proofs.Common.{◌≡◌, ℕ, false, List, [], ◌∷◌, ◌++◌, map, get_or, Option, Some, None, refl, sym, ap, ◌∙◌, subst, arith, All}
use Rattle.std.proofs.lemmas.Bool.{ne_eqb}
use Rattle.std.proofs.lemmas.List.{append-nil}
use Rattle.std.proofs.lemmas.List.Elements.{All-head, All-tail, All-map}
use Rattle.std.specs.Prelude.{◌==◌}
use Rattle.bus_base.specs.declared.samples.Channel.{Channel}
use Rattle.bus_words.specs.declared.word.Word.{Word}
use Rattle.bus_formats.specs.Accepted.{HasKindRanges, IsSuperseded}
use Rattle.bus_formats.specs.Forms.{answers_of}
use Rattle.bus_formats.specs.Plans.{ItemData}
use Rattle.bus_formats.specs.declared.fault.Fault.{Fault}
use Rattle.bus_formats.specs.declared.fault.Hit.{Hit}
use Rattle.bus_formats.specs.declared.form.Outcome.TheVariants.{Abandoned}
use Rattle.bus_formats.specs.declared.form.Shape.{Shape}
use Rattle.bus_formats.specs.declared.plan.Kind.{Kind}
use Rattle.bus_formats.specs.declared.plan.Kind.TheVariants.{Receive, Transmit, Relay, Mode}
use Rattle.bus_model.specs.Attempts.{is_offer, without_words}
use Rattle.bus_model.specs.Endings.{Ending, abandoned, abandoned_at, heard_ending, ending_by, ending_of}
use Rattle.bus_model.specs.Memory.{TimedLoad}
use Rattle.bus_model.specs.Message.{Present, After, Delivered, Message, command_burst, after_command, after_answer, blocks_taken, ended_message, message_obeyed, message}
use Rattle.bus_model.specs.Orders.{Duty, free, owes, promises}
use Rattle.bus_model.specs.Standing.{is_promise}
use Rattle.bus_model.specs.Strikes.{ShownBurst, burst_end, ShownAnswer}
use Rattle.bus_law_duties.specs.Duties.{PromisesToCommand}
use Rattle.bus_law_duties.proofs.Promised.{who-promises}
use Rattle.bus_law_duties.proofs.Settled.{others-stay}
use Rattle.bus_law_told.specs.Tables.{command_shown, ordered, first_shown, settled, second_shown, command_blocks, answer_blocks, this_message}

-- ---- which messages may be abandoned

-- a message that is answered by one terminal, to which no control is offered, and of which no terminal is promised anything
pub record IsAnsweredAlone (kind : Kind) : Type 0 where
  pub plain : is_offer kind ≡ false
  pub shape : Shape
  pub expects : (answers_of kind).first ≡ Some shape
  pub unpromised : (own command transmitter : ℕ) (slots : List (Option Word)) → PromisesToCommand kind own command transmitter slots → ⊥

-- only a transmit message is superseded, and it is such a message
pub answered-alone : (kind : Kind) (later : List ItemData) → HasKindRanges kind → IsSuperseded kind later → IsAnsweredAlone kind
answered-alone (Receive to sub words) later ranges is = absurd is
answered-alone (Transmit from sub count) [] ranges is = absurd is
answered-alone (Transmit from sub count) (next ∷ later) ranges is =
    let low = ranges.address in
    let one : (from == 31) ≡ false = ne_eqb from 31 (λ e. omega (arith, e, low)) in record {
      plain = refl;
      shape = record { address = from; count = count };
      expects = rw one refl;
      unpromised = λ own command transmitter slots never. never;
    }
answered-alone (Relay from from_sub to to_sub count) later ranges is = absurd is
answered-alone (Mode to mode_sub transmit code word) later ranges is = absurd is

-- ---- who promised nothing

abbrev pub NonePromises : List After → Type 0
NonePromises afters = All (λ a. is_promise a.duty ≡ false) afters

no-promise : (duty : Duty) → ((command transmitter : ℕ) → duty ≡ promises command transmitter → ⊥) → is_promise duty ≡ false
no-promise free none = refl
no-promise (owes words acceptance) none = refl
no-promise (promises command transmitter) none = absurd (none command transmitter refl)

pub none-promise : (k : ℕ) (loads : List TimedLoad) (channel : Channel) (start : ℕ) (hits : List Hit) (item : ItemData) (stations : List Present) →
    HasKindRanges item.kind → IsAnsweredAlone item.kind → NonePromises (map (after_command k loads (command_burst channel start hits item)) stations)
none-promise k loads channel start hits item stations ranges alone =
    All-map (λ a. is_promise a.duty ≡ false) (after_command k loads (command_burst channel start hits item)) stations
    (λ i d inside. no-promise (after_command k loads (command_burst channel start hits item) (get_or stations i d)).duty
    (λ command transmitter made.
    alone.unpromised _ command transmitter _ (who-promises k loads channel start hits item (get_or stations i d) command transmitter ranges made)))

-- an answer changes no station then, and no block of it is taken
module _ (k : ℕ) (loads : List TimedLoad) (answer : ShownBurst) where
  stations-stay : (afters : List After) → NonePromises afters → map (λ a. a.station) (map (after_answer k loads answer) afters) ≡ map (λ a. a.station) afters
  stations-stay [] none = refl
  stations-stay (after ∷ afters) none =
      ap (λ (a : After). a.station ∷ map (λ b. b.station) (map (after_answer k loads answer) afters))
      (others-stay k loads answer after (All-head (λ a. is_promise a.duty ≡ false) after afters none))
      ∙ ap (λ ss. after.station ∷ ss) (stations-stay afters (All-tail (λ a. is_promise a.duty ≡ false) after afters none))

  none-taken : (afters : List After) → NonePromises afters → blocks_taken k loads answer (map (after_answer k loads answer) afters) ≡ []
  none-taken [] none = refl
  none-taken (after ∷ afters) none =
      ap (λ (a : After). blocks_taken k loads answer (a ∷ map (after_answer k loads answer) afters))
      (others-stay k loads answer after (All-head (λ a. is_promise a.duty ≡ false) after afters none))
      ∙ none-taken afters (All-tail (λ a. is_promise a.duty ≡ false) after afters none)

-- ---- the message

-- a message ended Abandoned in this tick, and the answer runs on; it left these stations, delivered these blocks, and showed its command
pub record AbandonedIs (m : Message) (first : ShownAnswer) (tick : ℕ) (afters : List After) (blocks : List Delivered) (command : ShownBurst) : Type 0 where
  pub ended_is : m.ending.ended ≡ without_words Abandoned None None
  pub tick_is : m.ending.tick ≡ tick
  pub passes : m.ending.passes ≡ None
  pub runs_on : m.ending.runs_on ≡ Some first
  pub stations : m.stations ≡ map (λ after. after.station) afters
  pub blocks_are : m.deliveries ≡ blocks
  pub bursts_are : m.bursts ≡ command ∷ []

-- its ending, where the first answer is abandoned
ends-abandoned : (k : ℕ) (item : ItemData) (end : ℕ) (shape : Shape) (first : ShownAnswer) (second : Option ShownAnswer) (tick : ℕ) →
    (answers_of item.kind).first ≡ Some shape → abandoned_at k item.kind item.abandon end first ≡ Some tick →
    ending_of k item end (Some first) second ≡ abandoned tick first
ends-abandoned k item end shape first second tick expects is =
    ap (ending_by k item.kind item.abandon end (Some first) second) expects ∙ ap (heard_ending k item.kind first second) is

by-ending : (k : ℕ) (loads : List TimedLoad) (faults : List Fault) (attempt : ℕ) (item : ItemData) (command : ShownBurst) (blocks : List Delivered)
    (afters : List After) (first : ShownAnswer) (second : Option ShownAnswer) (tick : ℕ) (ending : Ending) → ending ≡ abandoned tick first →
    AbandonedIs (ended_message k loads faults attempt item None command blocks afters (Some first) second ending) first tick afters blocks command
by-ending k loads faults attempt item command blocks afters first second tick ending is =
    subst (λ e. AbandonedIs (ended_message k loads faults attempt item None command blocks afters (Some first) second e) first tick afters blocks command)
    (sym is) record { ended_is = refl; tick_is = refl; passes = refl; runs_on = refl; stations = refl; blocks_are = refl; bursts_are = refl }

module _ (k : ℕ) (loads : List TimedLoad) (faults : List Fault) (attempt : ℕ) (item : ItemData) (channel : Channel) (start : ℕ)
    (stations : List Present) where
  abbrev command : ShownBurst
  command = command_shown k loads faults attempt item channel start stations

  abbrev obeyed : List After
  obeyed = ordered k loads faults attempt item channel start stations

  abbrev told : Message
  told = this_message k loads faults attempt item channel start stations

  -- the message by what is shown of its first answer
  by-first : (P : Message → Type 0) (shown : Option ShownAnswer) → first_shown k loads faults attempt item channel start stations ≡ shown →
      P (message_obeyed k loads faults attempt item None command obeyed shown) → P told
  unfolding message
  by-first P shown is given = subst (λ o. P (message_obeyed k loads faults attempt item None command obeyed o)) (sym is) given

  module _ (first : ShownAnswer) (shape : Shape) (tick : ℕ) (shows : first_shown k loads faults attempt item channel start stations ≡ Some first)
      (expects : (answers_of item.kind).first ≡ Some shape)
      (is : abandoned_at k item.kind item.abandon (burst_end (command_shown k loads faults attempt item channel start stations)) first ≡ Some tick) where
    abbrev after_first : List After
    after_first = settled k loads faults attempt item channel start stations first

    abbrev taken_first : List Delivered
    taken_first = answer_blocks k loads faults attempt item channel start stations first

    settled-abandoned : AbandonedIs told first tick after_first taken_first command
    settled-abandoned =
        let second = second_shown k loads faults attempt item channel start stations first in
        by-first (λ m. AbandonedIs m first tick after_first taken_first command) (Some first) shows
        (by-ending k loads faults attempt item command taken_first after_first first second tick (ending_of k item (burst_end command) (Some first) second)
        (ends-abandoned k item (burst_end command) shape first second tick expects is))

    -- where no terminal promised anything it leaves the stations that obeyed its command
    pub abandoned-is : NonePromises (ordered k loads faults attempt item channel start stations) →
        AbandonedIs (this_message k loads faults attempt item channel start stations) first tick
        (ordered k loads faults attempt item channel start stations) (command_blocks k loads faults attempt item channel start stations)
        (command_shown k loads faults attempt item channel start stations)
    abandoned-is none = record {
      ended_is = settled-abandoned.ended_is;
      tick_is = settled-abandoned.tick_is;
      passes = settled-abandoned.passes;
      runs_on = settled-abandoned.runs_on;
      stations = settled-abandoned.stations ∙ stations-stay k loads first.burst obeyed none;
      blocks_are = settled-abandoned.blocks_are
          ∙ ap (λ bs. command_blocks k loads faults attempt item channel start stations ++ bs) (none-taken k loads first.burst obeyed none)
          ∙ append-nil (command_blocks k loads faults attempt item channel start stations);
      bursts_are = settled-abandoned.bursts_are;
    }
