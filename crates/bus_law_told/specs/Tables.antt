-- What a message of the table is, piece by piece, and what of it depends on the answers that are shown. Of messages that no answer runs on beside, that
-- aren't abandoned, and that give no control away.
use Rattle.std.specs.Prelude.{◌≡◌, ◌⊎◌, ⊤, ℕ, Bool, ◌+◌, ◌≤◌, false, List, [], ◌∷◌, ◌++◌, map, Option, Some, None, option_to_list}
use Rattle.bus_base.specs.declared.samples.Channel.{Channel}
use Rattle.bus_base.specs.declared.samples.Part.TheVariants.{Command, First, Second}
use Rattle.bus_formats.specs.Forms.{answers_of}
use Rattle.bus_formats.specs.Plans.{ItemData}
use Rattle.bus_formats.specs.Readings.{read_answer}
use Rattle.bus_formats.specs.Times.{no_response}
use Rattle.bus_formats.specs.declared.fault.Fault.{Fault}
use Rattle.bus_formats.specs.declared.fault.Hit.{Hit}
use Rattle.bus_formats.specs.declared.form.Outcome.{Outcome}
use Rattle.bus_formats.specs.declared.form.Outcome.TheVariants.{Clear, Sent, Declined, Illegal, NoResponse}
use Rattle.bus_formats.specs.declared.form.Reading.TheVariants.{Good, Ends}
use Rattle.bus_formats.specs.declared.form.Shape.{Shape}
use Rattle.bus_formats.specs.declared.plan.Kind.{Kind}
use Rattle.bus_model.specs.Attempts.{Ended, without_words, is_offer, kept_words}
use Rattle.bus_model.specs.Endings.{abandoned_at}
use Rattle.bus_model.specs.Memory.{TimedLoad}
use Rattle.bus_model.specs.Message.{Present, After, Delivered, Message, message, command_burst, after_command, after_answer, after_silence, answer_to, blocks_taken}
use Rattle.bus_model.specs.Strikes.{hits_on, struck, ShownBurst, burst_end, Answer, ShownAnswer, shown_answer}
use Rattle.bus_law_phases.specs.Answers.{IsStatusWithData}

-- a message ended so in this tick, control stayed, and no answer runs on; it left these stations, delivered these blocks and showed these bursts
pub record MessageIs (m : Message) (ended : Ended) (tick : ℕ) (afters : List After) (blocks : List Delivered) (bursts : List ShownBurst) : Type 0 where
  pub ended_is : m.ending.ended ≡ ended
  pub tick_is : m.ending.tick ≡ tick
  pub passes : m.ending.passes ≡ None
  pub runs_on : m.ending.runs_on ≡ None
  pub stations : m.stations ≡ map (λ after. after.station) afters
  pub blocks_are : m.deliveries ≡ blocks
  pub bursts_are : m.bursts ≡ bursts

-- ---- how an answer ends it

-- an offer of control ends so where it is refused (dynamic bus control, MIL-STD-1553B 4.3.3.5.1.7.1)
abbrev pub IsRefusal : Outcome → Type 0
IsRefusal (Illegal part) = ⊤
IsRefusal Declined = ⊤
IsRefusal _ = ⊥

-- a message ends so with its first answer, and control stays: it offers none, or the offer is refused
abbrev pub EndsAtOnce : Kind → Outcome → Type 0
EndsAtOnce kind outcome = (is_offer kind ≡ false) ⊎ IsRefusal outcome

-- ---- a message by what is shown of it

module _ (k : ℕ) (loads : List TimedLoad) (faults : List Fault) (attempt : ℕ) (item : ItemData) (channel : Channel) (start : ℕ)
    (stations : List Present) where
  -- its command as it is shown, and the stations after it
  abbrev pub command_shown : ShownBurst
  command_shown = command_burst channel start (hits_on faults attempt Command) item

  abbrev pub ordered : List After
  ordered = map (after_command k loads command_shown) stations

  -- the first answer as it is shown, the stations after it, and the second answer
  abbrev pub first_shown : Option ShownAnswer
  first_shown = shown_answer (hits_on faults attempt First) (answer_to command_shown ordered)

  abbrev pub settled : ShownAnswer → List After
  settled first = map (after_answer k loads first.burst) ordered

  abbrev pub second_shown : ShownAnswer → Option ShownAnswer
  second_shown first = shown_answer (hits_on faults attempt Second) (answer_to first.burst (settled first))

  -- the blocks that are taken of the command, and those of both bursts
  abbrev pub command_blocks : List Delivered
  command_blocks = blocks_taken k loads command_shown ordered

  abbrev pub answer_blocks : ShownAnswer → List Delivered
  answer_blocks first = command_blocks ++ blocks_taken k loads first.burst (settled first)

  -- the message isn't abandoned while this first answer is sent
  abbrev pub IsHeardOut : ShownAnswer → Type 0
  IsHeardOut first = abandoned_at k item.kind item.abandon (burst_end command_shown) first ≡ None

  abbrev pub this_message : Message
  this_message = message k loads faults attempt item None channel start stations

  -- after its first answer it is this
  abbrev pub AnsweredIs : ShownAnswer → Ended → ℕ → List ShownBurst → Type 0
  AnsweredIs first ended tick bursts =
      MessageIs this_message ended tick (settled first) (answer_blocks first) (command_shown ∷ (first.burst ∷ bursts))

  -- the message is what its answers make of it
  pub record IsToldByAnswers : Type 0 where
    -- no answer is expected: it was sent
    pub sent : (answers_of item.kind).first ≡ None →
        MessageIs this_message (without_words Sent None None) (burst_end command_shown + k) ordered command_blocks (command_shown ∷ [])
    -- nothing is shown of the first one
    pub silent : (shape : Shape) → (answers_of item.kind).first ≡ Some shape → first_shown ≡ None →
        MessageIs this_message (without_words (NoResponse First) None None) (burst_end command_shown + no_response)
        (map (after_silence k loads command_shown) ordered) command_blocks (command_shown ∷ [])
    -- the first one ends it
    pub ends : (shape : Shape) (first : ShownAnswer) (outcome : Outcome) (status : Option ℕ) → (answers_of item.kind).first ≡ Some shape →
        first_shown ≡ Some first → IsHeardOut first → EndsAtOnce item.kind outcome →
        read_answer item.kind First first.burst.slots first.burst.rest ≡ Ends outcome status →
        AnsweredIs first (without_words outcome status None) (burst_end first.burst + k)
        (map (λ a. a.burst) (option_to_list (second_shown first)))
    -- the first one is good, and the last: nothing is shown of a second one
    pub clear : (shape : Shape) (first : ShownAnswer) (status : ℕ) → (answers_of item.kind).first ≡ Some shape → first_shown ≡ Some first →
        IsHeardOut first → read_answer item.kind First first.burst.slots first.burst.rest ≡ Good status → (answers_of item.kind).second ≡ None →
        (second_shown first ≡ None)
        × AnsweredIs first (record (without_words Clear (Some status) None) { words = kept_words item.kind first.burst.slots })
        (burst_end first.burst + k) []
    -- the first one is good, and nothing is shown of the second one
    pub silent_second : (shape other : Shape) (first : ShownAnswer) (status : ℕ) → (answers_of item.kind).first ≡ Some shape →
        first_shown ≡ Some first → IsHeardOut first → read_answer item.kind First first.burst.slots first.burst.rest ≡ Good status →
        (answers_of item.kind).second ≡ Some other → second_shown first ≡ None →
        AnsweredIs first (without_words (NoResponse Second) (Some status) None) (burst_end first.burst + no_response) []
    -- both are good
    pub clear_second : (shape other : Shape) (first second : ShownAnswer) (status later : ℕ) → (answers_of item.kind).first ≡ Some shape →
        first_shown ≡ Some first → IsHeardOut first → read_answer item.kind First first.burst.slots first.burst.rest ≡ Good status →
        (answers_of item.kind).second ≡ Some other → second_shown first ≡ Some second →
        read_answer item.kind Second second.burst.slots second.burst.rest ≡ Good later →
        AnsweredIs first (without_words Clear (Some status) (Some later)) (burst_end second.burst + k) (second.burst ∷ [])
    -- the first one is good, and the second one ends it
    pub ends_second : (shape other : Shape) (first second : ShownAnswer) (status : ℕ) (outcome : Outcome) (later : Option ℕ) →
        (answers_of item.kind).first ≡ Some shape → first_shown ≡ Some first → IsHeardOut first →
        read_answer item.kind First first.burst.slots first.burst.rest ≡ Good status → (answers_of item.kind).second ≡ Some other →
        second_shown first ≡ Some second → read_answer item.kind Second second.burst.slots second.burst.rest ≡ Ends outcome later →
        AnsweredIs first (without_words outcome (Some status) later) (burst_end second.burst + k) (second.burst ∷ [])

-- ---- its answers

-- the answer to a burst is a status with data words, which accepts no control where the burst offers none; it begins on the channel of the burst, at
-- least 4 and at most 20 dead ticks after the end of that (response time, MIL-STD-1553B 4.3.3.8)
pub record IsAnswerTo (burst : ShownBurst) (offers : Bool) (answer : Answer) : Type 0 where
  pub words : IsStatusWithData answer
  pub declines : offers ≡ false → answer.acceptance ≡ false
  pub channel : answer.channel ≡ burst.channel
  pub after : burst_end burst + 4 ≤ answer.start
  pub before : answer.start ≤ burst_end burst + 20

-- .. and as it is shown, with no partial word
pub record IsShownTo (burst : ShownBurst) (offers : Bool) (shown : ShownAnswer) : Type 0 where
  pub sent : IsAnswerTo burst offers shown.sent
  pub channel : shown.burst.channel ≡ burst.channel
  pub start : shown.burst.start ≡ shown.sent.start
  pub rest : shown.burst.rest ≡ 0

-- there is an answer, but it is struck so that no word of it is shown
abbrev pub HasNoWordLeft : List Hit → Option Answer → Type 0
HasNoWordLeft hits answer = (a : Answer) × (answer ≡ Some a) × (struck hits a.words ≡ [])
