-- What a message of the table is, by what is shown of its answers.
use Rattle.std.proofs.Common.{◌≡◌, inl, inr, ℕ, ◌+◌, Bool, true, false, List, [], ◌∷◌, ◌++◌, map, Option, Some, None, refl, sym, ap, ◌∙◌, subst}
use Rattle.std.proofs.lemmas.Bool.{true≢false}
use Rattle.std.specs.Prelude.{option_to_list}
use Rattle.bus_base.specs.declared.samples.Channel.{Channel}
use Rattle.bus_base.specs.declared.samples.Part.TheVariants.{Command, First, Second}
use Rattle.bus_formats.specs.Accepted.{HasKindRanges}
use Rattle.bus_formats.specs.Forms.{answers_of}
use Rattle.bus_formats.specs.Plans.{ItemData}
use Rattle.bus_formats.specs.Readings.{read_answer}
use Rattle.bus_formats.specs.declared.fault.Fault.{Fault}
use Rattle.bus_formats.specs.declared.form.Outcome.{Outcome}
use Rattle.bus_formats.specs.declared.form.Outcome.TheVariants.{Clear, Sent, Declined, Passed, Illegal, Busy, NoResponse, BadReply, Abandoned, Yielded}
use Rattle.bus_formats.specs.declared.form.Reading.{Reading}
use Rattle.bus_formats.specs.declared.form.Reading.TheVariants.{Good, Ends}
use Rattle.bus_formats.specs.declared.form.Shape.{Shape}
use Rattle.bus_formats.specs.declared.plan.Kind.{Kind}
use Rattle.bus_model.specs.Attempts.{Ended, without_words, is_offer}
use Rattle.bus_model.specs.Course.{gives}
use Rattle.bus_model.specs.Endings.{Ending, ends, ends_so, second_read, good_ending, read_ending, first_read, abandoned_at, heard_ending, ending_by, ending_of}
use Rattle.bus_model.specs.Memory.{TimedLoad}
use Rattle.bus_model.specs.Message.{Present, After, Delivered, Message, after_silence, ended_message, message_by, message_obeyed, message}
use Rattle.bus_model.specs.Strikes.{hits_on, ShownBurst, burst_end, ShownAnswer, shown_answer}
use Rattle.bus_law_duties.specs.Duties.{AreFree}
use Rattle.bus_law_duties.proofs.OneOwes.{none-owes}
use Rattle.bus_law_duties.proofs.Settled.{none-owes-answer}
use Rattle.bus_law_told.specs.Tables.{MessageIs, IsRefusal, EndsAtOnce, command_shown, ordered, first_shown, settled, second_shown, command_blocks, answer_blocks, this_message, AnsweredIs, IsToldByAnswers}
use Rattle.bus_law_told.proofs.TablesFree.{free-unanswered, free-promise, silence-stations}
use Rattle.bus_law_told.proofs.HoldersReadings.{reading-keeps}

-- ---- how it ends

-- an answer that ends a message without an offer ends it at once
ends-once : (k : ℕ) (kind : Kind) (first : ShownAnswer) (outcome : Outcome) (status : Option ℕ) → gives outcome ≡ false →
    read_ending k kind first false outcome status ≡ ends outcome status None (burst_end first.burst + k)
ends-once k kind first Passed status keeps = absurd (true≢false keeps)
ends-once k kind first (BadReply part) status keeps = refl
ends-once k kind first outcome status keeps = refl

-- so does one that refuses an offer
refused-by : (k : ℕ) (kind : Kind) (first : ShownAnswer) (offer : Bool) (outcome : Outcome) (status : Option ℕ) → IsRefusal outcome →
    read_ending k kind first offer outcome status ≡ ends outcome status None (burst_end first.burst + k)
refused-by k kind first true (Illegal part) status is = refl
refused-by k kind first false (Illegal part) status is = refl
refused-by k kind first true Declined status is = refl
refused-by k kind first false Declined status is = refl
refused-by k kind first offer Clear status is = absurd is
refused-by k kind first offer Sent status is = absurd is
refused-by k kind first offer Passed status is = absurd is
refused-by k kind first offer (Busy part) status is = absurd is
refused-by k kind first offer (NoResponse part) status is = absurd is
refused-by k kind first offer (BadReply part) status is = absurd is
refused-by k kind first offer Abandoned status is = absurd is
refused-by k kind first offer Yielded status is = absurd is

-- where it ends it at once
at-once : (k : ℕ) (kind : Kind) (first : ShownAnswer) (outcome : Outcome) (status : Option ℕ) → EndsAtOnce kind outcome →
    read_answer kind First first.burst.slots first.burst.rest ≡ Ends outcome status →
    read_ending k kind first (is_offer kind) outcome status ≡ ends outcome status None (burst_end first.burst + k)
at-once k kind first outcome status (inl plain) reading =
    ap (λ offer. read_ending k kind first offer outcome status) plain
    ∙ ends-once k kind first outcome status (reading-keeps kind First first.burst.slots first.burst.rest outcome status plain reading)
at-once k kind first outcome status (inr refuses) reading = refused-by k kind first (is_offer kind) outcome status refuses

-- where nothing is shown of an expected answer
ends-silent : (k : ℕ) (item : ItemData) (end : ℕ) (shape : Shape) → (answers_of item.kind).first ≡ Some shape →
    ending_of k item end None None ≡ ending_by k item.kind item.abandon end None None (Some shape)
ends-silent k item end shape expected = ap (ending_by k item.kind item.abandon end None None) expected

-- where a first answer is shown, by how it is read
ends-read : (k : ℕ) (item : ItemData) (end : ℕ) (shape : Shape) (first : ShownAnswer) (second : Option ShownAnswer) (reading : Reading) →
    abandoned_at k item.kind item.abandon end first ≡ None → (answers_of item.kind).first ≡ Some shape →
    read_answer item.kind First first.burst.slots first.burst.rest ≡ reading →
    ending_of k item end (Some first) second ≡ first_read k item.kind first second reading
ends-read k item end shape first second reading stays expected is =
    ap (ending_by k item.kind item.abandon end (Some first) second) expected
    ∙ ap (heard_ending k item.kind first second) stays
    ∙ ap (first_read k item.kind first second) is

-- where it is good and a second one is shown, by how that is read
second-by : (k : ℕ) (kind : Kind) (first second : ShownAnswer) (shape : Shape) (status : ℕ) (reading : Reading) →
    (answers_of kind).second ≡ Some shape → read_answer kind Second second.burst.slots second.burst.rest ≡ reading →
    first_read k kind first (Some second) (Good status) ≡ second_read k kind status (burst_end second.burst) reading
second-by k kind first second shape status reading expected is =
    ap (good_ending k kind status first (Some second)) expected ∙ ap (second_read k kind status (burst_end second.burst)) is

-- ---- what it leaves

-- the table's message by its ending
by-ending : (k : ℕ) (loads : List TimedLoad) (faults : List Fault) (attempt : ℕ) (item : ItemData) (command : ShownBurst) (blocks : List Delivered)
    (afters : List After) (first second : Option ShownAnswer) (ended : Ended) (tick : ℕ) (ending : Ending) → ending ≡ ends_so ended tick →
    MessageIs (ended_message k loads faults attempt item None command blocks afters first second ending) ended tick afters blocks
    (command ∷ map (λ a. a.burst) (option_to_list first ++ option_to_list second))
by-ending k loads faults attempt item command blocks afters first second ended tick ending is =
    subst (λ e. MessageIs (ended_message k loads faults attempt item None command blocks afters first second e) ended tick afters blocks
    (command ∷ map (λ a. a.burst) (option_to_list first ++ option_to_list second))) (sym is)
    record { ended_is = refl; tick_is = refl; passes = refl; runs_on = refl; stations = refl; blocks_are = refl; bursts_are = refl }

-- with other stations that are the same
pub with-stations : (m : Message) (ended : Ended) (tick : ℕ) (afters others : List After) (blocks : List Delivered) (bursts : List ShownBurst) →
    map (λ (a : After). a.station) afters ≡ map (λ a. a.station) others → MessageIs m ended tick afters blocks bursts →
    MessageIs m ended tick others blocks bursts
with-stations m ended tick afters others blocks bursts same is = record {
  ended_is = is.ended_is;
  tick_is = is.tick_is;
  passes = is.passes;
  runs_on = is.runs_on;
  stations = is.stations ∙ same;
  blocks_are = is.blocks_are;
  bursts_are = is.bursts_are;
}

module _ (k : ℕ) (loads : List TimedLoad) (faults : List Fault) (attempt : ℕ) (item : ItemData) (channel : Channel) (start : ℕ)
    (stations : List Present) where
  abbrev pub command : ShownBurst
  command = command_shown k loads faults attempt item channel start stations

  abbrev pub obeyed : List After
  obeyed = ordered k loads faults attempt item channel start stations

  abbrev pub answered : Option ShownAnswer
  answered = first_shown k loads faults attempt item channel start stations

  abbrev pub settled_by : ShownAnswer → List After
  settled_by first = settled k loads faults attempt item channel start stations first

  abbrev pub answered_again : ShownAnswer → Option ShownAnswer
  answered_again first = second_shown k loads faults attempt item channel start stations first

  abbrev pub told : Message
  told = this_message k loads faults attempt item channel start stations

  abbrev pub taken : List Delivered
  taken = command_blocks k loads faults attempt item channel start stations

  abbrev pub taken_by : ShownAnswer → List Delivered
  taken_by first = answer_blocks k loads faults attempt item channel start stations first

  -- the message by what is shown of its first answer
  by-first : (P : Message → Type 0) (shown : Option ShownAnswer) → answered ≡ shown → P (message_obeyed k loads faults attempt item None command obeyed shown) →
      P told
  unfolding message
  by-first P shown is given = subst (λ o. P (message_obeyed k loads faults attempt item None command obeyed o)) (sym is) given

  -- where nothing is shown of a first answer
  silently : (ended : Ended) (tick : ℕ) → answered ≡ None → ending_of k item (burst_end command) None None ≡ ends_so ended tick →
      MessageIs told ended tick (map (after_silence k loads command) obeyed) taken (command ∷ [])
  silently ended tick none is =
      by-first (λ m. MessageIs m ended tick (map (after_silence k loads command) obeyed) taken (command ∷ [])) None none
      (by-ending k loads faults attempt item command taken (map (after_silence k loads command) obeyed) None None ended tick (ending_of k item (burst_end command) None None) is)

  -- where a first answer is shown
  shown-by : (first : ShownAnswer) (second : Option ShownAnswer) (ended : Ended) (tick : ℕ) → answered ≡ Some first → answered_again first ≡ second →
      ending_of k item (burst_end command) (Some first) second ≡ ends_so ended tick →
      AnsweredIs k loads faults attempt item channel start stations first ended tick (map (λ a. a.burst) (option_to_list second))
  shown-by first second ended tick is again ending =
      by-first (λ m. MessageIs m ended tick (settled_by first) (taken_by first) (command ∷ (first.burst ∷ map (λ a. a.burst) (option_to_list second))))
      (Some first) is
      (subst (λ o. MessageIs (message_by k loads faults attempt item None command (taken_by first) (settled_by first) (Some first) o) ended tick (settled_by first)
      (taken_by first) (command ∷ (first.burst ∷ map (λ a. a.burst) (option_to_list second)))) (sym again)
      (by-ending k loads faults attempt item command (taken_by first) (settled_by first) (Some first) second ended tick
      (ending_of k item (burst_end command) (Some first) second) ending))

  -- nothing is shown of an answer that nobody owes
  pub unanswered : AreFree obeyed → answered ≡ None
  unanswered all = ap (shown_answer (hits_on faults attempt First)) (free-unanswered command obeyed all)

  pub unanswered-again : (first : ShownAnswer) → AreFree (settled_by first) → answered_again first ≡ None
  unanswered-again first all = ap (shown_answer (hits_on faults attempt Second)) (free-unanswered first.burst (settled_by first) all)

  -- the message is what its answers make of it
  pub told-by-answers : HasKindRanges item.kind → IsToldByAnswers k loads faults attempt item channel start stations
  told-by-answers ranges = record {
    sent = λ none.
        let all : AreFree obeyed = none-owes k loads channel start (hits_on faults attempt Command) item stations ranges none in
        with-stations told _ _ (map (after_silence k loads command) obeyed) obeyed taken (command ∷ [])
        (silence-stations k loads command obeyed (free-promise obeyed all))
        (silently _ _ (unanswered all) (ap (ending_by k item.kind item.abandon (burst_end command) None None) none));
    silent = λ shape expected none. silently _ _ none (ends-silent k item (burst_end command) shape expected);
    ends = λ shape first outcome status expected is stays soon reading.
        shown-by first (answered_again first) (without_words outcome status None) (burst_end first.burst + k) is refl
        (ends-read k item (burst_end command) shape first (answered_again first) (Ends outcome status) stays expected reading
        ∙ at-once k item.kind first outcome status soon reading);
    clear = λ shape first status expected is stays reading none.
        let over : answered_again first ≡ None =
        unanswered-again first (none-owes-answer k loads channel start (hits_on faults attempt Command) item first.burst stations ranges none) in (
          over,
          shown-by first None _ _ is over
              (ends-read k item (burst_end command) shape first None (Good status) stays expected reading ∙ ap (good_ending k item.kind status first None) none),
        );
    silent_second = λ shape other first status expected is stays reading again none.
        shown-by first None _ _ is none
        (ends-read k item (burst_end command) shape first None (Good status) stays expected reading ∙ ap (good_ending k item.kind status first None) again);
    clear_second = λ shape other first second status later expected is stays reading again shown good.
        shown-by first (Some second) _ _ is shown
        (ends-read k item (burst_end command) shape first (Some second) (Good status) stays expected reading
        ∙ second-by k item.kind first second other status (Good later) again good);
    ends_second = λ shape other first second status outcome later expected is stays reading again shown ends.
        shown-by first (Some second) _ _ is shown
        (ends-read k item (burst_end command) shape first (Some second) (Good status) stays expected reading
        ∙ second-by k item.kind first second other status (Ends outcome later) again ends);
  }
