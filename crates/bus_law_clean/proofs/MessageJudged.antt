-- A message of the table that no fault strikes, and that is not abandoned, keeps the row of bursts in order.
use Rattle.std.proofs.Common.{◌≡◌, ◌≢◌, ℕ, ◌+◌, ◌*◌, ◌≤◌, List, [], ◌∷◌, length, map, reverse, refl, ap, sym, subst, ◌∙◌, arith}
use Rattle.std.proofs.lemmas.Bool.{true≢false}
use Rattle.std.proofs.lemmas.Option.{none-some}
use Rattle.std.specs.List.{AllByRecursion as Each}
use Rattle.std.specs.Prelude.{AllPairs, IsSome, Option, Some, None}
use Rattle.std.proofs.lemmas.List.Elements.{recursion_from_All}
use Rattle.bus_base.specs.declared.samples.Channel.{Channel}
use Rattle.bus_base.specs.declared.samples.Part.TheVariants.{First, Second}
use Rattle.bus_words.specs.declared.word.Word.{Word}
use Rattle.bus_line.specs.Channels.{WholeBurst}
use Rattle.bus_formats.specs.Accepted.{HasItemRanges, addresses_named}
use Rattle.bus_formats.specs.Forms.{form_of, command_words, answers_of}
use Rattle.bus_formats.specs.Plans.{ItemData}
use Rattle.bus_formats.specs.Readings.{read_answer}
use Rattle.bus_formats.specs.declared.form.Reading.TheVariants.{Good}
use Rattle.bus_formats.specs.declared.form.Shape.{Shape}
use Rattle.bus_model.specs.Endings.{Ending, first_read, ending_by, ending_of}
use Rattle.bus_model.specs.Memory.{TimedLoad}
use Rattle.bus_model.specs.Message.{Present, After, after_command, after_answer, answer_for, answer_to, answer_bursts, Message, message}
use Rattle.bus_model.specs.Orders.{Duty, free}
use Rattle.bus_model.specs.Run.{quiet_after}
use Rattle.bus_model.specs.Strikes.{ShownBurst, burst_end, burst_ticks, Answer, ShownAnswer}
use Rattle.bus_law_duties.specs.Duties.{AreFree}
use Rattle.bus_law_duties.specs.Words.{whole_slots}
use Rattle.bus_law_duties.proofs.OneOwes.{none-owes}
use Rattle.bus_law_duties.proofs.Owes.{free-owes}
use Rattle.bus_law_listing.specs.Listing.{burst_found}
use Rattle.bus_law_plans.specs.Bounds.{IsShort}
use Rattle.bus_law_plans.proofs.Answered.{IsShownOf, shown-of}
use Rattle.bus_law_plans.proofs.Lists.{each-weaker}
use Rattle.bus_law_plans.proofs.Messages.{told, replied, second-of, ending-is, bursts-are}
use Rattle.bus_law_plans.proofs.Superseded.{IsAbandoned, ending-abandoned}
use Rattle.bus_monitor.specs.Messages.{message_of}
use Rattle.bus_rules.specs.Breaches.{answered}
use Rattle.bus_law_judge.specs.Rows.{waits_on, IsApart, AreInOrder}
use Rattle.bus_law_clean.specs.Bursts.{word_ticks, whole_burst}
use Rattle.bus_law_clean.specs.Messages.{IsPrompt, MessageKeeps, LeavesInOrder}
use Rattle.bus_law_clean.proofs.AnswerRead.{IsDue, shown}
use Rattle.bus_law_clean.proofs.AnswersRight.{IsTimely, IsFirst, IsSecondAnswer, answer-each, owed-by, first-right, second-right}
use Rattle.bus_law_clean.proofs.CommandRead.{command-read}
use Rattle.bus_law_clean.proofs.MessageKeeps.{IsSentWell, keeps-sent, keeps-unanswered, no-second, with-second}
use Rattle.bus_law_clean.proofs.StationDue.{struck-none}

-- a terminal that owes nothing
abbrev no_duty : Duty
no_duty = free

-- ---- an answer as it is shown

found-answer : (c : Channel) (o : Option Answer) (x : ShownAnswer) → IsShownOf [] o x → x.sent.channel ≡ c →
    burst_found x.burst ≡ whole_burst c x.burst.start x.sent.words
found-answer c o x is on =
    ap (λ ch. record { channel = ch; burst = record { first = x.burst.start; ticks = 40 * length x.burst.slots + x.burst.rest; slots = x.burst.slots } }) (is.channel ∙ on)
    ∙ ap (λ s. record { channel = c; burst = record { first = x.burst.start; ticks = 40 * length s + x.burst.rest; slots = s } }) (is.slots ∙ struck-none x.sent.words)
    ∙ ap (λ r. record { channel = c; burst = record { first = x.burst.start; ticks = 40 * length (whole_slots x.sent.words) + r; slots = whole_slots x.sent.words } }) is.rest

answer-ticks : (o : Option Answer) (x : ShownAnswer) → IsShownOf [] o x → burst_ticks x.burst ≡ word_ticks x.sent.words
answer-ticks o x is =
    ap (λ s. 40 * length s + x.burst.rest) (is.slots ∙ struck-none x.sent.words) ∙ ap (λ r. 40 * length (whole_slots x.sent.words) + r) is.rest

module _ (k : ℕ) (low : k ≤ 3) (loads : List TimedLoad) (n : ℕ) (item : ItemData) (ranges : HasItemRanges item) (form : IsSome (form_of item.kind))
    (names : AllPairs (λ a b. a ≢ b) (addresses_named item.kind)) (stays : item.abandon ≡ None) (c : Channel) (start : ℕ) (stations : List Present)
    (prompt : Each IsPrompt stations) (row : List WholeBurst) (row-ok : AreInOrder k row) (apart : IsApart k row start)
    (late : answered k (waits_on k c row) start ≡ None) where
  abbrev sent : List Word
  sent = command_words item.kind

  abbrev pub this : Message
  this = message k loads [] n item None c start stations

  abbrev command : ShownBurst
  command = told k loads [] n item None c start stations

  abbrev first : Option ShownAnswer
  first = replied k loads [] n item None c start stations

  abbrev second : Option ShownAnswer → Option ShownAnswer
  second = second-of k loads [] n item None c start stations

  command-found : burst_found command ≡ whole_burst c start sent
  command-found = ap (λ s. record { channel = c; burst = record { first = start; ticks = 40 * length s + 0; slots = s } }) (struck-none sent)

  command-ticks : burst_ticks command ≡ word_ticks sent
  command-ticks = ap (λ s. 40 * length s + 0) (struck-none sent)

  command-end : burst_end command ≡ start + word_ticks sent
  command-end = ap (λ t. start + t) command-ticks

  -- what a message with these bursts and this ending leaves
  pub record IsJudged (bursts : List ShownBurst) (ending : Ending) : Type 0 where
    pub wholes : List WholeBurst
    pub are : map burst_found (reverse bursts) ≡ wholes
    pub last : ℕ
    pub begun : start ≤ last
    pub within : last ≤ quiet_after bursts
    pub keeps : MessageKeeps k row c wholes last ending

  opens-it : message_of (whole_slots sent) 0 ≡ Some item.kind
  opens-it = command-read item.kind ranges.kind form names

  module _ (short : Each IsShort (command ∷ [])) where
    sent-short : word_ticks sent ≤ 1600
    sent-short = omega (arith, short.0.ticks, command-ticks)

    -- no answer is shown
    by-none : (o : Option Shape) → (answers_of item.kind).first ≡ o → (later : Option ShownAnswer) →
        MessageKeeps k row c (whole_burst c start sent ∷ []) (start + word_ticks sent) (ending_by k item.kind None (start + word_ticks sent) None later o)
    by-none None expects later = keeps-sent k low row c start item.kind sent row-ok apart late opens-it sent-short expects None later refl
    by-none (Some shape) expects later = keeps-unanswered k low row c start item.kind sent row-ok apart late opens-it sent-short shape expects later

    judged-none : IsJudged (command ∷ []) (ending_by k item.kind None (burst_end command) None None (answers_of item.kind).first)
    judged-none = record {
      wholes = whole_burst c start sent ∷ [];
      are = ap (λ w. w ∷ []) command-found;
      last = start + word_ticks sent;
      begun = omega arith;
      within = omega (arith, command-end);
      keeps = subst (λ e. MessageKeeps k row c (whole_burst c start sent ∷ []) (start + word_ticks sent) (ending_by k item.kind None e None None (answers_of item.kind).first))
          (sym command-end) (by-none (answers_of item.kind).first refl None);
    }

    -- a first one is
    module _ (x : ShownAnswer) (is : IsShownOf [] (answer_to command (map (after_command k loads command) stations)) x) (shape : Shape)
        (expects : (answers_of item.kind).first ≡ Some shape) (short-x : burst_ticks x.burst ≤ 1600) where
      right : IsTimely (burst_end command) c x.sent × IsFirst item.kind x.sent
      right = first-right k loads c start item ranges.kind stations prompt x.sent is.sent

      well : IsSentWell item.kind First (start + word_ticks sent) x.burst.start x.sent.words
      well = record {
        early = omega (arith, right.0.early, is.start, command-end);
        soon = omega (arith, right.0.soon, is.start, command-end);
        due = right.1.due;
        short = omega (arith, answer-ticks _ x is, short-x);
      }

      x-end : burst_end x.burst ≡ x.burst.start + word_ticks x.sent.words
      x-end = ap (λ t. x.burst.start + t) (answer-ticks _ x is)

      x-reading : read_answer item.kind First x.burst.slots x.burst.rest ≡ read_answer item.kind First (whole_slots x.sent.words) 0
      x-reading =
          ap (λ s. read_answer item.kind First s x.burst.rest) (is.slots ∙ struck-none x.sent.words)
          ∙ ap (read_answer item.kind First (whole_slots x.sent.words)) is.rest

      judged-one : IsJudged (command ∷ x.burst ∷ []) (first_read k item.kind x None (read_answer item.kind First x.burst.slots x.burst.rest))
      judged-one = record {
        wholes = whole_burst c x.burst.start x.sent.words ∷ whole_burst c start sent ∷ [];
        are = ap (λ w. w ∷ burst_found command ∷ []) (found-answer c _ x is right.0.channel_is) ∙ ap (λ w. whole_burst c x.burst.start x.sent.words ∷ w ∷ []) command-found;
        last = x.burst.start + word_ticks x.sent.words;
        begun = omega (arith, well.early);
        within = omega (arith, x-end);
        keeps = subst (λ r. MessageKeeps k row c (whole_burst c x.burst.start x.sent.words ∷ whole_burst c start sent ∷ []) (x.burst.start + word_ticks x.sent.words)
            (first_read k item.kind x None r)) (sym x-reading)
            (no-second k low row c start item.kind sent row-ok apart late opens-it sent-short shape expects x.burst.start x.sent.words well x x-end
            (read_answer item.kind First (whole_slots x.sent.words) 0) refl (answers_of item.kind).second refl);
      }

      -- and a second one
      module _ (y : ShownAnswer) (two : IsShownOf [] (answer_to x.burst (map (after_answer k loads x.burst) (map (after_command k loads command) stations))) y)
          (short-y : burst_ticks y.burst ≤ 1600) where
        slots-are : x.burst.slots ≡ shown right.1.number right.1.data_words
        slots-are = is.slots ∙ struck-none x.sent.words ∙ ap whole_slots right.1.words_are

        due-x : IsDue (read_answer item.kind First (shown right.1.number right.1.data_words) 0)
        due-x = subst (λ ws. IsDue (read_answer item.kind First (whole_slots ws) 0)) right.1.words_are right.1.due

        later : IsSecondAnswer k loads c start item ranges.kind x.burst (is.channel ∙ right.0.channel_is) right.1.number right.1.data_words slots-are is.rest due-x y.sent
        later = second-right k loads c start item ranges.kind x.burst (is.channel ∙ right.0.channel_is) right.1.number right.1.data_words slots-are is.rest due-x
            stations prompt y.sent two.sent

        on-y : y.sent.channel ≡ c
        on-y = later.timely.channel_is ∙ is.channel ∙ right.0.channel_is

        y-end : burst_end y.burst ≡ y.burst.start + word_ticks y.sent.words
        y-end = ap (λ t. y.burst.start + t) (answer-ticks _ y two)

        well-y : IsSentWell item.kind Second (x.burst.start + word_ticks x.sent.words) y.burst.start y.sent.words
        well-y = record {
          early = omega (arith, later.timely.early, two.start, x-end);
          soon = omega (arith, later.timely.soon, two.start, x-end);
          due = subst (λ ws. IsDue (read_answer item.kind Second (whole_slots ws) 0)) (sym later.words_are) later.is.due;
          short = omega (arith, answer-ticks _ y two, short-y);
        }

        good : read_answer item.kind First (whole_slots x.sent.words) 0 ≡ Good later.is.status
        good = ap (λ ws. read_answer item.kind First (whole_slots ws) 0) right.1.words_are ∙ later.is.good

        judged-two : IsJudged (command ∷ x.burst ∷ y.burst ∷ []) (first_read k item.kind x (Some y) (read_answer item.kind First x.burst.slots x.burst.rest))
        judged-two = record {
          wholes = whole_burst c y.burst.start y.sent.words ∷ whole_burst c x.burst.start x.sent.words ∷ whole_burst c start sent ∷ [];
          are = ap (λ w. w ∷ burst_found x.burst ∷ burst_found command ∷ []) (found-answer c _ y two on-y)
              ∙ ap (λ w. whole_burst c y.burst.start y.sent.words ∷ w ∷ burst_found command ∷ []) (found-answer c _ x is right.0.channel_is)
              ∙ ap (λ w. whole_burst c y.burst.start y.sent.words ∷ whole_burst c x.burst.start x.sent.words ∷ w ∷ []) command-found;
          last = y.burst.start + word_ticks y.sent.words;
          begun = omega (arith, well.early, well-y.early);
          within = omega (arith, y-end);
          keeps = subst (λ r. MessageKeeps k row c (whole_burst c y.burst.start y.sent.words ∷ whole_burst c x.burst.start x.sent.words ∷ whole_burst c start sent ∷ [])
              (y.burst.start + word_ticks y.sent.words) (first_read k item.kind x (Some y) r)) (sym (x-reading ∙ good))
              (with-second k low row c start item.kind sent row-ok apart late opens-it sent-short shape expects x.burst.start x.sent.words well x x-end
              later.is.status good later.is.shape later.is.awaited y.burst.start y.sent.words well-y y);
        }

  -- ---- the whole message

  ending-so : this.ending ≡ ending_by k item.kind None (burst_end command) first (second first) (answers_of item.kind).first
  ending-so =
      ending-is k loads [] n item None c start stations
      ∙ ap (λ a. ending_by k item.kind a (burst_end command) first (second first) (answers_of item.kind).first) stays

  by-runs : (o : Option ShownAnswer) → this.ending.runs_on ≡ o → o ≡ None
  by-runs None is = refl
  by-runs (Some old) is =
      let by : IsAbandoned item.abandon first (ending_of k item (burst_end command) first (second first)) old =
      ending-abandoned k item (burst_end command) first (second first) old (sym (ap (λ (e : Ending). e.runs_on) (ending-is k loads [] n item None c start stations)) ∙ is) in
      let some : IsSome {T = ℕ} None = subst (λ (o : Option ℕ). IsSome o) stays by.may in
      absurd (true≢false (sym some))

  bursts-so : this.bursts ≡ command ∷ answer_bursts None first (second first)
  bursts-so =
      bursts-are k loads [] n item None c start stations
      ∙ ap (λ o. command ∷ answer_bursts o first (second first)) (by-runs this.ending.runs_on refl)

  -- where no answer is expected none comes
  none-expected : (answers_of item.kind).first ≡ None → (x : ShownAnswer) → first ≡ Some x → ⊥
  none-expected none x is =
      let afters : List After = map (after_command k loads command) stations in
      let rest-all : AreFree afters = none-owes k loads c start [] item stations ranges.kind none in
      answer-each (λ a. ⊥) command afters
      (each-weaker (λ (after : After). after.duty ≡ no_duty) (λ after. (b : Answer) → answer_for command after after.duty ≡ Some b → ⊥)
      (λ after rests b owes-it. (let o = owed-by command after after.duty b owes-it in free-owes b.words o.acceptance (sym rests ∙ o.duty_is)))
      afters (recursion_from_All (λ (after : After). after.duty ≡ no_duty) afters rest-all))
      x.sent (shown-of [] (answer_to command afters) x is).sent

  by-second : (x : ShownAnswer) → first ≡ Some x → (two : Option ShownAnswer) → second (Some x) ≡ two → (shape : Shape) → (answers_of item.kind).first ≡ Some shape →
      Each IsShort (command ∷ answer_bursts None (Some x) two) →
      IsJudged (command ∷ answer_bursts None (Some x) two) (first_read k item.kind x two (read_answer item.kind First x.burst.slots x.burst.rest))
  by-second x is None none shape expects short =
      judged-one (short.0, tt) x (shown-of [] (answer_to command (map (after_command k loads command) stations)) x is) shape expects short.1.0.ticks
  by-second x is (Some y) some shape expects short =
      judged-two (short.0, tt) x (shown-of [] (answer_to command (map (after_command k loads command) stations)) x is) shape expects short.1.0.ticks
      y (shown-of [] (answer_to x.burst (map (after_answer k loads x.burst) (map (after_command k loads command) stations))) y some) short.1.1.0.ticks

  by-shape : (x : ShownAnswer) → first ≡ Some x → (two : Option ShownAnswer) → second (Some x) ≡ two → (o : Option Shape) → (answers_of item.kind).first ≡ o →
      Each IsShort (command ∷ answer_bursts None (Some x) two) →
      IsJudged (command ∷ answer_bursts None (Some x) two) (ending_by k item.kind None (burst_end command) (Some x) two o)
  by-shape x is two later None expects short = absurd (none-expected expects x is)
  by-shape x is two later (Some shape) expects short = by-second x is two later shape expects short

  by-answers : (one two : Option ShownAnswer) → first ≡ one → second one ≡ two → Each IsShort (command ∷ answer_bursts None one two) →
      IsJudged (command ∷ answer_bursts None one two) (ending_by k item.kind None (burst_end command) one two (answers_of item.kind).first)
  by-answers None None is later short = judged-none (short.0, tt)
  by-answers None (Some y) is later short = absurd (none-some y later)
  by-answers (Some x) two is later short = by-shape x is two later (answers_of item.kind).first refl short

  -- a message keeps the row in order
  pub message-judged : Each IsShort this.bursts → IsJudged this.bursts this.ending
  message-judged short =
      subst (λ bs. IsJudged bs this.ending) (sym bursts-so)
      (subst (IsJudged (command ∷ answer_bursts None first (second first))) (sym ending-so)
      (by-answers first (second first) refl refl (subst (Each IsShort) bursts-so short)))

  pub leaves-in-order : Each IsShort this.bursts → LeavesInOrder k row c start this
  leaves-in-order short =
      let j = message-judged short in
      record { wholes = j.wholes; are = j.are; last = j.last; begun = j.begun; within = j.within; keeps = j.keeps }
