-- The answers of a message that no fault strikes, as they are shown.
use Rattle.std.proofs.Common.{◌≡◌, ℕ, ◌+◌, ◌≤◌, List, [], ◌∷◌, map, refl, ap, sym, subst, ◌∙◌, arith}
use Rattle.std.proofs.lemmas.Option.{none-some, same_Some}
use Rattle.std.specs.Option.{option_or}
use Rattle.std.specs.List.{AllByRecursion as Each}
use Rattle.std.specs.Prelude.{Bool, Option, Some, None}
use Rattle.bus_base.specs.declared.samples.Channel.{Channel}
use Rattle.bus_base.specs.declared.samples.Part.TheVariants.{First}
use Rattle.bus_formats.specs.Accepted.{HasKindRanges}
use Rattle.bus_formats.specs.Plans.{StationData, ItemData}
use Rattle.bus_formats.specs.Readings.{read_answer}
use Rattle.bus_formats.specs.declared.plan.Kind.{Kind}
use Rattle.bus_model.specs.Memory.{TimedLoad}
use Rattle.bus_model.specs.Message.{Present, address_of_station, After, after_command, after_answer, command_burst, answer_for, answer_to}
use Rattle.bus_model.specs.Orders.{Duty, free, owes, promises, due_after}
use Rattle.bus_model.specs.Strikes.{ShownBurst, burst_end, Answer}
use Rattle.bus_law_duties.specs.Words.{whole_slots, with_data}
use Rattle.bus_law_duties.proofs.Owes.{OwesTo, owes-to}
use Rattle.bus_law_duties.proofs.Stays.{command-stays, answer-stays}
use Rattle.bus_law_plans.proofs.Lists.{each-weaker, each-map}
use Rattle.bus_law_clean.specs.Messages.{IsPrompt}
use Rattle.bus_law_clean.proofs.AnswerRead.{IsDue, shown}
use Rattle.bus_law_clean.proofs.SecondDue.{IsSecond, second-due}
use Rattle.bus_law_clean.proofs.StationDue.{station-due}

-- an answer after a burst with this end: in time
pub record IsTimely (end : ℕ) (c : Channel) (a : Answer) : Type 0 where
  pub channel_is : a.channel ≡ c
  pub early : end + 4 ≤ a.start
  pub soon : a.start ≤ end + 20

-- a status with data words that is due
pub record IsFirst (kind : Kind) (a : Answer) : Type 0 where
  pub number : ℕ
  pub data_words : List ℕ
  pub words_are : a.words ≡ with_data number data_words
  pub due : IsDue (read_answer kind First (whole_slots a.words) 0)

-- what holds of each answer that may come holds of the one that does
first-or : (Q : Answer → Type 0) (burst : ShownBurst) (after : After) (later : Option Answer) (a : Answer) → (o : Option Answer) → answer_for burst after after.duty ≡ o →
    ((b : Answer) → answer_for burst after after.duty ≡ Some b → Q b) → (later ≡ Some a → Q a) → option_or o later ≡ Some a → Q a
first-or Q burst after later a None same own rest is = rest is
first-or Q burst after later a (Some b) same own rest is = own a (same ∙ is)

pub answer-each : (Q : Answer → Type 0) (burst : ShownBurst) (afters : List After) → Each (λ after. (b : Answer) → answer_for burst after after.duty ≡ Some b → Q b) afters →
    (a : Answer) → answer_to burst afters ≡ Some a → Q a
answer-each Q burst [] all a is = absurd (none-some a is)
answer-each Q burst (after ∷ afters) all a is =
    first-or Q burst after (answer_to burst afters) a (answer_for burst after after.duty) refl all.0 (answer-each Q burst afters all.1 a) is

-- an answer that is owed
pub record IsOwed (burst : ShownBurst) (s : StationData) (duty : Duty) (a : Answer) : Type 0 where
  pub acceptance : Bool
  pub duty_is : duty ≡ owes a.words acceptance
  pub channel_is : a.channel ≡ burst.channel
  pub start : a.start ≡ due_after s.terminal (burst_end burst)

pub owed-by : (burst : ShownBurst) (after : After) (duty : Duty) (a : Answer) → answer_for burst after duty ≡ Some a → IsOwed burst after.station.plan duty a
owed-by burst after free a is = absurd (none-some a is)
owed-by burst after (promises command transmitter) a is = absurd (none-some a is)
owed-by burst after (owes words acceptance) a is =
    let this : record {
      address = address_of_station after.station;
      channel = burst.channel;
      start = due_after after.station.plan.terminal (burst_end burst);
      words = words;
      acceptance = acceptance;
    } ≡ a = same_Some _ _ is in
    subst (IsOwed burst after.station.plan (owes words acceptance)) this record { acceptance = acceptance; duty_is = refl; channel_is = refl; start = refl }

timely : (burst : ShownBurst) (s : StationData) (duty : Duty) (a : Answer) → IsOwed burst s duty a → 8 ≤ s.terminal.delay → s.terminal.delay ≤ 24 →
    IsTimely (burst_end burst) burst.channel a
timely burst s duty a is least most =
    record { channel_is = is.channel_is; early = omega (arith, is.start, least, most); soon = omega (arith, is.start, least, most) }

module _ (k : ℕ) (loads : List TimedLoad) (c : Channel) (start : ℕ) (item : ItemData) (ranges : HasKindRanges item.kind) where
  abbrev told : ShownBurst
  told = command_burst c start [] item

  -- the first answer
  first-of : (s : Present) → IsPrompt s → (a : Answer) → answer_for told (after_command k loads told s) (after_command k loads told s).duty ≡ Some a →
      IsTimely (burst_end told) c a × IsFirst item.kind a
  first-of s prompt a is =
      let o = owed-by told (after_command k loads told s) (after_command k loads told s).duty a is in
      let plan : (after_command k loads told s).station.plan ≡ s.plan = ap (λ (p : Present). p.plan) (command-stays k loads told s) in
      let to : OwesTo k loads c start [] item s a.words o.acceptance = owes-to k loads c start [] item s a.words o.acceptance o.duty_is in (
        timely told (after_command k loads told s).station.plan (after_command k loads told s).duty a o
            (subst (λ (p : StationData). 8 ≤ p.terminal.delay) (sym plan) prompt.least) (subst (λ (p : StationData). p.terminal.delay ≤ 24) (sym plan) prompt.most),
        record {
          number = _;
          data_words = to.owed.data_words;
          words_are = to.owed.words_are;
          due = station-due k loads c start item s prompt.address ranges a.words o.acceptance o.duty_is;
        },
      )

  pub first-right : (stations : List Present) → Each IsPrompt stations → (a : Answer) → answer_to told (map (after_command k loads told) stations) ≡ Some a →
      IsTimely (burst_end told) c a × IsFirst item.kind a
  first-right stations prompt =
      answer-each (λ a. IsTimely (burst_end told) c a × IsFirst item.kind a) told (map (after_command k loads told) stations)
      (each-map (λ after. (b : Answer) → answer_for told after after.duty ≡ Some b → IsTimely (burst_end told) c b × IsFirst item.kind b) (after_command k loads told) stations
      (each-weaker IsPrompt _ first-of stations prompt))

  -- the second one, after a first burst with these words
  module _ (answer : ShownBurst) (channel-is : answer.channel ≡ c) (number : ℕ) (words : List ℕ) (slots-are : answer.slots ≡ shown number words) (rest-is : answer.rest ≡ 0)
      (due : IsDue (read_answer item.kind First (shown number words) 0)) where
    -- it is timely, and due
    pub record IsSecondAnswer (a : Answer) : Type 0 where
      pub timely : IsTimely (burst_end answer) answer.channel a
      pub second : ℕ
      pub words_are : a.words ≡ with_data second []
      pub is : IsSecond item.kind number words second

    abbrev settled : Present → After
    settled s = after_answer k loads answer (after_command k loads told s)

    second-of : (s : Present) → IsPrompt s → (a : Answer) → answer_for answer (settled s) (settled s).duty ≡ Some a → IsSecondAnswer a
    second-of s prompt a is =
        let o = owed-by answer (settled s) (settled s).duty a is in
        let plan : (settled s).station.plan ≡ s.plan =
        ap (λ (p : Present). p.plan) (answer-stays k loads answer (after_command k loads told s)) ∙ ap (λ (p : Present). p.plan) (command-stays k loads told s) in
        let found = second-due k loads c start item s prompt.address ranges answer number words slots-are rest-is due a.words o.acceptance o.duty_is in
        record {
          timely = timely answer (settled s).station.plan (settled s).duty a o
              (subst (λ (p : StationData). 8 ≤ p.terminal.delay) (sym plan) prompt.least) (subst (λ (p : StationData). p.terminal.delay ≤ 24) (sym plan) prompt.most);
          second = found.0;
          words_are = found.1;
          is = found.2;
        }

    pub second-right : (stations : List Present) → Each IsPrompt stations → (a : Answer) →
        answer_to answer (map (after_answer k loads answer) (map (after_command k loads told) stations)) ≡ Some a → IsSecondAnswer a
    second-right stations prompt =
        answer-each IsSecondAnswer answer (map (after_answer k loads answer) (map (after_command k loads told) stations))
        (each-map (λ after. (b : Answer) → answer_for answer after after.duty ≡ Some b → IsSecondAnswer b) (after_answer k loads answer) (map (after_command k loads told) stations)
        (each-map (λ x. (b : Answer) → answer_for answer (after_answer k loads answer x) (after_answer k loads answer x).duty ≡ Some b → IsSecondAnswer b)
        (after_command k loads told) stations (each-weaker IsPrompt _ second-of stations prompt)))
