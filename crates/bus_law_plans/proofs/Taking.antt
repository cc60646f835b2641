-- Whoever takes control answered an offer, and has an item left.
use Rattle.std.proofs.Common.{◌≡◌, ◌⊎◌, inl, inr, ℕ, ◌+◌, Bool, true, List, ◌∷◌, map, Option, Some, sym, ap, ◌∙◌, subst}
use Rattle.std.proofs.lemmas.Option.{none-some, same_Some}
use Rattle.std.specs.Prelude.{find}
use Rattle.std.specs.List.{AllByRecursion as Each}
use Rattle.bus_base.specs.declared.samples.Channel.{Channel}
use Rattle.bus_base.specs.declared.samples.Part.TheVariants.{First}
use Rattle.bus_words.proofs.FlagBits.{status_bits_of, flags_are}
use Rattle.bus_words.specs.Fields.{flags_in}
use Rattle.bus_words.specs.declared.word.Word.{Word}
use Rattle.bus_formats.specs.Forms.{command_word, data_word}
use Rattle.bus_formats.specs.Plans.{ItemData, TerminalData}
use Rattle.bus_formats.specs.Readings.{command_in}
use Rattle.bus_formats.specs.declared.fault.Fault.{Fault}
use Rattle.bus_formats.specs.declared.fault.Hit.{Hit}
use Rattle.bus_model.specs.Endings.{Passing}
use Rattle.bus_model.specs.Memory.{Memory, TimedLoad, status_of}
use Rattle.bus_model.specs.Message.{Present, address_of_station, message}
use Rattle.bus_model.specs.Run.{is_at}
use Rattle.bus_model.specs.Starts.{has_items}
use Rattle.bus_model.specs.Strikes.{hits_on, struck, burst_end, ShownBurst, Answer, ShownAnswer}
use Rattle.bus_formats.specs.Times.{taking_over}
use Rattle.bus_law_plans.proofs.Answered.{IsAnswer, IsAnswerOf, replied-by, IsShownOf, shown-of}
use Rattle.bus_law_plans.proofs.Lists.{each-always, each-weaker, each-map}
use Rattle.bus_law_plans.proofs.Messages.{told, replied, second-of, ending-is}
use Rattle.bus_law_plans.proofs.Passing.{Accepts, IsPassedBy, ending-passes}
use Rattle.bus_law_plans.proofs.Stations.{Apart, found-own}
use Rattle.bus_law_plans.proofs.Struck.{struck-commands, Commands}

-- ---- a status alone that accepts is one that was sent so

only-status : (status : ℕ) (words : List ℕ) → Each (λ w. (c : ℕ) → command_in (Some w) ≡ Some c → c ≡ status) (command_word status ∷ map data_word words)
only-status status words = (
  λ c is. sym (same_Some _ _ is),
  each-map (λ w. (c : ℕ) → command_in (Some w) ≡ Some c → c ≡ status) data_word words
      (each-always (λ w. (c : ℕ) → command_in (Some (data_word w)) ≡ Some c → c ≡ status) (λ w c is. absurd (none-some c is)) words),
)

-- each command in an answer as it is shown is its status
pub status-shown : (status : ℕ) (words : List ℕ) (hits : List Hit) → Commands (λ c. c ≡ status) (struck hits (command_word status ∷ map data_word words))
status-shown status words hits = struck-commands (λ c. c ≡ status) hits (command_word status ∷ map data_word words) (only-status status words)

alone : (Q : ℕ → Type 0) (slots : List (Option Word)) → Commands Q slots → (accepts : Accepts slots) → Q accepts.status
alone Q slots all accepts = (subst (Commands Q) accepts.slots_are all).0 accepts.status accepts.status_is

acceptance-sent : (terminal : TerminalData) (memory : Memory) (command : ℕ) (may acceptance : Bool) (words : List Word) (hits : List Hit) →
    IsAnswer terminal memory command may words acceptance → Accepts (struck hits words) → acceptance ≡ true
acceptance-sent terminal memory command may acceptance words hits is accepts =
    let status : ℕ = status_of terminal is.registers acceptance in
    let slots : Commands (λ c. c ≡ status) (struck hits words) =
    subst (λ ws. Commands (λ c. c ≡ status) (struck hits ws)) (sym is.words_are) (status-shown status is.words_sent hits) in
    let same : accepts.status ≡ status = alone (λ c. c ≡ status) (struck hits words) slots accepts in
    sym (ap (λ f. f.acceptance) (flags_are status _ (status_bits_of terminal.address _))) ∙ (ap (λ n. (flags_in n).acceptance) (sym same) ∙ accepts.acceptance)

-- ---- the station that answers

pub record MayTake (stations : List Present) (address : ℕ) : Type 0 where
  pub station : Present
  pub found : find (is_at address) stations ≡ Some station
  pub serves : station.serves ≡ true
  pub left : has_items station.left ≡ true

abbrev Taker : List Present → Answer → Type 0
Taker stations a = (hits : List Hit) → (a.acceptance ≡ true) ⊎ Accepts (struck hits a.words) → MayTake stations a.address

either-accepts : (acceptance : Bool) (A : Type 0) → (A → acceptance ≡ true) → (acceptance ≡ true) ⊎ A → acceptance ≡ true
either-accepts acceptance A h (inl is) = is
either-accepts acceptance A h (inr a) = h a

taker : (k : ℕ) (loads : List TimedLoad) (burst : ShownBurst) (stations : List Present) (s : Present) → find (is_at (address_of_station s)) stations ≡ Some s →
    (a : Answer) → IsAnswerOf k loads burst s a → Taker stations a
taker k loads burst stations s found a is hits accepts = record {
  station = s;
  found = ap (λ n. find (is_at n) stations) is.address ∙ found;
  serves = is.serves;
  left = is.is.accepted (either-accepts a.acceptance (Accepts (struck hits a.words)) (acceptance-sent s.plan.terminal _ is.order.command _ a.acceptance a.words hits is.is) accepts);
}

-- where a message passes control, to whom and when
pub record Taken (k : ℕ) (loads : List TimedLoad) (faults : List Fault) (n : ℕ) (item : ItemData) (on : Option ShownAnswer) (channel : Channel) (start : ℕ)
    (stations : List Present) (p : Passing) : Type 0 where
  pub may : MayTake stations p.address
  pub answer : ShownAnswer
  pub first_is : replied k loads faults n item on channel start stations ≡ Some answer
  pub tick : p.tick ≡ burst_end answer.burst + taking_over

slots-accept : (slots other : List (Option Word)) → slots ≡ other → (acceptance : Bool) → (acceptance ≡ true) ⊎ Accepts slots → (acceptance ≡ true) ⊎ Accepts other
slots-accept slots other same acceptance (inl is) = inl is
slots-accept slots other same acceptance (inr is) = inr (subst Accepts same is)

-- control passes to a station with an item left, that answered
pub taken-by : (k : ℕ) (loads : List TimedLoad) (faults : List Fault) (n : ℕ) (item : ItemData) (on : Option ShownAnswer) (channel : Channel) (start : ℕ)
    (stations : List Present) → Apart (map address_of_station stations) → (p : Passing) →
    (message k loads faults n item on channel start stations).ending.passes ≡ Some p → Taken k loads faults n item on channel start stations p
taken-by k loads faults n item on channel start stations apart p passes =
    let burst : ShownBurst = told k loads faults n item on channel start stations in
    let first : Option ShownAnswer = replied k loads faults n item on channel start stations in
    let by : IsPassedBy item.kind first p =
    ending-passes k item (burst_end burst) first (second-of k loads faults n item on channel start stations first) p
    (sym (ap (λ e. e.passes) (ending-is k loads faults n item on channel start stations)) ∙ passes) in
    let shown : IsShownOf (hits_on faults n First) _ by.answer = shown-of (hits_on faults n First) _ by.answer by.first_is in
    let may : MayTake stations by.answer.sent.address =
    replied-by k loads burst (Taker stations) stations
    (each-weaker (λ s. find (is_at (address_of_station s)) stations ≡ Some s) (λ s. (a : Answer) → IsAnswerOf k loads burst s a → Taker stations a)
    (taker k loads burst stations) stations (found-own stations apart))
    by.answer.sent shown.sent (hits_on faults n First) (slots-accept by.answer.burst.slots _ shown.slots by.answer.sent.acceptance by.accepted) in
    record {
      may = subst (MayTake stations) (sym by.address) may;
      answer = by.answer;
      first_is = by.first_is;
      tick = by.tick;
    }
