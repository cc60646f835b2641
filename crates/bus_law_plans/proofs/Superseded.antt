-- Where an answer is abandoned, the next message supersedes it: it starts at once on the other channel, and is one to the terminal that answers.
use Rattle.std.proofs.Common.{◌≡◌, ℕ, suc, ◌%◌, ◌≤◌, Bool, true, false, List, [], ◌∷◌, length, map, drop, Option, Some, None, refl, sym, ap, ◌∙◌, subst, arith}
use Rattle.std.proofs.lemmas.Option.{none-some}
use Rattle.std.specs.Prelude.{IfSome, IsSome, IsSomeAnd, find}
use Rattle.bus_base.specs.Samples.{other_of}
use Rattle.bus_base.specs.declared.samples.Channel.{Channel}
use Rattle.bus_base.specs.declared.samples.Part.TheVariants.{Command, First}
use Rattle.bus_formats.specs.Accepted.{HasKindRanges, IsSuperseded, HasSuperseding, Supersedes, IsAccepted}
use Rattle.bus_formats.specs.Forms.{answers_of, command_words}
use Rattle.bus_formats.specs.Plans.{ItemData, StationData, PlanData}
use Rattle.bus_formats.specs.declared.fault.Fault.{Fault}
use Rattle.bus_formats.specs.declared.form.Outcome.{Outcome}
use Rattle.bus_formats.specs.declared.form.Outcome.TheVariants.{Clear, Sent, Declined, Passed, Illegal, Busy, NoResponse, BadReply, Abandoned, Yielded}
use Rattle.bus_formats.specs.declared.form.Reading.{Reading}
use Rattle.bus_formats.specs.declared.form.Reading.TheVariants.{Good, Ends}
use Rattle.bus_formats.specs.declared.form.Shape.{Shape}
use Rattle.bus_formats.specs.declared.plan.Kind.{Kind}
use Rattle.bus_formats.specs.declared.plan.Kind.TheVariants.{Receive, Transmit, Relay, Mode}
use Rattle.bus_retry.specs.Retries.{next_of}
use Rattle.bus_retry.specs.declared.Choice.{Choice}
use Rattle.bus_retry.specs.declared.Choice.TheVariants.{Done}
use Rattle.bus_model.specs.Attempts.{Begun}
use Rattle.bus_model.specs.Endings.{Passing, Ending, second_read, second_ending, good_ending, doubt_ending, read_ending, first_read, abandoned_at, heard_ending, ending_by, ending_of}
use Rattle.bus_model.specs.Memory.{TimedLoad}
use Rattle.bus_model.specs.Message.{Present, address_of_station, Message, answer_to, after_command}
use Rattle.bus_model.specs.Run.{Run, Next, is_at, with_station, after_attempt, next_item, next_by, next_in, pass_control, with_message, next_attempt, attempt, attempts_after, first_run}
use Rattle.bus_model.specs.Starts.{Entry, retry_by, superseding, opening_after}
use Rattle.bus_model.specs.Strikes.{hits_on, struck, ShownBurst, Answer, ShownAnswer}
use Rattle.bus_law_plans.specs.Entries.{items_of, IsRunOf, SupersedesOn, IsSupersededNext, KeepsSuperseding, IsNext, IsRunAmong}
use Rattle.bus_law_plans.specs.Sent.{begun_of, message_of}
use Rattle.bus_law_plans.proofs.Answered.{IsAnswerOf, replied-by, IsShownOf, shown-of}
use Rattle.bus_law_plans.proofs.EachRun.{each-run}
use Rattle.bus_law_plans.proofs.FirstRun.{first-run}
use Rattle.bus_law_plans.proofs.Lengths.{AreShown, Sole, distinct-from, sole-of, struck-shown}
use Rattle.bus_law_plans.proofs.Lists.{each-always, drop-none}
use Rattle.bus_law_plans.proofs.Messages.{told, replied, ending-is, IsKept, message-kept}
use Rattle.bus_law_plans.proofs.Nexts.{next-of}
use Rattle.bus_law_plans.proofs.NextRun.{attempt-run}
use Rattle.bus_law_plans.proofs.NotAbandoned.{ending-abandons, opens-abandoned}
use Rattle.bus_law_plans.proofs.Orders.{single-order, address-is}
use Rattle.bus_law_plans.proofs.Singles.{own-address}
use Rattle.bus_law_plans.proofs.Stations.{found-beside, find-changed}

-- ---- an ending by which an answer runs on

-- the message is abandoned, of an item that may be so, and its first answer runs on
pub record IsAbandoned (abandon : Option ℕ) (first : Option ShownAnswer) (ending : Ending) (old : ShownAnswer) : Type 0 where
  pub may : IsSome abandon
  pub first_is : first ≡ Some old
  pub outcome : ending.ended.outcome ≡ Abandoned
  pub passes : ending.passes ≡ None

abbrev RunsOn : Option ℕ → Option ShownAnswer → Ending → Type 0
RunsOn abandon first ending = (old : ShownAnswer) → ending.runs_on ≡ Some old → IsAbandoned abandon first ending old

module _ (k : ℕ) (kind : Kind) (abandon : Option ℕ) where
  second-read : (first : Option ShownAnswer) (status end : ℕ) (reading : Reading) → RunsOn abandon first (second_read k kind status end reading)
  second-read first status end (Good second) old h = absurd (none-some old h)
  second-read first status end (Ends outcome second) old h = absurd (none-some old h)

  second-wait : (first : Option ShownAnswer) (status end : ℕ) (second : Option ShownAnswer) → RunsOn abandon first (second_ending k kind status end second)
  second-wait first status end None old h = absurd (none-some old h)
  second-wait first status end (Some second) old h = second-read first status _ _ old h

  good-on : (status : ℕ) (first : ShownAnswer) (second : Option ShownAnswer) (shape : Option Shape) →
      RunsOn abandon (Some first) (good_ending k kind status first second shape)
  good-on status first second None old h = absurd (none-some old h)
  good-on status first second (Some shape) old h = second-wait (Some first) status _ second old h

  doubt-on : (first : ShownAnswer) (acceptance : Bool) → RunsOn abandon (Some first) (doubt_ending k kind first acceptance)
  doubt-on first true old h = absurd (none-some old h)
  doubt-on first false old h = absurd (none-some old h)

  reading-on : (first : ShownAnswer) (offer : Bool) (outcome : Outcome) (status : Option ℕ) →
      RunsOn abandon (Some first) (read_ending k kind first offer outcome status)
  reading-on first offer Passed status old h = absurd (none-some old h)
  reading-on first true (BadReply part) status old h = doubt-on first first.sent.acceptance old h
  reading-on first false (BadReply part) status old h = absurd (none-some old h)
  reading-on first offer Clear status old h = absurd (none-some old h)
  reading-on first offer Sent status old h = absurd (none-some old h)
  reading-on first offer Declined status old h = absurd (none-some old h)
  reading-on first offer (Illegal part) status old h = absurd (none-some old h)
  reading-on first offer (Busy part) status old h = absurd (none-some old h)
  reading-on first offer (NoResponse part) status old h = absurd (none-some old h)
  reading-on first offer Abandoned status old h = absurd (none-some old h)
  reading-on first offer Yielded status old h = absurd (none-some old h)

  first-on : (first : ShownAnswer) (second : Option ShownAnswer) (reading : Reading) → RunsOn abandon (Some first) (first_read k kind first second reading)
  first-on first second (Good status) old h = good-on status first second _ old h
  first-on first second (Ends outcome status) old h = reading-on first _ outcome status old h

  heard-on : (first : ShownAnswer) (second : Option ShownAnswer) (tick : Option ℕ) → (IsSome tick → IsSome abandon) →
      RunsOn abandon (Some first) (heard_ending k kind first second tick)
  heard-on first second (Some tick) may old h = record { may = may refl; first_is = h; outcome = refl; passes = refl }
  heard-on first second None may old h = first-on first second _ old h

  may-abandon : (o : Option ℕ) (end : ℕ) (first : ShownAnswer) → IsSome (abandoned_at k kind o end first) → IsSome o
  may-abandon None end first h = h
  may-abandon (Some n) end first h = refl

  by-shape : (end : ℕ) (first second : Option ShownAnswer) (shape : Option Shape) → RunsOn abandon first (ending_by k kind abandon end first second shape)
  by-shape end first second None old h = absurd (none-some old h)
  by-shape end None second (Some shape) old h = absurd (none-some old h)
  by-shape end (Some first) second (Some shape) old h =
      heard-on first second (abandoned_at k kind abandon end first) (may-abandon abandon end first) old h

-- an answer runs on where its message is abandoned
pub ending-abandoned : (k : ℕ) (item : ItemData) (end : ℕ) (first second : Option ShownAnswer) (old : ShownAnswer) →
    (ending_of k item end first second).runs_on ≡ Some old → IsAbandoned item.abandon first (ending_of k item end first second) old
ending-abandoned k item end first second old h = by-shape k item.kind item.abandon end first second (answers_of item.kind).first old h

-- ---- who answers a transmit message

-- who answers a transmit message is the terminal that it names
pub transmitter-is : (k : ℕ) (loads : List TimedLoad) (faults : List Fault) (n : ℕ) (item : ItemData) (on : Option ShownAnswer) (channel : Channel) (start : ℕ)
    (stations : List Present) (from sub count : ℕ) → item.kind ≡ Transmit from sub count → HasKindRanges (Transmit from sub count) → Sole (hits_on faults n Command) →
    (old : ShownAnswer) → replied k loads faults n item on channel start stations ≡ Some old → (old.sent.address ≡ from) × (old.sent.channel ≡ channel)
transmitter-is k loads faults n item on channel start stations from sub count same ranges sole old is =
    let burst : ShownBurst = told k loads faults n item on channel start stations in
    let shown : AreShown (command_words (Transmit from sub count)) burst.slots =
    subst (λ kind. AreShown (command_words (Transmit from sub count)) (struck (hits_on faults n Command) (command_words kind))) (sym same)
    (struck-shown (hits_on faults n Command) (command_words (Transmit from sub count)) sole) in
    let low : sub ≤ 31 = omega (arith, ranges.subaddress) in
    let of : IsShownOf (hits_on faults n First) (answer_to burst (map (after_command k loads burst) stations)) old =
    shown-of (hits_on faults n First) (answer_to burst (map (after_command k loads burst) stations)) old is in
    replied-by k loads burst (λ a. (a.address ≡ from) × (a.channel ≡ channel)) stations
    (each-always (λ s. (a : Answer) → IsAnswerOf k loads burst s a → (a.address ≡ from) × (a.channel ≡ channel))
    (λ s a by.
    let single = single-order (address_of_station s) _ [] burst.slots shown by.order by.order_is in (
      by.address ∙ own-address (address_of_station s) _ from single.own_is (address-is from sub (count % 32) true low (omega arith))
          (λ all. absurd (omega (arith, all, ranges.address))),
      by.channel,
    )) stations)
    old.sent of.sent

-- ---- the next message

done-next : (item : ItemData) (begun : Begun) (outcome : Outcome) → outcome ≡ Abandoned → next_of item begun.state outcome ≡ Done
done-next item begun outcome is = ap (next_of item begun.state) is

opens-on : (channel : Channel) (tick : ℕ) (outcome : Outcome) → outcome ≡ Abandoned → SupersedesOn (other_of channel) (opening_after outcome channel tick)
opens-on channel tick outcome is = subst (λ o. SupersedesOn (other_of channel) (opening_after o channel tick)) (sym is) refl

-- an item that may be abandoned is a transmit message, which the next item supersedes
record Follows (kind : Kind) (later : List Entry) : Type 0 where
  from : ℕ
  sub : ℕ
  count : ℕ
  kind_is : kind ≡ Transmit from sub count
  next : Entry
  others : List Entry
  later_is : later ≡ next ∷ others
  supersedes : Supersedes from next.item.kind

follows : (kind : Kind) (later : List Entry) → IsSuperseded kind (items_of later) → Follows kind later
follows (Receive to sub words) later h = absurd h
follows (Relay from from_sub to to_sub count) later h = absurd h
follows (Mode to mode_sub transmit code word) later h = absurd h
follows (Transmit from sub count) [] h = absurd h
follows (Transmit from sub count) (next ∷ others) h =
    record { from = from; sub = sub; count = count; kind_is = refl; next = next; others = others; later_is = refl; supersedes = h }

next-there : (s : Present) (left : List Entry) (next : Entry) (others : List Entry) (P : Entry → Type 0) → left ≡ next ∷ others → P next →
    IsSomeAnd (next_in s left) (λ n. P n.entry)
next-there s left next others P same h = subst (λ l. IsSomeAnd (next_in s l) (λ n. P n.entry)) (sym same) h

module _ (k : ℕ) (plan : PlanData) (accepted : IsAccepted plan) (loads : List TimedLoad) (run : Run) {own : List StationData} (is : IsRunAmong plan own run) (next : Next)
    (given : next_item run ≡ Some next) where
  abbrev begun : Begun
  begun = begun_of run next

  abbrev this : Message
  this = message_of k loads plan.faults run begun

  abbrev choice : Choice
  choice = next_of begun.entry.item begun.state this.ending.ended.outcome

  abbrev rest : Run
  rest = with_message run begun choice (record this { ending = record this.ending { passes = None } })

  superseded-rest : (old : ShownAnswer) → this.ending.runs_on ≡ Some old → (this.ending.passes ≡ None) × IsSupersededNext rest old
  superseded-rest old on =
      let number : ℕ = suc (length run.attempts) in
      let here : IsNext plan run next = next-of plan run next is given in
      let ending : this.ending ≡ _ = ending-is k loads plan.faults number next.entry.item run.runs_on begun.state.channel begun.start run.stations in
      let by : IsAbandoned next.entry.item.abandon (replied k loads plan.faults number next.entry.item run.runs_on begun.state.channel begun.start run.stations) this.ending old =
      subst (λ e. IsAbandoned next.entry.item.abandon (replied k loads plan.faults number next.entry.item run.runs_on begun.state.channel begun.start run.stations) e old)
      (sym ending)
      (ending-abandoned k next.entry.item _ _ _ old (sym (ap (λ e. e.runs_on) ending) ∙ on)) in
      let rule : HasSuperseding (items_of (next.entry ∷ here.later)) = subst (λ l. HasSuperseding (items_of l)) here.left here.is.superseding in
      let after : Follows next.entry.item.kind here.later = follows next.entry.item.kind here.later (rule.0 by.may) in
      let ranges : HasKindRanges (Transmit after.from after.sub after.count) = subst HasKindRanges after.kind_is here.entry.ranges.kind in
      let sole : Sole (hits_on plan.faults number Command) = sole-of number Command plan.faults (distinct-from plan.faults accepted.faults) in
      let answering = transmitter-is k loads plan.faults number next.entry.item run.runs_on begun.state.channel begun.start run.stations after.from after.sub after.count
      after.kind_is ranges sole old by.first_is in
      let kept = found-beside IsKept (λ s t h. ap (λ (p : StationData). p.terminal.address) h.plan_is) run.holder run.stations this.stations next.station
      (message-kept k loads plan.faults number next.entry.item run.runs_on begun.state.channel begun.start run.stations) here.found in
      let done : choice ≡ Done = done-next begun.entry.item begun this.ending.ended.outcome by.outcome in
      let there : find (is_at run.holder) (with_station run.holder (after_attempt begun this.ending.ended.outcome Done) this.stations)
      ≡ Some (after_attempt begun this.ending.ended.outcome Done kept.0) =
      find-changed run.holder (after_attempt begun this.ending.ended.outcome Done) (λ s. refl) this.stations kept.0 kept.1 in
      let left : (after_attempt begun this.ending.ended.outcome Done kept.0).left ≡ after.next ∷ after.others =
      ap (drop 1) (kept.2.left_is ∙ here.left) ∙ (drop-none here.later ∙ after.later_is) in
      let supersedes : Supersedes old.sent.address after.next.item.kind = subst (λ a. Supersedes a after.next.item.kind) (sym answering.0) after.supersedes in
      let found : IsSomeAnd (next_by (find (is_at run.holder) (with_station run.holder (after_attempt begun this.ending.ended.outcome Done) this.stations)))
      (λ n. Supersedes old.sent.address n.entry.item.kind) =
      subst (λ o. IsSomeAnd (next_by o) (λ n. Supersedes old.sent.address n.entry.item.kind)) (sym there)
      (next-there (after_attempt begun this.ending.ended.outcome Done kept.0) _ after.next after.others (λ e. Supersedes old.sent.address e.item.kind) left supersedes) in (
        by.passes,
        record {
          opening = subst (λ c. SupersedesOn (other_of c) (opening_after this.ending.ended.outcome begun.state.channel this.ending.tick)) (sym answering.1)
              (opens-on begun.state.channel this.ending.tick this.ending.ended.outcome by.outcome);
          retry = ap retry_by done;
          next = subst (λ c. IsSomeAnd (next_by (find (is_at run.holder) (with_station run.holder (after_attempt begun this.ending.ended.outcome c) this.stations)))
              (λ n. Supersedes old.sent.address n.entry.item.kind)) (sym done) found;
        },
      )

  by-old : (o : Option ShownAnswer) → this.ending.runs_on ≡ o → IfSome o (λ old. IsSupersededNext rest old)
  by-old None on = tt
  by-old (Some old) on = (superseded-rest old on).1

  old-awaited : (tick : ℕ) (channel : Channel) → opening_after this.ending.ended.outcome begun.state.channel this.ending.tick ≡ superseding tick channel →
      IsSome this.ending.runs_on
  old-awaited tick channel opens =
      let number : ℕ = suc (length run.attempts) in
      let ending : this.ending ≡ _ = ending-is k loads plan.faults number next.entry.item run.runs_on begun.state.channel begun.start run.stations in
      let outcome : this.ending.ended.outcome ≡ Abandoned = opens-abandoned this.ending.ended.outcome begun.state.channel this.ending.tick tick channel opens in
      subst (λ e. IsSome e.runs_on) (sym ending) (ending-abandons k next.entry.item _ _ _ (sym (ap (λ e. e.ended.outcome) ending) ∙ outcome))

  some-old : (P : ShownAnswer → Type 0) (o : Option ShownAnswer) → ((old : ShownAnswer) → o ≡ Some old → P old) → IfSome o P
  some-old P None h = tt
  some-old P (Some old) h = h old refl

  by-passing : (passes : Option Passing) → this.ending.passes ≡ passes → KeepsSuperseding (pass_control passes rest)
  by-passing None same = record { followed = by-old this.ending.runs_on refl; awaited = old-awaited }
  by-passing (Some p) same = record {
    followed = some-old (IsSupersededNext (pass_control (Some p) rest)) this.ending.runs_on (λ old on. absurd (none-some p (sym (superseded-rest old on).0 ∙ same)));
    awaited = λ tick channel opens. cc;
  }

  -- after an attempt at the next item an answer that runs on is superseded
  pub message-superseded : KeepsSuperseding (with_message run begun choice this)
  message-superseded = by-passing this.ending.passes refl

-- an attempt keeps it so
pub attempt-superseded : (k : ℕ) (plan : PlanData) (loads : List TimedLoad) (run : Run) {own : List StationData} → IsAccepted plan → IsRunAmong plan own run → KeepsSuperseding run →
    KeepsSuperseding (attempt k loads plan.faults run)
attempt-superseded k plan loads run accepted is keeps = by-next (next_item run) refl
  where
    by-next : (next : Option Next) → next_item run ≡ next → KeepsSuperseding (next_attempt k loads plan.faults run next)
    by-next None given = keeps
    by-next (Some next) given = message-superseded k plan accepted loads run is next given

-- before the first attempt none runs on
pub first-superseded : (plan : PlanData) → KeepsSuperseding (first_run plan)
first-superseded plan = record { followed = tt; awaited = λ tick channel opens. cc }

-- so it is in each run
pub each-superseded : (k : ℕ) (plan : PlanData) (loads : List TimedLoad) (n : ℕ) → IsAccepted plan →
    KeepsSuperseding (attempts_after k loads plan.faults n (first_run plan))
each-superseded k plan loads n accepted =
    (each-run (λ run. IsRunOf plan run × KeepsSuperseding run) k loads plan.faults (first_run plan) (first-run plan accepted, first-superseded plan)
    (λ run is. (attempt-run k plan loads run accepted is.0, attempt-superseded k plan loads run accepted is.0 is.1)) n).1
