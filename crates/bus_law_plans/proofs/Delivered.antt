-- Each message of a run delivers the block that was sent, whole.
use Rattle.std.proofs.Common.{◌≡◌, ℕ, suc, ◌+◌, true, List, [], length, map, Some, refl, sym, ap, ◌∙◌, subst}
use Rattle.std.specs.Prelude.{find, option_map, option_to_list, IsSomeAnd}
use Rattle.std.specs.List.{AllByRecursion as Each}
use Rattle.bus_base.specs.declared.samples.Part.TheVariants.{Command, First}
use Rattle.bus_formats.specs.Accepted.{HasKindRanges, IsAccepted, addresses}
use Rattle.bus_formats.specs.Forms.{command_words}
use Rattle.bus_formats.specs.Plans.{StationData, PlanData}
use Rattle.bus_formats.specs.declared.fault.Fault.{Fault}
use Rattle.bus_formats.specs.declared.plan.Kind.{Kind}
use Rattle.bus_formats.specs.declared.plan.Kind.TheVariants.{Receive, Transmit, Relay, Mode}
use Rattle.bus_model.specs.Attempts.{Begun}
use Rattle.bus_model.specs.Blocks.{sent_from, sent_block}
use Rattle.bus_model.specs.Counted.{is_counted}
use Rattle.bus_model.specs.Memory.{TimedLoad}
use Rattle.bus_model.specs.Message.{Present, address_of_station, After, Delivered, delivered, blocks_taken, after_command, after_answer, answer_to}
use Rattle.bus_model.specs.Orders.{Taken}
use Rattle.bus_model.specs.Run.{Run, Next, is_at, next_item}
use Rattle.bus_model.specs.Strikes.{hits_on, struck, ShownBurst, burst_end, Answer, ShownAnswer}
use Rattle.bus_law_plans.specs.Entries.{IsRunOf}
use Rattle.bus_law_plans.specs.Sent.{begun_of, IsReceiver, command_of, first_of, message_of, carrier, IsSentBlock, DeliversWhole}
use Rattle.bus_law_plans.proofs.Answered.{IsAnswerOf, replied-by, IsShownOf, shown-of}
use Rattle.bus_law_plans.proofs.Blocks.{blocks-each}
use Rattle.bus_law_plans.proofs.Lengths.{AreShown, Sole, distinct-from, sole-of, struck-shown}
use Rattle.bus_law_plans.proofs.Lists.{each-always, each-map, each-weaker}
use Rattle.bus_law_plans.proofs.Messages.{command-kept, answer-kept, deliveries-each, counted-is}
use Rattle.bus_law_plans.proofs.NextRun.{stations-addresses}
use Rattle.bus_law_plans.proofs.Nexts.{next-of}
use Rattle.bus_law_plans.proofs.Relays.{command-takes, IsTransmitters, transmitters, IsRelayed, relayed-block}
use Rattle.bus_law_plans.proofs.Singles.{single-block, single-answer, IsReceived, receive-block, transmit-block, mode-block}
use Rattle.bus_law_plans.proofs.Stations.{Apart, apart-from, found-own}

module _ (k : ℕ) (loads : List TimedLoad) (faults : List Fault) (run : Run) (begun : Begun) where
  abbrev number : ℕ
  number = suc (length run.attempts)

  abbrev command : ShownBurst
  command = command_of k loads faults run begun

  abbrev ordered : List After
  ordered = map (after_command k loads command) run.stations

  abbrev Sent : Delivered → Type 0
  Sent d = IsSentBlock k loads faults run begun d

  -- the blocks of the command, by what each station takes of it
  of-command : ((s : Present) (block : Taken) → (after_command k loads command s).taken ≡ Some block →
      Sent (delivered (burst_end command + k) command.channel (after_command k loads command s) block)) → Each Sent (blocks_taken k loads command ordered)
  of-command h =
      blocks-each Sent k loads command ordered
      (each-map (λ (after : After). (block : Taken) → after.taken ≡ Some block → Sent (delivered (burst_end command + k) command.channel after block))
      (after_command k loads command) run.stations
      (each-always (λ s. (block : Taken) → (after_command k loads command s).taken ≡ Some block →
      Sent (delivered (burst_end command + k) command.channel (after_command k loads command s) block)) h run.stations))

  -- and those of an answer to it
  of-answer : (answer : ShownBurst) → ((s : Present) (block : Taken) → (after_answer k loads answer (after_command k loads command s)).taken ≡ Some block →
      Sent (delivered (burst_end answer + k) answer.channel (after_answer k loads answer (after_command k loads command s)) block)) →
      Each Sent (blocks_taken k loads answer (map (after_answer k loads answer) ordered))
  of-answer answer h =
      blocks-each Sent k loads answer (map (after_answer k loads answer) ordered)
      (each-map (λ (after : After). (block : Taken) → after.taken ≡ Some block → Sent (delivered (burst_end answer + k) answer.channel after block))
      (after_answer k loads answer) ordered
      (each-map (λ (after : After). (block : Taken) → (after_answer k loads answer after).taken ≡ Some block →
      Sent (delivered (burst_end answer + k) answer.channel (after_answer k loads answer after) block)) (after_command k loads command) run.stations
      (each-always (λ s. (block : Taken) → (after_answer k loads answer (after_command k loads command s)).taken ≡ Some block →
      Sent (delivered (burst_end answer + k) answer.channel (after_answer k loads answer (after_command k loads command s)) block)) h run.stations)))

  all-sent : Each Sent (blocks_taken k loads command ordered) →
      ((answer : ShownAnswer) → first_of k loads faults run begun ≡ Some answer →
      Each Sent (blocks_taken k loads answer.burst (map (after_answer k loads answer.burst) ordered))) →
      Each Sent (message_of k loads faults run begun).deliveries
  all-sent first later =
      deliveries-each k loads faults number begun.entry.item run.runs_on begun.state.channel begun.start run.stations Sent first later

  address-kept : (s : Present) → address_of_station (after_command k loads command s).station ≡ address_of_station s
  address-kept s = ap (λ (p : StationData). p.terminal.address) (command-kept k loads command s).plan_is

  answer-address : (answer : ShownBurst) (s : Present) →
      address_of_station (after_answer k loads answer (after_command k loads command s)).station ≡ address_of_station s
  answer-address answer s =
      ap (λ (p : StationData). p.terminal.address)
      (answer-kept k loads answer (after_command k loads command s).station (after_command k loads command s).duty).plan_is ∙ address-kept s

  by-kind : (kind : Kind) → begun.entry.item.kind ≡ kind → HasKindRanges kind → Sole (hits_on faults number Command) → Sole (hits_on faults number First) →
      Apart (map address_of_station run.stations) → is_counted kind (first_of k loads faults run begun) ≡ true →
      Each Sent (message_of k loads faults run begun).deliveries
  by-kind (Receive to sub words) same ranges sole later apart counted =
      let shown : AreShown (command_words (Receive to sub words)) command.slots =
      subst (λ kind. AreShown (command_words (Receive to sub words)) (struck (hits_on faults number Command) (command_words kind))) (sym same)
      (struck-shown (hits_on faults number Command) (command_words (Receive to sub words)) sole) in
      all-sent
      (of-command (λ s block is.
      let by : IsReceived to sub words (address_of_station s) block =
      receive-block to sub words (address_of_station s) block ranges (single-block k loads command _ words shown s block is) in
      record {
        words = by.words_are ∙ sym (ap (λ kind. sent_block k loads kind command run.stations) same);
        receiver = subst (λ kind. IsReceiver kind (address_of_station (after_command k loads command s).station) block.sub block.broadcast) (sym same)
            (by.sub_is, by.broadcast_is, (λ one. address-kept s ∙ by.own_is one));
        carried = subst (λ kind. IsSomeAnd (carrier k loads faults run kind begun)
            (λ burst. (burst_end command + k ≡ burst_end burst + k) × (command.channel ≡ burst.channel))) (sym same) (refl, refl);
      }))
      (λ answer first. of-answer answer.burst (λ s block is. absurd (single-answer k loads command _ words shown answer.burst s block is)))
  by-kind (Transmit from sub count) same ranges sole later apart counted =
      let shown : AreShown (command_words (Transmit from sub count)) command.slots =
      subst (λ kind. AreShown (command_words (Transmit from sub count)) (struck (hits_on faults number Command) (command_words kind))) (sym same)
      (struck-shown (hits_on faults number Command) (command_words (Transmit from sub count)) sole) in
      all-sent
      (of-command (λ s block is. absurd (transmit-block from sub count (address_of_station s) block ranges (single-block k loads command _ [] shown s block is))))
      (λ answer first. of-answer answer.burst (λ s block is. absurd (single-answer k loads command _ [] shown answer.burst s block is)))
  by-kind (Mode to mode_sub transmit code word) same ranges sole later apart counted =
      let shown : AreShown (command_words (Mode to mode_sub transmit code word)) command.slots =
      subst (λ kind. AreShown (command_words (Mode to mode_sub transmit code word)) (struck (hits_on faults number Command) (command_words kind))) (sym same)
      (struck-shown (hits_on faults number Command) (command_words (Mode to mode_sub transmit code word)) sole) in
      all-sent
      (of-command (λ s block is. absurd (mode-block to mode_sub code (address_of_station s) transmit (option_to_list word) block ranges
      (single-block k loads command _ (option_to_list word) shown s block is))))
      (λ answer first. of-answer answer.burst (λ s block is. absurd (single-answer k loads command _ (option_to_list word) shown answer.burst s block is)))
  by-kind (Relay from from_sub to to_sub count) same ranges sole later apart counted =
      let shown : AreShown (command_words (Relay from from_sub to to_sub count)) command.slots =
      subst (λ kind. AreShown (command_words (Relay from from_sub to to_sub count)) (struck (hits_on faults number Command) (command_words kind))) (sym same)
      (struck-shown (hits_on faults number Command) (command_words (Relay from from_sub to to_sub count)) sole) in
      all-sent
      (of-command (λ s block is. absurd (command-takes from from_sub to to_sub count ranges.0 ranges.1 k loads command shown s block is)))
      (λ answer first. of-answer answer.burst (λ s block is.
      let of : IsShownOf (hits_on faults number First) (answer_to command ordered) answer = shown-of (hits_on faults number First) (answer_to command ordered) answer first in
      let sends : IsTransmitters from from_sub to to_sub count ranges.0 ranges.1 k loads command shown run.stations answer.sent =
      replied-by k loads command (IsTransmitters from from_sub to to_sub count ranges.0 ranges.1 k loads command shown run.stations) run.stations
      (each-weaker (λ t. find (is_at (address_of_station t)) run.stations ≡ Some t)
      (λ t. (a : Answer) → IsAnswerOf k loads command t a → IsTransmitters from from_sub to to_sub count ranges.0 ranges.1 k loads command shown run.stations a)
      (λ t found a. transmitters from from_sub to to_sub count ranges.0 ranges.1 k loads command shown run.stations t found a)
      run.stations (found-own run.stations apart)) answer.sent of.sent in
      let by : IsRelayed from from_sub to to_sub count ranges.0 ranges.1 k loads command shown run.stations (address_of_station s) block =
      relayed-block from from_sub to to_sub count ranges.0 ranges.1 k loads command shown run.stations answer (subst Sole (sym of.hits_are) later)
      (of.slots ∙ ap (λ hits. struck hits answer.sent.words) (sym of.hits_are)) sends
      (ap (is_counted (Relay from from_sub to to_sub count)) (sym first) ∙ counted) s block is in
      record {
        words = by.words_are ∙ (sym (ap (sent_from k loads command from_sub count) by.found)
            ∙ sym (ap (λ kind. sent_block k loads kind command run.stations) same));
        receiver = subst (λ kind. IsReceiver kind (address_of_station (after_answer k loads answer.burst (after_command k loads command s)).station) block.sub
            block.broadcast) (sym same) (by.sub_is, by.broadcast_is, (λ one. answer-address answer.burst s ∙ by.own_is one));
        carried = subst (λ kind. IsSomeAnd (carrier k loads faults run kind begun)
            (λ burst. (burst_end answer.burst + k ≡ burst_end burst + k) × (answer.burst.channel ≡ burst.channel))) (sym same)
            (subst (λ o. IsSomeAnd (option_map (λ (a : ShownAnswer). a.burst) o)
            (λ burst. (burst_end answer.burst + k ≡ burst_end burst + k) × (answer.burst.channel ≡ burst.channel))) (sym first) (refl, refl));
      }))

-- of each message of a run of an accepted plan
pub delivers-whole : (k : ℕ) (plan : PlanData) (loads : List TimedLoad) (run : Run) (next : Next) → IsAccepted plan → IsRunOf plan run →
    next_item run ≡ Some next → DeliversWhole k loads plan.faults run (begun_of run next)
delivers-whole k plan loads run next accepted is given counted =
    let begun : Begun = begun_of run next in
    let same : map address_of_station run.stations ≡ addresses plan = stations-addresses plan run.holder plan.stations run.stations is.stations in
    by-kind k loads plan.faults run begun next.entry.item.kind refl (next-of plan run next is given).entry.ranges.kind
    (sole-of (suc (length run.attempts)) Command plan.faults (distinct-from plan.faults accepted.faults))
    (sole-of (suc (length run.attempts)) First plan.faults (distinct-from plan.faults accepted.faults))
    (subst Apart (sym same) (apart-from (addresses plan) accepted.apart))
    (sym (counted-is k loads plan.faults (suc (length run.attempts)) begun.entry.item run.runs_on begun.state.channel begun.start run.stations) ∙ counted)
