-- The second answer of a message that no fault strikes: it comes only after a first that was good, and is due.
use Rattle.std.proofs.Common.{◌≡◌, ◌⊎◌, inl, inr, ℕ, suc, ◌%◌, ◌<◌, ◌≤◌, List, [], ◌∷◌, length, map, refl, ap, sym, subst, ◌∙◌, arith}
use Rattle.std.proofs.lemmas.Bool.{true≢false}
use Rattle.std.proofs.lemmas.Option.{none-some}
use Rattle.std.specs.Prelude.{Bool, true, false, ◌||◌, ◌==◌, if◌then◌else◌, Option, Some, None}
use Rattle.bus_base.specs.declared.samples.Channel.{Channel}
use Rattle.bus_base.specs.declared.samples.Part.TheVariants.{First, Second}
use Rattle.bus_words.specs.Fields.{address_of, command_bits, flags_in, is_broadcast, word_count}
use Rattle.bus_words.specs.declared.word.Word.{Word}
use Rattle.bus_formats.specs.Accepted.{HasKindRanges}
use Rattle.bus_formats.specs.Forms.{data_word, command_words, answer_of, answers_of}
use Rattle.bus_formats.specs.Plans.{TerminalData, ItemData}
use Rattle.bus_formats.specs.Readings.{data_in, status_full, bad_reply, read_full, read_shape, read_answer}
use Rattle.bus_formats.specs.declared.form.Reading.TheVariants.{Good}
use Rattle.bus_formats.specs.declared.form.Shape.{Shape}
use Rattle.bus_formats.specs.declared.plan.Kind.{Kind}
use Rattle.bus_formats.specs.declared.plan.Kind.TheVariants.{Receive, Transmit, Relay, Mode}
use Rattle.bus_model.specs.Memory.{Memory, TimedLoad, status_of}
use Rattle.bus_model.specs.Message.{Present, address_of_station, After, after_answer, after_answer_of, memory_at, command_burst}
use Rattle.bus_model.specs.Orders.{owes, relayed, kept, keep_promise}
use Rattle.bus_model.specs.Strikes.{struck, ShownBurst}
use Rattle.bus_law_duties.specs.Duties.{PromisesToCommand}
use Rattle.bus_law_duties.specs.Words.{whole_slots, with_data}
use Rattle.bus_law_duties.proofs.Fields.{to-all}
use Rattle.bus_law_duties.proofs.Obeys.{after}
use Rattle.bus_law_duties.proofs.Owes.{free-owes}
use Rattle.bus_law_duties.proofs.Promised.{who-promises}
use Rattle.bus_law_duties.proofs.Relayed.{to-is}
use Rattle.bus_law_duties.proofs.Settled.{Promised, owes-promised}
use Rattle.bus_law_duties.proofs.Stays.{command-stays}
use Rattle.bus_law_plans.proofs.Lengths.{read-long}
use Rattle.bus_law_plans.proofs.Orders.{count-is, field-is}
use Rattle.bus_rules.specs.Breaches.{is_bad_reply}
use Rattle.bus_law_clean.proofs.AnswerRead.{IsDue, IsStatus, shown, data-alone}
use Rattle.bus_law_clean.proofs.StationDue.{shape-one, is-status}

-- ---- a relay's first answer with all its data words is good

by-full : (b : Bool) (number : ℕ) → IsDue (if b then bad_reply First else Good number) → (s : ℕ) × ((if b then bad_reply First else Good number) ≡ Good s)
by-full true number due = absurd (true≢false due)
by-full false number due = (number, refl)

full-good : (full : Option ℕ) → IsDue (read_full First full) → (s : ℕ) × (read_full First full ≡ Good s)
full-good None due = absurd (true≢false due)
full-good (Some number) due = by-full ((flags_in number).message_error || (flags_in number).busy) number due

-- with so many data words it isn't a status alone
long-good : (from from_sub to to_sub count number : ℕ) (words : List ℕ) → 0 < length words →
    IsDue (read_answer (Relay from from_sub to to_sub count) First (shown number words) 0) → (o : Option Shape) → answer_of from count ≡ o →
    (s : ℕ) × (read_answer (Relay from from_sub to to_sub count) First (shown number words) 0 ≡ Good s)
long-good from from_sub to to_sub count number [] some due o is = absurd (omega (arith, some))
long-good from from_sub to to_sub count number (word ∷ words) some due None is =
    absurd (true≢false (sym (ap (λ s. is_bad_reply (read_shape First (Relay from from_sub to to_sub count) s (shown number (word ∷ words)) 0)) is) ∙ due))
long-good from from_sub to to_sub count number (word ∷ words) some due (Some shape) is =
    let same : read_answer (Relay from from_sub to to_sub count) First (shown number (word ∷ words)) 0 ≡ read_full First (status_full shape (shown number (word ∷ words)) 0) =
    ap (λ s. read_shape First (Relay from from_sub to to_sub count) s (shown number (word ∷ words)) 0) is in
    let good = full-good (status_full shape (shown number (word ∷ words)) 0) (subst IsDue same due) in
    (good.0, same ∙ good.1)

-- ---- whoever owes a second answer was sent a whole block

from-some : (b : Bool) (o : Option (List ℕ)) (words : List ℕ) → (if b then o else None) ≡ Some words → o ≡ Some words
from-some true o words is = is
from-some false o words is = absurd (none-some words is)

kept-some : (terminal : TerminalData) (memory : Memory) (c : Channel) (command : ℕ) (read : Option (List ℕ)) (words : List Word) (acceptance : Bool) →
    (kept terminal memory c command read).duty ≡ owes words acceptance → (block : List ℕ) × (read ≡ Some block)
kept-some terminal memory c command None words acceptance is = absurd (free-owes words acceptance is)
kept-some terminal memory c command (Some block) words acceptance is = (block, refl)

slots-long : (words : List ℕ) → length (whole_slots (map data_word words)) ≡ length words
slots-long [] = refl
slots-long (word ∷ words) = ap suc (slots-long words)

-- so many data words came
block-long : (n transmitter number : ℕ) (words block : List ℕ) → relayed n transmitter (shown number words) 0 ≡ Some block → length words ≡ n
block-long n transmitter number words block is =
    sym (slots-long words)
    ∙ read-long n (whole_slots (map data_word words)) block
    (from-some (address_of number == transmitter) (data_in n (whole_slots (map data_word words))) block is)

-- ---- what it is

-- the first answer was good, a second one is awaited, and this one, a status alone, is due
pub record IsSecond (kind : Kind) (number : ℕ) (words : List ℕ) (second : ℕ) : Type 0 where
  pub status : ℕ
  pub good : read_answer kind First (shown number words) 0 ≡ Good status
  pub shape : Shape
  pub awaited : (answers_of kind).second ≡ Some shape
  pub due : IsDue (read_answer kind Second (shown second []) 0)

by-name : (own to command : ℕ) → address_of command ≡ to → is_broadcast command ≡ false → (to ≡ own) ⊎ (to ≡ 31) → to ≡ own
by-name own to command at one (inl same) = same
by-name own to command at one (inr all) = absurd (true≢false (sym (to-all command to at all) ∙ one))

by-kind : (kind : Kind) (own command transmitter : ℕ) (slots : List (Option Word)) (number second : ℕ) (words : List ℕ) → HasKindRanges kind →
    PromisesToCommand kind own command transmitter slots → is_broadcast command ≡ false → IsStatus own second → length words ≡ word_count command →
    IsDue (read_answer kind First (shown number words) 0) → IsSecond kind number words second
by-kind (Receive to sub sent) own command transmitter slots number second words ranges promised one status long due = absurd promised
by-kind (Transmit from sub count) own command transmitter slots number second words ranges promised one status long due = absurd promised
by-kind (Mode to mode_sub transmit code word) own command transmitter slots number second words ranges promised one status long due = absurd promised
by-kind (Relay from from_sub to to_sub count) own command transmitter slots number second words ranges promised one status long due =
    let few : count % 32 ≤ 31 = omega arith in
    let at : address_of command ≡ to = ap address_of promised.command_is ∙ to-is from from_sub to to_sub count ranges in
    let same : to ≡ own = by-name own to command at one promised.receiver.named in
    let many : word_count command ≡ count =
    ap word_count promised.command_is
    ∙ count-is (command_bits to false to_sub (count % 32)) count (field-is to to_sub (count % 32) false few) ranges.1.words.0 ranges.1.words.1 in
    let some : 0 < length words = omega (arith, long, many, ranges.1.words) in
    let good = long-good from from_sub to to_sub count number words some due (answer_of from count) refl in
    let is-shape : answer_of to 0 ≡ Some record { address = to; count = 0 } = shape-one to 0 (λ all. promised.receiver.terminal (sym same ∙ all)) in
    let two : Shape = record { address = to; count = 0 } in
    record {
      status = good.0;
      good = good.1;
      shape = two;
      awaited = is-shape;
      due = subst (λ s. IsDue (read_shape Second (Relay from from_sub to to_sub count) s (shown second []) 0)) (sym is-shape)
          (data-alone Second two second (subst (λ a. IsStatus a second) (sym same) status) (λ e b. refl));
    }

module _ (k : ℕ) (loads : List TimedLoad) (c : Channel) (start : ℕ) (item : ItemData) (station : Present) (low : address_of_station station ≤ 31)
    (ranges : HasKindRanges item.kind) (answer : ShownBurst) (number : ℕ) (words : List ℕ) (slots-are : answer.slots ≡ shown number words) (rest-is : answer.rest ≡ 0)
    (due : IsDue (read_answer item.kind First (shown number words) 0)) where
  -- the station after the command
  abbrev before : After
  before = after k loads c start [] item station

  -- what it owes to the first answer
  pub second-due : (owed : List Word) (acceptance : Bool) → (after_answer k loads answer before).duty ≡ owes owed acceptance →
      (second : ℕ) × (owed ≡ with_data second []) × IsSecond item.kind number words second
  second-due owed acceptance is =
      let p : Promised k loads answer before.station before.duty owed acceptance = owes-promised k loads answer before.station before.duty owed acceptance is in
      let terminal : TerminalData = before.station.plan.terminal in
      let memory : Memory = memory_at k loads answer before.station in
      let same : before.station ≡ record station { memory = before.station.memory } = command-stays k loads (command_burst c start [] item) station in
      let own : ℕ = address_of_station before.station in
      let own-is : own ≡ address_of_station station = ap address_of_station same in
      let kept-so : (keep_promise terminal memory answer.channel p.command p.transmitter answer.slots answer.rest).duty ≡ owes owed acceptance =
      sym (ap (λ d. (after_answer_of k loads answer before.station d).duty) p.was) ∙ is in
      let block = kept-some terminal memory answer.channel p.command (relayed (word_count p.command) p.transmitter answer.slots answer.rest) owed acceptance kept-so in
      let read : relayed (word_count p.command) p.transmitter (shown number words) 0 ≡ Some block.0 =
      ap (λ s. relayed (word_count p.command) p.transmitter s 0) (sym slots-are) ∙ ap (relayed (word_count p.command) p.transmitter answer.slots) (sym rest-is) ∙ block.1 in
      let r = (keep_promise terminal memory answer.channel p.command p.transmitter answer.slots answer.rest).memory.registers in
      let promised : PromisesToCommand item.kind (address_of_station station) p.command p.transmitter (struck [] (command_words item.kind)) =
      who-promises k loads c start [] item station p.command p.transmitter ranges p.was in
      let status : IsStatus own (status_of terminal r false) = is-status terminal r false (subst (λ n. n ≤ 31) (sym own-is) low) in (
        status_of terminal r false,
        p.owed.words_are,
        by-kind item.kind (address_of_station station) p.command p.transmitter (struck [] (command_words item.kind)) number (status_of terminal r false) words ranges
            promised p.owed.one (subst (λ a. IsStatus a (status_of terminal r false)) own-is status)
            (block-long (word_count p.command) p.transmitter number words block.0 read) due,
      )
