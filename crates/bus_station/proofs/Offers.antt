-- Control is accepted only where items are left.
use Rattle.std.proofs.Common.{◌≡◌, ◌≢◌, ℕ, Bool, true, false, ◌&&◌, ◌||◌, List, [], ◌∷◌, length, Option, Some, None, refl, inl, inr, ◌⊎◌}
use Rattle.bus_base.specs.declared.samples.Channel.{Channel}
use Rattle.bus_base.specs.declared.samples.Sample.{Sample}
use Rattle.bus_words.specs.Fields.{is_broadcast}
use Rattle.bus_words.specs.declared.word.Word.{Word}
use Rattle.bus_formats.specs.Codes.{transmit_status_word, transmit_last_command, reset_remote_terminal, dynamic_bus_control}
use Rattle.bus_formats.specs.Plans.{TerminalData}
use Rattle.bus_formats.specs.declared.log.Registers.{Registers}
use Rattle.bus_model.specs.Memory.{Memory, TimedLoad, is_off}
use Rattle.bus_model.specs.Commands.{Tail, unexpected, relay_from, carries, tail_of, has_code, is_illegal}
use Rattle.bus_model.specs.Orders.{Duty, free, owes, promises, Obeyed, answer, answered, carried_out, obey_data, obey_tail, kept, accepts, answer_data, marked, mode_effect, reset, with_error}
use Rattle.bus_model.specs.Starts.{Entry, has_items}
use Rattle.bus_model.specs.Hearing.{Moment}
use Rattle.bus_model.specs.Standing.{Standing, Handled, obeys, settles, runs_out}
use Rattle.bus_model.specs.Terminal.{after_tick, after_order, done_by, ordered, order_now, kept_by, accepted_by, accepted_on}
use Rattle.bus_terminal.proofs.Standing.{by-test}

-- an answer is owed that accepts control
abbrev pub accepting : Duty → Bool
accepting free = false
accepting (owes words acceptance) = acceptance
accepting (promises command transmitter) = false

-- ---- what an order leaves accepts only where control may be accepted

-- an order
abbrev MayAccept : Bool → Obeyed → Type 0
MayAccept may o = accepting o.duty ≡ true → may ≡ true

-- the last of three tests
and-last : (a b c : Bool) → (a && b && c) ≡ true → c ≡ true
and-last true true c h = h
and-last true false c h = cc
and-last false true c h = cc
and-last false false c h = cc

-- an answer accepts where it is told to
answer-accepts : (t : TerminalData) (r : Registers) (c : Channel) (command : ℕ) (acceptance : Bool) (words : List ℕ) →
    accepting (answer t r c command acceptance words) ≡ true → acceptance ≡ true
answer-accepts t r c command acceptance words =
    by-test (λ (d : Duty). accepting d ≡ true → acceptance ≡ true) (is_broadcast command || is_off r c) free _ (λ _ h. cc) (λ _ h. h)

module _ (t : TerminalData) (m : Memory) (c : Channel) (command : ℕ) where
  -- a status that answers without an effect
  answered-may : (may : Bool) (r : Registers) (words : List ℕ) → MayAccept may (answered t m c command r words)
  answered-may may r words h = (let no : false ≡ true = answer-accepts t r c command false words h in cc)

  -- a command that is carried out
  carried-may : (words : List ℕ) (may : Bool) (r : Registers) → MayAccept may (carried_out t m c command words may r)
  carried-may words may r h =
      and-last (has_code command dynamic_bus_control) t.accepts may
      (answer-accepts t r c command (accepts t command may) (answer_data t m command) h)

  -- a command with its data
  data-may : (words : List ℕ) (may : Bool) (r : Registers) → MayAccept may (obey_data t m c command words may r)
  data-may words may r =
      by-test (MayAccept may) (is_illegal t command) _ _
      (λ _. answered-may may (marked r command true) [])
      (λ _. by-test (MayAccept may) (has_code command transmit_status_word) _ _
      (λ _. answered-may may (record r { last = command }) [])
      (λ _. by-test (MayAccept may) (has_code command transmit_last_command) _ _
      (λ _. answered-may may r (r.last ∷ []))
      (λ _. by-test (MayAccept may) (has_code command reset_remote_terminal) _ _
      (λ _. answered-may may (reset r) [])
      (λ _. carried-may words may (mode_effect (marked r command false) c command words)))))

  -- a command with what follows it
  tail-may : (may : Bool) (tail : Tail) → MayAccept may (obey_tail t m c command may tail)
  tail-may may unexpected h = cc
  tail-may may (relay_from transmitter) h = cc
  tail-may may (carries words) h = data-may words may m.registers h

  -- a promise that is kept or not
  kept-may : (may : Bool) (words : Option (List ℕ)) → MayAccept may (kept t m c command words)
  kept-may may None h = cc
  kept-may may (Some words) h =
      by-test (MayAccept may) (is_illegal t command) _ _
      (λ _. answered-may may (with_error t m c true) [])
      (λ _ acc. (let no : false ≡ true = answer-accepts t m.registers c command false [] acc in cc)) h

-- whatever was promised
promise-may : (k : ℕ) (t : TerminalData) (m : Memory) (c : Channel) (may : Bool) (d : Duty) (slots : List (Option Word)) (rest : ℕ) →
    MayAccept may (kept_by k t m c d slots rest)
promise-may k t m c may free slots rest h = cc
promise-may k t m c may (owes words acceptance) slots rest h = cc
promise-may k t m c may (promises command transmitter) slots rest h = kept-may t m c command may _ h

-- whatever is handled
done-may : (k : ℕ) (t : TerminalData) (s : Standing) (m : Memory) (may : Bool) (order : Handled) → MayAccept may (done_by k t s m may order)
done-may k t s m may (obeys c end order rest) h = tail-may t m c order.command may (tail_of t.address order.command order.tail rest) h
done-may k t s m may (settles end slots rest) h = promise-may k t m s.channel may s.duty slots rest h
done-may k t s m may runs_out h = cc

-- what stands after it
after-may : (s : Standing) (order : Handled) (o : Obeyed) (may : Bool) → MayAccept may o → accepting (after_order s order o).duty ≡ true → may ≡ true
after-may s (obeys c end order rest) o may h acc = h acc
after-may s (settles end slots rest) o may h acc = h acc
after-may s runs_out o may h acc = h acc

-- what stands after a tick
ordered-may : (k : ℕ) (t : TerminalData) (loads : List TimedLoad) (tick : ℕ) (may : Bool) (s : Standing) (o : Option Handled) →
    accepting (ordered k t loads tick may s o).duty ≡ true → (accepting s.duty ≡ true) ⊎ (may ≡ true)
ordered-may k t loads tick may s None h = inl h
ordered-may k t loads tick may s (Some order) h = inr (after-may s order _ may (done-may k t s _ may order) h)

-- an answer that accepts was owed before the tick, or it was accepted in a tick in which it might
pub tick-may : (k : ℕ) (t : TerminalData) (loads : List TimedLoad) (now : Moment) (past : List Moment) (s : Standing) →
    accepting (after_tick k t loads now past s).duty ≡ true → (accepting s.duty ≡ true) ⊎ (now.has_items ≡ true)
tick-may k t loads now past s h = ordered-may k t loads (length past) now.has_items s (order_now k t (now ∷ past) s) h

-- ---- control is accepted by such an answer

-- an acceptance is that of an answer that accepts
accepted-by : (k : ℕ) (t : TerminalData) (loads : List TimedLoad) (past : List Sample) (x : Sample) (s : Standing) (d : Duty) (end : ℕ) →
    accepted_by k t loads past x s d ≡ Some end → accepting d ≡ true
accepted-by k t loads past x s free end h = cc
accepted-by k t loads past x s (owes words true) end h = refl
accepted-by k t loads past x s (owes words false) end h = cc
accepted-by k t loads past x s (promises command transmitter) end h = cc

-- so one was owed
pub accepted-owed : (k : ℕ) (t : TerminalData) (loads : List TimedLoad) (now : Moment) (past : List Moment) (s : Standing) (end : ℕ) →
    accepted_on k t loads now past s ≡ Some end → accepting s.duty ≡ true
accepted-owed k t loads now past s end h = accepted-by k t loads _ _ s s.duty end h

-- ---- items

-- items that are left
pub some-left : (left : List Entry) → has_items left ≡ true → left ≢ []
some-left [] h = λ e. absurd (cc)
some-left (entry ∷ later) h = λ e. absurd (cc)
