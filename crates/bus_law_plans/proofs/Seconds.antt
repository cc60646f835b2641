-- The second answer of a message: that of a relay's receiver, which keeps its promise.
use Rattle.std.proofs.Common.{◌≡◌, ℕ, Bool, true, false, List, [], ◌∷◌, map, Option, Some, None, refl, sym, ap, ◌∙◌, subst}
use Rattle.std.proofs.lemmas.Option.{none-some, same_Some}
use Rattle.std.specs.Option.{option_or}
use Rattle.std.specs.List.{AllByRecursion as Each}
use Rattle.bus_base.specs.declared.samples.Channel.{Channel}
use Rattle.bus_words.specs.Fields.{word_count}
use Rattle.bus_words.specs.declared.word.Word.{Word}
use Rattle.bus_formats.specs.Plans.{StationData, TerminalData}
use Rattle.bus_model.specs.Commands.{is_illegal}
use Rattle.bus_model.specs.Memory.{Memory, TimedLoad}
use Rattle.bus_model.specs.Message.{Present, After, address_of_station, answer_for, answer_to, after_answer, after_answer_of, memory_at}
use Rattle.bus_model.specs.Orders.{Duty, free, owes, promises, Obeyed, due_after, relayed, with_error, kept, keep_promise}
use Rattle.bus_model.specs.Strikes.{ShownBurst, burst_end, Answer}
use Rattle.bus_law_plans.proofs.Answered.{Owed, IsAnswer, status_alone, by-answer}
use Rattle.bus_law_plans.proofs.Lists.{either}

module _ (terminal : TerminalData) (memory : Memory) (c : Channel) (command : ℕ) where
  abbrev OwesOne : Obeyed → Type 0
  OwesOne o = Owed (IsAnswer terminal memory command false) o.duty

  never : (acceptance : Bool) → acceptance ≡ false → acceptance ≡ true → false ≡ true
  never acceptance is other = sym is ∙ other

  kept-owes : (words : Option (List ℕ)) → OwesOne (kept terminal memory c command words)
  kept-owes None = tt
  kept-owes (Some words) =
      either OwesOne (is_illegal terminal command) _ _
      (by-answer terminal memory c command false (with_error terminal memory c true) false [] (status_alone refl) (never false refl))
      (by-answer terminal memory c command false memory.registers false [] (status_alone refl) (never false refl))

  -- a status alone, that accepts nothing
  pub promise-owes : (transmitter : ℕ) (slots : List (Option Word)) (rest : ℕ) → OwesOne (keep_promise terminal memory c command transmitter slots rest)
  promise-owes transmitter slots rest = kept-owes (relayed (word_count command) transmitter slots rest)

-- the answer is that of this station, to the burst that it promised to take
pub record IsSecondOf (k : ℕ) (loads : List TimedLoad) (burst : ShownBurst) (s : Present) (a : Answer) : Type 0 where
  pub command : ℕ
  pub start : a.start ≡ due_after s.plan.terminal (burst_end burst)
  pub is : IsAnswer s.plan.terminal (memory_at k loads burst s) command false a.words a.acceptance

module _ (k : ℕ) (loads : List TimedLoad) (burst : ShownBurst) where
  by-duty : (s : Present) (command : ℕ) (after : After) (duty : Duty) → after.station.plan ≡ s.plan →
      Owed (IsAnswer s.plan.terminal (memory_at k loads burst s) command false) duty → (a : Answer) → answer_for burst after duty ≡ Some a →
      IsSecondOf k loads burst s a
  by-duty s command after free same owed a is = absurd (none-some a is)
  by-duty s command after (promises other transmitter) same owed a is = absurd (none-some a is)
  by-duty s command after (owes words acceptance) same owed a is =
      let this : record {
        address = address_of_station after.station;
        channel = burst.channel;
        start = due_after after.station.plan.terminal (burst_end burst);
        words = words;
        acceptance = acceptance;
      } ≡ a = same_Some _ _ is in
      record {
        command = command;
        start = sym (ap (λ (x : Answer). x.start) this) ∙ ap (λ (p : StationData). due_after p.terminal (burst_end burst)) same;
        is = subst (λ (x : Answer). IsAnswer s.plan.terminal (memory_at k loads burst s) command false x.words x.acceptance) this owed;
      }

  by-promise : (s : Present) (duty : Duty) (a : Answer) → answer_for burst (after_answer_of k loads burst s duty) (after_answer_of k loads burst s duty).duty ≡ Some a →
      IsSecondOf k loads burst s a
  by-promise s free a is = absurd (none-some a is)
  by-promise s (owes words acceptance) a is = absurd (none-some a is)
  by-promise s (promises command transmitter) a is =
      by-duty s command (after_answer_of k loads burst s (promises command transmitter)) _ refl
      (promise-owes s.plan.terminal (memory_at k loads burst s) burst.channel command transmitter burst.slots burst.rest) a is

  by-first : (Q : Answer → Type 0) (after : After) (later : Option Answer) → ((a : Answer) → IsSecondOf k loads burst after.station a → Q a) → (a : Answer) →
      (later ≡ Some a → Q a) → (o : Option Answer) → answer_for burst (after_answer k loads burst after) (after_answer k loads burst after).duty ≡ o →
      option_or o later ≡ Some a → Q a
  by-first Q after later own a rest None same is = rest is
  by-first Q after later own a rest (Some b) same is = own a (by-promise after.station after.duty a (same ∙ is))

  -- what holds of each answer that a station may give holds of the second answer
  pub seconded-by : (Q : Answer → Type 0) (afters : List After) → Each (λ after. (a : Answer) → IsSecondOf k loads burst after.station a → Q a) afters →
      (a : Answer) → answer_to burst (map (after_answer k loads burst) afters) ≡ Some a → Q a
  seconded-by Q [] all a is = absurd (none-some a is)
  seconded-by Q (after ∷ afters) all a is =
      by-first Q after (answer_to burst (map (after_answer k loads burst) afters)) all.0 a (seconded-by Q afters all.1 a)
      (answer_for burst (after_answer k loads burst after) (after_answer k loads burst after).duty) refl is
