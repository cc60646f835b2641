-- What a message of a run shows, and when: at most three bursts, each of at most forty words, all within so many ticks of its start.
use Rattle.std.proofs.Common.{◌≡◌, ℕ, ◌+◌, ◌<◌, ◌≤◌, Bool, false, List, [], ◌∷◌, length, map, Option, Some, None, refl, sym, ap, subst, arith, length-append}
use Rattle.std.specs.Prelude.{IfSome, max, fold}
use Rattle.std.specs.List.{AllByRecursion as Each}
use Rattle.bus_base.specs.declared.samples.Channel.{Channel}
use Rattle.bus_base.specs.declared.samples.Part.TheVariants.{Command, First, Second}
use Rattle.bus_words.specs.declared.word.Word.{Word}
use Rattle.bus_formats.specs.Accepted.{HasItemRanges}
use Rattle.bus_formats.specs.Forms.{command_words}
use Rattle.bus_formats.specs.Plans.{ItemData, TerminalData}
use Rattle.bus_formats.specs.declared.fault.Fault.{Fault}
use Rattle.bus_formats.specs.declared.fault.Hit.{Hit}
use Rattle.bus_model.specs.Memory.{Memory, TimedLoad}
use Rattle.bus_model.specs.Message.{Present, After, after_command, answer_to, abandoned_bursts, answer_bursts, Message, message}
use Rattle.bus_model.specs.Run.{quiet_after}
use Rattle.bus_model.specs.Strikes.{hits_on, ShownBurst, burst_end, Answer, ShownAnswer, beside_command}
use Rattle.bus_law_plans.specs.Bounds.{IsShort, still_shown}
use Rattle.bus_law_plans.proofs.Answered.{IsAnswer, IsAnswerOf, replied-by, IsShownOf, shown-of, data-few}
use Rattle.bus_law_plans.proofs.Lists.{each-append, each-weaker}
use Rattle.bus_law_plans.proofs.Messages.{told, ordered, replied, second-after, second-of, ending-is, bursts-are, command-kept}
use Rattle.bus_law_plans.proofs.Seconds.{IsSecondOf, seconded-by}
use Rattle.bus_law_plans.proofs.Sized.{whole-short, whole-end, command-few, beside-end, beside-short, data-long}
use Rattle.bus_law_plans.proofs.Struck.{struck-few}
use Rattle.bus_law_plans.proofs.Ticked.{EndsBy, IsTimely, ending-timely}

-- the terminal answers in time
abbrev pub IsPrompt : Present → Type 0
IsPrompt s = s.plan.terminal.delay ≤ 24

-- an answer of few words, soon after a burst
pub record IsSoon (end : ℕ) (a : Answer) : Type 0 where
  pub few : length a.words ≤ 40
  pub soon : a.start ≤ end + 20

-- a burst is short, and ends by this tick
pub record EndsShort (last : ℕ) (burst : ShownBurst) : Type 0 where
  pub short : IsShort burst
  pub ends : burst_end burst ≤ last

words-few : (terminal : TerminalData) (memory : Memory) (command : ℕ) (may acceptance : Bool) (words : List Word) →
    IsAnswer terminal memory command may words acceptance → length words ≤ 40
words-few terminal memory command may acceptance words is =
    omega (arith, ap length is.words_are, data-long is.words_sent, data-few terminal memory command is.words_sent is.sent)

shown-short : (hits : List Hit) (answer : Option Answer) (shown : ShownAnswer) (end last : ℕ) → IsShownOf hits answer shown → IsSoon end shown.sent →
    end + 1620 ≤ last → EndsShort last shown.burst
shown-short hits answer shown end last is soon within =
    let few : length shown.burst.slots ≤ 40 = omega (arith, ap length is.slots, struck-few hits shown.sent.words soon.few) in
    record {
      short = whole-short shown.burst is.rest few;
      ends = omega (arith, whole-end shown.burst is.rest few, is.start, soon.soon, within);
    }

module _ (k : ℕ) (low : k < 24) (loads : List TimedLoad) (faults : List Fault) (n : ℕ) (item : ItemData) (ranges : HasItemRanges item)
    (on : Option ShownAnswer) (channel : Channel) (start : ℕ) (stations : List Present) (prompt : Each IsPrompt stations) where
  abbrev command : ShownBurst
  command = told k loads faults n item on channel start stations

  abbrev first : Option ShownAnswer
  first = replied k loads faults n item on channel start stations

  abbrev this : Message
  this = message k loads faults n item on channel start stations

  told-short : EndsShort (start + 1600) command
  told-short =
      let few : length command.slots ≤ 40 = struck-few (hits_on faults n Command) (command_words item.kind) (command-few item.kind ranges.kind) in
      record { short = whole-short command refl few; ends = whole-end command refl few }

  -- the first answer
  pub first-short : (answer : ShownAnswer) → first ≡ Some answer → EndsShort (start + 3220) answer.burst
  first-short answer is =
      let shown : IsShownOf (hits_on faults n First) (answer_to command (map (after_command k loads command) stations)) answer =
      shown-of (hits_on faults n First) (answer_to command (map (after_command k loads command) stations)) answer is in
      let soon : IsSoon (burst_end command) answer.sent =
      replied-by k loads command (IsSoon (burst_end command)) stations
      (each-weaker IsPrompt (λ s. (a : Answer) → IsAnswerOf k loads command s a → IsSoon (burst_end command) a)
      (λ s in-time a of. record {
        few = words-few s.plan.terminal _ of.order.command _ a.acceptance a.words of.is;
        soon = omega (arith, of.start, in-time);
      }) stations prompt) answer.sent shown.sent in
      let ends : burst_end command ≤ start + 1600 = told-short.ends in
      shown-short (hits_on faults n First) _ answer (burst_end command) (start + 3220) shown soon (omega (arith, ends))

  prompt-after : (ts : List Present) → Each IsPrompt ts → Each (λ (a : After). IsPrompt a.station) (map (after_command k loads command) ts)
  prompt-after [] all = tt
  prompt-after (s ∷ ts) all =
      (subst (λ p. p.terminal.delay ≤ 24) (sym (command-kept k loads command s).plan_is) all.0, prompt-after ts all.1)

  second-short : (answer second : ShownAnswer) → first ≡ Some answer →
      second-after k loads faults n item on channel start stations answer ≡ Some second → EndsShort (start + 4840) second.burst
  second-short answer second of is =
      let shown = shown-of (hits_on faults n Second) _ second is in
      let soon : IsSoon (burst_end answer.burst) second.sent =
      seconded-by k loads answer.burst (IsSoon (burst_end answer.burst)) (ordered k loads faults n item on channel start stations)
      (each-weaker (λ (a : After). IsPrompt a.station) (λ (b : After). (a : Answer) → IsSecondOf k loads answer.burst b.station a → IsSoon (burst_end answer.burst) a)
      (λ b in-time a by. record {
        few = words-few b.station.plan.terminal _ by.command false a.acceptance a.words by.is;
        soon = omega (arith, by.start, in-time);
      }) (ordered k loads faults n item on channel start stations) (prompt-after stations prompt)) second.sent shown.sent in
      shown-short (hits_on faults n Second) _ second (burst_end answer.burst) (start + 4840) shown soon (omega (arith, (first-short answer of).ends))

  second-of-short : (o : Option ShownAnswer) → first ≡ o → IfSome (second-of k loads faults n item on channel start stations o) (λ b. EndsShort (start + 4840) b.burst)
  second-of-short None is = tt
  second-of-short (Some answer) is = by-second (second-after k loads faults n item on channel start stations answer) refl
    where
      by-second : (second : Option ShownAnswer) → second-after k loads faults n item on channel start stations answer ≡ second →
          IfSome second (λ b. EndsShort (start + 4840) b.burst)
      by-second None same = tt
      by-second (Some second) same = second-short answer second is same

  later-short : (a b : ℕ) (burst : ShownBurst) → a ≤ b → EndsShort a burst → EndsShort b burst
  later-short a b burst order is = record { short = is.short; ends = omega (arith, is.ends, order) }

  first-of-short : (o : Option ShownAnswer) → first ≡ o → IfSome o (λ a. EndsShort (start + 4840) a.burst)
  first-of-short None is = tt
  first-of-short (Some answer) is = later-short (start + 3220) (start + 4840) answer.burst (omega arith) (first-short answer is)

  abbrev last : ℕ
  last = start + 4840

  abbrev second : Option ShownAnswer
  second = second-of k loads faults n item on channel start stations first

  some-ends : (o : Option ShownAnswer) → IfSome o (λ a. EndsShort last a.burst) → EndsBy last o
  some-ends None h = tt
  some-ends (Some a) h = h.ends

  timely : IsTimely last first this.ending
  timely =
      subst (IsTimely last first) (sym (ending-is k loads faults n item on channel start stations))
      (ending-timely k low item last (burst_end command) first second (omega (arith, told-short.ends)) (some-ends first (first-of-short first refl))
      (some-ends second (second-of-short first refl)))

  -- it ends soon after what it shows
  pub ends-soon : this.ending.tick < last + 80
  ends-soon = timely.tick

  -- an answer that runs on is short too
  pub old-short : (old : ShownAnswer) → this.ending.runs_on ≡ Some old → EndsShort last old.burst
  old-short old is = subst (λ o. IfSome o (λ a. EndsShort last a.burst)) (timely.runs_on old is) (first-of-short first refl)

  -- ---- the bursts

  answers-so : (P : ShownBurst → Type 0) (on-from a b : Option ShownAnswer) → IfSome a (λ x. P x.burst) → IfSome b (λ x. P x.burst) → Each P (answer_bursts on-from a b)
  answers-so P (Some old) a b h i = tt
  answers-so P None None None h i = tt
  answers-so P None None (Some b) h i = (i, tt)
  answers-so P None (Some a) None h i = (h, tt)
  answers-so P None (Some a) (Some b) h i = (h, (i, tt))

  abandoned-so : (P : ShownBurst → Type 0) (o : Option ShownAnswer) → IfSome o (λ old. P (beside_command command old)) → Each P (abandoned_bursts o command)
  abandoned-so P None h = tt
  abandoned-so P (Some old) h = (h, tt)

  beside-so : (high : ℕ) (o : Option ShownAnswer) → IfSome o (λ old. EndsShort high old.burst) → IfSome o (λ old. EndsShort high (beside_command command old))
  beside-so high None h = tt
  beside-so high (Some old) h = record { short = beside-short command old h.short; ends = omega (arith, beside-end command old, h.ends) }

  some-later : (o : Option ShownAnswer) (high : ℕ) → last ≤ high → IfSome o (λ a. EndsShort last a.burst) → IfSome o (λ a. EndsShort high a.burst)
  some-later None high order h = tt
  some-later (Some a) high order h = later-short last high a.burst order h

  -- each is short and ends in time
  pub bursts-short : (high : ℕ) → last ≤ high → IfSome on (λ old. EndsShort high old.burst) → Each (EndsShort high) this.bursts
  bursts-short high order old =
      subst (Each (EndsShort high)) (sym (bursts-are k loads faults n item on channel start stations))
      (each-append (EndsShort high) (abandoned_bursts on command) (command ∷ answer_bursts this.ending.runs_on first second)
      (abandoned-so (EndsShort high) on (beside-so high on old)) (
        later-short (start + 1600) high command (omega (arith, order)) told-short,
        answers-so (EndsShort high) this.ending.runs_on first second (some-later first high order (first-of-short first refl))
            (some-later second high order (second-of-short first refl)),
      ))

  answers-few : (o a b : Option ShownAnswer) → length (answer_bursts o a b) + still_shown o ≤ 2
  answers-few (Some old) a b = omega arith
  answers-few None None None = omega arith
  answers-few None None (Some b) = omega arith
  answers-few None (Some a) None = omega arith
  answers-few None (Some a) (Some b) = omega arith

  abandoned-few : (o : Option ShownAnswer) → length (abandoned_bursts o command) ≡ still_shown o
  abandoned-few None = refl
  abandoned-few (Some old) = refl

  -- and there are at most three
  pub bursts-few : length this.bursts + still_shown this.ending.runs_on ≤ still_shown on + 3
  bursts-few =
      omega (
        arith,
        ap length (bursts-are k loads faults n item on channel start stations),
        length-append (abandoned_bursts on command) (command ∷ answer_bursts this.ending.runs_on first second),
        abandoned-few on,
        answers-few this.ending.runs_on first second,
      )

-- ---- since when all is quiet

fold-low : (high tick : ℕ) (bursts : List ShownBurst) → tick ≤ high → Each (EndsShort high) bursts → fold (λ t burst. max t (burst_end burst)) tick bursts ≤ high
fold-low high tick [] low all = low
fold-low high tick (burst ∷ bursts) low all = fold-low high (max tick (burst_end burst)) bursts (omega (arith, low, all.0.ends)) all.1

-- both channels are quiet after the last of these bursts
pub quiet-low : (high : ℕ) (bursts : List ShownBurst) → Each (EndsShort high) bursts → quiet_after bursts ≤ high
quiet-low high bursts all = fold-low high 0 bursts (omega arith) all
