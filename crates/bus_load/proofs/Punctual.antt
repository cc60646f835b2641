-- What a message that offers no control takes at most: all that it shows, and when it ends.
use Rattle.std.proofs.Common.{◌≡◌, ℕ, ◌+◌, ◌-◌, ◌*◌, ◌<◌, ◌≤◌, Bool, true, false, List, [], ◌∷◌, length, map, take, replicate, Option, Some, None, refl, sym, ap, ◌∙◌, subst, arith, length-append}
use Rattle.std.proofs.lemmas.List.{length-take}
use Rattle.std.proofs.lemmas.List.Elements.{recursion_from_All}
use Rattle.std.proofs.lemmas.Option.{none-some, same_Some}
use Rattle.std.specs.Prelude.{IfSome, max, fold, if◌then◌else◌, ◌&&◌, ◌==◌}
use Rattle.std.specs.List.{AllByRecursion as Each, cons_option}
use Rattle.bus_base.specs.Samples.{same_part}
use Rattle.bus_base.specs.declared.samples.Channel.{Channel}
use Rattle.bus_base.specs.declared.samples.Part.{Part}
use Rattle.bus_base.specs.declared.samples.Part.TheVariants.{Command, First, Second}
use Rattle.bus_words.specs.declared.word.Word.{Word}
use Rattle.bus_formats.specs.Accepted.{HasItemRanges}
use Rattle.bus_formats.specs.Forms.{command_words, answers_of, data_word}
use Rattle.bus_formats.specs.Plans.{ItemData}
use Rattle.bus_formats.specs.declared.fault.Fault.{Fault}
use Rattle.bus_formats.specs.declared.fault.Hit.{Hit}
use Rattle.bus_formats.specs.declared.fault.Hit.TheVariants.{Flip, Cut, Extra, Fade}
use Rattle.bus_formats.specs.declared.form.Shape.{Shape}
use Rattle.bus_load.specs.InTime.{AddsNone}
use Rattle.bus_load.specs.Load.{burst_ticks as most_ticks, answer_ticks, message_ticks}
use Rattle.bus_load.proofs.FewWords.{owed-by-all, each-few, each-alone, commands-few}
use Rattle.bus_load.proofs.Prompt.{IsPrompt, expected-prompt}
use Rattle.bus_model.specs.Attempts.{is_offer}
use Rattle.bus_model.specs.Endings.{ending_by}
use Rattle.bus_model.specs.Memory.{TimedLoad}
use Rattle.bus_model.specs.Message.{Present, After, after_command, after_answer, answer_to, abandoned_bursts, answer_bursts, Message, message}
use Rattle.bus_model.specs.Orders.{free}
use Rattle.bus_model.specs.Run.{quiet_after}
use Rattle.bus_model.specs.Strikes.{hit_on, hits_on, added_by, own_struck, struck, ShownBurst, burst_end, Answer, ShownAnswer, beside_command}
use Rattle.bus_law_duties.proofs.OneOwes.{none-owes}
use Rattle.bus_law_duties.proofs.Settled.{none-owes-answer}
use Rattle.bus_law_duties.specs.Duties.{AreFree}
use Rattle.bus_law_plans.proofs.Answered.{IsAnswerOf, Owed, replied-by, shown-of}
use Rattle.bus_law_plans.proofs.Lists.{each-weaker, each-append}
use Rattle.bus_law_plans.proofs.Messages.{told, ordered, replied, second-after, second-of, ending-is, bursts-are, command-kept}
use Rattle.bus_law_plans.proofs.Seconds.{IsSecondOf, seconded-by}
use Rattle.bus_law_plans.proofs.Shown.{IsPrompt as IsPromptStation, first-short}
use Rattle.bus_law_plans.proofs.Sized.{command-few, beside-end}
use Rattle.bus_law_plans.proofs.Struck.{own-few, struck-few, struck-commands}
use Rattle.bus_law_plans.proofs.Ticked.{EndsBy}

-- ---- faults that add no words

-- in the short reckoning no fault adds words
abbrev pub Brief : Bool → List Fault → Type 0
Brief true faults = Unit {0}
Brief false faults = Each AddsNone faults

none-with : (hit : Hit) (hits : List Hit) → added_by (hit ∷ []) ≡ 0 → added_by hits ≡ 0 → added_by (hit ∷ hits) ≡ 0
none-with (Flip word set) hits first rest = rest
none-with (Fade word set) hits first rest = rest
none-with (Cut after) hits first rest = rest
none-with (Extra words) hits first rest = omega (arith, first, rest)

none-added : (n : ℕ) (part : Part) (faults : List Fault) → Each AddsNone faults → added_by (hits_on faults n part) ≡ 0
none-added n part [] all = refl
none-added n part (fault ∷ faults) all = by-hit (hit_on n part fault) refl (none-added n part faults all.1)
  where
    by-test : (b : Bool) (hit : Hit) → (if b then Some fault.hit else None) ≡ Some hit → fault.hit ≡ hit
    by-test true hit is = same_Some fault.hit hit is
    by-test false hit is = absurd (none-some hit is)

    by-hit : (o : Option Hit) → hit_on n part fault ≡ o → added_by (hits_on faults n part) ≡ 0 → added_by (cons_option o (hits_on faults n part)) ≡ 0
    by-hit None same rest = rest
    by-hit (Some hit) same rest =
        none-with hit (hits_on faults n part) (subst (λ h. added_by (h ∷ []) ≡ 0) (by-test ((fault.attempt == n) && same_part fault.part part) hit same) all.0) rest

-- the words of a part as they are shown take no more ticks than are reckoned
part-few : (long : Bool) (faults : List Fault) (n : ℕ) (part : Part) (words : List Word) (most : ℕ) → Brief long faults → length words ≤ most →
    length (struck (hits_on faults n part) words) ≤ 40 → 40 * length (struck (hits_on faults n part) words) ≤ most_ticks long most
part-few true faults n part words most brief few all = omega (arith, all)
part-few false faults n part words most brief few all =
    let hits : List Hit = hits_on faults n part in
    let own : List (Option Word) = own_struck hits words in
    let zeros : List (Option Word) = replicate (added_by hits) (Some (data_word 0)) in
    let none : length zeros ≡ 0 = ap (λ i. length (replicate i (Some (data_word 0)))) (none-added n part faults brief) in
    omega (arith, own-few hits words, few, none, length-append own (take (40 - length own) zeros), length-take (40 - length own) zeros)

-- nobody answers where all are free
unanswered : (burst : ShownBurst) (afters : List After) → AreFree afters → (a : Answer) → answer_to burst afters ≡ Some a → ⊥
unanswered burst afters all a is =
    owed-by-all (λ words. ⊥) burst afters
    (each-weaker (λ (x : After). x.duty ≡ free) (λ (x : After). Owed (λ words acceptance. ⊥) x.duty)
    (λ x is_free. subst (λ d. Owed (λ words acceptance. ⊥) d) (sym is_free) tt) afters (recursion_from_All (λ (x : After). x.duty ≡ free) afters all)) a is

module _ (k : ℕ) (low : k ≤ 3) (long : Bool) (loads : List TimedLoad) (faults : List Fault) (brief : Brief long faults) (n : ℕ) (item : ItemData)
    (ranges : HasItemRanges item) (plain : is_offer item.kind ≡ false) (on : Option ShownAnswer) (channel : Channel) (start : ℕ) (stations : List Present)
    (prompt : Each IsPromptStation stations) where
  abbrev command : ShownBurst
  command = told k loads faults n item on channel start stations

  abbrev first : Option ShownAnswer
  first = replied k loads faults n item on channel start stations

  abbrev second : Option ShownAnswer
  second = second-of k loads faults n item on channel start stations first

  abbrev this : Message
  this = message k loads faults n item on channel start stations

  -- the last tick of the command, of the first answer, and of all
  abbrev told_by : ℕ
  told_by = start + most_ticks long (length (command_words item.kind))

  abbrev replied_by : ℕ
  replied_by = told_by + answer_ticks long (answers_of item.kind).first

  abbrev pub over_by : ℕ
  over_by = start + message_ticks long item.kind

  pub under : k < 24
  under = omega (arith, low)

  pub command-by : burst_end command ≤ told_by
  command-by =
      let all : length command.slots ≤ 40 = struck-few (hits_on faults n Command) (command_words item.kind) (command-few item.kind ranges.kind) in
      omega (arith, part-few long faults n Command (command_words item.kind) (length (command_words item.kind)) brief (omega arith) all)

  -- ---- the first answer

  soon : (a : Answer) → answer_to command (map (after_command k loads command) stations) ≡ Some a → a.start ≤ burst_end command + 20
  soon a is =
      replied-by k loads command (λ (x : Answer). x.start ≤ burst_end command + 20) stations
      (each-weaker IsPromptStation (λ s. (x : Answer) → IsAnswerOf k loads command s x → x.start ≤ burst_end command + 20)
      (λ s in-time x of. omega (arith, of.start, in-time)) stations prompt) a is

  first-by : (shape : Option Shape) → (answers_of item.kind).first ≡ shape → (answer : ShownAnswer) → first ≡ Some answer →
      burst_end answer.burst ≤ told_by + answer_ticks long shape
  first-by None none answer is =
      let shown = shown-of (hits_on faults n First) (answer_to command (map (after_command k loads command) stations)) answer is in
      absurd (unanswered command (map (after_command k loads command) stations)
      (none-owes k loads channel start (hits_on faults n Command) item stations ranges.kind none) answer.sent shown.sent)
  first-by (Some shape) expects answer is =
      let shown = shown-of (hits_on faults n First) (answer_to command (map (after_command k loads command) stations)) answer is in
      let few : length answer.sent.words ≤ 1 + shape.count =
      owed-by-all (λ words. length words ≤ 1 + shape.count) command (map (after_command k loads command) stations)
      (each-few k loads command shape.count stations
      (struck-commands _ (hits_on faults n Command) (command_words item.kind) (commands-few item.kind ranges.kind shape expects))) answer.sent shown.sent in
      let all : length answer.burst.slots ≤ 40 = (first-short k under loads faults n item ranges on channel start stations prompt answer is).short.slots in
      let same : length answer.burst.slots ≡ length (struck (hits_on faults n First) answer.sent.words) = ap length shown.slots in
      let ticks = part-few long faults n First answer.sent.words (1 + shape.count) brief few (omega (arith, all, same)) in
      omega (arith, command-by, soon answer.sent shown.sent, shown.start, shown.rest, same, ticks)

  first-ends : (answer : ShownAnswer) → first ≡ Some answer → burst_end answer.burst ≤ replied_by
  first-ends answer is = first-by (answers_of item.kind).first refl answer is

  -- ---- the second answer

  second-by : (shape : Option Shape) → (answers_of item.kind).second ≡ shape → (answer later : ShownAnswer) → first ≡ Some answer →
      second-after k loads faults n item on channel start stations answer ≡ Some later → burst_end later.burst ≤ replied_by + answer_ticks long shape
  second-by None none answer later of is =
      let shown = shown-of (hits_on faults n Second) _ later is in
      absurd (unanswered answer.burst (map (after_answer k loads answer.burst) (ordered k loads faults n item on channel start stations))
      (none-owes-answer k loads channel start (hits_on faults n Command) item answer.burst stations ranges.kind none) later.sent shown.sent)
  second-by (Some shape) expects answer later of is =
      let afters : List After = ordered k loads faults n item on channel start stations in
      let shown = shown-of (hits_on faults n Second) _ later is in
      let few : length later.sent.words ≤ 1 =
      owed-by-all (λ words. length words ≤ 1 + 0) answer.burst (map (after_answer k loads answer.burst) afters) (each-alone k loads answer.burst afters)
      later.sent shown.sent in
      let begun : later.sent.start ≤ burst_end answer.burst + 20 =
      seconded-by k loads answer.burst (λ (x : Answer). x.start ≤ burst_end answer.burst + 20) afters
      (each-weaker (λ (a : After). IsPromptStation a.station) (λ (b : After). (x : Answer) → IsSecondOf k loads answer.burst b.station x → x.start ≤ burst_end answer.burst + 20)
      (λ b in-time x by. omega (arith, by.start, in-time)) afters (prompt-after stations prompt)) later.sent shown.sent in
      let same : length later.burst.slots ≡ length (struck (hits_on faults n Second) later.sent.words) = ap length shown.slots in
      let all : length (struck (hits_on faults n Second) later.sent.words) ≤ 40 = struck-few (hits_on faults n Second) later.sent.words (omega (arith, few)) in
      let ticks = part-few long faults n Second later.sent.words (1 + shape.count) brief (omega (arith, few)) all in
      omega (arith, first-ends answer of, begun, shown.start, shown.rest, same, ticks)
    where
      prompt-after : (ts : List Present) → Each IsPromptStation ts → Each (λ (a : After). IsPromptStation a.station) (map (after_command k loads command) ts)
      prompt-after [] all = tt
      prompt-after (s ∷ ts) all =
          (subst (λ p. p.terminal.delay ≤ 24) (sym (command-kept k loads command s).plan_is) all.0, prompt-after ts all.1)

  pub some-first : (o : Option ShownAnswer) → first ≡ o → EndsBy over_by o
  some-first None is = tt
  some-first (Some answer) is = omega (arith, first-ends answer is)

  some-second : (o : Option ShownAnswer) → first ≡ o → EndsBy over_by (second-of k loads faults n item on channel start stations o)
  some-second None is = tt
  some-second (Some answer) is = by-second (second-after k loads faults n item on channel start stations answer) refl
    where
      by-second : (later : Option ShownAnswer) → second-after k loads faults n item on channel start stations answer ≡ later → EndsBy over_by later
      by-second None same = tt
      by-second (Some later) same = omega (arith, second-by (answers_of item.kind).second refl answer later is same)

  -- ---- the ending

  pub expected : (shape : Shape) → (answers_of item.kind).first ≡ Some shape → IsPrompt over_by this.ending
  expected shape expects =
      subst (IsPrompt over_by)
      (sym (ending-is k loads faults n item on channel start stations ∙ ap (ending_by k item.kind item.abandon (burst_end command) first second) expects))
      (expected-prompt k low item.kind plain over_by item.abandon (burst_end command) first second shape (omega (arith, command-by))
      (some-first first refl) (some-second first refl))

  pub sent : (answers_of item.kind).first ≡ None → this.ending ≡ ending_by k item.kind item.abandon (burst_end command) first second None
  sent none = ending-is k loads faults n item on channel start stations ∙ ap (ending_by k item.kind item.abandon (burst_end command) first second) none

  -- ---- the bursts

  answers-so : (P : ShownBurst → Type 0) (o a b : Option ShownAnswer) → IfSome a (λ x. P x.burst) → IfSome b (λ x. P x.burst) → Each P (answer_bursts o a b)
  answers-so P (Some old) a b h i = tt
  answers-so P None None None h i = tt
  answers-so P None None (Some b) h i = (i, tt)
  answers-so P None (Some a) None h i = (h, tt)
  answers-so P None (Some a) (Some b) h i = (h, (i, tt))

  abandoned-so : (P : ShownBurst → Type 0) (o : Option ShownAnswer) → IfSome o (λ old. P (beside_command command old)) → Each P (abandoned_bursts o command)
  abandoned-so P None h = tt
  abandoned-so P (Some old) h = (h, tt)

  some-later : (o : Option ShownAnswer) (high : ℕ) → over_by ≤ high → EndsBy over_by o → IfSome o (λ x. burst_end x.burst ≤ high)
  some-later None high order h = tt
  some-later (Some a) high order h = omega (arith, h, order)

  beside : (high : ℕ) (o : Option ShownAnswer) → IfSome o (λ old. burst_end old.burst ≤ high) → IfSome o (λ old. burst_end (beside_command command old) ≤ high)
  beside high None h = tt
  beside high (Some old) h = omega (arith, beside-end command old, h)

  fold-low : (high tick : ℕ) (bursts : List ShownBurst) → tick ≤ high → Each (λ b. burst_end b ≤ high) bursts → fold (λ t burst. max t (burst_end burst)) tick bursts ≤ high
  fold-low high tick [] first-low all = first-low
  fold-low high tick (burst ∷ bursts) first-low all = fold-low high (max tick (burst_end burst)) bursts (omega (arith, first-low, all.0)) all.1

  -- both channels are quiet by the tick by which all of it, and the answer that ran on before it, are over
  pub quiet-by : (high : ℕ) → over_by ≤ high → IfSome on (λ old. burst_end old.burst ≤ high) → quiet_after this.bursts ≤ high
  quiet-by high order old =
      let Within : ShownBurst → Type 0 = λ b. burst_end b ≤ high in
      fold-low high 0 this.bursts (omega arith)
      (subst (Each Within) (sym (bursts-are k loads faults n item on channel start stations))
      (each-append Within (abandoned_bursts on command) (command ∷ answer_bursts this.ending.runs_on first second)
      (abandoned-so Within on (beside high on old)) (
        omega (arith, command-by, order),
        answers-so Within this.ending.runs_on first second (some-later first high order (some-first first refl))
            (some-later second high order (some-second first refl)),
      )))
