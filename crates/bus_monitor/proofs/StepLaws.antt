-- A channel's lister that stands for a past stands for it with one tick more, and tells what closes in that tick.
use Rattle.std.proofs.Common.{◌≡◌, ℕ, ◌+◌, List, [], ◌∷◌, ◌++◌, length, take, refl, ap, sym, ◌∙◌, arith, inl, inr, length-append}
use Rattle.std.specs.Prelude.{Bool, true, false, nat_lt, is_some, if◌then◌else◌, Option, Some, None}
use Rattle.std.proofs.lemmas.Bool.{cases_Bool, cases_lt, lt-ltb, le-ltb}
use Rattle.std.proofs.lemmas.List.{length-take-le, take-append-le, take_all}
use Rattle.bus_base.specs.Samples.{is_quiet}
use Rattle.bus_base.specs.declared.samples.Sample.{Sample}
use Rattle.bus_base.specs.declared.samples.Sample.TheVariants.{Quiet}
use Rattle.bus_words.specs.declared.word.Word.{Word}
use Rattle.bus_line.specs.Past.{Burst, runs, first_tick, ended_now, end_of, rest_of, heard_or_now}
use Rattle.bus_line.proofs.PastLaws.{rests-more, runs-pulse, first_tick-begins}
use Rattle.bus_line.proofs.TickLaws.{quiet-sample}
use Rattle.bus_formats.specs.declared.form.Reading.{Reading}
use Rattle.bus_formats.specs.declared.form.Reading.TheVariants.{Good, Ends}
use Rattle.bus_formats.specs.Forms.{answers_of}
use Rattle.bus_formats.specs.declared.plan.Kind.{Kind}
use Rattle.bus_monitor.specs.Messages.{Closed, Waiting, opened, opens, opening, closed_by, waits_after, answer_read, waits_on}
use Rattle.bus_monitor.specs.Listings.{running_on}
use Rattle.bus_monitor.specs.Awaited.{closes_of, waits_of}
use Rattle.bus_monitor.specs.Steps.{closed_in, waits_in, kept_with, opens_next, well_next, answered_next, burst_next}
use Rattle.bus_monitor.specs.declared.waiting.Next.TheVariants as nexts
use Rattle.bus_monitor.proofs.PastLaws.{RunsOn, runs-on}

-- ---- a tick in which no burst ends

pub running-is : (k : ℕ) (past : List Sample) (b : Bool) → runs k past ≡ b → running_on k past ≡ (if b then Some (first_tick k past) else None)
running-is k past b e = ap (λ c. if c then Some (first_tick k past) else None) e

-- the burst that ran runs on, or one begins with a sample that isn't quiet
pub running-step : (k : ℕ) (x : Sample) (past : List Sample) → ended_now k (x ∷ past) ≡ None →
    heard_or_now x (length past) (running_on k past) ≡ running_on k (x ∷ past)
running-step k x past none = elim (cases_Bool (runs k past)) [
  | inl ran ↦ (
      let on : RunsOn k x past = runs-on k x past none in
      ap (heard_or_now x (length past)) (running-is k past true ran) ∙ ap Some (sym (on.same ran)) ∙ sym (running-is k (x ∷ past) true (on.on ran)))
  | inr off ↦ elim (cases_Bool (is_quiet x)) [
    | inl q ↦ rw (quiet-sample x q)
        (ap (heard_or_now Quiet (length past)) (running-is k past false off) ∙ sym (running-is k (Quiet ∷ past) false (rests-more k past off)))
    | inr pulse ↦ (
        ap (heard_or_now x (length past)) (running-is k past false off) ∙ ap (λ q. if q then None else Some (length past)) pulse
        ∙ ap Some (sym (first_tick-begins k x past off pulse)) ∙ sym (running-is k (x ∷ past) true (runs-pulse k x past pulse)))
  ]
]

pub some-if : (b : Bool) (n : ℕ) → is_some (if b then Some n else None) ≡ b
some-if true n = refl
some-if false n = refl

-- what is kept of one slot more
pub kept-more : (slots : List (Option Word)) (word : Option Word) → kept_with (take 34 slots) word ≡ take 34 (slots ++ word ∷ [])
kept-more slots word = elim (cases_lt (length slots) 34) [
  | inl less ↦ (let all : take 34 slots ≡ slots = take_all 34 slots (omega (arith, less)) in
      let room : nat_lt (length slots) 34 ≡ true = lt-ltb (length slots) 34 less in
      let more : take 34 (slots ++ word ∷ []) ≡ slots ++ word ∷ [] = take_all 34 (slots ++ word ∷ []) (omega (arith, less, length-append slots (word ∷ []))) in
      rw (all, room, more) refl)
  | inr full ↦ (let count : length (take 34 slots) ≡ 34 = length-take-le 34 slots (omega (arith, full)) in
      let none : nat_lt (length (take 34 slots)) 34 ≡ false = le-ltb (length (take 34 slots)) 34 (omega (arith, count)) in
      let same : take 34 (slots ++ word ∷ []) ≡ take 34 slots = take-append-le 34 slots (word ∷ []) (omega (arith, full)) in
      rw (none, same) refl)
]

-- ---- what a burst leaves

choice-closes : (b : Bool) (w : Waiting) (c : Closed) → closed_in (if b then nexts.Waits w else nexts.Closed c) ≡ (if b then [] else c ∷ [])
choice-closes true w c = refl
choice-closes false w c = refl

choice-waits : (b : Bool) (w : Waiting) (c : Closed) → waits_in (if b then nexts.Waits w else nexts.Closed c) ≡ (if b then Some w else None)
choice-waits true w c = refl
choice-waits false w c = refl

opens-closed : (k : ℕ) (burst : Burst) (kind : Option Kind) →
    closed_in (opens_next burst.first (end_of burst) (end_of burst + k) kind) ≡ opened k burst kind
opens-closed k burst None = refl
opens-closed k burst (Some kind) = choice-closes (is_some (answers_of kind).first) _ _

opens-waits : (k : ℕ) (burst : Burst) (kind : Option Kind) →
    waits_in (opens_next burst.first (end_of burst) (end_of burst + k) kind) ≡ opens k burst kind
opens-waits k burst None = refl
opens-waits k burst (Some kind) = choice-waits (is_some (answers_of kind).first) _ _

well-closed : (k end status : ℕ) (w : Waiting) (more : Bool) → waits_on w ≡ more →
    closed_in (well_next w end (end + k) status more) ≡ closed_by k w end (Good status)
well-closed k end status w true is = rw is refl
well-closed k end status w false is = rw is refl

well-waits : (k end status : ℕ) (w : Waiting) (more : Bool) → waits_on w ≡ more →
    waits_in (well_next w end (end + k) status more) ≡ waits_after k w end (Good status)
well-waits k end status w true is = rw is refl
well-waits k end status w false is = rw is refl

answers-closed : (k end : ℕ) (w : Waiting) (reading : Reading) → closed_in (answered_next w end (end + k) reading) ≡ closed_by k w end reading
answers-closed k end w (Good status) = well-closed k end status w (waits_on w) refl
answers-closed k end w (Ends outcome status) = refl

answers-waits : (k end : ℕ) (w : Waiting) (reading : Reading) → waits_in (answered_next w end (end + k) reading) ≡ waits_after k w end reading
answers-waits k end w (Good status) = well-waits k end status w (waits_on w) refl
answers-waits k end w (Ends outcome status) = refl

pub next-closed : (k : ℕ) (w : Option Waiting) (burst : Burst) →
    closed_in (burst_next w burst.first (end_of burst) (end_of burst + k) burst.slots (rest_of burst)) ≡ closes_of k w burst
next-closed k None burst = opens-closed k burst (opening k burst)
next-closed k (Some w) burst = answers-closed k (end_of burst) w (answer_read k w burst)

pub next-waits : (k : ℕ) (w : Option Waiting) (burst : Burst) →
    waits_in (burst_next w burst.first (end_of burst) (end_of burst + k) burst.slots (rest_of burst)) ≡ waits_of k w burst
next-waits k None burst = opens-waits k burst (opening k burst)
next-waits k (Some w) burst = answers-waits k (end_of burst) w (answer_read k w burst)
