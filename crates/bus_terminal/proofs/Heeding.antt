-- The channel of an order isn't ignored, in the tick of the order and after it.
use Rattle.std.proofs.Common.{◌≡◌, ℕ, suc, ◌<◌, ◌≤◌, Bool, true, false, not, ◌&&◌, ◌||◌, ◌==◌, List, [], ◌∷◌, length, Option, Some, None, refl, sym, ap, ◌∙◌, arith, inl, inr}
use Rattle.std.specs.Prelude.{is_none}
use Rattle.std.proofs.lemmas.Bool.{cases_Bool, eqb-true}
use Rattle.bus_base.specs.Samples.{same_channel, sample_on}
use Rattle.bus_base.specs.declared.samples.Channel.{Channel}
use Rattle.bus_base.specs.declared.samples.Sample.{Sample}
use Rattle.bus_base.specs.declared.samples.Sample.TheVariants.{Plus, Minus, Quiet}
use Rattle.bus_line.specs.Past.{Burst, quiet, stopped, ended_now, heard_within, end_since}
use Rattle.bus_line.proofs.PastLaws.{quiet-le}
use Rattle.bus_line.proofs.EndLaws.{end_since-stays}
use Rattle.bus_formats.specs.Plans.{TerminalData}
use Rattle.bus_formats.specs.Times.{dead_ticks}
use Rattle.bus_model.specs.Orders.{due_after}
use Rattle.bus_model.specs.Hearing.{Moment, heard_on}
use Rattle.bus_model.specs.Standing.{Standing, mark_on, ignored_from, is_owed, superseded}
use Rattle.bus_model.specs.Terminal.{given_up, begins, sent_on, marked_by}
use Rattle.bus_terminal.proofs.Heard.{length-heard}
use Rattle.bus_terminal.proofs.Within.{within-more}
use Rattle.bus_terminal.proofs.Ends.{ended-place, same-true}
use Rattle.bus_terminal.proofs.Newest.{sent-of}

-- ---- the last tick that isn't quiet

-- what was heard last was heard
pub last-within : (past : List Sample) (a b : ℕ) → a < stopped past → stopped past ≤ b → heard_within past a b ≡ true
last-within [] a b low high = absurd (omega (arith, low))
last-within (Plus ∷ past) a b low high = within-more Plus past a b (omega (arith, low)) ∙ grind (arith, high)
last-within (Minus ∷ past) a b low high = within-more Minus past a b (omega (arith, low)) ∙ grind (arith, high)
last-within (Quiet ∷ past) a b low high =
    let some : quiet past ≤ length past = quiet-le past in
    let rest : heard_within past a b ≡ true = last-within past a b (omega (arith, low, some)) (omega (arith, high, some)) in
    within-more Quiet past a b (omega (arith, low)) ∙ (rw rest refl)

-- the last tick of a burst's end is quiet, as the k ticks before it
pub quiet-before : (k : ℕ) (x : Sample) (past : List Sample) → quiet (x ∷ past) ≡ suc k → quiet past ≡ k
quiet-before k Plus past h = absurd (omega (arith, h))
quiet-before k Minus past h = absurd (omega (arith, h))
quiet-before k Quiet past h = omega (arith, h)

-- ---- no answer begins in the tick of an order on its channel

-- the parts of the test for an answer that begins
four-true : (p q r t : Bool) → (p && q && not r && t) ≡ true → (q ≡ true) × (r ≡ false) × (t ≡ true)
four-true true true false true h = (refl, refl, refl)
four-true true true false false h = cc
four-true true true true t h = cc
four-true true false r t h = cc
four-true false q r t h = cc

-- neither of two
or-second : (a b : Bool) → (a || b) ≡ false → b ≡ false
or-second false b h = h
or-second true b h = cc

-- its channel would have been quiet since the end of the burst that it answers, but a burst ended there later
begins-not : (k : ℕ) (terminal : TerminalData) (now : Moment) (past : List Moment) (s : Standing) (c : Channel) (burst : Burst) →
    suc k ≤ dead_ticks terminal.delay →
    ended_now k (heard_on c (now ∷ past)) ≡ Some burst → (begins k terminal past s && same_channel s.channel c) ≡ false
begins-not k terminal now past s c burst prompt e = elim (cases_Bool (begins k terminal past s && same_channel s.channel c)) [
  | inr none ↦ none
  | inl begun ↦ (
      let due : ℕ = due_after terminal s.end in
      let parts = four-true (is_owed s.duty) (length past == due) (given_up k terminal (heard_on s.channel past) s) (same_channel s.channel c) begun in
      let here : length past ≡ due = eqb-true (length past) due parts.0 in
      let on : s.channel ≡ c = same-true s.channel c parts.2 in
      let still : heard_within (heard_on s.channel past) s.end due ≡ false = or-second (superseded k s) (heard_within
      (heard_on s.channel past) s.end due) parts.1 in
      let before : quiet (heard_on c past) ≡ k = quiet-before k (sample_on now.shown c) (heard_on c past) (ended-place k (heard_on c (now ∷ past)) burst e).1 in
      let heard : heard_within (heard_on c past) s.end due ≡ true =
      last-within (heard_on c past) s.end due (omega (arith, before, length-heard c past, here, prompt)) (omega (arith, length-heard c past, here)) in
      let no : true ≡ false = sym heard ∙ ap (λ (d : Channel). heard_within (heard_on d past) s.end due) (sym on) ∙ still in
      cc)
]

-- ---- a channel that isn't ignored

-- an end that was found stays found
heeded-found : (k : ℕ) (x : Sample) (past : List Sample) (first : ℕ) (o : Option ℕ) → end_since k past first ≡ o → is_none o ≡ false →
    is_none (end_since k (x ∷ past) first) ≡ false
heeded-found k x past first None e h = cc
heeded-found k x past first (Some end) e h = ap is_none (end_since-stays k x past first end e)

-- a tick more ignores no channel by itself
pub heeded-stays : (k : ℕ) (x : Sample) (past : List Sample) (sent : Option ℕ) → ignored_from k past sent ≡ false → ignored_from k (x ∷ past) sent ≡ false
heeded-stays k x past None h = refl
heeded-stays k x past (Some first) h = heeded-found k x past first (end_since k past first) refl h

-- nor is it with a tick more, where no answer begins
pub heeded-tick : (k : ℕ) (terminal : TerminalData) (now : Moment) (past : List Moment) (s after : Standing) (c : Channel) →
    (begins k terminal past s && same_channel s.channel c) ≡ false → ignored_from k (heard_on c past) (mark_on s.sent c) ≡ false →
    ignored_from k (heard_on c (now ∷ past)) (mark_on (marked_by k terminal now past s after).sent c) ≡ false
heeded-tick k terminal now past s after c none free =
    let same : sent_on k terminal past s c ≡ mark_on s.sent c = rw none refl in
    ap (ignored_from k (heard_on c (now ∷ past))) (sent-of k terminal now past s after c ∙ same)
    ∙ heeded-stays k (sample_on now.shown c) (heard_on c past) (mark_on s.sent c) free

-- so it isn't after an order on it
pub heeded-order : (k : ℕ) (terminal : TerminalData) (now : Moment) (past : List Moment) (s after : Standing) (c : Channel) (burst : Burst) →
    suc k ≤ dead_ticks terminal.delay →
    ended_now k (heard_on c (now ∷ past)) ≡ Some burst → ignored_from k (heard_on c past) (mark_on s.sent c) ≡ false →
    ignored_from k (heard_on c (now ∷ past)) (mark_on (marked_by k terminal now past s after).sent c) ≡ false
heeded-order k terminal now past s after c burst prompt e free =
    heeded-tick k terminal now past s after c (begins-not k terminal now past s c burst prompt e) free
