-- A tick without an order, and what is common to all states in a tick.
use Rattle.std.proofs.Common.{◌≡◌, ℕ, ◌+◌, ◌^◌, ◌<◌, ◌≤◌, Bool, true, false, not, ◌&&◌, ◌||◌, ◌==◌, List, ◌∷◌, length, Option, Some, None, refl, sym, ap, ◌∙◌, subst, arith, inl, inr, ◌⊎◌}
use Rattle.std.specs.Prelude.{is_some, IfSome}
use Rattle.std.proofs.lemmas.Bool.Decides.{nat_tests}
use Rattle.bus_base.specs.Samples.{same_channel, other_of}
use Rattle.bus_base.specs.declared.samples.Channel.{Channel}
use Rattle.bus_base.specs.declared.samples.Channel.TheVariants.{A, B}
use Rattle.bus_base.specs.declared.samples.Sample.{Sample}
use Rattle.bus_line.specs.Past.{heard_within, end_since, slot_now}
use Rattle.bus_line.proofs.EndLaws.{end_since-stays, end_since-late}
use Rattle.bus_formats.specs.Plans.{TerminalData}
use Rattle.bus_model.specs.Memory.{TimedLoad}
use Rattle.bus_model.specs.Orders.{Duty, free, owes, promises, due_after}
use Rattle.bus_model.specs.Hearing.{Moment, heard_on, is_addressed}
use Rattle.bus_model.specs.Standing.{Standing, Handled, mark_on, ignored_from, is_from, superseded, is_owed, is_promise}
use Rattle.bus_model.specs.Terminal.{marked_by, order_now, after_tick, ordered, taken_by, addressed_on, sent_on, begins, given_up, is_over, running_out}
use Rattle.bus_terminal.specs.Holding.{EarsStand, Listens}
use Rattle.bus_terminal.specs.Handling.{HandledIs, AreHandled, EndFits, Awaits}
use Rattle.bus_terminal.specs.Stands.{CommonStands, rests}
use Rattle.bus_terminal.specs.declared.common.Common.{Common}
use Rattle.bus_terminal.specs.declared.common.Ears.{Ears}
use Rattle.bus_terminal.specs.declared.handling.Handled.{Handled as HandledTold}
use Rattle.bus_terminal.specs.declared.handling.Handled.TheVariants as told
use Rattle.bus_model.specs.Standing.{obeys, settles, runs_out}
use Rattle.bus_terminal.proofs.Heard.{length-heard}
use Rattle.bus_terminal.proofs.Loads.{loads-same, made-more}
use Rattle.bus_terminal.proofs.Within.{within-stays, or-true}
use Rattle.bus_terminal.proofs.Standing.{by-test}
use Rattle.bus_terminal.proofs.Ends.{Ends, ended-place}
use Rattle.bus_terminal.proofs.Newest.{marked-tick, newest-tick, mark-before}

-- ---- what the code found

pub none-handled : (s : Standing) (a : Option HandledTold) (o : Option Handled) → AreHandled a o s → a ≡ None → o ≡ None
none-handled s None None h e = refl
none-handled s None (Some order) h e = absurd h
none-handled s (Some handled) o h e = cc

pub some-handled : (s : Standing) (a : Option HandledTold) (handled : HandledTold) (o : Option Handled) → AreHandled a o s → a ≡ Some handled →
    (order : Handled) × (o ≡ Some order) × HandledIs handled order s
some-handled s None handled o h e = cc
some-handled s (Some found) handled None h e = absurd h
some-handled s (Some found) handled (Some order) h e =
    let same : found ≡ handled = cc in (order, refl, subst (λ (x : HandledTold). HandledIs x order s) same h)

pub handled-fits : (k : ℕ) (heard : List Moment) (s : Standing) (handled : HandledTold) (order : Handled) → HandledIs handled order s → Ends k heard s order →
    s.end < 2 ^ 60 → length heard ≤ 2 ^ 60 → EndFits handled
handled-fits k heard s (told.Obeys c command burst) (obeys channel end order rest) is (ended, e, at) low small =
    omega (arith, is.end_is, at, (ended-place k (heard_on channel heard) ended e).0, length-heard channel heard, small)
handled-fits k heard s (told.Settles w burst) (settles end slots rest) is (ended, e, at) low small =
    omega (arith, is.end_is, at, (ended-place k (heard_on s.channel heard) ended e).0, length-heard s.channel heard, small)
handled-fits k heard s (told.RunsOut w) runs_out is ends low small = omega (arith, is.end, low)
handled-fits k heard s (told.Obeys c command burst) (settles end slots rest) is ends low small = absurd is
handled-fits k heard s (told.Obeys c command burst) runs_out is ends low small = absurd is
handled-fits k heard s (told.Settles w burst) (obeys channel end order rest) is ends low small = absurd is
handled-fits k heard s (told.Settles w burst) runs_out is ends low small = absurd is
handled-fits k heard s (told.RunsOut w) (obeys channel end order rest) is ends low small = absurd is
handled-fits k heard s (told.RunsOut w) (settles end slots rest) is ends low small = absurd is

-- ---- a tick without an order

pub tick-none : (k : ℕ) (terminal : TerminalData) (loads : List TimedLoad) (past : List Moment) (now : Moment) (s : Standing) →
    order_now k terminal (now ∷ past) s ≡ None →
    after_tick k terminal loads now past s ≡ marked_by k terminal now past s s
tick-none k terminal loads past now s e = ap (λ (o : Option Handled). marked_by k terminal now past s (ordered k terminal loads (length past) now.has_items s o)) e

pub taken-none : (k : ℕ) (terminal : TerminalData) (loads : List TimedLoad) (past : List Moment) (now : Moment) (s : Standing) →
    order_now k terminal (now ∷ past) s ≡ None →
    taken_by k terminal loads (length past) now.has_items s (order_now k terminal (now ∷ past) s) ≡ None
taken-none k terminal loads past now s e = ap (λ (o : Option Handled). taken_by k terminal loads (length past) now.has_items s o) e

pub common-same : (k : ℕ) (terminal : TerminalData) (loads : List TimedLoad) (common : Common) (ears : Ears) (past : List Moment) (now : Moment)
    (s : Standing) →
    CommonStands k terminal loads common past s → EarsStand k terminal.address ears (now ∷ past) (marked_by k terminal now past s s) →
    CommonStands k terminal loads (record { plan = common.plan; memory = common.memory; ears = ears }) (now ∷ past) (marked_by k terminal now past s s)
common-same k terminal loads common ears past now s st hear = record {
  plan = st.plan;
  fits = st.fits;
  memory = st.memory ∙ sym (loads-same terminal.address (length past) loads s.memory st.made);
  absorbed = loads-same terminal.address (length past) loads common.memory st.made ∙ st.absorbed;
  made = made-more terminal.address (length past) loads st.made;
  ears = hear;
  ended = omega (arith, st.ended);
  marked = marked-tick k terminal now past s s (omega (arith, st.fits.lag)) st.marked;
  newest = λ left. let before = st.newest left in
      newest-tick k terminal now past s s (omega (arith, before.handled)) (mark-before k terminal.address common.ears past s
      (other_of s.channel) st.ears) before.newest;
}

-- ---- marks

from-below : (t n : ℕ) (o : Option ℕ) → IfSome o (λ m. m < n) → is_from t o ≡ true → is_from t (Some n) ≡ true
from-below t n None h e = cc
from-below t n (Some m) h e = grind (arith, nat_tests, h, e)

mark-of : (k : ℕ) (terminal : TerminalData) (now : Moment) (past : List Moment) (s : Standing) (c : Channel) →
    mark_on (marked_by k terminal now past s s).addressed c ≡ addressed_on k terminal (now ∷ past) s c
mark-of k terminal now past s A = refl
mark-of k terminal now past s B = refl

pub sent-of : (k : ℕ) (terminal : TerminalData) (now : Moment) (past : List Moment) (s : Standing) (c : Channel) →
    mark_on (marked_by k terminal now past s s).sent c ≡ sent_on k terminal past s c
sent-of k terminal now past s A = refl
sent-of k terminal now past s B = refl

pub superseded-stays : (k own : ℕ) (terminal : TerminalData) (ears : Ears) (now : Moment) (past : List Moment) (s : Standing) → EarsStand k own ears past s →
    superseded k s ≡ true → superseded k (marked_by k terminal now past s s) ≡ true
superseded-stays k own terminal ears now past s st h =
    let c : Channel = other_of s.channel in
    ap (is_from (s.end + k)) (mark-of k terminal now past s (other_of s.channel))
    ∙ by-test (λ (o : Option ℕ). is_from (s.end + k) o ≡ true)
    (is_addressed terminal.address (slot_now k (heard_on (other_of s.channel) (now ∷ past))) && not (ignored_from k (heard_on
    (other_of s.channel) past) (mark_on s.sent (other_of s.channel))))
    (Some (length past)) (mark_on s.addressed (other_of s.channel))
    (λ _. from-below (s.end + k) (length past) (mark_on s.addressed (other_of s.channel)) (mark-before k own ears past s (other_of s.channel) st) h)
    (λ _. h)

-- ---- what counts no more stays so

or-cases : (a b : Bool) → (a || b) ≡ true → (a ≡ true) ⊎ (b ≡ true)
or-cases true b h = inl refl
or-cases false b h = inr h

over-stays : (k a : ℕ) (x : Sample) (past : List Sample) (o : Option ℕ) → end_since k past a ≡ o → is_some o ≡ true → is_some (end_since k (x ∷ past) a) ≡ true
over-stays k a x past None e h = cc
over-stays k a x past (Some end) e h = ap is_some (end_since-stays k x past a end e)

three-true : (a b c : Bool) → ((a ≡ true) ⊎ (b ≡ true)) ⊎ (c ≡ true) → ((a || b) || c) ≡ true
three-true a b c (inl (inl h)) = rw h refl
three-true true b c (inl (inr h)) = refl
three-true false b c (inl (inr h)) = rw h refl
three-true a b c (inr h) = rw h (or-true (a || b))

pub rests-stays : (k own : ℕ) (terminal : TerminalData) (ears : Ears) (now : Moment) (past : List Moment) (s : Standing) (d : Duty) →
    EarsStand k own ears past s →
    rests k terminal past s d ≡ true → rests k terminal (now ∷ past) (marked_by k terminal now past s s) d ≡ true
rests-stays k own terminal ears now past s free st h = refl
rests-stays k own terminal ears now past s (promises command transmitter) st h = superseded-stays k own terminal ears now past s st h
rests-stays k own terminal ears now past s (owes words acceptance) st h =
    let due : ℕ = due_after terminal s.end in
    three-true (superseded k (marked_by k terminal now past s s)) (heard_within (heard_on s.channel (now ∷ past)) s.end due) (is_some (end_since k
    (heard_on s.channel (now ∷ past)) due))
    (elim (or-cases (superseded k s || heard_within (heard_on s.channel past) s.end due) (is_some (end_since k (heard_on s.channel past) due)) h) [
      | inl up ↦ elim (or-cases (superseded k s) (heard_within (heard_on s.channel past) s.end due) up) [
        | inl newer ↦ inl (inl (superseded-stays k own terminal ears now past s st newer))
        | inr heard ↦ inl (inr (within-stays _ (heard_on s.channel past) s.end due heard))
      ]
      | inr over ↦ inr (over-stays k due _ (heard_on s.channel past) (end_since k (heard_on s.channel past) due) refl over)
    ])

-- ---- a state that owes nothing

over-late : (k a n : ℕ) (past : List Sample) (o : Option ℕ) → length past ≡ n → end_since k past a ≡ o → is_some o ≡ true → (n == a) ≡ false
over-late k a n past None here e h = cc
over-late k a n past (Some end) here e h = let late : a < length past = end_since-late k past a end e in grind (arith, nat_tests, late, here)

rests-begin : (k : ℕ) (terminal : TerminalData) (past : List Moment) (s : Standing) (d : Duty) → rests k terminal past s d ≡ true →
    (is_owed d && (length past == due_after terminal s.end) && not (given_up k terminal (heard_on s.channel past) s)) ≡ false
rests-begin k terminal past s free h = refl
rests-begin k terminal past s (promises command transmitter) h = refl
rests-begin k terminal past s (owes words acceptance) h =
    elim (or-cases (given_up k terminal (heard_on s.channel past) s) (is_over k terminal (heard_on s.channel past) s) h) [
      | inl up ↦ none-last (length past == due_after terminal s.end) (given_up k terminal (heard_on s.channel past) s) up
      | inr over ↦ none-first (length past == due_after terminal s.end) (not (given_up k terminal (heard_on s.channel past) s))
          (over-late k (due_after terminal s.end) (length past) (heard_on s.channel past) (end_since k (heard_on s.channel past)
          (due_after terminal s.end)) (length-heard s.channel past) refl over)
    ] where
      none-last : (b u : Bool) → u ≡ true → (b && not u) ≡ false
      none-last true u h = rw h refl
      none-last false u h = refl

      none-first : (b u : Bool) → b ≡ false → (b && u) ≡ false
      none-first b u h = rw h refl

and-false : (b c : Bool) → b ≡ false → false ≡ (b && c)
and-false b c h = rw h refl

pub listens-none : (k : ℕ) (terminal : TerminalData) (past : List Moment) (s : Standing) → begins k terminal past s ≡ false → Listens k terminal None past s
listens-none k terminal past s h = λ c. and-false (begins k terminal past s) (same_channel s.channel c) h

pub rests-listens : (k : ℕ) (terminal : TerminalData) (past : List Moment) (s : Standing) → rests k terminal past s s.duty ≡ true →
    Listens k terminal None past s
rests-listens k terminal past s h = listens-none k terminal past s (rests-begin k terminal past s s.duty h)

rests-promise : (k : ℕ) (terminal : TerminalData) (past : List Moment) (s : Standing) (d : Duty) (same : Bool) → rests k terminal past s d ≡ true →
    (is_promise d && same && not (superseded k s)) ≡ false
rests-promise k terminal past s free same h = refl
rests-promise k terminal past s (owes words acceptance) same h = refl
rests-promise k terminal past s (promises command transmitter) true h = rw h refl
rests-promise k terminal past s (promises command transmitter) false h = refl

pub rests-awaits : (k : ℕ) (terminal : TerminalData) (past : List Moment) (s : Standing) → rests k terminal past s s.duty ≡ true → Awaits k None s
rests-awaits k terminal past s h = λ c. rests-promise k terminal past s s.duty (same_channel s.channel c) h

-- without a promise none runs out
pub none-out : (k : ℕ) (terminal : TerminalData) (heard : List Moment) (s : Standing) → Awaits k None s → AreHandled None (running_out k terminal heard s) s
none-out k terminal heard s h = rw (h s.channel) tt
