-- What the last order left is newer than the commands on the other channel, with one tick more.
use Rattle.std.proofs.Common.{◌≡◌, ℕ, suc, ◌+◌, ◌-◌, ◌<◌, ◌≤◌, Bool, true, false, ◌&&◌, List, ◌∷◌, length, Option, Some, None, refl, sym, ap, ◌∙◌, subst, arith, inl, inr, ◌⊎◌, if◌then◌else◌}
use Rattle.std.specs.Prelude.{min, is_some, IfSome}
use Rattle.std.proofs.lemmas.Bool.{cases_Bool, cases_lt}
use Rattle.std.proofs.lemmas.Bool.Decides.{nat_tests}
use Rattle.bus_base.specs.Samples.{other_of, sample_on}
use Rattle.bus_base.specs.declared.samples.Channel.{Channel}
use Rattle.bus_base.specs.declared.samples.Channel.TheVariants.{A, B}
use Rattle.bus_base.specs.declared.samples.Sample.{Sample}
use Rattle.bus_words.specs.declared.word.Word.{Word}
use Rattle.bus_line.specs.Past.{quiet, runs, quiet_ticks, slot_now, end_since, end_or_now}
use Rattle.bus_line.specs.Cutting.{Tells, Collects, cut_now, running_slots}
use Rattle.bus_line.specs.declared.cutter.Cut.{Cut}
use Rattle.bus_line.specs.declared.cutter.Cut.TheVariants as cuts
use Rattle.bus_line.proofs.PastLaws.{runs-parts}
use Rattle.bus_line.proofs.EndLaws.{end_since-early, end_since-now}
use Rattle.bus_line.proofs.CollectLaws.{running-off, cut-collects}
use Rattle.bus_line.proofs.CutNow.{cut-tells}
use Rattle.bus_line.proofs.CutLaws.{rests-alone}
use Rattle.bus_formats.specs.Plans.{TerminalData}
use Rattle.bus_ears.specs.Ears.{addressed_by}
use Rattle.bus_ears.proofs.Slots.{longer, push-other}
use Rattle.bus_model.specs.Memory.{Memory}
use Rattle.bus_model.specs.Orders.{last_order, command_for}
use Rattle.bus_model.specs.Hearing.{Moment, heard_on, is_addressed}
use Rattle.bus_model.specs.Standing.{Standing, mark_on, ignored_from, is_from, is_newer, at_rest}
use Rattle.bus_model.specs.Terminal.{marked_by, sent_on, addressed_on}
use Rattle.bus_terminal.specs.Quiet.{quiet_moments}
use Rattle.bus_terminal.specs.Holding.{EarsStand}
use Rattle.bus_terminal.specs.Newest.{IsMarked, AreMarked, IsNewest}
use Rattle.bus_terminal.specs.declared.common.Ears.{Ears}
use Rattle.bus_terminal.proofs.Heard.{length-heard}
use Rattle.bus_terminal.proofs.Quiet.{quiet-heard}

-- ---- an ignored channel

-- too few quiet ticks make no end
few-more : (k counted tick : ℕ) → counted ≤ k → end_or_now k counted tick None ≡ None
few-more k counted tick few = grind (arith, nat_tests, few)

-- what has no end has none after a tick with at most k quiet ticks in a row
endless : (k : ℕ) (x : Sample) (past : List Sample) (first : ℕ) → quiet (x ∷ past) ≤ k → end_since k past first ≡ None → end_since k (x ∷ past) first ≡ None
endless k x past first few none = elim (cases_lt (length past) first) [
  | inl early ↦ end_since-early k (x ∷ past) first (omega (arith, early))
  | inr late ↦ end_since-now k x past first late
      ∙ (rw none (few-more k (min (quiet (x ∷ past)) (suc (length past) - first)) (length past) (omega (arith, few))))
]

-- so a channel that was ignored is ignored while the burst runs
ignored-on : (k : ℕ) (x : Sample) (past : List Sample) (sent : Option ℕ) → quiet (x ∷ past) ≤ k → ignored_from k past sent ≡ true →
    ignored_from k (x ∷ past) sent ≡ true
ignored-on k x past None few h = h
ignored-on k x past (Some first) few h =
    let none : end_since k past first ≡ None = grind (arith, h) in rw (endless k x past first few none) refl

-- a channel is ignored in the first tick of an own transmission
ignored-now : (k : ℕ) (x : Sample) (past : List Sample) → quiet (x ∷ past) ≤ k → ignored_from k (x ∷ past) (Some (length past)) ≡ true
ignored-now k x past few = rw (endless k x past (length past) few (end_since-early k past (length past) (omega arith))) refl

-- a channel that isn't ignored wasn't before, while the burst runs
heeded : (k : ℕ) (x : Sample) (past : List Sample) (sent later : Option ℕ) → quiet (x ∷ past) ≤ k → (later ≡ sent) ⊎ (later ≡ Some (length past)) →
    ignored_from k (x ∷ past) later ≡ false → ignored_from k past sent ≡ false
heeded k x past sent later few (inr now) h =
    (let no : true ≡ false = sym (ignored-now k x past few) ∙ ap (ignored_from k (x ∷ past)) (sym now) ∙ h in cc)
heeded k x past sent later few (inl same) h = elim (cases_Bool (ignored_from k past sent)) [
  | inl ignored ↦ (let no : true ≡ false = sym (ignored-on k x past sent few ignored) ∙ ap (ignored_from k (x ∷ past)) (sym same) ∙ h in cc)
  | inr free ↦ free
]

-- ---- a command on a channel that isn't ignored leaves a mark

-- where a tick leaves no mark, no addressed slot ended in it and there was none
unmarked-by : (b : Bool) (tick : ℕ) (addressed : Option ℕ) → (if b && true then Some tick else addressed) ≡ None → (b ≡ false) × (addressed ≡ None)
unmarked-by true tick addressed h = cc
unmarked-by false tick addressed h = (refl, h)

-- an option without a value
none-some : (o : Option ℕ) → is_some o ≡ false → o ≡ None
none-some None h = refl
none-some (Some n) h = cc

-- a cut that leaves no mark adds no command to the slots of the burst that runs
by-cut : (k own tick : ℕ) (past : List Sample) (old new : List (Option Word)) (addressed : Option ℕ) (cut : Cut) → Tells k past cut → Collects cut old new →
    (addressed ≡ None → last_order own old ≡ None) → addressed_by own tick (slot_now k past) false addressed ≡ None → last_order own new ≡ None
by-cut k own tick past old new addressed cuts.Nothing tells same before none =
    let parts = unmarked-by (is_addressed own (slot_now k past)) tick addressed none in
    rw same (before parts.1)
by-cut k own tick past old new addressed (cuts.Slot i word) tells more before none =
    let parts = unmarked-by (is_addressed own (slot_now k past)) tick addressed none in
    let other : command_for own word ≡ None = none-some (command_for own word) (ap (is_addressed own) (sym tells.1) ∙ parts.0) in
    rw more.1 (push-other own old word other ∙ ap (longer word) (before parts.1))
by-cut k own tick past old new addressed (cuts.Ended slots rest) tells gone before none = rw gone.1 refl

-- one channel with a tick more
pub marked-more : (k own tick : ℕ) (x : Sample) (past : List Sample) (sent later addressed : Option ℕ) → k ≤ 39 → length past ≡ tick →
    IsMarked k own past sent addressed →
    (later ≡ sent) ⊎ (later ≡ Some tick) → IsMarked k own (x ∷ past) later (addressed_by own tick (slot_now k (x ∷ past)) (ignored_from k past sent) addressed)
marked-more k own tick x past sent later addressed small here before sending = λ free none. elim (cases_Bool (runs k (x ∷ past))) [
  | inr off ↦ ap (last_order own) (running-off k (x ∷ past) off)
  | inl on ↦ (
      let heard : ignored_from k past sent ≡ false =
      heeded k x past sent later (runs-parts k (x ∷ past) on).1 (subst (λ (n : ℕ). (later ≡ sent) ⊎ (later ≡ Some n)) (sym here) sending) free in
      by-cut k own tick (x ∷ past) (running_slots k past) (running_slots k (x ∷ past)) addressed (cut_now k (x ∷ past)) (cut-tells k (x ∷ past))
      (cut-collects k x past small)
      (λ bare. before heard bare)
      (subst (λ (b : Bool). addressed_by own tick (slot_now k (x ∷ past)) b addressed ≡ None) heard none))
]

-- ---- the marks of a tick

-- a mark is the old one or that of the tick
either : {X : Type 0} (b : Bool) (x y : X) → ((if b then x else y) ≡ y) ⊎ ((if b then x else y) ≡ x)
either true x y = inr refl
either false x y = inl refl

-- of the own transmissions
pub sent-either : (k : ℕ) (terminal : TerminalData) (past : List Moment) (s : Standing) (c : Channel) →
    (sent_on k terminal past s c ≡ mark_on s.sent c) ⊎ (sent_on k terminal past s c ≡ Some (length past))
sent-either k terminal past s c = either _ (Some (length past)) (mark_on s.sent c)

-- of the addressed slots
pub addressed-either : (k : ℕ) (terminal : TerminalData) (now : Moment) (past : List Moment) (s : Standing) (c : Channel) →
    (addressed_on k terminal (now ∷ past) s c ≡ mark_on s.addressed c) ⊎ (addressed_on k terminal (now ∷ past) s c ≡ Some (length past))
addressed-either k terminal now past s c = either _ (Some (length past)) (mark_on s.addressed c)

-- the mark of the addressed slots after a tick, by channel
addressed-of : (k : ℕ) (terminal : TerminalData) (now : Moment) (past : List Moment) (s after : Standing) (c : Channel) →
    mark_on (marked_by k terminal now past s after).addressed c ≡ addressed_on k terminal (now ∷ past) s c
addressed-of k terminal now past s after A = refl
addressed-of k terminal now past s after B = refl

-- and that of the own transmissions
pub sent-of : (k : ℕ) (terminal : TerminalData) (now : Moment) (past : List Moment) (s after : Standing) (c : Channel) →
    mark_on (marked_by k terminal now past s after).sent c ≡ sent_on k terminal past s c
sent-of k terminal now past s after A = refl
sent-of k terminal now past s after B = refl

-- both channels, whatever the tick leaves
pub marked-tick : (k : ℕ) (terminal : TerminalData) (now : Moment) (past : List Moment) (s after : Standing) → k ≤ 39 → AreMarked k terminal.address past s →
    AreMarked k terminal.address (now ∷ past) (marked_by k terminal now past s after)
marked-tick k terminal now past s after small h = record {
  on = λ c. rw (sent-of k terminal now past s after c, addressed-of k terminal now past s after c)
      (marked-more k terminal.address (length past) (sample_on now.shown c) (heard_on c past) (mark_on s.sent c) (sent_on k terminal past s c)
      (mark_on s.addressed c)
      small (length-heard c past) (h.on c) (sent-either k terminal past s c));
}

-- quiet ticks alone
pub marked-quiet : (k own n : ℕ) (memory : Memory) → AreMarked k own (quiet_moments n) (at_rest memory)
marked-quiet k own n memory = record {
  on = λ c free none. ap (λ (heard : List Sample). last_order own (running_slots k heard)) (quiet-heard c n)
      ∙ ap (last_order own) (running-off k (quiet_ticks n) (rests-alone k n));
}

-- ---- the newer of two commands

-- a mark of this tick on the channel leaves it the newer, and one on the other takes back what was left
newer-stays : (c : Channel) (from tick : ℕ) (this other this' other' : Option ℕ) → (is_from from other ≡ false → is_newer c this other ≡ true) →
    IfSome other (λ m. m < tick) →
    from ≤ tick → (this' ≡ this) ⊎ (this' ≡ Some tick) → (other' ≡ other) ⊎ (other' ≡ Some tick) → is_from from other' ≡ false → is_newer c this' other' ≡ true
newer-stays c from tick this other this' other' newer before low this_is (inr now) fresh =
    (let late : is_from from (Some tick) ≡ true = grind (arith, nat_tests, low) in let no : true ≡ false = sym late ∙ ap (is_from from) (sym now) ∙ fresh in cc)
newer-stays c from tick this other this' other' newer before low (inl same) (inl still) fresh =
    rw (same, still) (newer (ap (is_from from) (sym still) ∙ fresh))
newer-stays c from tick this other this' other' newer before low (inr now) (inl still) fresh = rw (now, still) (latest c tick other before) where
  latest : (c : Channel) (tick : ℕ) (other : Option ℕ) → IfSome other (λ m. m < tick) → is_newer c (Some tick) other ≡ true
  latest c tick None before = refl
  latest c tick (Some m) before = grind (arith, nat_tests, before)

-- what stands after a tick is newer, where it was by the marks before
pub newest-tick : (k : ℕ) (terminal : TerminalData) (now : Moment) (past : List Moment) (s after : Standing) → after.end + k ≤ length past →
    IfSome (mark_on s.addressed (other_of after.channel)) (λ m. m < length past) →
    (is_from (after.end + k) (mark_on s.addressed (other_of after.channel)) ≡ false →
    is_newer after.channel (mark_on s.addressed after.channel) (mark_on s.addressed (other_of after.channel)) ≡ true) →
    IsNewest k (suc (length past)) (marked_by k terminal now past s after)
newest-tick k terminal now past s after low before newer = record {
  handled = omega (arith, low);
  newest = λ fresh. rw (addressed-of k terminal now past s after after.channel, addressed-of k terminal now past s after (other_of after.channel))
      (newer-stays after.channel (after.end + k) (length past) (mark_on s.addressed after.channel) (mark_on s.addressed (other_of after.channel))
      (addressed_on k terminal (now ∷ past) s after.channel) (addressed_on k terminal (now ∷ past) s (other_of after.channel)) newer before low
      (addressed-either k terminal now past s after.channel) (addressed-either k terminal now past s (other_of after.channel))
      (ap (is_from (after.end + k)) (sym (addressed-of k terminal now past s after (other_of after.channel))) ∙ fresh));
}

-- each mark is of a tick that was heard
pub mark-before : (k own : ℕ) (ears : Ears) (past : List Moment) (s : Standing) (c : Channel) → EarsStand k own ears past s →
    IfSome (mark_on s.addressed c) (λ m. m < length past)
mark-before k own ears past s A st = subst (λ (n : ℕ). IfSome s.addressed.a (λ m. m < n)) (length-heard A past) st.on_a.before
mark-before k own ears past s B st = subst (λ (n : ℕ). IfSome s.addressed.b (λ m. m < n)) (length-heard B past) st.on_b.before
