-- An ear that stands for what its channel showed stands for it with one tick more, and tells what ended in that tick.
use Rattle.std.proofs.Common.{◌≡◌, ℕ, suc, ◌^◌, ◌<◌, ◌≤◌, Bool, true, false, List, [], ◌∷◌, ◌++◌, length, Option, Some, None, refl, sym, ap, ◌∙◌, subst, arith, if◌then◌else◌}
use Rattle.std.specs.Prelude.{is_some, IfSome}
use Rattle.bus_base.specs.declared.samples.Sample.{Sample}
use Rattle.bus_words.specs.declared.word.Word.{Word}
use Rattle.bus_line.specs.declared.cutter.Cut.{Cut}
use Rattle.bus_line.specs.declared.cutter.Cut.TheVariants as cuts
use Rattle.bus_line.specs.Past.{Slot, slot_now, ended_now, newest_burst}
use Rattle.bus_line.specs.Cutting.{cut_now, Tells, Collects, running_slots}
use Rattle.bus_model.specs.Orders.{command_for}
use Rattle.bus_model.specs.Standing.{ignored_from}
use Rattle.bus_ears.specs.Ears.{EarStands, Holds, Ignores, IsHeard, AreTold, told_if, sent_by, addressed_by}
use Rattle.bus_ears.specs.Steps.{EndFits, after_cut, is_end, with_slot, still_sending, sending_from}
use Rattle.bus_ears.specs.declared.ear.Ear.{Ear}
use Rattle.bus_ears.proofs.Slots.{holds-none, holds-command, holds-other}
use Rattle.bus_line.proofs.CollectLaws.{cut-collects}
use Rattle.bus_line.proofs.CutNow.{cut-tells}
use Rattle.bus_ears.proofs.Sending.{ignores-is, ignores-more}
use Rattle.bus_ears.proofs.Bursts.{ended-slots, ended-placed}

-- ---- marks

-- an earlier mark is before the next tick too
pub before-more : (addressed : Option ℕ) (n : ℕ) → IfSome addressed (λ tick. tick < n) → IfSome addressed (λ tick. tick < suc n)
before-more None n h = tt
before-more (Some tick) n h = omega (arith, h)

mark-none : (own tick : ℕ) (slot : Option Slot) (ignored : Bool) (addressed : Option ℕ) → slot ≡ None → addressed_by own tick slot ignored addressed ≡ addressed
mark-none own tick slot ignored addressed none = rw none refl

mark-other : (own tick : ℕ) (slot : Option Slot) (first : ℕ) (word : Option Word) (ignored : Bool) (addressed : Option ℕ) →
    slot ≡ Some record { first = first; word = word } → command_for own word ≡ None → addressed_by own tick slot ignored addressed ≡ addressed
mark-other own tick slot first word ignored addressed is none = rw (is, none) refl

mark-command : (own tick : ℕ) (slot : Option Slot) (first : ℕ) (word : Option Word) (ignored : Bool) (addressed : Option ℕ) (command : ℕ) →
    slot ≡ Some record { first = first; word = word } → command_for own word ≡ Some command →
    addressed_by own tick slot ignored addressed ≡ (if ignored then addressed else Some tick)
mark-command own tick slot first word true addressed command is found = rw (is, found) refl
mark-command own tick slot first word false addressed command is found = rw (is, found) refl

mark-before : (ignored : Bool) (addressed : Option ℕ) (n : ℕ) → IfSome addressed (λ tick. tick < n) → IfSome (if ignored then addressed else Some n) (λ tick. tick < suc n)
mark-before true addressed n h = before-more addressed n h
mark-before false addressed n h = omega arith

-- ---- one tick more

-- what an ear keeps, and its marks, after a cut
pub record IsAfter (most own n : ℕ) (ear : Ear) (slots : List (Option Word)) (marked : Option ℕ) : Type 0 where
  pub slots_are : Holds most own ear.command ear.slots.items slots
  pub mark : ear.addressed ≡ marked
  pub mark_before : IfSome marked (λ tick. tick < n)

pub after-slot : (most own : ℕ) (ear : Ear) (now : ℕ) (ignored : Bool) (old new : List (Option Word)) (slot : Option Slot) (first : ℕ) (word : Option Word)
    (addressed o : Option ℕ) → Holds most own ear.command ear.slots.items old → ear.addressed ≡ addressed → IfSome addressed (λ tick. tick < now) →
    slot ≡ Some record { first = first; word = word } → new ≡ old ++ word ∷ [] → command_for own word ≡ o →
    IsAfter most own (suc now) (with_slot most now ignored ear word o) new (addressed_by own now slot ignored addressed)
after-slot most own ear now ignored old new slot first word addressed None holds mark before is more e =
    let same : addressed_by own now slot ignored addressed ≡ addressed = mark-other own now slot first word ignored addressed is e in
    record {
      slots_are = rw more (holds-other most own ear.command ear.slots.items old word e holds);
      mark = mark ∙ sym same;
      mark_before = rw same (before-more addressed now before);
    }
after-slot most own ear now ignored old new slot first word addressed (Some command) holds mark before is more e =
    let marked : addressed_by own now slot ignored addressed ≡ (if ignored then addressed else Some now) =
    mark-command own now slot first word ignored addressed command is e in
    record {
      slots_are = rw more (holds-command most own old word command e);
      mark = rw mark (sym marked);
      mark_before = rw marked (mark-before ignored addressed now before);
    }

pub after-any : (k most own : ℕ) (ear : Ear) (now : ℕ) (ignored : Bool) (heard past : List Sample) (addressed : Option ℕ) (cut : Cut) →
    Holds most own ear.command ear.slots.items (running_slots k heard) → ear.addressed ≡ addressed → IfSome addressed (λ tick. tick < now) →
    Tells k past cut → Collects cut (running_slots k heard) (running_slots k past) →
    IsAfter most own (suc now) (after_cut k most own now cut ignored ear) (running_slots k past) (addressed_by own now (slot_now k past) ignored addressed)
after-any k most own ear now ignored heard past addressed cuts.Nothing holds mark before tells new =
    let same : addressed_by own now (slot_now k past) ignored addressed ≡ addressed = mark-none own now (slot_now k past) ignored addressed tells.1 in
    record { slots_are = rw new holds; mark = mark ∙ sym same; mark_before = rw same (before-more addressed now before) }
after-any k most own ear now ignored heard past addressed (cuts.Slot i word) holds mark before tells new =
    after-slot most own ear now ignored (running_slots k heard) (running_slots k past) (slot_now k past) _ word addressed (command_for own word)
    holds mark before tells.1 new.1 refl
after-any k most own ear now ignored heard past addressed (cuts.Ended slots rest) holds mark before tells new =
    let same : addressed_by own now (slot_now k past) ignored addressed ≡ addressed = mark-none own now (slot_now k past) ignored addressed tells.1 in
    record { slots_are = rw new.1 (holds-none most own); mark = mark ∙ sym same; mark_before = rw same (before-more addressed now before) }

-- ---- what is told

-- an ear that followed a cut keeps the burst that ended by it
pub told-any : (k most own : ℕ) (ear : Ear) (ignored : Bool) (x : Sample) (heard : List Sample) (cut : Cut) →
    Holds most own ear.command ear.slots.items (running_slots k heard) → Tells k (x ∷ heard) cut →
    AreTold most own (told_if (is_end cut) (after_cut k most own (length heard) cut ignored ear).last) (ended_now k (x ∷ heard))
told-any k most own ear ignored x heard cuts.Nothing holds tells = rw tells.0 tt
told-any k most own ear ignored x heard (cuts.Slot i word) holds tells = rw tells.0 tt
told-any k most own ear ignored x heard (cuts.Ended slots rest) holds tells =
    let placed = ended-placed k slots rest x heard tells in
    let same = ended-slots k x heard (newest_burst k (x ∷ heard)) tells.0 in
    rw tells.0 record {
      first = omega (arith, placed.place);
      end = omega (arith, placed.end);
      rest = sym placed.rest_is;
      slots = rw same holds;
    }

pub end-fits : (k : ℕ) (x : Sample) (heard : List Sample) (cut : Cut) → length heard < 2 ^ 60 → Tells k (x ∷ heard) cut → EndFits k (length heard) cut
end-fits k x heard cuts.Nothing small tells = tt
end-fits k x heard (cuts.Slot i word) small tells = tt
end-fits k x heard (cuts.Ended slots rest) small tells =
    let placed = ended-placed k slots rest x heard tells in (small, omega (arith, placed.place))

-- ---- the ear

-- a slot leaves the own transmission
slot-keeps : (most now : ℕ) (ignored : Bool) (ear : Ear) (o : Option ℕ) (word : Option Word) → (with_slot most now ignored ear word o).sending ≡ ear.sending
slot-keeps most now ignored ear None word = refl
slot-keeps most now ignored ear (Some command) word = refl

-- so does what became known
cut-keeps : (k most own now : ℕ) (cut : Cut) (ignored : Bool) (ear : Ear) → (after_cut k most own now cut ignored ear).sending ≡ ear.sending
cut-keeps k most own now cuts.Nothing ignored ear = refl
cut-keeps k most own now (cuts.Slot i word) ignored ear = slot-keeps most now ignored ear (command_for own word) word
cut-keeps k most own now (cuts.Ended slots rest) ignored ear = refl

-- an ear that follows what became known
pub ear-stands : (k most own : ℕ) (ear after : Ear) (x : Sample) (heard : List Sample) (sent addressed sending : Option ℕ) (begins ignored : Bool)
    (now : ℕ) (cut : Cut) →
    k ≤ 39 → EarStands k most own ear heard sent addressed → length heard ≡ now → ignored ≡ is_some ear.sending → cut ≡ cut_now k (x ∷ heard) →
    after ≡ after_cut k most own now cut ignored ear → sending ≡ still_sending k (sending_from begins after.sending) x →
    EarStands k most own (record after { sending = sending }) (x ∷ heard) (sent_by now begins sent)
    (addressed_by own now (slot_now k (x ∷ heard)) (ignored_from k heard sent) addressed)
ear-stands k most own ear after x heard sent addressed sending begins ignored now cut small st here ig is follows sends =
    let ignored_is : ignored ≡ ignored_from k heard sent = ig ∙ ignores-is k ear.sending heard sent st.ignores in
    let tells : Tells k (x ∷ heard) cut = rw is (cut-tells k (x ∷ heard)) in
    let collects : Collects cut (running_slots k heard) (running_slots k (x ∷ heard)) = rw is (cut-collects k x heard small) in
    let marks : IsAfter most own (suc now) (after_cut k most own now cut ignored ear) (running_slots k (x ∷ heard))
    (addressed_by own now (slot_now k (x ∷ heard)) ignored addressed) =
    after-any k most own ear now ignored heard (x ∷ heard) addressed cut st.slots st.addressed_is (rw (← here) st.before) tells collects in
    let same_sending : after.sending ≡ ear.sending = ap (λ (e : Ear). e.sending) follows ∙ cut-keeps k most own now cut ignored ear in
    let sends_more : Ignores k (still_sending k (sending_from begins ear.sending) x) (x ∷ heard) (sent_by (length heard) begins sent) =
    ignores-more k ear.sending begins x heard sent st.ignores in
    record {
      slots = rw follows marks.slots_are;
      addressed_is = rw (follows, ← ignored_is) marks.mark;
      before = subst (λ (n : ℕ). IfSome (addressed_by own now (slot_now k (x ∷ heard)) (ignored_from k heard sent) addressed) (λ tick. tick < suc n))
          (sym here) (rw (← ignored_is) marks.mark_before);
      ignores = rw (sends, same_sending, ← here) sends_more;
    }

pub ear-tells : (k most own : ℕ) (ear after : Ear) (x : Sample) (heard : List Sample) (sent addressed : Option ℕ) (ignored ended : Bool)
    (now : ℕ) (cut : Cut) →
    EarStands k most own ear heard sent addressed → length heard ≡ now → ignored ≡ is_some ear.sending → cut ≡ cut_now k (x ∷ heard) →
    after ≡ after_cut k most own now cut ignored ear → ended ≡ is_end cut →
    IsHeard k most own (record { burst = told_if ended after.last; ignored = ignored }) (x ∷ heard) (ignored_from k heard sent)
ear-tells k most own ear after x heard sent addressed ignored ended now cut st here ig is follows ends =
    let tells : Tells k (x ∷ heard) cut = rw is (cut-tells k (x ∷ heard)) in
    record {
      burst = rw (ends, follows, ← here) (told-any k most own ear ignored x heard cut st.slots tells);
      ignored_is = ig ∙ ignores-is k ear.sending heard sent st.ignores;
    }
