-- A terminal that doesn't need each tick, over a tick with which nothing becomes known.
use Rattle.std.proofs.Common.{◌≡◌, ℕ, ◌+◌, ◌≤◌, Bool, true, false, not, ◌&&◌, ◌||◌, ◌==◌, List, ◌∷◌, length, Option, Some, None, refl, sym, ap, ◌∙◌, subst, arith, if◌then◌else◌}
use Rattle.std.specs.Prelude.{is_some}
use Rattle.bus_base.specs.Samples.{is_quiet, sample_on, other_of}
use Rattle.bus_base.specs.declared.samples.Channel.{Channel}
use Rattle.bus_base.specs.declared.samples.Channel.TheVariants.{A, B}
use Rattle.bus_base.specs.declared.samples.Drive.TheVariants.{Silent}
use Rattle.bus_base.specs.declared.samples.Sample.{Sample}
use Rattle.bus_line.specs.declared.cutter.Cut.{Cut}
use Rattle.bus_line.specs.declared.cutter.Cut.TheVariants as kinds
use Rattle.bus_line.specs.Past.{slot_now, ended_now}
use Rattle.bus_line.specs.Cutting.{cut_now, Tells}
use Rattle.bus_line.proofs.CutNow.{cut-tells}
use Rattle.bus_receiver.specs.Nothing.{is_nothing, are_nothing}
use Rattle.bus_receiver.specs.declared.cutters.Cuts.{Cuts}
use Rattle.bus_formats.specs.Plans.{TerminalData}
use Rattle.bus_formats.specs.Times.{relay_wait}
use Rattle.bus_ears.specs.Ears.{EarStands, IsHeard, heard_of, sent_by, addressed_by}
use Rattle.bus_ears.specs.Steps.{still_sending}
use Rattle.bus_ears.specs.declared.ear.Ear.{Ear}
use Rattle.bus_ears.specs.declared.ear.TheConstants.{MOST_SLOTS}
use Rattle.bus_ears.proofs.EarLaws.{ear-stands, ear-tells}
use Rattle.bus_model.specs.Memory.{TimedLoad}
use Rattle.bus_model.specs.Hearing.{Moment, heard_on, is_addressed}
use Rattle.bus_model.specs.Standing.{Standing, mark_on, ignored_from, outrun, is_from, superseded}
use Rattle.bus_model.specs.Terminal.{marked_by, addressed_on, accepted_on}
use Rattle.bus_terminal.specs.Holding.{EarsStand, Listens, AreListened, listened_of}
use Rattle.bus_terminal.specs.Hearing.{HasListened}
use Rattle.bus_terminal.specs.Needs.{they_count, state_needs, BringsNothing}
use Rattle.bus_terminal.specs.Stands.{CommonStands, ListeningStands, PromisedStands, StateStands, NextStands}
use Rattle.bus_terminal.specs.Shown.{drive_told}
use Rattle.bus_terminal.specs.declared.common.BothHeard.{BothHeard}
use Rattle.bus_terminal.specs.declared.common.Common.{Common}
use Rattle.bus_terminal.specs.declared.common.Ears.{Ears}
use Rattle.bus_terminal.specs.declared.listening.Listening.{Listening}
use Rattle.bus_terminal.specs.declared.promised.Promised.{Promised}
use Rattle.bus_terminal.specs.declared.state.TerminalState.{TerminalState}
use Rattle.bus_terminal.specs.declared.state.TerminalState.TheVariants as states
use Rattle.bus_terminal.specs.declared.state.TerminalEvent.TheVariants as events
use Rattle.bus_terminal.proofs.Heard.{length-heard, ear-lands}
use Rattle.bus_terminal.proofs.PromisedTicks.{promised-listens}
use Rattle.bus_terminal.proofs.Staying.{listening-step, promised-step}
use Rattle.bus_terminal.proofs.Ticks.{rests-listens}

-- ---- what became known

-- neither of two is so
none-of : (a b : Bool) → (a || b) ≡ false → (a ≡ false) × (b ≡ false)
none-of true b h = absurd (cc)
none-of false b h = (refl, h)

-- both of two are
both-of : (a b : Bool) → (a && b) ≡ true → (a ≡ true) × (b ≡ true)
both-of true b h = (refl, h)
both-of false b h = absurd (cc)

is-nothing : (cut : Cut) → is_nothing cut ≡ true → cut ≡ kinds.Nothing
is-nothing kinds.Nothing h = refl
is-nothing (kinds.Slot i word) h = absurd (cc)
is-nothing (kinds.Ended slots rest) h = absurd (cc)

-- nothing became known on either channel
pub nothing-on : (k : ℕ) (now : Moment) (past : List Moment) → BringsNothing k now past → (c : Channel) →
    kinds.Nothing ≡ cut_now k (sample_on now.shown c ∷ heard_on c past)
nothing-on k now past none A =
    sym (is-nothing none.cuts.a (both-of (is_nothing none.cuts.a) (is_nothing none.cuts.b) none.nothing).0) ∙ ap (λ (cuts : Cuts). cuts.a) none.are
nothing-on k now past none B =
    sym (is-nothing none.cuts.b (both-of (is_nothing none.cuts.a) (is_nothing none.cuts.b) none.nothing).1) ∙ ap (λ (cuts : Cuts). cuts.b) none.are

-- so no slot ended
no-slot : (k : ℕ) (now : Moment) (past : List Moment) → BringsNothing k now past → (c : Channel) → slot_now k (heard_on c (now ∷ past)) ≡ None
no-slot k now past none c =
    (subst (λ (cut : Cut). Tells k (heard_on c (now ∷ past)) cut) (sym (nothing-on k now past none c)) (cut-tells k (heard_on c (now ∷ past)))).1

-- ---- the ears

-- an ear that counts nothing goes on so
still : (k : ℕ) (sending : Option ℕ) (x : Sample) → is_some sending ≡ false → sending ≡ still_sending k sending x
still k None x none = refl
still k (Some quiet) x none = absurd (cc)

-- it stands for one tick more
ear-waits : (k own n : ℕ) (ear : Ear) (x : Sample) (heard : List Sample) (sent addressed : Option ℕ) → k ≤ 39 →
    EarStands k MOST_SLOTS own ear heard sent addressed → length heard ≡ n → is_some ear.sending ≡ false → kinds.Nothing ≡ cut_now k (x ∷ heard) →
    EarStands k MOST_SLOTS own ear (x ∷ heard) (sent_by n false sent) (addressed_by own n (slot_now k (x ∷ heard)) (ignored_from k heard sent) addressed)
ear-waits k own n ear x heard sent addressed small st here none is =
    ear-stands k MOST_SLOTS own ear ear x heard sent addressed ear.sending false false n kinds.Nothing small st here (sym none) is refl
    (still k ear.sending x none)

-- and so do both
ears-wait : (k : ℕ) (terminal : TerminalData) (ears : Ears) (now : Moment) (past : List Moment) (s left : Standing) → k ≤ 39 →
    EarsStand k terminal.address ears past s → they_count ears ≡ false → BringsNothing k now past → Listens k terminal None past s →
    EarsStand k terminal.address ears (now ∷ past) (marked_by k terminal now past s left)
ears-wait k terminal ears now past s left small st count none begun =
    let still_both = none-of (is_some ears.a.sending) (is_some ears.b.sending) count in
    record {
      on_a = ear-lands k MOST_SLOTS terminal.address (length past) terminal past s now now.shown A ears.a false refl refl refl (begun A)
          (ear-waits k terminal.address (length past) ears.a now.shown.a (heard_on A past) s.sent.a s.addressed.a small st.on_a (length-heard A past)
          still_both.0 (nothing-on k now past none A));
      on_b = ear-lands k MOST_SLOTS terminal.address (length past) terminal past s now now.shown B ears.b false refl refl refl (begun B)
          (ear-waits k terminal.address (length past) ears.b now.shown.b (heard_on B past) s.sent.b s.addressed.b small st.on_b (length-heard B past)
          still_both.1 (nothing-on k now past none B));
    }

-- what they tell of it: nothing
abbrev told_nothing : Standing → BothHeard
told_nothing s = record {
  a = record { ended = false; ignored = false };
  b = record { ended = false; ignored = false };
  a_outrun = outrun s A;
  b_outrun = outrun s B;
}

ears-tell : (k : ℕ) (terminal : TerminalData) (ears : Ears) (now : Moment) (past : List Moment) (s : Standing) →
    EarsStand k terminal.address ears past s → they_count ears ≡ false → BringsNothing k now past →
    AreListened k terminal.address (listened_of ears (told_nothing s)) (now ∷ past) past s
ears-tell k terminal ears now past s st count none =
    let still_both = none-of (is_some ears.a.sending) (is_some ears.b.sending) count in
    record {
      heard_a = ear-tells k MOST_SLOTS terminal.address ears.a ears.a now.shown.a (heard_on A past) s.sent.a s.addressed.a false false (length past)
          kinds.Nothing st.on_a (length-heard A past) (sym still_both.0) (nothing-on k now past none A) refl refl;
      heard_b = ear-tells k MOST_SLOTS terminal.address ears.b ears.b now.shown.b (heard_on B past) s.sent.b s.addressed.b false false (length past)
          kinds.Nothing st.on_b (length-heard B past) (sym still_both.1) (nothing-on k now past none B) refl refl;
      outrun_a = refl;
      outrun_b = refl;
    }

-- ---- the states

listens-on : (k : ℕ) (terminal : TerminalData) (loads : List TimedLoad) (common : Common) (now : Moment) (past : List Moment) (s : Standing) →
    CommonStands k terminal loads common past s → they_count common.ears ≡ false → BringsNothing k now past → Listens k terminal None past s →
    HasListened k terminal common common past now s
listens-on k terminal loads common now past s st count none begun = record {
  plan = refl;
  memory = refl;
  stands = λ left. ears-wait k terminal common.ears now past s left (omega (arith, st.fits.lag)) st.ears count none begun;
}

-- one that listens
listening-waits : (k : ℕ) (terminal : TerminalData) (loads : List TimedLoad) (state : Listening) (now : Moment) (past : List Moment) (s : Standing) →
    ListeningStands k terminal loads state past s → they_count state.common.ears ≡ false → BringsNothing k now past →
    NextStands k terminal loads (record { state = states.Listening state; event = events.Nothing }) past now s (accepted_on k terminal loads now past s)
listening-waits k terminal loads state now past s st count none =
    listening-step k terminal loads state state (told_nothing s) past now s false (record {
      stood = st;
      listened = listens-on k terminal loads state.common now past s st.common count none (rests-listens k terminal past s st.rests_now);
      told = ears-tell k terminal state.common.ears now past s st.common.ears count none;
    }) refl

-- no mark is newer
mark-stays : (k : ℕ) (terminal : TerminalData) (now : Moment) (past : List Moment) (s : Standing) → BringsNothing k now past → (c : Channel) →
    addressed_on k terminal (now ∷ past) s c ≡ mark_on s.addressed c
mark-stays k terminal now past s none c = rw (no-slot k now past none c) refl

marks-stay : (k : ℕ) (terminal : TerminalData) (now : Moment) (past : List Moment) (s : Standing) → BringsNothing k now past → (c : Channel) →
    mark_on (marked_by k terminal now past s s).addressed c ≡ mark_on s.addressed c
marks-stay k terminal now past s none A = mark-stays k terminal now past s none A
marks-stay k terminal now past s none B = mark-stays k terminal now past s none B

not-newer : (k : ℕ) (terminal : TerminalData) (now : Moment) (past : List Moment) (s : Standing) → BringsNothing k now past → superseded k s ≡ false →
    false ≡ superseded k (marked_by k terminal now past s s)
not-newer k terminal now past s none fresh = sym (ap (is_from (s.end + k)) (marks-stay k terminal now past s none (other_of s.channel)) ∙ fresh)

never-out : (heard b : Bool) → heard ≡ true → false ≡ (b && not heard)
never-out heard true h = rw h refl
never-out heard false h = refl

since-heard : (heard x : Bool) → heard ≡ true → heard ≡ (heard || x)
since-heard true x h = refl
since-heard false x h = absurd (cc)

-- one whose awaited burst runs
promised-waits : (k : ℕ) (terminal : TerminalData) (loads : List TimedLoad) (state : Promised) (now : Moment) (past : List Moment) (s : Standing) →
    PromisedStands k terminal loads state past s → state.heard ≡ true → they_count state.common.ears ≡ false → BringsNothing k now past →
    NextStands k terminal loads (record { state = states.Promised state; event = events.Nothing }) past now s (accepted_on k terminal loads now past s)
promised-waits k terminal loads state now past s st heard count none =
    promised-step k terminal loads state state (told_nothing s) past now s false false false (record {
      stood = st;
      listened = listens-on k terminal loads state.common now past s st.common count none (promised-listens k terminal loads state past s st);
      told = ears-tell k terminal state.common.ears now past s st.common.ears count none;
      waiting = refl;
      since = since-heard state.heard (not (is_quiet (sample_on now.shown state.waiting.channel))) heard;
    }) (never-out state.heard (length past == (state.waiting.end + relay_wait)) heard) refl (not-newer k terminal now past s none st.fresh)

not-false : (b : Bool) → not b ≡ false → b ≡ true
not-false true h = refl
not-false false h = absurd (cc)

-- a state that doesn't need each tick
pub state-waits : (k : ℕ) (terminal : TerminalData) (loads : List TimedLoad) (state : TerminalState) (now : Moment) (past : List Moment) (s : Standing) →
    state_needs state ≡ false → StateStands k terminal loads state past s → BringsNothing k now past →
    NextStands k terminal loads (record { state = state; event = events.Nothing }) past now s (accepted_on k terminal loads now past s)
state-waits k terminal loads (states.Listening state) now past s waits st none = listening-waits k terminal loads state now past s st waits none
state-waits k terminal loads (states.Promised state) now past s waits st none =
    let both = none-of (not state.heard) (they_count state.common.ears) waits in
    promised-waits k terminal loads state now past s st (not-false state.heard both.0) both.1 none
state-waits k terminal loads (states.Owing state) now past s waits st none = absurd (cc)
state-waits k terminal loads (states.Answering state) now past s waits st none = absurd (cc)

-- it sends nothing
pub state-silent : (state : TerminalState) → state_needs state ≡ false → drive_told state ≡ Silent
state-silent (states.Listening state) waits = refl
state-silent (states.Promised state) waits = refl
state-silent (states.Owing state) waits = refl
state-silent (states.Answering state) waits = absurd (cc)
