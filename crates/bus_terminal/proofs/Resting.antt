-- A terminal that heard quiet ticks alone: it keeps the same whatever their number, and so do its cutters.
use Rattle.std.proofs.Common.{◌≡◌, ℕ, false, List, [], length, Option, Some, None, refl, sym, ap, ◌∙◌, subst, arith}
use Rattle.bus_base.specs.declared.samples.Channel.{Channel}
use Rattle.bus_base.specs.declared.samples.Channel.TheVariants.{A, B}
use Rattle.bus_base.specs.declared.samples.Sample.{Sample}
use Rattle.bus_words.specs.declared.word.Word.{Word}
use Rattle.bus_line.specs.Past.{quiet_ticks, runs}
use Rattle.bus_line.specs.Cutting.{running_slots}
use Rattle.bus_line.proofs.CutLaws.{rests-alone}
use Rattle.bus_line.proofs.CollectLaws.{running-off}
use Rattle.bus_receiver.specs.Cuts.{CuttersStand}
use Rattle.bus_receiver.specs.declared.cutters.Cutters.{Cutters}
use Rattle.bus_receiver.proofs.Rests.{both-for-all}
use Rattle.bus_formats.specs.Plans.{TerminalData}
use Rattle.bus_ears.specs.Ears.{EarStands, Ignores, Holds}
use Rattle.bus_ears.specs.declared.ear.Ear.{Ear}
use Rattle.bus_ears.specs.declared.ear.TheConstants.{MOST_SLOTS}
use Rattle.bus_model.specs.Memory.{Memory, TimedLoad, with_loads}
use Rattle.bus_model.specs.Hearing.{Hearing, heard_on}
use Rattle.bus_model.specs.Standing.{Standing, at_rest}
use Rattle.bus_model.specs.Terminal.{standing}
use Rattle.bus_terminal.specs.Quiet.{quiet_moments}
use Rattle.bus_terminal.specs.Stands.{AreMade, StateStands}
use Rattle.bus_terminal.specs.TerminalStands.{TerminalKeeps}
use Rattle.bus_terminal.specs.declared.state.TerminalState.{TerminalState}
use Rattle.bus_terminal.specs.declared.state.TerminalState.TheVariants as states
use Rattle.bus_terminal.specs.declared.terminal.Terminal.{Terminal}
use Rattle.bus_terminal.proofs.Newest.{marked-quiet}
use Rattle.bus_terminal.proofs.Quiet.{quiet-heard, quiet-stands}
use Rattle.bus_terminal.proofs.Waking.{quiet-length, loads-alike}

-- ---- its cutters

-- no burst runs after quiet ticks
pub quiet-rests : (k : ℕ) (c : Channel) (n : ℕ) → runs k (heard_on c (quiet_moments n)) ≡ false
quiet-rests k c n = ap (runs k) (quiet-heard c n) ∙ rests-alone k n

-- cutters that heard nothing stand for them
pub new-hears : (k : ℕ) (cutters : Cutters) (n : ℕ) → ((a b : ℕ) → CuttersStand k cutters (quiet_ticks a) (quiet_ticks b)) →
    CuttersStand k cutters (heard_on A (quiet_moments n)) (heard_on B (quiet_moments n))
new-hears k cutters n st = rw (quiet-heard A n, quiet-heard B n) (st n n)

-- whatever their number
pub hears-resting : (k : ℕ) (cutters : Cutters) (m n : ℕ) → CuttersStand k cutters (heard_on A (quiet_moments m)) (heard_on B (quiet_moments m)) →
    CuttersStand k cutters (heard_on A (quiet_moments n)) (heard_on B (quiet_moments n))
hears-resting k cutters m n st =
    both-for-all k cutters (heard_on A (quiet_moments m)) (heard_on B (quiet_moments m)) (heard_on A (quiet_moments n)) (heard_on B (quiet_moments n))
    st (quiet-rests k A m) (quiet-rests k B m) (quiet-rests k A n) (quiet-rests k B n)

-- ---- what it keeps

-- that doesn't depend on its cutters
pub keeps-alike : (k : ℕ) (plan : TerminalData) (loads : List TimedLoad) (old new : Terminal) (hearing : Hearing) → new.state ≡ old.state →
    TerminalKeeps k plan loads old hearing → TerminalKeeps k plan loads new hearing
unfolding TerminalKeeps
keeps-alike k plan loads old new hearing same st =
    subst (λ (state : TerminalState). StateStands k plan loads state hearing.ticks (standing k plan loads hearing.memory hearing.ticks)) (sym same) st

-- no slot is kept after quiet ticks
none-runs : (k : ℕ) (c : Channel) (n : ℕ) → running_slots k (heard_on c (quiet_moments n)) ≡ []
none-runs k c n = ap (running_slots k) (quiet-heard c n) ∙ running-off k (quiet_ticks n) (rests-alone k n)

-- nothing is sent that never began
ignores-rests : (k : ℕ) (sending : Option ℕ) (heard other : List Sample) → Ignores k sending heard None → Ignores k sending other None
ignores-rests k None heard other st = refl
ignores-rests k (Some quiet) heard other st = absurd st

-- an ear that heard quiet ticks stands for any number of them
ear-rests : (k own : ℕ) (ear : Ear) (c : Channel) (m n : ℕ) → EarStands k MOST_SLOTS own ear (heard_on c (quiet_moments m)) None None →
    EarStands k MOST_SLOTS own ear (heard_on c (quiet_moments n)) None None
ear-rests k own ear c m n st = record {
  slots = subst (λ (slots : List (Option Word)). Holds MOST_SLOTS own ear.command ear.slots.items slots) (none-runs k c m ∙ sym (none-runs k c n)) st.slots;
  addressed_is = st.addressed_is;
  before = tt;
  ignores = ignores-rests k ear.sending (heard_on c (quiet_moments m)) (heard_on c (quiet_moments n)) st.ignores;
}

-- so does a state
state-rests : (k : ℕ) (plan : TerminalData) (loads : List TimedLoad) (state : TerminalState) (memory : Memory) (m n : ℕ) → AreMade plan.address n loads →
    StateStands k plan loads state (quiet_moments m) (at_rest memory) → StateStands k plan loads state (quiet_moments n) (at_rest memory)
state-rests k plan loads (states.Listening state) memory m n made st =
    let c = st.common in
    let made_m : AreMade plan.address m loads = subst (λ (i : ℕ). AreMade plan.address i loads) (quiet-length m) c.made in
    let alike : (x : Memory) → with_loads plan.address (length (quiet_moments n)) loads x ≡ with_loads plan.address (length (quiet_moments m)) loads x =
    λ x. ap (λ (i : ℕ). with_loads plan.address i loads x) (quiet-length n) ∙ loads-alike plan.address n m loads x made made_m
    ∙ ap (λ (i : ℕ). with_loads plan.address i loads x) (sym (quiet-length m)) in
    record {
      common = record {
        plan = c.plan;
        fits = c.fits;
        memory = c.memory ∙ sym (alike memory);
        absorbed = alike state.common.memory ∙ c.absorbed;
        made = subst (λ (i : ℕ). AreMade plan.address i loads) (sym (quiet-length n)) made;
        ears = record { on_a = ear-rests k plan.address _ A m n c.ears.on_a; on_b = ear-rests k plan.address _ B m n c.ears.on_b };
        ended = omega arith;
        marked = marked-quiet k plan.address n memory;
        newest = λ left. absurd (cc);
      };
      rests_now = refl;
    }
state-rests k plan loads (states.Promised state) memory m n made st = (let no = st.waiting.duty in absurd (cc))
state-rests k plan loads (states.Owing state) memory m n made st = (let no = st.sends.duty in absurd (cc))
state-rests k plan loads (states.Answering state) memory m n made st = (let no = st.sends.duty in absurd (cc))

-- and a terminal
pub keeps-resting : (k : ℕ) (plan : TerminalData) (loads : List TimedLoad) (value : Terminal) (memory : Memory) (m n : ℕ) → AreMade plan.address n loads →
    TerminalKeeps k plan loads value (record { memory = memory; ticks = quiet_moments m }) →
    TerminalKeeps k plan loads value (record { memory = memory; ticks = quiet_moments n })
unfolding TerminalKeeps
keeps-resting k plan loads value memory m n made st =
    subst (λ (s : Standing). StateStands k plan loads value.state (quiet_moments n) s) (sym (quiet-stands k plan loads memory n))
    (state-rests k plan loads value.state memory m n made
    (subst (λ (s : Standing). StateStands k plan loads value.state (quiet_moments m) s) (quiet-stands k plan loads memory m) st))
