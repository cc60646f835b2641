-- Of two channels the newer command counts: what stands after a tick knows no newer one on the other channel.
use Rattle.std.proofs.Common.{◌≡◌, ◌⊎◌, inl, inr, ℕ, ◌<◌, List, [], ◌∷◌, length, refl, sym, ap}
use Rattle.std.specs.Prelude.{Bool, true, false, if◌then◌else◌, Some}
use Rattle.bus_base.specs.Samples.{sample_on}
use Rattle.bus_base.specs.declared.samples.Channel.{Channel}
use Rattle.bus_base.specs.declared.samples.Channel.TheVariants.{A, B}
use Rattle.bus_formats.specs.Plans.{TerminalData}
use Rattle.bus_model.specs.Memory.{Memory, TimedLoad}
use Rattle.bus_model.specs.Hearing.{Moment, heard_on}
use Rattle.bus_model.specs.Standing.{Standing, mark_on}
use Rattle.bus_model.specs.Terminal.{standing, after_tick, sent_on, addressed_on}
use Rattle.bus_model.proofs.Marked.{IsMarked, marked-on, marked-first, heard-long}

-- what a tick leaves on each channel
sent-after : (k : ℕ) (t : TerminalData) (loads : List TimedLoad) (now : Moment) (past : List Moment) (s : Standing) (c : Channel) →
    mark_on (after_tick k t loads now past s).sent c ≡ sent_on k t past s c
sent-after k t loads now past s A = refl
sent-after k t loads now past s B = refl

pub addressed-after : (k : ℕ) (t : TerminalData) (loads : List TimedLoad) (now : Moment) (past : List Moment) (s : Standing) (c : Channel) →
    mark_on (after_tick k t loads now past s).addressed c ≡ addressed_on k t (now ∷ past) s c
addressed-after k t loads now past s A = refl
addressed-after k t loads now past s B = refl

either : {X : Type 0} (b : Bool) (x y z : X) → x ≡ z → ((if b then x else y) ≡ y) ⊎ ((if b then x else y) ≡ z)
either true x y z h = inr h
either false x y z h = inl refl

sent-either : (k : ℕ) (t : TerminalData) (past : List Moment) (s : Standing) (c : Channel) →
    (sent_on k t past s c ≡ mark_on s.sent c) ⊎ (sent_on k t past s c ≡ Some (length (heard_on c past)))
sent-either k t past s c = either _ _ _ _ (ap Some (sym (heard-long c past)))

pub addressed-either : (k : ℕ) (t : TerminalData) (now : Moment) (past : List Moment) (s : Standing) (c : Channel) →
    (addressed_on k t (now ∷ past) s c ≡ mark_on s.addressed c) ⊎ (addressed_on k t (now ∷ past) s c ≡ Some (length past))
addressed-either k t now past s c = either _ _ _ _ refl

-- a channel that isn't ignored and whose burst has a command for the terminal is marked, after whatever was heard
pub marked-always : (k : ℕ) (t : TerminalData) (loads : List TimedLoad) (memory : Memory) (c : Channel) (ticks : List Moment) → k < 40 →
    IsMarked t.address k (heard_on c ticks) (mark_on (standing k t loads memory ticks).sent c) (mark_on (standing k t loads memory ticks).addressed c)
unfolding standing
marked-always k t loads memory A [] small = marked-first t.address k
marked-always k t loads memory B [] small = marked-first t.address k
marked-always k t loads memory c (now ∷ ticks) small =
    let s = standing k t loads memory ticks in
    rw (sent-after k t loads now ticks s c, addressed-after k t loads now ticks s c)
    (marked-on t.address k (sample_on now.shown c) (heard_on c ticks) (mark_on s.sent c) (mark_on s.addressed c) _ _
    (marked-always k t loads memory c ticks small) small (sent-either k t ticks s c) (rw (heard-long c ticks) refl))
