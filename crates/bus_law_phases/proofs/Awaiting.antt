-- A message that waits for an answer, over quiet ticks.
use Rattle.std.proofs.Common.{◌≡◌, ℕ, zero, suc, Bool, true, false, List, ◌++◌, length, Option, None, refl, ap}
use Rattle.std.specs.Prelude.{nat_lt, if◌then◌else◌}
use Rattle.bus_base.specs.declared.samples.Sample.{Sample}
use Rattle.bus_base.specs.declared.samples.Sample.TheVariants.{Quiet}
use Rattle.bus_line.specs.Past.{Burst, quiet_ticks, heard_or_now, first_heard}
use Rattle.bus_line.proofs.EndLaws.{end_since-later}
use Rattle.bus_model.specs.Attempts.{Begun}
use Rattle.bus_model.specs.Controller.{whole, reply}
use Rattle.bus_law_stations.specs.Silence.{AwaitsFirst, AwaitsSecond}
use Rattle.bus_law_stations.proofs.StillController.{whole-stays}

-- ---- a message that waits goes on waiting

heard-not : (b : Bool) (o : Option ℕ) → o ≡ None → (if b then None else o) ≡ None
heard-not true o none = refl
heard-not false o none = none

unheard-quiet : (n : ℕ) (past : List Sample) (e : ℕ) → first_heard past e ≡ None → first_heard (quiet_ticks n ++ past) e ≡ None
unfolding first_heard
unheard-quiet zero past e none = none
unheard-quiet (suc n) past e none =
    let xs = quiet_ticks n ++ past in
    heard-not (nat_lt (length xs) e) (heard_or_now Quiet (length xs) (first_heard xs e)) (ap (heard_or_now Quiet (length xs)) (unheard-quiet n past e none))

pub awaits-quiet : (k : ℕ) (begun : Begun) (n : ℕ) (past : List Sample) (e : ℕ) → AwaitsFirst k begun past e → AwaitsFirst k begun (quiet_ticks n ++ past) e
awaits-quiet k begun n past e w = record {
  ended = end_since-later k (quiet_ticks n) past begun.start e w.ended;
  shape = w.shape;
  expects = w.expects;
  silent = unheard-quiet n past e w.silent;
}

whole-quiet : (k n : ℕ) (past : List Sample) (e : ℕ) (burst : Burst) → reply k past e ≡ whole burst → reply k (quiet_ticks n ++ past) e ≡ whole burst
whole-quiet k zero past e burst is = is
whole-quiet k (suc n) past e burst is = whole-stays k Quiet (quiet_ticks n ++ past) e burst (whole-quiet k n past e burst is)

-- so does a relay that waits for its second answer
pub second-quiet : (k : ℕ) (begun : Begun) (n : ℕ) (past : List Sample) (e : ℕ) (w : AwaitsSecond k begun past e) →
    (v : AwaitsSecond k begun (quiet_ticks n ++ past) e) × (v.status ≡ w.status)
second-quiet k begun n past e w = (
  record {
    command_end = w.command_end;
    ended = end_since-later k (quiet_ticks n) past begun.start w.command_end w.ended;
    first = w.first;
    second = w.second;
    expects_first = w.expects_first;
    expects_second = w.expects_second;
    burst = w.burst;
    status = w.status;
    answered = whole-quiet k n past w.command_end w.burst w.answered;
    good = w.good;
    end = w.end;
    silent = unheard-quiet n past e w.silent;
  },
  refl,
)
