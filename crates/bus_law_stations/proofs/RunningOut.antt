-- A terminal whose promise runs out, in the last of the quiet ticks that it waits.
use Rattle.std.proofs.Common.{◌≡◌, ℕ, suc, ◌+◌, Bool, true, false, not, List, [], ◌∷◌, ◌++◌, length, Some, refl, sym, ap, ◌∙◌, arith}
use Rattle.std.proofs.lemmas.Bool.{true≢false}
use Rattle.std.proofs.lemmas.Bool.Decides.{nat_tests}
use Rattle.std.specs.Prelude.{◌&&◌, ◌==◌, nat_lt, if◌then◌else◌}
use Rattle.bus_base.specs.Samples.{same_channel}
use Rattle.bus_base.specs.declared.samples.Channel.{Channel}
use Rattle.bus_base.specs.declared.samples.Channel.TheVariants.{A, B}
use Rattle.bus_base.specs.declared.samples.Sample.{Sample}
use Rattle.bus_base.specs.declared.samples.Sample.TheVariants.{Quiet}
use Rattle.bus_line.specs.Past.{runs, heard_within}
use Rattle.bus_formats.specs.Plans.{TerminalData}
use Rattle.bus_formats.specs.Times.{relay_wait}
use Rattle.bus_model.specs.Memory.{Memory, TimedLoad, with_loads}
use Rattle.bus_model.specs.Orders.{Duty, free, owes, promises, Obeyed, due_after, unkept}
use Rattle.bus_model.specs.Hearing.{Moment, heard_on}
use Rattle.bus_model.specs.Standing.{Standing, runs_out, superseded, is_owed, is_promise, promised_on}
use Rattle.bus_model.specs.Terminal.{given_up, running_out, order_now, begins, marked_by, ordered, after_tick, standing}
use Rattle.bus_law_stations.specs.Silence.{quiet_moments}
use Rattle.bus_law_stations.proofs.Ready.{three-first}
use Rattle.bus_law_stations.proofs.Resting.{quiet-on}
use Rattle.bus_law_stations.proofs.StillTerminal.{quiet_moment, order-quiet}

if-false : (b x : Bool) → x ≡ false → (if b then false else x) ≡ false
if-false true x is = refl
if-false false x is = is

quiet-within : (past : List Sample) (a b : ℕ) → heard_within past a b ≡ false → heard_within (Quiet ∷ past) a b ≡ false
unfolding heard_within
quiet-within past a b none = if-false (nat_lt (length past) a) (heard_within past a b) none

three-true : (a b c : Bool) → a ≡ true → b ≡ true → c ≡ false → (a && b && not c) ≡ true
three-true a b c first second third = rw (first, second, third) refl

first-of : (a b c : Bool) → (a && b && c) ≡ true → a ≡ true
first-of true b c is = refl
first-of false b c is = is

promise-owes-not : (duty : Duty) → is_promise duty ≡ true → is_owed duty ≡ false
promise-owes-not free made = refl
promise-owes-not (owes words acceptance) made = absurd (true≢false (sym made))
promise-owes-not (promises command transmitter) made = refl

module _ (k : ℕ) (t : TerminalData) (loads : List TimedLoad) (s : Standing) (heard : List Moment) (may : Bool)
    (rests : (c : Channel) → runs k (heard_on c heard) ≡ false) (promised : promised_on k s s.channel ≡ true) (last : length heard ≡ s.end + relay_wait)
    (quiet : heard_within (heard_on s.channel heard) s.end (suc (length heard)) ≡ false) where
  -- the promise runs out now
  runs-out-now : running_out k t (quiet_moment may ∷ heard) s ≡ Some runs_out
  runs-out-now =
      let at : (length (quiet_moment may ∷ heard) == suc (s.end + relay_wait)) ≡ true = grind (arith, nat_tests, last) in
      let none : heard_within (heard_on s.channel (quiet_moment may ∷ heard)) s.end (length (quiet_moment may ∷ heard)) ≡ false =
      ap (λ x. heard_within (x ∷ heard_on s.channel heard) s.end (suc (length heard))) (quiet-on s.channel)
      ∙ quiet-within (heard_on s.channel heard) s.end (suc (length heard)) quiet in
      rw (three-true (promised_on k s s.channel) (length (quiet_moment may ∷ heard) == suc (s.end + relay_wait))
      (heard_within (heard_on s.channel (quiet_moment may ∷ heard)) s.end (length (quiet_moment may ∷ heard))) promised at none) refl

  order-out : order_now k t (quiet_moment may ∷ heard) s ≡ Some runs_out
  order-out = rw (order-quiet k t s A may heard (rests A), order-quiet k t s B may heard (rests B), runs-out-now) refl

  begins-not : begins k t heard s ≡ false
  begins-not =
      three-first (is_owed s.duty) (length heard == due_after t s.end) (not (given_up k t (heard_on s.channel heard) s))
      (promise-owes-not s.duty (first-of (is_promise s.duty) (same_channel s.channel s.channel) (not (superseded k s)) promised))

  marks-kept : (u : Standing) → marked_by k t (quiet_moment may) heard s u ≡ record u { sent = s.sent; addressed = s.addressed }
  marks-kept u = rw begins-not refl

  out-tick : let o : Obeyed = unkept t (with_loads t.address (length heard) loads s.memory) s.channel in
      after_tick k t loads (quiet_moment may) heard s ≡ record s { memory = o.memory; duty = o.duty }
  out-tick =
      let o : Obeyed = unkept t (with_loads t.address (length heard) loads s.memory) s.channel in
      ap (λ h. marked_by k t (quiet_moment may) heard s (ordered k t loads (length heard) may s h)) order-out
      ∙ marks-kept (record s { memory = o.memory; duty = o.duty })

pub promise-out : (k : ℕ) (t : TerminalData) (loads : List TimedLoad) (memory : Memory) (heard : List Moment) (may : Bool) →
    let s : Standing = standing k t loads memory heard in
    let o : Obeyed = unkept t (with_loads t.address (length heard) loads s.memory) s.channel in
    ((c : Channel) → runs k (heard_on c heard) ≡ false) → promised_on k s s.channel ≡ true → length heard ≡ s.end + relay_wait →
    heard_within (heard_on s.channel heard) s.end (suc (length heard)) ≡ false →
    (standing k t loads memory (quiet_moments (may ∷ []) ++ heard) ≡ record s { memory = o.memory; duty = o.duty }) × (o.duty ≡ free)
unfolding standing
promise-out k t loads memory heard may rests promised last quiet =
    (out-tick k t loads (standing k t loads memory heard) heard may rests promised last quiet, refl)
