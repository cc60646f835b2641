-- What a terminal does of a burst.
use Rattle.std.proofs.Common.{◌≡◌, ℕ, suc, ◌+◌, ◌<◌, ◌≤◌, Bool, true, false, List, [], ◌∷◌, ◌++◌, length, Option, Some, None, refl, sym, ap, ◌∙◌, arith, length-append}
use Rattle.std.specs.Prelude.{if◌then◌else◌, is_some, ◌||◌}
use Rattle.std.specs.Option.{option_or}
use Rattle.bus_base.specs.Samples.{sample_on}
use Rattle.bus_base.specs.declared.samples.Channel.{Channel}
use Rattle.bus_base.specs.declared.samples.Sample.{Sample}
use Rattle.bus_base.specs.declared.samples.Drive.TheVariants.{Silent}
use Rattle.std.proofs.lemmas.Bool.{true≢false}
use Rattle.bus_line.specs.Past.{ended_now, slot_now}
use Rattle.bus_line.specs.Cutting.{running_slots}
use Rattle.bus_line.proofs.CollectLaws.{running-off}
use Rattle.bus_formats.specs.Plans.{TerminalData}
use Rattle.bus_model.specs.Memory.{Memory, TimedLoad}
use Rattle.bus_model.specs.Orders.{Duty, free, owes, promises, last_order}
use Rattle.bus_model.specs.Hearing.{Moment, heard_on, is_addressed}
use Rattle.bus_model.specs.Standing.{Standing, mark_on, is_owed}
use Rattle.bus_model.specs.Terminal.{drive_duty, order_of, after_tick, standing, drives}
use Rattle.bus_law_stations.specs.Legs.{with_addressed, HearsBurst, IsReady}
use Rattle.bus_law_stations.proofs.LegTicks.{heard-append, leg-ends-not, addressed-more}
use Rattle.bus_law_stations.proofs.Ready.{same-mark, marked-twice, orders-none, tick-marks, order-other, mark-other, mark-own, ready-heeded, order-heeded, ready-begins, ready-running}

-- ---- a tick of the burst

pub leg-tick : (k : ℕ) (t : TerminalData) (loads : List TimedLoad) (s : Standing) (c : Channel) (m : Option ℕ) (now : Moment) (heard ticks : List Moment) →
    IsReady k t s c heard → HearsBurst k t s c heard (now ∷ ticks) →
    after_tick k t loads now (ticks ++ heard) (with_addressed s c m)
    ≡ with_addressed s c (if is_addressed t.address (slot_now k (heard_on c (now ∷ (ticks ++ heard)))) then Some (length (ticks ++ heard)) else m)
leg-tick k t loads s c m now heard ticks ready hears =
    let past = ticks ++ heard in
    let heeded = ready-heeded k t s c heard ticks ready in
    let none : ended_now k (heard_on c (now ∷ (ticks ++ heard))) ≡ None =
    ap (ended_now k) (heard-append c (now ∷ ticks) heard) ∙ leg-ends-not k (sample_on now.shown c) (heard_on c ticks) (heard_on c heard) hears.leg in
    tick-marks k t loads (with_addressed s c m) c now past _
    (orders-none k t (with_addressed s c m) c (now ∷ past)
    (order-heeded k t s c m now past heeded ∙ ap (order_of k t (with_addressed s c m) c) none)
    (order-other k t s c m now past (λ promise. (ready.promise promise).0) hears.beside.0)
    (ready-running k t s c m now heard ticks ready hears.leg))
    (ready-begins k t s c m heard ticks ready)
    (mark-other k t s c m now past hears.beside.0)
    (mark-own k t s c m now past heeded)
    ∙ marked-twice s c m _

-- ---- all its ticks

-- how the mark on the channel goes with the burst
pub record Marking (k : ℕ) (t : TerminalData) (loads : List TimedLoad) (memory : Memory) (c : Channel) (heard ticks : List Moment) : Type 0 where
  pub mark : Option ℕ
  pub stands : standing k t loads memory (ticks ++ heard)
      ≡ with_addressed (standing k t loads memory heard) c (option_or mark (mark_on (standing k t loads memory heard).addressed c))
  pub found : is_some mark ≡ is_some (last_order t.address (running_slots k (heard_on c (ticks ++ heard))))
  pub within : (tick : ℕ) → mark ≡ Some tick → (length heard ≤ tick) × (tick < length (ticks ++ heard))

either-or : (b : Bool) (tick : ℕ) (v old : Option ℕ) → (if b then Some tick else option_or v old) ≡ option_or (if b then Some tick else v) old
either-or true tick v old = refl
either-or false tick v old = refl

either-some : (b : Bool) (tick : ℕ) (v : Option ℕ) → is_some (if b then Some tick else v) ≡ (b || is_some v)
either-some true tick v = refl
either-some false tick v = refl

either-within : (b : Bool) (low tick : ℕ) (v : Option ℕ) → low ≤ tick → ((m : ℕ) → v ≡ Some m → (low ≤ m) × (m < tick)) →
    (m : ℕ) → (if b then Some tick else v) ≡ Some m → (low ≤ m) × (m < suc tick)
either-within true low tick v late old m e = let same : tick ≡ m = cc in (omega (arith, same, late), omega (arith, same))
either-within false low tick v late old m e = let w = old m e in (w.0, omega (arith, w.1))

long : (ticks heard : List Moment) → length heard ≤ length (ticks ++ heard)
long ticks heard = let both : length (ticks ++ heard) ≡ length ticks + length heard = length-append ticks heard in omega (arith, both)

pub marking : (k : ℕ) (t : TerminalData) (loads : List TimedLoad) (memory : Memory) (c : Channel) (heard ticks : List Moment) → k < 40 →
    IsReady k t (standing k t loads memory heard) c heard → HearsBurst k t (standing k t loads memory heard) c heard ticks →
    Marking k t loads memory c heard ticks
unfolding standing
marking k t loads memory c heard [] small ready hears = record {
  mark = None;
  stands = sym (same-mark (standing k t loads memory heard) c);
  found = sym (ap (λ slots. is_some (last_order t.address slots)) (running-off k (heard_on c heard) hears.rests));
  within = λ tick e. cc;
}
marking k t loads memory c heard (now ∷ ticks) small ready hears =
    let s = standing k t loads memory heard in
    let past = ticks ++ heard in
    let before = marking k t loads memory c heard ticks small ready record { rests = hears.rests; leg = hears.leg.2; beside = hears.beside.1 } in
    let b = is_addressed t.address (slot_now k (heard_on c (now ∷ (ticks ++ heard)))) in
    let none : ended_now k (heard_on c (now ∷ (ticks ++ heard))) ≡ None =
    ap (ended_now k) (heard-append c (now ∷ ticks) heard) ∙ leg-ends-not k (sample_on now.shown c) (heard_on c ticks) (heard_on c heard) hears.leg in
    record {
      mark = if is_addressed t.address (slot_now k (heard_on c (now ∷ (ticks ++ heard)))) then Some (length (ticks ++ heard)) else before.mark;
      stands = ap (after_tick k t loads now past) before.stands
          ∙ leg-tick k t loads s c (option_or before.mark (mark_on s.addressed c)) now heard ticks ready hears
          ∙ ap (with_addressed s c) (either-or b (length past) before.mark (mark_on s.addressed c));
      found = either-some b (length past) before.mark
          ∙ ap (λ x. b || x) before.found
          ∙ sym (addressed-more t.address k (sample_on now.shown c) (heard_on c past) (omega (arith, small)) none);
      within = either-within b (length heard) (length past) before.mark (long ticks heard) before.within;
    }

-- ---- while the burst runs

not-owed : (k : ℕ) (t : TerminalData) (past : List Sample) (s : Standing) (duty : Duty) → is_owed duty ≡ false → drive_duty k t past s duty ≡ Silent
not-owed k t past s free none = refl
not-owed k t past s (promises command transmitter) none = refl
not-owed k t past s (owes words acceptance) none = absurd (true≢false none)

pub running-marks : (k : ℕ) (t : TerminalData) (loads : List TimedLoad) (memory : Memory) (c : Channel) (heard ticks : List Moment) → k < 40 →
    IsReady k t (standing k t loads memory heard) c heard → HearsBurst k t (standing k t loads memory heard) c heard ticks →
    (mark : Option ℕ) × (standing k t loads memory (ticks ++ heard) ≡ with_addressed (standing k t loads memory heard) c mark)
running-marks k t loads memory c heard ticks small ready hears =
    let m = marking k t loads memory c heard ticks small ready hears in
    (option_or m.mark (mark_on (standing k t loads memory heard).addressed c), m.stands)

pub running-silent : (k : ℕ) (t : TerminalData) (loads : List TimedLoad) (memory : Memory) (c : Channel) (heard ticks : List Moment) → k < 40 →
    IsReady k t (standing k t loads memory heard) c heard → HearsBurst k t (standing k t loads memory heard) c heard ticks →
    is_owed (standing k t loads memory heard).duty ≡ false → drives k t loads record { memory = memory; ticks = ticks ++ heard } ≡ Silent
running-silent k t loads memory c heard ticks small ready hears none =
    let s = standing k t loads memory heard in
    let m = running-marks k t loads memory c heard ticks small ready hears in
    ap (λ (u : Standing). drive_duty k t (heard_on u.channel (ticks ++ heard)) u u.duty) m.1
    ∙ not-owed k t (heard_on s.channel (ticks ++ heard)) (with_addressed s c m.0) s.duty none
