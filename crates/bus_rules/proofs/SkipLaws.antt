-- Quiet ticks at once, where no burst runs and no message waits: they break no rule.
use Rattle.std.proofs.Common.{◌≡◌, ℕ, ◌+◌, ◌*◌, ◌≤◌, List, ◌++◌, length, refl, ap, sym, ◌∙◌, subst, arith}
use Rattle.std.specs.Prelude.{Bool, true, false, ◌&&◌, is_none, Option, Some, None}
use Rattle.std.specs.List.{list_any}
use Rattle.bus_base.specs.Samples.{quiet_pairs}
use Rattle.bus_base.specs.declared.samples.Channel.TheVariants.{A, B}
use Rattle.bus_base.specs.declared.samples.Pair.{Pair}
use Rattle.bus_base.specs.declared.samples.Sample.{Sample}
use Rattle.bus_line.specs.Past.{runs, first_tick, quiet_ticks}
use Rattle.bus_line.specs.Channels.{on_channel}
use Rattle.bus_line.specs.declared.cutter.TheConstants.{LAG}
use Rattle.bus_monitor.specs.Channels.{is_idle_on}
use Rattle.bus_monitor.specs.declared.channel_lister.ChannelLister.{ChannelLister}
use Rattle.bus_monitor.proofs.IdleLaws.{none-if, idle-ticks}
use Rattle.bus_monitor.proofs.QuietLaws.{on-quiet, long-more}
use Rattle.bus_rules.specs.Breaches.{overlaps, known}
use Rattle.bus_rules.specs.Stands.{ChannelJudgeStands, JudgeStands, NoneKnown, is_on}
use Rattle.bus_rules.specs.declared.channel_judge.ChannelJudge.{ChannelJudge}
use Rattle.bus_rules.specs.declared.capture_judge.Judge.{Judge}
use Rattle.bus_rules.proofs.NoneLaws.{quiet-runs, quiet-none, no-slots, off-quiet}
use Rattle.bus_rules.proofs.PairLaws.{pairs-none, quiet-on, on-both}

none-is : {T : Type 0} (o : Option T) → is_none o ≡ true → o ≡ None
none-is None is = refl
none-is (Some x) is = absurd (cc)

both-true : (a b : Bool) → (a && b) ≡ true → (a ≡ true) × (b ≡ true)
both-true true b is = (refl, is)
both-true false b is = absurd (cc)

-- what an idle lister of a channel keeps
pub record IsIdle (lister : ChannelLister) : Type 0 where
  pub rests : lister.running ≡ None
  pub none : lister.waiting ≡ None

idle-is : (lister : ChannelLister) → is_idle_on lister ≡ true → IsIdle lister
idle-is lister idle =
    let parts = both-true (is_none lister.running) (is_none lister.waiting) idle in
    record { rests = none-is lister.running parts.0; none = none-is lister.waiting parts.1 }

pub both-idle : (a b : ChannelLister) → (is_idle_on a && is_idle_on b) ≡ true → IsIdle a × IsIdle b
both-idle a b idle = let parts = both-true (is_idle_on a) (is_idle_on b) idle in (idle-is a parts.0, idle-is b parts.1)

pub off : (judge : ChannelJudge) (past : List Sample) → IsIdle judge.messages → ChannelJudgeStands judge past → runs LAG past ≡ false
off judge past idle s = none-if (runs LAG past) (first_tick LAG past) (sym s.messages.running ∙ idle.rests)

channel-skips : (judge : ChannelJudge) (n : ℕ) (past : List Sample) → IsIdle judge.messages → ChannelJudgeStands judge past →
    ChannelJudgeStands judge (quiet_ticks n ++ past)
channel-skips judge n past idle s = record {
  messages = idle-ticks judge.messages n past idle.rests idle.none s.messages;
  damaged = s.damaged ∙ ap (list_any is_none) (no-slots past (off judge past idle s) ∙ sym (no-slots (quiet_ticks n ++ past) (quiet-runs n past (off judge past idle s))));
}

-- where nothing runs on channel A there is no overlap
no-overlap : (past : List Pair) → runs LAG (on_channel A past) ≡ false → overlaps past ≡ false
no-overlap past quiet = on-both past ∙ ap (λ a. a && is_on (on_channel B past)) (off-quiet (on_channel A past) quiet)

pub known-quiet : (judge : Judge) (n : ℕ) (past : List Pair) → (is_idle_on judge.a.messages && is_idle_on judge.b.messages) ≡ true → JudgeStands judge past →
    known LAG (quiet_pairs n ++ past) ≡ known LAG past
known-quiet judge n past idle s =
    let both = both-idle judge.a.messages judge.b.messages idle in
    pairs-none (quiet_pairs n) past
    (subst (λ xs. NoneKnown xs (on_channel A past)) (sym (quiet-on A n)) (quiet-none n (on_channel A past) (off judge.a (on_channel A past) both.0 s.a)))
    (subst (λ xs. NoneKnown xs (on_channel B past)) (sym (quiet-on B n)) (quiet-none n (on_channel B past) (off judge.b (on_channel B past) both.1 s.b)))

pub judge-skips : (judge : Judge) (n : ℕ) (past : List Pair) → (is_idle_on judge.a.messages && is_idle_on judge.b.messages) ≡ true → JudgeStands judge past →
    JudgeStands (record judge { ticks = judge.ticks + n }) (quiet_pairs n ++ past)
judge-skips judge n past idle s =
    let both = both-idle judge.a.messages judge.b.messages idle in
    let ticks : judge.ticks ≡ length past = s.ticks in
    let long : length (quiet_pairs n ++ past) ≡ n + length past = long-more n past in
    let rests : runs LAG (on_channel A past) ≡ false = off judge.a (on_channel A past) both.0 s.a in
    let few : judge.breaches ≤ 7 * judge.ticks = s.few in
    record {
      a = subst (ChannelJudgeStands judge.a) (sym (on-quiet A n past)) (channel-skips judge.a n (on_channel A past) both.0 s.a);
      b = subst (ChannelJudgeStands judge.b) (sym (on-quiet B n past)) (channel-skips judge.b n (on_channel B past) both.1 s.b);
      ticks = omega (arith, ticks, long);
      overlap = s.overlap ∙ no-overlap past rests
          ∙ sym (no-overlap (quiet_pairs n ++ past) (ap (runs LAG) (on-quiet A n past) ∙ quiet-runs n (on_channel A past) rests));
      breaches = s.breaches ∙ ap length (sym (known-quiet judge n past idle s));
      few = omega (arith, few);
    }
