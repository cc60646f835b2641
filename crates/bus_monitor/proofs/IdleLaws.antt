-- Quiet ticks at once, for the lister of messages: where no burst runs and no message waits they change nothing, and close none.
use Rattle.std.proofs.Common.{◌≡◌, ℕ, zero, suc, ◌+◌, List, [], ◌∷◌, ◌++◌, length, refl, ap, sym, ◌∙◌, subst, arith}
use Rattle.std.specs.Prelude.{Bool, true, false, ◌&&◌, if◌then◌else◌, is_some, is_none, flat_map, map, Option, Some, None}
use Rattle.std.proofs.lemmas.List.{append-nil}
use Rattle.bus_base.specs.declared.samples.Channel.TheVariants.{A, B}
use Rattle.bus_base.specs.declared.samples.Sample.{Sample}
use Rattle.bus_base.specs.declared.samples.Sample.TheVariants.{Quiet}
use Rattle.bus_base.specs.declared.samples.Pair.{Pair}
use Rattle.bus_base.specs.Samples.{quiet_pairs}
use Rattle.bus_line.specs.Past.{runs, first_tick, quiet_ticks, heard_or_now}
use Rattle.bus_line.specs.Channels.{on_channel}
use Rattle.bus_line.specs.Cutting.{cut_now}
use Rattle.bus_planes.specs.Cutting.{BitCutterStands}
use Rattle.bus_line.specs.declared.cutter.TheConstants.{LAG}
use Rattle.bus_line.specs.declared.cutter.Cut.TheVariants as cuts
use Rattle.bus_planes.proofs.CutLaws.{stands-quiet}
use Rattle.bus_line.proofs.CutNow.{now-idle}
use Rattle.bus_monitor.specs.Awaited.{kept_in_time}
use Rattle.bus_monitor.specs.Channels.{ChannelListerStands, is_idle_on}
use Rattle.bus_monitor.specs.Listers.{MessageListerStands}
use Rattle.bus_monitor.specs.Listings.{closed_line}
use Rattle.bus_monitor.specs.Messages.{Closed, Waiting}
use Rattle.bus_monitor.specs.Progress.{closed_now, closed_in_time, message_lines, messages_now}
use Rattle.bus_monitor.specs.declared.channel_lister.ChannelLister.{ChannelLister}
use Rattle.bus_monitor.specs.declared.messages.MessageLister.{MessageLister}
use Rattle.bus_monitor.proofs.LineLaws.{message_lines-grow}
use Rattle.bus_monitor.proofs.ListerLaws.{nothing-closed, nothing-stands}
use Rattle.bus_monitor.proofs.QuietLaws.{on-quiet, long-more}

pub none-if : {T : Type 0} (test : Bool) (x : T) → (if test then Some x else None) ≡ None → test ≡ false
none-if true x is = absurd (cc)
none-if false x is = refl

none-is : {T : Type 0} (o : Option T) → is_none o ≡ true → o ≡ None
none-is None is = refl
none-is (Some x) is = absurd (cc)

both-true : (a b : Bool) → (a && b) ≡ true → (a ≡ true) × (b ≡ true)
both-true true b is = (refl, is)
both-true false b is = absurd (cc)

-- ---- one channel

-- one quiet tick
pub record IsIdleTick (lister : ChannelLister) (past : List Sample) : Type 0 where
  pub stands : ChannelListerStands lister (Quiet ∷ past)
  pub closes : closed_now LAG (Quiet ∷ past) ≡ []

closes-none : (now : ℕ) (running : Option ℕ) (waiting : Option Waiting) → waiting ≡ None →
    closed_in_time now (is_some (heard_or_now Quiet now running)) waiting ≡ []
closes-none now running waiting is = rw is refl

keeps-none : (now : ℕ) (running : Bool) (waiting : Option Waiting) → waiting ≡ None → kept_in_time now running waiting ≡ waiting
keeps-none now running waiting is = rw is refl

stays-none : (now : ℕ) (running : Option ℕ) → running ≡ None → heard_or_now Quiet now running ≡ running
stays-none now running is = rw is refl

pub idle-tick : (lister : ChannelLister) (past : List Sample) → lister.running ≡ None → lister.waiting ≡ None → ChannelListerStands lister past →
    IsIdleTick lister past
idle-tick lister past rests none s =
    let off : runs LAG past ≡ false = none-if (runs LAG past) (first_tick LAG past) (sym s.running ∙ rests) in
    let is : cuts.Nothing ≡ cut_now LAG (Quiet ∷ past) = sym (now-idle LAG past off) in
    let cutter : BitCutterStands LAG lister.cutter (Quiet ∷ past) = stands-quiet LAG lister.cutter past 1 off s.cutter in
    let now : ℕ = length past in
    let same : heard_or_now Quiet now lister.running ≡ lister.running = stays-none now lister.running rests in
    let next : ChannelListerStands (record lister {
      running = heard_or_now Quiet now lister.running;
      waiting = kept_in_time now (is_some (heard_or_now Quiet now lister.running)) lister.waiting;
    }) (Quiet ∷ past) = nothing-stands lister lister.cutter Quiet past now s refl is cutter in
    let waited : ChannelListerStands (record lister { running = heard_or_now Quiet now lister.running }) (Quiet ∷ past) =
    subst (λ w. ChannelListerStands (record lister { running = heard_or_now Quiet now lister.running; waiting = w }) (Quiet ∷ past))
    (keeps-none now (is_some (heard_or_now Quiet now lister.running)) lister.waiting none) next in
    record {
      stands = subst (λ r. ChannelListerStands (record lister { running = r }) (Quiet ∷ past)) same waited;
      closes = sym (nothing-closed lister Quiet past now s refl is) ∙ closes-none now lister.running lister.waiting none;
    }

-- any number of them
pub idle-ticks : (lister : ChannelLister) (n : ℕ) (past : List Sample) → lister.running ≡ None → lister.waiting ≡ None →
    ChannelListerStands lister past → ChannelListerStands lister (quiet_ticks n ++ past)
idle-ticks lister zero past rests none s = s
idle-ticks lister (suc n) past rests none s = (idle-tick lister (quiet_ticks n ++ past) rests none (idle-ticks lister n past rests none s)).stands

-- none of them closes a message
pub idle-closes : (lister : ChannelLister) (n : ℕ) (past : List Sample) → lister.running ≡ None → lister.waiting ≡ None →
    ChannelListerStands lister past → closed_now LAG (Quiet ∷ (quiet_ticks n ++ past)) ≡ []
idle-closes lister n past rests none s = (idle-tick lister (quiet_ticks n ++ past) rests none (idle-ticks lister n past rests none s)).closes

-- ---- both

-- what an idle lister keeps of its channels
pub record AreIdle (lister : MessageLister) : Type 0 where
  pub rests_a : lister.a.running ≡ None
  pub none_a : lister.a.waiting ≡ None
  pub rests_b : lister.b.running ≡ None
  pub none_b : lister.b.waiting ≡ None

pub are-idle : (lister : MessageLister) → (is_idle_on lister.a && is_idle_on lister.b) ≡ true → AreIdle lister
are-idle lister idle =
    let parts = both-true (is_idle_on lister.a) (is_idle_on lister.b) idle in
    let a = both-true (is_none lister.a.running) (is_none lister.a.waiting) parts.0 in
    let b = both-true (is_none lister.b.running) (is_none lister.b.waiting) parts.1 in
    record {
      rests_a = none-is lister.a.running a.0;
      none_a = none-is lister.a.waiting a.1;
      rests_b = none-is lister.b.running b.0;
      none_b = none-is lister.b.waiting b.1;
    }

pub messages-skip : (lister : MessageLister) (n : ℕ) (past : List Pair) → AreIdle lister → MessageListerStands lister past →
    MessageListerStands (record lister { ticks = lister.ticks + n }) (quiet_pairs n ++ past)
messages-skip lister n past idle s =
    let ticks : lister.ticks ≡ length past = s.ticks in
    let long : length (quiet_pairs n ++ past) ≡ n + length past = long-more n past in
    record {
      a = rw (on-quiet A n past) (idle-ticks lister.a n (on_channel A past) idle.rests_a idle.none_a s.a);
      b = rw (on-quiet B n past) (idle-ticks lister.b n (on_channel B past) idle.rests_b idle.none_b s.b);
      ticks = omega (arith, ticks, long);
    }

-- no line is completed
pub no-lines : (c : _) (closed : List Closed) → closed ≡ [] → flat_map (λ l. l.text) (map (closed_line c) closed) ≡ []
no-lines c closed is = rw is refl

pub messages-quiet : (lister : MessageLister) (n : ℕ) (past : List Pair) → AreIdle lister → MessageListerStands lister past →
    message_lines LAG (quiet_pairs n ++ past) ≡ message_lines LAG past
messages-quiet lister zero past idle s = refl
messages-quiet lister (suc n) past idle s =
    let shown : Pair = record { a = Quiet; b = Quiet } in
    let before : List Pair = quiet_pairs n ++ past in
    let a : closed_now LAG (on_channel A (shown ∷ before)) ≡ [] =
    rw (on-quiet A n past) (idle-closes lister.a n (on_channel A past) idle.rests_a idle.none_a s.a) in
    let b : closed_now LAG (on_channel B (shown ∷ before)) ≡ [] =
    rw (on-quiet B n past) (idle-closes lister.b n (on_channel B past) idle.rests_b idle.none_b s.b) in
    message_lines-grow LAG shown before (omega arith)
    ∙ ap (λ xs. message_lines LAG before ++ (xs ++ messages_now LAG B (shown ∷ before))) (no-lines A (closed_now LAG (on_channel A (shown ∷ before))) a)
    ∙ ap (λ xs. message_lines LAG before ++ xs) (no-lines B (closed_now LAG (on_channel B (shown ∷ before))) b)
    ∙ append-nil (message_lines LAG before) ∙ messages-quiet lister n past idle s
