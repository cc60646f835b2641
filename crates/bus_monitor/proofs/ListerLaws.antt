-- What each cut tells a channel's lister.
use Rattle.std.proofs.Common.{◌≡◌, ℕ, ◌+◌, ◌-◌, ◌<◌, ◌≤◌, List, [], ◌∷◌, length, take, refl, ap, sym, ◌∙◌, subst, arith}
use Rattle.std.specs.Prelude.{true, is_some, if◌then◌else◌, Option, Some, None}
use Rattle.bus_base.specs.declared.samples.Sample.{Sample}
use Rattle.bus_words.specs.declared.word.Word.{Word}
use Rattle.bus_line.specs.Past.{Burst, runs, first_tick, ended_now, newest_burst, end_of, rest_of, heard_or_now}
use Rattle.bus_line.specs.Cutting.{cut_now, running_slots, Tells, Collects, Closes}
use Rattle.bus_planes.specs.Cutting.{BitCutterStands}
use Rattle.bus_line.specs.declared.cutter.TheConstants.{LAG}
use Rattle.bus_line.specs.declared.cutter.Cut.{Cut}
use Rattle.bus_line.specs.declared.cutter.Cut.TheVariants as cuts
use Rattle.bus_planes.specs.declared.cutter.BitCutter.{BitCutter}
use Rattle.bus_line.proofs.CutNow.{cut-tells}
use Rattle.bus_line.proofs.CollectLaws.{cut-collects, end-closes, slot-fills}
use Rattle.bus_formats.specs.Times.{no_response}
use Rattle.bus_monitor.specs.Messages.{Waiting}
use Rattle.bus_monitor.specs.Listings.{running_on}
use Rattle.bus_monitor.specs.Progress.{closed_now, closed_in_time}
use Rattle.bus_monitor.specs.Awaited.{awaited, kept_in_time}
use Rattle.bus_monitor.specs.Steps.{closed_in, waits_in, kept_with, burst_next}
use Rattle.bus_monitor.specs.Channels.{ChannelListerStands}
use Rattle.bus_monitor.specs.declared.channel_lister.ChannelLister.{ChannelLister}
use Rattle.bus_monitor.proofs.PastLaws.{RunsOn, runs-on, an-end}
use Rattle.bus_monitor.proofs.PastLaws as past_laws
use Rattle.bus_monitor.proofs.AwaitedLaws.{closed-end, awaited-end, closed-time, awaited-time}
use Rattle.bus_monitor.proofs.StepLaws.{running-is, running-step, some-if, kept-more, next-closed, next-waits}

pub tells-cut : (k : ℕ) (x : Sample) (past : List Sample) (cut : Cut) → cut ≡ cut_now k (x ∷ past) → Tells k (x ∷ past) cut
tells-cut k x past cut is = subst (λ (c : Cut). Tells k (x ∷ past) c) (sym is) (cut-tells k (x ∷ past))

pub collects-cut : (k : ℕ) (x : Sample) (past : List Sample) (cut : Cut) → k ≤ 39 → cut ≡ cut_now k (x ∷ past) →
    Collects cut (running_slots k past) (running_slots k (x ∷ past))
collects-cut k x past cut small is =
    subst (λ (c : Cut). Collects c (running_slots k past) (running_slots k (x ∷ past))) (sym is) (cut-collects k x past small)

-- ---- a tick in which no burst ends

-- what is kept of such a tick, by what was kept
pub record IsWaited (k : ℕ) (x : Sample) (past : List Sample) (now : ℕ) (running : Option ℕ) (waiting : Option Waiting) : Type 0 where
  pub running_is : heard_or_now x now running ≡ running_on k (x ∷ past)
  pub closed : closed_in_time now (is_some (heard_or_now x now running)) waiting ≡ closed_now k (x ∷ past)
  pub keeps : kept_in_time now (is_some (heard_or_now x now running)) waiting ≡ awaited k (x ∷ past)

pub is-waited : (k : ℕ) (x : Sample) (past : List Sample) (now : ℕ) (running : Option ℕ) (waiting : Option Waiting) →
    ended_now k (x ∷ past) ≡ None → length past ≡ now → running ≡ running_on k past → waiting ≡ awaited k past →
    IsWaited k x past now running waiting
is-waited k x past now running waiting none here runs_is waits_is =
    let next : heard_or_now x now running ≡ running_on k (x ∷ past) =
    ap (λ n. heard_or_now x n running) (sym here) ∙ ap (heard_or_now x (length past)) runs_is ∙ running-step k x past none in
    let on : is_some (heard_or_now x now running) ≡ runs k (x ∷ past) = ap is_some next ∙ some-if (runs k (x ∷ past)) (first_tick k (x ∷ past)) in
    record {
      running_is = next;
      closed = ap (λ b. closed_in_time now b waiting) on ∙ ap (λ n. closed_in_time n (runs k (x ∷ past)) waiting) (sym here)
          ∙ ap (closed_in_time (length past) (runs k (x ∷ past))) waits_is ∙ sym (closed-time k x past none);
      keeps = ap (λ b. kept_in_time now b waiting) on ∙ ap (λ n. kept_in_time n (runs k (x ∷ past)) waiting) (sym here)
          ∙ ap (kept_in_time (length past) (runs k (x ∷ past))) waits_is ∙ sym (awaited-time k x past none);
    }

-- ---- an end

pub record IsEnded (k : ℕ) (x : Sample) (past : List Sample) (rest : ℕ) : Type 0 where
  pub first : ℕ
  pub ran : running_on k past ≡ Some first
  pub over : running_on k (x ∷ past) ≡ None
  pub none : running_slots k (x ∷ past) ≡ []
  pub closed : closed_in (burst_next (awaited k past) first (length past - k) (length past) (running_slots k past) rest) ≡ closed_now k (x ∷ past)
  pub waits : waits_in (burst_next (awaited k past) first (length past - k) (length past) (running_slots k past) rest) ≡ awaited k (x ∷ past)

next-same : (w : Option Waiting) (burst : Burst) (k first end now rest : ℕ) (whole : List (Option Word)) → burst.first ≡ first → end_of burst ≡ end →
    end_of burst + k ≡ now → burst.slots ≡ whole → rest_of burst ≡ rest →
    burst_next w first end now whole rest ≡ burst_next w burst.first (end_of burst) (end_of burst + k) burst.slots (rest_of burst)
next-same w burst k first end now rest whole f e n s r =
    ap (λ v. burst_next w v end now whole rest) (sym f) ∙ ap (λ v. burst_next w burst.first v now whole rest) (sym e)
    ∙ ap (λ v. burst_next w burst.first (end_of burst) v whole rest) (sym n)
    ∙ ap (λ v. burst_next w burst.first (end_of burst) (end_of burst + k) v rest) (sym s)
    ∙ ap (λ v. burst_next w burst.first (end_of burst) (end_of burst + k) burst.slots v) (sym r)

pub is-ended : (k : ℕ) (x : Sample) (past : List Sample) (slots rest : ℕ) → k ≤ 39 → k < no_response → cuts.Ended slots rest ≡ cut_now k (x ∷ past) →
    IsEnded k x past rest
is-ended k x past slots rest small short is =
    let burst : Burst = newest_burst k (x ∷ past) in
    let tells : Tells k (x ∷ past) (cuts.Ended slots rest) = tells-cut k x past (cuts.Ended slots rest) is in
    let ends : past_laws.Ends k past burst (x ∷ past) = an-end k x past burst tells.0 in
    let closes : Closes k x past burst = end-closes k x past burst tells.0 in
    let same : burst_next (awaited k past) (first_tick k past) (length past - k) (length past) (running_slots k past) rest
    ≡ burst_next (awaited k past) burst.first (end_of burst) (end_of burst + k) burst.slots (rest_of burst) =
    next-same (awaited k past) burst k (first_tick k past) (length past - k) (length past) rest (running_slots k past) ends.first
    (let at = ends.end in omega (arith, at)) ends.end closes.slots tells.3 in
    record {
      first = first_tick k past;
      ran = ap (λ b. if b then Some (first_tick k past) else None) ends.ran;
      over = ap (λ b. if b then Some (first_tick k (x ∷ past)) else None) ends.over;
      none = (collects-cut k x past (cuts.Ended slots rest) small is).1;
      closed = ap closed_in same ∙ next-closed k (awaited k past) burst ∙ sym (closed-end k x past burst tells.0);
      waits = ap waits_in same ∙ next-waits k (awaited k past) burst ∙ sym (awaited-end k x past burst short tells.0);
    }

-- ---- the lister

pub nothing-waited : (lister : ChannelLister) (x : Sample) (past : List Sample) (now : ℕ) → ChannelListerStands lister past → length past ≡ now →
    cuts.Nothing ≡ cut_now LAG (x ∷ past) → IsWaited LAG x past now lister.running lister.waiting
nothing-waited lister x past now s here is =
    is-waited LAG x past now lister.running lister.waiting (tells-cut LAG x past cuts.Nothing is).0 here s.running s.waiting

pub nothing-stands : (lister : ChannelLister) (cutter : BitCutter) (x : Sample) (past : List Sample) (now : ℕ) → ChannelListerStands lister past →
    length past ≡ now → cuts.Nothing ≡ cut_now LAG (x ∷ past) → BitCutterStands LAG cutter (x ∷ past) →
    ChannelListerStands (record lister {
      cutter = cutter;
      running = heard_or_now x now lister.running;
      waiting = kept_in_time now (is_some (heard_or_now x now lister.running)) lister.waiting;
    }) (x ∷ past)
nothing-stands lister cutter x past now s here is stands =
    let waited : IsWaited LAG x past now lister.running lister.waiting = nothing-waited lister x past now s here is in
    record {
      cutter = stands;
      running = waited.running_is;
      slots = s.slots ∙ ap (take 34) (sym (collects-cut LAG x past cuts.Nothing (omega arith) is));
      waiting = waited.keeps;
    }

pub nothing-closed : (lister : ChannelLister) (x : Sample) (past : List Sample) (now : ℕ) → ChannelListerStands lister past → length past ≡ now →
    cuts.Nothing ≡ cut_now LAG (x ∷ past) → closed_in_time now (is_some (heard_or_now x now lister.running)) lister.waiting ≡ closed_now LAG (x ∷ past)
nothing-closed lister x past now s here is = (nothing-waited lister x past now s here is).closed

-- while a burst runs nothing closes in time
pub runs-closed : (now : ℕ) (waiting : Option Waiting) → closed_in_time now true waiting ≡ []
runs-closed now None = refl
runs-closed now (Some w) = refl

pub runs-keeps : (now : ℕ) (waiting : Option Waiting) → kept_in_time now true waiting ≡ waiting
runs-keeps now None = refl
runs-keeps now (Some w) = refl

slot-runs : (x : Sample) (past : List Sample) (i : ℕ) (word : Option Word) → cuts.Slot i word ≡ cut_now LAG (x ∷ past) →
    (ended_now LAG (x ∷ past) ≡ None) × (runs LAG past ≡ true)
slot-runs x past i word is =
    let tells : Tells LAG (x ∷ past) (cuts.Slot i word) = tells-cut LAG x past (cuts.Slot i word) is in
    (tells.0, (slot-fills LAG x past _ (omega arith) tells.1).ran)

pub slot-closed : (x : Sample) (past : List Sample) (i : ℕ) (word : Option Word) → cuts.Slot i word ≡ cut_now LAG (x ∷ past) →
    [] ≡ closed_now LAG (x ∷ past)
slot-closed x past i word is =
    let at = slot-runs x past i word is in
    let on : runs LAG (x ∷ past) ≡ true = (runs-on LAG x past at.0).on at.1 in
    sym (closed-time LAG x past at.0 ∙ ap (λ b. closed_in_time (length past) b (awaited LAG past)) on ∙ runs-closed (length past) (awaited LAG past))

pub slot-stands : (lister : ChannelLister) (cutter : BitCutter) (x : Sample) (past : List Sample) (i : ℕ) (word : Option Word) →
    ChannelListerStands lister past → cuts.Slot i word ≡ cut_now LAG (x ∷ past) → BitCutterStands LAG cutter (x ∷ past) →
    ChannelListerStands (record lister { cutter = cutter; slots = record { items = kept_with lister.slots.items word } }) (x ∷ past)
slot-stands lister cutter x past i word s is stands =
    let at = slot-runs x past i word is in
    let on : RunsOn LAG x past = runs-on LAG x past at.0 in
    let still : runs LAG (x ∷ past) ≡ true = on.on at.1 in
    record {
      cutter = stands;
      running = s.running ∙ running-is LAG past true at.1 ∙ ap Some (sym (on.same at.1)) ∙ sym (running-is LAG (x ∷ past) true still);
      slots = ap (λ (kept : List (Option Word)). kept_with kept word) s.slots ∙ kept-more (running_slots LAG past) word
          ∙ ap (take 34) (sym (collects-cut LAG x past (cuts.Slot i word) (omega arith) is).1);
      waiting = s.waiting ∙ sym (awaited-time LAG x past at.0 ∙ ap (λ b. kept_in_time (length past) b (awaited LAG past)) still
          ∙ runs-keeps (length past) (awaited LAG past));
    }

pub end-is : (x : Sample) (past : List Sample) (slots rest : ℕ) → cuts.Ended slots rest ≡ cut_now LAG (x ∷ past) → IsEnded LAG x past rest
end-is x past slots rest is = is-ended LAG x past slots rest (omega arith) (omega arith) is

pub end-next : (w : Option Waiting) (past : List Sample) (now first rest : ℕ) → w ≡ awaited LAG past → length past ≡ now →
    burst_next w first (now - LAG) now (running_slots LAG past) rest
    ≡ burst_next (awaited LAG past) first (length past - LAG) (length past) (running_slots LAG past) rest
end-next w past now first rest waits here =
    ap (λ (v : Option Waiting). burst_next v first (now - LAG) now (running_slots LAG past) rest) waits
    ∙ ap (λ n. burst_next (awaited LAG past) first (n - LAG) n (running_slots LAG past) rest) (sym here)

pub end-closed : (w : Option Waiting) (x : Sample) (past : List Sample) (now rest : ℕ) → w ≡ awaited LAG past → length past ≡ now →
    (e : IsEnded LAG x past rest) → closed_in (burst_next w e.first (now - LAG) now (running_slots LAG past) rest) ≡ closed_now LAG (x ∷ past)
end-closed w x past now rest waits here e = ap closed_in (end-next w past now e.first rest waits here) ∙ e.closed

pub end-stands : (lister : ChannelLister) (cutter : BitCutter) (x : Sample) (past : List Sample) (now rest : ℕ) → ChannelListerStands lister past →
    length past ≡ now → (e : IsEnded LAG x past rest) → BitCutterStands LAG cutter (x ∷ past) →
    ChannelListerStands (record lister {
      cutter = cutter;
      running = None;
      slots = record { items = [] };
      waiting = waits_in (burst_next lister.waiting e.first (now - LAG) now (running_slots LAG past) rest);
    }) (x ∷ past)
end-stands lister cutter x past now rest s here e stands = record {
  cutter = stands;
  running = sym e.over;
  slots = ap (take 34) (sym e.none);
  waiting = ap waits_in (end-next lister.waiting past now e.first rest s.waiting here) ∙ e.waits;
}
