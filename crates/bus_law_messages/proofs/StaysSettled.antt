-- Silence from a settled moment until the next message starts: every moment until then is settled.
use Rattle.std.proofs.Common.{◌≡◌, inl, inr, ℕ, suc, ◌+◌, ◌<◌, ◌≤◌, List, ◌++◌, length, sym, ap, ◌∙◌, subst, arith}
use Rattle.std.proofs.lemmas.Bool.{cases_eq}
use Rattle.bus_base.specs.declared.samples.Channel.{Channel}
use Rattle.bus_base.specs.declared.samples.Drive.{Drive}
use Rattle.bus_base.specs.declared.samples.Drive.TheVariants.{Silent}
use Rattle.bus_line.specs.Past.{runs}
use Rattle.bus_line.specs.Channels.{on_channel}
use Rattle.bus_formats.specs.Plans.{StationData, PlanData}
use Rattle.bus_model.specs.Memory.{TimedLoad}
use Rattle.bus_model.specs.Starts.{starts}
use Rattle.bus_model.specs.Transmissions.{drive_or, station_drive}
use Rattle.bus_model.specs.Course.{Course, quiet_from}
use Rattle.bus_model.specs.Control.{OutsideTake, yielded_in, course_after}
use Rattle.bus_model.specs.World.{Trace, trace, drives_after}
use Rattle.bus_law_line.specs.Senders.{LeftAlone}
use Rattle.bus_law_line.proofs.Sent.{left-spent}
use Rattle.bus_base.specs.Samples.{quiet_pairs}
use Rattle.bus_law_stations.specs.Silence.{NothingStarts}
use Rattle.bus_law_stations.proofs.Resting.{rests-quiet}
use Rattle.bus_law_stations.proofs.StillController.{pairs-long}
use Rattle.bus_law_messages.specs.Settled.{Settled, NoneTakes, NoneStarts}
use Rattle.bus_law_messages.proofs.Sending.{place-silent, place-drives, shown-long}
use Rattle.bus_law_messages.proofs.LaterTicks.{trace-later}
use Rattle.bus_law_messages.proofs.Pausing.{on-quiet, from-quiet, same-course, holder-silent, nothing-starts, serving-still, serving-quiet, paused, undriven-still}

module _ (k : ℕ) (plan : PlanData) (loads : List TimedLoad) (outside : List OutsideTake) (absent : List ℕ) (before : Trace) (place : ℕ)
    (holder : StationData) (n : ℕ) (settled : Settled k plan loads outside absent before place holder)
    (none : NoneStarts (course_after k holder (starts plan holder) loads outside before.shown) before.shown n)
    (stays : NoneTakes k plan loads outside place (length before.shown) (length before.shown + n)) where
  nothing : (m : ℕ) → m ≤ n → NothingStarts k (course_after k holder (starts plan holder) loads outside before.shown) before.shown m
  nothing m few =
      nothing-starts k (course_after k holder (starts plan holder) loads outside before.shown) before.shown m settled.controls.idle
      (λ entry later left. let late = none entry later left in omega (arith, late, few))

  pub all-quiet : (m : ℕ) → m < n → (station : ℕ) → station_drive station (drives_after k plan loads outside absent (quiet_pairs m ++ before.shown)) ≡ Silent
  all-quiet m few station = elim (cases_eq station place) [
    | inl same ↦ ap (λ i. station_drive i (drives_after k plan loads outside absent (quiet_pairs m ++ before.shown))) same
        ∙ ap drive_or (place-drives k plan loads outside absent (quiet_pairs m ++ before.shown) place holder Silent settled.there settled.present
        (holder-silent k holder (starts plan holder) loads outside before.shown settled.controls.holds settled.controls.before m (nothing (suc m) few)))
    | inr apart ↦ place-silent k plan loads outside absent (quiet_pairs m ++ before.shown) station (λ other there present.
        serving-quiet k other (starts plan other) loads outside before.shown (settled.others station other there apart present) m
        (λ tick low high. stays station other there apart tick low (omega (arith, high, few))))
  ]

  pub settled-still : (silent : List (List Drive)) → ((d : Channel) → LeftAlone plan.faults d before.driven silent) →
      Settled k plan loads outside absent record { shown = quiet_pairs n ++ before.shown; driven = silent ++ before.driven } place holder
  settled-still silent left =
      let same = same-course k holder (starts plan holder) loads outside before.shown settled.controls.holds settled.controls.before n
      (nothing n (omega arith)) in
      let long : length (quiet_pairs n ++ before.shown) ≡ n + length before.shown = pairs-long n before.shown in
      record {
        rests = λ d. ap (runs k) (on-quiet d n before.shown) ∙ rests-quiet k n (on_channel d before.shown) (settled.rests d);
        undriven = undriven-still k plan loads outside absent before n settled.spent all-quiet silent left settled.undriven;
        spent = λ d station. left-spent plan.faults d before.driven silent (left d) station;
        there = settled.there;
        present = settled.present;
        controls = record {
          holds = ap (λ (c : Course). c.holds) same ∙ settled.controls.holds;
          idle = ap (λ (c : Course). c.runs) same ∙ settled.controls.idle;
          before = λ tick late. ap (λ (c : Course). yielded_in tick c.ended) same ∙ settled.controls.before tick (omega (arith, late, long));
        };
        others = λ other station there apart present.
            serving-still k station (starts plan station) loads outside before.shown (settled.others other station there apart present) n
            (stays other station there apart);
      }

pub pause : (k : ℕ) (plan : PlanData) (loads : List TimedLoad) (outside : List OutsideTake) (absent : List ℕ) (t place : ℕ) (holder : StationData) (n : ℕ) →
    let before : Trace = trace k plan loads outside absent t in let after : Trace = trace k plan loads outside absent (t + n) in
    let c : Course = course_after k holder (starts plan holder) loads outside before.shown in
    Settled k plan loads outside absent before place holder → NoneStarts c before.shown n → NoneTakes k plan loads outside place t (t + n) →
    (after.shown ≡ quiet_pairs n ++ before.shown) × Settled k plan loads outside absent after place holder
    × (course_after k holder (starts plan holder) loads outside after.shown ≡ c) × (quiet_from after.shown ≡ quiet_from before.shown)
pause k plan loads outside absent t place holder n settled none stays =
    let before : Trace = trace k plan loads outside absent t in
    let long : length before.shown ≡ t = shown-long k plan loads outside absent t in
    let here : NoneTakes k plan loads outside place (length before.shown) (length before.shown + n) =
    λ other station there apart tick low high. stays other station there apart tick (omega (arith, low, long)) (omega (arith, high, long)) in
    let p = paused k plan loads outside absent before n settled.spent (all-quiet k plan loads outside absent before place holder n settled none here) n
    (omega arith) in
    let later = sym (trace-later k plan loads outside absent t n) ∙ p.1.0 in (
      ap (λ (tr : Trace). tr.shown) later,
      subst (λ tr. Settled k plan loads outside absent tr place holder) (sym later)
          (settled-still k plan loads outside absent before place holder n settled none here p.0 p.1.1),
      ap (λ (tr : Trace). course_after k holder (starts plan holder) loads outside tr.shown) later
          ∙ same-course k holder (starts plan holder) loads outside before.shown settled.controls.holds settled.controls.before n
          (nothing-starts k (course_after k holder (starts plan holder) loads outside before.shown) before.shown n settled.controls.idle none),
      ap (λ (tr : Trace). quiet_from tr.shown) later ∙ from-quiet n before.shown,
    )
