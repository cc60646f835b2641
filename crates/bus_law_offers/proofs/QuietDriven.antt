-- Quiet ticks in which no station drives a channel.
use Rattle.std.proofs.Common.{◌≡◌, ℕ, zero, suc, ◌<◌, ◌≤◌, List, [], ◌∷◌, ◌++◌, length, refl, ap, ◌∙◌, arith}
use Rattle.bus_base.specs.Samples.{quiet_pair, quiet_pairs}
use Rattle.bus_base.specs.declared.samples.Channel.{Channel}
use Rattle.bus_base.specs.declared.samples.Channel.TheVariants.{A, B}
use Rattle.bus_base.specs.declared.samples.Drive.{Drive}
use Rattle.bus_base.specs.declared.samples.Drive.TheVariants.{Silent}
use Rattle.bus_model.specs.Transmissions.{drives_on, station_drive, newest_drives, transmissions}
use Rattle.bus_model.specs.Wire.{shown}
use Rattle.bus_model.specs.World.{Trace, drives_after, next_tick, ticks_on}
use Rattle.bus_law_line.specs.Senders.{IsSpent, LeftAlone}
use Rattle.bus_law_messages.proofs.Running.{quiet-pair}
use Rattle.bus_law_phases.specs.Scenarios.{Scenario}
use Rattle.bus_law_phases.proofs.Silence.{with-silent, quiet-shown, QuietTicks}

module _ (w : Scenario) (before : Trace) (limit : ℕ)
    (silent : (n : ℕ) → n < limit → (station : ℕ) →
    station_drive station (drives_after w.lag w.plan w.loads w.outside w.absent (quiet_pairs n ++ before.shown)) ≡ Silent)
    (spent : (d : Channel) (station : ℕ) → IsSpent w.plan.faults d before.driven station) where
  abbrev now : ℕ → List Drive
  now n = drives_after w.lag w.plan w.loads w.outside w.absent (quiet_pairs n ++ before.shown)

  none-yet : QuietTicks w before 0
  unfolding ticks_on
  none-yet = record { driven = []; many = refl; world = refl; alone = λ d. record { undriven = tt; spent = spent d }; begun = refl }

  one-more : (n : ℕ) → n < limit → QuietTicks w before n → QuietTicks w before (suc n)
  unfolding ticks_on transmissions
  one-more n early q =
      let left : (d : Channel) → LeftAlone w.plan.faults d before.driven (now n ∷ q.driven) =
      λ d. record { undriven = (λ station. ap (drives_on d) (silent n early station), (q.alone d).undriven); spent = spent d } in
      let shows : shown w.plan.faults ((now n ∷ q.driven) ++ before.driven) ≡ quiet_pair =
      quiet-shown w.plan.faults ((now n ∷ q.driven) ++ before.driven) (quiet-pair w.plan.faults A before.driven q.driven (now n) (left A))
      (quiet-pair w.plan.faults B before.driven q.driven (now n) (left B)) in
      record {
        driven = now n ∷ q.driven;
        many = ap suc q.many;
        world = ap (next_tick w.lag w.plan w.loads w.outside w.absent) q.world
            ∙ ap (λ x. record { shown = x ∷ (quiet_pairs n ++ before.shown); driven = (now n ∷ q.driven) ++ before.driven }) shows;
        alone = left;
        begun = with-silent w.plan.faults 0 (length (q.driven ++ before.driven)) (newest_drives (q.driven ++ before.driven)) (now n)
            (transmissions w.plan.faults (q.driven ++ before.driven)) (silent n early)
            ∙ q.begun;
      }

  pub undriven-for : (n : ℕ) → n ≤ limit → QuietTicks w before n
  undriven-for zero early = none-yet
  undriven-for (suc n) early = one-more n (omega (arith, early)) (undriven-for n (omega (arith, early)))
