-- An accepted plan stays accepted with one of its faults alone, and no other station has a subsystem then.
use Rattle.std.proofs.Common.{◌≡◌, ℕ, List, [], ◌∷◌, refl, arith, ap, sym, ◌∙◌, subst}
use Rattle.std.specs.Prelude.{All, AllPairs}
use Rattle.std.proofs.lemmas.List.Elements.{All-nil, All-cons}
use Rattle.bus_formats.specs.Accepted.{HasFaultRanges, StrikesTheSame, IsAccepted, IsFrameSendable, IsSendable, IsWithinLimits}
use Rattle.bus_formats.specs.Plans.{FrameData, PlanData, without_subsystems}
use Rattle.bus_formats.specs.declared.fault.Fault.{Fault}
use Rattle.bus_formats.specs.declared.plan.Kind.{Kind}
use Rattle.bus_run.specs.Kept.{places}
use Rattle.bus_run.proofs.AcceptedLaws.{places-without}
use Rattle.bus_survey.specs.Alone.{with_fault_alone}
use Rattle.bus_survey.proofs.WithoutSubsystems.{accepted-without}

module _ (plan : PlanData) (fault : Fault) where
  sendable : (own : ℕ) (kind : Kind) → IsSendable plan own kind → IsSendable (with_fault_alone plan fault) own kind
  sendable own kind is = record { form = is.form; known = is.known; others = is.others; apart = is.apart }

  frame-sendable : (own : ℕ) (frame : FrameData) → IsFrameSendable plan own frame → IsFrameSendable (with_fault_alone plan fault) own frame
  frame-sendable own frame is = record { items = λ i d within. sendable own _ (is.items i d within); superseding = is.superseding }

  limits : IsWithinLimits plan → IsWithinLimits (with_fault_alone plan fault)
  limits is = record {
    stations = is.stations;
    frames = is.frames;
    items = is.items;
    faults = omega arith;
    repeated_items = is.repeated_items;
    repeated_ticks = is.repeated_ticks;
  }

  -- one fault strikes as no other does
  one-strikes : AllPairs (λ a b. StrikesTheSame a b → ⊥) (fault ∷ [])
  one-strikes i j d low within = absurd (omega (arith, low, within))

  pub accepted-alone : IsAccepted plan → HasFaultRanges fault → IsAccepted (with_fault_alone plan fault)
  accepted-alone accepted ranges = record {
    ranges = accepted.ranges;
    hits = All-cons HasFaultRanges fault [] ranges (All-nil HasFaultRanges);
    start = accepted.start;
    apart = accepted.apart;
    controllers = λ i d within is. record {
      starts = (accepted.controllers i d within is).starts;
      no_subsystem = (accepted.controllers i d within is).no_subsystem;
    };
    frames = λ i d within j f inside. frame-sendable _ _ (accepted.frames i d within j f inside);
    faults = one-strikes;
    limits = limits accepted.limits;
  }

  -- which objects are named doesn't depend on the faults
  pub same-places : places (with_fault_alone plan fault) ≡ places plan
  unfolding places
  same-places = refl

-- with each of its faults alone
pub each-alone : (plan : PlanData) → IsAccepted plan → All (λ fault. IsAccepted (with_fault_alone plan fault)) plan.faults
each-alone plan accepted i d within = accepted-alone plan _ accepted (accepted.hits i d within)

-- a plan without subsystems, from which the faults are taken out
module _ (plan other : PlanData) (faults : List Fault) (same : other ≡ without_subsystems plan) where
  pub taken-accepted : faults ≡ other.faults → IsAccepted plan → All (λ fault. IsAccepted (with_fault_alone other fault)) faults
  taken-accepted is accepted =
      subst (λ fs. All (λ fault. IsAccepted (with_fault_alone other fault)) fs) (sym is)
      (each-alone other (subst IsAccepted (sym same) (accepted-without plan accepted)))

  pub taken-none : places (record other { faults = faults }) ≡ []
  unfolding places
  taken-none = ap (λ (p : PlanData). places p) same ∙ places-without plan
