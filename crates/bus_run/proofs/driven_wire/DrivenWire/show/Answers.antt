use Rattle.std.proofs.Common.{◌≡◌, ◌∷◌, [], ◌∙◌, length, sym, ap, arith, subst, List, ℕ, ◌+◌, if◌then◌else◌}
use Rattle.bus_base.specs.declared.samples.Channel.TheVariants.{A, B}
use Rattle.bus_base.specs.declared.samples.Drive.{Drive}
use Rattle.bus_line.specs.declared.cutter.TheConstants.{LAG}
use Rattle.bus_model.specs.Wire.{drivers}
use Rattle.bus_model.specs.World.{drives_after, is_clash}
use Rattle.bus_wire.specs.Places.{AreRising, AreSilentBeside}
use Rattle.bus_wire.specs.WireStands.{WireStands}
use Rattle.bus_run.specs.Driven.{AreSilentBut}
use Rattle.bus_run.proofs.DrivenLaws.{drives-are}
use Rattle.bus_run.proofs.WireLaws.{clashes-next, clashes-few}
use Rattle.bus_run.proofs.driven_wire.DrivenWire.show.Goals as goal

pub drive-driving-requires-clause-few : goal.drive-driving-requires-clause-few
drive-driving-requires-clause-few c =
    let (w, past, driven, st, called, wire, small) = c.requires in
    let same = st.all in
    let few = wire.few in
    omega (arith, same, few)

pub drive-driving-requires-clause-all : goal.drive-driving-requires-clause-all
drive-driving-requires-clause-all c =
    let (w, past, driven, st, called, wire, small) = c.requires in
    wire.drives ∙ sym st.all

pub drive-driving-requires-clause-rising : goal.drive-driving-requires-clause-rising
drive-driving-requires-clause-rising c =
    let (w, past, driven, st, called, wire, small) = c.requires in
    called.rising

pub drive-driving-requires-clause-silent : goal.drive-driving-requires-clause-silent
drive-driving-requires-clause-silent c =
    let (w, past, driven, st, called, wire, small) = c.requires in
    wire.silent

pub show_among-shown-requires-clause-few : goal.show_among-shown-requires-clause-few
show_among-shown-requires-clause-few c =
    let (w, past, driven, st, called, wire, small) = c.requires in
    let is = ap length c.deref.ensures.value in
    let all = c.drive-driving.ensures.drives.all in
    let same = st.all in
    let few = wire.few in
    omega (arith, is, all, same, few)

pub show_among-shown-requires-clause-rising : goal.show_among-shown-requires-clause-rising
show_among-shown-requires-clause-rising c =
    let all = ap length c.deref.ensures.value ∙ c.drive-driving.ensures.drives.all in
    subst (λ (ps : List ℕ). AreRising 0 (length c.deref.result.now) ps) (sym c.as_slice-among.ensures.value)
    (subst (λ n. AreRising 0 n c.drive-driving.result.items) (sym all) c.drive-driving.ensures.driving.rising)

pub show_among-shown-requires-clause-silent : goal.show_among-shown-requires-clause-silent
show_among-shown-requires-clause-silent c =
    subst (λ (ps : List ℕ). AreSilentBeside 0 ps c.deref.result.now) (sym c.as_slice-among.ensures.value)
    (subst (λ (ds : List Drive). AreSilentBeside 0 c.drive-driving.result.items ds) (sym c.deref.ensures.value)
    (λ i drive low at none. c.drive-driving.ensures.driving.others i drive at none))

pub silence-requires-clause-rising : goal.silence-requires-clause-rising
silence-requires-clause-rising c =
    subst (λ (ps : List ℕ). AreRising 0 (length c.drive-driving.new.self.drives.items) ps) (sym c.as_slice-among.ensures.value)
    (subst (λ n. AreRising 0 n c.drive-driving.result.items) (sym c.drive-driving.ensures.drives.all) c.drive-driving.ensures.driving.rising)

pub silence-requires-clause-silent : goal.silence-requires-clause-silent
silence-requires-clause-silent c =
    subst (λ (ps : List ℕ). AreSilentBut ps c.drive-driving.new.self.drives.items) (sym c.as_slice-among.ensures.value) c.drive-driving.ensures.driving.others

pub clashes_after-self-requires : goal.clashes_after-self-requires
clashes_after-self-requires c =
    let (w, past, driven, st, called, wire, small) = c.requires in
    let same = c.silence.ensures.clashes in
    let before = c.drive-driving.ensures.clashes in
    let is = wire.clashes_are in
    let most = clashes-few w.plan.faults driven in
    omega (arith, same, before, is, most, small)

pub returns-clause-pair : goal.returns-clause-pair
returns-clause-pair c w past driven st called wire =
    let drives : c.deref.result.now ≡ drives_after LAG w.plan w.loads w.outside w.absent past =
    c.deref.ensures.value ∙ drives-are w past c.args.stations.now c.args.places.now _ st called c.drive-driving.ensures.drives in
    let before : WireStands w.plan.faults c.drive-driving.new.self.wire driven = subst (λ v. WireStands w.plan.faults v driven) (sym c.drive-driving.ensures.wire) wire.wire in
    rw (← drives) (c.show_among-shown.ensures.pair w.plan.faults driven before)

pub returns-clause-stands : goal.returns-clause-stands
returns-clause-stands c w past driven st called wire =
    let drives : c.deref.result.now ≡ drives_after LAG w.plan w.loads w.outside w.absent past =
    c.deref.ensures.value ∙ drives-are w past c.args.stations.now c.args.places.now _ st called c.drive-driving.ensures.drives in
    let before : WireStands w.plan.faults c.drive-driving.new.self.wire driven = subst (λ v. WireStands w.plan.faults v driven) (sym c.drive-driving.ensures.wire) wire.wire in
    record {
      wire = subst (λ v. WireStands w.plan.faults v (drives_after LAG w.plan w.loads w.outside w.absent past ∷ driven)) (sym c.silence.ensures.wire)
          (subst (λ (ds : List Drive). WireStands w.plan.faults c.show_among-shown.new.self (ds ∷ driven)) drives
          (c.show_among-shown.ensures.stands w.plan.faults driven before));
      drives = c.silence.ensures.all ∙ c.drive-driving.ensures.drives.all ∙ st.all;
      silent = c.silence.ensures.silent;
      few = wire.few;
      clashes_are = c.clashes_after-self.ensures (drivers w.plan.faults A (drives_after LAG w.plan w.loads w.outside w.absent past ∷ driven)) (drivers w.plan.faults B
          (drives_after LAG w.plan w.loads w.outside w.absent past ∷ driven))
          (subst (λ (ds : List Drive). c.show_among-shown.result.drivers ≡ drivers w.plan.faults A (ds ∷ driven) ∷ drivers w.plan.faults B (ds ∷ driven) ∷ []) drives
          (c.show_among-shown.ensures.drivers w.plan.faults driven before))
          ∙ ap (λ n. (if is_clash w.plan.faults (drives_after LAG w.plan w.loads w.outside w.absent past ∷ driven) then 1 else 0) + n)
          (c.silence.ensures.clashes ∙ c.drive-driving.ensures.clashes ∙ wire.clashes_are)
          ∙ sym (clashes-next w.plan.faults (drives_after LAG w.plan w.loads w.outside w.absent past) driven);
    }
