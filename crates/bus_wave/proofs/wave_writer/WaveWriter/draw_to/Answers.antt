use Rattle.std.proofs.Common.{◌≡◌, ℕ, ◌+◌, ◌-◌, refl, ap, sym, ◌∙◌, subst, arith}
use Rattle.bus_monitor.specs.Scribes.{Owed}
use Rattle.bus_monitor.specs.declared.listing_writer.ListingWriter.{ListingWriter}
use Rattle.bus_wave.specs.Delays.{column_at}
use Rattle.bus_wave.specs.Drawers.{drawer_at}
use Rattle.bus_wave.specs.declared.drawer.Drawer.{Drawer}
use Rattle.bus_wave.specs.declared.wave_lister.WaveLister.{WaveLister}
use Rattle.bus_wave.proofs.WriteLaws.{owed-own, text-with, with-none, drew-some, drew-failed}
use Rattle.bus_wave.proofs.wave_writer.WaveWriter.draw_to.Goals as goal

pub ticks-init : goal.ticks-init
ticks-init g c =
    let t : ℕ = c.args.self.now.drawer.tick in
    let none : t - t ≡ 0 = omega arith in (
      λ known all first cols last owed. (
        ap (λ p. record { tick = t; last = p }) last,
        subst (λ m. Owed (text-with known all t m) c.args.self.now.text first (g.K.Sink.held c.args.sink.now)) (sym none)
            (subst (λ x. Owed x c.args.self.now.text first (g.K.Sink.held c.args.sink.now)) (sym (with-none known all t)) owed),
      ),
      omega arith,
      c.requires.order,
      c.requires.room,
      refl,
      omega arith,
    )

pub ticks-preserved : goal.ticks-preserved
ticks-preserved g c =
    let inv = c.ticks.invariant in
    let from : ℕ = c.args.self.now.drawer.tick in
    let t : ℕ = c.ticks.self.drawer.tick in
    let t' : ℕ = c.draw_next.new.self.tick in (
      λ known all first cols last owed.
          let before = inv.0 known all first cols last owed in
          let drew = c.draw_next.ensures.drew known
          (λ i l e. ap (λ (h : ListingWriter WaveLister). column_at h.lister.line i) inv.4 ∙ cols i (omega (arith, l, inv.1)) e)
          (ap (λ (d : Drawer). d.last) before.0) in
          let some = drew-some known all from t t' c.ticks.self.text c.draw_next.new.text first (g.K.Sink.held c.ticks.sink) inv.1
          (omega (arith, c.draw_next.ensures.further)) before.1 drew.1 in (
            drew.0,
            (c.in-Ok.ensures.owed (text-with known all from (t' - from)) first some).0,
          ),
      omega (arith, c.draw_next.ensures.further, inv.1),
      c.draw_next.ensures.within,
      (c.in-Ok.ensures.owed c.draw_next.new.text (g.K.Sink.held c.ticks.sink) (owed-own c.draw_next.new.text (g.K.Sink.held c.ticks.sink))).1,
      inv.4,
      omega (arith, inv.5, c.write_long.ensures.cause.later),
    )

pub returns-in-Err-clause-drew : goal.returns-in-Err-clause-drew
returns-in-Err-clause-drew g c known all first cols last owed =
    let inv = c.ticks.invariant in
    let from : ℕ = c.args.self.now.drawer.tick in
    let t : ℕ = c.ticks.self.drawer.tick in
    let t' : ℕ = c.draw_next.new.self.tick in
    let before = inv.0 known all first cols last owed in
    let drew = c.draw_next.ensures.drew known
    (λ i l e. ap (λ (h : ListingWriter WaveLister). column_at h.lister.line i) inv.4 ∙ cols i (omega (arith, l, inv.1)) e)
    (ap (λ (d : Drawer). d.last) before.0) in
    let some = drew-some known all from t t' c.ticks.self.text c.draw_next.new.text first (g.K.Sink.held c.ticks.sink) inv.1
    (omega (arith, c.draw_next.ensures.further)) before.1 drew.1 in
    drew-failed known all from t' c.args.end
    (record c.ticks.self { drawer = c.draw_next.new.self; text = c.write_long.new.text }) c.write_long.new.text first (g.K.Sink.held c.write_long.new.sink) c.in-Err.stop
    (omega (arith, inv.1, c.draw_next.ensures.further)) c.draw_next.ensures.within
    (c.in-Err.ensures.owed (text-with known all from (t' - from)) first some)

pub returns-clause-drew : goal.returns-clause-drew
returns-clause-drew g c known all first cols last owed =
    let inv = c.ticks.invariant in
    let before = inv.0 known all first cols last owed in
    let whole : c.ticks.self.drawer.tick ≡ c.args.end = omega (arith, inv.2) in (
      subst (λ n. Owed (text-with known all c.args.self.now.drawer.tick (n - c.args.self.now.drawer.tick)) c.ticks.self.text first (g.K.Sink.held c.ticks.sink))
          whole before.1,
      inv.3,
      before.0 ∙ ap (drawer_at known) whole,
    )
