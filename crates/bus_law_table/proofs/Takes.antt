-- A terminal takes no block in the ticks before a burst's end is known, nor while its station holds control.
use Rattle.std.proofs.Common.{◌≡◌, ℕ, suc, ◌+◌, ◌<◌, ◌≤◌, Bool, false, List, [], ◌∷◌, ◌++◌, length, None, refl, sym, ap, ◌∙◌, arith, length-append}
use Rattle.std.proofs.lemmas.Bool.{true≢false}
use Rattle.bus_base.specs.Samples.{other_of}
use Rattle.bus_base.specs.declared.samples.Channel.{Channel}
use Rattle.bus_base.specs.declared.samples.Pair.{Pair}
use Rattle.bus_line.specs.Past.{InLeg, quiet_ticks}
use Rattle.bus_line.specs.Channels.{on_channel}
use Rattle.bus_formats.specs.Plans.{TerminalData, StationData}
use Rattle.bus_model.specs.Memory.{Memory, TimedLoad, with_loads}
use Rattle.bus_model.specs.Hearing.{Hearing}
use Rattle.bus_model.specs.Standing.{Standing, at_rest}
use Rattle.bus_model.specs.Terminal.{standing, standing_after, took_now, memory_after}
use Rattle.bus_model.specs.Control.{OutsideTake, StationSoFar, unheard, unheard_ticks, moment_of, outside_takes, course_after, hearing_after, keeps}
use Rattle.bus_law_stations.specs.Silence.{quiet_moments, NothingDue}
use Rattle.bus_law_stations.specs.Turns.{moments_of, TakesNothing, KeepsControl}
use Rattle.bus_law_stations.proofs.StillTerminal.{still-stands, still-takes}
use Rattle.bus_law_stations.proofs.Turning.{serving-hears, holding-hears}
use Rattle.bus_law_messages.specs.Settled.{IsServing}
use Rattle.bus_law_table.specs.Stations.{HeardNothing}
use Rattle.bus_law_table.proofs.Idle.{NoneEnds, leg-none-ends, tick-accepts, idle-takes}
use Rattle.bus_law_table.proofs.Loads.{loaded-alike}

-- ---- while a burst runs

module _ (k : ℕ) (station : StationData) (starts : Bool) (loads : List TimedLoad) (outside : List OutsideTake) (past : List Pair) where
  -- control isn't taken while no burst ends
  idle-nothing : (ticks : List Pair) →
      NoneEnds k (hearing_after k station starts loads outside past).ticks (moments_of (course_after k station starts loads outside past) ticks) →
      ((tick : ℕ) → length past ≤ tick → tick < length past + length ticks → outside_takes k station starts loads outside tick outside ≡ []) →
      TakesNothing k station starts loads outside past ticks
  idle-nothing [] none stays = tt
  idle-nothing (x ∷ ticks) none stays =
      let hearing = hearing_after k station starts loads outside past in
      let course = course_after k station starts loads outside past in
      let long : length (ticks ++ past) ≡ length ticks + length past = length-append ticks past in (
        tick-accepts k station.terminal loads hearing.memory (moment_of x course) (moments_of course ticks ++ hearing.ticks) none.0,
        stays (length (ticks ++ past)) (omega (arith, long)) (omega (arith, long)),
        idle-nothing ticks none.1 (λ tick low high. stays tick low (omega (arith, high))),
      )

  pub serving-takes : (c : Channel) → IsServing k station starts loads outside past → (x : Pair) (ticks : List Pair) →
      InLeg k (on_channel c (x ∷ ticks)) → on_channel (other_of c) (x ∷ ticks) ≡ quiet_ticks (length (x ∷ ticks)) →
      ((tick : ℕ) → length past ≤ tick → tick < length past + length (x ∷ ticks) → outside_takes k station starts loads outside tick outside ≡ []) →
      took_now k station.terminal loads (hearing_after k station starts loads outside ((x ∷ ticks) ++ past)) ≡ None
  serving-takes c serving x ticks leg quiet stays =
      let t = station.terminal in
      let course = course_after k station starts loads outside past in
      let hearing = hearing_after k station starts loads outside past in
      let none = leg-none-ends k c hearing.ticks course serving.free.rests (x ∷ ticks) leg quiet in
      let heard : hearing_after k station starts loads outside ((x ∷ ticks) ++ past)
      ≡ record { memory = hearing.memory; ticks = moment_of x course ∷ (moments_of course ticks ++ hearing.ticks) } =
      ap (λ (so : StationSoFar). so.hearing) (serving-hears k station starts loads outside past (x ∷ ticks) serving.serves
      (idle-nothing (x ∷ ticks) none stays)) in
      ap (took_now k t loads) heard
      ∙ idle-takes k t loads hearing.memory hearing.ticks serving.free.promise (moment_of x course) (moments_of course ticks) none

-- ---- while its station holds control

-- ticks that a terminal doesn't hear are quiet ones
mays : List Pair → List Bool
mays [] = []
mays (x ∷ past) = false ∷ mays past

unheard-quiet : (past : List Pair) → unheard_ticks past ≡ quiet_moments (mays past) ++ []
unfolding mays
unheard-quiet [] = refl
unheard-quiet (x ∷ past) = ap (λ ms. unheard ∷ ms) (unheard-quiet past)

nothing-due : (k : ℕ) (t : TerminalData) (memory : Memory) (n : ℕ) → NothingDue k t (at_rest memory) [] n
nothing-due k t memory n = record {
  rests_a = refl;
  rests_b = refl;
  answer = λ owed. absurd (true≢false (sym owed));
  promise = λ made. absurd (true≢false (sym made));
}

unheard-stands : (k : ℕ) (t : TerminalData) (loads : List TimedLoad) (memory : Memory) (past : List Pair) →
    standing k t loads memory (unheard_ticks past) ≡ at_rest memory
unfolding standing
unheard-stands k t loads memory past =
    ap (standing k t loads memory) (unheard-quiet past)
    ∙ still-stands k t loads memory [] (mays past) (nothing-due k t memory (length (mays past)))

unheard-long : (past : List Pair) → length (unheard_ticks past) ≡ length past
unheard-long [] = refl
unheard-long (x ∷ past) = ap suc (unheard-long past)

unheard-append : (ticks past : List Pair) → unheard_ticks ticks ++ unheard_ticks past ≡ unheard_ticks (ticks ++ past)
unheard-append [] past = refl
unheard-append (x ∷ ticks) past = ap (λ ms. unheard ∷ ms) (unheard-append ticks past)

module _ (k : ℕ) (station : StationData) (starts : Bool) (loads : List TimedLoad) (outside : List OutsideTake) where
  abbrev hearing : List Pair → Hearing
  hearing past = hearing_after k station starts loads outside past

  abbrev keeps_at : List Pair → Memory
  keeps_at past = keeps k station starts loads outside past

  -- it took no block in the newest tick
  pub unheard-takes : (x : Pair) (past : List Pair) → HeardNothing k station starts loads outside (x ∷ past) →
      took_now k station.terminal loads (hearing (x ∷ past)) ≡ None
  unfolding standing mays
  unheard-takes x past nothing =
      ap (λ ms. took_now k station.terminal loads record { memory = (hearing (x ∷ past)).memory; ticks = ms }) (nothing ∙ unheard-quiet (x ∷ past))
      ∙ still-takes k station.terminal loads (hearing (x ∷ past)).memory [] false (mays past)
      (nothing-due k station.terminal (hearing (x ∷ past)).memory (suc (length (mays past))))

  -- it keeps what it kept, with the loads since then
  pub unheard-keeps : (past : List Pair) → HeardNothing k station starts loads outside past →
      keeps_at past ≡ with_loads station.terminal.address (length past) loads (hearing past).memory
  unheard-keeps past nothing =
      ap (λ ms. memory_after k station.terminal loads record { memory = (hearing past).memory; ticks = ms }) nothing
      ∙ ap (λ n. with_loads station.terminal.address n loads (standing k station.terminal loads (hearing past).memory (unheard_ticks past)).memory)
      (unheard-long past)
      ∙ ap (λ (s : Standing). with_loads station.terminal.address (length past) loads s.memory)
      (unheard-stands k station.terminal loads (hearing past).memory past)

  stands-memory : (past : List Pair) → HeardNothing k station starts loads outside past →
      (standing_after k station.terminal loads (hearing past)).memory ≡ (hearing past).memory
  stands-memory past nothing =
      ap (λ ms. (standing k station.terminal loads (hearing past).memory ms).memory) nothing
      ∙ ap (λ (s : Standing). s.memory) (unheard-stands k station.terminal loads (hearing past).memory past)

  module _ (past ticks : List Pair) (nothing : HeardNothing k station starts loads outside past)
      (controls : KeepsControl k station starts loads outside past ticks) where
    same-memory : (hearing (ticks ++ past)).memory ≡ (hearing past).memory
    same-memory = ap (λ (so : StationSoFar). so.hearing.memory) (holding-hears k station starts loads outside past ticks controls)

    -- it hears nothing while control is kept
    pub unheard-on : HeardNothing k station starts loads outside (ticks ++ past)
    unheard-on =
        ap (λ (so : StationSoFar). so.hearing.ticks) (holding-hears k station starts loads outside past ticks controls)
        ∙ ap (λ ms. unheard_ticks ticks ++ ms) nothing
        ∙ unheard-append ticks past

    -- it keeps what it kept
    pub unheard-memory : (standing_after k station.terminal loads (hearing (ticks ++ past))).memory
        ≡ (standing_after k station.terminal loads (hearing past)).memory
    unheard-memory =
        stands-memory (ticks ++ past) unheard-on ∙ same-memory ∙ sym (stands-memory past nothing)

    -- a memory of the table that is its own before is so then
    pub unheard-alike : (memory : Memory) →
        with_loads station.terminal.address (length past) loads memory ≡ keeps_at past →
        with_loads station.terminal.address (length (ticks ++ past)) loads memory ≡ keeps_at (ticks ++ past)
    unheard-alike memory same =
        let long : length (ticks ++ past) ≡ length ticks + length past = length-append ticks past in
        loaded-alike station.terminal.address (length past) (length (ticks ++ past)) loads memory (hearing past).memory (omega (arith, long))
        (same ∙ unheard-keeps past nothing)
        ∙ ap (with_loads station.terminal.address (length (ticks ++ past)) loads) (sym same-memory)
        ∙ sym (unheard-keeps (ticks ++ past) unheard-on)
