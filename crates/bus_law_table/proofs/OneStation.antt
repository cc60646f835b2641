-- One serving station where the end of a command's burst becomes known: the message table says what it makes of it.
use Rattle.std.proofs.Common.{◌≡◌, inl, inr, ℕ, suc, ◌+◌, ◌≤◌, true, false, not, List, ◌++◌, length, Some, None, sym, ap, ◌∙◌, arith}
use Rattle.std.specs.Prelude.{option_map}
use Rattle.bus_base.specs.declared.samples.Pair.{Pair}
use Rattle.bus_line.specs.Past.{Burst, end_of, rest_of}
use Rattle.bus_formats.specs.Plans.{StationData, PlanData}
use Rattle.bus_model.specs.Memory.{Memory, TimedLoad, with_loads}
use Rattle.bus_model.specs.Message.{Present, After, delivered, unmoved, moved, memory_at, after_command_of, after_command}
use Rattle.bus_model.specs.Orders.{free, Obeyed, Order, last_order, obey}
use Rattle.bus_model.specs.Hearing.{Hearing}
use Rattle.bus_model.specs.Standing.{Standing}
use Rattle.bus_model.specs.Starts.{starts, has_items}
use Rattle.bus_model.specs.Strikes.{ShownBurst, burst_end}
use Rattle.bus_model.specs.Terminal.{standing_after, took_now}
use Rattle.bus_model.specs.Course.{Course}
use Rattle.bus_model.specs.Control.{OutsideTake, course_after, hearing_after}
use Rattle.bus_model.specs.WorldLog.{present_after}
use Rattle.bus_law_stations.specs.Legs.{obeyed_in}
use Rattle.bus_law_stations.proofs.Resting.{cases-option}
use Rattle.bus_law_messages.specs.Ends.{HeardCommand}
use Rattle.bus_law_messages.proofs.Heard.{hearing-long}
use Rattle.bus_law_table.specs.Stations.{loaded_at}
use Rattle.bus_law_table.specs.Happened.{block_at, took_in}
use Rattle.bus_law_table.proofs.Loads.{loaded-alike}

-- ---- stations as records

-- a station that serves, with what its controller has left
abbrev pub serving_with : StationData → Course → Memory → Present
serving_with station c memory = record { plan = station; memory = memory; left = c.left; live = c.live; serves = true }

-- the stations of the table, by their parts
pub serving-is : (station : StationData) (c : Course) (memory : Memory) (p : Present) → c.holds ≡ false →
    record { plan = station; memory = memory; left = c.left; live = c.live; serves = not c.holds } ≡ p → p ≡ serving_with station c p.memory
serving-is station c memory p serves same =
    ap (λ x. record { plan = x; memory = p.memory; left = p.left; live = p.live; serves = p.serves }) (sym (ap (λ (q : Present). q.plan) same))
    ∙ ap (λ x. record { plan = station; memory = p.memory; left = x; live = p.live; serves = p.serves }) (sym (ap (λ (q : Present). q.left) same))
    ∙ ap (λ x. record { plan = station; memory = p.memory; left = c.left; live = x; serves = p.serves }) (sym (ap (λ (q : Present). q.live) same))
    ∙ ap (λ x. record { plan = station; memory = p.memory; left = c.left; live = c.live; serves = x })
    (sym (ap (λ (q : Present). q.serves) same) ∙ ap not serves)

-- a station of the world after ticks in which its controller did nothing
still-serving : (station : StationData) (c d : Course) (memory : Memory) → d ≡ c → c.holds ≡ false →
    record { plan = station; memory = memory; left = d.left; live = d.live; serves = not d.holds } ≡ serving_with station c memory
still-serving station c d memory same serves =
    ap (λ (e : Course). record { plan = station; memory = memory; left = e.left; live = e.live; serves = not e.holds }) same
    ∙ ap (λ b. record { plan = station; memory = memory; left = c.left; live = c.live; serves = not b }) serves

-- ---- what the table says of the command at a station

module _ (k : ℕ) (plan : PlanData) (loads : List TimedLoad) (outside : List OutsideTake) (absent : List ℕ) (past ticks : List Pair) (shown : ShownBurst)
    (station : StationData) where
  -- what stands of its terminal
  abbrev s : Standing
  s = standing_after k station.terminal loads (hearing_after k station (starts plan station) loads outside past)

  abbrev c : Course
  c = course_after k station (starts plan station) loads outside past

  abbrev tick : ℕ
  tick = burst_end shown + k

  -- the table's station p, this one before, is this one after; its terminal took the same block; and it owes or promises the same
  pub record CommandTold (p : Present) : Type 0 where
    pub stands : present_after k plan loads outside absent (ticks ++ past) station
        ≡ loaded_at loads (length (ticks ++ past)) (after_command k loads shown p).station
    pub took : took_in k plan loads outside absent (ticks ++ past) tick station
        ≡ option_map (delivered tick shown.channel (after_command k loads shown p)) (after_command k loads shown p).taken
    pub ordered : (order : Order) → last_order station.terminal.address shown.slots ≡ Some order →
        (after_command k loads shown p).duty ≡ (obeyed_in station.terminal loads tick s shown.channel order shown.rest (has_items c.left)).duty
    pub passed : last_order station.terminal.address shown.slots ≡ None → (after_command k loads shown p).duty ≡ free

  module _ (burst : Burst) (heard : HeardCommand k station (starts plan station) loads outside past ticks shown.channel burst) (serves : c.holds ≡ false)
      (slots : burst.slots ≡ shown.slots) (rest : rest_of burst ≡ shown.rest) (at : end_of burst ≡ burst_end shown)
      (long : length (ticks ++ past) ≡ suc tick) (early : length past ≤ tick) (memory : Memory)
      (alike : with_loads station.terminal.address (length past) loads memory
      ≡ (present_after k plan loads outside absent past station).memory) where
    abbrev later : Hearing
    later = hearing_after k station (starts plan station) loads outside (ticks ++ past)

    -- the memory at a later tick
    loaded-then : (n : ℕ) → length past ≤ n → with_loads station.terminal.address n loads memory ≡ with_loads station.terminal.address n loads s.memory
    loaded-then n after =
        loaded-alike station.terminal.address (length past) n loads memory s.memory after
        (alike ∙ ap (λ m. with_loads station.terminal.address m loads s.memory) (hearing-long k station (starts plan station) loads outside past))

    -- what its terminal keeps after the ticks
    kept-then : (u : Standing) → standing_after k station.terminal loads later ≡ u →
        (present_after k plan loads outside absent (ticks ++ past) station).memory
        ≡ with_loads station.terminal.address (length (ticks ++ past)) loads u.memory
    kept-then u is =
        ap (λ (v : Standing). with_loads station.terminal.address (length later.ticks) loads v.memory) is
        ∙ ap (λ n. with_loads station.terminal.address n loads u.memory) (hearing-long k station (starts plan station) loads outside (ticks ++ past))

    stands-then : (u : Standing) (m : Memory) → standing_after k station.terminal loads later ≡ u →
        with_loads station.terminal.address (length (ticks ++ past)) loads u.memory ≡ with_loads station.terminal.address (length (ticks ++ past)) loads m →
        present_after k plan loads outside absent (ticks ++ past) station ≡ loaded_at loads (length (ticks ++ past)) (serving_with station c m)
    stands-then u m is same =
        still-serving station c (course_after k station (starts plan station) loads outside (ticks ++ past))
        (present_after k plan loads outside absent (ticks ++ past) station).memory heard.course serves
        ∙ ap (serving_with station c) (kept-then u is ∙ same)

    abbrev p : Present
    p = serving_with station c memory

    -- no command is for it
    told-none : last_order station.terminal.address shown.slots ≡ None → CommandTold p
    told-none none =
        let a : after_command k loads shown p ≡ unmoved p = ap (after_command_of k loads shown p) none in
        let o = heard.passed (ap (last_order station.terminal.address) slots ∙ none) in
        record {
          stands = stands-then s memory o.0 (sym (loaded-then (length (ticks ++ past)) (omega (arith, long, early))))
              ∙ sym (ap (λ (x : After). loaded_at loads (length (ticks ++ past)) x.station) a);
          took = ap (option_map (block_at tick (standing_after k station.terminal loads later).channel station)) o.1
              ∙ sym (ap (λ (x : After). option_map (delivered tick shown.channel x) x.taken) a);
          ordered = λ order some. absurd (let both : None ≡ Some order = sym none ∙ some in cc);
          passed = λ _. ap (λ (x : After). x.duty) a;
        }

    -- one is
    told-some : (order : Order) → last_order station.terminal.address shown.slots ≡ Some order → CommandTold p
    told-some order some =
        let obeys : Memory → Obeyed =
        λ m. obey station.terminal m shown.channel order.command order.tail shown.rest (has_items c.left) in
        let here : with_loads station.terminal.address tick loads s.memory ≡ memory_at k loads shown p = sym (loaded-then tick early) in
        let a : after_command k loads shown p ≡ moved p (obeys (memory_at k loads shown p)) = ap (after_command_of k loads shown p) some in
        let o = heard.obeyed order (ap (last_order station.terminal.address) slots ∙ some) in
        let same : obeyed_in station.terminal loads (end_of burst + k) s shown.channel order (rest_of burst) (has_items c.left)
        ≡ obeys (memory_at k loads shown p) =
        ap (λ n. obeyed_in station.terminal loads (n + k) s shown.channel order (rest_of burst) (has_items c.left)) at
        ∙ ap (λ r. obeyed_in station.terminal loads tick s shown.channel order r (has_items c.left)) rest
        ∙ ap obeys here in
        record {
          stands = stands-then _ (obeys (memory_at k loads shown p)).memory o.1
              (ap (λ (x : Obeyed). with_loads station.terminal.address (length (ticks ++ past)) loads x.memory) same)
              ∙ sym (ap (λ (x : After). loaded_at loads (length (ticks ++ past)) x.station) a);
          took = ap (λ (v : Standing). option_map (block_at tick v.channel station) (took_now k station.terminal loads later)) o.1
              ∙ ap (option_map (block_at tick shown.channel station)) (o.2 ∙ ap (λ (x : Obeyed). x.taken) same)
              ∙ sym (ap (λ (x : After). option_map (delivered tick shown.channel x) x.taken) a);
          ordered = λ other found.
              let one : order ≡ other = let both : Some order ≡ Some other = sym some ∙ found in cc in
              ap (λ (x : After). x.duty) a ∙ sym (ap (λ (x : Obeyed). x.duty) (ap obeys here))
              ∙ ap (λ x. (obeyed_in station.terminal loads tick s shown.channel x shown.rest (has_items c.left)).duty) one;
          passed = λ none. absurd (let both : None ≡ Some order = sym none ∙ some in cc);
        }

    pub command-told : CommandTold p
    command-told = elim (cases-option (last_order station.terminal.address shown.slots)) [
      | inl none ↦ told-none none
      | inr found ↦ told-some found.0 found.1
    ]
