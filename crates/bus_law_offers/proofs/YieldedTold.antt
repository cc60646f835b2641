-- A station that yielded to a command, where the end of that command becomes known: it is what the message table has of one that yielded before.
use Rattle.std.proofs.Common.{◌≡◌, inl, inr, ℕ, suc, ◌+◌, ◌%◌, ◌<◌, ◌≤◌, not, List, [], ◌∷◌, ◌++◌, length, Some, None, refl, sym, ap, ◌∙◌, subst, arith, length-append}
use Rattle.std.specs.Prelude.{option_map}
use Rattle.bus_base.specs.Samples.{other_of}
use Rattle.bus_base.specs.declared.samples.Channel.{Channel}
use Rattle.bus_base.specs.declared.samples.Pair.{Pair}
use Rattle.bus_base.specs.declared.samples.Part.TheVariants.{Command, First}
use Rattle.bus_words.specs.declared.word.Word.{Word}
use Rattle.bus_line.specs.Past.{Burst, quiet_ticks, rest_of}
use Rattle.bus_line.specs.Channels.{on_channel}
use Rattle.bus_formats.specs.Plans.{StationData}
use Rattle.bus_formats.specs.Times.{doubting}
use Rattle.bus_formats.specs.declared.fault.Hit.{Hit}
use Rattle.bus_model.specs.Attempts.{Begun}
use Rattle.bus_model.specs.Control.{outside_takes}
use Rattle.bus_model.specs.Course.{Course}
use Rattle.bus_model.specs.Memory.{Memory, with_loads}
use Rattle.bus_model.specs.Message.{Present, After, delivered, unmoved, moved, memory_at, after_command_of, after_command}
use Rattle.bus_model.specs.Orders.{Obeyed, Order, last_order, obey}
use Rattle.bus_model.specs.Standing.{Standing}
use Rattle.bus_model.specs.Starts.{starts, has_items}
use Rattle.bus_model.specs.Strikes.{ShownBurst, burst_end}
use Rattle.bus_model.specs.Terminal.{took_now}
use Rattle.bus_law_line.specs.Shown.{first_samples}
use Rattle.bus_law_messages.proofs.Heard.{hearing-long}
use Rattle.bus_law_moments.specs.Doubts.{IsInDoubt, yielded_station}
use Rattle.bus_law_offers.specs.Yielding.{course_yielded}
use Rattle.bus_law_offers.proofs.YieldedEnd.{end-course, obeyed-so, passed-so, yielded-has}
use Rattle.bus_law_parts.specs.Parts.{part_ticks, part_sample, HitsFit}
use Rattle.bus_law_phases.specs.Moments.{HasDuty, IsServer}
use Rattle.bus_law_phases.specs.PartRuns.{burst_shown, RunsAlone}
use Rattle.bus_law_phases.specs.Scenarios.{Scenario, course_of, hearing_of, standing_of, present_of}
use Rattle.bus_law_phases.proofs.CommandServer.{shown_burst}
use Rattle.bus_law_stations.specs.Legs.{obeyed_in}
use Rattle.bus_law_stations.proofs.Resting.{cases-option}
use Rattle.bus_law_table.specs.Happened.{block_at, took_in}
use Rattle.bus_law_table.specs.Stations.{loaded_at}
use Rattle.bus_law_table.proofs.Loads.{loaded-alike}
use Rattle.bus_law_table.proofs.OneStation.{serving_with, serving-is}

-- a station of the table that yielded before its command, and what it is after it: the same block was taken, and the same is owed
pub record YieldedTold (w : Scenario) (later : List Pair) (station : StationData) (c : Channel) (command : ShownBurst) (p : Present) : Type 0 where
  pub server : IsServer w later c (burst_end command) First station (after_command w.lag w.loads command p)
  pub took : took_in w.lag w.plan w.loads w.outside w.absent later (burst_end command + w.lag) station
      ≡ option_map (delivered (burst_end command + w.lag) c (after_command w.lag w.loads command p)) (after_command w.lag w.loads command p).taken

module _ (w : Scenario) (past : List Pair) (station : StationData) (begun : Begun) (x : ℕ) (doubt : IsInDoubt w past station begun x) (lag : w.lag ≡ 3)
    (early : suc (length past) < x + doubting)
    (stays : (tick : ℕ) → length past ≤ tick → outside_takes w.lag station (starts w.plan station) w.loads w.outside tick w.outside ≡ []) (c : Channel)
    (y : Pair) (ticks : List Pair) (hits : List Hit) (words : List Word) (some : 0 < part_ticks hits words) (fits : HitsFit Command hits words)
    (many : length ticks ≡ w.lag + part_ticks hits words) (alone : RunsAlone w.lag c ticks)
    (shown : on_channel c (y ∷ ticks) ≡ first_samples (part_sample hits words) (part_ticks hits words + suc w.lag))
    (quiet : on_channel (other_of c) (y ∷ ticks) ≡ quiet_ticks (length (y ∷ ticks))) (prompt : 8 ≤ station.terminal.delay)
    (p : Present) (is : yielded_station begun (present_of w station past) ≡ loaded_at w.loads (length past) p) where
  abbrev d : Course
  d = course_yielded w past station begun

  abbrev s : Standing
  s = standing_of w station past

  abbrev burst : Burst
  burst = burst_shown (length past) hits words

  abbrev command : ShownBurst
  command = shown_burst c (length past) hits words

  abbrev later : List Pair
  later = (y ∷ ticks) ++ past

  abbrev tick : ℕ
  tick = burst_end command + w.lag

  abbrev address : ℕ
  address = station.terminal.address

  same-end : length past + part_ticks hits words ≡ burst_end command
  same-end = omega arith

  same-rest : rest_of burst ≡ command.rest
  same-rest = let none : part_ticks hits words % 40 ≡ 0 = omega arith in none

  long : length later ≡ suc tick
  long = let both : length ((y ∷ ticks) ++ past) ≡ length (y ∷ ticks) + length past = length-append (y ∷ ticks) past in omega (arith, both, many, same-end)

  -- ---- the table's station before

  is-served : p ≡ serving_with station d p.memory
  is-served = serving-is station d p.memory p refl (ap (λ (q : Present). record q { memory = p.memory }) is)

  plan-is : p.plan ≡ station
  plan-is = sym (ap (λ (q : Present). q.plan) is)

  alike : with_loads address (length past) w.loads p.memory ≡ (present_of w station past).memory
  alike =
      ap (λ (st : StationData). with_loads st.terminal.address (length past) w.loads p.memory) (sym plan-is) ∙ sym (ap (λ (q : Present). q.memory) is)

  -- its memory at a later tick
  loaded-then : (n : ℕ) → length past ≤ n → with_loads address n w.loads p.memory ≡ with_loads address n w.loads s.memory
  loaded-then n after =
      loaded-alike address (length past) n w.loads p.memory s.memory after
      (alike ∙ ap (λ m. with_loads address m w.loads s.memory) (hearing-long w.lag station (starts w.plan station) w.loads w.outside past))

  abbrev q : Present
  q = serving_with station d p.memory

  -- what it keeps then
  kept-then : (u : Standing) → standing_of w station later ≡ u → (present_of w station later).memory ≡ with_loads address (length later) w.loads u.memory
  kept-then u stands =
      ap (λ n. with_loads address n w.loads (standing_of w station later).memory) (hearing-long w.lag station (starts w.plan station) w.loads w.outside later)
      ∙ ap (λ (v : Standing). with_loads address (length later) w.loads v.memory) stands

  course-then : course_of w station later ≡ d
  course-then = end-course w past station begun x doubt lag early stays c y ticks hits words some fits many alone shown quiet prompt

  stands-then : (u : Standing) (m : Memory) → standing_of w station later ≡ u →
      with_loads address (length later) w.loads u.memory ≡ with_loads address (length later) w.loads m →
      present_of w station later ≡ loaded_at w.loads (length later) (serving_with station d m)
  stands-then u m stands same =
      ap (λ (e : Course). record { plan = station; memory = (present_of w station later).memory; left = e.left; live = e.live; serves = not e.holds }) course-then
      ∙ ap (serving_with station d) (kept-then u stands ∙ same)

  -- ---- what the table says of it

  abbrev obeys : Memory → Order → Obeyed
  obeys m order = obey station.terminal m c order.command order.tail command.rest (has_items d.left)

  -- what is obeyed is the same
  obeyed-same : (order : Order) →
      obeyed_in station.terminal w.loads (length past + part_ticks hits words + w.lag) s c order (rest_of burst) (has_items d.left)
      ≡ obeys (memory_at w.lag w.loads command q) order
  obeyed-same order =
      ap (λ n. obeyed_in station.terminal w.loads (n + w.lag) s c order (rest_of burst) (has_items d.left)) same-end
      ∙ ap (λ r. obeyed_in station.terminal w.loads tick s c order r (has_items d.left)) same-rest
      ∙ ap (λ m. obeys m order) (sym (loaded-then tick (omega (arith, same-end))))

  after-some : (order : Order) → last_order address command.slots ≡ Some order →
      after_command w.lag w.loads command q ≡ moved q (obeys (memory_at w.lag w.loads command q) order)
  after-some order last = ap (after_command_of w.lag w.loads command q) last

  after-none : last_order address command.slots ≡ None → after_command w.lag w.loads command q ≡ unmoved q
  after-none none = ap (after_command_of w.lag w.loads command q) none

  duty-then : HasDuty w later station c (length past + part_ticks hits words) First (after_command w.lag w.loads command q).duty
  duty-then =
      yielded-has w past station begun x doubt lag early stays c y ticks hits words some fits many alone shown quiet prompt
      (after_command w.lag w.loads command q).duty
      (λ order last. ap (λ (o : Obeyed). o.duty) (obeyed-same order) ∙ sym (ap (λ (a : After). a.duty) (after-some order last)))
      (λ none. ap (λ (a : After). a.duty) (after-none none))

  is-then : present_of w station later ≡ loaded_at w.loads (length later) (after_command w.lag w.loads command q).station
  is-then = elim (cases-option (last_order address command.slots)) [
    | inl none ↦ (let o = passed-so w past station begun x doubt lag early stays c y ticks hits words some fits many alone shown quiet prompt none in
        stands-then s p.memory o.0 (sym (loaded-then (length later) (omega (arith, long, same-end))))
        ∙ sym (ap (λ (a : After). loaded_at w.loads (length later) a.station) (after-none none)))
    | inr found ↦ (let o = obeyed-so w past station begun x doubt lag early stays c y ticks hits words some fits many alone shown quiet prompt found.0 found.1 in
        stands-then _ (obeys (memory_at w.lag w.loads command q) found.0).memory o.1
        (ap (λ (b : Obeyed). with_loads address (length later) w.loads b.memory) (obeyed-same found.0))
        ∙ sym (ap (λ (a : After). loaded_at w.loads (length later) a.station) (after-some found.0 found.1)))
  ]

  took-then : took_in w.lag w.plan w.loads w.outside w.absent later tick station
      ≡ option_map (delivered tick c (after_command w.lag w.loads command q)) (after_command w.lag w.loads command q).taken
  took-then = elim (cases-option (last_order address command.slots)) [
    | inl none ↦ (let o = passed-so w past station begun x doubt lag early stays c y ticks hits words some fits many alone shown quiet prompt none in
        ap (option_map (block_at tick (standing_of w station later).channel station)) o.1
        ∙ sym (ap (λ (a : After). option_map (delivered tick c a) a.taken) (after-none none)))
    | inr found ↦ (let o = obeyed-so w past station begun x doubt lag early stays c y ticks hits words some fits many alone shown quiet prompt found.0 found.1 in
        ap (λ (v : Standing). option_map (block_at tick v.channel station) (took_now w.lag station.terminal w.loads (hearing_of w station later))) o.1
        ∙ ap (option_map (block_at tick c station)) (o.2 ∙ ap (λ (b : Obeyed). b.taken) (obeyed-same found.0))
        ∙ sym (ap (λ (a : After). option_map (delivered tick c a) a.taken) (after-some found.0 found.1)))
  ]

  pub yielded-told : YieldedTold w ((y ∷ ticks) ++ past) station c (shown_burst c (length past) hits words) p
  yielded-told =
      subst (YieldedTold w later station c command) (sym is-served) record {
        server = record {
          is = is-then;
          duty = subst (λ n. HasDuty w later station c n First (after_command w.lag w.loads command q).duty) same-end duty-then;
        };
        took = took-then;
      }
