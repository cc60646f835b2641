-- A station that serves, where the end of a message's command becomes known: it is what the message table says, with the duty that the table says.
use Rattle.std.proofs.Common.{◌≡◌, inl, inr, ℕ, suc, ◌+◌, ◌%◌, ◌<◌, ◌≤◌, List, [], ◌∷◌, ◌++◌, length, Some, None, refl, sym, ap, ◌∙◌, subst, arith, length-append}
use Rattle.std.proofs.lemmas.Bool.{true≢false}
use Rattle.std.proofs.lemmas.Option.{none-some, same_Some}
use Rattle.bus_base.specs.Samples.{other_of}
use Rattle.bus_base.specs.declared.samples.Channel.{Channel}
use Rattle.bus_base.specs.declared.samples.Pair.{Pair}
use Rattle.bus_base.specs.declared.samples.Part.TheVariants.{Command, First}
use Rattle.bus_words.specs.declared.word.Word.{Word}
use Rattle.bus_line.specs.Past.{Burst, InLeg, quiet_ticks, rest_of}
use Rattle.bus_line.specs.Channels.{on_channel}
use Rattle.bus_formats.specs.Plans.{StationData}
use Rattle.bus_formats.specs.declared.fault.Hit.{Hit}
use Rattle.bus_model.specs.Message.{Present, after_command}
use Rattle.bus_model.specs.Orders.{Duty, free, owes, promises, Obeyed, Order, last_order, due_after}
use Rattle.bus_model.specs.Standing.{is_promise}
use Rattle.bus_model.specs.Starts.{starts, has_items}
use Rattle.bus_model.specs.Strikes.{ShownBurst, struck, burst_end}
use Rattle.bus_model.specs.Control.{outside_takes}
use Rattle.bus_law_line.specs.Shown.{first_samples}
use Rattle.bus_law_messages.specs.Ends.{HeardCommand}
use Rattle.bus_law_messages.specs.Promises.{Listens, HeardBurst}
use Rattle.bus_law_messages.specs.Settled.{IsServing}
use Rattle.bus_law_messages.proofs.Listening.{serving-listens}
use Rattle.bus_law_parts.specs.Parts.{part_ticks, part_sample, HitsFit}
use Rattle.bus_law_stations.specs.Legs.{obeyed_in}
use Rattle.bus_law_stations.proofs.Resting.{cases-option}
use Rattle.bus_law_table.proofs.OneStation.{CommandTold}
use Rattle.bus_law_phases.specs.Moments.{HasDuty, IsServer}
use Rattle.bus_law_phases.specs.PartRuns.{burst_shown}
use Rattle.bus_law_phases.specs.Scenarios.{Scenario, course_of, standing_of, IsPresentAt, NoneTakesFrom}
use Rattle.bus_law_phases.proofs.PartLeft.{heard, left-serving, obeyed-owes, obeyed-promises}

-- a part's burst, as the message table has it
abbrev pub shown_burst : Channel → ℕ → List Hit → List Word → ShownBurst
shown_burst c start hits words = record { channel = c; start = start; slots = struck hits words; rest = 0 }

module _ (w : Scenario) (past : List Pair) (x : Pair) (ticks : List Pair) (c : Channel) (hits : List Hit) (words : List Word) (lag : w.lag ≡ 3)
    (some : 0 < part_ticks hits words) (fits : HitsFit Command hits words) (many : length ticks ≡ w.lag + part_ticks hits words)
    (leg : InLeg w.lag (on_channel c ticks))
    (shown : on_channel c (x ∷ ticks) ≡ first_samples (part_sample hits words) (part_ticks hits words + suc w.lag))
    (quiet : on_channel (other_of c) (x ∷ ticks) ≡ quiet_ticks (length (x ∷ ticks)))
    (stays : NoneTakesFrom w (length past)) (other : ℕ) (station : StationData) (at : IsPresentAt w other station)
    (serving : IsServing w.lag station (starts w.plan station) w.loads w.outside past) (prompt : 8 ≤ station.terminal.delay) where
  abbrev k : ℕ
  k = w.lag

  abbrev burst : Burst
  burst = burst_shown (length past) hits words

  abbrev command : ShownBurst
  command = shown_burst c (length past) hits words

  abbrev later : List Pair
  later = (x ∷ ticks) ++ past

  abbrev e : ℕ
  e = length past + part_ticks hits words

  stays-for : (tick : ℕ) → length past ≤ tick → tick < length past + length (x ∷ ticks) →
      outside_takes w.lag station (starts w.plan station) w.loads w.outside tick w.outside ≡ []
  stays-for tick low high = stays other station at tick low

  listens : Listens w.lag station (starts w.plan station) w.loads w.outside past c
  listens = serving-listens w.lag station (starts w.plan station) w.loads w.outside past c serving

  heard-it : HeardBurst w.lag station (starts w.plan station) w.loads w.outside past (x ∷ ticks) c burst
  heard-it = heard w past station c listens x ticks Command hits words lag some fits many leg shown quiet stays-for

  pub heard-command : HeardCommand w.lag station (starts w.plan station) w.loads w.outside past (x ∷ ticks) c burst
  heard-command = record {
    hears = heard-it.hears;
    course = heard-it.course;
    obeyed = heard-it.obeyed;
    due = heard-it.due;
    passed = λ last. heard-it.passed last serving.free.promise;
  }

  -- ---- what it owes then

  same-end : e ≡ burst_end command
  same-end = omega arith

  same-rest : rest_of burst ≡ command.rest
  same-rest = let none : part_ticks hits words % 40 ≡ 0 = omega arith in none

  long : length later ≡ e + suc k
  long = let both : length ((x ∷ ticks) ++ past) ≡ length (x ∷ ticks) + length past = length-append (x ∷ ticks) past in omega (arith, both, many)

  early : length later ≤ due_after station.terminal e
  early = omega (arith, long, prompt, lag)

  abbrev obeys : Order → Obeyed
  obeys order =
      obeyed_in station.terminal w.loads (e + k) (standing_of w station past) c order (rest_of burst) (has_items (course_of w station past).left)

  abbrev obeys_so : Order → Obeyed
  obeys_so order =
      obeyed_in station.terminal w.loads (burst_end command + k) (standing_of w station past) c order command.rest (has_items (course_of w station past).left)

  obeys-same : (order : Order) → obeys order ≡ obeys_so order
  obeys-same order =
      ap (λ n. obeyed_in station.terminal w.loads (n + k) (standing_of w station past) c order (rest_of burst) (has_items (course_of w station past).left))
      same-end
      ∙ ap (λ r. obeyed_in station.terminal w.loads (burst_end command + k) (standing_of w station past) c order r (has_items (course_of w station past).left))
      same-rest

  no-promise : (word transmitter : ℕ) → (standing_of w station past).duty ≡ promises word transmitter → ⊥
  no-promise word transmitter made = true≢false (sym (ap is_promise made) ∙ serving.free.promise)

  module _ (y : Present) (told : CommandTold w.lag w.plan w.loads w.outside w.absent past (x ∷ ticks) command station y) where
    duty-of : (order : Order) → last_order station.terminal.address command.slots ≡ Some order → (d : Duty) →
        (after_command w.lag w.loads command y).duty ≡ d → (obeys order).duty ≡ d
    duty-of order last d is = ap (λ (o : Obeyed). o.duty) (obeys-same order) ∙ sym (told.ordered order last) ∙ is

    has-by : (order : Order) → last_order station.terminal.address command.slots ≡ Some order → (d : Duty) →
        (after_command w.lag w.loads command y).duty ≡ d → HasDuty w later station c e First d
    has-by order last free is =
        left-serving w past station c listens x ticks Command hits words lag some fits many leg shown quiet stays-for
        (λ found here. let same : order ≡ found = same_Some order found (sym last ∙ here) in
        ap (λ o. (obeys o).duty) (sym same) ∙ duty-of order last free is)
        (λ word transmitter none made. absurd (no-promise word transmitter made))
    has-by order last (owes ws acceptance) is =
        obeyed-owes w past station c listens x ticks Command hits words lag some fits many leg shown quiet stays-for order ws acceptance last
        (duty-of order last (owes ws acceptance) is) early
    has-by order last (promises word transmitter) is =
        obeyed-promises w past station c listens x ticks Command hits words lag some fits many leg shown quiet stays-for order word transmitter last
        (duty-of order last (promises word transmitter) is)

    has-none : last_order station.terminal.address command.slots ≡ None → HasDuty w later station c e First free
    has-none none =
        left-serving w past station c listens x ticks Command hits words lag some fits many leg shown quiet stays-for
        (λ found here. absurd (none-some found (sym none ∙ here))) (λ word transmitter last made. absurd (no-promise word transmitter made))

    has-duty : HasDuty w later station c e First (after_command w.lag w.loads command y).duty
    has-duty = elim (cases-option (last_order station.terminal.address command.slots)) [
      | inl none ↦ subst (HasDuty w later station c e First) (sym (told.passed none)) (has-none none)
      | inr found ↦ has-by found.0 found.1 (after_command w.lag w.loads command y).duty refl
    ]

    pub server-after : IsServer w later c (burst_end command) First station (after_command w.lag w.loads command y)
    server-after = record {
      is = told.stands;
      duty = subst (λ n. HasDuty w later station c n First (after_command w.lag w.loads command y).duty) same-end has-duty;
    }
