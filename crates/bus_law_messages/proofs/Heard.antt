-- A terminal that listens, where the end of another station's burst becomes known: it obeys it, or settles its promise by it, or passes it over.
use Rattle.std.proofs.Common.{◌≡◌, inl, inr, ℕ, suc, ◌*◌, ◌<◌, ◌≤◌, Bool, true, false, List, [], ◌∷◌, ◌++◌, length, Option, Some, None, refl, sym, ap, ◌∙◌, arith}
use Rattle.std.proofs.lemmas.Bool.Decides.{nat_tests}
use Rattle.std.proofs.lemmas.List.{append_assoc}
use Rattle.std.proofs.lemmas.Option.{none-some, same_Some}
use Rattle.std.specs.Prelude.{◌&&◌, ◌==◌, nat_le, if◌then◌else◌, drop}
use Rattle.bus_base.specs.Samples.{sample_on, other_of}
use Rattle.bus_base.specs.declared.samples.Channel.{Channel}
use Rattle.bus_base.specs.declared.samples.Pair.{Pair}
use Rattle.bus_base.specs.declared.samples.Sample.{Sample}
use Rattle.bus_words.specs.declared.word.Word.{Word}
use Rattle.bus_line.specs.Past.{Burst, InLeg, quiet_ticks, runs, ended_now, end_of, rest_of}
use Rattle.bus_formats.specs.Plans.{TerminalData, StationData}
use Rattle.bus_formats.specs.declared.fault.Hit.{Hit}
use Rattle.bus_model.specs.Memory.{Memory, TimedLoad}
use Rattle.bus_model.specs.Orders.{Duty, owes, promises, Order, Obeyed, last_order, due_after}
use Rattle.bus_model.specs.Orders as orders
use Rattle.bus_model.specs.Hearing.{Moment, Hearing, heard_on}
use Rattle.bus_model.specs.Standing.{Standing, is_owed, is_promise}
use Rattle.bus_model.specs.Terminal.{given_up, standing, took_now, accepted_by, accepted_on, accepted_now, heard_status}
use Rattle.bus_model.specs.Course.{Take, Course}
use Rattle.bus_model.specs.Control.{OutsideTake, StationSoFar, unheard_ticks, moment_of, hear_more, takes_in, taken_over, serve, hold, course_with, so_far, hearing_after}
use Rattle.bus_law_line.specs.Shown.{struck_of, struck_spelling}
use Rattle.bus_law_line.specs.Senders.{AreHeard}
use Rattle.bus_law_line.proofs.Rows.{ended-row}
use Rattle.bus_law_line.proofs.WordSlots.{slots-sent}
use Rattle.bus_law_stations.specs.Legs.{BeginsAnswer, with_addressed, IsUnheeded, obeyed_in, settled_in, after_command, after_promise}
use Rattle.bus_law_stations.proofs.BurstEnds.{obeyed, settled, passed}
use Rattle.bus_law_stations.proofs.Due.{obeyed-due, settled-due}
use Rattle.bus_law_stations.specs.Silence.{quiet_moments}
use Rattle.bus_base.specs.declared.samples.Part.TheVariants.{First, Second}
use Rattle.bus_law_stations.proofs.LegTicks.{heard-append}
use Rattle.bus_law_stations.proofs.Obeying.{running-marks}
use Rattle.bus_law_stations.proofs.Resting.{rests-quiet}
use Rattle.bus_law_stations.proofs.Unheeded.{quiet-unheeded}
use Rattle.bus_law_messages.specs.Promises.{IsListening}
use Rattle.bus_law_messages.specs.Ends.{burst_sent}
use Rattle.bus_law_messages.proofs.Listening.{listening-ready, listening-hears, quiet-not-ended, this-or-other}

-- ---- the burst

pub burst-of : (k : ℕ) (hits : List Hit) (words : List Word) (past : List Sample) → runs k past ≡ false → AreHeard hits words → 0 < length words →
    ended_now k ((quiet_ticks (suc k) ++ struck_spelling hits words (40 * length words)) ++ past) ≡ Some (burst_sent (length past) hits words)
burst-of k hits words past rests heard some =
    ap (ended_now k) (append_assoc (quiet_ticks (suc k)) (struck_spelling hits words (40 * length words)) past)
    ∙ ended-row k (struck_of hits words) (40 * length words) past rests (omega (arith, some)) heard
    ∙ ap (λ slots. Some (record { first = length past; ticks = 40 * length words; slots = slots })) (slots-sent hits words)

-- ---- a terminal hears every tick of the bus

unheard-long : (past : List Pair) → length (unheard_ticks past) ≡ length past
unheard-long [] = refl
unheard-long (x ∷ past) = ap suc (unheard-long past)

module _ (k : ℕ) (station : StationData) (starts : Bool) (loads : List TimedLoad) (outside : List OutsideTake) where
  over-long : (past : List Pair) (before : StationSoFar) (hearing : Hearing) (takes : List Take) → length hearing.ticks ≡ length past →
      length (taken_over k station starts loads outside past before hearing takes).hearing.ticks ≡ length past
  over-long past before hearing [] long = long
  over-long past before hearing (take ∷ takes) long = unheard-long past

  either-long : (b : Bool) (x : Pair) (past : List Pair) (before : StationSoFar) (c d : Course) → length before.hearing.ticks ≡ length past →
      length (if b then hold k station starts loads outside x past before d else serve k station starts loads outside x past before c).hearing.ticks
      ≡ suc (length past)
  either-long true x past before c d long = ap suc long
  either-long false x past before c d long =
      over-long (x ∷ past) before (hear_more before.hearing (moment_of x c))
      (takes_in k station starts loads outside (length past) (hear_more before.hearing (moment_of x c))) (ap suc long)

  pub hearing-long : (past : List Pair) → length (hearing_after k station starts loads outside past).ticks ≡ length past
  unfolding so_far
  hearing-long [] = refl
  hearing-long (x ∷ past) =
      let before = so_far k station starts loads outside past in
      either-long (course_with k station starts loads outside before.takes past).holds x past before
      (course_with k station starts loads outside before.takes past) (course_with k station starts loads outside before.takes (x ∷ past)) (hearing-long past)

-- ---- a burst that began later than an answer was due is not that answer

status-late : (due n : ℕ) (o : Option Burst) → ((burst : Burst) → o ≡ Some burst → burst.first ≡ n) → due < n → heard_status due o ≡ None
status-late due n None first late = refl
status-late due n (Some burst) first late =
    let at : burst.first ≡ n = first burst refl in
    let test : ((burst.first == due) && nat_le 40 burst.ticks) ≡ false = grind (arith, nat_tests, at, late) in rw test refl

either-none : (b : Bool) (o : Option ℕ) → o ≡ None → (if b then None else o) ≡ None
either-none true o none = refl
either-none false o none = none

accepts-late : (k : ℕ) (t : TerminalData) (loads : List TimedLoad) (past : List Sample) (x : Sample) (s : Standing) (duty : Duty) (n : ℕ) →
    ((burst : Burst) → ended_now k (x ∷ past) ≡ Some burst → burst.first ≡ n) → (is_owed duty ≡ true → due_after t s.end < n) →
    accepted_by k t loads past x s duty ≡ None
accepts-late k t loads past x s orders.free n first late = refl
accepts-late k t loads past x s (promises command transmitter) n first late = refl
accepts-late k t loads past x s (owes words false) n first late = refl
accepts-late k t loads past x s (owes words true) n first late =
    either-none (given_up k t past s) (heard_status (due_after t s.end) (ended_now k (x ∷ past)))
    (status-late (due_after t s.end) n (ended_now k (x ∷ past)) first (late refl))

module _ (k : ℕ) (t : TerminalData) (loads : List TimedLoad) (memory : Memory) (c : Channel) (heard ticks : List Moment) (now : Moment) (burst : Burst)
    (small : k < 40) (frees : IsListening k t (standing k t loads memory heard) c heard) (leg : InLeg k (heard_on c ticks))
    (quiet : heard_on (other_of c) (now ∷ ticks) ≡ quiet_ticks (length (now ∷ ticks)))
    (ended : ended_now k (heard_on c (now ∷ (ticks ++ heard))) ≡ Some burst) (began : burst.first ≡ length heard) where
  abbrev s : Standing
  s = standing k t loads memory heard

  beside : IsUnheeded k t s (other_of c) (now ∷ (ticks ++ heard))
  beside = (quiet-unheeded k t s (other_of c) heard (now ∷ ticks) (frees.rests (other_of c)) quiet).0

  first-of : (d : Channel) (other : Burst) → ended_now k (heard_on d (now ∷ (ticks ++ heard))) ≡ Some other → other.first ≡ length heard
  first-of d other is = elim (this-or-other c d) [
    | inl same ↦ ap (λ (b : Burst). b.first)
        (sym (same_Some burst other (sym ended ∙ ap (λ e. ended_now k (heard_on e (now ∷ (ticks ++ heard)))) (sym same) ∙ is))) ∙ began
    | inr apart ↦ absurd (none-some other (sym (ap (λ e. ended_now k (heard_on e (now ∷ (ticks ++ heard)))) apart
        ∙ quiet-not-ended k (other_of c) heard ticks now (frees.rests (other_of c)) quiet) ∙ is))
  ]

  before-quiet : heard_on (other_of c) ticks ≡ quiet_ticks (length ticks)
  before-quiet = ap (λ (xs : List Sample). drop 1 xs) quiet

  pub end-accepts-not : accepted_now k t loads record { memory = memory; ticks = now ∷ (ticks ++ heard) } ≡ None
  end-accepts-not =
      let m = running-marks k t loads memory c heard ticks small (listening-ready k t s c heard frees)
      (listening-hears k t s c heard ticks frees leg before-quiet) in
      ap (accepted_on k t loads now (ticks ++ heard)) m.1
      ∙ accepts-late k t loads (heard_on s.channel (ticks ++ heard)) (sample_on now.shown s.channel) (with_addressed s c m.0) s.duty (length heard)
      (first-of s.channel) (listening-ready k t s c heard frees).answer

  pub end-obeyed : (order : Order) → last_order t.address burst.slots ≡ Some order →
      let o : Obeyed = obeyed_in t loads (length (ticks ++ heard)) s c order (rest_of burst) now.has_items in
      (slot_end : ℕ) × (length heard ≤ slot_end) × (slot_end < length (ticks ++ heard))
      × (standing k t loads memory (now ∷ (ticks ++ heard)) ≡ after_command s c (end_of burst) slot_end o)
      × (took_now k t loads record { memory = memory; ticks = now ∷ (ticks ++ heard) } ≡ o.taken)
  end-obeyed order last =
      obeyed k t loads memory c heard ticks now burst (listening-ready k t s c heard frees) beside ended
      (listening-hears k t s c heard ticks frees leg before-quiet) small order last

  pub end-passed : last_order t.address burst.slots ≡ None → is_promise s.duty ≡ false →
      (standing k t loads memory (now ∷ (ticks ++ heard)) ≡ s)
      × (took_now k t loads record { memory = memory; ticks = now ∷ (ticks ++ heard) } ≡ None)
  end-passed last none =
      passed k t loads memory c heard ticks now burst (listening-ready k t s c heard frees) beside ended
      (listening-hears k t s c heard ticks frees leg before-quiet) small last none

  pub end-settled : (command transmitter : ℕ) → last_order t.address burst.slots ≡ None → s.duty ≡ promises command transmitter →
      let o : Obeyed = settled_in t loads (length (ticks ++ heard)) s c command transmitter burst in
      (standing k t loads memory (now ∷ (ticks ++ heard)) ≡ after_promise s (end_of burst) o)
      × (took_now k t loads record { memory = memory; ticks = now ∷ (ticks ++ heard) } ≡ o.taken)
  end-settled command transmitter last made =
      settled k t loads memory c heard ticks now burst (listening-ready k t s c heard frees) beside ended
      (listening-hears k t s c heard ticks frees leg before-quiet) small command transmitter last made (frees.stands (ap is_promise made))

  beside-rests : runs k (heard_on (other_of c) (now ∷ (ticks ++ heard))) ≡ false
  beside-rests =
      ap (runs k) (heard-append (other_of c) (now ∷ ticks) heard ∙ ap (λ xs. xs ++ heard_on (other_of c) heard) quiet)
      ∙ rests-quiet k (length (now ∷ ticks)) (heard_on (other_of c) heard) (frees.rests (other_of c))

  pub end-settled-due : (command transmitter : ℕ) → last_order t.address burst.slots ≡ None → (mays : List Bool) → s.duty ≡ promises command transmitter →
      let o : Obeyed = settled_in t loads (length (ticks ++ heard)) s c command transmitter burst in
      let later : List Moment = quiet_moments mays ++ (now ∷ (ticks ++ heard)) in
      length later ≡ due_after t (end_of burst) → is_owed o.duty ≡ true →
      BeginsAnswer k t (standing k t loads memory later) c later × ((standing k t loads memory later).duty ≡ o.duty)
      × ((standing k t loads memory later).part ≡ Second)
  end-settled-due command transmitter last mays made long owed =
      settled-due k t loads memory c heard ticks now burst command transmitter mays small (listening-ready k t s c heard frees)
      (listening-hears k t s c heard ticks frees leg before-quiet) beside ended last made (frees.stands (ap is_promise made)) owed beside-rests long

  -- what the answer that it owes waits for
  pub end-due : (order : Order) → last_order t.address burst.slots ≡ Some order → (mays : List Bool) →
      let o : Obeyed = obeyed_in t loads (length (ticks ++ heard)) s c order (rest_of burst) now.has_items in
      let later : List Moment = quiet_moments mays ++ (now ∷ (ticks ++ heard)) in
      length later ≡ due_after t (end_of burst) → is_owed o.duty ≡ true →
      BeginsAnswer k t (standing k t loads memory later) c later × ((standing k t loads memory later).duty ≡ o.duty)
      × ((standing k t loads memory later).part ≡ First)
  end-due order last mays long owed =
      obeyed-due k t loads memory c heard ticks now burst order mays small (listening-ready k t s c heard frees)
      (listening-hears k t s c heard ticks frees leg before-quiet) beside ended last owed
      beside-rests long
