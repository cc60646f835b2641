-- Ticks in which nothing is due of any station: every station is silent, both channels are quiet, and nothing comes to pass.
use Rattle.std.proofs.Common.{◌≡◌, inl, inr, ℕ, zero, suc, ◌+◌, ◌-◌, ◌<◌, ◌≤◌, Bool, true, false, List, [], ◌∷◌, ◌++◌, length, Some, refl, sym, ap, ◌∙◌, subst, arith}
use Rattle.std.proofs.lemmas.Bool.Decides.{nat_tests}
use Rattle.std.proofs.lemmas.List.{append-nil}
use Rattle.std.proofs.lemmas.Option.{same_Some}
use Rattle.std.specs.Prelude.{not, ◌&&◌, ◌||◌, nat_le, is_none, count_by, slice_get, if◌then◌else◌}
use Rattle.std.specs.List.{list_all}
use Rattle.bus_base.specs.Samples.{quiet_pair, quiet_pairs, sample_on}
use Rattle.bus_base.specs.declared.samples.Channel.{Channel}
use Rattle.bus_base.specs.declared.samples.Channel.TheVariants.{A, B}
use Rattle.bus_base.specs.declared.samples.Drive.{Drive}
use Rattle.bus_base.specs.declared.samples.Drive.TheVariants.{Silent}
use Rattle.bus_base.specs.declared.samples.Pair.{Pair}
use Rattle.bus_base.specs.declared.samples.Sample.TheVariants.{Quiet}
use Rattle.bus_line.specs.Past.{runs}
use Rattle.bus_line.specs.Channels.{on_channel, quiet_both, bursts}
use Rattle.bus_formats.specs.Times.{ending_quiet}
use Rattle.bus_formats.specs.declared.fault.Fault.{Fault}
use Rattle.bus_model.specs.Control.{is_idle}
use Rattle.bus_model.specs.Course.{Course}
use Rattle.bus_model.specs.Starts.{starts, has_items}
use Rattle.bus_model.specs.Transmissions.{drives_on, station_drive, newest_drives, Transmission, is_command, with_drives, transmissions}
use Rattle.bus_model.specs.Wire.{samples_on, shown, drivers}
use Rattle.bus_model.specs.World.{Trace, drives_after, next_tick, ticks_on, is_done}
use Rattle.bus_law_line.specs.Senders.{IsSpent, LeftAlone}
use Rattle.bus_law_line.proofs.Sent.{left-undriven, left-spent}
use Rattle.bus_law_line.specs.Shown.{shown_of}
use Rattle.bus_law_messages.proofs.Pausing.{on-quiet}
use Rattle.bus_law_messages.proofs.Running.{quiet-pair}
use Rattle.bus_law_messages.proofs.Sending.{place-silent}
use Rattle.bus_law_stations.proofs.Resting.{rests-quiet}
use Rattle.bus_law_stations.proofs.StillStation.{still-quiet}
use Rattle.bus_law_table.proofs.Quiet.{quiet-bursts}
use Rattle.bus_law_phases.specs.Scenarios.{Scenario, trace_at, shown_at, driven_at, commands_in, blocks_in, attempts_in, drivers_at, is_over_at, StaysFrom}
use Rattle.bus_law_phases.specs.Passages.{HoldsAlone, IsOrderly, Passage, nothing_happens}
use Rattle.bus_law_phases.specs.Silences.{AllRest, IsQuiet, SomeoneIsBusy, GoesOnTo}
use Rattle.bus_law_phases.proofs.Resting.{all-fewer, course-still, blocks-still, attempts-still}
use Rattle.bus_law_phases.proofs.Staying.{long-at, ticks-later}

-- ---- a tick in which every station is silent begins no transmission

pub with-silent : (faults : List Fault) (s tick : ℕ) (before now : List Drive) (ts : List Transmission) → ((i : ℕ) → station_drive i now ≡ Silent) →
    with_drives faults s tick before now ts ≡ ts
with-silent faults s tick before [] ts silent = refl
with-silent faults s tick before (drive ∷ drives) ts silent =
    let first : drive ≡ Silent = silent 0 in rw first (with-silent faults (suc s) tick before drives ts (λ i. silent (suc i)))

-- ---- the ticks

pub quiet-shown : (faults : List Fault) (driven : List (List Drive)) → sample_on (shown faults driven) A ≡ Quiet → sample_on (shown faults driven) B ≡ Quiet →
    shown faults driven ≡ quiet_pair
quiet-shown faults driven a b =
    ap (λ x. record { a = x; b = shown_of (samples_on faults B driven) }) a ∙ ap (λ x. record { a = Quiet; b = x }) b

-- n ticks in which every station is silent, after those before
pub record QuietTicks (w : Scenario) (before : Trace) (n : ℕ) : Type 0 where
  pub driven : List (List Drive)
  pub many : length driven ≡ n
  pub world : ticks_on w.lag w.plan w.loads w.outside w.absent before n
      ≡ record { shown = quiet_pairs n ++ before.shown; driven = driven ++ before.driven }
  pub alone : (d : Channel) → LeftAlone w.plan.faults d before.driven driven
  pub begun : transmissions w.plan.faults (driven ++ before.driven) ≡ transmissions w.plan.faults before.driven

module _ (w : Scenario) (before : Trace) (limit : ℕ) (rests : AllRest w before.shown limit)
    (spent : (d : Channel) (station : ℕ) → IsSpent w.plan.faults d before.driven station) where
  abbrev now : ℕ → List Drive
  now n = drives_after w.lag w.plan w.loads w.outside w.absent (quiet_pairs n ++ before.shown)

  all-silent : (n : ℕ) → n < limit → (station : ℕ) → station_drive station (now n) ≡ Silent
  all-silent n early station =
      place-silent w.lag w.plan w.loads w.outside w.absent (quiet_pairs n ++ before.shown) station (λ st there present.
      still-quiet w.lag st (starts w.plan st) w.loads w.outside before.shown n
      (all-fewer w before.shown limit (suc n) (omega (arith, early)) rests station st record { there = there; present = present }))

  none-yet : QuietTicks w before 0
  unfolding ticks_on
  none-yet = record { driven = []; many = refl; world = refl; alone = λ d. record { undriven = tt; spent = spent d }; begun = refl }

  one-more : (n : ℕ) → n < limit → QuietTicks w before n → QuietTicks w before (suc n)
  unfolding ticks_on transmissions
  one-more n early q =
      let silent = all-silent n early in
      let left : (d : Channel) → LeftAlone w.plan.faults d before.driven (now n ∷ q.driven) =
      λ d. record { undriven = (λ station. ap (drives_on d) (silent station), (q.alone d).undriven); spent = spent d } in
      let shows : shown w.plan.faults ((now n ∷ q.driven) ++ before.driven) ≡ quiet_pair =
      quiet-shown w.plan.faults ((now n ∷ q.driven) ++ before.driven) (quiet-pair w.plan.faults A before.driven q.driven (now n) (left A))
      (quiet-pair w.plan.faults B before.driven q.driven (now n) (left B)) in
      record {
        driven = now n ∷ q.driven;
        many = ap suc q.many;
        world = ap (next_tick w.lag w.plan w.loads w.outside w.absent) q.world
            ∙ ap (λ x. record { shown = x ∷ (quiet_pairs n ++ before.shown); driven = (now n ∷ q.driven) ++ before.driven }) shows;
        alone = left;
        begun = with-silent w.plan.faults 0 (length (q.driven ++ before.driven)) (newest_drives (q.driven ++ before.driven)) (now n)
            (transmissions w.plan.faults (q.driven ++ before.driven)) silent
            ∙ q.begun;
      }

  pub quiet-for : (n : ℕ) → n ≤ limit → QuietTicks w before n
  quiet-for zero early = none-yet
  quiet-for (suc n) early = one-more n (omega (arith, early)) (quiet-for n (omega (arith, early)))

-- ---- both channels have been quiet for longer

-- the ticks for which both channels were quiet, over quiet ticks
pub longer-quiet : (n : ℕ) (past : List Pair) → quiet_both (quiet_pairs n ++ past) ≡ n + quiet_both past
longer-quiet zero past = omega arith
longer-quiet (suc n) past = let rest : quiet_both (quiet_pairs n ++ past) ≡ n + quiet_both past = longer-quiet n past in omega (arith, rest)

either-bound : (b : Bool) (q n : ℕ) → q ≤ n → (if b then suc q else 0) ≤ suc n
either-bound true q n within = omega (arith, within)
either-bound false q n within = omega arith

pub quiet-within : (past : List Pair) → quiet_both past ≤ length past
quiet-within [] = omega arith
quiet-within (x ∷ past) = either-bound _ (quiet_both past) (length past) (quiet-within past)

-- ---- what comes to pass in them: nothing

pub and-false : (b : Bool) → (b && false) ≡ false
and-false true = refl
and-false false = refl

pub not-all : {X : Type 0} (p : X → Bool) (xs : List X) (i : ℕ) (x : X) → slice_get xs i ≡ Some x → p x ≡ false → list_all p xs ≡ false
not-all p [] i x there fails = absurd (cc)
not-all p (y ∷ ys) zero x there fails =
    let same : y ≡ x = same_Some y x there in let no : p y ≡ false = ap p same ∙ fails in rw no refl
not-all p (y ∷ ys) (suc i) x there fails = rw (not-all p ys i x there fails) (and-false (p y))

pub drivers-few : (faults : List Fault) (c : Channel) (before driven : List (List Drive)) (m : ℕ) → length driven ≡ suc m → LeftAlone faults c before driven →
    drivers faults c (driven ++ before) ≤ 1
drivers-few faults c before [] m many left = absurd (omega (arith, many))
drivers-few faults c before (now ∷ silent) m many left = let none = left-undriven faults c before silent now left in omega (arith, none)

module _ (w : Scenario) (t n : ℕ) (stays : StaysFrom w t) (quiet : IsQuiet w (trace_at w t)) (rests : AllRest w (shown_at w t) n) (hands : HoldsAlone w (shown_at w t))
    (goes : GoesOnTo w (shown_at w t) (t + n)) where
  abbrev past : List Pair
  past = shown_at w t

  long : length (shown_at w t) ≡ t
  long = long-at w t stays

  ticks : (m : ℕ) → m ≤ n → QuietTicks w (trace_at w t) m
  ticks m few = quiet-for w (trace_at w t) n rests quiet.spent m few

  -- the trace after m of them
  later-is : (m : ℕ) (few : m ≤ n) → trace_at w (t + m) ≡ record { shown = quiet_pairs m ++ past; driven = (ticks m few).driven ++ driven_at w t }
  later-is m few = sym (ticks-later w t m stays) ∙ (ticks m few).world

  pub shown-is : (m : ℕ) → m ≤ n → shown_at w (t + m) ≡ quiet_pairs m ++ past
  shown-is m few = ap (λ (tr : Trace). tr.shown) (later-is m few)

  driven-is : (m : ℕ) (few : m ≤ n) → driven_at w (t + m) ≡ (ticks m few).driven ++ driven_at w t
  driven-is m few = ap (λ (tr : Trace). tr.driven) (later-is m few)

  -- the same station holds control
  held : (m : ℕ) → m ≤ n → HoldsAlone w (quiet_pairs m ++ past)
  held m few = record {
    place = hands.place;
    holder = hands.holder;
    at = hands.at;
    holds = ap (λ (c : Course). c.holds) (course-still w past m (all-fewer w past n m few rests) hands.place hands.holder hands.at) ∙ hands.holds;
    others = λ other station at apart.
        ap (λ (c : Course). c.holds) (course-still w past m (all-fewer w past n m few rests) other station at) ∙ hands.others other station at apart;
  }

  still-busy : (m : ℕ) → m ≤ n → (busy : SomeoneIsBusy w past) →
      is_idle w.lag busy.station (starts w.plan busy.station) w.loads w.outside (quiet_pairs m ++ past) ≡ false
  still-busy m few busy =
      ap (λ (c : Course). not c.holds || (is_none c.runs && not (has_items c.left)))
      (course-still w past m (all-fewer w past n m few rests) busy.place busy.station busy.at)
      ∙ busy.busy

  over-not : (m : ℕ) → m < n → is_over_at w (t + m) ≡ false
  over-not m few = elim goes [
    | inl busy ↦ (let early : m ≤ n = omega (arith, few) in
        let idle = still-busy m early busy in
        let present = busy.at.present in
        let fails : is_done w.lag w.plan w.loads w.outside w.absent (quiet_pairs m ++ past) busy.station ≡ false = rw (present, idle) refl in
        let none : list_all (is_done w.lag w.plan w.loads w.outside w.absent (quiet_pairs m ++ past)) w.plan.stations ≡ false =
        not-all (is_done w.lag w.plan w.loads w.outside w.absent (quiet_pairs m ++ past)) w.plan.stations busy.place busy.station busy.at.there fails in
        rw (shown-is m early, none) (and-false (nat_le ending_quiet (quiet_both (quiet_pairs m ++ past)))))
    | inr bound ↦ (let early : m ≤ n = omega (arith, few) in
        let both : quiet_both (quiet_pairs m ++ past) ≡ m + quiet_both past = longer-quiet m past in
        let within : quiet_both past ≤ length past = quiet-within past in
        let low : nat_le ending_quiet (quiet_both (quiet_pairs m ++ past)) ≡ false = grind (arith, nat_tests, both, within, long, bound, few) in
        rw (shown-is m early, low) refl)
  ]

  next-tick : (m : ℕ) → t + suc m ≡ suc (t + m)
  next-tick m = omega arith

  -- nobody drives
  drives-none : (m : ℕ) (few : m < n) (c : Channel) → drivers_at w (t + m) c ≤ 1
  drives-none m few c =
      let early : suc m ≤ n = omega (arith, few) in
      let q = ticks (suc m) early in
      subst (λ u. drivers w.plan.faults c (driven_at w u) ≤ 1) (next-tick m)
      (subst (λ driven. drivers w.plan.faults c driven ≤ 1) (sym (driven-is (suc m) early))
      (drivers-few w.plan.faults c (driven_at w t) q.driven m q.many (q.alone c)))

  at-tick : (m : ℕ) → m < n → IsOrderly w (t + m)
  at-tick m few =
      let early : suc m ≤ n = omega (arith, few) in
      record {
        alone = drives-none m few;
        hands = inl (subst (λ u. HoldsAlone w (shown_at w u)) (next-tick m)
            (subst (HoldsAlone w) (sym (shown-is (suc m) early)) (held (suc m) early)));
        goes_on = over-not m few;
      }

  at-any : (i : ℕ) → t ≤ i → i < t + n → IsOrderly w i
  at-any i low high =
      let same : t + (i - t) ≡ i = omega (arith, low) in subst (IsOrderly w) same (at-tick (i - t) (omega (arith, low, high)))

  pub passes : Passage w t (t + n) nothing_happens
  passes =
      let all : n ≤ n = omega arith in
      let same = shown-is n all in
      record {
        later = omega arith;
        blocks_are = ap (λ p. blocks_in w p) same ∙ blocks-still w past n rests ∙ sym (append-nil _);
        bursts_are = ap (bursts w.lag) same ∙ quiet-bursts w.lag n past quiet.rests ∙ sym (append-nil _);
        attempts_are = ap (λ p. attempts_in w p) same ∙ attempts-still w past n rests ∙ sym (append-nil _);
        counted = ap (commands_in w) (driven-is n all) ∙ ap (count_by is_command) (ticks n all).begun ∙ omega arith;
        orderly = at-any;
      }

  quiet-then : IsQuiet w (trace_at w (t + n))
  quiet-then =
      let all : n ≤ n = omega arith in
      let q = ticks n all in
      subst (IsQuiet w) (sym (later-is n all)) record {
        rests = λ d. ap (runs w.lag) (on-quiet d n past) ∙ rests-quiet w.lag n (on_channel d past) (quiet.rests d);
        spent = λ d station. left-spent w.plan.faults d (driven_at w t) q.driven (q.alone d) station;
      }

  pub silence : (shown_at w (t + n) ≡ quiet_pairs n ++ shown_at w t) × IsQuiet w (trace_at w (t + n)) × HoldsAlone w (shown_at w (t + n))
      × Passage w t (t + n) nothing_happens
  silence =
      let all : n ≤ n = omega arith in (
        shown-is n all,
        quiet-then,
        subst (HoldsAlone w) (sym (shown-is n all)) (held n all),
        passes,
      )
