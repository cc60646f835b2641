-- What ends on the other channel beside an answer that is sent.
use Rattle.std.proofs.Common.{◌≡◌, inl, inr, ℕ, ◌+◌, ◌-◌, ◌<◌, ◌≤◌, Bool, true, false, List, [], ◌∷◌, ◌++◌, length, Option, Some, None, refl, sym, ap, ◌∙◌, subst, arith, length-append, append_assoc}
use Rattle.std.proofs.lemmas.Bool.{or_from, or_left, or_right, or_parts, le-ltb, le-leb, true≢false}
use Rattle.std.specs.Prelude.{◌||◌, nat_lt, if◌then◌else◌, is_some, is_none}
use Rattle.std.specs.Option.{option_or}
use Rattle.bus_base.specs.Samples.{sample_on, other_of}
use Rattle.bus_base.specs.declared.samples.Channel.{Channel}
use Rattle.bus_base.specs.declared.samples.Channel.TheVariants.{A, B}
use Rattle.bus_base.specs.declared.samples.Sample.{Sample}
use Rattle.bus_base.specs.declared.samples.Drive.TheVariants.{Silent}
use Rattle.bus_words.specs.declared.word.Word.{Word}
use Rattle.bus_line.specs.Past.{Burst, InLeg, stopped, runs, first_tick, ended_now, slot_now, heard_within, end_since}
use Rattle.bus_line.specs.Cutting.{running_slots}
use Rattle.bus_line.proofs.CollectLaws.{running-off, running-on}
use Rattle.bus_line.proofs.EndLaws.{end_since-later}
use Rattle.bus_line.proofs.Legs.{runs-leg, first_tick-leg}
use Rattle.bus_line.proofs.SlotLaws.{slots-none}
use Rattle.bus_formats.specs.Plans.{TerminalData}
use Rattle.bus_model.specs.Memory.{Memory, TimedLoad}
use Rattle.bus_model.specs.Orders.{Duty, free, owes, promises, last_order, due_after}
use Rattle.bus_model.specs.Sending.{drive_sample}
use Rattle.bus_model.specs.Hearing.{Moment, heard_on, is_addressed}
use Rattle.bus_model.specs.Standing.{Standing, mark_on, is_from, superseded, ignored_from}
use Rattle.bus_model.specs.Terminal.{given_up, is_over, drive_duty, drive_of, standing, drives}
use Rattle.bus_law_stations.specs.Legs.{with_addressed, IsUnheeded, AreUnheeded, HearsBurst, IsReady}
use Rattle.bus_law_stations.proofs.Resting.{cases-option, heard-long}
use Rattle.bus_law_stations.proofs.LegTicks.{heard-append, leg-ends-not, addressed-more, end-no-slot, end-slots}
use Rattle.bus_law_stations.proofs.Ready.{own-mark, moments-append}
use Rattle.bus_law_stations.proofs.Obeying.{marking}
use Rattle.bus_law_control.proofs.Accepting.{kept-later}

-- none is not some
none-some : {X : Type 0} (x : X) → None ≡ Some x → ⊥
none-some x e = cc

-- equal options have equal values
some-same : {X : Type 0} (x y : X) → Some x ≡ Some y → x ≡ y
some-same x y e = cc

-- not some is none
some-not : {X : Type 0} (o : Option X) → is_some o ≡ false → o ≡ None
some-not None none = refl
some-not (Some x) none = absurd (true≢false none)

-- ---- a channel of which nothing is heeded

-- it depends on what was sent there alone
pub unheeded-same : (k : ℕ) (t : TerminalData) (s u : Standing) (c : Channel) (heard ticks : List Moment) → mark_on u.sent c ≡ mark_on s.sent c →
    AreUnheeded k t s c heard ticks → AreUnheeded k t u c heard ticks
unheeded-same k t s u c heard [] same none = tt
unheeded-same k t s u c heard (now ∷ ticks) same none = (
  elim none.0 [
    | inl ignored ↦ inl (ap (ignored_from k (heard_on c (ticks ++ heard))) same ∙ ignored)
    | inr other ↦ inr other
  ],
  unheeded-same k t s u c heard ticks same none.1,
)

-- one after the other
pub unheeded-append : (k : ℕ) (t : TerminalData) (s : Standing) (c : Channel) (heard firsts lasts : List Moment) → AreUnheeded k t s c heard firsts →
    AreUnheeded k t s c (firsts ++ heard) lasts → AreUnheeded k t s c heard (lasts ++ firsts)
unheeded-append k t s c heard firsts [] first last = first
unheeded-append k t s c heard firsts (now ∷ lasts) first last = (
  subst (λ past. IsUnheeded k t s c (now ∷ past)) (sym (append_assoc lasts firsts heard)) last.0,
  unheeded-append k t s c heard firsts lasts first last.1,
)

-- a channel that is ignored
ignored-before : (k : ℕ) (now : Sample) (past : List Sample) (first : ℕ) → end_since k (now ∷ past) first ≡ None → end_since k past first ≡ None
ignored-before k now past first none = elim (cases-option (end_since k past first)) [
  | inl before ↦ before
  | inr found ↦ absurd (none-some found.0 (sym none ∙ end_since-later k (now ∷ []) past first found.0 found.1))
]

-- isn't heeded to the tick in which the end of what was sent is known
pub ignored-unheeded : (k : ℕ) (t : TerminalData) (s : Standing) (c : Channel) (heard ticks : List Moment) (now : Moment) (first : ℕ) →
    mark_on s.sent c ≡ Some first → end_since k (heard_on c (ticks ++ heard)) first ≡ None → AreUnheeded k t s c heard (now ∷ ticks)
ignored-unheeded k t s c heard [] now first sent endless = (inl (ap (ignored_from k (heard_on c heard)) sent ∙ ap is_none endless), tt)
ignored-unheeded k t s c heard (x ∷ ticks) now first sent endless = (
  inl (ap (ignored_from k (heard_on c ((x ∷ ticks) ++ heard))) sent ∙ ap is_none endless),
  ignored-unheeded k t s c heard ticks x first sent (ignored-before k (sample_on x.shown c) (heard_on c (ticks ++ heard)) first endless),
)

-- ---- a burst without a command for the terminal

-- no burst ends while one runs
leg-none : (k : ℕ) (c : Channel) (heard ticks : List Moment) (now : Moment) → InLeg k (heard_on c (now ∷ ticks)) →
    ended_now k (heard_on c (now ∷ (ticks ++ heard))) ≡ None
leg-none k c heard ticks now leg =
    ap (ended_now k) (heard-append c (now ∷ ticks) heard) ∙ leg-ends-not k (sample_on now.shown c) (heard_on c ticks) (heard_on c heard) leg

-- so far
pub leg-unheeded : (k : ℕ) (t : TerminalData) (s : Standing) (c : Channel) (heard ticks : List Moment) → k < 40 → InLeg k (heard_on c ticks) →
    last_order t.address (running_slots k (heard_on c (ticks ++ heard))) ≡ None → AreUnheeded k t s c heard ticks
leg-unheeded k t s c heard [] small leg none = tt
leg-unheeded k t s c heard (now ∷ ticks) small leg none =
    let past = heard_on c (ticks ++ heard) in
    let ended = leg-none k c heard ticks now leg in
    let both : (is_addressed t.address (slot_now k (heard_on c (now ∷ (ticks ++ heard)))) || is_some (last_order t.address (running_slots k (heard_on c (ticks ++ heard)))))
    ≡ false = sym (addressed-more t.address k (sample_on now.shown c) past (omega (arith, small)) ended) ∙ ap is_some none in
    let parts = or_parts _ _ both in (
      inr (parts.0, λ burst is. absurd (none-some burst (sym ended ∙ is))),
      leg-unheeded k t s c heard ticks small leg.2 (some-not (last_order t.address (running_slots k past)) parts.1),
    )

-- and to its end
pub whole-unheeded : (k : ℕ) (t : TerminalData) (s : Standing) (c : Channel) (heard ticks : List Moment) (now : Moment) (burst : Burst) → k < 40 →
    InLeg k (heard_on c ticks) → ended_now k (heard_on c (now ∷ (ticks ++ heard))) ≡ Some burst → last_order t.address burst.slots ≡ None →
    AreUnheeded k t s c heard (now ∷ ticks)
whole-unheeded k t s c heard ticks now burst small leg ended none =
    let past = heard_on c (ticks ++ heard) in
    let slots = end-slots k (sample_on now.shown c) past burst ended in (
      inr (
        ap (is_addressed t.address) (end-no-slot k (heard_on c (now ∷ (ticks ++ heard))) burst ended),
        λ other is. subst (λ (o : Option Burst). (x : Burst) → o ≡ Some x → last_order t.address x.slots ≡ None) (sym ended)
            (λ x same. ap (λ (b : Burst). last_order t.address b.slots) (sym (some-same burst x same)) ∙ none) other is,
      ),
      leg-unheeded k t s c heard ticks small leg (ap (last_order t.address) (sym slots) ∙ none),
    )

-- fewer than forty ticks have no slot
pub few-slots : (k : ℕ) (leg past : List Sample) → runs k past ≡ false → InLeg k leg → length leg < 40 → running_slots k (leg ++ past) ≡ []
few-slots k [] past rests leg few = running-off k past rests
few-slots k (x ∷ leg) past rests in_leg few =
    let whole = (x ∷ leg) ++ past in
    let long : length ((x ∷ leg) ++ past) ≡ length (x ∷ leg) + length past = length-append (x ∷ leg) past in
    let first : first_tick k ((x ∷ leg) ++ past) ≡ length past = first_tick-leg k x leg past rests in_leg in
    running-on k whole (runs-leg k x leg past in_leg)
    ∙ slots-none whole (first_tick k whole) (stopped whole - first_tick k whole) (omega (arith, long, first, few))

-- a command among the slots stays one
pub order-stays : (k : ℕ) (t : TerminalData) (c : Channel) (heard ticks : List Moment) (now : Moment) → k < 40 → InLeg k (heard_on c (now ∷ ticks)) →
    is_some (last_order t.address (running_slots k (heard_on c (ticks ++ heard)))) ≡ true →
    is_some (last_order t.address (running_slots k (heard_on c (now ∷ (ticks ++ heard))))) ≡ true
order-stays k t c heard ticks now small leg some =
    addressed-more t.address k (sample_on now.shown c) (heard_on c (ticks ++ heard)) (omega (arith, small)) (leg-none k c heard ticks now leg)
    ∙ or_right _ _ some

-- ---- what is sent of an answer that is owed

-- it is sent from the tick in which it was due until it is over, where it isn't given up
pub duty-sends : (k : ℕ) (t : TerminalData) (s : Standing) (past : List Moment) (words : List Word) (acceptance : Bool) → s.duty ≡ owes words acceptance →
    due_after t s.end ≤ length past → given_up k t (heard_on s.channel past) s ≡ false → end_since k (heard_on s.channel past) (due_after t s.end) ≡ None →
    drive_of k t past s ≡ drive_sample s.channel s.part words (length past - due_after t s.end)
duty-sends k t s past words acceptance duty due kept endless =
    let xs = heard_on s.channel past in
    let long : length (heard_on s.channel past) ≡ length past = heard-long s.channel past in
    let started : nat_lt (length (heard_on s.channel past)) (due_after t s.end) ≡ false = le-ltb (length xs) (due_after t s.end) (omega (arith, long, due)) in
    let test : (nat_lt (length (heard_on s.channel past)) (due_after t s.end) || given_up k t (heard_on s.channel past) s
    || is_over k t (heard_on s.channel past) s) ≡ false = or_from _ _ (or_from _ _ started kept) (ap is_some endless) in
    ap (drive_duty k t xs s) duty ∙ (rw test (ap (λ n. drive_sample s.channel s.part words (n - due_after t s.end)) long))

-- and else nothing is
duty-silent : (k : ℕ) (t : TerminalData) (s : Standing) (past : List Sample) (duty : Duty) → given_up k t past s ≡ true → drive_duty k t past s duty ≡ Silent
duty-silent k t s past free given = refl
duty-silent k t s past (promises command transmitter) given = refl
duty-silent k t s past (owes words acceptance) given =
    let early = nat_lt (length past) (due_after t s.end) in
    let test : (nat_lt (length past) (due_after t s.end) || given_up k t past s || is_over k t past s) ≡ true =
    or_left _ (is_over k t past s) (or_right early _ given) in
    rw test refl

-- an answer that is superseded is not sent
pub given-silent : (k : ℕ) (t : TerminalData) (s : Standing) (past : List Moment) → superseded k s ≡ true → drive_of k t past s ≡ Silent
given-silent k t s past super = duty-silent k t s (heard_on s.channel past) s.duty (or_left _ _ super)

-- ---- beside a burst on the other channel

-- the other channel of the other channel
other-twice : (c : Channel) → other_of (other_of c) ≡ c
other-twice A = refl
other-twice B = refl

-- a mark on the other channel decides whether it is superseded
super-by : (k : ℕ) (s : Standing) (c : Channel) (m : Option ℕ) → s.channel ≡ other_of c → superseded k (with_addressed s c m) ≡ is_from (s.end + k) m
super-by k s c m on =
    ap (λ x. is_from (s.end + k) (mark_on (with_addressed s c m).addressed (other_of x))) on
    ∙ ap (λ x. is_from (s.end + k) (mark_on (with_addressed s c m).addressed x)) (other-twice c)
    ∙ ap (is_from (s.end + k)) (own-mark s c m)

-- as before
super-old : (k : ℕ) (s : Standing) (c : Channel) → s.channel ≡ other_of c → superseded k s ≡ is_from (s.end + k) (mark_on s.addressed c)
super-old k s c on =
    ap (λ x. is_from (s.end + k) (mark_on s.addressed (other_of x))) on ∙ ap (λ x. is_from (s.end + k) (mark_on s.addressed x)) (other-twice c)

module _ (k : ℕ) (t : TerminalData) (loads : List TimedLoad) (memory : Memory) (c : Channel) (heard ticks : List Moment) (words : List Word)
    (acceptance : Bool) (duty : (standing k t loads memory heard).duty ≡ owes words acceptance)
    (on : (standing k t loads memory heard).channel ≡ other_of c) (due : due_after t (standing k t loads memory heard).end ≤ length heard)
    (late : (standing k t loads memory heard).end + k ≤ length heard)
    (kept : given_up k t (heard_on (other_of c) heard) (standing k t loads memory heard) ≡ false)
    (endless : end_since k (heard_on (other_of c) (ticks ++ heard)) (due_after t (standing k t loads memory heard).end) ≡ None) where
  -- what stands of the terminal as the burst begins
  abbrev s : Standing
  s = standing k t loads memory heard

  -- no command for it ended yet
  still-sends : (m : Option ℕ) → m ≡ mark_on s.addressed c →
      drive_of k t (ticks ++ heard) (with_addressed s c m) ≡ drive_sample (other_of c) s.part words (length (ticks ++ heard) - due_after t s.end)
  still-sends m same =
      let u = with_addressed s c m in
      let long : length (ticks ++ heard) ≡ length ticks + length heard = moments-append ticks heard in
      let parts = or_parts (superseded k s) (heard_within (heard_on (other_of c) heard) s.end (due_after t s.end)) kept in
      let later = kept-later k t s (other_of c) heard ticks due kept in
      let still : given_up k t (heard_on (other_of c) (ticks ++ heard)) u ≡ false =
      or_from (superseded k u) _ (super-by k s c m on ∙ ap (is_from (s.end + k)) same ∙ sym (super-old k s c on) ∙ parts.0)
      (or_parts (superseded k s) (heard_within (heard_on (other_of c) (ticks ++ heard)) s.end (due_after t s.end)) later).1 in
      duty-sends k t u (ticks ++ heard) words acceptance duty (omega (arith, due, long))
      (ap (λ x. given_up k t (heard_on x (ticks ++ heard)) u) on ∙ still)
      (ap (λ x. end_since k (heard_on x (ticks ++ heard)) (due_after t s.end)) on ∙ endless)
      ∙ ap (λ x. drive_sample x s.part words (length (ticks ++ heard) - due_after t s.end)) on

  -- one did
  sends-no-more : (tick : ℕ) → length heard ≤ tick → drive_of k t (ticks ++ heard) (with_addressed s c (Some tick)) ≡ Silent
  sends-no-more tick after =
      given-silent k t (with_addressed s c (Some tick)) (ticks ++ heard)
      (super-by k s c (Some tick) on ∙ le-leb (s.end + k) tick (omega (arith, late, after)))

  -- so the mark decides
  by-mark : (m : Option ℕ) (b : Bool) → is_some m ≡ b → ((tick : ℕ) → m ≡ Some tick → length heard ≤ tick) →
      drive_of k t (ticks ++ heard) (with_addressed s c (option_or m (mark_on s.addressed c)))
      ≡ (if b then Silent else drive_sample (other_of c) s.part words (length (ticks ++ heard) - due_after t s.end))
  by-mark None true is within = absurd (true≢false (sym is))
  by-mark None false is within = still-sends (mark_on s.addressed c) refl
  by-mark (Some tick) true is within = sends-no-more tick (within tick refl)
  by-mark (Some tick) false is within = absurd (true≢false is)

  -- so the slots that ended decide
  pub beside-sends : k < 40 → IsReady k t s c heard → HearsBurst k t s c heard ticks →
      drives k t loads record { memory = memory; ticks = ticks ++ heard }
      ≡ (if is_some (last_order t.address (running_slots k (heard_on c (ticks ++ heard)))) then Silent
      else drive_sample (other_of c) s.part words (length (ticks ++ heard) - due_after t s.end))
  beside-sends small ready hears =
      let m = marking k t loads memory c heard ticks small ready hears in
      ap (drive_of k t (ticks ++ heard)) m.stands
      ∙ by-mark m.mark (is_some (last_order t.address (running_slots k (heard_on c (ticks ++ heard))))) m.found (λ tick is. (m.within tick is).0)
