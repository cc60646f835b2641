-- What a terminal does where the end of a burst becomes known.
use Rattle.std.proofs.Common.{◌≡◌, ℕ, suc, ◌+◌, ◌<◌, ◌≤◌, Bool, true, false, not, List, [], ◌∷◌, ◌++◌, length, Option, Some, None, refl, sym, ap, ◌∙◌, arith}
use Rattle.std.proofs.lemmas.Bool.{and_from, le-leb, true≢false}
use Rattle.std.proofs.lemmas.Bool.Decides.{nat_tests}
use Rattle.std.proofs.lemmas.Option.{none-some, same_Some}
use Rattle.std.specs.Prelude.{◌&&◌, nat_le, if◌then◌else◌, is_some}
use Rattle.std.specs.Option.{option_or}
use Rattle.bus_base.specs.Samples.{sample_on, other_of, same_channel}
use Rattle.bus_base.specs.declared.samples.Channel.{Channel}
use Rattle.bus_base.specs.declared.samples.Channel.TheVariants.{A, B}
use Rattle.bus_line.specs.Past.{Burst, first_tick, ended_now, end_of, rest_of}
use Rattle.bus_line.proofs.CollectLaws.{end-closes}
use Rattle.bus_line.proofs.Legs.{first_tick-leg}
use Rattle.bus_formats.specs.Plans.{TerminalData}
use Rattle.bus_formats.specs.Times.{relay_wait}
use Rattle.bus_model.specs.Memory.{Memory, TimedLoad, with_loads}
use Rattle.bus_model.specs.Orders.{promises, Order, Obeyed, last_order}
use Rattle.bus_model.specs.Hearing.{Moment, heard_on, is_addressed}
use Rattle.bus_model.specs.Standing.{Standing, mark_on, obeys, settles, superseded, is_newer, outrun, is_promise, promised_on}
use Rattle.bus_model.specs.Terminal.{order_by, order_of, order_on, running_out, order_now, addressed_on, after_tick, after_order, kept_by, done_in, taken_by, standing, took_now}
use Rattle.bus_law_stations.specs.Legs.{with_addressed, IsUnheeded, HearsBurst, IsReady, obeyed_in, settled_in, after_command, after_promise}
use Rattle.bus_law_stations.proofs.Resting.{heard-long}
use Rattle.bus_law_stations.proofs.LegTicks.{heard-append, end-no-slot, end-slots}
use Rattle.bus_law_stations.proofs.Ready.{own-mark, same-mark, marked-twice, orders-none, orders-some, tick-marks, tick-obeys, tick-settles, order-other, mark-other, mark-own, ready-heeded, order-heeded, ready-begins, three-first}
use Rattle.bus_law_stations.proofs.Obeying.{Marking, marking}

-- ---- marks are of ticks that were heard

either-before : (b : Bool) (tick m : ℕ) (mark : Option ℕ) → (mark ≡ Some m → m < tick) → (if b then Some tick else mark) ≡ Some m → m < suc tick
either-before true tick m mark old e = let same : tick ≡ m = same_Some tick m e in omega (arith, same)
either-before false tick m mark old e = let w = old e in omega (arith, w)

pub marks-before : (k : ℕ) (t : TerminalData) (loads : List TimedLoad) (memory : Memory) (c : Channel) (heard : List Moment) (m : ℕ) →
    mark_on (standing k t loads memory heard).addressed c ≡ Some m → m < length heard
unfolding standing
marks-before k t loads memory A [] m e = absurd (none-some m e)
marks-before k t loads memory B [] m e = absurd (none-some m e)
marks-before k t loads memory A (now ∷ heard) m e =
    either-before _ (length heard) m (mark_on (standing k t loads memory heard).addressed A) (marks-before k t loads memory A heard m) e
marks-before k t loads memory B (now ∷ heard) m e =
    either-before _ (length heard) m (mark_on (standing k t loads memory heard).addressed B) (marks-before k t loads memory B heard m) e

-- a command of a later burst isn't outrun
newer-not : (other : Channel) (o : Option ℕ) (tick : ℕ) → ((m : ℕ) → o ≡ Some m → m < tick) → is_newer other o (Some tick) ≡ false
newer-not other None tick before = refl
newer-not other (Some m) tick before = let less : m < tick = before m refl in grind (arith, nat_tests, less)

outrun-not : (s : Standing) (c : Channel) (tick : ℕ) → ((m : ℕ) → mark_on s.addressed (other_of c) ≡ Some m → m < tick) →
    outrun (with_addressed s c (Some tick)) c ≡ false
outrun-not s A tick before = newer-not B (mark_on s.addressed B) tick before
outrun-not s B tick before = newer-not A (mark_on s.addressed A) tick before

-- ---- the tick of the end

-- the marks stay
end-own : (k : ℕ) (t : TerminalData) (s : Standing) (c : Channel) (m : Option ℕ) (now : Moment) (heard ticks : List Moment) (burst : Burst) →
    IsReady k t s c heard → ended_now k (heard_on c (now ∷ (ticks ++ heard))) ≡ Some burst →
    addressed_on k t (now ∷ (ticks ++ heard)) (with_addressed s c m) c ≡ m
end-own k t s c m now heard ticks burst ready ended =
    let slot = end-no-slot k (heard_on c (now ∷ (ticks ++ heard))) burst ended in
    mark-own k t s c m now (ticks ++ heard) (ready-heeded k t s c heard ticks ready)
    ∙ ap (λ o. if is_addressed t.address o then Some (length (ticks ++ heard)) else m) slot

end-order : (k : ℕ) (t : TerminalData) (s : Standing) (c : Channel) (m : Option ℕ) (now : Moment) (heard ticks : List Moment) (burst : Burst) →
    IsReady k t s c heard → ended_now k (heard_on c (now ∷ (ticks ++ heard))) ≡ Some burst →
    order_on k t (now ∷ (ticks ++ heard)) (with_addressed s c m) c ≡ order_by k t (with_addressed s c m) c burst (last_order t.address burst.slots)
end-order k t s c m now heard ticks burst ready ended =
    order-heeded k t s c m now (ticks ++ heard) (ready-heeded k t s c heard ticks ready) ∙ ap (order_of k t (with_addressed s c m) c) ended

-- ---- a command

by-obeys : (k : ℕ) (t : TerminalData) (u : Standing) (c : Channel) (burst : Burst) (order : Order) (last : Option Order) → last ≡ Some order →
    outrun u c ≡ false →
    order_by k t u c burst last ≡ Some (obeys c (end_of burst) order (rest_of burst))
by-obeys k t u c burst order last some first = rw (some, first) refl

pub same-itself : (c : Channel) → same_channel c c ≡ true
same-itself A = refl
same-itself B = refl

-- the burst began with the first of the ticks
pub began : (k : ℕ) (t : TerminalData) (s : Standing) (c : Channel) (heard ticks : List Moment) (now : Moment) (burst : Burst) →
    HearsBurst k t s c heard ticks → ended_now k (heard_on c (now ∷ (ticks ++ heard))) ≡ Some burst → burst.first ≡ length heard
began k t s c heard [] now burst hears ended =
    absurd (true≢false (sym (end-closes k (sample_on now.shown c) (heard_on c heard) burst ended).ran ∙ hears.rests))
began k t s c heard (x ∷ ticks) now burst hears ended =
    (end-closes k (sample_on now.shown c) (heard_on c ((x ∷ ticks) ++ heard)) burst ended).first
    ∙ ap (first_tick k) (heard-append c (x ∷ ticks) heard)
    ∙ first_tick-leg k (sample_on x.shown c) (heard_on c ticks) (heard_on c heard) hears.rests hears.leg
    ∙ heard-long c heard

module _ (k : ℕ) (t : TerminalData) (loads : List TimedLoad) (memory : Memory) (c : Channel) (heard ticks : List Moment) (now : Moment) (burst : Burst)
    (ready : IsReady k t (standing k t loads memory heard) c heard)
    (beside : IsUnheeded k t (standing k t loads memory heard) (other_of c) (now ∷ (ticks ++ heard)))
    (ended : ended_now k (heard_on c (now ∷ (ticks ++ heard))) ≡ Some burst) where
  obeys-order : (tick : ℕ) (order : Order) → length heard ≤ tick → last_order t.address burst.slots ≡ Some order →
      order_now k t (now ∷ (ticks ++ heard)) (with_addressed (standing k t loads memory heard) c (Some tick))
      ≡ Some (obeys c (end_of burst) order (rest_of burst))
  obeys-order tick order late last =
      let s = standing k t loads memory heard in
      let u = with_addressed s c (Some tick) in
      orders-some k t u c (now ∷ (ticks ++ heard)) (obeys c (end_of burst) order (rest_of burst))
      (end-order k t s c (Some tick) now heard ticks burst ready ended
      ∙ by-obeys k t u c burst order (last_order t.address burst.slots) last
      (outrun-not s c tick (λ m e. let before = marks-before k t loads memory (other_of c) heard m e in omega (arith, before, late))))
      (order-other k t s c (Some tick) now (ticks ++ heard) (λ promise. (ready.promise promise).0) beside)

  obeys-tick : (tick : ℕ) (order : Order) → length heard ≤ tick → last_order t.address burst.slots ≡ Some order →
      after_tick k t loads now (ticks ++ heard) (with_addressed (standing k t loads memory heard) c (Some tick))
      ≡ after_command (standing k t loads memory heard) c (end_of burst) tick
      (obeyed_in t loads (length (ticks ++ heard)) (standing k t loads memory heard) c order (rest_of burst) now.has_items)
  obeys-tick tick order late last =
      let s = standing k t loads memory heard in
      let u = with_addressed s c (Some tick) in
      tick-obeys k t loads u c now (ticks ++ heard) (end_of burst) (rest_of burst) order (obeys-order tick order late last)
      (ready-begins k t s c (Some tick) heard ticks ready)
      (mark-other k t s c (Some tick) now (ticks ++ heard) beside)
      (end-own k t s c (Some tick) now heard ticks burst ready ended ∙ sym (own-mark s c (Some tick)))

  -- a mark that was left in the burst
  mark-left : (mark : Option ℕ) → is_some mark ≡ true → (tick : ℕ) × (mark ≡ Some tick)
  mark-left None some = absurd (true≢false (sym some))
  mark-left (Some tick) some = (tick, refl)

  commands : Marking k t loads memory c heard ticks → (order : Order) → last_order t.address burst.slots ≡ Some order → (tick : ℕ) × (length heard ≤ tick)
      × (tick < length (ticks ++ heard))
      × (standing k t loads memory (ticks ++ heard) ≡ with_addressed (standing k t loads memory heard) c (Some tick))
  commands m order last =
      let s = standing k t loads memory heard in
      let slots = end-slots k (sample_on now.shown c) (heard_on c (ticks ++ heard)) burst ended in
      let left = mark-left m.mark (m.found ∙ ap (λ slots. is_some (last_order t.address slots)) (sym slots) ∙ ap is_some last) in
      let within = m.within left.0 left.1 in
      (left.0, within.0, within.1, m.stands ∙ ap (λ v. with_addressed s c (option_or v (mark_on s.addressed c))) left.1)

  pub obeyed : HearsBurst k t (standing k t loads memory heard) c heard ticks → k < 40 → (order : Order) → last_order t.address burst.slots ≡ Some order →
      let o : Obeyed = obeyed_in t loads (length (ticks ++ heard)) (standing k t loads memory heard) c order (rest_of burst) now.has_items in
      (slot_end : ℕ) × (length heard ≤ slot_end) × (slot_end < length (ticks ++ heard))
      × (standing k t loads memory (now ∷ (ticks ++ heard)) ≡ after_command (standing k t loads memory heard) c (end_of burst) slot_end o)
      × (took_now k t loads record { memory = memory; ticks = now ∷ (ticks ++ heard) } ≡ o.taken)
  unfolding standing
  obeyed hears small order last =
      let past = ticks ++ heard in
      let m = commands (marking k t loads memory c heard ticks small ready hears) order last in (
        m.0,
        m.1,
        m.2,
        ap (after_tick k t loads now past) m.3 ∙ obeys-tick m.0 order m.1 last,
        ap (λ (u : Standing). taken_by k t loads (length past) now.has_items u (order_now k t (now ∷ past) u)) m.3
            ∙ ap (taken_by k t loads (length past) now.has_items (with_addressed (standing k t loads memory heard) c (Some m.0))) (obeys-order m.0 order m.1 last),
      )

  -- ---- no command

  none-left : (mark : Option ℕ) → is_some mark ≡ false → mark ≡ None
  none-left None some = refl
  none-left (Some tick) some = absurd (true≢false some)

  no-command : Marking k t loads memory c heard ticks → last_order t.address burst.slots ≡ None →
      standing k t loads memory (ticks ++ heard)
      ≡ with_addressed (standing k t loads memory heard) c (mark_on (standing k t loads memory heard).addressed c)
  no-command m last =
      let s = standing k t loads memory heard in
      let slots = end-slots k (sample_on now.shown c) (heard_on c (ticks ++ heard)) burst ended in
      let left = none-left m.mark (m.found ∙ ap (λ slots. is_some (last_order t.address slots)) (sym slots) ∙ ap is_some last) in
      m.stands ∙ ap (λ v. with_addressed s c (option_or v (mark_on s.addressed c))) left

  by-settles : (u : Standing) → last_order t.address burst.slots ≡ None → (promised_on k u c && nat_le burst.first (u.end + relay_wait)) ≡ true →
      order_by k t u c burst (last_order t.address burst.slots) ≡ Some (settles (end_of burst) burst.slots (rest_of burst))
  by-settles u last test = ap (order_by k t u c burst) last ∙ (rw test refl)

  by-nothing : (u : Standing) → last_order t.address burst.slots ≡ None → promised_on k u c ≡ false →
      order_by k t u c burst (last_order t.address burst.slots) ≡ None
  by-nothing u last test = ap (order_by k t u c burst) last ∙ (rw test refl)

  pub settled : HearsBurst k t (standing k t loads memory heard) c heard ticks → k < 40 → (command transmitter : ℕ) → last_order t.address burst.slots ≡ None →
      (standing k t loads memory heard).duty ≡ promises command transmitter → superseded k (standing k t loads memory heard) ≡ false →
      let o : Obeyed = settled_in t loads (length (ticks ++ heard)) (standing k t loads memory heard) c command transmitter burst in
      (standing k t loads memory (now ∷ (ticks ++ heard)) ≡ after_promise (standing k t loads memory heard) (end_of burst) o)
      × (took_now k t loads record { memory = memory; ticks = now ∷ (ticks ++ heard) } ≡ o.taken)
  unfolding standing
  settled hears small command transmitter last duty stands =
      let s = standing k t loads memory heard in
      let past = ticks ++ heard in
      let old = mark_on s.addressed c in
      let u = with_addressed s c (mark_on s.addressed c) in
      let h = settles (end_of burst) burst.slots (rest_of burst) in
      let before = no-command (marking k t loads memory c heard ticks small ready hears) last in
      let made = ready.promise (ap is_promise duty) in
      let first = began k t s c heard ticks now burst hears ended in
      let fresh : superseded k u ≡ false = ap (superseded k) (same-mark s c) ∙ stands in
      let promised : promised_on k u c ≡ true =
      and_from _ _ (and_from _ _ (ap is_promise duty) (ap (λ x. same_channel x c) made.0 ∙ same-itself c)) (ap not fresh) in
      let order = orders-some k t u c (now ∷ past) h
      (end-order k t s c old now heard ticks burst ready ended
      ∙ by-settles u last (and_from _ _ promised (le-leb burst.first (s.end + relay_wait) (omega (arith, first, made.2)))))
      (order-other k t s c old now past (λ promise. (ready.promise promise).0) beside) in
      let memory_then = with_loads t.address (length past) loads s.memory in
      let kept = ap (λ x. kept_by k t memory_then x s.duty burst.slots (rest_of burst)) made.0
      ∙ ap (λ d. kept_by k t memory_then c d burst.slots (rest_of burst)) duty in (
        ap (after_tick k t loads now past) before
            ∙ tick-settles k t loads u c now past (end_of burst) (rest_of burst) burst.slots order
            (ready-begins k t s c old heard ticks ready)
            (mark-other k t s c old now past beside)
            (end-own k t s c old now heard ticks burst ready ended ∙ sym (own-mark s c old))
            ∙ ap (λ (v : Standing). after_order v h (done_in k t loads (length past) now.has_items v h)) (same-mark s c)
            ∙ ap (after_promise s (end_of burst)) kept,
        ap (λ (v : Standing). taken_by k t loads (length past) now.has_items v (order_now k t (now ∷ past) v)) before
            ∙ ap (taken_by k t loads (length past) now.has_items u) order
            ∙ ap (λ (o : Obeyed). o.taken) kept,
      )

  pub passed : HearsBurst k t (standing k t loads memory heard) c heard ticks → k < 40 → last_order t.address burst.slots ≡ None →
      is_promise (standing k t loads memory heard).duty ≡ false →
      (standing k t loads memory (now ∷ (ticks ++ heard)) ≡ standing k t loads memory heard)
      × (took_now k t loads record { memory = memory; ticks = now ∷ (ticks ++ heard) } ≡ None)
  unfolding standing
  passed hears small last none =
      let s = standing k t loads memory heard in
      let past = ticks ++ heard in
      let old = mark_on s.addressed c in
      let u = with_addressed s c (mark_on s.addressed c) in
      let before = no-command (marking k t loads memory c heard ticks small ready hears) last in
      let promised = three-first (is_promise s.duty) (same_channel s.channel c) (not (superseded k u)) none in
      let out : running_out k t (now ∷ past) u ≡ None = rw none refl in
      let order = orders-none k t u c (now ∷ past)
      (end-order k t s c old now heard ticks burst ready ended ∙ by-nothing u last promised)
      (order-other k t s c old now past (λ promise. (ready.promise promise).0) beside) out in (
        ap (after_tick k t loads now past) before
            ∙ tick-marks k t loads u c now past old order
            (ready-begins k t s c old heard ticks ready)
            (mark-other k t s c old now past beside)
            (end-own k t s c old now heard ticks burst ready ended)
            ∙ marked-twice s c old old ∙ same-mark s c,
        ap (λ (v : Standing). taken_by k t loads (length past) now.has_items v (order_now k t (now ∷ past) v)) before
            ∙ ap (taken_by k t loads (length past) now.has_items u) order,
      )
