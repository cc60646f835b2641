-- What is handled in a tick, exactly.
use Rattle.std.proofs.Common.{◌≡◌, ◌⊎◌, ◌↔◌, inl, inr, ℕ, ◌+◌, ◌<◌, ◌≤◌, Bool, true, false, not, ◌&&◌, ◌==◌, nat_le, nat_lt, List, ◌∷◌, Option, Some, None, refl, sym, ap, ◌∙◌, subst, arith, if◌then◌else◌}
use Rattle.std.specs.Prelude.{⊤}
use Rattle.std.specs.Option.{option_or}
use Rattle.std.proofs.lemmas.Bool.{cases_Bool, cases_lt, and_parts, true≢false}
use Rattle.std.proofs.lemmas.Bool.Decides.{nat_tests}
use Rattle.std.proofs.lemmas.Option.{none-some, same_Some}
use Rattle.bus_base.specs.Samples.{other_of, same_channel}
use Rattle.bus_base.specs.declared.samples.Channel.{Channel}
use Rattle.bus_base.specs.declared.samples.Channel.TheVariants.{A, B}
use Rattle.bus_words.specs.declared.word.Word.{Word}
use Rattle.bus_line.specs.Past.{Burst, ended_now, end_of, rest_of}
use Rattle.bus_line.proofs.LookUpLaws.{ended-known, ended-is, ended-all}
use Rattle.bus_formats.specs.Plans.{TerminalData}
use Rattle.bus_formats.specs.Times.{relay_wait}
use Rattle.bus_model.specs.Memory.{Memory, TimedLoad}
use Rattle.bus_model.specs.Orders.{Order, last_order}
use Rattle.bus_model.specs.Hearing.{Moment, heard_on}
use Rattle.bus_model.specs.Standing.{Standing, Handled, obeys, settles, runs_out, mark_on, ignored_from, is_from, is_newer, outrun, superseded, is_promise, promised_on}
use Rattle.bus_model.specs.Terminal.{order_by, order_of, order_on, running_out, order_now}
use Rattle.bus_law_ticks.specs.Handling.{IsOlder, HearsEnd, IsObeyed, IsTaken}
use Rattle.bus_law_ticks.specs.Heeding.{IsAddressedAt}
use Rattle.bus_law_ticks.proofs.Choices.{by-test}
use Rattle.bus_law_ticks.proofs.Marks.{of, stands, same-own, same-true, heeded-is}
use Rattle.bus_law_ticks.proofs.Addressed.{marked-from}
use Rattle.bus_law_ticks.proofs.GivenUp.{superseded-is}
use Rattle.bus_law_ticks.proofs.RunsOut.{none-heard, not-heard}

-- ---- which channel is newer

-- a tick that is no later than another is before it or the same
before-or-at : (u t : ℕ) (X : Type 0) → u ≤ t → X → (u < t) ⊎ ((u ≡ t) × X)
before-or-at u t X low x = elim (cases_lt u t) [
  | inl less ↦ inl less
  | inr more ↦ inr (omega (arith, low, more), x)
]

-- the mark of a channel is its last addressed slot
module _ (k : ℕ) (terminal : TerminalData) (loads : List TimedLoad) (memory : Memory) (past : List Moment) (small : k ≤ 39) where
  abbrev pub mark : Channel → Option ℕ
  mark c = mark_on (stands k terminal loads memory past).addressed c

  abbrev pub Slot : Channel → ℕ → Type 0
  Slot c t = IsAddressedAt k terminal loads (of k terminal loads memory past) c t

  from : (c : Channel) (a : ℕ) → (is_from a (mark c) ≡ true) ↔ ((t : ℕ) × (a ≤ t) × Slot c t)
  from c a = marked-from k terminal loads memory c small past a

  none-slot : (c : Channel) → mark c ≡ None → (t : ℕ) → Slot c t → ⊥
  none-slot c none t at = true≢false (sym ((from c t).1 (t, omega arith, at)) ∙ ap (is_from t) none)

  slot-mark : (c : Channel) (m : ℕ) → mark c ≡ Some m → (t : ℕ) → Slot c t → t ≤ m
  slot-mark c m is t at =
      let h : is_from t (Some m) ≡ true = sym (ap (is_from t) is) ∙ (from c t).1 (t, omega arith, at) in
      grind (arith, nat_tests, h)

  mark-slot : (c : Channel) (m : ℕ) → mark c ≡ Some m → Slot c m
  mark-slot c m is =
      let here : is_from m (Some m) ≡ true = grind (arith, nat_tests) in
      let w = (from c m).0 (ap (is_from m) is ∙ here) in
      let last : w.0 ≤ m = slot-mark c m is w.0 w.2 in
      subst (Slot c) (let low = w.1 in omega (arith, low, last)) w.2

  older-by : (c : Channel) (other own : Option ℕ) → mark (other_of c) ≡ other → mark c ≡ own → is_newer (other_of c) other own ≡ true →
      IsOlder k terminal loads (of k terminal loads memory past) c
  older-by c None own is own_is h = cc
  older-by c (Some t) None is own_is h = (t, mark-slot (other_of c) t is, λ u at. absurd (none-slot c own_is u at))
  older-by c (Some t) (Some m) is own_is h = (
    t,
    mark-slot (other_of c) t is,
    λ u at. (
        let low = slot-mark c m own_is u at in
        elim (cases_Bool (nat_lt m t)) [
          | inl later ↦ inl (let first : m < t = grind (arith, nat_tests, later) in omega (arith, low, first))
          | inr fails ↦ (
              let both : ((m == t) && same_channel (other_of c) A) ≡ true = (rw fails at h) in
              let parts = and_parts (m == t) (same_channel (other_of c) A) both in
              let same : m ≡ t = (let e = parts.0 in grind (arith, nat_tests, e)) in
              before-or-at u t (other_of c ≡ A) (omega (arith, low, same)) (same-true (other_of c) A parts.1))
        ]),
  )

  newer-by : (c : Channel) (other own : Option ℕ) → mark (other_of c) ≡ other → mark c ≡ own → IsOlder k terminal loads (of k terminal loads memory past) c →
      is_newer (other_of c) other own ≡ true
  newer-by c None own is own_is older = absurd (none-slot (other_of c) is older.0 older.1)
  newer-by c (Some t) None is own_is older = refl
  newer-by c (Some t) (Some m) is own_is older =
      let last : older.0 ≤ t = slot-mark (other_of c) t is older.0 older.1 in
      elim (older.2 m (mark-slot c m own_is)) [
        | inl before ↦ (let h : nat_lt m t ≡ true = grind (arith, nat_tests, before, last) in rw h refl)
        | inr same ↦ elim (cases_Bool (nat_lt m t)) [
          | inl h ↦ rw h refl
          | inr fails ↦ (
              let at = same.0 in
              let equal : (m == t) ≡ true = grind (arith, nat_tests, fails, at, last) in
              rw (fails, equal, same.1) refl)
        ]
      ]

  -- an order on a channel would be older than a command on the other
  pub outrun-is : (c : Channel) → (outrun (stands k terminal loads memory past) c ≡ true) ↔ IsOlder k terminal loads (of k terminal loads memory past) c
  outrun-is c = (older-by c (mark (other_of c)) (mark c) refl refl, newer-by c (mark (other_of c)) (mark c) refl refl)

-- ---- what a channel brings

module _ (k : ℕ) (terminal : TerminalData) (now : Moment) (past : List Moment) (s : Standing) where
  -- a channel that isn't ignored, and the burst whose end became known
  pub record Brings (c : Channel) (burst : Burst) : Type 0 where
    pub free : ignored_from k (heard_on c past) (mark_on s.sent c) ≡ false
    pub ended : ended_now k (heard_on c (now ∷ past)) ≡ Some burst

  -- all that makes it bring this order
  abbrev pub Why : Channel → Handled → Type 0
  Why c (obeys on end order rest) =
      (burst : Burst) × Brings c burst × (on ≡ c) × (last_order terminal.address burst.slots ≡ Some order) × (outrun s c ≡ false) × (end ≡ end_of burst)
      × (rest ≡ rest_of burst)
  Why c (settles end slots rest) =
      (burst : Burst) × Brings c burst × (last_order terminal.address burst.slots ≡ None) × (promised_on k s c ≡ true)
      × (nat_le burst.first (s.end + relay_wait) ≡ true) × (end ≡ end_of burst) × (slots ≡ burst.slots) × (rest ≡ rest_of burst)
  Why c runs_out = ⊥

  abbrev pub WhyIf : Channel → Option Handled → Type 0
  WhyIf c None = ⊤
  WhyIf c (Some order) = Why c order

  by-last : (c : Channel) (burst : Burst) (last : Option Order) → Brings c burst → last_order terminal.address burst.slots ≡ last →
      WhyIf c (order_by k terminal s c burst last)
  by-last c burst (Some last) brings found =
      by-test (WhyIf c) (outrun s c) None (Some (obeys c (end_of burst) last (rest_of burst))) (λ _. tt) (λ newest. (burst, brings, refl, found, newest, refl, refl))
  by-last c burst None brings found =
      by-test (WhyIf c) (promised_on k s c && nat_le burst.first (s.end + relay_wait)) (Some (settles (end_of burst) burst.slots (rest_of burst))) None
      (λ both. (let parts = and_parts (promised_on k s c) (nat_le burst.first (s.end + relay_wait)) both in
      (burst, brings, found, parts.0, parts.1, refl, refl, refl))) (λ _. tt)

  by-ended : (c : Channel) (o : Option Burst) → ignored_from k (heard_on c past) (mark_on s.sent c) ≡ false → ended_now k (heard_on c (now ∷ past)) ≡ o →
      WhyIf c (order_of k terminal s c o)
  by-ended c None free ended = tt
  by-ended c (Some burst) free ended = by-last c burst (last_order terminal.address burst.slots) record { free = free; ended = ended } refl

  on-why : (c : Channel) → WhyIf c (order_on k terminal (now ∷ past) s c)
  on-why c =
      by-test (WhyIf c) (ignored_from k (heard_on c past) (mark_on s.sent c)) None _ (λ _. tt)
      (λ free. by-ended c (ended_now k (heard_on c (now ∷ past))) free refl)

  -- an order that isn't the running out comes from a channel
  abbrev pub Somewhere : Handled → Type 0
  Somewhere order = (c : Channel) × Why c order

  abbrev pub Comes : Handled → Type 0
  Comes runs_out = ⊤
  Comes order = Somewhere order

  comes : (c : Channel) (order : Handled) → Why c order → Comes order
  comes c (obeys on end order rest) why = (c, why)
  comes c (settles end slots rest) why = (c, why)
  comes c runs_out why = tt

  out-comes : (order : Handled) → running_out k terminal (now ∷ past) s ≡ Some order → Comes order
  out-comes order =
      by-test (λ (o : Option Handled). o ≡ Some order → Comes order) _ (Some runs_out) None (λ _ is. subst Comes (same_Some _ _ is) tt)
      (λ _ none. absurd (none-some order none))

  or-comes : (o p : Option Handled) (order : Handled) → ((h : Handled) → o ≡ Some h → Comes h) → (p ≡ Some order → Comes order) → option_or o p ≡ Some order →
      Comes order
  or-comes None p order first second is = second is
  or-comes (Some h) p order first second is = first order is

  channel-comes : (c : Channel) (order : Handled) → order_on k terminal (now ∷ past) s c ≡ Some order → Comes order
  channel-comes c order is = comes c order (subst (WhyIf c) is (on-why c))

  now-comes : (order : Handled) → order_now k terminal (now ∷ past) s ≡ Some order → Comes order
  now-comes order is =
      or-comes (order_on k terminal (now ∷ past) s A) _ order (channel-comes A)
      (or-comes (order_on k terminal (now ∷ past) s B) (running_out k terminal (now ∷ past) s) order (channel-comes B) (out-comes order)) is

  -- ---- and what brings it is enough

  brings-order : (c : Channel) (burst : Burst) (order : Handled) → Brings c burst →
      order_by k terminal s c burst (last_order terminal.address burst.slots) ≡ Some order → order_on k terminal (now ∷ past) s c ≡ Some order
  brings-order c burst order brings is =
      ap (λ (b : Bool). if b then None else order_of k terminal s c (ended_now k (heard_on c (now ∷ past)))) brings.free
      ∙ ap (order_of k terminal s c) brings.ended ∙ is

  why-order : (c : Channel) (order : Handled) → Why c order → order_on k terminal (now ∷ past) s c ≡ Some order
  why-order c (obeys on end order rest) why =
      brings-order c why.0 (obeys on end order rest) why.1
      (ap (order_by k terminal s c why.0) why.3 ∙ (rw why.4 (ap Some (sym (ap (λ (x : Channel). obeys x end order rest) why.2
      ∙ ap (λ (n : ℕ). obeys c n order rest) why.5 ∙ ap (λ (n : ℕ). obeys c (end_of why.0) order n) why.6)))))
  why-order c (settles end slots rest) why =
      brings-order c why.0 (settles end slots rest) why.1
      (ap (order_by k terminal s c why.0) why.2 ∙ (rw (why.3, why.4) (ap Some (sym (ap (λ (n : ℕ). settles n slots rest) why.5
      ∙ ap (λ (xs : List (Option Word)). settles (end_of why.0) xs rest) why.6 ∙ ap (λ (n : ℕ). settles (end_of why.0) why.0.slots n) why.7)))))
  why-order c runs_out why = absurd why

  -- at most one channel brings an order
  abbrev pub OneOrder : Type 0
  OneOrder = (order_on k terminal (now ∷ past) s A ≡ None) ⊎ (order_on k terminal (now ∷ past) s B ≡ None)

  on-now : (c : Channel) (order : Handled) → OneOrder → order_on k terminal (now ∷ past) s c ≡ Some order → order_now k terminal (now ∷ past) s ≡ Some order
  on-now A order one is = rw is refl
  on-now B order one is = elim one [
    | inl none ↦ rw (none, is) refl
    | inr none ↦ absurd (none-some order (sym none ∙ is))
  ]

-- ---- by tick numbers

module _ (k : ℕ) (terminal : TerminalData) (loads : List TimedLoad) (memory : Memory) (now : Moment) (past : List Moment) (small : k ≤ 39) where
  abbrev pub earlier : Standing
  earlier = stands k terminal loads memory past

  hears-of : (c : Channel) (burst : Burst) → Brings k terminal now past earlier c burst → HearsEnd k terminal loads (of k terminal loads memory past) now c burst
  hears-of c burst brings = record {
    heeded = (heeded-is k terminal loads memory past c).0 brings.free;
    ended = ended-known k (heard_on c (now ∷ past)) burst brings.ended;
    cut = ended-is k (heard_on c (now ∷ past)) burst brings.ended;
  }

  brings-of : (c : Channel) (burst : Burst) → HearsEnd k terminal loads (of k terminal loads memory past) now c burst → Brings k terminal now past earlier c burst
  brings-of c burst hears = record {
    free = (heeded-is k terminal loads memory past c).1 hears.heeded;
    ended = ended-all k (heard_on c (now ∷ past)) burst.first burst.ticks hears.ended ∙ ap Some (sym hears.cut);
  }

  obeyed-of : (c on : Channel) (end rest : ℕ) (order : Order) → Why k terminal now past earlier on (obeys c end order rest) →
      IsObeyed k terminal loads (of k terminal loads memory past) now c end order rest
  obeyed-of c on end rest order why =
      subst (λ (x : Channel). IsObeyed k terminal loads (of k terminal loads memory past) now x end order rest) (sym why.2) record {
        burst = why.0;
        hears = hears-of on why.0 why.1;
        last = why.3;
        end_is = why.5;
        rest_is = why.6;
        newest = λ older. true≢false (sym ((outrun-is k terminal loads memory past small on).1 older) ∙ why.4);
      }

  why-obeyed : (c : Channel) (end rest : ℕ) (order : Order) → IsObeyed k terminal loads (of k terminal loads memory past) now c end order rest →
      Why k terminal now past earlier c (obeys c end order rest)
  why-obeyed c end rest order is = (
    is.burst,
    brings-of c is.burst is.hears,
    refl,
    is.last,
    none-heard (outrun earlier c) (not-heard (outrun earlier c) (λ older. is.newest ((outrun-is k terminal loads memory past small c).0 older))),
    is.end_is,
    is.rest_is,
  )

  pub obeyed-is : (c : Channel) (end rest : ℕ) (order : Order) → OneOrder k terminal now past earlier →
      (order_now k terminal (now ∷ past) earlier ≡ Some (obeys c end order rest)) ↔ IsObeyed k terminal loads (of k terminal loads memory past) now c end order rest
  obeyed-is c end rest order one = (
    λ is. (let w = now-comes k terminal now past earlier (obeys c end order rest) is in obeyed-of c w.0 end rest order w.1),
    λ is. on-now k terminal now past earlier c (obeys c end order rest) one
        (why-order k terminal now past earlier c (obeys c end order rest) (why-obeyed c end rest order is)),
  )

  -- a promise that stands is for its own channel
  taken-of : (c : Channel) (end rest : ℕ) (slots : List (Option Word)) → Why k terminal now past earlier c (settles end slots rest) →
      IsTaken k terminal loads (of k terminal loads memory past) now earlier end slots rest
  taken-of c end rest slots why =
      let outer = and_parts (is_promise earlier.duty && same_channel earlier.channel c) (not (superseded k earlier)) why.3 in
      let inner = and_parts (is_promise earlier.duty) (same_channel earlier.channel c) outer.0 in
      let on : c ≡ earlier.channel = sym (same-true earlier.channel c inner.1) in
      let soon = why.4 in
      record {
        promised = inner.0;
        fresh = λ t low at. true≢false (sym ((superseded-is k terminal loads memory past small).1 (t, low, at)) ∙ none-heard _ outer.1);
        burst = why.0;
        hears = subst (λ (x : Channel). HearsEnd k terminal loads (of k terminal loads memory past) now x why.0) on (hears-of c why.0 why.1);
        none = why.2;
        soon = grind (arith, nat_tests, soon);
        end_is = why.5;
        slots_are = why.6;
        rest_is = why.7;
      }

  why-taken : (end rest : ℕ) (slots : List (Option Word)) → IsTaken k terminal loads (of k terminal loads memory past) now earlier end slots rest →
      Why k terminal now past earlier earlier.channel (settles end slots rest)
  why-taken end rest slots is =
      let fresh : not (superseded k earlier) ≡ true =
      not-heard _ (λ newer. (let w = (superseded-is k terminal loads memory past small).0 newer in is.fresh w.0 w.1 w.2)) in
      let soon : nat_le is.burst.first (earlier.end + relay_wait) ≡ true = (let early = is.soon in grind (arith, nat_tests, early)) in (
        is.burst,
        brings-of earlier.channel is.burst is.hears,
        is.none,
        (rw (is.promised, same-own earlier.channel, fresh) refl),
        soon,
        is.end_is,
        is.slots_are,
        is.rest_is,
      )

  pub taken-is : (end rest : ℕ) (slots : List (Option Word)) → OneOrder k terminal now past earlier →
      (order_now k terminal (now ∷ past) earlier ≡ Some (settles end slots rest))
      ↔ IsTaken k terminal loads (of k terminal loads memory past) now earlier end slots rest
  taken-is end rest slots one = (
    λ is. (let w = now-comes k terminal now past earlier (settles end slots rest) is in taken-of w.0 end rest slots w.1),
    λ is. on-now k terminal now past earlier earlier.channel (settles end slots rest) one
        (why-order k terminal now past earlier earlier.channel (settles end slots rest) (why-taken end rest slots is)),
  )
