-- The blocks that are handed on: one in a tick at most, each with words, in the order of their ticks.
use Rattle.std.proofs.Common.{◌≡◌, ◌≢◌, ℕ, zero, suc, ◌+◌, ◌≤◌, Bool, true, false, ◌||◌, ◌&&◌, ◌==◌, List, [], ◌∷◌, ◌++◌, length, map, Option, Some, None, refl, ap, sym, ◌∙◌, subst, arith, append-nil, if◌then◌else◌}
use Rattle.std.specs.Prelude.{flat_map, option_to_list, is_some}
use Rattle.std.specs.List.{AllByRecursion as Each, list_any}
use Rattle.std.proofs.lemmas.Bool.Decides.{nat_tests}
use Rattle.std.proofs.lemmas.Grind.{flat_map-append}
use Rattle.std.proofs.lemmas.List.{length-append}
use Rattle.std.proofs.lemmas.Option.{none-some, same_Some}
use Rattle.bus_base.specs.declared.samples.Channel.{Channel}
use Rattle.bus_base.specs.declared.samples.Pair.{Pair}
use Rattle.bus_line.specs.declared.cutter.TheConstants.{LAG}
use Rattle.bus_formats.specs.Accepted.{IsAccepted}
use Rattle.bus_formats.specs.Plans.{StationData, PlanData}
use Rattle.bus_formats.specs.declared.log.Delivery.{Delivery}
use Rattle.bus_model.specs.Control.{hear_more, hearing_after}
use Rattle.bus_model.specs.Hearing.{Hearing}
use Rattle.bus_model.specs.Orders.{Taken}
use Rattle.bus_model.specs.Starts.{starts}
use Rattle.bus_model.specs.Terminal.{took_now, standing, order_now}
use Rattle.bus_station.specs.Told.{delivered_newest, delivery_of, heard_newest}
use Rattle.bus_terminal.specs.Stands.{channel_of}
use Rattle.bus_law_listing.proofs.Members.{Pairs, pairs-all}
use Rattle.bus_law_loads.proofs.Stations.{heard-long}
use Rattle.bus_law_loads.proofs.TakenWords.{took-words}
use Rattle.bus_law_plans.proofs.Lists.{each-append}
use Rattle.bus_run.specs.Deliveries.{delivered_in, taken_in, is_delivering, delivering}
use Rattle.bus_run.specs.Settings.{unserved}
use Rattle.bus_run.specs.declared.taken.TakenBlock.{TakenBlock}
use Rattle.bus_run.proofs.DeliveryLaws.{delivering-next}
use Rattle.bus_run.proofs.RowLaws.{delivering-none}
use Rattle.bus_bridge.specs.Runs.{AreLater}
use Rattle.bus_bridge.specs.Worlds.{is_paired, handed_on, handed_newest, handed}
use Rattle.bus_bridge.specs.declared.inputs.BridgePlan.{BridgePlan}
use Rattle.bus_bridge.specs.declared.pairings.Pairing.{Pairing}

-- ---- one block of a tick

-- where a pairing names the subaddress
paired-one : (paired : Bool) (d : Delivery) → length (if paired then d ∷ [] else []) ≤ 1
paired-one true d = omega arith
paired-one false d = omega arith

one-by : (same paired : Bool) (d : Delivery) → length (if same && paired then d ∷ [] else []) ≤ 1
one-by true paired d = paired-one paired d
one-by false paired d = omega arith

-- one of a terminal with another address isn't handed on
not-by : (same paired : Bool) (d : Delivery) → same ≡ false → (if same && paired then d ∷ [] else []) ≡ []
not-by true paired d other = (let no : true ≡ false = other in cc)
not-by false paired d other = refl

each-by : (P : Delivery → Type 0) (test : Bool) (d : Delivery) → P d → Each P (if test then d ∷ [] else [])
each-by P true d is = (is, tt)
each-by P false d is = tt

module _ (address : ℕ) (pairs : List Pairing) (o : StationData → Option Delivery) where
  -- what a station's terminal took, with its address
  abbrev told : StationData → List TakenBlock
  told s = map (λ (d : Delivery). record { address = s.terminal.address; delivery = d }) (option_to_list (o s))

  abbrev handed-of : List StationData → List Delivery
  handed-of stations = flat_map (handed_on address pairs) (flat_map told stations)

  -- ---- one station

  abbrev of-one : (s : StationData) (d : Option Delivery) → List Delivery
  of-one s d = flat_map (handed_on address pairs) (map (λ (d : Delivery). record { address = s.terminal.address; delivery = d }) (option_to_list d))

  one-few : (s : StationData) (d : Option Delivery) → length (of-one s d) ≤ (if is_some d then 1 else 0)
  one-few s None = omega arith
  one-few s (Some d) =
      let long = length-append (handed_on address pairs record { address = s.terminal.address; delivery = d }) [] in
      let one = one-by (s.terminal.address == address) (is_paired pairs d.sub) d in
      omega (arith, long, one)

  one-none : (s : StationData) (d : Option Delivery) → s.terminal.address ≢ address → of-one s d ≡ []
  one-none s None other = refl
  one-none s (Some d) other =
      ap (λ (ds : List Delivery). ds ++ []) (not-by (s.terminal.address == address) (is_paired pairs d.sub) d
      (let no : (s.terminal.address == address) ≡ false = grind (arith, nat_tests, other) in no))

  -- ---- all of them

  handed-next : (s : StationData) (stations : List StationData) → handed-of (s ∷ stations) ≡ of-one s (o s) ++ handed-of stations
  handed-next s stations = flat_map-append (handed_on address pairs) (told s) (flat_map told stations)

  none-others : (stations : List StationData) → Each (λ a. address ≢ a) (map (λ s. s.terminal.address) stations) → handed-of stations ≡ []
  none-others [] others = refl
  none-others (s ∷ stations) others =
      handed-next s stations
      ∙ ap (λ (ds : List Delivery). ds ++ handed-of stations) (one-none s (o s) (λ same. others.0 (sym same)))
      ∙ none-others stations others.1

  few-by : (n m : ℕ) (some any : Bool) → n ≤ (if some then 1 else 0) → m ≤ (if any then 1 else 0) → (n ≡ 0) × (m ≤ 1) → n + m ≤ (if some || any then 1 else 0)
  few-by n m true any first rest alone = omega (arith, alone.0, alone.1)
  few-by n m false any first rest alone = omega (arith, first, rest)

  one-by-some : (n m : ℕ) (some any : Bool) → n ≤ (if some then 1 else 0) → m ≡ 0 → n + m ≤ (if some || any then 1 else 0)
  one-by-some n m true any first none = omega (arith, first, none)
  one-by-some n m false true first none = omega (arith, first, none)
  one-by-some n m false false first none = omega (arith, first, none)

  -- stations with different addresses hand on one block at most, and none where none of their terminals took one
  pub few : (stations : List StationData) → Pairs (λ a b. a ≢ b) (map (λ s. s.terminal.address) stations) →
      length (handed-of stations) ≤ (if list_any (λ s. is_some (o s)) stations then 1 else 0)
  few [] apart = omega arith
  few (s ∷ stations) apart =
      let long = ap length (handed-next s stations) ∙ length-append (of-one s (o s)) (handed-of stations) in
      few-at (s.terminal.address == address) refl (few stations apart.1) long
    where
      low-by : (any : Bool) → (if any then 1 else 0) ≤ 1
      low-by true = omega arith
      low-by false = omega arith

      few-at : (same : Bool) → (s.terminal.address == address) ≡ same →
          length (handed-of stations) ≤ (if list_any (λ s. is_some (o s)) stations then 1 else 0) →
          length (handed-of (s ∷ stations)) ≡ length (of-one s (o s)) + length (handed-of stations) →
          length (handed-of (s ∷ stations)) ≤ (if is_some (o s) || list_any (λ s. is_some (o s)) stations then 1 else 0)
      few-at true e rest long =
          let own : s.terminal.address ≡ address = grind (arith, nat_tests, e) in
          let others : Each (λ a. address ≢ a) (map (λ s. s.terminal.address) stations) =
          subst (λ (n : ℕ). Each (λ a. n ≢ a) (map (λ s. s.terminal.address) stations)) own apart.0 in
          let none = ap length (none-others stations others) in
          let all = one-by-some (length (of-one s (o s))) (length (handed-of stations)) (is_some (o s)) (list_any (λ s. is_some (o s)) stations)
          (one-few s (o s)) none in
          omega (arith, long, all)
      few-at false e rest long =
          let other : s.terminal.address ≢ address = grind (arith, nat_tests, e) in
          let none = ap length (one-none s (o s) other) in
          let low = low-by (list_any (λ s. is_some (o s)) stations) in
          let all = few-by (length (of-one s (o s))) (length (handed-of stations)) (is_some (o s)) (list_any (λ s. is_some (o s)) stations)
          (one-few s (o s)) rest (none, omega (arith, rest, low)) in
          omega (arith, long, all)

  -- what holds of each block that was taken holds of each that is handed on
  one-each : (P : Delivery → Type 0) (s : StationData) (d : Option Delivery) → ((x : Delivery) → d ≡ Some x → P x) → Each P (of-one s d)
  one-each P s None is = tt
  one-each P s (Some d) is =
      each-append P (handed_on address pairs record { address = s.terminal.address; delivery = d }) []
      (each-by P ((s.terminal.address == address) && is_paired pairs d.sub) d (is d refl)) tt

  pub each-handed : (P : Delivery → Type 0) (stations : List StationData) → ((s : StationData) (x : Delivery) → o s ≡ Some x → P x) →
      Each P (handed-of stations)
  each-handed P [] is = tt
  each-handed P (s ∷ stations) is =
      subst (Each P) (sym (handed-next s stations))
      (each-append P (of-one s (o s)) (handed-of stations) (one-each P s (o s) (is s)) (each-handed P stations is))

-- ---- a tick

-- a block that is delivered was taken in the tick, and has words
delivered-by : (tick n : ℕ) (c : Channel) (o : Option Taken) (d : Delivery) → tick ≡ n → ((taken : Taken) → o ≡ Some taken → 1 ≤ length taken.words) →
    delivery_of tick c o ≡ Some d → (d.tick.0 ≡ n) × (1 ≤ length d.words)
delivered-by tick n c None d long some is = absurd (none-some d is)
delivered-by tick n c (Some taken) d long some is =
    let same = same_Some _ d is in
    (sym (ap (λ (x : Delivery). x.tick.0) same) ∙ long, (let words = ap (λ (x : Delivery). length x.words) same in let many = some taken refl in omega (arith, words, many)))

newest-is : (plan : PlanData) (s : StationData) (shown : Pair) (past : List Pair) (d : Delivery) →
    delivered_newest LAG s (starts plan s) [] [] (shown ∷ past) ≡ Some d → (d.tick.0 ≡ length past) × (1 ≤ length d.words)
newest-is plan s shown past d is =
    let h : Hearing = hearing_after LAG s (starts plan s) [] [] past in
    delivered-by (length h.ticks) (length past)
    (channel_of (standing LAG s.terminal [] h.memory h.ticks)
    (order_now LAG s.terminal (heard_newest LAG s (starts plan s) [] [] shown past ∷ h.ticks) (standing LAG s.terminal [] h.memory h.ticks)))
    (took_now LAG s.terminal [] (hear_more h (heard_newest LAG s (starts plan s) [] [] shown past))) d
    (heard-long LAG s (starts plan s) [] [] past)
    (took-words LAG s.terminal [] h.memory (heard_newest LAG s (starts plan s) [] [] shown past ∷ h.ticks)) is

module _ (bridge : BridgePlan) where
  -- each block that is handed on in a tick was taken in it, and has words
  pub newest-each : (shown : Pair) (past : List Pair) → Each (λ d. (d.tick.0 ≡ length past) × (1 ≤ length d.words)) (handed_newest bridge (shown ∷ past))
  newest-each shown past =
      each-handed bridge.a bridge.pairs (delivered_in (unserved bridge.first) (shown ∷ past)) (λ d. (d.tick.0 ≡ length past) × (1 ≤ length d.words))
      bridge.first.stations (λ s d is. newest-is bridge.first s shown past d is)

  -- one at most, in a tick with a delivery
  pub newest-few : (past : List Pair) → IsAccepted bridge.first →
      length (handed_newest bridge past) ≤ (if is_delivering bridge.first past bridge.first.stations then 1 else 0)
  newest-few past accepted =
      few bridge.a bridge.pairs (delivered_in (unserved bridge.first) past) bridge.first.stations
      (pairs-all (λ a b. a ≢ b) (map (λ s. s.terminal.address) bridge.first.stations) accepted.apart)

  -- ---- all ticks

  pub handed-none : handed bridge [] ≡ []
  unfolding handed
  handed-none = refl

  pub handed-more : (shown : Pair) (past : List Pair) → handed bridge (shown ∷ past) ≡ handed bridge past ++ handed_newest bridge (shown ∷ past)
  unfolding handed
  handed-more shown past = refl

  few-next : (n m more : ℕ) (any : Bool) → n ≤ m → more ≤ (if any then 1 else 0) → n + more ≤ (if any then suc m else m)
  few-next n m more true before now = omega (arith, before, now)
  few-next n m more false before now = omega (arith, before, now)

  -- there are no more than ticks with a delivery
  pub handed-few : (past : List Pair) → IsAccepted bridge.first → length (handed bridge past) ≤ delivering bridge.first past
  handed-few [] accepted = (let none = ap length handed-none in omega (arith, none))
  handed-few (shown ∷ past) accepted =
      let long = ap length (handed-more shown past) ∙ length-append (handed bridge past) (handed_newest bridge (shown ∷ past)) in
      let all = few-next (length (handed bridge past)) (delivering bridge.first past) (length (handed_newest bridge (shown ∷ past)))
      (is_delivering bridge.first (shown ∷ past) bridge.first.stations) (handed-few past accepted) (newest-few (shown ∷ past) accepted) in
      let next = delivering-next bridge.first shown past in
      omega (arith, long, all, next)

-- ---- their order

-- from a tick on, each later than the one before, all before a tick
abbrev pub Ascend : ℕ → ℕ → List Delivery → Type 0
Ascend n m [] = n ≤ m
Ascend n m (d ∷ ds) = (n ≤ d.tick.0) × Ascend (suc d.tick.0) m ds

ascend-widen : (n m more : ℕ) (ds : List Delivery) → m ≤ more → Ascend n m ds → Ascend n more ds
ascend-widen n m more [] wide is = omega (arith, wide, is)
ascend-widen n m more (d ∷ ds) wide is = (is.0, ascend-widen (suc d.tick.0) m more ds wide is.1)

ascend-one : (n m : ℕ) (ds : List Delivery) (d : Delivery) → Ascend n m ds → d.tick.0 ≡ m → Ascend n (suc m) (ds ++ d ∷ [])
ascend-one n m [] d is at = (omega (arith, is, at), omega (arith, at))
ascend-one n m (x ∷ ds) d is at = (is.0, ascend-one (suc x.tick.0) m ds d is.1 at)

ascend-more : (n m : ℕ) (ds more : List Delivery) → Ascend n m ds → length more ≤ 1 →
    Each (λ d. (d.tick.0 ≡ m) × (1 ≤ length d.words)) more → Ascend n (suc m) (ds ++ more)
ascend-more n m ds [] is one each = subst (Ascend n (suc m)) (sym (append-nil ds)) (ascend-widen n m (suc m) ds (omega arith) is)
ascend-more n m ds (d ∷ []) is one each = ascend-one n m ds d is each.0.0
ascend-more n m ds (d ∷ e ∷ more) is one each = absurd (omega (arith, one))

pub ascend-later : (n m : ℕ) (ds : List Delivery) → Ascend n m ds → AreLater n ds
ascend-later n m [] is = tt
ascend-later n m (d ∷ ds) is = (is.0, ascend-later (suc d.tick.0) m ds is.1)

one-at-most : (n : ℕ) (any : Bool) → n ≤ (if any then 1 else 0) → n ≤ 1
one-at-most n true is = is
one-at-most n false is = omega (arith, is)

-- blocks are handed on in the order of their ticks
pub handed-ascend : (bridge : BridgePlan) (past : List Pair) → IsAccepted bridge.first → Ascend 0 (length past) (handed bridge past)
handed-ascend bridge [] accepted = subst (Ascend 0 0) (sym (handed-none bridge)) (omega arith)
handed-ascend bridge (shown ∷ past) accepted =
    subst (Ascend 0 (suc (length past))) (sym (handed-more bridge shown past))
    (ascend-more 0 (length past) (handed bridge past) (handed_newest bridge (shown ∷ past)) (handed-ascend bridge past accepted)
    (one-at-most (length (handed_newest bridge (shown ∷ past))) (is_delivering bridge.first (shown ∷ past) bridge.first.stations)
    (newest-few bridge (shown ∷ past) accepted)) (newest-each bridge shown past))

has-words : (m : ℕ) (ds : List Delivery) → Each (λ d. (d.tick.0 ≡ m) × (1 ≤ length d.words)) ds → Each (λ d. 1 ≤ length d.words) ds
has-words m [] all = tt
has-words m (d ∷ ds) all = (all.0.1, has-words m ds all.1)

-- and each has words
pub handed-words : (bridge : BridgePlan) (past : List Pair) → Each (λ d. 1 ≤ length d.words) (handed bridge past)
handed-words bridge [] = subst (Each (λ (d : Delivery). 1 ≤ length d.words)) (sym (handed-none bridge)) tt
handed-words bridge (shown ∷ past) =
    subst (Each (λ (d : Delivery). 1 ≤ length d.words)) (sym (handed-more bridge shown past))
    (each-append (λ (d : Delivery). 1 ≤ length d.words) (handed bridge past) (handed_newest bridge (shown ∷ past)) (handed-words bridge past)
    (has-words (length past) (handed_newest bridge (shown ∷ past)) (newest-each bridge shown past)))
