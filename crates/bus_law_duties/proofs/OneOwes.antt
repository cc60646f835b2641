-- At most one terminal owes an answer to a command, and none where no answer is expected.
use Rattle.std.proofs.Common.{◌≡◌, ◌≢◌, inl, inr, ℕ, ◌<◌, Bool, true, false, List, [], ◌∷◌, length, get_or, map, Option, Some, None, refl, sym, ap, ◌∙◌, subst, arith, AllPairs, Contains, zero, suc}
use Rattle.std.proofs.lemmas.Bool.{true≢false, cases_eq}
use Rattle.std.proofs.lemmas.Bool.Decides.{nat_tests}
use Rattle.std.proofs.lemmas.List.{length-map, get_or-map}
use Rattle.std.proofs.lemmas.List.Elements.{All-map}
use Rattle.std.proofs.lemmas.Option.{none-some}
use Rattle.std.specs.Prelude.{◌==◌}
use Rattle.bus_base.specs.declared.samples.Channel.{Channel}
use Rattle.bus_words.specs.Fields.{is_broadcast}
use Rattle.bus_words.specs.declared.word.Word.{Word}
use Rattle.bus_formats.specs.Accepted.{HasKindRanges}
use Rattle.bus_formats.specs.Codes.{carried}
use Rattle.bus_formats.specs.Forms.{command_words, answer_of, answers_of, mode_count}
use Rattle.bus_formats.specs.Plans.{ItemData}
use Rattle.bus_formats.specs.declared.fault.Hit.{Hit}
use Rattle.bus_formats.specs.declared.form.Shape.{Shape}
use Rattle.bus_formats.specs.declared.plan.Kind.{Kind}
use Rattle.bus_formats.specs.declared.plan.Kind.TheVariants.{Receive, Transmit, Relay, Mode}
use Rattle.bus_model.specs.Memory.{Memory, TimedLoad}
use Rattle.bus_model.specs.Message.{Present, address_of_station, After, memory_at, command_burst}
use Rattle.bus_model.specs.Orders.{Duty, free, owes, promises, Order, last_order}
use Rattle.bus_model.specs.Standing.{is_owed}
use Rattle.bus_model.specs.Strikes.{struck}
use Rattle.bus_law_duties.specs.Words.{AreLeftOf}
use Rattle.bus_law_duties.specs.Duties.{AreApart, AtMostOneOwes, AreFree, PromisesToCommand}
use Rattle.bus_law_duties.proofs.Fields.{skips, own-one, OneCommand, one-command}
use Rattle.bus_law_duties.proofs.Found.{one-found, relay-found}
use Rattle.bus_law_duties.proofs.Obeys.{after}
use Rattle.bus_law_duties.proofs.Owes.{Named, owes-to, owes-named}
use Rattle.bus_law_duties.proofs.Promised.{who-promises}
use Rattle.bus_law_duties.proofs.Relayed.{first, second, not-31}
use Rattle.bus_law_duties.proofs.RelayOwes.{OwesOrder, both-owe, relay-owes}
use Rattle.bus_law_duties.proofs.Struck.{struck-left}

-- ---- two stations

-- a terminal owes something to the order that it finds in these slots
record OwesIn (station : Present) (c : Channel) (memory : Memory) (slots : List (Option Word)) : Type 0 where
  order : Order
  words : List Word
  acceptance : Bool
  found : last_order (address_of_station station) slots ≡ Some order
  single : is_broadcast order.command ≡ false
  is : OwesOrder station c memory order words acceptance

-- in a message to one address the terminal with this address
one-owes : (kind : Kind) (station : Present) (c : Channel) (memory : Memory) (slots : List (Option Word)) (one : OneCommand kind) →
    AreLeftOf (command_words kind) slots → OwesIn station c memory slots → address_of_station station ≡ one.address
one-owes kind station c memory slots one left a =
    let own = address_of_station station in
    let at = (one-found own one.bits one.data_words slots a.order (subst (λ ws. AreLeftOf ws slots) one.words_are left) a.found).0 in
    sym (own-one own one.bits at.is (ap is_broadcast (sym at.command) ∙ a.single)) ∙ one.at

module _ (station other : Present) (c : Channel) (memory memories : Memory) (slots : List (Option Word)) (a : OwesIn station c memory slots)
    (b : OwesIn other c memories slots) where
  -- so two that owe in it have one address
  one-same : (kind : Kind) → OneCommand kind → AreLeftOf (command_words kind) slots → address_of_station station ≡ address_of_station other
  one-same kind one left = one-owes kind station c memory slots one left a ∙ sym (one-owes kind other c memories slots one left b)

  -- likewise in each kind of message
  kind-same : (kind : Kind) → HasKindRanges kind → AreLeftOf (command_words kind) slots → address_of_station station ≡ address_of_station other
  kind-same (Receive to sub words) ranges left = one-same (Receive to sub words) (one-command (Receive to sub words) ranges refl) left
  kind-same (Transmit from sub count) ranges left = one-same (Transmit from sub count) (one-command (Transmit from sub count) ranges refl) left
  kind-same (Relay from from_sub to to_sub count) ranges left =
      let one : ℕ = first from from_sub to to_sub count ranges in
      let two : ℕ = second from from_sub to to_sub count ranges in
      both-owe (address_of_station station) (address_of_station other) from to one two slots
      (relay-owes from from_sub to to_sub count ranges station c memory a.order a.words a.acceptance slots a.is a.single
      (relay-found (address_of_station station) one two slots a.order left a.found))
      (relay-owes from from_sub to to_sub count ranges other c memories b.order b.words b.acceptance slots b.is b.single
      (relay-found (address_of_station other) one two slots b.order left b.found))
  kind-same (Mode to mode_sub transmit code word) ranges left =
      one-same (Mode to mode_sub transmit code word) (one-command (Mode to mode_sub transmit code word) ranges refl) left

-- a duty to answer has words and tells whether it accepts control
pub owed-is : (duty : Duty) → is_owed duty ≡ true → (words : List Word) × (acceptance : Bool) × (duty ≡ owes words acceptance)
owed-is free is = absurd (true≢false (sym is))
owed-is (owes words acceptance) is = (words, acceptance, refl)
owed-is (promises command transmitter) is = absurd (true≢false (sym is))

-- a Bool that isn't true is false
pub not-owed : (b : Bool) → (b ≡ true → ⊥) → b ≡ false
not-owed true none = absurd (none refl)
not-owed false none = refl

-- what holds of each two of what a function makes of elements
pairs-of : {X Y : Type 0} (S : Y → Y → Type 0) (f : X → Y) (xs : List X) → AllPairs S (map f xs) → AllPairs (λ a b. S (f a) (f b)) xs
pairs-of S f xs pairs i j d before inside =
    let long : length (map f xs) ≡ length xs = length-map xs f in
    let low : i < length xs = omega (arith, before, inside) in
    subst (λ y. S y (f (get_or xs j d))) (get_or-map f xs i d (f d) low)
    (subst (S (get_or (map f xs) i (f d))) (get_or-map f xs j d (f d) inside) (pairs i j (f d) before (omega (arith, inside, long))))

-- stations are apart where their addresses are
pub stations-apart : (stations : List Present) → AreApart stations → AllPairs (λ a b. address_of_station a ≢ address_of_station b) stations
stations-apart stations apart = pairs-of (λ a b. a ≢ b) address_of_station stations apart

-- what holds of each two elements holds of what a function makes of them
pub pairs-map : {X Y : Type 0} (R : X → X → Type 0) (S : Y → Y → Type 0) (f : X → Y) (back : Y → X) (xs : List X) →
    ((a b : X) → R a b → S (f a) (f b)) → AllPairs R xs → AllPairs S (map f xs)
pairs-map R S f back xs each pairs i j d before inside =
    let long : length (map f xs) ≡ length xs = length-map xs f in
    let low : i < length xs = omega (arith, before, inside, long) in
    let high : j < length xs = omega (arith, inside, long) in
    subst (λ y. S y (get_or (map f xs) j d)) (sym (get_or-map f xs i (back d) d low))
    (subst (λ y. S (f (get_or xs i (back d))) y) (sym (get_or-map f xs j (back d) d high))
    (each (get_or xs i (back d)) (get_or xs j (back d)) (pairs i j (back d) before high)))

-- ---- messages without an answer

-- only a broadcast expects no answer
pub no-answer : (address count : ℕ) → answer_of address count ≡ None → address ≡ 31
no-answer address count none = elim (cases_eq address 31) [
  | inl same ↦ same
  | inr apart ↦ (let test : (address == 31) ≡ false = grind (arith, nat_tests, apart) in
      absurd (none-some record { address = address; count = count } (sym none
      ∙ skips {X = Option Shape} (address == 31) None (Some record { address = address; count = count }) test)))
]

-- to a message that expects no first answer nobody promises anything
none-promised : (kind : Kind) (own command transmitter : ℕ) (slots : List (Option Word)) → HasKindRanges kind → (answers_of kind).first ≡ None →
    PromisesToCommand kind own command transmitter slots → ⊥
none-promised (Receive to sub words) own command transmitter slots ranges none promised = promised
none-promised (Transmit from sub count) own command transmitter slots ranges none promised = promised
none-promised (Relay from from_sub to to_sub count) own command transmitter slots ranges none promised =
    not-31 from from_sub to to_sub count ranges (no-answer from count none)
none-promised (Mode to mode_sub transmit code word) own command transmitter slots ranges none promised = promised

-- the element of a list of one
only-one : (own address i : ℕ) → i < length (address ∷ []) → get_or (address ∷ []) i own ≡ own → address ≡ own
only-one own address zero inside is = is
only-one own address (suc i) inside is = absurd (omega (arith, inside))

-- a terminal isn't named by a message to all
only-all : (own address : ℕ) → own ≢ 31 → address ≡ 31 → Contains (address ∷ []) own → ⊥
only-all own address terminal all (i, inside, is) = terminal (sym (only-one own address i inside is) ∙ all)

-- to a message that expects no answer nobody owes one
none-owed : (kind : Kind) (own command : ℕ) → HasKindRanges kind → (answers_of kind).first ≡ None → Named kind own command →
    is_broadcast command ≡ false → ⊥
none-owed (Receive to sub words) own command ranges none named one = only-all own to named.terminal (no-answer to 0 none) (named.named one)
none-owed (Transmit from sub count) own command ranges none named one = only-all own from named.terminal (no-answer from count none) (named.named one)
none-owed (Relay from from_sub to to_sub count) own command ranges none named one = not-31 from from_sub to to_sub count ranges (no-answer from count none)
none-owed (Mode to mode_sub transmit code word) own command ranges none named one =
    only-all own to named.terminal (no-answer to (mode_count (carried transmit code)) none) (named.named one)

module _ (k : ℕ) (loads : List TimedLoad) (c : Channel) (start : ℕ) (hits : List Hit) (item : ItemData) where
  -- the slots of the command
  abbrev shown : List (Option Word)
  shown = struck hits (command_words item.kind)

  -- a station after it
  abbrev after-of : Present → After
  after-of station = after k loads c start hits item station

  -- what its terminal keeps when the command's end is known
  abbrev memory-of : Present → Memory
  memory-of station = memory_at k loads (command_burst c start hits item) station

  -- a station that owes something found an order in the slots
  owes-in : (station : Present) (words : List Word) (acceptance : Bool) → (after-of station).duty ≡ owes words acceptance →
      OwesIn station c (memory-of station) shown
  owes-in station words acceptance is =
      let to = owes-to k loads c start hits item station words acceptance is in record {
        order = to.order;
        words = words;
        acceptance = acceptance;
        found = to.obeys.found;
        single = to.owed.one;
        is = sym (ap (λ (a : After). a.duty) to.obeys.is) ∙ is;
      }

  -- two that owe something have one address
  same-address : HasKindRanges item.kind → (a b : Present) → is_owed (after-of a).duty ≡ true → is_owed (after-of b).duty ≡ true →
      address_of_station a ≡ address_of_station b
  same-address ranges a b first second =
      let one = owed-is (after-of a).duty first in
      let two = owed-is (after-of b).duty second in
      kind-same a b c (memory-of a) (memory-of b) shown (owes-in a one.0 one.1 one.2) (owes-in b two.0 two.1 two.2) item.kind ranges
      (struck-left hits (command_words item.kind))

  -- so of stations that are apart at most one owes
  pub one-owes-at-most : (stations : List Present) → HasKindRanges item.kind → AreApart stations → AtMostOneOwes (map after-of stations)
  one-owes-at-most stations ranges apart =
      pairs-map (λ a b. address_of_station a ≢ address_of_station b) (λ (a b : After). is_owed a.duty ≡ true → is_owed b.duty ≡ false)
      after-of (λ (a : After). a.station) stations
      (λ a b differ first. not-owed (is_owed (after-of b).duty) (λ second. differ (same-address ranges a b first second)))
      (stations-apart stations apart)

  -- ---- where no answer is expected

  -- a station's duty where no answer is expected
  free-by : HasKindRanges item.kind → (answers_of item.kind).first ≡ None → (station : Present) (duty : Duty) → (after-of station).duty ≡ duty → duty ≡ free
  free-by ranges none station free is = refl
  free-by ranges none station (owes words acceptance) is =
      let to = owes-to k loads c start hits item station words acceptance is in
      absurd (none-owed item.kind (address_of_station station) to.order.command ranges none
      (owes-named k loads c start hits item station words acceptance to ranges) to.owed.one)
  free-by ranges none station (promises command transmitter) is =
      absurd (none-promised item.kind (address_of_station station) command transmitter shown ranges none
      (who-promises k loads c start hits item station command transmitter ranges is))

  -- so nobody owes or promises anything there
  pub none-owes : (stations : List Present) → HasKindRanges item.kind → (answers_of item.kind).first ≡ None → AreFree (map after-of stations)
  none-owes stations ranges none =
      All-map (λ (a : After). a.duty ≡ free) after-of stations
      (λ i d inside. let station : Present = get_or stations i d in free-by ranges none station (after-of station).duty refl)
