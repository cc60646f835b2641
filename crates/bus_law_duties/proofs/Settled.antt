-- Who owes something to the answer of a message.
use Rattle.std.proofs.Common.{◌≡◌, ◌≢◌, ◌⊎◌, inl, inr, ℕ, ◌<◌, ◌≤◌, Bool, true, false, List, [], ◌∷◌, map, get_or, Option, None, refl, sym, ap, ◌∙◌, subst, arith}
use Rattle.std.proofs.lemmas.Bool.{true≢false}
use Rattle.std.proofs.lemmas.List.Elements.{All-nil, All-map}
use Rattle.bus_base.specs.declared.samples.Channel.{Channel}
use Rattle.bus_words.specs.Fields.{address_of, is_broadcast}
use Rattle.bus_words.specs.declared.word.Word.{Word}
use Rattle.bus_formats.specs.Accepted.{HasKindRanges}
use Rattle.bus_formats.specs.Forms.{command_words, answers_of}
use Rattle.bus_formats.specs.Plans.{ItemData}
use Rattle.bus_formats.specs.declared.fault.Hit.{Hit}
use Rattle.bus_formats.specs.declared.plan.Kind.{Kind}
use Rattle.bus_formats.specs.declared.plan.Kind.TheVariants.{Receive, Transmit, Relay, Mode}
use Rattle.bus_model.specs.Memory.{TimedLoad}
use Rattle.bus_model.specs.Message.{Present, address_of_station, After, unmoved, memory_at, after_answer_of, after_answer}
use Rattle.bus_model.specs.Orders.{Duty, free, owes, promises, relayed, keep_promise, Order}
use Rattle.bus_words.specs.Fields.{word_count}
use Rattle.bus_model.specs.Standing.{is_owed, is_promise}
use Rattle.bus_model.specs.Strikes.{ShownBurst, struck}
use Rattle.bus_law_duties.specs.Duties.{AreApart, AtMostOneOwes, AreFree, IsOnlyReceiver, PromisesToCommand, OwesToAnswer}
use Rattle.bus_law_duties.proofs.Fields.{to-all}
use Rattle.bus_law_duties.proofs.Kept.{OwesStatus, kept-owes, kept-promises}
use Rattle.bus_law_duties.proofs.Obeys.{after, Obeys, obeys-or-not}
use Rattle.bus_law_duties.proofs.OneOwes.{stations-apart, owed-is, not-owed, no-answer, pairs-map}
use Rattle.bus_law_duties.proofs.Owes.{free-owes}
use Rattle.bus_law_duties.proofs.Promised.{free-promises, who-promises}
use Rattle.bus_law_duties.proofs.Relayed.{first, to-is}
use Rattle.bus_law_duties.proofs.Status.{status-address}

-- ---- by what was owed before

module _ (k : ℕ) (loads : List TimedLoad) (answer : ShownBurst) (station : Present) where
  -- a terminal owes something to the answer: it promised
  pub record Promised (duty : Duty) (words : List Word) (acceptance : Bool) : Type 0 where
    pub command : ℕ
    pub transmitter : ℕ
    pub was : duty ≡ promises command transmitter
    pub owed : OwesStatus station.plan.terminal command (keep_promise station.plan.terminal (memory_at k loads answer station) answer.channel command
        transmitter answer.slots answer.rest) words acceptance

  -- so whoever owes something promised before
  pub owes-promised : (duty : Duty) (words : List Word) (acceptance : Bool) → (after_answer_of k loads answer station duty).duty ≡ owes words acceptance →
      Promised duty words acceptance
  owes-promised free words acceptance is = absurd (free-owes words acceptance is)
  owes-promised (owes others accepted) words acceptance is = absurd (free-owes words acceptance is)
  owes-promised (promises command transmitter) words acceptance is = record {
    command = command;
    transmitter = transmitter;
    was = refl;
    owed = kept-owes station.plan.terminal (memory_at k loads answer station) answer.channel command
        (relayed (word_count command) transmitter answer.slots answer.rest) words acceptance is;
  }

  -- nothing is promised
  none-promises : (duty : Duty) (command transmitter : ℕ) → (after_answer_of k loads answer station duty).duty ≡ promises command transmitter → ⊥
  none-promises free command transmitter is = free-promises command transmitter is
  none-promises (owes others accepted) command transmitter is = free-promises command transmitter is
  none-promises (promises promised from) command transmitter is =
      kept-promises station.plan.terminal (memory_at k loads answer station) answer.channel promised
      (relayed (word_count promised) from answer.slots answer.rest) command transmitter is

  -- without a promise the station stays as it was
  pub by-duty : (duty : Duty) → is_promise duty ≡ false → after_answer_of k loads answer station duty ≡ unmoved station
  by-duty free none = refl
  by-duty (owes words acceptance) none = refl
  by-duty (promises command transmitter) none = absurd (true≢false none)

-- a duty that is no promise
no-promise : (duty : Duty) → ((command transmitter : ℕ) → duty ≡ promises command transmitter → ⊥) → is_promise duty ≡ false
no-promise free none = refl
no-promise (owes words acceptance) none = refl
no-promise (promises command transmitter) none = absurd (none command transmitter refl)

-- no promise stands after an answer
pub none-stands : (k : ℕ) (loads : List TimedLoad) (answer : ShownBurst) (before : After) → is_promise (after_answer k loads answer before).duty ≡ false
none-stands k loads answer before =
    no-promise (after_answer k loads answer before).duty (none-promises k loads answer before.station before.duty)

-- a station without a promise stays as it was
pub others-stay : (k : ℕ) (loads : List TimedLoad) (answer : ShownBurst) (before : After) → is_promise before.duty ≡ false →
    after_answer k loads answer before ≡ unmoved before.station
others-stay k loads answer before none = by-duty k loads answer before.station before.duty none

-- ---- after the command of a message

-- one that was named by itself, or with all
by-name : (own to command : ℕ) → address_of command ≡ to → is_broadcast command ≡ false → (to ≡ own) ⊎ (to ≡ 31) → to ≡ own
by-name own to command at one (inl same) = same
by-name own to command at one (inr all) = absurd (true≢false (sym (to-all command to at all) ∙ one))

-- who promised, and owes an answer, is the only receiver of a relay
only-receiver : (kind : Kind) (own command transmitter : ℕ) (slots : List (Option Word)) → HasKindRanges kind →
    PromisesToCommand kind own command transmitter slots → is_broadcast command ≡ false → IsOnlyReceiver kind own
only-receiver (Receive to sub words) own command transmitter slots ranges promised one = promised
only-receiver (Transmit from sub count) own command transmitter slots ranges promised one = promised
only-receiver (Relay from from_sub to to_sub count) own command transmitter slots ranges promised one = (
  promised.receiver.terminal,
  promised.receiver.other,
  by-name own to command (ap address_of promised.command_is ∙ to-is from from_sub to to_sub count ranges) one promised.receiver.named,
)
only-receiver (Mode to mode_sub transmit code word) own command transmitter slots ranges promised one = promised

-- a station that promised
record HasPromised (kind : Kind) (before : After) : Type 0 where
  serves : before.station.serves ≡ true
  low : address_of_station before.station ≤ 31
  receiver : IsOnlyReceiver kind (address_of_station before.station)

-- what it owes then is its status alone
owes-answer : (k : ℕ) (loads : List TimedLoad) (answer : ShownBurst) (kind : Kind) (before : After) (words : List Word) (acceptance : Bool) →
    (after_answer k loads answer before).duty ≡ owes words acceptance →
    ((command transmitter : ℕ) → before.duty ≡ promises command transmitter → is_broadcast command ≡ false → HasPromised kind before) →
    OwesToAnswer kind (after_answer k loads answer before) acceptance words
owes-answer k loads answer kind before words acceptance is promised =
    let p = owes-promised k loads answer before.station before.duty words acceptance is in
    let station = before.station in
    let o = keep_promise station.plan.terminal (memory_at k loads answer station) answer.channel p.command p.transmitter answer.slots answer.rest in
    let h = promised p.command p.transmitter p.was p.owed.one in
    let s = status-address station.plan.terminal o.memory.registers false h.low in
    subst (λ (duty : Duty). OwesToAnswer kind (after_answer_of k loads answer station duty) acceptance words) (sym p.was) (record {
      answer = record { words_are = p.owed.words_are; status = s.0; address = s.1; fits = All-nil (λ w. w < 65536); few = omega arith };
      serves = h.serves;
      receiver = h.receiver;
      accepted = p.owed.acceptance_is;
    })

-- a relay has one such receiver
same-receiver : (kind : Kind) (own other : ℕ) → IsOnlyReceiver kind own → IsOnlyReceiver kind other → own ≡ other
same-receiver (Receive to sub words) own other first second = absurd first
same-receiver (Transmit from sub count) own other first second = absurd first
same-receiver (Relay from from_sub to to_sub count) own other first second = sym first.2 ∙ second.2
same-receiver (Mode to mode_sub transmit code word) own other first second = absurd first

-- and none where no second answer is expected
no-receiver : (kind : Kind) (own : ℕ) → (answers_of kind).second ≡ None → IsOnlyReceiver kind own → ⊥
no-receiver (Receive to sub words) own none is = is
no-receiver (Transmit from sub count) own none is = is
no-receiver (Relay from from_sub to to_sub count) own none is = is.0 (sym is.2 ∙ no-answer to 0 none)
no-receiver (Mode to mode_sub transmit code word) own none is = is

-- one function after another
map-map : {X Y Z : Type 0} (g : Y → Z) (f : X → Y) (xs : List X) → map g (map f xs) ≡ map (λ x. g (f x)) xs
map-map g f [] = refl
map-map g f (x ∷ xs) = ap (λ ys. g (f x) ∷ ys) (map-map g f xs)

module _ (k : ℕ) (loads : List TimedLoad) (c : Channel) (start : ℕ) (hits : List Hit) (item : ItemData) (answer : ShownBurst) where
  -- a station after the command, and after the answer
  abbrev after-of : Present → After
  after-of station = after k loads c start hits item station

  abbrev settled-of : Present → After
  settled-of station = after_answer k loads answer (after-of station)

  -- its station serves, and is still the same one
  moved-by : (station : Present) (command transmitter : ℕ) → (after-of station).duty ≡ promises command transmitter →
      (after-of station ≡ unmoved station) ⊎ ((order : Order) × Obeys k loads c start hits item station order) →
      ((after-of station).station.serves ≡ true) × (address_of_station (after-of station).station ≡ address_of_station station)
  moved-by station command transmitter is (inl same) = absurd (free-promises command transmitter (sym (ap (λ (a : After). a.duty) same) ∙ is))
  moved-by station command transmitter is (inr (order, obeys)) =
      (ap (λ (a : After). a.station.serves) obeys.is ∙ obeys.serves, ap (λ (a : After). address_of_station a.station) obeys.is)

  -- a station that promised, and owes something
  has-promised : (station : Present) → HasKindRanges item.kind → address_of_station station ≤ 31 → (command transmitter : ℕ) →
      (after-of station).duty ≡ promises command transmitter → is_broadcast command ≡ false → HasPromised item.kind (after-of station)
  has-promised station ranges low command transmitter is one =
      let same = moved-by station command transmitter is (obeys-or-not k loads c start hits item station) in record {
        serves = same.0;
        low = subst (λ n. n ≤ 31) (sym same.1) low;
        receiver = subst (IsOnlyReceiver item.kind) (sym same.1)
            (only-receiver item.kind (address_of_station station) command transmitter (struck hits (command_words item.kind)) ranges
            (who-promises k loads c start hits item station command transmitter ranges is) one);
      }

  -- so what a station owes after an answer
  pub who-owes-answer : (station : Present) (words : List Word) (acceptance : Bool) → HasKindRanges item.kind → address_of_station station ≤ 31 →
      (settled-of station).duty ≡ owes words acceptance → OwesToAnswer item.kind (settled-of station) acceptance words
  who-owes-answer station words acceptance ranges low is =
      owes-answer k loads answer item.kind (after-of station) words acceptance is (has-promised station ranges low)

  -- the only receiver has one address
  receiver-owes : (station : Present) (words : List Word) (acceptance : Bool) → HasKindRanges item.kind →
      (settled-of station).duty ≡ owes words acceptance → IsOnlyReceiver item.kind (address_of_station station)
  receiver-owes station words acceptance ranges is =
      let p = owes-promised k loads answer (after-of station).station (after-of station).duty words acceptance is in
      only-receiver item.kind (address_of_station station) p.command p.transmitter (struck hits (command_words item.kind)) ranges
      (who-promises k loads c start hits item station p.command p.transmitter ranges p.was) p.owed.one

  -- so of stations that are apart at most one owes
  pub one-owes-answer : (stations : List Present) → HasKindRanges item.kind → AreApart stations →
      AtMostOneOwes (map (after_answer k loads answer) (map after-of stations))
  one-owes-answer stations ranges apart =
      subst AtMostOneOwes (sym (map-map (after_answer k loads answer) after-of stations))
      (pairs-map (λ a b. address_of_station a ≢ address_of_station b) (λ (a b : After). is_owed a.duty ≡ true → is_owed b.duty ≡ false)
      settled-of (λ (a : After). a.station) stations
      (λ a b differ first. not-owed (is_owed (settled-of b).duty) (λ second.
      let one = owed-is (settled-of a).duty first in
      let two = owed-is (settled-of b).duty second in
      differ (same-receiver item.kind (address_of_station a) (address_of_station b) (receiver-owes a one.0 one.1 ranges one.2)
      (receiver-owes b two.0 two.1 ranges two.2)))) (stations-apart stations apart))

  -- ---- where no second answer is expected

  -- a station's duty where no second answer is expected
  free-by : HasKindRanges item.kind → (answers_of item.kind).second ≡ None → (station : Present) (duty : Duty) → (settled-of station).duty ≡ duty → duty ≡ free
  free-by ranges none station free is = refl
  free-by ranges none station (owes words acceptance) is =
      absurd (no-receiver item.kind (address_of_station station) none (receiver-owes station words acceptance ranges is))
  free-by ranges none station (promises command transmitter) is =
      absurd (true≢false (sym (ap is_promise is) ∙ none-stands k loads answer (after-of station)))

  -- so nobody owes anything there
  pub none-owes-answer : (stations : List Present) → HasKindRanges item.kind → (answers_of item.kind).second ≡ None →
      AreFree (map (after_answer k loads answer) (map after-of stations))
  none-owes-answer stations ranges none =
      subst AreFree (sym (map-map (after_answer k loads answer) after-of stations))
      (All-map (λ (a : After). a.duty ≡ free) settled-of stations
      (λ i d inside. let station : Present = get_or stations i d in free-by ranges none station (settled-of station).duty refl))
