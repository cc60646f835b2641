-- The stations of the message table after control passed, beside those of the world.
use Rattle.std.proofs.Common.{◌≡◌, ◌≢◌, ◌⊎◌, inl, inr, ℕ, Bool, true, false, List, [], ◌∷◌, length, map, refl, sym, ap, ◌∙◌, subst, All}
use Rattle.std.proofs.lemmas.Bool.{eq-eqb, ne_eqb}
use Rattle.std.specs.Prelude.{if◌then◌else◌, find}
use Rattle.bus_base.specs.declared.samples.Channel.{Channel}
use Rattle.bus_base.specs.declared.samples.Pair.{Pair}
use Rattle.bus_formats.specs.Accepted.{IsAccepted}
use Rattle.bus_formats.specs.Plans.{StationData}
use Rattle.bus_formats.specs.declared.form.Outcome.{Outcome}
use Rattle.bus_retry.specs.Retries.{next_of, live_after}
use Rattle.bus_model.specs.Attempts.{Begun}
use Rattle.bus_model.specs.Course.{Course}
use Rattle.bus_model.specs.Message.{Present, After}
use Rattle.bus_model.specs.Run.{is_at, with_station, after_attempt, left_at}
use Rattle.bus_model.specs.Starts.{Entry, left_after}
use Rattle.bus_model.specs.World.{is_present}
use Rattle.bus_model.specs.WorldLog.{present_stations}
use Rattle.bus_law_moments.specs.Told.{stations_passed}
use Rattle.bus_law_offers.specs.Passing.{IsLeft}
use Rattle.bus_law_phases.specs.Closings.{HasItemsOf}
use Rattle.bus_law_phases.specs.Moments.{IsHolder}
use Rattle.bus_law_phases.specs.Pairing.{Beside}
use Rattle.bus_law_phases.specs.Scenarios.{Scenario, present_of, IsPresentAt}
use Rattle.bus_law_phases.proofs.AnswerBegun.{addresses-apart}
use Rattle.bus_law_phases.proofs.Pairs.{each-of, beside-with}
use Rattle.bus_law_table.specs.Stations.{loaded_at}
use Rattle.bus_law_table.proofs.Pairing.{Has, has-filter, map-map}

-- equal images of two lists item by item
beside-same : {X Y Z : Type 0} (R : X → Y → Type 0) (f : X → Z) (g : Y → Z) (xs : List X) (ys : List Y) → Beside R xs ys →
    ((x : X) (y : Y) → R x y → f x ≡ g y) → map f xs ≡ map g ys
beside-same R f g [] [] pairs agree = refl
beside-same R f g [] (y ∷ ys) pairs agree = absurd pairs
beside-same R f g (x ∷ xs) [] pairs agree = absurd pairs
beside-same R f g (x ∷ xs) (y ∷ ys) pairs agree =
    ap (λ z. z ∷ map f xs) (agree x y pairs.0) ∙ ap (λ zs. g y ∷ zs) (beside-same R f g xs ys pairs.1 agree)

-- an address is that of a station, or isn't
at-own : (station : StationData) (s : Present) → s.plan ≡ station → is_at station.terminal.address s ≡ true
at-own station s is = eq-eqb s.plan.terminal.address station.terminal.address (ap (λ (st : StationData). st.terminal.address) is)

at-other : (station : StationData) (address : ℕ) (s : Present) → s.plan ≡ station → station.terminal.address ≢ address → is_at address s ≡ false
at-other station address s is other =
    ne_eqb s.plan.terminal.address address (λ same. other (ap (λ (st : StationData). st.terminal.address) (sym is) ∙ same))

-- what an attempt and the passing of control make of one station of the table
module _ (from to : ℕ) (begun : Begun) (outcome : Outcome) where
  abbrev pub attempted : Present → Present
  attempted s = if is_at from s then after_attempt begun outcome (next_of begun.entry.item begun.state outcome) s else s

  abbrev pub given : Present → Present
  given s = if is_at from s then record s { serves = true } else s

  abbrev pub taken : Present → Present
  taken s = if is_at to s then record s { serves = false } else s

  abbrev pub ended_serving : Present → Present
  ended_serving s = record (after_attempt begun outcome (next_of begun.entry.item begun.state outcome) s) { serves = true }

  steps-holder : (s : Present) → is_at from s ≡ true → is_at to s ≡ false → taken (given (attempted s)) ≡ ended_serving s
  steps-holder s on off =
      let first = after_attempt begun outcome (next_of begun.entry.item begun.state outcome) s in
      ap (λ b. taken (given (if b then first else s))) on
      ∙ ap (λ b. taken (if b then record first { serves = true } else first)) on
      ∙ ap (λ b. if b then record (ended_serving s) { serves = false } else ended_serving s) off

  steps-taker : (s : Present) → is_at from s ≡ false → is_at to s ≡ true → taken (given (attempted s)) ≡ record s { serves = false }
  steps-taker s off on =
      let first = after_attempt begun outcome (next_of begun.entry.item begun.state outcome) s in
      ap (λ b. taken (given (if b then first else s))) off
      ∙ ap (λ b. taken (if b then record s { serves = true } else s)) off
      ∙ ap (λ b. if b then record s { serves = false } else s) on

  steps-other : (s : Present) → is_at from s ≡ false → is_at to s ≡ false → taken (given (attempted s)) ≡ s
  steps-other s off away =
      let first = after_attempt begun outcome (next_of begun.entry.item begun.state outcome) s in
      ap (λ b. taken (given (if b then first else s))) off
      ∙ ap (λ b. taken (if b then record s { serves = true } else s)) off
      ∙ ap (λ b. if b then record s { serves = false } else s) away

module _ (w : Scenario) (past : List Pair) (place : ℕ) (holder : StationData) (answerer : ℕ) (answering : StationData) (c : Channel) (e : ℕ)
    (afters : List After) (accepted : IsAccepted w.plan) (at : IsPresentAt w place holder) (taker_at : IsPresentAt w answerer answering)
    (apart : answerer ≢ place) (start : Course) (items : All (HasItemsOf holder start) afters)
    (stations : Beside (IsLeft w past place holder answerer answering c e) (present_stations w.lag w.plan w.loads w.outside w.absent) afters)
    (begun : Begun) (outcome : Outcome) where
  abbrev n : ℕ
  n = length past

  abbrev from : ℕ
  from = holder.terminal.address

  abbrev to : ℕ
  to = answering.terminal.address

  taker-apart : answering.terminal.address ≢ holder.terminal.address
  taker-apart = addresses-apart w.plan answerer place answering holder accepted taker_at.there at.there apart

  holder-apart : holder.terminal.address ≢ answering.terminal.address
  holder-apart same = taker-apart (sym same)

  -- the one that offered control, with what is left of its items
  abbrev holder_then : Present
  holder_then = record {
    plan = holder;
    memory = (present_of w holder past).memory;
    left = left_after (next_of begun.entry.item begun.state outcome) start.left;
    live = live_after begun.entry.item begun.state outcome start.live;
    serves = true;
  }

  abbrev Left : StationData → After → Type 0
  Left = IsLeft w past place holder answerer answering c e

  -- each pair with the items of the one that offered control
  abbrev LeftWith : StationData → After → Type 0
  LeftWith station after = Left station after × HasItemsOf holder start after

  pairs : Beside LeftWith (present_stations w.lag w.plan w.loads w.outside w.absent) afters
  pairs =
      beside-with Left LeftWith (HasItemsOf holder start) (present_stations w.lag w.plan w.loads w.outside w.absent) afters stations
      (each-of (HasItemsOf holder start) afters items) (λ station after is has. (is, has))

  module _ (seen : StationData → Present) (seen_holder : seen holder ≡ holder_then)
      (seen_other : (other : ℕ) (station : StationData) → IsPresentAt w other station → other ≢ place → seen station ≡ present_of w station past) where
    abbrev then_of : Present → Present
    then_of s = loaded_at w.loads n (taken from to begun outcome (given from to begun outcome (attempted from to begun outcome s)))

    of-holder : (after : After) → IsHolder w past holder after → HasItemsOf holder start after → holder_then ≡ then_of after.station
    of-holder after is has =
        let s = after.station in
        let so = has is.plan in
        ap (λ m. record holder_then { memory = m }) is.memory
        ∙ ap (λ (st : StationData). record holder_then { plan = st; memory = (loaded_at w.loads n s).memory }) (sym is.plan)
        ∙ ap (λ l. record holder_then {
          plan = s.plan;
          memory = (loaded_at w.loads n s).memory;
          left = left_after (next_of begun.entry.item begun.state outcome) l;
        }) (sym so.0)
        ∙ ap (λ l. record (loaded_at w.loads n s) {
          left = left_after (next_of begun.entry.item begun.state outcome) s.left;
          live = live_after begun.entry.item begun.state outcome l;
          serves = true;
        }) (sym so.1)
        ∙ ap (loaded_at w.loads n) (sym (steps-holder from to begun outcome s (at-own holder s is.plan) (at-other holder to s is.plan holder-apart)))

    agree : (station : StationData) (after : After) → LeftWith station after → seen station ≡ then_of after.station
    agree station after is = elim is.0 [
      | inl own ↦ ap seen own.0 ∙ seen_holder
          ∙ of-holder after (subst (λ st. IsHolder w past st after) own.0 own.1) is.1
      | inr other ↦ elim other [
        | inl taker ↦ (let s = after.station in
            let same : present_of w answering past ≡ loaded_at w.loads n (record s { serves = false }) = ap (λ st. present_of w st past) (sym taker.0) ∙ taker.1 in
            let plan : s.plan ≡ answering = sym (ap (λ (p : Present). p.plan) same) in
            ap seen taker.0 ∙ seen_other answerer answering taker_at apart ∙ same
            ∙ ap (loaded_at w.loads n) (sym (steps-taker from to begun outcome s (at-other answering from s plan taker-apart) (at-own answering s plan))))
        | inr rest ↦ (let s = after.station in
            let plan : s.plan ≡ station = sym (ap (λ (p : Present). p.plan) rest.4.is) in
            seen_other rest.0 station rest.3 rest.1 ∙ rest.4.is
            ∙ ap (loaded_at w.loads n) (sym (steps-other from to begun outcome s
            (at-other station from s plan (addresses-apart w.plan rest.0 place station holder accepted rest.3.there at.there rest.1))
            (at-other station to s plan (addresses-apart w.plan rest.0 answerer station answering accepted rest.3.there taker_at.there rest.2)))))
      ]
    ]

    pub passed-are : map seen (present_stations w.lag w.plan w.loads w.outside w.absent) ≡ map (loaded_at w.loads (length past))
        (stations_passed holder.terminal.address answering.terminal.address
        (with_station holder.terminal.address (after_attempt begun outcome (next_of begun.entry.item begun.state outcome)) (map (λ (a : After). a.station) afters)))
    passed-are =
        let first = map (λ (a : After). a.station) afters in
        beside-same LeftWith seen (λ (a : After). then_of a.station) (present_stations w.lag w.plan w.loads w.outside w.absent) afters pairs agree
        ∙ sym (ap (map (loaded_at w.loads n)) (ap (map (taken from to begun outcome)) (map-map (given from to begun outcome) (attempted from to begun outcome) first)
        ∙ map-map (taken from to begun outcome) (λ s. given from to begun outcome (attempted from to begun outcome s)) first)
        ∙ map-map (loaded_at w.loads n) (λ s. taken from to begun outcome (given from to begun outcome (attempted from to begun outcome s))) first
        ∙ map-map then_of (λ (a : After). a.station) afters)

  -- ---- the items left of the one that takes control, in the table

  module _ (left : List Entry) (left_is : (present_of w answering past).left ≡ left) where
    abbrev Named : StationData → After → Type 0
    Named station after =
        ((station ≡ answering) × (after.station.plan ≡ answering) × (after.station.left ≡ left))
        ⊎ ((station.terminal.address ≢ answering.terminal.address) × (after.station.plan ≡ station))

    named : (station : StationData) (after : After) → Left station after → Named station after
    named station after is = elim is [
      | inl own ↦ inr (subst (λ (st : StationData). st.terminal.address ≢ answering.terminal.address) (sym own.0) holder-apart, own.1.plan)
      | inr other ↦ elim other [
        | inl taker ↦ (let same : present_of w answering past ≡ loaded_at w.loads n (record after.station { serves = false }) =
            ap (λ st. present_of w st past) (sym taker.0) ∙ taker.1 in
            inl (taker.0, sym (ap (λ (p : Present). p.plan) same), sym (ap (λ (p : Present). p.left) same) ∙ left_is))
        | inr rest ↦ inr (
          addresses-apart w.plan rest.0 answerer station answering accepted rest.3.there taker_at.there rest.2,
          sym (ap (λ (p : Present). p.plan) rest.4.is),
        )
      ]
    ]

    -- the first of the table is the one, or isn't
    find-here : (y : Present) (ys : List Present) → is_at to y ≡ true → left_at (find (is_at to) (y ∷ ys)) ≡ y.left
    find-here y ys on = rw on refl

    find-there : (y : Present) (ys : List Present) → is_at to y ≡ false → left_at (find (is_at to) (y ∷ ys)) ≡ left_at (find (is_at to) ys)
    find-there y ys off = rw off refl

    step-off : (s : Present) → is_at from s ≡ false → attempted from to begun outcome s ≡ s
    step-off s off = ap (λ b. if b then after_attempt begun outcome (next_of begun.entry.item begun.state outcome) s else s) off

    step-by : (b : Bool) (s : Present) → is_at to (if b then after_attempt begun outcome (next_of begun.entry.item begun.state outcome) s else s) ≡ is_at to s
    step-by true s = refl
    step-by false s = refl

    find-left : (xs : List StationData) (ys : List After) → Beside Named xs ys → Has (λ x. x ≡ answering) xs →
        left_at (find (is_at to) (map (attempted from to begun outcome) (map (λ (a : After). a.station) ys))) ≡ left
    find-left [] [] names has = absurd has
    find-left [] (y ∷ ys) names has = absurd names
    find-left (x ∷ xs) [] names has = absurd names
    find-left (x ∷ xs) (y ∷ ys) names has =
        let rest = map (attempted from to begun outcome) (map (λ (a : After). a.station) ys) in
        elim names.0 [
          | inl own ↦ (let s = y.station in
              let same : attempted from to begun outcome s ≡ s = step-off s (at-other answering from s own.1 taker-apart) in
              ap (λ z. left_at (find (is_at to) (z ∷ rest))) same ∙ find-here s rest (at-own answering s own.1) ∙ own.2)
          | inr other ↦ (let s = y.station in
              let off : is_at to (attempted from to begun outcome s) ≡ false = step-by (is_at from s) s ∙ at-other x to s other.1 other.0 in
              find-there (attempted from to begun outcome s) rest off
              ∙ find-left xs ys names.1 (elim has [
                | inl here ↦ absurd (other.0 (ap (λ (st : StationData). st.terminal.address) here))
                | inr later ↦ later
              ]))
        ]

    pub taker-left : left_at (find (is_at answering.terminal.address)
        (with_station holder.terminal.address (after_attempt begun outcome (next_of begun.entry.item begun.state outcome)) (map (λ (a : After). a.station) afters)))
        ≡ left
    taker-left =
        find-left (present_stations w.lag w.plan w.loads w.outside w.absent) afters
        (beside-with Left Named (λ (a : After). HasItemsOf holder start a) (present_stations w.lag w.plan w.loads w.outside w.absent) afters stations
        (each-of (HasItemsOf holder start) afters items) (λ station after is has. named station after is))
        (has-filter (is_present w.absent) w.plan.stations answerer answering taker_at.there taker_at.present)
