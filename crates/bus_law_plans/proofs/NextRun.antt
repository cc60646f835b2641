-- An attempt keeps what holds of the stations of a run.
use Rattle.std.proofs.Common.{◌≡◌, inl, inr, ℕ, zero, suc, Bool, true, false, List, [], ◌∷◌, map, drop, Option, Some, None, refl, sym, ap, ◌∙◌, subst}
use Rattle.std.proofs.lemmas.Bool.{cases_Bool, true≢false}
use Rattle.std.proofs.lemmas.Option.{none-some}
use Rattle.std.specs.Prelude.{not, find, length, ◌==◌, Contains, IsSome}
use Rattle.std.specs.List.{AllByRecursion as Each, AllZip}
use Rattle.bus_base.specs.declared.samples.Channel.{Channel}
use Rattle.bus_formats.specs.Accepted.{HasSuperseding, IsAccepted, addresses}
use Rattle.bus_formats.specs.Plans.{StationData, PlanData}
use Rattle.bus_formats.specs.declared.form.Outcome.{Outcome}
use Rattle.bus_formats.specs.declared.form.Outcome.TheVariants.{Clear, Sent, Declined, Passed, Illegal, Busy, NoResponse, BadReply, Abandoned, Yielded}
use Rattle.bus_retry.specs.Retries.{next_of}
use Rattle.bus_retry.specs.declared.Choice.{Choice}
use Rattle.bus_retry.specs.declared.Choice.TheVariants.{Again, Done}
use Rattle.bus_model.specs.Attempts.{Begun}
use Rattle.bus_model.specs.Endings.{Passing}
use Rattle.bus_model.specs.Memory.{TimedLoad}
use Rattle.bus_model.specs.Message.{Present, address_of_station, Message, message}
use Rattle.bus_model.specs.Run.{Run, Next, is_at, with_station, after_attempt, next_item, next_in, next_by, pass_control, with_message, next_attempt, attempt}
use Rattle.bus_model.specs.Starts.{Entry, agenda, has_items, taking, opening_after}
use Rattle.bus_law_plans.specs.Entries.{items_of, IsEntryOf, IsStationOf, AreStationsOf, IsRunOf, IsRunAmong}
use Rattle.bus_law_plans.specs.Sent.{begun_of, message_of}
use Rattle.bus_law_plans.proofs.Lists.{zip-weaker, zip-after, zip-second, either-by, same-number, drop-none}
use Rattle.bus_law_plans.proofs.Messages.{IsKept, message-kept}
use Rattle.bus_law_plans.proofs.Stations.{Apart, apart-from, found-each, found-beside, find-later, changed-zip, contains-here, contains-later}
use Rattle.bus_law_plans.proofs.Taking.{taken-by}

-- ---- one item fewer

drop-more : (n : ℕ) (xs : List Entry) → drop 1 (drop n xs) ≡ drop (suc n) xs
drop-more zero [] = refl
drop-more zero (x ∷ xs) = refl
drop-more (suc n) [] = refl
drop-more (suc n) (x ∷ xs) = drop-more n xs

each-rest : (P : Entry → Type 0) (xs : List Entry) → Each P xs → Each P (drop 1 xs)
each-rest P [] all = tt
each-rest P (x ∷ xs) all = subst (Each P) (sym (drop-none xs)) all.1

superseding-rest : (xs : List Entry) → HasSuperseding (items_of xs) → HasSuperseding (items_of (drop 1 xs))
superseding-rest [] all = tt
superseding-rest (x ∷ []) all = tt
superseding-rest (x ∷ y ∷ xs) all = all.1

module _ (plan : PlanData) where
  after-choice : (choice : Choice) (serving : Bool) (begun : Begun) (outcome : Outcome) (o : StationData) (s : Present) → IsStationOf plan serving o s →
      IsStationOf plan serving o (after_attempt begun outcome choice s)
  after-choice Done serving begun outcome o s is = record {
    plan_is = is.plan_is;
    rest = (suc is.rest.0, ap (drop 1) is.rest.1 ∙ drop-more is.rest.0 (agenda o));
    entries = each-rest (IsEntryOf plan o.terminal.address) s.left is.entries;
    superseding = superseding-rest s.left is.superseding;
    serves = is.serves;
  }
  after-choice (Again state) serving begun outcome o s is =
      record { plan_is = is.plan_is; rest = is.rest; entries = is.entries; superseding = is.superseding; serves = is.serves }

  kept-station : (serving : Bool) (o : StationData) (s t : Present) → IsStationOf plan serving o s → IsKept s t → IsStationOf plan serving o t
  kept-station serving o s t is same = record {
    plan_is = same.plan_is ∙ is.plan_is;
    rest = (is.rest.0, same.left_is ∙ is.rest.1);
    entries = subst (Each (IsEntryOf plan o.terminal.address)) (sym same.left_is) is.entries;
    superseding = subst (λ l. HasSuperseding (items_of l)) (sym same.left_is) is.superseding;
    serves = same.serves_is ∙ is.serves;
  }

  serving-now : (before now : Bool) (o : StationData) (s : Present) → IsStationOf plan before o s → IsStationOf plan now o (record s { serves = now })
  serving-now before now o s is = record { plan_is = is.plan_is; rest = is.rest; entries = is.entries; superseding = is.superseding; serves = refl }

  serving-as : (before now : Bool) (o : StationData) (s : Present) → IsStationOf plan before o s → before ≡ now → IsStationOf plan now o s
  serving-as before now o s is same = subst (λ b. IsStationOf plan b o s) same is

  at-own : (serving : Bool) (address : ℕ) (o : StationData) (s : Present) (b : Bool) → IsStationOf plan serving o s → is_at address s ≡ b →
      not (o.terminal.address == address) ≡ not b
  at-own serving address o s b is at = ap not (ap (λ (p : StationData). p.terminal.address == address) (sym is.plan_is) ∙ at)

  -- all serve, once the holder does
  gives : (holder : ℕ) (own : List StationData) (stations : List Present) → AreStationsOf plan holder own stations →
      AllZip (IsStationOf plan true) own (with_station holder (λ s. record s { serves = true }) stations)
  gives holder own stations all =
      changed-zip (λ o s. IsStationOf plan (not (o.terminal.address == holder)) o s) (IsStationOf plan true) holder (λ s. record s { serves = true })
      (λ o s is at. serving-now _ true o s is) (λ o s is at. serving-as _ true o s is (at-own _ holder o s false is at)) own stations all

  takes : (address : ℕ) (own : List StationData) (stations : List Present) → AllZip (IsStationOf plan true) own stations →
      AreStationsOf plan address own (with_station address (λ s. record s { serves = false }) stations)
  takes address own stations all =
      changed-zip (IsStationOf plan true) (λ o s. IsStationOf plan (not (o.terminal.address == address)) o s) address (λ s. record s { serves = false })
      (λ o s is at. serving-as false _ o _ (serving-now true false o s is) (sym (at-own true address o s true is at)))
      (λ o s is at. serving-as true _ o s is (sym (at-own true address o s false is at))) own stations all

  attempted : (choice : Choice) (begun : Begun) (outcome : Outcome) (holder : ℕ) (own : List StationData) (stations : List Present) →
      AreStationsOf plan holder own stations → AreStationsOf plan holder own (with_station holder (after_attempt begun outcome choice) stations)
  attempted choice begun outcome holder own stations all =
      changed-zip (λ o s. IsStationOf plan (not (o.terminal.address == holder)) o s) (λ o s. IsStationOf plan (not (o.terminal.address == holder)) o s)
      holder (after_attempt begun outcome choice) (λ o s is at. after-choice choice _ begun outcome o s is) (λ o s is at. is) own stations all

  kept-stations : (holder : ℕ) (own : List StationData) (before later : List Present) → AreStationsOf plan holder own before → AllZip IsKept before later →
      AreStationsOf plan holder own later
  kept-stations holder own before later all same =
      zip-after (λ o s. IsStationOf plan (not (o.terminal.address == holder)) o s) IsKept (λ o s. IsStationOf plan (not (o.terminal.address == holder)) o s)
      (λ o s t is kept. kept-station _ o s t is kept) own before later all same

  -- ---- addresses

  -- the stations of a run have the addresses of the plan
  pub stations-addresses : (holder : ℕ) (own : List StationData) (stations : List Present) → AreStationsOf plan holder own stations →
      map address_of_station stations ≡ map (λ (o : StationData). o.terminal.address) own
  stations-addresses holder [] [] all = refl
  stations-addresses holder [] (s ∷ stations) all = absurd all
  stations-addresses holder (o ∷ own) [] all = absurd all
  stations-addresses holder (o ∷ own) (s ∷ stations) all =
      ap (λ (p : StationData). p.terminal.address ∷ map address_of_station stations) all.0.plan_is
      ∙ ap (λ l. o.terminal.address ∷ l) (stations-addresses holder own stations all.1)

contained : (address : ℕ) (stations : List Present) (s : Present) → find (is_at address) stations ≡ Some s → Contains (map address_of_station stations) address
contained address [] s found = absurd (none-some s found)
contained address (t ∷ stations) s found = elim (cases_Bool (is_at address t)) [
  | inl here ↦
      let same : address_of_station t ≡ address = same-number (address_of_station t) address here in
      subst (λ n. Contains (n ∷ map address_of_station stations) address) (sym same) (contains-here address (map address_of_station stations))
  | inr other ↦
      contains-later (address_of_station t) address (map address_of_station stations)
      (contained address stations s (sym (find-later address t stations other) ∙ found))
]

-- ---- who takes control has an item left

-- a station after the attempt of another one, and after control passed
abbrev Stays : ℕ → Present → Present → Type 0
Stays holder s t = (address_of_station t ≡ address_of_station s) × (is_at holder s ≡ false → t.left ≡ s.left)

stays-then : (holder : ℕ) (s t u : Present) → Stays holder s t → Stays holder t u → Stays holder s u
stays-then holder s t u first second =
    (second.0 ∙ first.0, λ other. second.1 (ap (λ n. n == holder) first.0 ∙ other) ∙ first.1 other)

stays-changed : (holder address : ℕ) (change : Present → Present) → ((s : Present) → is_at address s ≡ true → Stays holder s (change s)) →
    (stations : List Present) → AllZip (Stays holder) stations (with_station address change stations)
stays-changed holder address change h [] = tt
stays-changed holder address change h (s ∷ stations) =
    (either-by (Stays holder s) (is_at address s) (change s) s (h s) (λ at. (refl, λ other. refl)), stays-changed holder address change h stations)

stays-both : (holder : ℕ) (xs ys zs : List Present) → AllZip (Stays holder) xs ys → AllZip (Stays holder) ys zs → AllZip (Stays holder) xs zs
stays-both holder xs ys zs first second = zip-after (Stays holder) (Stays holder) (Stays holder) (stays-then holder) xs ys zs first second

next-some : (s : Present) (left : List Entry) → has_items left ≡ true → IsSome (next_in s left)
next-some s [] is = absurd (true≢false (sym is))
next-some s (entry ∷ later) is = refl

-- its next item is there once it took control
taker-next : (holder address : ℕ) (before later : List Present) (s : Present) → AllZip (Stays holder) before later →
    find (is_at address) before ≡ Some s → is_at holder s ≡ false → has_items s.left ≡ true → IsSome (next_by (find (is_at address) later))
taker-next holder address before later s all found other some =
    let there = found-beside (Stays holder) (λ s t h. h.0) address before later s all found in
    subst (λ o. IsSome (next_by o)) (sym there.1)
    (next-some there.0 there.0.left (ap has_items (there.2.1 other) ∙ some))

pub never-taking : (outcome : Outcome) (channel : Channel) (tick at : ℕ) → opening_after outcome channel tick ≡ taking at → ⊥
never-taking Clear channel tick at is = cc
never-taking Sent channel tick at is = cc
never-taking Declined channel tick at is = cc
never-taking Passed channel tick at is = cc
never-taking (Illegal part) channel tick at is = cc
never-taking (Busy part) channel tick at is = cc
never-taking (NoResponse part) channel tick at is = cc
never-taking (BadReply part) channel tick at is = cc
never-taking Abandoned channel tick at is = cc
never-taking Yielded channel tick at is = cc

-- exactly the holder doesn't serve
pub serves-not : (plan : PlanData) (holder : ℕ) (own : List StationData) (stations : List Present) → AreStationsOf plan holder own stations →
    Each (λ s. s.serves ≡ not (is_at holder s)) stations
serves-not plan holder own stations all =
    zip-second (λ (o : StationData) (s : Present). IsStationOf plan (not (o.terminal.address == holder)) o s) (λ s. s.serves ≡ not (is_at holder s))
    (λ o s is. is.serves ∙ ap (λ (p : StationData). not (p.terminal.address == holder)) (sym is.plan_is)) own stations all

not-holder : (b : Bool) → not b ≡ true → b ≡ false
not-holder true is = absurd (true≢false (sym is))
not-holder false is = refl

module _ (k : ℕ) (plan : PlanData) (loads : List TimedLoad) (own : List StationData) (run : Run) (begun : Begun) (choice : Choice) where
  abbrev this : Message
  this = message k loads plan.faults (suc (length run.attempts)) begun.entry.item run.runs_on begun.state.channel begun.start run.stations

  abbrev left-stations : List Present
  left-stations = with_station run.holder (after_attempt begun this.ending.ended.outcome choice) this.stations

  after-stations : IsRunAmong plan own run → AreStationsOf plan run.holder own left-stations
  after-stations is =
      attempted plan choice begun this.ending.ended.outcome run.holder own this.stations
      (kept-stations plan run.holder own run.stations this.stations is.stations
      (message-kept k loads plan.faults _ begun.entry.item run.runs_on begun.state.channel begun.start run.stations))

  abbrev given-stations : ℕ → List Present
  given-stations address = with_station address (λ s. record s { serves = false }) (with_station run.holder (λ s. record s { serves = true }) left-stations)

  kept-stays : AllZip (Stays run.holder) run.stations this.stations
  kept-stays =
      zip-weaker IsKept (Stays run.holder) (λ s t kept. (ap (λ (p : StationData). p.terminal.address) kept.plan_is, λ other. kept.left_is)) run.stations this.stations
      (message-kept k loads plan.faults _ begun.entry.item run.runs_on begun.state.channel begun.start run.stations)

  given-stays : (address : ℕ) → AllZip (Stays run.holder) run.stations (given-stations address)
  given-stays address =
      stays-both run.holder run.stations this.stations (given-stations address) kept-stays
      (stays-both run.holder this.stations left-stations (given-stations address)
      (stays-changed run.holder run.holder (after_attempt begun this.ending.ended.outcome choice) (λ s at. (refl, λ other. absurd (true≢false (sym at ∙ other)))) this.stations)
      (stays-both run.holder left-stations (with_station run.holder (λ s. record s { serves = true }) left-stations) (given-stations address)
      (stays-changed run.holder run.holder (λ s. record s { serves = true }) (λ s at. (refl, λ other. refl)) left-stations)
      (stays-changed run.holder address (λ s. record s { serves = false }) (λ s at. (refl, λ other. refl))
      (with_station run.holder (λ s. record s { serves = true }) left-stations))))

  by-passing : Apart (map (λ (s : StationData). s.terminal.address) own) → IsRunAmong plan own run → (passes : Option Passing) → this.ending.passes ≡ passes →
      (rest : Run) → rest.stations ≡ left-stations → rest.holder ≡ run.holder →
      rest.opening ≡ opening_after this.ending.ended.outcome begun.state.channel this.ending.tick → IsRunAmong plan own (pass_control passes rest)
  by-passing named is None none rest stations holder opening = record {
    stations = subst (λ l. AreStationsOf plan rest.holder own l) (sym stations)
        (subst (λ h. AreStationsOf plan h own left-stations) (sym holder) (after-stations is));
    holder = subst (Contains (map (λ (s : StationData). s.terminal.address) own)) (sym holder) is.holder;
    taken = λ tick takes. absurd (never-taking this.ending.ended.outcome begun.state.channel this.ending.tick tick (sym opening ∙ takes));
  }
  by-passing named is (Some p) passes rest stations holder opening =
      let same : map address_of_station run.stations ≡ map (λ (s : StationData). s.terminal.address) own = stations-addresses plan run.holder own run.stations is.stations in
      let apart : Apart (map address_of_station run.stations) = subst Apart (sym same) named in
      let by = taken-by k loads plan.faults _ begun.entry.item run.runs_on begun.state.channel begun.start run.stations apart p passes in
      let other : is_at run.holder by.may.station ≡ false =
      not-holder (is_at run.holder by.may.station)
      (sym (found-each (λ s. s.serves ≡ not (is_at run.holder s)) p.address run.stations by.may.station
      (serves-not plan run.holder own run.stations is.stations) by.may.found).0 ∙ by.may.serves) in
      let now : with_station p.address (λ s. record s { serves = false }) (with_station rest.holder (λ s. record s { serves = true }) rest.stations)
      ≡ given-stations p.address =
      ap (λ h. with_station p.address (λ s. record s { serves = false }) (with_station h (λ s. record s { serves = true }) rest.stations)) holder
      ∙ ap (λ l. with_station p.address (λ s. record s { serves = false }) (with_station run.holder (λ s. record s { serves = true }) l)) stations in
      record {
        stations = subst (λ l. AreStationsOf plan p.address own l) (sym now)
            (takes plan p.address own _ (gives plan run.holder own left-stations (after-stations is)));
        holder = subst (λ l. Contains l p.address) same (contained p.address run.stations by.may.station by.may.found);
        taken = λ tick takes. subst (λ l. IsSome (next_by (find (is_at p.address) l))) (sym now)
            (taker-next run.holder p.address run.stations (given-stations p.address) by.may.station (given-stays p.address) by.may.found other by.may.left);
      }

  -- an attempt at the next item keeps the run one of its plan
  pub message-run : Apart (map (λ (s : StationData). s.terminal.address) own) → IsRunAmong plan own run → IsRunAmong plan own (with_message run begun choice this)
  message-run named is = by-passing named is this.ending.passes refl _ refl refl refl

-- an attempt keeps the run one by these stations
pub attempt-among : (k : ℕ) (plan : PlanData) (loads : List TimedLoad) (own : List StationData) (run : Run) →
    Apart (map (λ (s : StationData). s.terminal.address) own) → IsRunAmong plan own run → IsRunAmong plan own (attempt k loads plan.faults run)
attempt-among k plan loads own run named is = by-next (next_item run)
  where
    by-next : (next : Option Next) → IsRunAmong plan own (next_attempt k loads plan.faults run next)
    by-next None = is
    by-next (Some next) =
        let begun : Begun = begun_of run next in
        message-run k plan loads own run begun
        (next_of begun.entry.item begun.state (message_of k loads plan.faults run begun).ending.ended.outcome) named is

-- .. and one of its plan
pub attempt-run : (k : ℕ) (plan : PlanData) (loads : List TimedLoad) (run : Run) → IsAccepted plan → IsRunOf plan run →
    IsRunOf plan (attempt k loads plan.faults run)
attempt-run k plan loads run accepted is = attempt-among k plan loads plan.stations run (apart-from (addresses plan) accepted.apart) is
