-- The search for each rule on items finds nothing exactly where its part of what an accepted plan keeps holds.
use Rattle.std.proofs.Common.{◌≡◌, ◌≢◌, ◌<◌, ◌↔◌, ◌+◌, inl, inr, ℕ, zero, suc, Bool, true, false, not, cond, ◌&&◌, ◌||◌, ◌==◌, List, [], ◌∷◌, map, length, get_or, Option, Some, None, All, Contains, IsSome, arith, refl, sym, ◌∙◌, eqb-true, eq-eqb}
use Rattle.std.specs.Prelude.{is_some, is_none}
use Rattle.std.proofs.lemmas.Bool.{cases_Bool, false≢true}
use Rattle.std.proofs.lemmas.List.{length-map}
use Rattle.std.proofs.lemmas.List.Elements.{All-nil, All-cons, All-tail}
use Rattle.bus_formats.specs.Accepted.{addresses, addresses_named, Supersedes, IsSuperseded, HasSuperseding, IsFrameSendable}
use Rattle.bus_formats.specs.Forms.{form_of}
use Rattle.bus_formats.specs.Plans.{ItemData, FrameData, StationData, PlanData}
use Rattle.bus_formats.specs.declared.plan.Kind.{Kind}
use Rattle.bus_formats.specs.declared.plan.Kind.TheVariants.{Receive, Transmit, Relay, Mode}
use Rattle.bus_plan.specs.ItemRules.{has_address, is_absent, is_own, names_absent, names_own, may_cut_short, may_abandon, breaks, in_items, in_frames, in_stations}
use Rattle.bus_plan.specs.Place.{or_place}
use Rattle.bus_plan.specs.PlanRules.{EachMessage, NamesStations, NamesOthers, HasForms, IsSuperseding}
use Rattle.bus_plan.specs.declared.item_rules.ItemRule.{ItemRule}
use Rattle.bus_plan.specs.declared.item_rules.ItemRule.TheVariants.{NoSuchStation, SelfAddressed, BadForm, BadAbandon}
use Rattle.bus_plan.proofs.ItemLaws.{Keeps, Apart, keeps_stations, or_left, or_right, known, not_own, one, two, pairs_one, pairs_two, some_form, superseding}

-- the first element has what all have
pub all_first : {X : Type 0} (P : X → Type 0) (x : X) (xs : List X) → All P (x ∷ xs) → P x
all_first P x xs h = h 0 x (omega arith)

-- what follows from a property of each element holds of each
pub all_map : {X : Type 0} (P Q : X → Type 0) (xs : List X) → ((x : X) → P x → Q x) → All P xs → All Q xs
all_map P Q xs f h k d within = f (get_or xs k d) (h k d within)

-- ---- a search finds nothing where no item breaks the rule

pub none_where : (b : Bool) (p : List ℕ) (rest : Option (List ℕ)) → b ≡ false → rest ≡ None → cond b (Some p) rest ≡ None
none_where true p rest b r = absurd (false≢true (sym b))
none_where false p rest b r = r

pub no_place : (x y : Option (List ℕ)) → x ≡ None → y ≡ None → or_place x y ≡ None
no_place None y x h = h
no_place (Some p) y x h = absurd (cc)

none_in_items : (rule : ItemRule) (all : List StationData) (own : StationData) (path : List ℕ) (n : ℕ) (items : List ItemData)
    → Keeps rule all own items → in_items rule all own path n items ≡ None
none_in_items rule all own path n [] h = refl
none_in_items rule all own path n (i ∷ rest) h =
    none_where (breaks rule all own i rest) _ _ h.0 (none_in_items rule all own path (n + 1) rest h.1)

none_in_frames : (rule : ItemRule) (all : List StationData) (own : StationData) (path : List ℕ) (n : ℕ) (frames : List FrameData)
    → All (λ f. Keeps rule all own f.items) frames → in_frames rule all own path n frames ≡ None
none_in_frames rule all own path n [] h = refl
none_in_frames rule all own path n (f ∷ fs) h =
    no_place _ _ (none_in_items rule all own _ 1 f.items (all_first (λ f. Keeps rule all own f.items) f fs h))
    (none_in_frames rule all own path (n + 1) fs (All-tail (λ f. Keeps rule all own f.items) f fs h))

none_in_stations : (rule : ItemRule) (all : List StationData) (n : ℕ) (ss : List StationData)
    → All (λ s. All (λ f. Keeps rule all s f.items) s.frames) ss → in_stations rule all n ss ≡ None
none_in_stations rule all n [] h = refl
none_in_stations rule all n (s ∷ ss) h =
    no_place _ _ (none_in_frames rule all s _ 1 s.frames (all_first (λ s. All (λ f. Keeps rule all s f.items) s.frames) s ss h))
    (none_in_stations rule all (n + 1) ss (All-tail (λ s. All (λ f. Keeps rule all s f.items) s.frames) s ss h))

-- ---- a rule that asks each message by itself

module _ (rule : ItemRule) (P : StationData → Kind → Type 0) (all : List StationData) where
  keeps_from : (own : StationData) → ((i : ItemData) (rest : List ItemData) → P own i.kind → breaks rule all own i rest ≡ false)
      → (items : List ItemData) → All (λ i. P own i.kind) items → Keeps rule all own items
  keeps_from own f [] h = tt
  keeps_from own f (i ∷ rest) h =
      (f i rest (all_first (λ i. P own i.kind) i rest h), keeps_from own f rest (All-tail (λ i. P own i.kind) i rest h))

  keeps_to : (own : StationData) → ((i : ItemData) (rest : List ItemData) → breaks rule all own i rest ≡ false → P own i.kind)
      → (items : List ItemData) → Keeps rule all own items → All (λ i. P own i.kind) items
  keeps_to own f [] h = All-nil (λ i. P own i.kind)
  keeps_to own f (i ∷ rest) h = All-cons (λ i. P own i.kind) i rest (f i rest h.0) (keeps_to own f rest h.1)

-- the search finds nothing exactly where each message has what the rule asks for
by_message : (rule : ItemRule) (P : StationData → Kind → Type 0) (p : PlanData)
    → ((own : StationData) (i : ItemData) (rest : List ItemData) → P own i.kind → breaks rule p.stations own i rest ≡ false)
    → ((own : StationData) (i : ItemData) (rest : List ItemData) → breaks rule p.stations own i rest ≡ false → P own i.kind)
    → (in_stations rule p.stations 1 p.stations ≡ None) ↔ EachMessage P p
by_message rule P p from to = (
  λ h k s below m f within. keeps_to rule P p.stations (get_or p.stations k s) (to (get_or p.stations k s)) _
      (keeps_stations rule p.stations 1 p.stations h k s below m f within),
  λ h. none_in_stations rule p.stations 1 p.stations
      (λ k s below m f within. keeps_from rule P p.stations (get_or p.stations k s) (from (get_or p.stations k s)) _ (h k s below m f within)),
)

-- ---- addresses that messages name

or-last : (x y : Bool) → y ≡ true → (x || y) ≡ true
or-last true y h = refl
or-last false y h = h

-- an address that a station has is found
address_found : (a : ℕ) (ss : List StationData) (k : ℕ) (d : ℕ) → k < length ss → get_or (map (λ s. s.terminal.address) ss) k d ≡ a
    → has_address a ss ≡ true
address_found a [] k d within h = absurd (omega (arith, within))
address_found a (s ∷ ss) zero d within h = rw (eq-eqb s.terminal.address a h) refl
address_found a (s ∷ ss) (suc k) d within h = or-last (s.terminal.address == a) _ (address_found a ss k d (omega (arith, within)) h)

pub contains_found : (a : ℕ) (ss : List StationData) → Contains (map (λ s. s.terminal.address) ss) a → has_address a ss ≡ true
contains_found a ss (k, below, same) =
    let l : length (map (λ s. s.terminal.address) ss) ≡ length ss = length-map ss (λ s. s.terminal.address) in
    address_found a ss k a (omega (arith, below, l)) same

-- a test that is false where the address is 31
unless_last : (a : ℕ) (x : Bool) → (a ≢ 31 → x ≡ false) → (not (a == 31) && x) ≡ false
unless_last a x h =
    elim (cases_Bool (a == 31)) [
      | inl last ↦ rw last refl
      | inr other ↦ rw other (h (λ e. false≢true (sym other ∙ eq-eqb a 31 e)))
    ]

not-true : (b : Bool) → b ≡ true → not b ≡ false
not-true b h = rw h refl

there : (p : PlanData) (a : ℕ) → (a ≢ 31 → Contains (addresses p) a) → is_absent p.stations a ≡ false
there p a h = unless_last a (not (has_address a p.stations)) (λ e. not-true _ (contains_found a p.stations (h e)))

pub eqb-apart : (a b : ℕ) → a ≢ b → (a == b) ≡ false
eqb-apart a b h =
    elim (cases_Bool (a == b)) [
      | inl same ↦ absurd (h (eqb-true a b same))
      | inr other ↦ other
    ]

other : (own : StationData) (a : ℕ) → (a ≢ 31 → a ≢ own.terminal.address) → is_own own a ≡ false
other own a h = unless_last a (a == own.terminal.address) (λ e. eqb-apart a own.terminal.address (h e))

abbrev IsKnown : PlanData → ℕ → Type 0
IsKnown p a = a ≢ 31 → Contains (addresses p) a

abbrev IsOther : StationData → ℕ → Type 0
IsOther own a = a ≢ 31 → a ≢ own.terminal.address

pub no-or : (x y : Bool) → x ≡ false → y ≡ false → (x || y) ≡ false
no-or x y h k = rw (h, k) refl

known-from : (p : PlanData) (kind : Kind) → All (IsKnown p) (addresses_named kind) → names_absent p.stations kind ≡ false
known-from p (Receive to sub words) h = no-or (is_absent p.stations to) false (there p to (h 0 to (omega arith))) refl
known-from p (Transmit from sub count) h = no-or (is_absent p.stations from) false (there p from (h 0 from (omega arith))) refl
known-from p (Relay from from_sub to to_sub count) h =
    no-or (is_absent p.stations to) (is_absent p.stations from) (there p to (h 1 to (omega arith))) (there p from (h 0 from (omega arith)))
known-from p (Mode to mode_sub transmit code word) h = no-or (is_absent p.stations to) false (there p to (h 0 to (omega arith))) refl

known-to : (p : PlanData) (kind : Kind) → names_absent p.stations kind ≡ false → All (IsKnown p) (addresses_named kind)
known-to p (Receive to sub words) h = one (IsKnown p) to (known p to (or_left _ _ h))
known-to p (Transmit from sub count) h = one (IsKnown p) from (known p from (or_left _ _ h))
known-to p (Relay from from_sub to to_sub count) h =
    two (IsKnown p) from to (known p from (or_right (is_absent p.stations to) _ h)) (known p to (or_left _ _ h))
known-to p (Mode to mode_sub transmit code word) h = one (IsKnown p) to (known p to (or_left _ _ h))

pub station-exact : (p : PlanData) → (in_stations NoSuchStation p.stations 1 p.stations ≡ None) ↔ NamesStations p
station-exact p =
    by_message NoSuchStation (λ s kind. All (IsKnown p) (addresses_named kind)) p (λ own i rest h. known-from p i.kind h)
    (λ own i rest h. known-to p i.kind h)

abbrev AreOthers : StationData → Kind → Type 0
AreOthers own kind = (All (IsOther own) (addresses_named kind)) × (Apart (addresses_named kind))

others-from : (own : StationData) (kind : Kind) → AreOthers own kind → names_own own kind ≡ false
others-from own (Receive to sub words) h = no-or (is_own own to) false (other own to (h.0 0 to (omega arith))) refl
others-from own (Transmit from sub count) h = no-or (is_own own from) false (other own from (h.0 0 from (omega arith))) refl
others-from own (Relay from from_sub to to_sub count) h =
    no-or (is_own own to) (is_own own from || (from == to)) (other own to (h.0 1 to (omega arith)))
    (no-or (is_own own from) (from == to) (other own from (h.0 0 from (omega arith))) (eqb-apart from to (h.1 0 1 from (omega arith) (omega arith))))
others-from own (Mode to mode_sub transmit code word) h = no-or (is_own own to) false (other own to (h.0 0 to (omega arith))) refl

others-to : (own : StationData) (kind : Kind) → names_own own kind ≡ false → AreOthers own kind
others-to own (Receive to sub words) h = (one (IsOther own) to (not_own own to (or_left _ _ h)), pairs_one to)
others-to own (Transmit from sub count) h = (one (IsOther own) from (not_own own from (or_left _ _ h)), pairs_one from)
others-to own (Relay from from_sub to to_sub count) h =
    let sources : (is_own own from || (from == to)) ≡ false = or_right (is_own own to) _ h in (
      two (IsOther own) from to (not_own own from (or_left _ (from == to) sources)) (not_own own to (or_left _ _ h)),
      pairs_two from to (λ same. false≢true (sym (or_right (is_own own from) (from == to) sources) ∙ eq-eqb from to same)),
    )
others-to own (Mode to mode_sub transmit code word) h = (one (IsOther own) to (not_own own to (or_left _ _ h)), pairs_one to)

pub own-exact : (p : PlanData) → (in_stations SelfAddressed p.stations 1 p.stations ≡ None) ↔ NamesOthers p
own-exact p = by_message SelfAddressed AreOthers p (λ own i rest h. others-from own i.kind h) (λ own i rest h. others-to own i.kind h)

-- ---- forms, and answers that may be given up

is-form : {T : Type 0} (o : Option T) → IsSome o → is_none o ≡ false
is-form (Some x) h = refl
is-form None h = absurd (false≢true h)

pub form-exact : (p : PlanData) → (in_stations BadForm p.stations 1 p.stations ≡ None) ↔ HasForms p
form-exact p =
    by_message BadForm (λ s kind. IsSome (form_of kind)) p (λ own i rest h. is-form (form_of i.kind) h) (λ own i rest h. some_form (form_of i.kind) h)

cut_from : (from sub count : ℕ) (next : Kind) → Supersedes from next → may_cut_short (Transmit from sub count) next ≡ true
cut_from from sub count (Receive to s words) h = eq-eqb to from h
cut_from from sub count (Transmit from' s n) h = eq-eqb from' from h
cut_from from sub count (Relay f fs to ts n) h = absurd h
cut_from from sub count (Mode to ms transmit code word) h = eq-eqb to from h

superseded_from : (kind : Kind) (next : ItemData) (later : List ItemData) → IsSuperseded kind (next ∷ later) → may_cut_short kind next.kind ≡ true
superseded_from (Transmit from sub count) next later h = cut_from from sub count next.kind h
superseded_from (Receive to sub words) next later h = absurd h
superseded_from (Relay f fs to ts n) next later h = absurd h
superseded_from (Mode to ms transmit code word) next later h = absurd h

last_not_superseded : (kind : Kind) → IsSuperseded kind [] → ⊥
last_not_superseded (Transmit from sub count) h = h
last_not_superseded (Receive to sub words) h = h
last_not_superseded (Relay f fs to ts n) h = h
last_not_superseded (Mode to ms transmit code word) h = h

follows_from : (i : ItemData) (rest : List ItemData) → IsSuperseded i.kind rest → may_abandon i rest ≡ true
follows_from i [] h = absurd (last_not_superseded i.kind h)
follows_from i (next ∷ later) h = superseded_from i.kind next later h

abandon_kept : (i : ItemData) (rest : List ItemData) → (IsSome i.abandon → IsSuperseded i.kind rest)
    → (is_some i.abandon && not (may_abandon i rest)) ≡ false
abandon_kept i rest h =
    elim (cases_Bool (is_some i.abandon)) [
      | inl some ↦ rw some (not-true (may_abandon i rest) (follows_from i rest (h some)))
      | inr none ↦ rw none refl
    ]

keeps_superseding : (all : List StationData) (own : StationData) (items : List ItemData) → HasSuperseding items → Keeps BadAbandon all own items
keeps_superseding all own [] h = tt
keeps_superseding all own (i ∷ rest) h = (abandon_kept i rest h.0, keeps_superseding all own rest h.1)

pub abandon-exact : (p : PlanData) → (in_stations BadAbandon p.stations 1 p.stations ≡ None) ↔ IsSuperseding p
abandon-exact p = (
  λ h k s below m f within. superseding p.stations (get_or p.stations k s) _ (keeps_stations BadAbandon p.stations 1 p.stations h k s below m f within),
  λ h. none_in_stations BadAbandon p.stations 1 p.stations
      (λ k s below m f within. keeps_superseding p.stations (get_or p.stations k s) _ (h k s below m f within)),
)

-- the four together are what an accepted plan's frames keep
pub frames-exact : (p : PlanData) → (All (λ s. All (IsFrameSendable p s.terminal.address) s.frames) p.stations)
    ↔ (NamesStations p × NamesOthers p × HasForms p × IsSuperseding p)
frames-exact p = (
  λ h. (
    λ k s below m f within i d there. ((h k s below m f within).items i d there).known,
    λ k s below m f within i d there. let one = (h k s below m f within).items i d there in (one.others, one.apart),
    λ k s below m f within i d there. ((h k s below m f within).items i d there).form,
    λ k s below m f within. (h k s below m f within).superseding,
  ),
  λ h k s below m f within. record {
    items = λ i d there. record {
      form = h.2 k s below m f within i d there;
      known = h.0 k s below m f within i d there;
      others = (h.1 k s below m f within i d there).0;
      apart = (h.1 k s below m f within i d there).1;
    };
    superseding = h.3 k s below m f within;
  },
)
