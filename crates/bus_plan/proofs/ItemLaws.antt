-- A plan whose stations and items break no rule has stations apart and items that may be sent.
use Rattle.std.proofs.Common.{◌≡◌, ◌≢◌, ◌<◌, ◌+◌, inl, inr, ℕ, zero, suc, Bool, true, false, not, cond, ◌&&◌, ◌||◌, ◌==◌, List, [], ◌∷◌, map, take, length, get_or, Option, Some, None, All, AllPairs, Contains, IsSome, arith, refl, sym, ◌∙◌, eqb-true, eq-eqb}
use Rattle.std.specs.Prelude.{is_some, is_none, ⊤}
use Rattle.std.proofs.lemmas.Bool.{and_cases, cases_Bool, false≢true}
use Rattle.std.proofs.lemmas.List.Elements.{All-nil, All-cons}
use Rattle.std.proofs.lemmas.List.Kept.{AllPairs-cons}
use Rattle.std.proofs.lemmas.List.{get_or-map, length-map}
use Rattle.bus_formats.specs.Accepted.{addresses, IsSendable, Supersedes, IsSuperseded, HasSuperseding, IsFrameSendable}
use Rattle.bus_formats.specs.Forms.{form_of}
use Rattle.bus_formats.specs.Plans.{ItemData, FrameData, StationData, PlanData}
use Rattle.bus_formats.specs.declared.plan.Kind.{Kind}
use Rattle.bus_formats.specs.declared.plan.Kind.TheVariants.{Receive, Transmit, Relay, Mode}
use Rattle.bus_plan.specs.ItemRules.{has_address, same_address, is_absent, is_own, names_absent, names_own, may_cut_short, may_abandon, breaks, in_items, in_frames, in_stations}
use Rattle.bus_plan.specs.Place.{or_place}
use Rattle.bus_plan.specs.declared.item_rules.ItemRule.{ItemRule}
use Rattle.bus_plan.specs.declared.item_rules.ItemRule.TheVariants.{NoSuchStation, SelfAddressed, BadForm, BadAbandon}

pub or_left : (x y : Bool) → (x || y) ≡ false → x ≡ false
or_left false y h = refl
or_left true y h = absurd (false≢true (sym h))

pub or_right : (x y : Bool) → (x || y) ≡ false → y ≡ false
or_right false y h = h
or_right true y h = absurd (false≢true (sym h))

-- no place of either search
pub or_none_left : (x y : Option (List ℕ)) → or_place x y ≡ None → x ≡ None
or_none_left None y h = refl
or_none_left (Some p) y h = absurd (cc)

pub or_none_right : (x y : Option (List ℕ)) → or_place x y ≡ None → y ≡ None
or_none_right None y h = h
or_none_right (Some p) y h = absurd (cc)

pub none_unless : (b : Bool) (p : List ℕ) (rest : Option (List ℕ)) → cond b (Some p) rest ≡ None → (b ≡ false) × (rest ≡ None)
none_unless true p rest h = absurd (cc)
none_unless false p rest h = (refl, h)

-- a station has an address where one of the stations' addresses is it
contains_cons : (x y : ℕ) (ys : List ℕ) → Contains ys x → Contains (y ∷ ys) x
contains_cons x y ys (k, below, same) = (suc k, omega (arith, below), same)

pub contains_address : (a : ℕ) (ss : List StationData) → has_address a ss ≡ true → Contains (map (λ s. s.terminal.address) ss) a
contains_address a [] h = absurd (false≢true h)
contains_address a (s ∷ ss) h =
    elim (cases_Bool (s.terminal.address == a)) [
      | inl holds ↦ (0, omega arith, eqb-true s.terminal.address a holds)
      | inr fails ↦ contains_cons a s.terminal.address (map (λ s. s.terminal.address) ss)
          (contains_address a ss (rw fails at h))
    ]

-- no item of a list, with those that follow it, breaks a rule
abbrev pub Keeps : ItemRule → List StationData → StationData → List ItemData → Type 0
Keeps rule all own [] = ⊤
Keeps rule all own (i ∷ rest) = (breaks rule all own i rest ≡ false) × Keeps rule all own rest

keeps_items : (rule : ItemRule) (all : List StationData) (own : StationData) (path : List ℕ) (n : ℕ) (items : List ItemData)
    → in_items rule all own path n items ≡ None → Keeps rule all own items
keeps_items rule all own path n [] h = tt
keeps_items rule all own path n (i ∷ rest) h =
    let parts = none_unless (breaks rule all own i rest) _ (in_items rule all own path (n + 1) rest) h in
    (parts.0, keeps_items rule all own path (n + 1) rest parts.1)

keeps_frames : (rule : ItemRule) (all : List StationData) (own : StationData) (path : List ℕ) (n : ℕ) (frames : List FrameData)
    → in_frames rule all own path n frames ≡ None → All (λ f. Keeps rule all own f.items) frames
keeps_frames rule all own path n [] h = All-nil (λ f. Keeps rule all own f.items)
keeps_frames rule all own path n (f ∷ fs) h =
    All-cons (λ f. Keeps rule all own f.items) f fs (keeps_items rule all own _ 1 f.items (or_none_left _ (in_frames rule all own path (n + 1) fs) h))
    (keeps_frames rule all own path (n + 1) fs (or_none_right _ (in_frames rule all own path (n + 1) fs) h))

pub keeps_stations : (rule : ItemRule) (all : List StationData) (n : ℕ) (ss : List StationData)
    → in_stations rule all n ss ≡ None → All (λ s. All (λ f. Keeps rule all s f.items) s.frames) ss
keeps_stations rule all n [] h = All-nil (λ s. All (λ f. Keeps rule all s f.items) s.frames)
keeps_stations rule all n (s ∷ ss) h =
    All-cons (λ s. All (λ f. Keeps rule all s f.items) s.frames) s ss (keeps_frames rule all s _ 1 s.frames (or_none_left _ (in_stations rule all (n + 1) ss) h))
    (keeps_stations rule all (n + 1) ss (or_none_right _ (in_stations rule all (n + 1) ss) h))

not_false : (b : Bool) → not b ≡ false → b ≡ true
not_false true h = refl
not_false false h = absurd (false≢true (sym h))

-- an address that isn't absent is one of the plan's; one that isn't its own station's is another
pub known : (plan : PlanData) (a : ℕ) → is_absent plan.stations a ≡ false → a ≢ 31 → Contains (addresses plan) a
known plan a h other =
    elim (and_cases (not (a == 31)) (not (has_address a plan.stations)) h) [
      | inl last ↦ absurd (other (eqb-true a 31 (not_false (a == 31) last)))
      | inr there ↦ contains_address a plan.stations (not_false (has_address a plan.stations) there)
    ]

pub not_own : (own : StationData) (a : ℕ) → is_own own a ≡ false → a ≢ 31 → a ≢ own.terminal.address
not_own own a h other same =
    elim (and_cases (not (a == 31)) (a == own.terminal.address) h) [
      | inl last ↦ other (eqb-true a 31 (not_false (a == 31) last))
      | inr apart ↦ false≢true (sym apart ∙ eq-eqb a own.terminal.address same)
    ]

pub one : (P : ℕ → Type 0) (a : ℕ) → P a → All P (a ∷ [])
one P a p = All-cons P a [] p (All-nil P)

pub two : (P : ℕ → Type 0) (a b : ℕ) → P a → P b → All P (a ∷ b ∷ [])
two P a b p q = All-cons P a (b ∷ []) p (one P b q)

abbrev pub Apart : List ℕ → Type 0
Apart xs = AllPairs {X = ℕ} (λ a b. a ≢ b) xs

pub pairs_nil : Apart []
pairs_nil i j d less within = absurd (omega (arith, within))

pub pairs_one : (a : ℕ) → Apart (a ∷ [])
pairs_one a = AllPairs-cons (λ a b. a ≢ b) a [] (All-nil (λ b. a ≢ b)) pairs_nil

pub pairs_two : (a b : ℕ) → a ≢ b → Apart (a ∷ b ∷ [])
pairs_two a b apart = AllPairs-cons (λ a b. a ≢ b) a (b ∷ []) (one (λ b. a ≢ b) b apart) (pairs_one b)

pub some_form : {T : Type 0} (o : Option T) → is_none o ≡ false → IsSome o
some_form (Some x) h = refl
some_form None h = absurd (false≢true (sym h))

abbrev Known : PlanData → ℕ → Type 0
Known plan a = a ≢ 31 → Contains (addresses plan) a

abbrev Other : StationData → ℕ → Type 0
Other own a = a ≢ 31 → a ≢ own.terminal.address

-- a message that breaks no rule may be sent
sendable : (plan : PlanData) (own : StationData) (kind : Kind) → names_absent plan.stations kind ≡ false → names_own own kind ≡ false
    → is_none (form_of kind) ≡ false → IsSendable plan own.terminal.address kind
sendable plan own (Receive to sub words) k o f = record {
  form = some_form (form_of (Receive to sub words)) f;
  known = one (Known plan) to (known plan to (or_left _ _ k));
  others = one (Other own) to (not_own own to (or_left _ _ o));
  apart = pairs_one to;
}
sendable plan own (Transmit from sub count) k o f = record {
  form = some_form (form_of (Transmit from sub count)) f;
  known = one (Known plan) from (known plan from (or_left _ _ k));
  others = one (Other own) from (not_own own from (or_left _ _ o));
  apart = pairs_one from;
}
sendable plan own (Relay from from_sub to to_sub count) k o f = record {
  form = some_form (form_of (Relay from from_sub to to_sub count)) f;
  known = two (Known plan) from to (known plan from (or_right (is_absent plan.stations to) _ k)) (known plan to (or_left _ _ k));
  others = two (Other own) from to (not_own own from (or_left _ (from == to) (or_right (is_own own to) _ o))) (not_own own to (or_left _ _ o));
  apart = pairs_two from to
      (λ same. false≢true (sym (or_right (is_own own from) (from == to) (or_right (is_own own to) _ o)) ∙ eq-eqb from to same));
}
sendable plan own (Mode to mode_sub transmit code word) k o f = record {
  form = some_form (form_of (Mode to mode_sub transmit code word)) f;
  known = one (Known plan) to (known plan to (or_left _ _ k));
  others = one (Other own) to (not_own own to (or_left _ _ o));
  apart = pairs_one to;
}

-- a message that may be cut short is superseded by the next
cuts : (from sub count : ℕ) (next : Kind) → may_cut_short (Transmit from sub count) next ≡ true → Supersedes from next
cuts from sub count (Receive to s words) h = eqb-true to from h
cuts from sub count (Transmit from' s n) h = eqb-true from' from h
cuts from sub count (Relay f fs to ts n) h = absurd (false≢true h)
cuts from sub count (Mode to ms transmit code word) h = eqb-true to from h

superseded : (kind : Kind) (next : ItemData) (later : List ItemData) → may_cut_short kind next.kind ≡ true → IsSuperseded kind (next ∷ later)
superseded (Transmit from sub count) next later h = cuts from sub count next.kind h
superseded (Receive to sub words) next later h = absurd (false≢true h)
superseded (Relay f fs to ts n) next later h = absurd (false≢true h)
superseded (Mode to ms transmit code word) next later h = absurd (false≢true h)

follows : (i : ItemData) (rest : List ItemData) → may_abandon i rest ≡ true → IsSuperseded i.kind rest
follows i [] h = absurd (false≢true h)
follows i (next ∷ later) h = superseded i.kind next later h

abandons : (i : ItemData) (rest : List ItemData) → (is_some i.abandon && not (may_abandon i rest)) ≡ false → IsSome i.abandon
    → IsSuperseded i.kind rest
abandons i rest h some =
    elim (and_cases (is_some i.abandon) (not (may_abandon i rest)) h) [
      | inl none ↦ absurd (false≢true (sym none ∙ some))
      | inr may ↦ follows i rest (not_false (may_abandon i rest) may)
    ]

pub superseding : (all : List StationData) (own : StationData) (items : List ItemData) → Keeps BadAbandon all own items → HasSuperseding items
superseding all own [] h = tt
superseding all own (i ∷ rest) h = (abandons i rest h.0, superseding all own rest h.1)

items_sendable : (plan : PlanData) (own : StationData) (items : List ItemData) → Keeps NoSuchStation plan.stations own items
    → Keeps SelfAddressed plan.stations own items → Keeps BadForm plan.stations own items
    → All (λ i. IsSendable plan own.terminal.address i.kind) items
items_sendable plan own [] k o f = All-nil (λ i. IsSendable plan own.terminal.address i.kind)
items_sendable plan own (i ∷ rest) k o f =
    All-cons (λ i. IsSendable plan own.terminal.address i.kind) i rest (sendable plan own i.kind k.0 o.0 f.0) (items_sendable plan own rest k.1 o.1 f.1)

-- a frame whose items break no rule may be sent
pub frame_sendable : (plan : PlanData) (own : StationData) (frame : FrameData) → Keeps NoSuchStation plan.stations own frame.items
    → Keeps SelfAddressed plan.stations own frame.items → Keeps BadForm plan.stations own frame.items
    → Keeps BadAbandon plan.stations own frame.items → IsFrameSendable plan own.terminal.address frame
frame_sendable plan own frame k o f a = record {
  items = items_sendable plan own frame.items k o f;
  superseding = superseding plan.stations own frame.items a;
}

-- stations of which none repeats an earlier address
no_address : (a : ℕ) (ss : List StationData) (m i : ℕ) (d : StationData) → has_address a (take m ss) ≡ false → i < m → i < length ss
    → (get_or ss i d).terminal.address ≢ a
no_address a [] m i d h less within same = omega (arith, within)
no_address a (s ∷ ss) zero i d h less within same = omega (arith, less)
no_address a (s ∷ ss) (suc m) zero d h less within same = false≢true (sym (or_left _ _ h) ∙ eq-eqb s.terminal.address a same)
no_address a (s ∷ ss) (suc m) (suc i) d h less within same =
    no_address a ss m i d (or_right (s.terminal.address == a) _ h) (omega (arith, less)) (omega (arith, within)) same

no_earlier : (all : List StationData) (n : ℕ) (ss : List StationData) (j : ℕ) (d : StationData) → same_address all n ss ≡ None → j < length ss
    → has_address (get_or ss j d).terminal.address (take (n + j) all) ≡ false
no_earlier all n [] j d h within = absurd (omega (arith, within))
no_earlier all n (s ∷ ss) zero d h within =
    let e : n + 0 ≡ n = omega arith in
    rw e ((none_unless (has_address s.terminal.address (take n all)) _ (same_address all (n + 1) ss) h).0)
no_earlier all n (s ∷ ss) (suc j) d h within =
    let e : n + suc j ≡ n + 1 + j = omega arith in
    rw e (no_earlier all (n + 1) ss j d ((none_unless (has_address s.terminal.address (take n all)) _ (same_address all (n + 1) ss) h).1) (omega (arith, within)))

pairs_apart : (ss : List StationData) (d : StationData) → same_address ss 0 ss ≡ None → Apart (map (λ s. s.terminal.address) ss)
pairs_apart ss d h i j e less within same =
    let n : length (map (λ s. s.terminal.address) ss) ≡ length ss = length-map ss (λ s. s.terminal.address) in
    let j_in : j < length ss = omega (arith, within, n) in
    let i_in : i < length ss = omega (arith, j_in, less) in
    let zero_j : 0 + j ≡ j = omega arith in
    no_address (get_or ss j d).terminal.address ss j i d (rw zero_j at (no_earlier ss 0 ss j d h j_in)) less i_in
    (sym (get_or-map (λ s. s.terminal.address) ss i d e i_in) ∙ same ∙ get_or-map (λ s. s.terminal.address) ss j d e j_in)

pub addresses_apart : (ss : List StationData) → same_address ss 0 ss ≡ None → Apart (map (λ s. s.terminal.address) ss)
addresses_apart [] h = pairs_nil
addresses_apart (s ∷ ss) h = pairs_apart (s ∷ ss) s h
