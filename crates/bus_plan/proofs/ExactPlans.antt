-- A text is read exactly where its plan is accepted and it breaks none of the rules that look at the document.
use Rattle.std.proofs.Common.{◌≡◌, ◌↔◌, ℕ, List, ◌∷◌, Option, Some, None, Result, Ok, Err, refl, sym, ap, subst}
use Rattle.std.specs.Prelude.{option_map}
use Rattle.toml.specs.Data.{Members}
use Rattle.bus_formats.specs.Accepted.{IsAccepted}
use Rattle.bus_formats.specs.Plans.{PlanData}
use Rattle.bus_plan.specs.Document.{document_of}
use Rattle.bus_plan.specs.FaultRules.{undetectable, same_fault}
use Rattle.bus_plan.specs.ItemRules.{same_address, start_missing, in_stations}
use Rattle.bus_plan.specs.Limits.{too_many}
use Rattle.bus_plan.specs.Place.{or_place}
use Rattle.bus_plan.specs.PlanOf.{first_of, head_of, in_document, document_refusal, item_refusal, fault_refusal, unless, judged_plan, judged_document, judged, plan_of_bytes}
use Rattle.bus_plan.specs.PlanRules.{HasDetectableFlips, HasFewFrames, IsReadAs, AreReadAs}
use Rattle.bus_plan.specs.declared.item_rules.ItemRule.TheVariants as rules
use Rattle.bus_plan.specs.declared.refusal.PlanRefusal.{PlanRefusal}
use Rattle.bus_plan.specs.Tables.{KeepsRule}
use Rattle.bus_plan.specs.declared.rows.Head.{Head}
use Rattle.bus_plan.specs.declared.rules.Rule.{Rule}
use Rattle.bus_plan.specs.declared.rules.Rule.TheVariants.{UnknownKey, Missing, WrongKind, OutOfRange}
use Rattle.bus_plan.proofs.AcceptedLaws.{plan, first_none, accepted_plan, unless_ok}
use Rattle.bus_plan.proofs.ExactItems.{no_place, station-exact, own-exact, form-exact, abandon-exact, frames-exact}
use Rattle.bus_plan.proofs.ExactStations.{apart-exact, start-exact}
use Rattle.bus_plan.proofs.ExactTables.{rule-exact}
use Rattle.bus_plan.proofs.ExactFaults.{flips-exact, faults-exact, limits-exact}

-- findings that find nothing, one after the other
none_first : {T : Type 0} (make : T → PlanRefusal) (x : Option T) (more : List (Option PlanRefusal)) → x ≡ None → first_of more ≡ None
    → first_of (option_map make x ∷ more) ≡ None
none_first make None more x h = h
none_first make (Some y) more x h = absurd (cc)

ok_unless : (r : Option PlanRefusal) (answer : Result PlanData PlanRefusal) (p : PlanData) → r ≡ None → answer ≡ Ok p → unless r answer ≡ Ok p
ok_unless None answer p r h = h
ok_unless (Some refusal) answer p r h = absurd (cc)

-- an accepted plan breaks no rule on stations and items
no_item_refusal : (p : PlanData) → IsAccepted p → item_refusal p ≡ None
no_item_refusal p h =
    let frames = (frames-exact p).0 h.frames in
    none_first _ (same_address p.stations 0 p.stations) _ ((apart-exact p).1 h.apart)
    (none_first _ (or_place (start_missing p) (in_stations rules.NoSuchStation p.stations 1 p.stations)) _
    (no_place (start_missing p) _ ((start-exact p).1 h.start) ((station-exact p).1 frames.0))
    (none_first _ (in_stations rules.SelfAddressed p.stations 1 p.stations) _ ((own-exact p).1 frames.1)
    (none_first _ (in_stations rules.BadForm p.stations 1 p.stations) _ ((form-exact p).1 frames.2)
    (none_first _ (in_stations rules.BadAbandon p.stations 1 p.stations) _ ((abandon-exact p).1 frames.3) refl))))

-- nor one on faults and amounts, where the document's flips can be detected and its frames are few enough for its version
no_fault_refusal : (head : Head) (doc : Members) (p : PlanData) → IsAccepted p → HasDetectableFlips doc → HasFewFrames head p
    → fault_refusal head doc p ≡ None
no_fault_refusal head doc p h flips few =
    none_first _ (undetectable doc) _ ((flips-exact doc).1 flips)
    (none_first _ (same_fault p.faults 0 p.faults) _ ((faults-exact p.faults).1 h.faults)
    (none_first _ (too_many head p) _ ((limits-exact head p).1 (h.limits, few)) refl))

by_rule : (P : Rule → Type 0) → P UnknownKey → P Missing → P WrongKind → P OutOfRange → (rule : Rule) → P rule
by_rule P u m w o UnknownKey = u
by_rule P u m w o Missing = m
by_rule P u m w o WrongKind = w
by_rule P u m w o OutOfRange = o

-- the rules on keys, kinds and ranges, one after the other
no_document_refusal : (head : Head) (doc : Members) → ((rule : Rule) → KeepsRule rule head doc) → document_refusal head doc ≡ None
no_document_refusal head doc h =
    none_first _ (in_document UnknownKey head doc) _ ((rule-exact UnknownKey head doc).1 (h UnknownKey))
    (none_first _ (in_document Missing head doc) _ ((rule-exact Missing head doc).1 (h Missing))
    (none_first _ (in_document WrongKind head doc) _ ((rule-exact WrongKind head doc).1 (h WrongKind))
    (none_first _ (in_document OutOfRange head doc) _ ((rule-exact OutOfRange head doc).1 (h OutOfRange)) refl)))

-- each of the findings finds nothing where the first of them is none
findings : (head : Head) (doc : Members) → document_refusal head doc ≡ None → (rule : Rule) → in_document rule head doc ≡ None
findings head doc h =
    let unknown = first_none _ (in_document UnknownKey head doc) _ h in
    let absent = first_none _ (in_document Missing head doc) _ unknown.1 in
    let kinds = first_none _ (in_document WrongKind head doc) _ absent.1 in
    let ranges = first_none _ (in_document OutOfRange head doc) _ kinds.1 in
    by_rule (λ rule. in_document rule head doc ≡ None) unknown.0 absent.0 kinds.0 ranges.0

read_from : (doc : Members) (p : PlanData) → IsReadAs doc p → judged_document doc ≡ Ok p
read_from doc p h =
    let same : plan doc ≡ p = sym h.described in
    let accepted : IsAccepted (plan doc) = subst IsAccepted h.described h.accepted in
    let few : HasFewFrames (head_of doc) (plan doc) = subst (HasFewFrames (head_of doc)) h.described h.frames in
    ok_unless (document_refusal (head_of doc) doc) _ p (no_document_refusal (head_of doc) doc h.keys)
    (ok_unless (item_refusal (plan doc)) _ p (no_item_refusal (plan doc) accepted)
    (ok_unless (fault_refusal (head_of doc) doc (plan doc)) _ p (no_fault_refusal (head_of doc) doc (plan doc) accepted h.flips few) (ap (λ q. Ok q) same)))

plan_in : PlanData → Result PlanData PlanRefusal → PlanData
plan_in other (Ok p) = p
plan_in other (Err refusal) = other

read_to : (doc : Members) (p : PlanData) → judged_document doc ≡ Ok p → IsReadAs doc p
unfolding plan_in
read_to doc p h =
    let keys = unless_ok (document_refusal (head_of doc) doc) (judged_plan (head_of doc) doc (plan doc)) p h in
    let items = unless_ok (item_refusal (plan doc)) _ p keys.1 in
    let faults = unless_ok (fault_refusal (head_of doc) doc (plan doc)) (Ok (plan doc)) p items.1 in
    let same : plan doc ≡ p = ap (plan_in p) faults.1 in
    let flips = first_none _ (undetectable doc) _ faults.0 in
    let equal = first_none _ (same_fault (plan doc).faults 0 (plan doc).faults) _ flips.1 in
    let amounts = first_none _ (too_many (head_of doc) (plan doc)) _ equal.1 in
    record {
      keys = λ rule. (rule-exact rule (head_of doc) doc).0 (findings (head_of doc) doc keys.0 rule);
      described = sym same;
      flips = (flips-exact doc).0 flips.0;
      accepted = subst IsAccepted same (accepted_plan doc items.0 faults.0);
      frames = subst (HasFewFrames (head_of doc)) same ((limits-exact (head_of doc) (plan doc)).0 amounts.0).1;
    }

of_same : (doc other : Members) (p : PlanData) → Some doc ≡ Some other → IsReadAs other p → judged_document doc ≡ Ok p
of_same doc other p same h =
    let e : other ≡ doc = cc in
    read_from doc p (subst (λ d. IsReadAs d p) e h)

of_document : (doc : Option Members) (p : PlanData) → (judged doc ≡ Ok p) ↔ ((d : Members) × (doc ≡ Some d) × IsReadAs d p)
of_document None p = (λ h. absurd (cc), λ h. let no = h.1 in absurd (cc))
of_document (Some doc) p = (λ h. (doc, refl, read_to doc p h), λ h. of_same doc h.0 p h.1 h.2)

pub read-exact : (bytes : List ℕ) (p : PlanData) → (plan_of_bytes bytes ≡ Ok p) ↔ AreReadAs bytes p
unfolding plan_of_bytes
read-exact bytes p = of_document (document_of bytes) p
