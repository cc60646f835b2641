-- Every plan that is read is accepted.
use Rattle.std.proofs.Common.{◌≡◌, ◌≤◌, ℕ, Bool, true, false, cond, ◌==◌, List, ◌∷◌, get_or, Option, Some, None, Result, Ok, Err, IfOk, Contains, IsNone, All, arith, refl, ap, subst, eq-eqb, codes, pos, negsuc}
use Rattle.std.specs.Prelude.{option_map, is_some}
use Rattle.std.proofs.lemmas.Bool.{false≢true}
use Rattle.std.proofs.lemmas.Bool.Decides.{nat_tests}
use Rattle.toml.specs.Data.{Data, integer, string, float, boolean, datetime, array, table, Members, get_member}
use Rattle.bus_formats.specs.Accepted.{IsController, IsAccepted, addresses}
use Rattle.bus_formats.specs.Plans.{PlanData}
use Rattle.bus_plan.specs.Decode.{number_at}
use Rattle.bus_plan.specs.DecodeFaults.{plan_of}
use Rattle.bus_plan.specs.DecodeItems.{address_of, station_of}
use Rattle.bus_plan.specs.Document.{document_of, number_within, number_in, number_or, lies_in}
use Rattle.bus_plan.specs.FaultRules.{undetectable, same_fault}
use Rattle.bus_plan.specs.ItemRules.{same_address, start_missing, in_stations, has_address}
use Rattle.bus_plan.specs.Limits.{too_many}
use Rattle.bus_plan.specs.Place.{or_place}
use Rattle.bus_plan.specs.PlanOf.{first_of, head_of, document_refusal, item_refusal, fault_refusal, unless, judged_plan, judged, plan_of_bytes}
use Rattle.bus_plan.specs.Ranges.{address_range, terminal_range, controller_range}
use Rattle.bus_plan.specs.declared.item_rules.ItemRule.TheVariants as rules
use Rattle.bus_plan.specs.declared.refusal.PlanRefusal.{PlanRefusal}
use Rattle.bus_plan.specs.declared.rows.Head.{Head}
use Rattle.bus_plan.proofs.RangeLaws.{all_at, at}
use Rattle.bus_plan.proofs.StationLaws.{stations_ranged, faults_ranged}
use Rattle.bus_plan.proofs.ItemLaws.{or_none_left, or_none_right, contains_address, keeps_stations, frame_sendable, addresses_apart}
use Rattle.bus_plan.proofs.FaultLaws.{faults_apart, limits_kept}

-- a list of findings that finds nothing
pub first_none : {T : Type 0} (make : T → PlanRefusal) (x : Option T) (more : List (Option PlanRefusal)) → first_of (option_map make x ∷ more) ≡ None
    → (x ≡ None) × (first_of more ≡ None)
first_none make None more h = (refl, h)
first_none make (Some x) more h = absurd (cc)

start_there : (p : PlanData) (b : Bool) → has_address p.start p.stations ≡ b → cond b None (Some (codes "start")) ≡ None
    → Contains (addresses p) p.start
start_there p true e h = contains_address p.start p.stations e
start_there p false e h = absurd (cc)

-- the address 31 starts only where the start is 31
starts_last : (n : ℕ) (b c : Bool) → lies_in controller_range n ≡ b → lies_in address_range n ≡ c → is_some (cond b (Some n) None) ≡ true
    → number_or 0 (cond c (Some n) None) ≡ 31
starts_last n true true e f h = grind (arith, nat_tests)
starts_last n true false e f h = grind (arith, nat_tests)
starts_last n false c e f h = absurd (false≢true h)

last_start : (d : Option Data) → is_some (number_within controller_range d) ≡ true → number_in address_range 0 d ≡ 31
last_start None h = absurd (false≢true h)
last_start (Some (integer (pos n))) h = starts_last n (lies_in controller_range n) (lies_in address_range n) refl refl h
last_start (Some (integer (negsuc n))) h = absurd (false≢true h)
last_start (Some (string s)) h = absurd (false≢true h)
last_start (Some (float x)) h = absurd (false≢true h)
last_start (Some (boolean x)) h = absurd (false≢true h)
last_start (Some (datetime x)) h = absurd (false≢true h)
last_start (Some (array x)) h = absurd (false≢true h)
last_start (Some (table x)) h = absurd (false≢true h)

controller_starts : (l : Bool) (a b start : ℕ) → b ≤ 30 → (l ≡ true → start ≡ 31) → cond l a b ≡ 31 → start ≡ 31
controller_starts true a b start t h e = h refl
controller_starts false a b start t h e = absurd (omega (arith, t, e))

no_subsystem : {T : Type 0} (a : ℕ) (o : Option T) → a ≡ 31 → IsNone (cond (a == 31) None o)
no_subsystem a o e = rw (eq-eqb a 31 e) refl

controller : (p : PlanData) (head : Head) (ms : Members) → (head.last_starts ≡ true → p.start ≡ 31) → (station_of head ms).terminal.address ≡ 31
    → IsController p (station_of head ms).terminal
controller p head ms h e =
    let t = at terminal_range 0 (codes "address") ms (omega arith) (omega arith) in
    record {
      starts = controller_starts head.last_starts (number_at address_range 0 (codes "address") ms) (number_at terminal_range 0 (codes "address") ms)
          p.start t.1 h e;
      no_subsystem = no_subsystem (address_of head ms) _ e;
    }

module _ (doc : Members) where
  abbrev pub plan : PlanData
  plan = plan_of (head_of doc) doc

  -- only where the address 31 starts is it read as that of a station, which then has no subsystem
  pub controllers_hold : All (λ s. s.terminal.address ≡ 31 → IsController plan s.terminal) plan.stations
  controllers_hold =
      all_at (λ s. s.terminal.address ≡ 31 → IsController plan s.terminal) (station_of (head_of doc))
      (λ ms. controller plan (head_of doc) ms (last_start (get_member (codes "start") doc))) (codes "station") doc

  -- a document's plan in which no rule on stations, items, faults and amounts is broken
  pub accepted_plan : item_refusal plan ≡ None → fault_refusal (head_of doc) doc plan ≡ None → IsAccepted plan
  accepted_plan i f =
      let same = first_none _ (same_address plan.stations 0 plan.stations) _ i in
      let where_to = first_none _ (or_place (start_missing plan) (in_stations rules.NoSuchStation plan.stations 1 plan.stations)) _ same.1 in
      let own = first_none _ (in_stations rules.SelfAddressed plan.stations 1 plan.stations) _ where_to.1 in
      let form = first_none _ (in_stations rules.BadForm plan.stations 1 plan.stations) _ own.1 in
      let abandon = first_none _ (in_stations rules.BadAbandon plan.stations 1 plan.stations) _ form.1 in
      let there = or_none_left (start_missing plan) _ where_to.0 in
      let to = keeps_stations rules.NoSuchStation plan.stations 1 plan.stations (or_none_right (start_missing plan) _ where_to.0) in
      let others = keeps_stations rules.SelfAddressed plan.stations 1 plan.stations own.0 in
      let forms = keeps_stations rules.BadForm plan.stations 1 plan.stations form.0 in
      let abandons = keeps_stations rules.BadAbandon plan.stations 1 plan.stations abandon.0 in
      let detectable = first_none _ (undetectable doc) _ f in
      let faults = first_none _ (same_fault plan.faults 0 plan.faults) _ detectable.1 in
      let amounts = first_none _ (too_many (head_of doc) plan) _ faults.1 in
      record {
        ranges = stations_ranged (head_of doc) doc;
        hits = faults_ranged (head_of doc) doc;
        start = start_there plan (has_address plan.start plan.stations) refl there;
        apart = addresses_apart plan.stations same.0;
        controllers = controllers_hold;
        frames = λ k s below m frame below_frames. frame_sendable plan (get_or plan.stations k s) (get_or (get_or plan.stations k s).frames m frame)
            (to k s below m frame below_frames) (others k s below m frame below_frames) (forms k s below m frame below_frames)
            (abandons k s below m frame below_frames);
        faults = faults_apart plan.faults faults.0;
        limits = limits_kept (head_of doc) plan amounts.0;
      }

pub unless_ok : (r : Option PlanRefusal) (answer : Result PlanData PlanRefusal) (p : PlanData) → unless r answer ≡ Ok p → (r ≡ None) × (answer ≡ Ok p)
unless_ok None answer p h = (refl, h)
unless_ok (Some refusal) answer p h = absurd (cc)

plan_in : PlanData → Result PlanData PlanRefusal → PlanData
plan_in other (Ok p) = p
plan_in other (Err refusal) = other

accepted_document : (doc : Option Members) (p : PlanData) → judged doc ≡ Ok p → IsAccepted p
unfolding plan_in
accepted_document None p h = absurd (cc)
accepted_document (Some doc) p h =
    let keys = unless_ok (document_refusal (head_of doc) doc) (judged_plan (head_of doc) doc (plan doc)) p h in
    let items = unless_ok (item_refusal (plan doc)) _ p keys.1 in
    let faults = unless_ok (fault_refusal (head_of doc) doc (plan doc)) (Ok (plan doc)) p items.1 in
    subst IsAccepted (ap (plan_in p) faults.1) (accepted_plan doc items.0 faults.0)

-- every plan that bytes describe is accepted
accepted_bytes : (bytes : List ℕ) (p : PlanData) → plan_of_bytes bytes ≡ Ok p → IsAccepted p
unfolding plan_of_bytes
accepted_bytes bytes p h = accepted_document (document_of bytes) p h

-- the plan that is read, where one is
pub accepted_result : {E : Type 0} (bytes : List ℕ) (r : Result PlanData E) → IfOk r (λ p. plan_of_bytes bytes ≡ Ok p) → IfOk r IsAccepted
accepted_result bytes (Ok p) h = accepted_bytes bytes p h
accepted_result bytes (Err e) h = tt
