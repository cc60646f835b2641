-- The plan of a text, or the refusal with its place: the least numbered rule that is broken, at the first place of the walk.
use Rattle.std.specs.Prelude.{◌≡◌, ℕ, is_some, List, [], ◌∷◌, codes, option_map, Option, Some, None, Result, Ok, Err}
use Rattle.toml.specs.Data.{Members, get_member}
use Rattle.bus_formats.specs.Plans.{PlanData}
use Rattle.bus_plan.specs.DecodeFaults.{plan_of}
use Rattle.bus_plan.specs.Document.{document_of, number_within}
use Rattle.bus_plan.specs.FaultRules.{undetectable, same_fault}
use Rattle.bus_plan.specs.ItemRules.{same_address, start_missing, in_stations}
use Rattle.bus_plan.specs.Limits.{too_many}
use Rattle.bus_plan.specs.Place.{or_place}
use Rattle.bus_plan.specs.Ranges.{second_version, controller_range}
use Rattle.bus_plan.specs.Walk.{in_root}
use Rattle.bus_plan.specs.declared.item_rules.ItemRule.TheVariants as item_rules
use Rattle.bus_plan.specs.declared.refusal.PlanError.{PlanError}
use Rattle.bus_plan.specs.declared.refusal.PlanError.TheVariants.{Refused, Memory}
use Rattle.bus_plan.specs.declared.refusal.PlanRefusal.{PlanRefusal}
use Rattle.bus_plan.specs.declared.refusal.PlanRefusal.TheVariants.{NotToml, UnknownKey, Missing, WrongKind, OutOfRange, SameAddress, NoSuchStation, SelfAddressed, BadForm, BadAbandon, Undetectable, SameFault, TooMany}
use Rattle.bus_plan.specs.declared.rows.Head.{Head}
use Rattle.bus_plan.specs.declared.rules.Rule.{Rule}
use Rattle.bus_plan.specs.declared.rules.Rule.TheVariants as rules

-- the first that there is
abbrev pub first_of : List (Option PlanRefusal) → Option PlanRefusal
first_of [] = None
first_of (Some refusal ∷ more) = Some refusal
first_of (None ∷ more) = first_of more

-- the head of a document: whether its version is 2, and whether the address 31 starts
abbrev pub head_of : Members → Head
head_of doc = record {
  is_second = is_some (number_within second_version (get_member (codes "version") doc));
  last_starts = is_some (number_within controller_range (get_member (codes "start") doc));
}

-- the first place of a document that breaks a rule on keys, kinds and ranges
unfoldable pub in_document : Rule → Head → Members → Option (List ℕ)
in_document rule head doc = in_root rule head [] doc

-- the first rule on keys, kinds and ranges that is broken, with its first place
abbrev pub document_refusal : Head → Members → Option PlanRefusal
document_refusal head doc = first_of (
    option_map UnknownKey (in_document rules.UnknownKey head doc)
    ∷ option_map Missing (in_document rules.Missing head doc)
    ∷ option_map WrongKind (in_document rules.WrongKind head doc)
    ∷ option_map OutOfRange (in_document rules.OutOfRange head doc)
    ∷ [])

-- the first rule on stations and items that is broken, with its first place
abbrev pub item_refusal : PlanData → Option PlanRefusal
item_refusal p = first_of (
    option_map SameAddress (same_address p.stations 0 p.stations)
    ∷ option_map NoSuchStation (or_place (start_missing p) (in_stations item_rules.NoSuchStation p.stations 1 p.stations))
    ∷ option_map SelfAddressed (in_stations item_rules.SelfAddressed p.stations 1 p.stations)
    ∷ option_map BadForm (in_stations item_rules.BadForm p.stations 1 p.stations)
    ∷ option_map BadAbandon (in_stations item_rules.BadAbandon p.stations 1 p.stations)
    ∷ [])

-- the first rule on faults and on amounts that is broken, with its first place
abbrev pub fault_refusal : Head → Members → PlanData → Option PlanRefusal
fault_refusal head doc p = first_of (
    option_map Undetectable (undetectable doc)
    ∷ option_map SameFault (same_fault p.faults 0 p.faults)
    ∷ option_map TooMany (too_many head p)
    ∷ [])

-- an answer, unless it is refused
abbrev pub unless : {T : Type 0} → Option PlanRefusal → Result T PlanRefusal → Result T PlanRefusal
unless (Some refusal) answer = Err refusal
unless None answer = answer

-- the plan of a document, or the refusal
abbrev pub judged_plan : Head → Members → PlanData → Result PlanData PlanRefusal
judged_plan head doc p = unless (item_refusal p) (unless (fault_refusal head doc p) (Ok p))

abbrev pub judged_with : Head → Members → Result PlanData PlanRefusal
judged_with head doc = unless (document_refusal head doc) (judged_plan head doc (plan_of head doc))

abbrev pub judged_document : Members → Result PlanData PlanRefusal
judged_document doc = judged_with (head_of doc) doc

abbrev pub judged : Option Members → Result PlanData PlanRefusal
judged None = Err NotToml
judged (Some doc) = judged_document doc

-- the plan that the bytes describe, or the refusal
unfoldable pub plan_of_bytes : List ℕ → Result PlanData PlanRefusal
plan_of_bytes bytes = judged (document_of bytes)

-- the error is the refusal that is due, or want of memory
abbrev pub IsRefusalOf : Result PlanData PlanRefusal → PlanError → Type 0
IsRefusalOf due (Refused refusal) = due ≡ Err refusal
IsRefusalOf due (Memory error) = Unit {0}
