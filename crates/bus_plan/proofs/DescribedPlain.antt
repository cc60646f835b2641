-- Values of the document that describes a plan are nested little, have no date, and their tables' keys ascend.
use Rattle.std.proofs.Common.{◌≡◌, ◌≤◌, max, ℕ, suc, Bool, true, ◌&&◌, List, [], ◌∷◌, Option, Some, None, IfSome, arith, refl, codes}
use Rattle.std.proofs.lemmas.Bool.{and_from, and_parts}
use Rattle.toml.specs.Data.{Data, string, boolean, array, table, Members, no_members, member, is_before, depth, items_depth, members_depth, has_valid_dates, items_have_valid_dates, members_have_valid_dates, is_sorted, items_are_sorted, members_are_sorted}
use Rattle.bus_base.specs.declared.samples.Channel.{Channel}
use Rattle.bus_base.specs.declared.samples.Channel.TheVariants.{A, B}
use Rattle.bus_base.specs.declared.samples.Part.{Part}
use Rattle.bus_base.specs.declared.samples.Part.TheVariants.{Command, First, Second}
use Rattle.bus_formats.specs.declared.plan.SubsystemKind.{SubsystemKind}
use Rattle.bus_formats.specs.declared.plan.SubsystemKind.TheVariants.{Recorder, Tally}
use Rattle.bus_formats.specs.declared.plan.Turn.{Turn}
use Rattle.bus_formats.specs.declared.plan.Turn.TheVariants.{Same, Other}
use Rattle.bus_plan.specs.Described.{number, numbers, items_of, tables_of_all, optional, number_if, channel_text, channel_if, turn_text, part_text, subsystem_if}
use Rattle.bus_plan.specs.Tables.{EachMember}

-- a value is nested no deeper than so much, has no date, and its tables' keys ascend
pub record IsPlain (most : ℕ) (d : Data) : Type 0 where
  pub deep : depth d ≤ most
  pub dates : has_valid_dates d ≡ true
  pub sorted : is_sorted d ≡ true

pub record ArePlain (most : ℕ) (ms : Members) : Type 0 where
  pub deep : members_depth ms ≤ most
  pub dates : members_have_valid_dates ms ≡ true
  pub sorted : members_are_sorted ms ≡ true

abbrev pub ascends : Members → Bool
ascends no_members = true
ascends (member k d ms) = is_before k ms && ascends ms

pub most-of : (a b most : ℕ) → a ≤ most → b ≤ most → max a b ≤ most
most-of a b most h k = grind (arith, h, k)

pub plain-members : (most : ℕ) (ms : Members) → EachMember (λ k d. IsPlain most d) ms → ascends ms ≡ true → ArePlain most ms
plain-members most no_members h a = record { deep = omega arith; dates = refl; sorted = refl }
plain-members most (member k d ms) h a =
    let parts = and_parts (is_before k ms) (ascends ms) a in
    let rest = plain-members most ms h.1 parts.1 in
    record {
      deep = most-of (depth d) (members_depth ms) most h.0.deep rest.deep;
      dates = and_from (has_valid_dates d) (members_have_valid_dates ms) h.0.dates rest.dates;
      sorted = and_from (is_before k ms && is_sorted d) (members_are_sorted ms) (and_from (is_before k ms) (is_sorted d) parts.0 h.0.sorted) rest.sorted;
    }

pub plain-table : (most : ℕ) (ms : Members) → ArePlain most ms → IsPlain (suc most) (table ms)
plain-table most ms h = record { deep = let d = h.deep in omega (arith, d); dates = h.dates; sorted = h.sorted }

pub plain-list : {X : Type 0} (most : ℕ) (f : X → Data) → ((x : X) → IsPlain most (f x)) → (xs : List X) → IsPlain (suc most) (array (items_of f xs))
plain-list most f h [] = record { deep = omega arith; dates = refl; sorted = refl }
plain-list most f h (x ∷ xs) =
    let first = h x in
    let rest = plain-list most f h xs in
    let deep : max (depth (f x)) (items_depth (items_of f xs)) ≤ most =
    most-of (depth (f x)) (items_depth (items_of f xs)) most first.deep (let d = rest.deep in omega (arith, d)) in
    record {
      deep = omega (arith, deep);
      dates = and_from (has_valid_dates (f x)) (items_have_valid_dates (items_of f xs)) first.dates rest.dates;
      sorted = and_from (is_sorted (f x)) (items_are_sorted (items_of f xs)) first.sorted rest.sorted;
    }

pub plain-tables : {X : Type 0} (most : ℕ) (f : X → Members) → ((x : X) → ArePlain most (f x)) → (xs : List X) → IsPlain (suc (suc most)) (tables_of_all f xs)
plain-tables most f h xs = plain-list (suc most) (λ x. table (f x)) (λ x. plain-table most (f x) (h x)) xs

-- ---- values

pub plain-number : (most n : ℕ) → IsPlain most (number n)
plain-number most n = record { deep = omega arith; dates = refl; sorted = refl }

pub plain-flag : (most : ℕ) (b : Bool) → IsPlain most (boolean b)
plain-flag most b = record { deep = omega arith; dates = refl; sorted = refl }

pub plain-text : (most : ℕ) (s : List ℕ) → IsPlain most (string s)
plain-text most s = record { deep = omega arith; dates = refl; sorted = refl }

pub plain-numbers : (most : ℕ) (xs : List ℕ) → IsPlain (suc most) (numbers xs)
plain-numbers most xs = plain-list most number (plain-number most) xs

pub plain-turn : (most : ℕ) (t : Turn) → IsPlain most (turn_text t)
plain-turn most Same = plain-text most (codes "same")
plain-turn most Other = plain-text most (codes "other")

pub plain-channel : (most : ℕ) (c : Channel) → IsPlain most (channel_text c)
plain-channel most A = plain-text most (codes "A")
plain-channel most B = plain-text most (codes "B")

pub plain-part : (most : ℕ) (p : Part) → IsPlain most (part_text p)
plain-part most Command = plain-text most (codes "command")
plain-part most First = plain-text most (codes "first")
plain-part most Second = plain-text most (codes "second")

pub plain-number-if : (most : ℕ) (o : Option ℕ) → IfSome (number_if o) (IsPlain most)
plain-number-if most None = tt
plain-number-if most (Some n) = plain-number most n

pub plain-channel-if : (most : ℕ) (o : Option Channel) → IfSome (channel_if o) (IsPlain most)
plain-channel-if most None = tt
plain-channel-if most (Some c) = plain-channel most c

pub plain-subsystem-if : (most : ℕ) (o : Option SubsystemKind) → IfSome (subsystem_if o) (IsPlain most)
plain-subsystem-if most None = tt
plain-subsystem-if most (Some Recorder) = plain-text most (codes "recorder")
plain-subsystem-if most (Some Tally) = plain-text most (codes "tally")

pub each-optional : (most : ℕ) (k : List ℕ) (o : Option Data) (ms : Members) → IfSome o (IsPlain most) → EachMember (λ k d. IsPlain most d) ms
    → EachMember (λ k d. IsPlain most d) (optional k o ms)
each-optional most k None ms o h = h
each-optional most k (Some d) ms o h = (o, h)
