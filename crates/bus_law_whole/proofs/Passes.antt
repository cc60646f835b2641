-- A run in which control passes.
use Rattle.std.proofs.Common.{◌≡◌, inl, inr, ℕ, Bool, true, false, List, [], ◌∷◌, Option, Some, None, refl, sym, ap, ◌∙◌}
use Rattle.std.proofs.lemmas.Bool.{cases_Bool}
use Rattle.std.specs.Prelude.{◌==◌, find, if◌then◌else◌}
use Rattle.bus_formats.specs.declared.log.Attempt.{Attempt}
use Rattle.bus_model.specs.Endings.{Passing}
use Rattle.bus_model.specs.Message.{Present, address_of_station}
use Rattle.bus_model.specs.Run.{Run, is_at, with_station, left_at, pass_control}
use Rattle.bus_law_plans.proofs.Stations.{find-here, find-later}
use Rattle.bus_law_phases.specs.Scenarios.{Scenario}
use Rattle.bus_law_run.specs.RunShows.{RunShows}

-- ---- who serves doesn't change what is left

abbrev serving : Present → Present
serving station = record station { serves = true }

-- the station with an address, where one of two that is found there has the same items left
found-left : (address : ℕ) (x y : Present) (xs ys : List Present) → address_of_station y ≡ address_of_station x → y.left ≡ x.left →
    left_at (find (is_at address) ys) ≡ left_at (find (is_at address) xs) →
    left_at (find (is_at address) (y ∷ ys)) ≡ left_at (find (is_at address) (x ∷ xs))
found-left address x y xs ys named left rest = elim (cases_Bool (is_at address x)) [
  | inl here ↦
      ap left_at (find-here address y ys (ap (λ n. n == address) named ∙ here)) ∙ left ∙ sym (ap left_at (find-here address x xs here))
  | inr away ↦
      ap left_at (find-later address y ys (ap (λ n. n == address) named ∙ away)) ∙ rest ∙ sym (ap left_at (find-later address x xs away))
]

either-named : (b : Bool) (x : Present) → address_of_station (if b then serving x else x) ≡ address_of_station x
either-named true x = refl
either-named false x = refl

either-left : (b : Bool) (x : Present) → (if b then serving x else x).left ≡ x.left
either-left true x = refl
either-left false x = refl

pub left-same : (address from : ℕ) (stations : List Present) →
    left_at (find (is_at address) (with_station from serving stations)) ≡ left_at (find (is_at address) stations)
left-same address from [] = refl
left-same address from (x ∷ stations) =
    found-left address x (if is_at from x then serving x else x) stations (with_station from serving stations) (either-named (is_at from x) x)
    (either-left (is_at from x) x) (left-same address from stations)

-- ---- what is found is the same

pub passed-shows : (w : Scenario) (t : ℕ) (run : Run) (pending : List Attempt) (passes : Option Passing) → RunShows w t run pending →
    RunShows w t (pass_control passes run) pending
passed-shows w t run pending None shows = shows
passed-shows w t run pending (Some passing) shows = record {
  ended = shows.ended;
  ended_since = shows.ended_since;
  attempts_are = shows.attempts_are;
  bursts_are = shows.bursts_are;
  taken = shows.taken;
  taken_since = shows.taken_since;
  blocks_are = shows.blocks_are;
  counted = shows.counted;
  orderly = shows.orderly;
}
