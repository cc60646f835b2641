-- The world of an undisturbed plan has no breach when its run ends.
use Rattle.std.proofs.Common.{◌≡◌, inl, ℕ, ◌<◌, List, [], ◌∷◌, ◌++◌, map, reverse, refl, ap, sym, subst, ◌∙◌, arith}
use Rattle.std.proofs.lemmas.List.{map-append, reverse-append, reverse-reverse}
use Rattle.bus_base.specs.declared.samples.Pair.{Pair}
use Rattle.bus_line.specs.Past.{end_of}
use Rattle.bus_line.specs.Channels.{WholeBurst, bursts}
use Rattle.bus_line.specs.declared.cutter.TheConstants.{LAG}
use Rattle.bus_formats.specs.Accepted.{IsAccepted}
use Rattle.bus_formats.specs.Plans.{PlanData}
use Rattle.bus_model.specs.World.{world}
use Rattle.bus_model.proofs.RunEnds.{run-ends}
use Rattle.bus_rules.specs.Breaches.{breaches}
use Rattle.bus_law_clean.specs.Undisturbed.{IsUndisturbed}
use Rattle.bus_law_clean.proofs.RunInOrder.{run-in-order}
use Rattle.bus_law_judge.specs.Rows.{IsApart, AreInOrder}
use Rattle.bus_law_judge.proofs.Judged.{judged-clean}
use Rattle.bus_law_listing.specs.Listing.{burst_found, found_in_order}
use Rattle.bus_law_listing.proofs.Found.{end_in, channel_in}
use Rattle.bus_law_listing.proofs.Members.{Each, each-more, each-append}
use Rattle.bus_law_listing.proofs.Ordered.{Before, strictly-before, order-append}
use Rattle.bus_law_phases.specs.Scenarios.{Scenario}
use Rattle.bus_law_run.specs.RunShows.{RunRests}
use Rattle.bus_law_run.specs.WorldIsRun.{plan_scenario, plan_run, plan_end}
use Rattle.bus_law_run.proofs.WholeWorld.{plan-scenario}
use Rattle.bus_law_whole.proofs.EachStands.{at-end}
use Rattle.bus_law_whole.proofs.MessagesTold.{messages-told}

-- ---- bursts that follow one another are in the order of their ends

-- the newest comes last in the order of time
newest-last : (whole : WholeBurst) (older : List WholeBurst) → reverse (whole ∷ older) ≡ reverse older ++ whole ∷ []
newest-last whole older = reverse-append (whole ∷ []) older

-- each of them ended before this tick
abbrev EndedBefore : ℕ → List WholeBurst → Type 0
EndedBefore first row = Each (λ (whole : WholeBurst). end_of whole.burst < first) row

-- so it is where the next burst is apart from them
ended-before : (k : ℕ) (row : List WholeBurst) (first : ℕ) → AreInOrder k row → IsApart k row first → EndedBefore first (reverse row)
ended-before k [] first ordered apart = tt
ended-before k (whole ∷ older) first ordered apart =
    let before : EndedBefore whole.burst.first (reverse older) = ended-before k older whole.burst.first ordered.1 ordered.0.apart in
    subst (EndedBefore first) (sym (newest-last whole older))
    (each-append (λ (w : WholeBurst). end_of w.burst < first) (reverse older) (whole ∷ [])
    (each-more (λ (w : WholeBurst). end_of w.burst < whole.burst.first) (λ (w : WholeBurst). end_of w.burst < first) (reverse older)
    (λ w sooner. omega (arith, sooner, apart)) before) (omega (arith, apart), tt))

-- so they are found in the order in which they follow one another
in-order-found : (k : ℕ) (row : List WholeBurst) → AreInOrder k row → found_in_order (reverse row) ≡ reverse row
in-order-found k [] ordered = refl
in-order-found k (whole ∷ older) ordered =
    let before : EndedBefore whole.burst.first (reverse older) = ended-before k older whole.burst.first ordered.1 ordered.0.apart in
    ap found_in_order (newest-last whole older)
    ∙ order-append end_in channel_in (reverse older) (whole ∷ [])
    (each-more (λ (w : WholeBurst). end_of w.burst < whole.burst.first) (λ (w : WholeBurst). Each (Before end_in channel_in w) (whole ∷ [])) (reverse older)
    (λ w sooner. (strictly-before end_in channel_in w whole (inl (omega (arith, sooner))), tt)) before)
    ∙ ap (λ found. found ++ whole ∷ []) (in-order-found k older ordered.1)
    ∙ sym (newest-last whole older)

-- what is made of each, in the other order
map-reverse : {X Y : Type 0} (f : X → Y) (xs : List X) → map f (reverse xs) ≡ reverse (map f xs)
map-reverse f [] = refl
map-reverse f (x ∷ xs) =
    ap (map f) (reverse-append (x ∷ []) xs) ∙ map-append f (reverse xs) (x ∷ []) ∙ ap (λ ys. ys ++ f x ∷ []) (map-reverse f xs)
    ∙ sym (reverse-append (f x ∷ []) (map f xs))

-- ---- the world

module _ (plan : PlanData) (accepted : IsAccepted plan) (undisturbed : IsUndisturbed plan) where
  abbrev w : Scenario
  w = plan_scenario plan

  abbrev past : List Pair
  past = world LAG plan [] [] [] (plan_end plan)

  abbrev row : List WholeBurst
  row = map burst_found (plan_run plan).bursts

  -- where its run ends the world rests as that run does
  rests : RunRests w (plan_end plan) (plan_run plan)
  rests = at-end w (plan-scenario plan accepted) (messages-told w (plan-scenario plan accepted).bus) refl (run-ends LAG [] plan)

  -- the bursts of the run are in order
  ordered : AreInOrder LAG row
  ordered = run-in-order LAG (omega arith) plan accepted undisturbed []

  -- and are those that are found
  found : bursts LAG past ≡ reverse row
  found = rests.shows.bursts_are ∙ ap found_in_order (map-reverse burst_found (plan_run plan).bursts) ∙ in-order-found LAG row ordered

  -- so there is no breach
  pub world-clean : breaches LAG past ≡ []
  world-clean =
      judged-clean LAG past (omega arith) rests.rested.rests (subst (AreInOrder LAG) (sym (ap reverse found ∙ reverse-reverse row)) ordered)
