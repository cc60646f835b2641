-- A station that doubts whether its offer was accepted, where nobody took control: the doubt runs out in quiet ticks, and it closes its message.
use Rattle.std.proofs.Common.{◌≡◌, ℕ, suc, ◌+◌, ◌≤◌, Bool, true, false, List, ◌∷◌, ◌++◌, length, None, refl, sym, ap, ◌∙◌, arith}
use Rattle.std.specs.Prelude.{◌==◌, not, ◌&&◌, ◌||◌, is_none}
use Rattle.bus_base.specs.Samples.{quiet_pair, quiet_pairs}
use Rattle.bus_base.specs.declared.samples.Drive.TheVariants.{Silent}
use Rattle.bus_base.specs.declared.samples.Pair.{Pair}
use Rattle.bus_base.specs.declared.samples.Part.TheVariants.{First}
use Rattle.bus_line.specs.Channels.{quiet_both}
use Rattle.bus_formats.specs.Plans.{StationData}
use Rattle.bus_formats.specs.Times.{doubting}
use Rattle.bus_formats.specs.declared.form.Outcome.TheVariants.{BadReply}
use Rattle.bus_model.specs.Attempts.{Begun, Ended, without_words}
use Rattle.bus_model.specs.Control.{so_far, yielded_in, drives_next}
use Rattle.bus_model.specs.Course.{Take, Course, course, close}
use Rattle.bus_model.specs.Memory.{with_loads}
use Rattle.bus_model.specs.Message.{After}
use Rattle.bus_model.specs.Starts.{starts, has_items}
use Rattle.bus_model.specs.Terminal.{took_now}
use Rattle.bus_law_control.specs.Silent.{StaysSilent}
use Rattle.bus_law_control.proofs.Doubting.{doubt-over}
use Rattle.bus_law_control.proofs.Holding.{heard-nothing}
use Rattle.bus_law_control.proofs.SilentHolder.{doubts-silent, kept-then, course-then}
use Rattle.bus_law_moments.specs.Doubts.{IsInDoubt}
use Rattle.bus_law_offers.specs.Still.{IsStill}
use Rattle.bus_law_offers.proofs.Still.{doubts-still}
use Rattle.bus_law_phases.specs.Moments.{IsHolder}
use Rattle.bus_law_phases.specs.Scenarios.{Scenario, course_of, hearing_of, IsPresentAt}
use Rattle.bus_law_phases.specs.Silences.{SomeoneIsBusy}
use Rattle.bus_law_phases.proofs.Silenced.{not-yielded}
use Rattle.bus_law_stations.specs.Turns.{KeepsControl}
use Rattle.bus_law_stations.proofs.StillStation.{always-taken}
use Rattle.bus_law_table.proofs.Takes.{unheard-takes, unheard-alike}

-- how its message ends
abbrev pub doubt_end : Ended
doubt_end = without_words (BadReply First) None None

-- over n quiet ticks, and one more with which the doubt is over
module _ (w : Scenario) (past : List Pair) (holder : StationData) (begun : Begun) (x n : ℕ) (doubt : IsInDoubt w past holder begun x)
    (at : suc (length past + n) ≡ x + doubting) where
  abbrev s : Bool
  s = starts w.plan holder

  abbrev takes : List Take
  takes = (so_far w.lag holder s w.loads w.outside past).takes

  abbrev mid : List Pair
  mid = quiet_pairs n ++ past

  abbrev last : List Pair
  last = quiet_pairs (suc n) ++ past

  since : length past ≤ x + quiet_both past
  since = let quiet = doubt.quiet in omega (arith, quiet)

  stays : StaysSilent w.lag holder s w.loads w.outside past (quiet_pairs n)
  stays = doubts-silent w.lag holder s w.loads w.outside past doubt.holds begun doubt.runs x doubt.doubts since n (omega (arith, at))

  pub doubt-silent : drives_next w.lag holder s w.loads w.outside (quiet_pairs n ++ past) ≡ Silent
  doubt-silent = stays.silent

  -- in doubt nothing changes of it
  pub doubt-still : IsStill w past n holder
  doubt-still = doubts-still w past holder begun x n doubt (omega (arith, at))

  closes-so : course w.lag holder s takes (quiet_pairs (suc n) ++ past) ≡ close (course_of w holder past) begun doubt_end (length past + n)
  closes-so =
      doubt-over w.lag holder s takes past begun x (always-taken w.lag holder s w.loads w.outside past) doubt.runs doubt.doubts since n at

  kept : yielded_in (length (quiet_pairs n ++ past)) (close (course_of w holder past) begun doubt_end (length past + n)).ended ≡ false
  kept = not-yielded (length past + n == length (quiet_pairs n ++ past)) (BadReply First) refl

  keeps : KeepsControl w.lag holder s w.loads w.outside past (quiet_pair ∷ quiet_pairs n)
  keeps =
      kept-then w.lag holder s w.loads w.outside past (quiet_pairs n) doubt.holds stays quiet_pair
      (close (course_of w holder past) begun doubt_end (length past + n)) closes-so kept

  -- then its message is closed
  pub doubt-closes : course_of w holder (quiet_pairs (suc n) ++ past) ≡ close (course_of w holder past) begun doubt_end (length past + n)
  doubt-closes =
      course-then w.lag holder s w.loads w.outside past (quiet_pairs n) doubt.holds stays quiet_pair
      (close (course_of w holder past) begun doubt_end (length past + n)) closes-so kept

  pub doubt-holds : (course_of w holder (quiet_pairs (suc n) ++ past)).holds ≡ true
  doubt-holds = ap (λ (c : Course). c.holds) doubt-closes

  pub doubt-takes : took_now w.lag holder.terminal w.loads (hearing_of w holder (quiet_pairs (suc n) ++ past)) ≡ None
  doubt-takes =
      unheard-takes w.lag holder s w.loads w.outside quiet_pair mid
      (heard-nothing w.lag holder s w.loads w.outside (quiet_pairs (suc n) ++ past) doubt-holds)

  pub doubt-keeps : (after : After) → IsHolder w past holder after → IsHolder w (quiet_pairs (suc n) ++ past) holder after
  doubt-keeps after own =
      let memory = after.station.memory in
      let address : (n : ℕ) → with_loads after.station.plan.terminal.address n w.loads memory ≡ with_loads holder.terminal.address n w.loads memory =
      λ n. ap (λ (st : StationData). with_loads st.terminal.address n w.loads memory) own.plan in
      record {
        plan = own.plan;
        memory = sym (unheard-alike w.lag holder s w.loads w.outside past (quiet_pair ∷ quiet_pairs n)
            (heard-nothing w.lag holder s w.loads w.outside past doubt.holds) keeps memory (sym (address (length past)) ∙ sym own.memory))
            ∙ sym (address (length (quiet_pairs (suc n) ++ past)));
        serves = own.serves;
        duty = own.duty;
      }

  -- it is busy until then
  pub doubt-busy : (place : ℕ) → IsPresentAt w place holder → (m : ℕ) → m ≤ n → SomeoneIsBusy w (quiet_pairs m ++ past)
  doubt-busy place there m few =
      let same = doubt-still.same m few in
      let holds = doubt.holds in
      let runs = doubt.runs in
      record {
        place = place;
        station = holder;
        at = there;
        busy = ap (λ (c : Course). not c.holds || (is_none c.runs && not (has_items c.left))) same ∙ rw (holds, runs) refl;
      }
