-- The answers of a message as they are shown, of stations of an accepted plan.
use Rattle.std.proofs.Common.{◌≡◌, ◌⊎◌, inl, inr, ℕ, false, List, [], ◌∷◌, length, Option, Some, None, refl, sym, ap, subst, All}
use Rattle.std.proofs.lemmas.List.Elements.{All-filter}
use Rattle.std.proofs.lemmas.Option.{none-some}
use Rattle.std.specs.List.{AllByRecursion as Each}
use Rattle.bus_base.specs.declared.samples.Channel.{Channel}
use Rattle.bus_base.specs.declared.samples.Pair.{Pair}
use Rattle.bus_base.specs.declared.samples.Part.TheVariants.{Command, First, Second}
use Rattle.bus_words.specs.declared.word.Word.{Word}
use Rattle.bus_formats.specs.Accepted.{HasKindRanges, HasTerminalRanges, HasStationRanges, IsAccepted}
use Rattle.bus_formats.specs.Plans.{ItemData, StationData, PlanData}
use Rattle.bus_formats.specs.declared.fault.Fault.{Fault}
use Rattle.bus_formats.specs.declared.fault.Hit.{Hit}
use Rattle.bus_model.specs.Attempts.{is_offer}
use Rattle.bus_model.specs.Control.{OutsideTake}
use Rattle.bus_model.specs.Memory.{TimedLoad}
use Rattle.bus_model.specs.Message.{Present, answer_to}
use Rattle.bus_model.specs.Strikes.{hits_on, struck, Answer, ShownAnswer, shown_with, shown_answer}
use Rattle.bus_model.specs.World.{is_present}
use Rattle.bus_model.specs.WorldLog.{present_stations, present_after}
use Rattle.bus_law_duties.specs.Ranges.{HasTimedLoadRanges}
use Rattle.bus_law_plans.specs.Memories.{HasWordRanges}
use Rattle.bus_law_table.specs.Stations.{loaded_at, ArePresent}
use Rattle.bus_law_table.proofs.Pairing.{beside, each-other}
use Rattle.bus_law_table.proofs.Pairing.{Each as Every}
use Rattle.bus_law_phases.proofs.Pairs.{each-of}
use Rattle.bus_law_moments.specs.Begun.{IsRanged}
use Rattle.bus_law_told.specs.Tables.{IsShownTo, HasNoWordLeft, command_shown, ordered, first_shown, settled, second_shown}
use Rattle.bus_law_told.proofs.TablesDue.{first-due, second-due, shown-to}

-- ---- stations of a plan

-- what is planned of a station's terminal
abbrev IsPlanned : Present → Type 0
IsPlanned station = HasTerminalRanges station.plan.terminal

each-ranged : (stations : List Present) → Every IsPlanned stations → Each HasWordRanges stations → Each IsRanged stations
each-ranged [] planned words = tt
each-ranged (s ∷ stations) planned words = ((planned.0, words.0), each-ranged stations planned.1 words.1)

-- the stations of the table beside those of an accepted plan keep its ranges
pub stations-ranged : (k : ℕ) (plan : PlanData) (loads : List TimedLoad) (outside : List OutsideTake) (absent : List ℕ) (past : List Pair)
    (stations : List Present) → IsAccepted plan → ArePresent k plan loads outside absent past stations → Each HasWordRanges stations → Each IsRanged stations
stations-ranged k plan loads outside absent past stations accepted are words =
    let own : List StationData = present_stations k plan loads outside absent in
    let Beneath : StationData → Present → Type 0 = λ st s. IsPlanned s in
    each-ranged stations
    (each-other Beneath IsPlanned own stations
    (beside HasStationRanges Beneath (present_after k plan loads outside absent past) (loaded_at loads (length past)) own stations
    (each-of HasStationRanges own (All-filter (is_present absent) HasStationRanges plan.stations accepted.ranges)) are
    (λ st s ranges same. subst (λ (p : StationData). HasTerminalRanges p.terminal) (ap (λ (p : Present). p.plan) same) ranges.terminal))
    (λ st s planned. planned)) words

-- ---- as they are shown

module _ (k : ℕ) (loads : List TimedLoad) (faults : List Fault) (attempt : ℕ) (item : ItemData) (channel : Channel) (start : ℕ) (stations : List Present)
    (ranges : HasKindRanges item.kind) (each : Each IsRanged stations) where
  -- the first answer
  pub first-shown-to : All HasTimedLoadRanges loads → (first : ShownAnswer) →
      first_shown k loads faults attempt item channel start stations ≡ Some first →
      IsShownTo (command_shown k loads faults attempt item channel start stations) (is_offer item.kind) first
  first-shown-to fit first is =
      shown-to (command_shown k loads faults attempt item channel start stations) (is_offer item.kind) (hits_on faults attempt First)
      (answer_to (command_shown k loads faults attempt item channel start stations) (ordered k loads faults attempt item channel start stations)) first is
      (first-due k loads channel start (hits_on faults attempt Command) item ranges fit stations each)

  -- the second one
  pub second-shown-to : (first second : ShownAnswer) → second_shown k loads faults attempt item channel start stations first ≡ Some second →
      IsShownTo first.burst false second
  second-shown-to first second is =
      shown-to first.burst false (hits_on faults attempt Second)
      (answer_to first.burst (settled k loads faults attempt item channel start stations first)) second is
      (second-due k loads channel start (hits_on faults attempt Command) item ranges first.burst stations each)

-- ---- nothing is shown

mute-by : (hits : List Hit) (a : Answer) (slots : List (Option Word)) → struck hits a.words ≡ slots → shown_with hits a slots ≡ None → struck hits a.words ≡ []
mute-by hits a [] same is = same
mute-by hits a (slot ∷ slots) same is = absurd (none-some _ (sym is))

-- nobody answers, or the answer is struck so that no word of it is shown
pub silent-or-mute : (hits : List Hit) (answer : Option Answer) → shown_answer hits answer ≡ None → (answer ≡ None) ⊎ HasNoWordLeft hits answer
silent-or-mute hits None is = inl refl
silent-or-mute hits (Some a) is = inr (a, refl, mute-by hits a (struck hits a.words) refl is)
