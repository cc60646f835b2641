-- The log that is found in the world is that of its run by the message table.
use Rattle.std.proofs.Common.{◌≡◌, ℕ, zero, suc, ◌+◌, ◌<◌, ◌≤◌, Bool, true, false, List, [], ◌∷◌, length, map, sym, ap, ◌∙◌, arith}
use Rattle.std.proofs.lemmas.Bool.Decides.{nat_tests}
use Rattle.std.proofs.lemmas.List.{append-nil}
use Rattle.std.specs.Prelude.{◌||◌, nat_lt, if◌then◌else◌, reverse, flat_map}
use Rattle.bus_base.specs.declared.samples.Channel.{Channel}
use Rattle.bus_base.specs.declared.samples.Channel.TheVariants.{A, B}
use Rattle.bus_base.specs.declared.samples.Drive.{Drive}
use Rattle.bus_formats.specs.Logs.{LogData}
use Rattle.bus_formats.specs.declared.fault.Fault.{Fault}
use Rattle.bus_model.specs.Log.{terminals, terminal_end, blocks_of, log_of}
use Rattle.bus_model.specs.Run.{Run, run_end}
use Rattle.bus_model.specs.Wire.{drivers}
use Rattle.bus_model.specs.World.{Trace, is_clash, clashes}
use Rattle.bus_model.specs.WorldLog.{log_found}
use Rattle.bus_law_listing.proofs.Found.{listed-bursts}
use Rattle.bus_law_listing.proofs.Words.{listed-words}
use Rattle.bus_law_phases.specs.Scenarios.{Scenario, trace_at, shown_at, driven_at, attempts_in, drivers_at, IsWhole}
use Rattle.bus_law_run.specs.RunShows.{RunRests}
use Rattle.bus_law_run.proofs.LoadedStations.{loaded-ends, loaded-blocks}
use Rattle.bus_law_phases.proofs.Staying.{drives_now, driven-next, long-later, stays-later}
use Rattle.bus_law_run.proofs.Shows.{whole-attempts, whole-orderly}

-- ---- no clash

few-false : (n : ℕ) → n ≤ 1 → nat_lt 1 n ≡ false
few-false n few = grind (arith, nat_tests, few)

no-clash : (faults : List Fault) (driven : List (List Drive)) → ((c : Channel) → drivers faults c driven ≤ 1) → is_clash faults driven ≡ false
no-clash faults driven few =
    ap (λ b. b || nat_lt 1 (drivers faults B driven)) (few-false (drivers faults A driven) (few A)) ∙ few-false (drivers faults B driven) (few B)

one-more : (b : Bool) (n : ℕ) → b ≡ false → n ≡ 0 → (if b then 1 else 0) + n ≡ 0
one-more true n off none = absurd (cc)
one-more false n off none = omega (arith, none)

pub no-clashes : (w : Scenario) (t : ℕ) → IsWhole w → ((i : ℕ) → i < t → (c : Channel) → drivers_at w i c ≤ 1) →
    clashes w.plan.faults (driven_at w t) ≡ 0
unfolding clashes
no-clashes w zero whole alone = ap (λ (tr : Trace). clashes w.plan.faults tr.driven) whole.first
no-clashes w (suc t) whole alone =
    let grows : driven_at w (suc t) ≡ drives_now w t ∷ driven_at w t = driven-next w t (stays-later w 0 t (omega arith) whole.stays) in
    ap (clashes w.plan.faults) grows
    ∙ ap (λ ds. (if is_clash w.plan.faults ds then 1 else 0) + clashes w.plan.faults (driven_at w t)) (sym grows)
    ∙ one-more (is_clash w.plan.faults (driven_at w (suc t))) (clashes w.plan.faults (driven_at w t))
    (no-clash w.plan.faults (driven_at w (suc t)) (λ c. alone t (omega arith) c))
    (no-clashes w t whole (λ i before c. alone i (omega (arith, before)) c))

-- ---- the log

same-log : (a b : LogData) → a.attempts ≡ b.attempts → a.words ≡ b.words → a.bursts ≡ b.bursts → a.terminals ≡ b.terminals → a.blocks ≡ b.blocks →
    a.end ≡ b.end → a.clashes ≡ b.clashes → a ≡ b
same-log a b one two three four five six seven =
    ap (λ x. record a { attempts = x }) one
    ∙ ap (λ x. record a { attempts = b.attempts; words = x }) two
    ∙ ap (λ x. record a { attempts = b.attempts; words = b.words; bursts = x }) three
    ∙ ap (λ x. record b { terminals = x; blocks = a.blocks; end = a.end; clashes = a.clashes }) four
    ∙ ap (λ x. record b { blocks = x; end = a.end; clashes = a.clashes }) five
    ∙ ap (λ x. record b { end = x; clashes = a.clashes }) six
    ∙ ap (λ x. record b { clashes = x }) seven

module _ (w : Scenario) (whole : IsWhole w) (run : Run) (small : w.lag ≤ 39) (rests : RunRests w (run_end run) run) where
  abbrev end : ℕ
  end = run_end run

  pub log-found : log_found w.lag w.plan w.loads w.outside w.absent (trace_at w (run_end run)) ≡ log_of run
  log-found =
      let found = rests.shows.bursts_are in
      let tick : ℕ = length (shown_at w end) in
      same-log (log_found w.lag w.plan w.loads w.outside w.absent (trace_at w end)) (log_of run)
      (sym (append-nil (attempts_in w (shown_at w end))) ∙ whole-attempts w whole end run [] rests.shows) (listed-words w.lag (shown_at w end) (reverse run.bursts) found small rests.rested.rests)
      (listed-bursts w.lag (shown_at w end) (reverse run.bursts) found) (ap (λ xs. map terminal_end (terminals xs)) rests.rested.are ∙ loaded-ends w.loads tick run.stations)
      (ap (λ xs. flat_map blocks_of (terminals xs)) rests.rested.are ∙ loaded-blocks w.loads tick run.stations)
      (ap (λ n. record { 0 = n }) (long-later w 0 end (omega arith) whole.stays))
      (no-clashes w end whole (λ i before c. (whole-orderly w whole end run [] rests.shows i before).alone c))
