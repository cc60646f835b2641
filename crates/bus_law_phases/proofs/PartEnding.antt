-- A part that was sent, its end known: what came to pass in its ticks, and that nothing is left of it.
use Rattle.std.proofs.Common.{◌≡◌, inl, inr, ℕ, suc, ◌+◌, ◌<◌, false, List, [], ◌∷◌, ◌++◌, length, Some, None, refl, sym, ap, ◌∙◌, subst, arith}
use Rattle.bus_base.specs.Samples.{other_of}
use Rattle.bus_base.specs.declared.samples.Channel.{Channel}
use Rattle.bus_base.specs.declared.samples.Channel.TheVariants.{A, B}
use Rattle.bus_base.specs.declared.samples.Drive.{Drive}
use Rattle.bus_base.specs.declared.samples.Pair.{Pair}
use Rattle.bus_line.specs.Past.{Burst, quiet_ticks, runs, ended_now}
use Rattle.bus_line.specs.Channels.{WholeBurst, on_channel, bursts}
use Rattle.bus_line.proofs.ChannelLaws.{length-on, on-append}
use Rattle.bus_formats.specs.declared.fault.Hit.{Hit}
use Rattle.bus_model.specs.World.{Trace}
use Rattle.bus_law_line.specs.Senders.{Sender, IsSpent}
use Rattle.bus_law_line.proofs.Sent.{left-spent}
use Rattle.bus_law_messages.proofs.Listening.{this-or-other}
use Rattle.bus_law_parts.specs.Parts.{part_ticks, HitsFit, IsFresh}
use Rattle.bus_law_parts.proofs.Leavings.{spent-part, fresh-part}
use Rattle.bus_law_parts.proofs.PartBursts.{ended-part, rests-part}
use Rattle.bus_law_stations.proofs.Resting.{rests-quiet}
use Rattle.bus_law_table.proofs.Ticks.{leg-bursts, quiet-ends-not}
use Rattle.bus_law_phases.specs.Scenarios.{Scenario}
use Rattle.bus_law_phases.specs.PartRuns.{burst_shown, RunsAlone, PartRuns}
use Rattle.bus_law_phases.specs.Silences.{IsQuiet}
use Rattle.bus_law_phases.proofs.Lasting.{fresh-later}

-- ---- one tick in which a burst ends on one channel

one-burst : (k : ℕ) (c : Channel) (x : Pair) (past : List Pair) (burst : Burst) → ended_now k (on_channel c (x ∷ past)) ≡ Some burst →
    ended_now k (on_channel (other_of c) (x ∷ past)) ≡ None → bursts k (x ∷ past) ≡ bursts k past ++ (record { channel = c; burst = burst } ∷ [])
unfolding bursts
one-burst k A x past burst own other = rw (own, other) refl
one-burst k B x past burst own other = rw (own, other) refl

-- ---- the ticks of a part, with k + 1 quiet ones after it

module _ (w : Scenario) (before : Trace) (s : Sender) (hits : List Hit) (lag : w.lag ≡ 3)
    (spent : (d : Channel) (station : ℕ) → IsSpent w.plan.faults d before.driven station)
    (rests : (d : Channel) → runs w.lag (on_channel d before.shown) ≡ false)
    (other_fresh : (station : ℕ) → IsFresh w.plan.faults (other_of s.channel) before.driven station)
    (some : 0 < part_ticks hits s.words) (x : Pair) (ticks : List Pair) (now : List Drive) (sent : List (List Drive))
    (so : PartRuns w before s hits (part_ticks hits s.words + suc w.lag) (x ∷ ticks) (now ∷ sent)) where
  abbrev c : Channel
  c = s.channel

  abbrev past : List Pair
  past = before.shown

  abbrev burst : Burst
  burst = burst_shown (length past) hits s.words

  abbrev fits : HitsFit s.part hits s.words
  fits = so.part.fits

  -- its burst ends in the newest tick
  pub part-ended : ended_now w.lag (on_channel c (x ∷ (ticks ++ past))) ≡ Some burst
  part-ended =
      ap (ended_now w.lag) (on-append c (x ∷ ticks) past)
      ∙ ap (λ xs. ended_now w.lag (xs ++ on_channel c past)) so.shown
      ∙ ended-part w.lag s.part hits s.words lag fits (on_channel c past) some (rests c)
      ∙ ap (λ n. Some (burst_shown n hits s.words)) (length-on c past)

  pub all-quiet : on_channel (other_of c) (x ∷ ticks) ≡ quiet_ticks (length (x ∷ ticks))
  all-quiet = so.quiet ∙ ap quiet_ticks (sym so.many)

  pub part-bursts : RunsAlone w.lag c ticks → bursts w.lag (x ∷ (ticks ++ past)) ≡ bursts w.lag past ++ (record { channel = c; burst = burst } ∷ [])
  part-bursts alone =
      one-burst w.lag c x (ticks ++ past) burst part-ended (quiet-ends-not w.lag (other_of c) x ticks past (rests (other_of c)) all-quiet)
      ∙ ap (λ (bs : List WholeBurst). bs ++ (record { channel = c; burst = burst } ∷ []))
      (leg-bursts w.lag c ticks past (rests (other_of c)) alone.leg alone.quiet)

  -- ---- nothing is left of it

  rests-after : (d : Channel) → runs w.lag (on_channel d ((x ∷ ticks) ++ past)) ≡ false
  rests-after d = elim (this-or-other c d) [
    | inl same ↦ ap (λ a. runs w.lag (on_channel a ((x ∷ ticks) ++ past))) same
        ∙ ap (runs w.lag) (on-append c (x ∷ ticks) past)
        ∙ ap (λ xs. runs w.lag (xs ++ on_channel c past)) so.shown
        ∙ rests-part w.lag s.part hits s.words lag fits (suc w.lag) (on_channel c past) (omega arith)
    | inr other ↦ ap (λ a. runs w.lag (on_channel a ((x ∷ ticks) ++ past))) other
        ∙ ap (runs w.lag) (on-append (other_of c) (x ∷ ticks) past)
        ∙ ap (λ xs. runs w.lag (xs ++ on_channel (other_of c) past)) all-quiet
        ∙ rests-quiet w.lag (length (x ∷ ticks)) (on_channel (other_of c) past) (rests (other_of c))
  ]

  long : suc (length sent) ≡ part_ticks hits s.words + suc w.lag
  long = so.long

  spent-after : (d : Channel) (station : ℕ) → IsSpent w.plan.faults d ((now ∷ sent) ++ before.driven) station
  spent-after d station = elim (this-or-other c d) [
    | inl same ↦ subst (λ a. IsSpent w.plan.faults a ((now ∷ sent) ++ before.driven) station) (sym same)
        (spent-part w.plan.faults s hits before.driven sent now so.part (omega (arith, long)) station)
    | inr other ↦ subst (λ a. IsSpent w.plan.faults a ((now ∷ sent) ++ before.driven) station) (sym other)
        (left-spent w.plan.faults (other_of c) before.driven (now ∷ sent) so.beside station)
  ]

  pub fresh-after : (d : Channel) (station : ℕ) → IsFresh w.plan.faults d ((now ∷ sent) ++ before.driven) station
  fresh-after d station = elim (this-or-other c d) [
    | inl same ↦ subst (λ a. IsFresh w.plan.faults a ((now ∷ sent) ++ before.driven) station) (sym same)
        (fresh-part w.plan.faults s hits before.driven sent now so.part (omega (arith, long, lag)) station)
    | inr other ↦ subst (λ a. IsFresh w.plan.faults a ((now ∷ sent) ++ before.driven) station) (sym other)
        (fresh-later w.plan.faults (other_of c) before.driven (now ∷ sent) station so.beside (other_fresh station))
  ]

  pub quiet-after : IsQuiet w record { shown = (x ∷ ticks) ++ past; driven = (now ∷ sent) ++ before.driven }
  quiet-after = record { rests = rests-after; spent = spent-after }
