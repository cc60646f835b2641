-- A part that a station sends is the burst that ends on its channel.
use Rattle.std.proofs.Common.{◌≡◌, ℕ, suc, ◌+◌, ◌<◌, ◌≤◌, false, List, [], ◌∷◌, ◌++◌, length, Some, None, refl, sym, ap, ◌∙◌, arith}
use Rattle.bus_base.specs.declared.samples.Channel.{Channel}
use Rattle.bus_base.specs.declared.samples.Drive.{Drive}
use Rattle.bus_line.specs.Past.{quiet_ticks, runs, ended_now, end_since}
use Rattle.bus_formats.specs.declared.fault.Fault.{Fault}
use Rattle.bus_formats.specs.declared.fault.Hit.{Hit}
use Rattle.bus_model.specs.Strikes.{ShownAnswer, burst_ticks, faded_before, first_ticks, struck}
use Rattle.bus_law_line.specs.Shown.{first_samples, shown_on}
use Rattle.bus_law_line.specs.Senders.{Sender}
use Rattle.bus_law_parts.specs.Parts.{SentPart, IsStopped, part_ticks, part_sample}
use Rattle.bus_law_parts.proofs.PartBursts.{endless-part, ended-part, end-part, rests-part}
use Rattle.bus_law_parts.proofs.BrokenOff.{endless-broken, ended-broken, end-broken, rests-broken}
use Rattle.bus_law_parts.proofs.SentParts.{part-shown}

length-shown : (faults : List Fault) (c : Channel) (driven : List (List Drive)) → length (shown_on faults c driven) ≡ length driven
length-shown faults c [] = refl
length-shown faults c (now ∷ before) = ap suc (length-shown faults c before)

module _ (k : ℕ) (faults : List Fault) (s : Sender) (hits : List Hit) (before sent : List (List Drive)) (three : k ≡ 3)
    (none : runs k (shown_on faults s.channel before) ≡ false) (h : SentPart faults s hits before sent) where
  pub endless-sent : 0 < part_ticks hits s.words → length sent ≤ part_ticks hits s.words + k →
      end_since k (shown_on faults s.channel (sent ++ before)) (length before) ≡ None
  endless-sent some within =
      ap (λ xs. end_since k xs (length before)) (part-shown faults s hits before sent h)
      ∙ ap (end_since k (first_samples (part_sample hits s.words) (length sent) ++ shown_on faults s.channel before)) (sym (length-shown faults s.channel before))
      ∙ endless-part k s.part hits s.words three h.fits some (length sent) (shown_on faults s.channel before) within none

  shown-all : length sent ≡ part_ticks hits s.words + suc k →
      shown_on faults s.channel (sent ++ before) ≡ first_samples (part_sample hits s.words) (part_ticks hits s.words + suc k) ++ shown_on faults s.channel before
  shown-all all =
      part-shown faults s hits before sent h
      ∙ ap (λ n. first_samples (part_sample hits s.words) n ++ shown_on faults s.channel before) all

  pub ended-sent : 0 < part_ticks hits s.words → length sent ≡ part_ticks hits s.words + suc k →
      ended_now k (shown_on faults s.channel (sent ++ before))
      ≡ Some record { first = length before; ticks = part_ticks hits s.words; slots = struck hits s.words }
  ended-sent some all =
      ap (ended_now k) (shown-all all)
      ∙ ended-part k s.part hits s.words three h.fits (shown_on faults s.channel before) some none
      ∙ ap (λ p. Some (record { first = p; ticks = part_ticks hits s.words; slots = struck hits s.words })) (length-shown faults s.channel before)

  pub end-sent : 0 < part_ticks hits s.words → length sent ≡ part_ticks hits s.words + suc k →
      end_since k (shown_on faults s.channel (sent ++ before)) (length before) ≡ Some (length before + part_ticks hits s.words)
  end-sent some all =
      ap (λ xs. end_since k xs (length before)) (shown-all all)
      ∙ ap (end_since k (first_samples (part_sample hits s.words) (part_ticks hits s.words + suc k) ++ shown_on faults s.channel before))
      (sym (length-shown faults s.channel before))
      ∙ end-part k s.part hits s.words three h.fits (suc k) (shown_on faults s.channel before) some none (omega arith)
      ∙ ap (λ p. Some (p + part_ticks hits s.words)) (length-shown faults s.channel before)

  -- also where nothing was shown of it
  pub rests-sent : length sent ≡ part_ticks hits s.words + suc k → runs k (shown_on faults s.channel (sent ++ before)) ≡ false
  rests-sent all =
      ap (runs k) (shown-all all)
      ∙ rests-part k s.part hits s.words three h.fits (suc k) (shown_on faults s.channel before) (omega arith)

-- ---- one that stops

module _ (k : ℕ) (faults : List Fault) (s : Sender) (shown : ShownAnswer) (before sent silent : List (List Drive))
    (h : IsStopped k faults s shown before sent silent) where
  stopped-row : shown_on faults s.channel (silent ++ (sent ++ before))
      ≡ quiet_ticks (length silent) ++ (first_samples (part_sample shown.hits shown.sent.words) (length sent) ++ shown_on faults s.channel before)
  stopped-row =
      h.quiet
      ∙ ap (λ xs. quiet_ticks (length silent) ++ xs) (part-shown faults s shown.hits before sent h.sends)
      ∙ ap (λ ws. quiet_ticks (length silent) ++ (first_samples (part_sample shown.hits ws) (length sent) ++ shown_on faults s.channel before)) h.words

  pub endless-stopped : faded_before shown (length sent) + length silent ≤ k →
      end_since k (shown_on faults s.channel (silent ++ (sent ++ before))) (length before) ≡ None
  endless-stopped few =
      ap (λ xs. end_since k xs (length before)) stopped-row
      ∙ ap (end_since k (quiet_ticks (length silent)
      ++ (first_samples (part_sample shown.hits shown.sent.words) (length sent) ++ shown_on faults s.channel before))) (sym (length-shown faults s.channel before))
      ∙ endless-broken s.part shown (length sent) h.stops k (length silent) (shown_on faults s.channel before) h.lag few h.rests

  pub ended-stopped : faded_before shown (length sent) + length silent ≡ suc k →
      ended_now k (shown_on faults s.channel (silent ++ (sent ++ before)))
      ≡ Some record { first = length before; ticks = burst_ticks (first_ticks shown (length sent)); slots = (first_ticks shown (length sent)).slots }
  ended-stopped now =
      ap (ended_now k) stopped-row
      ∙ ended-broken s.part shown (length sent) h.stops k (length silent) (shown_on faults s.channel before) h.lag now h.rests
      ∙ ap (λ p. Some (record { first = p; ticks = burst_ticks (first_ticks shown (length sent)); slots = (first_ticks shown (length sent)).slots }))
      (length-shown faults s.channel before)

  pub end-stopped : suc k ≤ faded_before shown (length sent) + length silent →
      end_since k (shown_on faults s.channel (silent ++ (sent ++ before))) (length before)
      ≡ Some (length before + burst_ticks (first_ticks shown (length sent)))
  end-stopped enough =
      ap (λ xs. end_since k xs (length before)) stopped-row
      ∙ ap (end_since k (quiet_ticks (length silent)
      ++ (first_samples (part_sample shown.hits shown.sent.words) (length sent) ++ shown_on faults s.channel before))) (sym (length-shown faults s.channel before))
      ∙ end-broken s.part shown (length sent) h.stops k (length silent) (shown_on faults s.channel before) h.lag enough h.rests
      ∙ ap (λ p. Some (p + burst_ticks (first_ticks shown (length sent)))) (length-shown faults s.channel before)

  pub rests-stopped : suc k ≤ faded_before shown (length sent) + length silent → runs k (shown_on faults s.channel (silent ++ (sent ++ before))) ≡ false
  rests-stopped enough =
      ap (runs k) stopped-row
      ∙ rests-broken s.part shown (length sent) h.stops k (length silent) (shown_on faults s.channel before) enough
