-- The samples of the slot that a sample ends, as a cutter's bits show them. For every lag up to three ticks.
use Rattle.std.proofs.Common.{◌≡◌, ℕ, ◌+◌, ◌-◌, ◌<◌, ◌≤◌, Bool, false, if◌then◌else◌, List, ◌∷◌, reverse, length, take, drop, get_or, Option, refl, sym, ap, ◌∙◌, arith, inl, inr, take-add}
use Rattle.std.proofs.lemmas.Bool.{cases_Bool, cases_lt}
use Rattle.std.proofs.lemmas.List.{reverse-append, length-reverse, length-take, length-drop, get_or_append_left}
use Rattle.std.proofs.lemmas.List.FromFn.{fill_by_all}
use Rattle.bus_base.specs.Samples.{is_quiet}
use Rattle.bus_base.specs.declared.samples.Sample.{Sample}
use Rattle.bus_base.specs.declared.samples.Sample.TheVariants.{Plus, Minus, Quiet}
use Rattle.bus_words.specs.declared.word.Word.{Word}
use Rattle.bus_line.specs.declared.cutter.Cut.TheVariants as cuts
use Rattle.bus_line.specs.Past.{samples_from}
use Rattle.bus_line.specs.Cutting.{cut_now, newest_samples}
use Rattle.bus_line.specs.Spelling.{is_plus, is_one, first_half}
use Rattle.bus_line.proofs.TickLaws.{quiet-sample}
use Rattle.bus_planes.specs.Bits.{is_heard, heard_bits, plus_bits}
use Rattle.bus_planes.specs.Cutting.{Follows}
use Rattle.bus_planes.specs.Still.{sample_in, samples_in}
use Rattle.bus_planes.specs.declared.cutter.BitCutter.{BitCutter}
use Rattle.bus_planes.proofs.BitLaws.{newest-long}
use Rattle.bus_planes.proofs.Shown.{bit-is}
use Rattle.bus_planes.proofs.CutLaws.{idle-cut, begins-cut, pending-cut, ended-cut, plain-cut, full-cut, crossed-cut}

-- a sample by its two bits
by-bits : (y : Sample) (heard plus : Bool) → heard ≡ is_heard y → plus ≡ is_plus y → y ≡ (if heard then first_half plus else Quiet)
by-bits Plus heard plus h p = rw (h, p) refl
by-bits Minus heard plus h p = rw (h, p) refl
by-bits Quiet heard plus h p = rw h refl

-- the slot of forty ticks that ended d ticks ago is in front of the newest d + 40
front : (d : ℕ) (past : List Sample) (j : ℕ) → d + 40 ≤ length past → j < 40 →
    get_or (newest_samples (d + 40) past) j Quiet ≡ get_or (reverse (take 40 (drop d past))) j Quiet
front d past j within low =
    let long : length (reverse (take 40 (drop d past))) ≡ 40 = length-reverse (take 40 (drop d past)) ∙ omega (arith, length-take 40 (drop d past), length-drop d past, within) in
    ap (λ xs. get_or (reverse xs) j Quiet) (take-add d 40 past) ∙ ap (λ xs. get_or xs j Quiet) (reverse-append (take d past) (take 40 (drop d past)))
    ∙ get_or_append_left (reverse (take 40 (drop d past))) (reverse (take d past)) Quiet j (omega (arith, long, low))

-- the bits of the newest d + 40 samples show it
pub slot-shown : (d q : ℕ) (past : List Sample) (heard plus : ℕ) → q + 40 + d ≡ length past →
    heard ≡ heard_bits (newest_samples (d + 40) past) → plus ≡ plus_bits (newest_samples (d + 40) past) → samples_in heard plus 40 ≡ samples_from past q 40
unfolding samples_in
slot-shown d q past heard plus here h p =
    let ago : length past - (q + 40) ≡ d = omega (arith, here) in
    let within : d + 40 ≤ length past = omega (arith, here) in
    let long : length (reverse (take 40 (drop d past))) ≡ 40 = length-reverse (take 40 (drop d past)) ∙ omega (arith, length-take 40 (drop d past), length-drop d past, within) in
    let all : length (newest_samples (d + 40) past) ≡ d + 40 = newest-long (d + 40) past within in
    sym (ap (λ n. reverse (take 40 (drop n past))) ago
    ∙ fill_by_all (sample_in heard plus) (reverse (take 40 (drop d past))) 40 Quiet long (λ j low.
    let inside : j < length (newest_samples (d + 40) past) = omega (arith, all, low) in
    sym (front d past j within low)
    ∙ by-bits (get_or (newest_samples (d + 40) past) j Quiet) (is_one heard j) (is_one plus j)
    (ap (λ n. is_one n j) h ∙ bit-is is_heard (newest_samples (d + 40) past) j inside)
    (ap (λ n. is_one n j) p ∙ bit-is is_plus (newest_samples (d + 40) past) j inside)))

-- what a slot that ends tells of the cutter before
pub record EndsSlot (k : ℕ) (c : BitCutter) (x : Sample) (i : ℕ) : Type 0 where
  pub running : c.quiet ≤ k
  pub pulse : is_quiet x ≡ false
  pub full : 39 ≤ c.rest + c.quiet
  pub slot : i ≡ c.slots

pub ends-slot : (k : ℕ) (c : BitCutter) (past : List Sample) (x : Sample) (i : ℕ) (word : Option Word) → k ≤ 3 → Follows k c past →
    cut_now k (x ∷ past) ≡ cuts.Slot i word → EndsSlot k c x i
ends-slot k c past x i word small s cut = elim (cases_Bool (is_quiet x)) [
  | inl q ↦ (
      let same : x ≡ Quiet = quiet-sample x q in
      let silent : cut_now k (Quiet ∷ past) ≡ cuts.Slot i word = rw same at cut in
      elim (cases_lt k c.quiet) [
        | inl idle ↦ (let none = idle-cut k c past s idle in absurd (cc))
        | inr low ↦ elim (cases_lt c.quiet k) [
          | inl few ↦ (let none = pending-cut k c past s (omega (arith, few)) in absurd (cc))
          | inr all ↦ (let none = ended-cut k c past s (omega (arith, all, low)) in absurd (cc))
        ]
      ])
  | inr pulse ↦ elim (cases_lt k c.quiet) [
    | inl idle ↦ (let none = begins-cut k c past s x idle pulse in absurd (cc))
    | inr low ↦ (
        let running : c.quiet ≤ k = omega (arith, low) in
        elim (cases_lt (c.rest + c.quiet) 39) [
          | inl plain ↦ (let none = plain-cut k c past s x (c.rest + c.quiet) pulse refl running plain in absurd (cc))
          | inr full ↦ elim (cases_lt 39 (c.rest + c.quiet)) [
            | inl crossed ↦ (
                let is = crossed-cut k c past s x (c.rest + c.quiet) small pulse refl running crossed in
                record { running = running; pulse = pulse; full = omega (arith, full); slot = cc })
            | inr last ↦ (
                let is = full-cut k c past s x (c.rest + c.quiet) pulse refl running (omega (arith, full, last)) in
                record { running = running; pulse = pulse; full = omega (arith, full); slot = cc })
          ]
        ])
  ]
]
