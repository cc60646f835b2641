-- A channel is ignored from the terminal's own transmission on, with one tick more.
use Rattle.std.proofs.Common.{◌≡◌, ℕ, suc, min, ◌+◌, ◌-◌, ◌<◌, ◌≤◌, Bool, true, false, nat_le, List, ◌∷◌, length, Option, Some, None, refl, sym, ap, ◌∙◌, arith, if◌then◌else◌}
use Rattle.std.specs.Prelude.{is_some, is_none}
use Rattle.std.proofs.lemmas.Bool.{leb-true}
use Rattle.std.proofs.lemmas.Bool.Decides.{nat_tests}
use Rattle.bus_base.specs.declared.samples.Sample.{Sample}
use Rattle.bus_base.specs.declared.samples.Sample.TheVariants.{Plus, Minus, Quiet}
use Rattle.bus_line.specs.Past.{quiet, end_since, end_or_now}
use Rattle.bus_line.proofs.EndLaws.{end_since-early, end_since-now, end_since-stays}
use Rattle.bus_model.specs.Standing.{ignored_from}
use Rattle.bus_ears.specs.Ears.{IsSending, Ignores, sent_by}
use Rattle.bus_ears.specs.Steps.{sending_from, still_sending}

-- the ear's own count says whether the channel is ignored
pub ignores-is : (k : ℕ) (sending : Option ℕ) (heard : List Sample) (sent : Option ℕ) → Ignores k sending heard sent → is_some sending ≡ ignored_from k heard sent
ignores-is k None heard sent h = sym h
ignores-is k (Some quiet) heard None h = absurd h
ignores-is k (Some quiet) heard (Some first) h = rw h.runs refl

pub sending-begins : (k : ℕ) (heard : List Sample) → IsSending k 0 heard (length heard)
sending-begins k heard = record {
  begun = omega arith;
  runs = end_since-early k heard (length heard) (omega arith);
  count = omega arith;
  few = omega arith;
}

not-over : (k counted tick : ℕ) → counted ≤ k → end_or_now k counted tick None ≡ None
not-over k counted tick few = grind (arith, nat_tests, few)

over-now : (k counted tick : ℕ) → suc k ≤ counted → is_none (end_or_now k counted tick None) ≡ false
over-now k counted tick many = grind (arith, nat_tests, many)

sending-pulse : (k q : ℕ) (x : Sample) (heard : List Sample) (first : ℕ) → quiet (x ∷ heard) ≡ 0 → IsSending k q heard first → IsSending k 0 (x ∷ heard) first
sending-pulse k q x heard first none h = record {
  begun = omega (arith, h.begun);
  runs = end_since-now k x heard first h.begun
      ∙ (rw (h.runs, none) (not-over k (min 0 (suc (length heard) - first)) (length heard) (omega arith)));
  count = rw none (omega arith);
  few = omega arith;
}

sending-quiet : (k q : ℕ) (heard : List Sample) (first : ℕ) → q < k → IsSending k q heard first → IsSending k (q + 1) (Quiet ∷ heard) first
sending-quiet k q heard first few h = record {
  begun = omega (arith, h.begun);
  runs = end_since-now k Quiet heard first h.begun
      ∙ (rw h.runs (not-over k (min (suc (quiet heard)) (suc (length heard) - first)) (length heard) (omega (arith, few, h.count, h.begun))));
  count = omega (arith, h.count, h.begun);
  few = omega (arith, few);
}

sending-over : (k q : ℕ) (heard : List Sample) (first : ℕ) → k ≤ q → IsSending k q heard first → ignored_from k (Quiet ∷ heard) (Some first) ≡ false
sending-over k q heard first all h =
    ap is_none (end_since-now k Quiet heard first h.begun)
    ∙ (rw h.runs (over-now k (min (suc (quiet heard)) (suc (length heard) - first)) (length heard) (omega (arith, all, h.count, h.begun))))

by-test : {A : Type 0} (P : A → Type 0) (b : Bool) (x y : A) → (b ≡ true → P x) → (b ≡ false → P y) → P (if b then x else y)
by-test P true x y f g = f refl
by-test P false x y f g = g refl

sending-more : (k q : ℕ) (x : Sample) (heard : List Sample) (first : ℕ) → IsSending k q heard first → Ignores k (still_sending k (Some q) x) (x ∷ heard) (Some first)
sending-more k q Plus heard first h = sending-pulse k q Plus heard first refl h
sending-more k q Minus heard first h = sending-pulse k q Minus heard first refl h
sending-more k q Quiet heard first h =
    by-test (λ o. Ignores k o (Quiet ∷ heard) (Some first)) (nat_le k q) None (Some (q + 1))
    (λ all. sending-over k q heard first (leb-true k q all) h)
    (λ few. sending-quiet k q heard first (grind (arith, nat_tests, few)) h)

heeded-found : (k : ℕ) (x : Sample) (heard : List Sample) (first : ℕ) (o : Option ℕ) → end_since k heard first ≡ o → is_none o ≡ false →
    is_none (end_since k (x ∷ heard) first) ≡ false
heeded-found k x heard first None e h = (let now : true ≡ false = h in cc)
heeded-found k x heard first (Some end) e h = ap is_none (end_since-stays k x heard first end e)

heeded-stays : (k : ℕ) (x : Sample) (heard : List Sample) (sent : Option ℕ) → ignored_from k heard sent ≡ false → ignored_from k (x ∷ heard) sent ≡ false
heeded-stays k x heard None h = refl
heeded-stays k x heard (Some first) h = heeded-found k x heard first (end_since k heard first) refl h

pub ignores-more : (k : ℕ) (sending : Option ℕ) (begins : Bool) (x : Sample) (heard : List Sample) (sent : Option ℕ) → Ignores k sending heard sent →
    Ignores k (still_sending k (sending_from begins sending) x) (x ∷ heard) (sent_by (length heard) begins sent)
ignores-more k sending true x heard sent h = sending-more k 0 x heard (length heard) (sending-begins k heard)
ignores-more k None false x heard sent h = heeded-stays k x heard sent h
ignores-more k (Some q) false x heard None h = absurd h
ignores-more k (Some q) false x heard (Some first) h = sending-more k q x heard first h
