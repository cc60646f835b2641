-- Where the frames of a station fit, its whole agenda is on time.
use Rattle.std.proofs.Common.{◌≡◌, ℕ, zero, suc, ◌+◌, ◌-◌, ◌≤◌, Bool, true, List, [], ◌∷◌, ◌++◌, Option, Some, None, refl, sym, ap, ◌∙◌, subst, arith}
use Rattle.std.proofs.lemmas.Bool.Decides.{nat_tests}
use Rattle.std.proofs.lemmas.List.Sums.{sum_by-cons}
use Rattle.std.proofs.lemmas.Option.{none-some}
use Rattle.std.specs.Option.{option_or}
use Rattle.std.specs.Prelude.{sum_by, if◌then◌else◌, nat_lt, nat_le}
use Rattle.std.specs.List.{AllByRecursion as Each}
use Rattle.bus_formats.specs.Accepted.{HasSuperseding}
use Rattle.bus_formats.specs.Plans.{ItemData, FrameData, StationData}
use Rattle.bus_formats.specs.Times.{dead_ticks}
use Rattle.bus_load.specs.Load.{item_cost, gap_beyond, next_gap, next_gap_by, again_of, gap_after, cost_of_items, fits_by, frames_fit, first_fits, first_fits_by, station_fits}
use Rattle.bus_load.proofs.OnTime.{OnTime, gap_and_cost, frame-on-time}
use Rattle.bus_model.specs.Starts.{entries_in, entries_from, repeated, agenda, first_origin}
use Rattle.bus_law_plans.proofs.Agendas.{each-repeated}
use Rattle.bus_law_plans.proofs.Lists.{and-both}

-- the first item of these frames can start as planned, where both channels are free by tick b
abbrev pub CanStartBy : ℕ → ℕ → List ItemData → Type 0 → Type 0
CanStartBy b offset [] later = later
CanStartBy b offset (item ∷ items) later = b + gap_beyond item ≤ first_origin.tick + offset

abbrev pub CanStart : ℕ → ℕ → List FrameData → Type 0
CanStart b offset [] = Unit {0}
CanStart b offset (f ∷ later) = CanStartBy b offset f.items (CanStart b (offset + f.ticks) later)

can-start : (b offset : ℕ) (frames : List FrameData) → ((gap : ℕ) → next_gap frames ≡ Some gap → b + gap ≤ first_origin.tick + offset) → CanStart b offset frames
can-start b offset [] h = tt
can-start b offset (f ∷ later) h = by-items f.items refl (λ next. can-start b (offset + f.ticks) later next)
  where
    by-items : (items : List ItemData) → f.items ≡ items →
        (((gap : ℕ) → next_gap later ≡ Some gap → b + gap ≤ first_origin.tick + (offset + f.ticks)) → CanStart b (offset + f.ticks) later) →
        CanStartBy b offset items (CanStart b (offset + f.ticks) later)
    by-items [] is rest = rest (λ gap next. omega (arith, h gap (ap (λ l. next_gap_by l (next_gap later)) is ∙ next)))
    by-items (item ∷ items) is rest = h (gap_beyond item) (ap (λ l. next_gap_by l (next_gap later)) is)

module _ (long : Bool) where
  -- each of these frames that another with items follows costs no more than its ticks
  abbrev pub EachFits : List FrameData → Type 0
  EachFits [] = Unit {0}
  EachFits (f ∷ later) = ((gap : ℕ) → next_gap later ≡ Some gap → cost_of_items long f.items (Some gap) ≤ f.ticks) × EachFits later

  costs : (items : List ItemData) → sum_by (gap_and_cost long) items ≡ sum_by gap_beyond items + sum_by (item_cost long) items
  costs [] = refl
  costs (item ∷ items) =
      omega (arith, sum_by-cons (gap_and_cost long) item items, sum_by-cons gap_beyond item items, sum_by-cons (item_cost long) item items, costs items)

  pub frames-on-time : (number offset b : ℕ) (frames : List FrameData) → Each (λ (f : FrameData). HasSuperseding f.items) frames → EachFits frames →
      CanStart b offset frames → OnTime long b (entries_from number offset frames)
  frames-on-time number offset b [] superseding fits start = tt
  frames-on-time number offset b (f ∷ later) superseding fits start =
      by-items f.items refl (λ free can. frames-on-time (number + 1) (offset + f.ticks) free later superseding.1 fits.1 can)
    where
      by-items : (items : List ItemData) → f.items ≡ items →
          ((free : ℕ) → CanStart free (offset + f.ticks) later → OnTime long free (entries_from (number + 1) (offset + f.ticks) later)) →
          OnTime long b (entries_in number offset 1 items ++ entries_from (number + 1) (offset + f.ticks) later)
      by-items [] is rest = rest b (subst (λ l. CanStartBy b offset l (CanStart b (offset + f.ticks) later)) is start)
      by-items (item ∷ items) is rest =
          let free : ℕ = first_origin.tick + offset + item_cost long item + sum_by (gap_and_cost long) items in
          frame-on-time long number offset b item items (entries_from (number + 1) (offset + f.ticks) later)
          (subst HasSuperseding is superseding.0) (subst (λ l. CanStartBy b offset l (CanStart b (offset + f.ticks) later)) is start)
          (rest free
          (can-start free (offset + f.ticks) later
          (λ gap next.
          let cost : cost_of_items long (item ∷ items) (Some gap) ≤ f.ticks = subst (λ l. cost_of_items long l (Some gap) ≤ f.ticks) is (fits.0 gap next) in
          omega (arith, cost, costs items, sum_by-cons (item_cost long) item items))))

  -- ---- the frames repeated

  option-first : (a b : Option ℕ) (gap : ℕ) → option_or a b ≡ Some gap → (c : Option ℕ) → (b ≡ Some gap → c ≡ Some gap) → option_or a c ≡ Some gap
  option-first None b gap is c same = same is
  option-first (Some x) b gap is c same = is

  next-append : (xs ys : List FrameData) → next_gap (xs ++ ys) ≡ option_or (next_gap xs) (next_gap ys)
  next-append [] ys = refl
  next-append (f ∷ xs) ys = by-items f.items (next-append xs ys)
    where
      by-items : (items : List ItemData) → next_gap (xs ++ ys) ≡ option_or (next_gap xs) (next_gap ys) →
          next_gap_by items (next_gap (xs ++ ys)) ≡ option_or (next_gap_by items (next_gap xs)) (next_gap ys)
      by-items [] rest = rest
      by-items (item ∷ items) rest = refl

  fits-some : (cost ticks gap : ℕ) (after : Option ℕ) → after ≡ Some gap → fits_by cost ticks after ≡ true → cost ≤ ticks
  fits-some cost ticks gap None same h = absurd (none-some gap same)
  fits-some cost ticks gap (Some other) same h = grind (arith, nat_tests, h)

  -- frames before others, of which the next item is that of the frames again
  fits-before : (again tail frames : List FrameData) → ((gap : ℕ) → next_gap tail ≡ Some gap → next_gap again ≡ Some gap) → EachFits tail →
      frames_fit long frames again ≡ true → EachFits (frames ++ tail)
  fits-before again tail [] same rest h = rest
  fits-before again tail (f ∷ frames) same rest h =
      let both = and-both (fits_by (cost_of_items long f.items (gap_after frames again)) f.ticks (gap_after frames again)) (frames_fit long frames again) h in (
        λ gap next.
            let after : gap_after frames again ≡ Some gap =
            option-first (next_gap frames) (next_gap tail) gap (sym (next-append frames tail) ∙ next) (next_gap again) (same gap) in
            fits-some (cost_of_items long f.items (Some gap)) f.ticks gap (Some gap) refl
            (subst (λ o. fits_by (cost_of_items long f.items o) f.ticks o ≡ true) after both.0),
        fits-before again tail frames same rest both.1,
      )

  first-copy : (n : ℕ) (frames : List FrameData) (gap : ℕ) → next_gap (repeated n frames) ≡ Some gap → next_gap frames ≡ Some gap
  first-copy zero frames gap next = absurd (none-some gap next)
  first-copy (suc n) frames gap next = by-first (next_gap frames) refl (sym (next-append frames (repeated n frames)) ∙ next) (first-copy n frames gap)
    where
      by-first : (o : Option ℕ) → next_gap frames ≡ o → option_or o (next_gap (repeated n frames)) ≡ Some gap →
          (next_gap (repeated n frames) ≡ Some gap → next_gap frames ≡ Some gap) → next_gap frames ≡ Some gap
      by-first None is h rest = rest h
      by-first (Some x) is h rest = is ∙ h

  copies-fit : (n : ℕ) (frames again : List FrameData) → (2 ≤ n → again ≡ frames) → frames_fit long frames again ≡ true → EachFits (repeated n frames)
  copies-fit zero frames again same h = tt
  copies-fit (suc n) frames again same h =
      fits-before again (repeated n frames) frames (λ gap next. by-count n refl gap next) (copies-fit n frames again (λ more. same (omega (arith, more))) h) h
    where
      by-count : (m : ℕ) → n ≡ m → (gap : ℕ) → next_gap (repeated n frames) ≡ Some gap → next_gap again ≡ Some gap
      by-count zero none gap next = absurd (none-some gap (sym (ap (λ i. next_gap (repeated i frames)) none) ∙ next))
      by-count (suc m) more gap next = ap next_gap (same (omega (arith, more))) ∙ first-copy n frames gap next

  first-can : (offset : ℕ) (frames : List FrameData) → first_fits offset frames ≡ true → CanStart 4 offset frames
  first-can offset [] h = tt
  first-can offset (f ∷ later) h = by-items f.items h (first-can (offset + f.ticks) later)
    where
      low : (dead : ℕ) → nat_le dead (8 + offset) ≡ true → 4 + (dead - 4) ≤ 8 + offset
      low dead test = let order : dead ≤ 8 + offset = grind (arith, nat_tests, test) in omega (arith, order)

      by-items : (items : List ItemData) → first_fits_by offset items (first_fits (offset + f.ticks) later) ≡ true →
          (first_fits (offset + f.ticks) later ≡ true → CanStart 4 (offset + f.ticks) later) → CanStartBy 4 offset items (CanStart 4 (offset + f.ticks) later)
      by-items [] is rest = rest is
      by-items (item ∷ items) is rest = low (dead_ticks item.gap) is

  more-frames : (offset : ℕ) (xs ys : List FrameData) → CanStart 4 offset xs → ((o : ℕ) → offset ≤ o → CanStart 4 o ys) → CanStart 4 offset (xs ++ ys)
  more-frames offset [] ys h rest = rest offset (omega arith)
  more-frames offset (f ∷ xs) ys h rest = by-items f.items h (λ can. more-frames (offset + f.ticks) xs ys can (λ o later. rest o (omega (arith, later))))
    where
      by-items : (items : List ItemData) → CanStartBy 4 offset items (CanStart 4 (offset + f.ticks) xs) →
          (CanStart 4 (offset + f.ticks) xs → CanStart 4 (offset + f.ticks) (xs ++ ys)) → CanStartBy 4 offset items (CanStart 4 (offset + f.ticks) (xs ++ ys))
      by-items [] is more = more is
      by-items (item ∷ items) is more = is

  later-frames : (a b : ℕ) (xs : List FrameData) → a ≤ b → CanStart 4 a xs → CanStart 4 b xs
  later-frames a b [] order h = tt
  later-frames a b (f ∷ xs) order h = by-items f.items h (later-frames (a + f.ticks) (b + f.ticks) xs (omega (arith, order)))
    where
      by-items : (items : List ItemData) → CanStartBy 4 a items (CanStart 4 (a + f.ticks) xs) →
          (CanStart 4 (a + f.ticks) xs → CanStart 4 (b + f.ticks) xs) → CanStartBy 4 b items (CanStart 4 (b + f.ticks) xs)
      by-items [] is more = more is
      by-items (item ∷ items) is more = omega (arith, is, order)

  -- what holds of the frames holds of their copies
  copies-can : (n offset : ℕ) (frames : List FrameData) → CanStart 4 0 frames → CanStart 4 offset (repeated n frames)
  copies-can zero offset frames h = tt
  copies-can (suc n) offset frames h =
      more-frames offset frames (repeated n frames) (later-frames 0 offset frames (omega arith) h) (λ o later. copies-can n o frames h)

  -- the whole agenda, from the least gap after tick 0 on
  pub agenda-on-time : (station : StationData) → Each (λ (f : FrameData). HasSuperseding f.items) station.frames → station_fits long station ≡ true →
      OnTime long 4 (agenda station)
  unfolding agenda
  agenda-on-time station superseding fits =
      let both = and-both (frames_fit long station.frames (again_of station)) (first_fits 0 station.frames) fits in
      frames-on-time 1 0 4 (repeated station.repeat station.frames) (each-repeated station.repeat (λ (f : FrameData). HasSuperseding f.items) station.frames superseding)
      (copies-fit station.repeat station.frames (again_of station) (λ more. by-more station.repeat more) both.0)
      (copies-can station.repeat 0 station.frames (first-can 0 station.frames both.1))
    where
      by-more : (n : ℕ) → 2 ≤ n → (if nat_lt 1 n then station.frames else []) ≡ station.frames
      by-more n more = let test : nat_lt 1 n ≡ true = grind (arith, nat_tests, more) in ap (λ (b : Bool). if b then station.frames else []) test
