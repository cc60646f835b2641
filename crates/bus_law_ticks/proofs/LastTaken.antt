-- The receive block of a subaddress is the last block that was taken for it.
use Rattle.std.proofs.Common.{◌≡◌, ◌⊎◌, inl, inr, ℕ, suc, ◌<◌, List, [], ◌∷◌, length, get_or, Option, Some, None, refl, sym, ap, ◌∙◌, subst, arith}
use Rattle.std.proofs.lemmas.Bool.{cases_lt, cases_eq}
use Rattle.std.proofs.lemmas.List.{get_or-set_same, get_or-set_other, set_past}
use Rattle.bus_formats.specs.Plans.{TerminalData}
use Rattle.bus_model.specs.Memory.{Memory, TimedLoad, received_on}
use Rattle.bus_model.specs.Orders.{Taken}
use Rattle.bus_model.specs.Hearing.{Moment, Hearing}
use Rattle.bus_model.specs.Terminal.{standing, took_now, memory_after}
use Rattle.bus_law_ticks.specs.Ticks.{before}
use Rattle.bus_law_ticks.specs.Blocks.{TookAt, TookLastAt}
use Rattle.bus_law_ticks.proofs.Before.{before-all, before-more}
use Rattle.bus_law_ticks.proofs.Received.{with_taken, loads-keep, tick-received, taken-few, received-long}

-- a block of a list in which one may be replaced
block-after : (blocks : List (List ℕ)) (o : Option Taken) (sub : ℕ) →
    (get_or (with_taken blocks o) sub [] ≡ get_or blocks sub [])
    ⊎ ((taken : Taken) × (o ≡ Some taken) × (taken.sub ≡ sub) × (get_or (with_taken blocks o) sub [] ≡ taken.words))
block-after blocks None sub = inl refl
block-after blocks (Some taken) sub = elim (cases_eq taken.sub sub) [
  | inr other ↦ inl (get_or-set_other blocks taken.sub sub taken.words [] (λ e. other (sym e)))
  | inl same ↦ elim (cases_lt taken.sub (length blocks)) [
    | inr out ↦ inl (ap (λ (bs : List (List ℕ)). get_or bs sub []) (set_past blocks taken.sub taken.words out))
    | inl within ↦ inr (
      taken,
      refl,
      same,
      subst (λ (i : ℕ). get_or (with_taken blocks (Some taken)) i [] ≡ taken.words) same
          (get_or-set_same blocks taken.sub taken.words [] within),
    )
  ]
]

module _ (k : ℕ) (terminal : TerminalData) (loads : List TimedLoad) where
  -- the receive blocks that are shown are those that are kept
  pub shown : (memory : Memory) (ticks : List Moment) (sub : ℕ) →
      received_on (memory_after k terminal loads record { memory = memory; ticks = ticks }) sub
      ≡ received_on (standing k terminal loads memory ticks).memory sub
  shown memory ticks sub =
      ap (λ (bs : List (List ℕ)). get_or bs sub []) (loads-keep terminal.address (length ticks) loads (standing k terminal loads memory ticks).memory)

  -- ... and after a tick
  shown-more : (memory : Memory) (now : Moment) (past : List Moment) (sub : ℕ) →
      received_on (memory_after k terminal loads record { memory = memory; ticks = now ∷ past }) sub
      ≡ get_or (with_taken (standing k terminal loads memory past).memory.received
      (took_now k terminal loads record { memory = memory; ticks = now ∷ past })) sub []
  shown-more memory now past sub =
      shown memory (now ∷ past) sub ∙ ap (λ (bs : List (List ℕ)). get_or bs sub []) (tick-received k terminal loads memory now past)

  pub stays-or-taken : (memory : Memory) (now : Moment) (past : List Moment) (sub : ℕ) →
      let earlier : Hearing = record { memory = memory; ticks = past } in let later : Hearing = record { memory = memory; ticks = now ∷ past } in
      (received_on (memory_after k terminal loads later) sub ≡ received_on (memory_after k terminal loads earlier) sub)
      ⊎ ((taken : Taken) × (took_now k terminal loads later ≡ Some taken) × (taken.sub ≡ sub)
      × (received_on (memory_after k terminal loads later) sub ≡ taken.words))
  stays-or-taken memory now past sub =
      let whole : Option Taken = took_now k terminal loads record { memory = memory; ticks = now ∷ past } in
      let more = shown-more memory now past sub in
      elim (block-after (standing k terminal loads memory past).memory.received whole sub) [
        | inl same ↦ inl (more ∙ same ∙ sym (shown memory past sub))
        | inr some ↦ inr (some.0, some.1, some.2, more ∙ some.3)
      ]

  pub taken-there : (memory : Memory) (now : Moment) (past : List Moment) (taken : Taken) →
      let later : Hearing = record { memory = memory; ticks = now ∷ past } in length memory.received ≡ 31 →
      took_now k terminal loads later ≡ Some taken → received_on (memory_after k terminal loads later) taken.sub ≡ taken.words
  taken-there memory now past taken all took =
      let few : taken.sub < 31 = taken-few k terminal loads memory now past taken took in
      let long = received-long k terminal loads memory past in
      shown-more memory now past taken.sub
      ∙ ap (λ (o : Option Taken). get_or (with_taken (standing k terminal loads memory past).memory.received o) taken.sub []) took
      ∙ get_or-set_same (standing k terminal loads memory past).memory.received taken.sub taken.words [] (omega (arith, few, long, all))

  -- ---- after any ticks

  -- what was taken in an earlier tick is the same with a tick more
  took-more : (memory : Memory) (now : Moment) (past : List Moment) (t : ℕ) (taken : Taken) →
      TookAt k terminal loads record { memory = memory; ticks = past } t taken → TookAt k terminal loads record { memory = memory; ticks = now ∷ past } t taken
  took-more memory now past t taken at = record {
    heard = (let heard = at.heard in omega (arith, heard));
    took = (let heard = at.heard in
        ap (λ (ticks : List Moment). took_now k terminal loads record { memory = memory; ticks = ticks }) (before-more now past (suc t) (omega (arith, heard)))
        ∙ at.took);
  }

  took-less : (memory : Memory) (now : Moment) (past : List Moment) (t : ℕ) (taken : Taken) → t < length past →
      TookAt k terminal loads record { memory = memory; ticks = now ∷ past } t taken → TookAt k terminal loads record { memory = memory; ticks = past } t taken
  took-less memory now past t taken early at = record {
    heard = early;
    took = sym (ap (λ (ticks : List Moment). took_now k terminal loads record { memory = memory; ticks = ticks })
        (before-more now past (suc t) (omega (arith, early)))) ∙ at.took;
  }

  -- what is taken in the newest tick
  took-newest : (memory : Memory) (now : Moment) (past : List Moment) (taken : Taken) →
      took_now k terminal loads record { memory = memory; ticks = now ∷ past } ≡ Some taken →
      TookAt k terminal loads record { memory = memory; ticks = now ∷ past } (length past) taken
  took-newest memory now past taken took = record {
    heard = omega arith;
    took = ap (λ (ticks : List Moment). took_now k terminal loads record { memory = memory; ticks = ticks }) (before-all (now ∷ past)) ∙ took;
  }

  newest-took : (memory : Memory) (now : Moment) (past : List Moment) (t : ℕ) (taken : Taken) → t ≡ length past →
      TookAt k terminal loads record { memory = memory; ticks = now ∷ past } t taken →
      took_now k terminal loads record { memory = memory; ticks = now ∷ past } ≡ Some taken
  newest-took memory now past t taken here at =
      sym (ap (λ (ticks : List Moment). took_now k terminal loads record { memory = memory; ticks = ticks })
      (ap (λ (n : ℕ). before (suc n) (now ∷ past)) here ∙ before-all (now ∷ past))) ∙ at.took

  -- a subaddress for which no block was taken
  pub none-taken : (memory : Memory) (ticks : List Moment) (sub : ℕ) →
      ((t : ℕ) (taken : Taken) → TookAt k terminal loads record { memory = memory; ticks = ticks } t taken → taken.sub ≡ sub → ⊥) →
      received_on (memory_after k terminal loads record { memory = memory; ticks = ticks }) sub ≡ received_on memory sub
  unfolding standing
  none-taken memory [] sub none = shown memory [] sub
  none-taken memory (now ∷ past) sub none = elim (stays-or-taken memory now past sub) [
    | inl same ↦ same ∙ none-taken memory past sub (λ t taken at is. none t taken (took-more memory now past t taken at) is)
    | inr some ↦ absurd (none (length past) some.0 (took-newest memory now past some.0 some.1) some.2)
  ]

  -- the last block that was taken
  pub last-taken : (memory : Memory) (ticks : List Moment) (sub t : ℕ) (taken : Taken) → length memory.received ≡ 31 →
      TookLastAt k terminal loads record { memory = memory; ticks = ticks } sub t taken →
      received_on (memory_after k terminal loads record { memory = memory; ticks = ticks }) sub ≡ taken.words
  last-taken memory [] sub t taken all at = absurd (let heard = at.at.heard in omega (arith, heard))
  last-taken memory (now ∷ past) sub t taken all at = elim (cases_lt t (length past)) [
    | inr newest ↦
        let heard = at.at.heard in
        subst (λ (i : ℕ). received_on (memory_after k terminal loads record { memory = memory; ticks = now ∷ past }) i ≡ taken.words) at.sub_is
        (taken-there memory now past taken all (newest-took memory now past t taken (omega (arith, newest, heard)) at.at))
    | inl early ↦ elim (stays-or-taken memory now past sub) [
      | inr some ↦ absurd (at.last (length past) some.0 early (took-newest memory now past some.0 some.1) some.2)
      | inl same ↦ same ∙ last-taken memory past sub t taken all record {
        at = took-less memory now past t taken early at.at;
        sub_is = at.sub_is;
        last = λ u other after there. at.last u other after (took-more memory now past u other there);
      }
    ]
  ]
