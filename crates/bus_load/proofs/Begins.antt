-- When an attempt starts at the latest, and what is left of its item's time.
use Rattle.std.proofs.Common.{◌≡◌, ℕ, suc, ◌+◌, ◌-◌, ◌*◌, ◌≤◌, Bool, true, List, [], ◌∷◌, length, Option, Some, None, sym, ap, ◌∙◌, subst, arith}
use Rattle.std.proofs.lemmas.Bool.Decides.{nat_tests}
use Rattle.std.specs.Prelude.{max, if◌then◌else◌, ◌==◌, IsSome}
use Rattle.bus_base.specs.declared.samples.Channel.{Channel}
use Rattle.bus_formats.specs.Forms.{answers_of}
use Rattle.bus_formats.specs.Times.{dead_ticks}
use Rattle.bus_formats.specs.declared.form.Shape.{Shape}
use Rattle.bus_retry.specs.declared.RetryState.{RetryState}
use Rattle.bus_load.specs.Load.{message_ticks, cost_by, gap_beyond}
use Rattle.bus_load.proofs.OnTime.{IsWithinFrame, start_by, OnTime}
use Rattle.bus_model.specs.Starts.{Entry, Opening, usual, superseding, taking, planned_start, first_origin, start_of, state_of}
use Rattle.bus_law_plans.specs.Bounds.{opening_tick, opening_need}

-- so many more times
pub once-more : (n x : ℕ) → suc n * x ≡ x + n * x
once-more n x = grind arith

module _ (long : Bool) where
  -- an attempt and its retries, each with the quiet after it
  abbrev pub attempt_ticks : Entry → ℕ
  attempt_ticks entry = message_ticks long entry.item.kind + 40

  -- of an attempt with this number so many are left with it, which with those before are all that the item has
  pub record Tries (by : ℕ) (entry : Entry) (later : List Entry) (turn : ℕ) : Type 0 where
    pub left : ℕ
    pub some : 1 ≤ left
    pub count : turn + left ≡ 2 + length entry.item.retry
    pub on_time : OnTime long (by + left * attempt_ticks entry) later

  -- what is left of an item's time, where its attempt starts by this tick
  abbrev pub Rest : Option Shape → ℕ → Entry → List Entry → ℕ → Type 0
  Rest None by entry later turn = OnTime long (by + (message_ticks long entry.item.kind + 4)) later
  Rest (Some shape) by entry later turn = Tries by entry later turn

  -- of a retry
  pub record IsRetried (by : ℕ) (state : RetryState) (entry : Entry) (later : List Entry) : Type 0 where
    pub late : 2 ≤ state.turn
    pub within : IsSome entry.item.abandon → IsWithinFrame later
    pub shape : Shape
    pub expects : (answers_of entry.item.kind).first ≡ Some shape
    pub tries : Tries by entry later state.turn

  -- the entries that are left are on time, where both channels are free by this tick
  abbrev pub LeftOnTime : ℕ → Option RetryState → List Entry → Type 0
  LeftOnTime by None left = OnTime long by left
  LeftOnTime by (Some state) [] = ⊥
  LeftOnTime by (Some state) (entry ∷ later) = IsRetried by state entry later

  -- the opening of an attempt: after the least gap at least; or at once within a frame, where an answer was abandoned
  abbrev pub OpensWell : Opening → Option RetryState → List Entry → Type 0
  OpensWell (usual need tick) retry left = 4 ≤ need
  OpensWell (superseding tick channel) retry left = IsWithinFrame left × (retry ≡ None)
  OpensWell (taking tick) retry left = ⊥

  -- an attempt starts by this tick, and in its planned one where it is the first of its frame
  pub record BeginsBy (b : ℕ) (entry : Entry) (later : List Entry) (start turn : ℕ) : Type 0 where
    pub by : ℕ
    pub order : b ≤ by
    pub one : 1 ≤ turn
    pub within : IsSome entry.item.abandon → IsWithinFrame later
    pub starts : start ≤ by
    pub planned : entry.place ≡ 1 → turn ≡ 1 → start ≡ planned_start first_origin entry
    pub rest : Rest (answers_of entry.item.kind).first by entry later turn

  first-rest : (by : ℕ) (entry : Entry) (later : List Entry) (shape : Option Shape) → OnTime long (by + cost_by long entry.item shape) later → Rest shape by entry later 1
  first-rest by entry later None h = h
  first-rest by entry later (Some shape) h = record { left = 1 + length entry.item.retry; some = omega arith; count = omega arith; on_time = h }

  start-low : (z need tick b dead p : ℕ) → 4 ≤ need → z + need ≤ b → tick ≤ b → max (z + max need dead) (max tick p) ≤ max (b + (dead - 4)) p
  start-low z need tick b dead p least quiet opens = omega (arith, least, quiet, opens)

  start-exact : (z need tick b dead p : ℕ) → 4 ≤ need → z + need ≤ b → tick ≤ b → b + (dead - 4) ≤ p → max (z + max need dead) (max tick p) ≡ p
  start-exact z need tick b dead p least quiet opens fits = omega (arith, least, quiet, opens, fits)

  planned-is : (place planned : ℕ) → place ≡ 1 → (if place == 1 then planned else 0) ≡ planned
  planned-is place planned is = let test : (place == 1) ≡ true = grind (arith, nat_tests, is) in ap (λ (t : Bool). if t then planned else 0) test

  start-late : (b : ℕ) (entry : Entry) → b ≤ start_by long b entry
  start-late b entry = by-planned (if entry.place == 1 then planned_start first_origin entry else 0)
    where
      by-planned : (p : ℕ) → b ≤ max (b + gap_beyond entry.item) p
      by-planned p = omega arith

  pub begins-by : (opening : Opening) (retry : Option RetryState) (entry : Entry) (later : List Entry) (z b : ℕ) (live : Channel) →
      OpensWell opening retry (entry ∷ later) → opening_tick opening ≤ b → z + opening_need opening ≤ b → LeftOnTime b retry (entry ∷ later) →
      BeginsBy b entry later (start_of opening retry first_origin entry z) (state_of opening retry entry live).turn
  begins-by (taking tick) retry entry later z b live well opens quiet left = absurd well
  begins-by (superseding tick channel) retry entry later z b live well opens quiet left =
      let here : OnTime long b (entry ∷ later) = subst (λ r. LeftOnTime b r (entry ∷ later)) well.1 left in
      record {
        by = start_by long b entry;
        order = start-late b entry;
        one = omega arith;
        within = here.0.within;
        starts = omega (arith, opens, start-late b entry);
        planned = λ is first. absurd (well.0 is);
        rest = first-rest (start_by long b entry) entry later (answers_of entry.item.kind).first here.1;
      }
  begins-by (usual need tick) None entry later z b live well opens quiet left = record {
    by = start_by long b entry;
    order = start-late b entry;
    one = omega arith;
    within = left.0.within;
    starts = start-low z need tick b (dead_ticks entry.item.gap) (if entry.place == 1 then planned_start first_origin entry else 0) well quiet opens;
    planned = λ is first.
        ap (λ p. max (z + max need (dead_ticks entry.item.gap)) (max tick p)) (planned-is entry.place (planned_start first_origin entry) is)
        ∙ start-exact z need tick b (dead_ticks entry.item.gap) (planned_start first_origin entry) well quiet opens (left.0.first is);
    rest = first-rest (start_by long b entry) entry later (answers_of entry.item.kind).first left.1;
  }
  begins-by (usual need tick) (Some state) entry later z b live well opens quiet left = record {
    by = b;
    order = omega arith;
    one = omega (arith, left.late);
    within = left.within;
    starts = omega (arith, quiet, opens);
    planned = λ is first. absurd (omega (arith, first, left.late));
    rest = subst (λ shape. Rest shape b entry later state.turn) (sym left.expects) left.tries;
  }
