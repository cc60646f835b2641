-- Stations that owe and promise nothing any longer, and what a burst or silence leaves of them.
use Rattle.std.proofs.Common.{◌≡◌, ℕ, false, List, [], ◌∷◌, map, get_or, None, refl, ap, ◌∙◌, All}
use Rattle.std.proofs.lemmas.Bool.{true≢false}
use Rattle.std.proofs.lemmas.List.Elements.{All-from_recursion, All-head, All-tail, All-map}
use Rattle.std.specs.Option.{option_or}
use Rattle.std.specs.List.{AllByRecursion as Each}
use Rattle.bus_model.specs.Memory.{TimedLoad}
use Rattle.bus_model.specs.Message.{Present, After, unmoved, after_answer, after_silence, after_silence_of, answer_for, answer_to, blocks_taken}
use Rattle.bus_model.specs.Orders.{Duty, free, owes, promises}
use Rattle.bus_model.specs.Standing.{is_owed, is_promise}
use Rattle.bus_model.specs.Strikes.{ShownBurst}
use Rattle.bus_law_duties.specs.Duties.{AtMostOneOwes, AreFree}
use Rattle.bus_law_duties.proofs.Answering.{none-found}
use Rattle.bus_law_duties.proofs.Settled.{none-stands, others-stay}

-- ---- who owes and promises nothing

-- a duty that is neither owed nor promised
free-duty : (duty : Duty) → is_owed duty ≡ false → is_promise duty ≡ false → duty ≡ free
free-duty free owed promised = refl
free-duty (owes words acceptance) owed promised = absurd (true≢false owed)
free-duty (promises command transmitter) owed promised = absurd (true≢false promised)

-- there is no answer of those who are free
pub free-unanswered : (burst : ShownBurst) (afters : List After) → AreFree afters → answer_to burst afters ≡ None
free-unanswered burst [] all = refl
free-unanswered burst (after ∷ afters) all =
    ap (λ duty. option_or (answer_for burst after duty) (answer_to burst afters)) (All-head (λ a. a.duty ≡ free) after afters all)
    ∙ free-unanswered burst afters (All-tail (λ a. a.duty ≡ free) after afters all)

-- and they promise nothing
pub free-promise : (afters : List After) → AreFree afters → All (λ a. is_promise a.duty ≡ false) afters
free-promise afters all = λ i d inside. ap is_promise (all i d inside)

-- so at most one of them owes an answer
pub free-one : (afters : List After) → AreFree afters → AtMostOneOwes afters
free-one afters all = λ i j d before inside owed. ap is_owed (all j d inside)

-- ---- silence

-- who promised nothing stays as it was
silence-same : (k : ℕ) (loads : List TimedLoad) (burst : ShownBurst) (station : Present) (duty : Duty) → is_promise duty ≡ false →
    (after_silence_of k loads burst station duty).station ≡ station
silence-same k loads burst station free none = refl
silence-same k loads burst station (owes words acceptance) none = refl
silence-same k loads burst station (promises command transmitter) none = absurd (true≢false none)

pub silence-stations : (k : ℕ) (loads : List TimedLoad) (burst : ShownBurst) (afters : List After) → All (λ a. is_promise a.duty ≡ false) afters →
    map (λ a. a.station) (map (after_silence k loads burst) afters) ≡ map (λ a. a.station) afters
silence-stations k loads burst [] none = refl
silence-stations k loads burst (after ∷ afters) none =
    ap (λ s. s ∷ map (λ a. a.station) (map (after_silence k loads burst) afters))
    (silence-same k loads burst after.station after.duty (All-head (λ a. is_promise a.duty ≡ false) after afters none))
    ∙ ap (λ ss. after.station ∷ ss) (silence-stations k loads burst afters (All-tail (λ a. is_promise a.duty ≡ false) after afters none))

-- ---- after an answer

module _ (k : ℕ) (loads : List TimedLoad) (answer : ShownBurst) (afters : List After) where
  -- no promise stands
  pub settled-promise : All (λ a. is_promise a.duty ≡ false) (map (after_answer k loads answer) afters)
  settled-promise =
      All-map (λ a. is_promise a.duty ≡ false) (after_answer k loads answer) afters (λ i d inside. none-stands k loads answer (get_or afters i d))

  -- so where nobody owes an answer, all are free
  pub settled-free : All (λ a. is_owed a.duty ≡ false) (map (after_answer k loads answer) afters) → AreFree (map (after_answer k loads answer) afters)
  settled-free none = λ i d inside. free-duty (get_or (map (after_answer k loads answer) afters) i d).duty (none i d inside) (settled-promise i d inside)

  -- and so where no answer is due to it
  pub settled-unanswered : answer_to answer (map (after_answer k loads answer) afters) ≡ None → AreFree (map (after_answer k loads answer) afters)
  settled-unanswered none = settled-free (none-found answer (map (after_answer k loads answer) afters) none)

-- ---- after a second answer nothing changes

module _ (k : ℕ) (loads : List TimedLoad) (first second : ShownBurst) where
  abbrev settle : After → After
  settle = after_answer k loads first

  abbrev again : After → After
  again = after_answer k loads second

  again-same : (after : After) → again (settle after) ≡ unmoved (settle after).station
  again-same after = others-stay k loads second (settle after) (none-stands k loads first after)

  pub again-stations : (afters : List After) → map (λ a. a.station) (map again (map settle afters)) ≡ map (λ a. a.station) (map settle afters)
  again-stations [] = refl
  again-stations (after ∷ afters) =
      ap (λ (a : After). a.station ∷ map (λ b. b.station) (map again (map settle afters))) (again-same after)
      ∙ ap (λ ss. (settle after).station ∷ ss) (again-stations afters)

  pub again-blocks : (afters : List After) → blocks_taken k loads second (map again (map settle afters)) ≡ []
  again-blocks [] = refl
  again-blocks (after ∷ afters) =
      ap (λ (a : After). blocks_taken k loads second (a ∷ map again (map settle afters))) (again-same after) ∙ again-blocks afters

  each-free : (afters : List After) → Each (λ a. a.duty ≡ free) (map again (map settle afters))
  each-free [] = tt
  each-free (after ∷ afters) = (ap (λ (a : After). a.duty) (again-same after), each-free afters)

  pub again-free : (afters : List After) → AreFree (map again (map settle afters))
  again-free afters = All-from_recursion (λ (a : After). a.duty ≡ free) (map again (map settle afters)) (each-free afters)
