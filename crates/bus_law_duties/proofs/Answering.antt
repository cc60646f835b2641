-- The answer to a burst is that of a terminal that owes one.
use Rattle.std.proofs.Common.{◌≡◌, ℕ, zero, suc, ◌<◌, true, false, List, [], ◌∷◌, length, get_or, map, Option, Some, None, refl, sym, ap, ◌∙◌, arith, All, Contains}
use Rattle.std.proofs.lemmas.Bool.{true≢false}
use Rattle.std.proofs.lemmas.List.Elements.{All-nil, All-cons, All-map}
use Rattle.std.proofs.lemmas.Option.{none-some}
use Rattle.std.specs.Option.{option_or}
use Rattle.bus_model.specs.Memory.{TimedLoad}
use Rattle.bus_model.specs.Message.{Present, After, answer_for, answer_to, after_silence_of, after_silence}
use Rattle.bus_model.specs.Orders.{Duty, free, owes, promises}
use Rattle.bus_model.specs.Standing.{is_owed}
use Rattle.bus_model.specs.Strikes.{ShownBurst, Answer}
use Rattle.bus_law_duties.proofs.OneOwes.{not-owed}
use Rattle.bus_law_duties.specs.Duties.{AtMostOneOwes, AreFree}

-- who owes nothing has no answer
none-for : (burst : ShownBurst) (after : After) (duty : Duty) → is_owed duty ≡ false → answer_for burst after duty ≡ None
none-for burst after free none = refl
none-for burst after (owes words acceptance) none = absurd (true≢false none)
none-for burst after (promises command transmitter) none = refl

-- an element of a list's rest is one of the list
contains-later : (before after : After) (afters : List After) → Contains afters after → Contains (before ∷ afters) after
contains-later before after afters (i, inside, is) = (suc i, omega (arith, inside), is)

-- one of the terminals has this answer
abbrev IsAmong : ShownBurst → List After → Answer → Type 0
IsAmong burst afters answer = (after : After) × Contains afters after × (answer_for burst after after.duty ≡ Some answer)

-- likewise with one more terminal before them
among-later : (burst : ShownBurst) (before : After) (afters : List After) (answer : Answer) → IsAmong burst afters answer →
    IsAmong burst (before ∷ afters) answer
among-later burst before afters answer (after, within, is) = (after, contains-later before after afters within, is)

-- the first one that has an answer, or a later one
found-by : (burst : ShownBurst) (before : After) (afters : List After) (answer : Answer) (o later : Option Answer) →
    answer_for burst before before.duty ≡ o → (later ≡ Some answer → IsAmong burst afters answer) → option_or o later ≡ Some answer →
    IsAmong burst (before ∷ afters) answer
found-by burst before afters answer None later first others is = among-later burst before afters answer (others is)
found-by burst before afters answer (Some own) later first others is = (before, (0, omega arith, refl), first ∙ is)

-- what is answered is the answer of one of them
pub answer-found : (burst : ShownBurst) (afters : List After) (answer : Answer) → answer_to burst afters ≡ Some answer → IsAmong burst afters answer
answer-found burst [] answer is = absurd (none-some answer is)
answer-found burst (before ∷ afters) answer is =
    found-by burst before afters answer (answer_for burst before before.duty) (answer_to burst afters) refl (answer-found burst afters answer) is

-- where none is found, each of them owes nothing
none-first : (burst : ShownBurst) (before : After) (duty : Duty) (later : Option Answer) → option_or (answer_for burst before duty) later ≡ None →
    (is_owed duty ≡ false) × (later ≡ None)
none-first burst before free later none = (refl, none)
none-first burst before (owes words acceptance) later none = absurd (none-some _ (sym none))
none-first burst before (promises command transmitter) later none = (refl, none)

-- where nothing is answered, none of them owes an answer
pub none-found : (burst : ShownBurst) (afters : List After) → answer_to burst afters ≡ None → All (λ after. is_owed after.duty ≡ false) afters
none-found burst [] none = All-nil (λ after. is_owed after.duty ≡ false)
none-found burst (before ∷ afters) none =
    let both = none-first burst before before.duty (answer_to burst afters) none in
    All-cons (λ after. is_owed after.duty ≡ false) before afters both.0 (none-found burst afters both.1)

-- who owes has an answer, before which none is looked for
own-first : (burst : ShownBurst) (after : After) (duty : Duty) (later : Option Answer) → is_owed duty ≡ true →
    option_or (answer_for burst after duty) later ≡ answer_for burst after duty
own-first burst after free later is = absurd (true≢false (sym is))
own-first burst after (owes words acceptance) later is = refl
own-first burst after (promises command transmitter) later is = absurd (true≢false (sym is))

-- the one that owes, by its place
owed-at : (burst : ShownBurst) (afters : List After) (after : After) (i : ℕ) → i < length afters → get_or afters i after ≡ after → AtMostOneOwes afters →
    is_owed after.duty ≡ true → answer_to burst afters ≡ answer_for burst after after.duty
owed-at burst [] after i inside is one owed = absurd (omega (arith, inside))
owed-at burst (before ∷ afters) after zero inside is one owed =
    ap (λ (a : After). option_or (answer_for burst a a.duty) (answer_to burst afters)) is
    ∙ own-first burst after after.duty (answer_to burst afters) owed
owed-at burst (before ∷ afters) after (suc i) inside is one owed =
    let low : i < length afters = omega (arith, inside) in
    let first : is_owed before.duty ≡ false = not-owed (is_owed before.duty) (λ both. true≢false (sym owed
    ∙ ap (λ (a : After). is_owed a.duty) (sym is) ∙ one 0 (suc i) after (omega arith) inside both)) in
    ap (λ o. option_or o (answer_to burst afters)) (none-for burst before before.duty first)
    ∙ owed-at burst afters after i low is (λ m n d below within. one (suc m) (suc n) d (omega (arith, below)) (omega (arith, within))) owed

-- where at most one owes an answer, it is the one that is sent
pub only-owed : (burst : ShownBurst) (afters : List After) (after : After) → AtMostOneOwes afters → Contains afters after →
    is_owed after.duty ≡ true → answer_to burst afters ≡ answer_for burst after after.duty
only-owed burst afters after one (i, inside, is) owed = owed-at burst afters after i inside is one owed

-- ---- silence

-- after silence one station owes and promises nothing
silence-free : (k : ℕ) (loads : List TimedLoad) (command : ShownBurst) (station : Present) (duty : Duty) →
    (after_silence_of k loads command station duty).duty ≡ free
silence-free k loads command station free = refl
silence-free k loads command station (owes words acceptance) = refl
silence-free k loads command station (promises promised transmitter) = refl

-- nor does any
pub all-silent : (k : ℕ) (loads : List TimedLoad) (command : ShownBurst) (afters : List After) → AreFree (map (after_silence k loads command) afters)
all-silent k loads command afters =
    All-map (λ (a : After). a.duty ≡ free) (after_silence k loads command) afters
    (λ i d inside. let before : After = get_or afters i d in silence-free k loads command before.station before.duty)
