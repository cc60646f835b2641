-- A past whose bursts follow one another in order has no breach: at most one channel runs in each tick, and none where a burst begins.
use Rattle.std.proofs.Common.{◌≡◌, ◌⊎◌, inl, inr, ℕ, suc, ◌+◌, ◌-◌, ◌<◌, ◌≤◌, List, [], ◌∷◌, ◌++◌, length, reverse, refl, ap, sym, subst, ◌∙◌, arith}
use Rattle.std.proofs.lemmas.Bool.{cases_Bool, true≢false}
use Rattle.std.proofs.lemmas.Bool.Decides.{nat_tests}
use Rattle.std.proofs.lemmas.List.{reverse-append}
use Rattle.std.proofs.lemmas.Option.{none-some, same_Some}
use Rattle.std.specs.Prelude.{Bool, true, false, not, ◌&&◌, nat_lt, min, Option, Some, None, IfSome}
use Rattle.bus_base.specs.Samples.{other_of, sample_on, is_quiet}
use Rattle.bus_base.specs.declared.samples.Channel.{Channel}
use Rattle.bus_base.specs.declared.samples.Channel.TheVariants.{A, B}
use Rattle.bus_base.specs.declared.samples.Pair.{Pair}
use Rattle.bus_base.specs.declared.samples.Sample.{Sample}
use Rattle.bus_line.specs.Past.{Burst, quiet, runs, first_tick, ended_now, end_of}
use Rattle.bus_line.specs.Channels.{WholeBurst, on_channel, quiet_both, burst_of, bursts}
use Rattle.bus_line.proofs.PastLaws.{stopped-quiet, runs-parts, rests-parts, runs-pulse, first_tick-begins, first_tick-lt}
use Rattle.bus_formats.specs.Times.{least_quiet}
use Rattle.bus_monitor.specs.Messages.{Waiting}
use Rattle.bus_monitor.specs.Progress.{waits_after_end, waiting}
use Rattle.bus_monitor.specs.Told.{begins}
use Rattle.bus_monitor.proofs.ChannelLaws.{length-on_channel}
use Rattle.bus_monitor.proofs.PastLaws.{runs-on, an-end}
use Rattle.bus_rules.specs.Breaches.{breach_where, overlaps, longest_response, answered, begun_so, ended_so, at_end, at_begin, known_on, known_now, known, open_burst, open_bursts, breaches}
use Rattle.bus_rules.specs.declared.breach.Rule.TheVariants.{Overlap, Gap, Response, Open}
use Rattle.bus_rules.proofs.PairLaws.{quiet-min}
use Rattle.bus_law_judge.specs.Rows.{waits_on, IsApart, FollowsInOrder, AreInOrder}

-- ---- the bursts of a past, the newest first

abbrev pushed : Channel → Option Burst → List WholeBurst → List WholeBurst
pushed c None row = row
pushed c (Some burst) row = record { channel = c; burst = burst } ∷ row

unfoldable row : ℕ → List Pair → List WholeBurst
row k [] = []
row k (shown ∷ past) = pushed B (ended_now k (on_channel B (shown ∷ past))) (pushed A (ended_now k (on_channel A (shown ∷ past))) (row k past))

two-pushed : (a b : Option Burst) (rest : List WholeBurst) → reverse (burst_of A a ++ burst_of B b) ++ rest ≡ pushed B b (pushed A a rest)
two-pushed None None rest = refl
two-pushed None (Some b) rest = refl
two-pushed (Some a) None rest = refl
two-pushed (Some a) (Some b) rest = refl

row-is : (k : ℕ) (past : List Pair) → reverse (bursts k past) ≡ row k past
unfolding bursts row
row-is k [] = refl
row-is k (shown ∷ past) =
    let a : Option Burst = ended_now k (on_channel A (shown ∷ past)) in
    let b : Option Burst = ended_now k (on_channel B (shown ∷ past)) in
    reverse-append (bursts k past) (burst_of A a ++ burst_of B b)
    ∙ ap (λ xs. reverse (burst_of A a ++ burst_of B b) ++ xs) (row-is k past)
    ∙ two-pushed a b (row k past)

row-more : (k : ℕ) (shown : Pair) (past : List Pair) (a b : Option Burst) → ended_now k (on_channel A (shown ∷ past)) ≡ a →
    ended_now k (on_channel B (shown ∷ past)) ≡ b → row k (shown ∷ past) ≡ pushed B b (pushed A a (row k past))
unfolding row
row-more k shown past a b is-a is-b =
    ap (λ o. pushed B o (pushed A (ended_now k (on_channel A (shown ∷ past))) (row k past))) is-b
    ∙ ap (λ o. pushed B b (pushed A o (row k past))) is-a

-- ---- the message that waits on a channel

waits-a : (k : ℕ) (a b : Option Burst) (rest : List WholeBurst) → waits_after_end k (waits_on k A rest) a ≡ waits_on k A (pushed B b (pushed A a rest))
waits-a k None None rest = refl
waits-a k None (Some b) rest = refl
waits-a k (Some a) None rest = refl
waits-a k (Some a) (Some b) rest = refl

waits-b : (k : ℕ) (a b : Option Burst) (rest : List WholeBurst) → waits_after_end k (waits_on k B rest) b ≡ waits_on k B (pushed B b (pushed A a rest))
waits-b k None None rest = refl
waits-b k None (Some b) rest = refl
waits-b k (Some a) None rest = refl
waits-b k (Some a) (Some b) rest = refl

waiting-row : (k : ℕ) (c : Channel) (past : List Pair) → waiting k (on_channel c past) ≡ waits_on k c (row k past)
unfolding waiting row
waiting-row k c [] = refl
waiting-row k A (shown ∷ past) =
    ap (λ w. waits_after_end k w (ended_now k (on_channel A (shown ∷ past)))) (waiting-row k A past)
    ∙ waits-a k (ended_now k (on_channel A (shown ∷ past))) (ended_now k (on_channel B (shown ∷ past))) (row k past)
waiting-row k B (shown ∷ past) =
    ap (λ w. waits_after_end k w (ended_now k (on_channel B (shown ∷ past)))) (waiting-row k B past)
    ∙ waits-b k (ended_now k (on_channel A (shown ∷ past))) (ended_now k (on_channel B (shown ∷ past))) (row k past)

waiting-none : (k : ℕ) (x : Sample) (past : List Sample) → ended_now k (x ∷ past) ≡ None → waiting k (x ∷ past) ≡ waiting k past
unfolding waiting
waiting-none k x past none = ap (waits_after_end k (waiting k past)) none

-- ---- what holds after each tick: of the bursts that run one day will be in the row, so they too follow in order

-- a burst from this tick on is in time, where it is an answer
abbrev IsPrompt : ℕ → Option Waiting → ℕ → Type 0
IsPrompt k w first = IfSome (answered k w first) (λ message. first - message.from ≤ longest_response)

record Goes (k : ℕ) (rest : List WholeBurst) (past : List Pair) : Type 0 where
  apart : (c : Channel) → runs k (on_channel c past) ≡ true → IsApart k rest (first_tick k (on_channel c past))
  prompt : (c : Channel) → runs k (on_channel c past) ≡ true → IsPrompt k (waiting k (on_channel c past)) (first_tick k (on_channel c past))
  one : (c : Channel) → runs k (on_channel c past) ≡ true → runs k (on_channel (other_of c) past) ≡ true → ⊥

-- the first tick of a burst that runs lies in the past
first-low : (k : ℕ) (c : Channel) (past : List Pair) → runs k (on_channel c past) ≡ true → first_tick k (on_channel c past) < length past
first-low k c past ran =
    let some = (runs-parts k (on_channel c past) ran).0 in
    omega (arith, first_tick-lt k (on_channel c past) some, stopped-quiet (on_channel c past), length-on_channel c past)

which : (c e : Channel) → (e ≡ c) ⊎ (e ≡ other_of c)
which A A = inl refl
which A B = inr refl
which B A = inr refl
which B B = inl refl

other-twice : (c : Channel) → other_of (other_of c) ≡ c
other-twice A = refl
other-twice B = refl

module _ (k : ℕ) (shown : Pair) (past : List Pair) where
  abbrev ends-on : Channel → Option Burst
  ends-on c = ended_now k (sample_on shown c ∷ on_channel c past)

  -- where a burst ended on one channel, none runs on the other, nor ran there
  other-off : (c : Channel) (burst : Burst) (rest : List WholeBurst) → ends-on c ≡ Some burst → ends-on (other_of c) ≡ None →
      Goes k (record { channel = c; burst = burst } ∷ rest) (shown ∷ past) → runs k (on_channel (other_of c) past) ≡ true → ⊥
  other-off c burst rest is none g ran =
      let on = runs-on k (sample_on shown (other_of c)) (on_channel (other_of c) past) none in
      let end = an-end k (sample_on shown c) (on_channel c past) burst is in
      let apart : end_of burst + suc k ≤ first_tick k (on_channel (other_of c) (shown ∷ past)) = g.apart (other_of c) (on.on ran) in
      omega (arith, apart, on.same ran, end.end, first-low k (other_of c) past ran, length-on_channel c past)

  -- ---- back over a tick

  back-none : (rest : List WholeBurst) → ((c : Channel) → ends-on c ≡ None) → Goes k rest (shown ∷ past) → Goes k rest past
  back-none rest none g = record {
    apart = λ c ran. (let on = runs-on k (sample_on shown c) (on_channel c past) (none c) in
        subst (IsApart k rest) (on.same ran) (g.apart c (on.on ran)));
    prompt = λ c ran. (let on = runs-on k (sample_on shown c) (on_channel c past) (none c) in
        subst (IsPrompt k (waiting k (on_channel c past))) (on.same ran)
        (subst (λ w. IsPrompt k w (first_tick k (on_channel c (shown ∷ past)))) (waiting-none k (sample_on shown c) (on_channel c past) (none c)) (g.prompt c (on.on ran))));
    one = λ c ran other. g.one c ((runs-on k (sample_on shown c) (on_channel c past) (none c)).on ran)
        ((runs-on k (sample_on shown (other_of c)) (on_channel (other_of c) past) (none (other_of c))).on other);
  }

  back-one : (c : Channel) (burst : Burst) (rest : List WholeBurst) → ends-on c ≡ Some burst → ends-on (other_of c) ≡ None →
      waiting k (on_channel c past) ≡ waits_on k c rest → FollowsInOrder k rest record { channel = c; burst = burst } →
      Goes k (record { channel = c; burst = burst } ∷ rest) (shown ∷ past) → Goes k rest past
  back-one c burst rest is none waits follows g =
      let end = an-end k (sample_on shown c) (on_channel c past) burst is in
      let off : runs k (on_channel (other_of c) past) ≡ true → ⊥ = other-off c burst rest is none g in
      let own : IsPrompt k (waiting k (on_channel c past)) (first_tick k (on_channel c past)) =
      subst (IsPrompt k (waiting k (on_channel c past))) end.first
      (subst (λ w. IsPrompt k w burst.first) (sym waits) follows.prompt) in
      record {
        apart = λ e ran. elim (which c e) [
          | inl same ↦ subst (λ d. IsApart k rest (first_tick k (on_channel d past))) (sym same) (subst (IsApart k rest) end.first follows.apart)
          | inr other ↦ absurd (off (subst (λ d. runs k (on_channel d past) ≡ true) other ran))
        ];
        prompt = λ e ran. elim (which c e) [
          | inl same ↦ subst (λ d. IsPrompt k (waiting k (on_channel d past)) (first_tick k (on_channel d past))) (sym same) own
          | inr other ↦ absurd (off (subst (λ d. runs k (on_channel d past) ≡ true) other ran))
        ];
        one = λ e ran beside. elim (which c e) [
          | inl same ↦ off (subst (λ d. runs k (on_channel (other_of d) past) ≡ true) same beside)
          | inr other ↦ off (subst (λ d. runs k (on_channel d past) ≡ true) other ran)
        ];
      }

  -- two bursts don't end in one tick
  never-both : (a b : Burst) (rest : List WholeBurst) → ends-on A ≡ Some a → ends-on B ≡ Some b →
      FollowsInOrder k (record { channel = A; burst = a } ∷ rest) record { channel = B; burst = b } → ⊥
  never-both a b rest is-a is-b follows =
      let end-a = an-end k (sample_on shown A) (on_channel A past) a is-a in
      let end-b = an-end k (sample_on shown B) (on_channel B past) b is-b in
      omega (arith, follows.apart, end-a.end, end-b.first, first-low k B past end-b.ran, length-on_channel A past)

  -- ---- what becomes known in the tick

  at-end-none : (c : Channel) (w : Option Waiting) (found : Option Burst) → ((burst : Burst) → found ≡ Some burst → ended_so k c (answered k w burst.first) burst ≡ []) →
      at_end k c w found ≡ []
  at-end-none c w None right = refl
  at-end-none c w (Some burst) right = right burst refl

  heard-none : (x : Sample) (xs : List Sample) (found : Option Burst) → ended_now k (x ∷ xs) ≡ found → is_quiet x ≡ false → ended_now k (x ∷ xs) ≡ None
  heard-none x xs None is pulse = is
  heard-none x xs (Some burst) is pulse = absurd (true≢false (sym (runs-pulse k x xs pulse) ∙ (an-end k x xs burst is).over))

  begun-clean : (c : Channel) (first q : ℕ) (w : Option Waiting) → min least_quiet first ≤ q → IfSome w (λ message. first - message.from ≤ longest_response) →
      begun_so c first q w ≡ []
  begun-clean c first q None gap prompt =
      let test : nat_lt q (min least_quiet first) ≡ false = grind (arith, nat_tests, gap) in
      ap (λ b. breach_where b c Gap first) test
  begun-clean c first q (Some w) gap prompt =
      let test : nat_lt longest_response (first - w.from) ≡ false = grind (arith, nat_tests, prompt) in
      ap (λ b. breach_where b c Response first) test

  -- where no burst runs the channel has been quiet for so long, or from the first tick on
  off-quiet : (three : 3 ≤ k) (c : Channel) → (runs k (on_channel c past) ≡ true → ⊥) → min least_quiet (length past) ≤ quiet (on_channel c past)
  off-quiet three c off = elim (cases_Bool (runs k (on_channel c past))) [
    | inl ran ↦ absurd (off ran)
    | inr rests ↦ elim (rests-parts k (on_channel c past) rests) [
      | inl none ↦ omega (arith, none, stopped-quiet (on_channel c past), length-on_channel c past)
      | inr long ↦ omega (arith, long, three)
    ]
  ]

  both-quiet : (three : 3 ≤ k) → ((c : Channel) → runs k (on_channel c past) ≡ true → ⊥) → min least_quiet (length past) ≤ quiet_both past
  both-quiet three off = omega (arith, quiet-min past, off-quiet three A (off A), off-quiet three B (off B))

  -- a tick in which a burst begins on a channel: none ran on either
  begin-clean : (three : 3 ≤ k) (rest : List WholeBurst) (c : Channel) → Goes k rest (shown ∷ past) →
      ((burst : Burst) → ends-on (other_of c) ≡ Some burst → IsApart k rest (length past) → ⊥) →
      is_quiet (sample_on shown c) ≡ false → runs k (on_channel c past) ≡ false →
      begun_so c (length (on_channel c past)) (quiet_both past) (answered k (waiting k (on_channel c past)) (length (on_channel c past))) ≡ []
  begin-clean three rest c g late pulse off =
      let ran : runs k (on_channel c (shown ∷ past)) ≡ true = runs-pulse k (sample_on shown c) (on_channel c past) pulse in
      let none : ends-on c ≡ None = heard-none (sample_on shown c) (on_channel c past) (ends-on c) refl pulse in
      let first : first_tick k (on_channel c (shown ∷ past)) ≡ length (on_channel c past) = first_tick-begins k (sample_on shown c) (on_channel c past) off pulse in
      let apart : IsApart k rest (length past) = subst (IsApart k rest) (first ∙ length-on_channel c past) (g.apart c ran) in
      let prompt : IsPrompt k (waiting k (on_channel c past)) (length (on_channel c past)) =
      subst (λ w. IsPrompt k w (length (on_channel c past))) (waiting-none k (sample_on shown c) (on_channel c past) none)
      (subst (IsPrompt k (waiting k (on_channel c (shown ∷ past)))) first (g.prompt c ran)) in
      let other : runs k (on_channel (other_of c) past) ≡ true → ⊥ = λ before. by-end (ends-on (other_of c)) refl ran apart before in
      let each : (e : Channel) → runs k (on_channel e past) ≡ true → ⊥ = λ e on. elim (which c e) [
        | inl same ↦ true≢false (sym (subst (λ d. runs k (on_channel d past) ≡ true) same on) ∙ off)
        | inr beside ↦ other (subst (λ d. runs k (on_channel d past) ≡ true) beside on)
      ] in
      begun-clean c (length (on_channel c past)) (quiet_both past) (answered k (waiting k (on_channel c past)) (length (on_channel c past)))
      (omega (arith, both-quiet three each, length-on_channel c past)) prompt
    where
      by-end : (found : Option Burst) → ends-on (other_of c) ≡ found → runs k (on_channel c (shown ∷ past)) ≡ true → IsApart k rest (length past) →
          runs k (on_channel (other_of c) past) ≡ true → ⊥
      by-end None is ran apart before = g.one c ran ((runs-on k (sample_on shown (other_of c)) (on_channel (other_of c) past) is).on before)
      by-end (Some burst) is ran apart before = late burst is apart

  at-begin-none : (three : 3 ≤ k) (rest : List WholeBurst) (c : Channel) → Goes k rest (shown ∷ past) →
      ((burst : Burst) → ends-on (other_of c) ≡ Some burst → IsApart k rest (length past) → ⊥) → (quiet_now ran : Bool) →
      is_quiet (sample_on shown c) ≡ quiet_now → runs k (on_channel c past) ≡ ran →
      at_begin k c (length (on_channel c past)) (quiet_both past) (waiting k (on_channel c past)) (not quiet_now && not ran) ≡ []
  at-begin-none three rest c g late true ran is-quiet is-run = refl
  at-begin-none three rest c g late false true is-quiet is-run = refl
  at-begin-none three rest c g late false false is-quiet is-run = begin-clean three rest c g late is-quiet is-run

  channel-none : (three : 3 ≤ k) (rest : List WholeBurst) (c : Channel) → Goes k rest (shown ∷ past) →
      ((burst : Burst) → ends-on (other_of c) ≡ Some burst → IsApart k rest (length past) → ⊥) →
      ((burst : Burst) → ends-on c ≡ Some burst → ended_so k c (answered k (waiting k (on_channel c past)) burst.first) burst ≡ []) →
      known_on k c (quiet_both past) (on_channel c (shown ∷ past)) ≡ []
  channel-none three rest c g late right =
      ap (λ xs. xs ++ at_begin k c (length (on_channel c past)) (quiet_both past) (waiting k (on_channel c past)) (begins k (on_channel c (shown ∷ past))))
      (at-end-none c (waiting k (on_channel c past)) (ends-on c) right)
      ∙ at-begin-none three rest c g late (is_quiet (sample_on shown c)) (runs k (on_channel c past)) refl refl

  overlap-none : (rest : List WholeBurst) → Goes k rest (shown ∷ past) → (a b : Bool) → is_quiet shown.a ≡ a → is_quiet shown.b ≡ b →
      breach_where ((not a && not b) && not (overlaps past)) A Overlap (length past) ≡ []
  overlap-none rest g true b is-a is-b = refl
  overlap-none rest g false true is-a is-b = refl
  overlap-none rest g false false is-a is-b =
      absurd (g.one A (runs-pulse k shown.a (on_channel A past) is-a) (runs-pulse k shown.b (on_channel B past) is-b))

  -- ---- both channels of a tick

  -- what the tick leaves before it, and that nothing became known in it
  record StepsBack : Type 0 where
    before : Goes k (row k past) past
    clean : known_now k (shown ∷ past) ≡ []
    older : AreInOrder k (row k past)

  now-none : (three : 3 ≤ k) (rest : List WholeBurst) → Goes k rest (shown ∷ past) →
      ((c : Channel) (burst : Burst) → ends-on (other_of c) ≡ Some burst → IsApart k rest (length past) → ⊥) →
      ((c : Channel) (burst : Burst) → ends-on c ≡ Some burst → ended_so k c (answered k (waiting k (on_channel c past)) burst.first) burst ≡ []) →
      known_now k (shown ∷ past) ≡ []
  now-none three rest g late right =
      ap (λ xs. xs ++ (known_on k A (quiet_both past) (on_channel A (shown ∷ past)) ++ known_on k B (quiet_both past) (on_channel B (shown ∷ past))))
      (overlap-none rest g (is_quiet shown.a) (is_quiet shown.b) refl refl)
      ∙ ap (λ xs. xs ++ known_on k B (quiet_both past) (on_channel B (shown ∷ past))) (channel-none three rest A g (late A) (right A))
      ∙ channel-none three rest B g (late B) (right B)

  step-none : (three : 3 ≤ k) → ((c : Channel) → ends-on c ≡ None) → Goes k (row k past) (shown ∷ past) → AreInOrder k (row k past) → StepsBack
  step-none three none g all = record {
    before = back-none (row k past) none g;
    clean = now-none three (row k past) g (λ c burst is apart. none-some burst (sym (none (other_of c)) ∙ is))
        (λ c burst is. absurd (none-some burst (sym (none c) ∙ is)));
    older = all;
  }

  step-one : (three : 3 ≤ k) (c : Channel) (burst : Burst) → ends-on c ≡ Some burst → ends-on (other_of c) ≡ None →
      Goes k (record { channel = c; burst = burst } ∷ row k past) (shown ∷ past) → AreInOrder k (record { channel = c; burst = burst } ∷ row k past) → StepsBack
  step-one three c burst is none g all =
      let end = an-end k (sample_on shown c) (on_channel c past) burst is in
      let waits : waiting k (on_channel c past) ≡ waits_on k c (row k past) = waiting-row k c past in
      let right : ended_so k c (answered k (waiting k (on_channel c past)) burst.first) burst ≡ [] =
      subst (λ w. ended_so k c (answered k w burst.first) burst ≡ []) (sym waits) all.0.right in
      record {
        before = back-one c burst (row k past) is none waits all.0 g;
        clean = now-none three (record { channel = c; burst = burst } ∷ row k past) g
            (λ e other at apart. omega (arith, apart, end.end, length-on_channel c past))
            (λ e other at. elim (which c e) [
              | inl same ↦ (let found : Some burst ≡ Some other = sym is ∙ subst (λ d. ends-on d ≡ Some other) same at in
                  subst (λ d. ended_so k d (answered k (waiting k (on_channel d past)) other.first) other ≡ []) (sym same)
                  (subst (λ (b : Burst). ended_so k c (answered k (waiting k (on_channel c past)) b.first) b ≡ []) (same_Some burst other found) right))
              | inr beside ↦ absurd (none-some other (sym none ∙ subst (λ d. ends-on d ≡ Some other) beside at))
            ]);
        older = all.1;
      }

  step-by : (three : 3 ≤ k) (a b : Option Burst) → ends-on A ≡ a → ends-on B ≡ b → Goes k (pushed B b (pushed A a (row k past))) (shown ∷ past) →
      AreInOrder k (pushed B b (pushed A a (row k past))) → StepsBack
  step-by three None None is-a is-b g all = step-none three none g all
    where
      none : (c : Channel) → ends-on c ≡ None
      none A = is-a
      none B = is-b
  step-by three (Some a) None is-a is-b g all = step-one three A a is-a is-b g all
  step-by three None (Some b) is-a is-b g all = step-one three B b is-b is-a g all
  step-by three (Some a) (Some b) is-a is-b g all = absurd (never-both a b (row k past) is-a is-b all.0)

  step : (three : 3 ≤ k) → Goes k (row k (shown ∷ past)) (shown ∷ past) → AreInOrder k (row k (shown ∷ past)) → StepsBack
  step three g all =
      let more : row k (shown ∷ past) ≡ pushed B (ends-on B) (pushed A (ends-on A) (row k past)) = row-more k shown past (ends-on A) (ends-on B) refl refl in
      step-by three (ends-on A) (ends-on B) refl refl (subst (λ r. Goes k r (shown ∷ past)) more g) (subst (AreInOrder k) more all)

-- ---- the whole past

known-clean : (k : ℕ) (past : List Pair) → 3 ≤ k → Goes k (row k past) past → AreInOrder k (row k past) → known k past ≡ []
unfolding known
known-clean k [] three g all = refl
known-clean k (shown ∷ past) three g all =
    let back : StepsBack k shown past = step k shown past three g all in
    ap (λ xs. xs ++ known_now k (shown ∷ past)) (known-clean k past three back.before back.older) ∙ back.clean

open-none : (k : ℕ) (c : Channel) (past : List Sample) → runs k past ≡ false → open_burst k c past ≡ []
open-none k c past off = ap (λ b. breach_where b c Open (first_tick k past)) off

pub judged-clean : (k : ℕ) (past : List Pair) → 3 ≤ k → ((c : Channel) → runs k (on_channel c past) ≡ false) → AreInOrder k (reverse (bursts k past)) →
    breaches k past ≡ []
unfolding breaches
judged-clean k past three off all =
    let never : (c : Channel) → runs k (on_channel c past) ≡ true → ⊥ = λ c ran. true≢false (sym ran ∙ off c) in
    let g : Goes k (row k past) past = record {
      apart = λ c ran. absurd (never c ran);
      prompt = λ c ran. absurd (never c ran);
      one = λ c ran other. never c ran;
    } in
    ap (λ xs. xs ++ open_bursts k past) (known-clean k past three g (subst (AreInOrder k) (row-is k past) all))
    ∙ ap (λ xs. xs ++ open_burst k B (on_channel B past)) (open-none k A (on_channel A past) (off A))
    ∙ open-none k B (on_channel B past) (off B)
