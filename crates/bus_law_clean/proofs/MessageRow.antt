-- The bursts of a message that was sent whole follow one another in order, and what then waits for an answer.
use Rattle.std.proofs.Common.{◌≡◌, ℕ, ◌+◌, ◌-◌, ◌*◌, ◌%◌, ◌≤◌, List, [], ◌∷◌, ◌++◌, length, refl, ap, sym, subst, ◌∙◌, arith}
use Rattle.std.proofs.lemmas.Bool.Decides.{nat_tests}
use Rattle.std.proofs.lemmas.Option.{none-some}
use Rattle.std.specs.List.{list_any}
use Rattle.std.specs.Prelude.{Bool, true, false, ◌||◌, nat_lt, if◌then◌else◌, is_none, Option, Some, None, IfSome}
use Rattle.bus_base.specs.Samples.{same_channel}
use Rattle.bus_base.specs.declared.samples.Channel.{Channel}
use Rattle.bus_base.specs.declared.samples.Channel.TheVariants.{A, B}
use Rattle.bus_words.specs.declared.word.Word.{Word}
use Rattle.bus_line.specs.Past.{Burst, end_of}
use Rattle.bus_line.specs.Channels.{WholeBurst}
use Rattle.bus_formats.specs.Readings.{read_answer}
use Rattle.bus_formats.specs.declared.plan.Kind.{Kind}
use Rattle.bus_law_duties.specs.Words.{whole_slots}
use Rattle.bus_monitor.specs.Messages.{Waiting, is_answer, opens, opening, waits, waits_after, answer_read, message_of}
use Rattle.bus_rules.specs.Breaches.{breach_where, answered, is_damaged, longest_burst, longest_response, is_bad_reply, taken_so, ended_so}
use Rattle.bus_rules.specs.declared.breach.Rule.TheVariants.{Word as WordRule, Long, Unknown, Reply}
use Rattle.bus_law_clean.specs.Bursts.{word_ticks, whole_burst}
use Rattle.bus_law_clean.proofs.AnswerRead.{IsDue}
use Rattle.bus_law_judge.specs.Rows.{waits_on, IsApart, FollowsInOrder}

none-damaged : (words : List Word) → list_any is_none (whole_slots words) ≡ false
none-damaged [] = refl
none-damaged (word ∷ words) = none-damaged words

no-rest : (n : ℕ) → (40 * n + 0) % 40 ≡ 0
no-rest n = omega arith

undamaged : (c : Channel) (start : ℕ) (words : List Word) → is_damaged (whole_burst c start words).burst ≡ false
undamaged c start words =
    ap (λ n. nat_lt 0 n || list_any is_none (whole_slots words)) (no-rest (length (whole_slots words))) ∙ none-damaged words

same-own : (c : Channel) → same_channel c c ≡ true
same-own A = refl
same-own B = refl

module _ (k : ℕ) (c : Channel) where
  -- what waits on the channel of a burst after it
  pub waits-own : (start : ℕ) (words : List Word) (row : List WholeBurst) →
      waits_on k c (whole_burst c start words ∷ row) ≡ waits k (waits_on k c row) (whole_burst c start words).burst
  waits-own start words row =
      ap (λ (b : Bool). if b then waits k (waits_on k c row) (whole_burst c start words).burst else waits_on k c row) (same-own c)

  right : (start : ℕ) (words : List Word) (w : Option Waiting) → word_ticks words ≤ 1600 → taken_so k c w (whole_burst c start words).burst ≡ [] →
      ended_so k c w (whole_burst c start words).burst ≡ []
  right start words w short taken =
      let long : nat_lt longest_burst (40 * length (whole_slots words) + 0) ≡ false = grind (arith, nat_tests, short) in
      ap (λ b. breach_where b c WordRule start
      ++ (breach_where (nat_lt longest_burst (40 * length (whole_slots words) + 0)) c Long start ++ taken_so k c w (whole_burst c start words).burst))
      (undamaged c start words)
      ∙ ap (λ b. breach_where b c Long start ++ taken_so k c w (whole_burst c start words).burst) long
      ∙ taken

  -- ---- the command

  opening-is : (start : ℕ) (words : List Word) (kind : Kind) → message_of (whole_slots words) 0 ≡ Some kind → opening k (whole_burst c start words).burst ≡ Some kind
  opening-is start words kind opens-it = ap (message_of (whole_slots words)) (no-rest (length (whole_slots words))) ∙ opens-it

  none-waits : (w : Option Waiting) (burst : Burst) → answered k w burst.first ≡ None → waits k w burst ≡ opens k burst (opening k burst)
  none-waits None burst none = refl
  none-waits (Some w) burst none = by-test (is_answer k w burst.first) none
    where
      by-test : (b : Bool) → (if b then Some w else None) ≡ None →
          (if b then waits_after k w (end_of burst) (answer_read k w burst) else opens k burst (opening k burst)) ≡ opens k burst (opening k burst)
      by-test true is = absurd (none-some w (sym is))
      by-test false is = refl

  module _ (row : List WholeBurst) (start : ℕ) (words : List Word) (kind : Kind) (opens-it : message_of (whole_slots words) 0 ≡ Some kind)
      (short : word_ticks words ≤ 1600) (apart : IsApart k row start) (late : answered k (waits_on k c row) start ≡ None) where
    pub command-follows : FollowsInOrder k row (whole_burst c start words)
    command-follows = record {
      apart = apart;
      prompt = subst (λ o. IfSome o (λ message. start - message.from ≤ longest_response)) (sym late) tt;
      right = subst (λ w. ended_so k c w (whole_burst c start words).burst ≡ []) (sym late)
          (right start words None short (ap (λ (o : Option Kind). breach_where (is_none o) c Unknown start) (opening-is start words kind opens-it)));
    }

    pub command-waits : waits_on k c (whole_burst c start words ∷ row) ≡ opens k (whole_burst c start words).burst (Some kind)
    command-waits =
        waits-own start words row ∙ none-waits (waits_on k c row) (whole_burst c start words).burst late
        ∙ ap (opens k (whole_burst c start words).burst) (opening-is start words kind opens-it)

  -- ---- an answer

  module _ (row : List WholeBurst) (w : Waiting) (waiting : waits_on k c row ≡ Some w) (start : ℕ) (words : List Word)
      (soon : start ≤ w.from + 20) (due : IsDue (read_answer w.kind w.part (whole_slots words) 0)) (short : word_ticks words ≤ 1600)
      (apart : IsApart k row start) where
    in-time : is_answer k w start ≡ true
    in-time = grind (arith, nat_tests, soon)

    answered-is : answered k (waits_on k c row) start ≡ Some w
    answered-is = ap (λ o. answered k o start) waiting ∙ ap (λ (b : Bool). if b then Some w else None) in-time

    reading-is : answer_read k w (whole_burst c start words).burst ≡ read_answer w.kind w.part (whole_slots words) 0
    reading-is = ap (read_answer w.kind w.part (whole_slots words)) (no-rest (length (whole_slots words)))

    pub answer-follows : FollowsInOrder k row (whole_burst c start words)
    answer-follows = record {
      apart = apart;
      prompt = subst (λ o. IfSome o (λ message. start - message.from ≤ longest_response)) (sym answered-is) (omega (arith, soon));
      right = subst (λ o. ended_so k c o (whole_burst c start words).burst ≡ []) (sym answered-is)
          (right start words (Some w) short (ap (λ r. breach_where (is_bad_reply r) c Reply start) reading-is ∙ ap (λ b. breach_where b c Reply start) due));
    }

    pub answer-waits : waits_on k c (whole_burst c start words ∷ row)
        ≡ waits_after k w (start + (40 * length (whole_slots words) + 0)) (read_answer w.kind w.part (whole_slots words) 0)
    answer-waits =
        waits-own start words row
        ∙ ap (λ o. waits k o (whole_burst c start words).burst) waiting
        ∙ ap (λ (b : Bool). if b then waits_after k w (end_of (whole_burst c start words).burst) (answer_read k w (whole_burst c start words).burst)
        else opens k (whole_burst c start words).burst (opening k (whole_burst c start words).burst)) in-time
        ∙ ap (waits_after k w (end_of (whole_burst c start words).burst)) reading-is
