-- What a message that was sent whole leaves of the row of bursts, by which of its answers are shown.
use Rattle.std.proofs.Common.{◌≡◌, ℕ, ◌+◌, ◌≤◌, List, [], ◌∷◌, refl, ap, sym, subst, ◌∙◌, arith}
use Rattle.std.proofs.lemmas.Bool.{true≢false}
use Rattle.std.proofs.lemmas.Option.{none-some, same_Some}
use Rattle.std.specs.Prelude.{Bool, false, if◌then◌else◌, is_some, Option, Some, None}
use Rattle.bus_base.specs.Samples.{same_channel}
use Rattle.bus_base.specs.declared.samples.Channel.{Channel}
use Rattle.bus_base.specs.declared.samples.Part.{Part}
use Rattle.bus_base.specs.declared.samples.Part.TheVariants.{First, Second}
use Rattle.bus_words.specs.declared.word.Word.{Word}
use Rattle.bus_line.specs.Channels.{WholeBurst}
use Rattle.bus_formats.specs.Forms.{answers_of}
use Rattle.bus_formats.specs.Readings.{read_answer}
use Rattle.bus_formats.specs.declared.form.Outcome.{Outcome}
use Rattle.bus_formats.specs.declared.form.Outcome.TheVariants.{Clear, Sent, Declined, Passed, Illegal, Busy, NoResponse, BadReply, Abandoned, Yielded}
use Rattle.bus_formats.specs.declared.form.Reading.{Reading}
use Rattle.bus_formats.specs.declared.form.Reading.TheVariants.{Good, Ends}
use Rattle.bus_formats.specs.declared.form.Shape.{Shape}
use Rattle.bus_formats.specs.declared.plan.Kind.{Kind}
use Rattle.bus_model.specs.Endings.{Passing, Ending, second_read, good_ending, read_ending, first_read, ending_by}
use Rattle.bus_model.specs.Attempts.{is_offer}
use Rattle.bus_model.specs.Strikes.{ShownAnswer, burst_end}
use Rattle.bus_law_duties.proofs.Fields.{skips}
use Rattle.bus_law_duties.specs.Words.{whole_slots}
use Rattle.bus_monitor.specs.Messages.{Waiting, message_of, opens, waits_after}
use Rattle.bus_rules.specs.Breaches.{answered}
use Rattle.bus_law_judge.specs.Rows.{waits_on, IsApart, AreInOrder}
use Rattle.bus_law_clean.specs.Bursts.{word_ticks, whole_burst}
use Rattle.bus_law_clean.specs.Messages.{MessageKeeps}
use Rattle.bus_law_clean.proofs.AnswerRead.{IsDue}
use Rattle.bus_law_clean.proofs.MessageRow.{command-follows, command-waits, answer-follows, answer-waits}

-- an answer of this message, from this tick on: after the end of the burst before, in time, and due
pub record IsSentWell (kind : Kind) (part : Part) (end start : ℕ) (words : List Word) : Type 0 where
  pub early : end + 4 ≤ start
  pub soon : start ≤ end + 20
  pub due : IsDue (read_answer kind part (whole_slots words) 0)
  pub short : word_ticks words ≤ 1600

module _ (k : ℕ) (low : k ≤ 3) (row : List WholeBurst) (c : Channel) (start : ℕ) (kind : Kind) (sent : List Word)
    (row-ok : AreInOrder k row) (apart : IsApart k row start) (late : answered k (waits_on k c row) start ≡ None)
    (opens-it : message_of (whole_slots sent) 0 ≡ Some kind) (short : word_ticks sent ≤ 1600) where
  abbrev pub command : WholeBurst
  command = whole_burst c start sent

  abbrev pub end : ℕ
  end = start + word_ticks sent

  order-one : AreInOrder k (command ∷ row)
  order-one = (command-follows k c row start sent kind opens-it short apart late, row-ok)

  waits-one : waits_on k c (command ∷ row) ≡ opens k command.burst (Some kind)
  waits-one = command-waits k c row start sent kind opens-it short apart late

  after-one : (next : ℕ) → end + 4 ≤ next → IsApart k (command ∷ row) next
  after-one next is = omega (arith, is, low)

  beside-one : (e : Channel) → same_channel c e ≡ false → waits_on k e (command ∷ row) ≡ waits_on k e row
  beside-one e other = skips (same_channel c e) _ _ other

  -- ---- no answer is expected

  pub keeps-sent : (answers_of kind).first ≡ None → (first second : Option ShownAnswer) → first ≡ None →
      MessageKeeps k row c (command ∷ []) end (ending_by k kind None end first second None)
  keeps-sent none first second no-first = record {
    in_order = order-one;
    apart = after-one;
    waits = λ w is. absurd (none-some w (sym (waits-one
        ∙ ap (λ o. if is_some o then Some record { first = start; kind = kind; part = First; from = end; statuses = [] } else None) none) ∙ is));
    others = beside-one;
    runs_on = refl;
    passes = λ p is. absurd (none-some p is);
  }

  -- ---- an answer is expected

  module _ (shape : Shape) (expects : (answers_of kind).first ≡ Some shape) where
    abbrev asked : Waiting
    asked = record { first = start; kind = kind; part = First; from = end; statuses = [] }

    asks : waits_on k c (command ∷ row) ≡ Some asked
    asks = waits-one ∙ ap (λ o. if is_some o then Some asked else None) expects

    -- none came
    pub keeps-unanswered : (second : Option ShownAnswer) → MessageKeeps k row c (command ∷ []) end (ending_by k kind None end None second (Some shape))
    keeps-unanswered second = record {
      in_order = order-one;
      apart = after-one;
      waits = λ w is. (subst (λ (v : Waiting). v.from ≤ end) (same_Some asked w (sym asks ∙ is)) (omega arith), refl);
      others = beside-one;
      runs_on = refl;
      passes = λ p is. absurd (none-some p is);
    }

    -- one came
    module _ (start-a : ℕ) (words-a : List Word) (a : IsSentWell kind First end start-a words-a) where
      abbrev pub first-burst : WholeBurst
      first-burst = whole_burst c start-a words-a

      abbrev pub end-a : ℕ
      end-a = start-a + word_ticks words-a

      apart-a : IsApart k (command ∷ row) start-a
      apart-a = after-one start-a a.early

      order-two : AreInOrder k (first-burst ∷ command ∷ row)
      order-two = (answer-follows k c (command ∷ row) asked asks start-a words-a a.soon a.due a.short apart-a, order-one)

      waits-two : waits_on k c (first-burst ∷ command ∷ row) ≡ waits_after k asked end-a (read_answer kind First (whole_slots words-a) 0)
      waits-two = answer-waits k c (command ∷ row) asked asks start-a words-a a.soon a.due a.short apart-a

      after-two : (next : ℕ) → end-a + 4 ≤ next → IsApart k (first-burst ∷ command ∷ row) next
      after-two next is = omega (arith, is, low)

      beside-two : (e : Channel) → same_channel c e ≡ false → waits_on k e (first-burst ∷ command ∷ row) ≡ waits_on k e row
      beside-two e other = skips (same_channel c e) _ _ other ∙ beside-one e other

      closed-keeps : (ending : Ending) → waits_on k c (first-burst ∷ command ∷ row) ≡ None → ending.runs_on ≡ None →
          ((p : Passing) → ending.passes ≡ Some p → p.tick ≡ end-a + 40) → MessageKeeps k row c (first-burst ∷ command ∷ []) end-a ending
      closed-keeps ending closed none passing = record {
        in_order = order-two;
        apart = after-two;
        waits = λ w is. absurd (none-some w (sym closed ∙ is));
        others = beside-two;
        runs_on = none;
        passes = passing;
      }

      -- it ended the message
      module _ (first : ShownAnswer) (first-end : burst_end first.burst ≡ end-a) where
        ends-reading : (offer : Bool) (outcome : Outcome) (status : Option ℕ) → IsDue (Ends outcome status) → waits_on k c (first-burst ∷ command ∷ row) ≡ None →
            MessageKeeps k row c (first-burst ∷ command ∷ []) end-a (read_ending k kind first offer outcome status)
        ends-reading offer Passed status due closed =
            closed-keeps (read_ending k kind first offer Passed status) closed refl
            (λ p is. sym (ap (λ (q : Passing). q.tick) (same_Some _ p is)) ∙ ap (λ n. n + 40) first-end)
        ends-reading offer (BadReply part) status due closed = absurd (true≢false due)
        ends-reading offer Clear status due closed = closed-keeps (read_ending k kind first offer Clear status) closed refl (λ p is. absurd (none-some p is))
        ends-reading offer Sent status due closed = closed-keeps (read_ending k kind first offer Sent status) closed refl (λ p is. absurd (none-some p is))
        ends-reading offer Declined status due closed = closed-keeps (read_ending k kind first offer Declined status) closed refl (λ p is. absurd (none-some p is))
        ends-reading offer (Illegal part) status due closed = closed-keeps (read_ending k kind first offer (Illegal part) status) closed refl (λ p is. absurd (none-some p is))
        ends-reading offer (Busy part) status due closed = closed-keeps (read_ending k kind first offer (Busy part) status) closed refl (λ p is. absurd (none-some p is))
        ends-reading offer (NoResponse part) status due closed = closed-keeps (read_ending k kind first offer (NoResponse part) status) closed refl (λ p is. absurd (none-some p is))
        ends-reading offer Abandoned status due closed = closed-keeps (read_ending k kind first offer Abandoned status) closed refl (λ p is. absurd (none-some p is))
        ends-reading offer Yielded status due closed = closed-keeps (read_ending k kind first offer Yielded status) closed refl (λ p is. absurd (none-some p is))

        abbrev kept-second : ℕ → Waiting
        kept-second status = record asked { part = Second; from = end-a; statuses = status ∷ [] }

        good-waits : (status : ℕ) (o : Option Shape) → (answers_of kind).second ≡ o → read_answer kind First (whole_slots words-a) 0 ≡ Good status →
            waits_on k c (first-burst ∷ command ∷ row) ≡ (if is_some o then Some (kept-second status) else None)
        good-waits status o awaited good =
            waits-two ∙ ap (waits_after k asked end-a) good ∙ ap (λ p. if is_some p then Some (kept-second status) else None) awaited

        -- a second one didn't come
        pub no-second : (reading : Reading) → read_answer kind First (whole_slots words-a) 0 ≡ reading → (o : Option Shape) → (answers_of kind).second ≡ o →
            MessageKeeps k row c (first-burst ∷ command ∷ []) end-a (first_read k kind first None reading)
        no-second (Ends outcome status) reads o awaited =
            ends-reading (is_offer kind) outcome status (subst IsDue reads a.due) (waits-two ∙ ap (waits_after k asked end-a) reads)
        no-second (Good status) reads None awaited =
            subst (λ s. MessageKeeps k row c (first-burst ∷ command ∷ []) end-a (good_ending k kind status first None s)) (sym awaited)
            (closed-keeps (good_ending k kind status first None None) (good-waits status None awaited reads) refl (λ p is. absurd (none-some p is)))
        no-second (Good status) reads (Some second-shape) awaited =
            subst (λ s. MessageKeeps k row c (first-burst ∷ command ∷ []) end-a (good_ending k kind status first None s)) (sym awaited) (record {
              in_order = order-two;
              apart = after-two;
              waits = λ w is. (
                subst (λ (v : Waiting). v.from ≤ end-a)
                    (same_Some (kept-second status) w (sym (good-waits status (Some second-shape) awaited reads) ∙ is)) (omega arith),
                refl,
              );
              others = beside-two;
              runs_on = refl;
              passes = λ p is. absurd (none-some p is);
            })

        -- a second one came
        module _ (status : ℕ) (reads : read_answer kind First (whole_slots words-a) 0 ≡ Good status) (second-shape : Shape)
            (awaited : (answers_of kind).second ≡ Some second-shape) (start-b : ℕ) (words-b : List Word) (b : IsSentWell kind Second end-a start-b words-b)
            (second : ShownAnswer) where
          abbrev pub second-burst : WholeBurst
          second-burst = whole_burst c start-b words-b

          abbrev pub end-b : ℕ
          end-b = start-b + word_ticks words-b

          asks-again : waits_on k c (first-burst ∷ command ∷ row) ≡ Some (kept-second status)
          asks-again = good-waits status (Some second-shape) awaited reads

          apart-b : IsApart k (first-burst ∷ command ∷ row) start-b
          apart-b = after-two start-b b.early

          reading-none : (reading : Reading) → waits_after k (kept-second status) end-b reading ≡ None
          reading-none (Good s) = refl
          reading-none (Ends outcome s) = refl

          closed : waits_on k c (second-burst ∷ first-burst ∷ command ∷ row) ≡ None
          closed =
              answer-waits k c (first-burst ∷ command ∷ row) (kept-second status) asks-again start-b words-b b.soon b.due b.short apart-b
              ∙ reading-none (read_answer kind Second (whole_slots words-b) 0)

          both-keep : (ending : Ending) → ending.runs_on ≡ None → ending.passes ≡ None →
              MessageKeeps k row c (second-burst ∷ first-burst ∷ command ∷ []) end-b ending
          both-keep ending none stays = record {
            in_order = (answer-follows k c (first-burst ∷ command ∷ row) (kept-second status) asks-again start-b words-b b.soon b.due b.short apart-b, order-two);
            apart = λ next is. omega (arith, is, low);
            waits = λ w is. absurd (none-some w (sym closed ∙ is));
            others = λ e other. skips (same_channel c e) _ _ other ∙ beside-two e other;
            runs_on = none;
            passes = λ p is. absurd (none-some p (sym stays ∙ is));
          }

          by-reading : (last : ℕ) (reading : Reading) → MessageKeeps k row c (second-burst ∷ first-burst ∷ command ∷ []) end-b (second_read k kind status last reading)
          by-reading last (Good s) = both-keep (second_read k kind status last (Good s)) refl refl
          by-reading last (Ends outcome s) = both-keep (second_read k kind status last (Ends outcome s)) refl refl

          pub with-second : MessageKeeps k row c (second-burst ∷ first-burst ∷ command ∷ []) end-b (first_read k kind first (Some second) (Good status))
          with-second =
              subst (λ s. MessageKeeps k row c (second-burst ∷ first-burst ∷ command ∷ []) end-b (good_ending k kind status first (Some second) s)) (sym awaited)
              (by-reading (burst_end second.burst) (read_answer kind Second second.burst.slots second.burst.rest))
