-- What a terminal keeps, sends and accepts doesn't depend on which subsystem is named behind it.
use Rattle.std.proofs.Common.{◌≡◌, ℕ, Bool, true, false, List, [], ◌∷◌, length, refl, ap, ◌∙◌}
use Rattle.std.specs.Prelude.{if◌then◌else◌, Option, Some, None}
use Rattle.std.specs.Option.{option_or}
use Rattle.bus_base.specs.Samples.{sample_on}
use Rattle.bus_base.specs.declared.samples.Channel.{Channel}
use Rattle.bus_base.specs.declared.samples.Channel.TheVariants.{A, B}
use Rattle.bus_base.specs.declared.samples.Sample.{Sample}
use Rattle.bus_words.specs.declared.word.Word.{Word}
use Rattle.bus_line.specs.Past.{Burst, ended_now}
use Rattle.bus_formats.specs.Plans.{TerminalData}
use Rattle.bus_model.specs.Commands.{Tail, unexpected, relay_from, carries, tail_of}
use Rattle.bus_model.specs.Hearing.{Moment, Hearing, heard_on}
use Rattle.bus_model.specs.Memory.{Memory, TimedLoad, with_loads}
use Rattle.bus_model.specs.Orders.{Duty, free, owes, promises, Order, last_order, obey_tail, kept, relayed}
use Rattle.bus_words.specs.Fields.{word_count}
use Rattle.bus_model.specs.Standing.{mark_on, Standing, Handled, obeys, settles, runs_out, ignored_from}
use Rattle.bus_model.specs.Terminal.{drive_duty, drive_of, order_by, order_of, order_on, running_out, order_now, kept_by, done_by, after_order, marked_by, ordered, after_tick, standing, drives, memory_after, accepted_by, accepted_on, accepted_of, accepted_now}

-- the terminal without its subsystem
abbrev pub bare : TerminalData → TerminalData
bare terminal = record terminal { subsystem = None }

module _ (t : TerminalData) where
  obey-tail-same : (m : Memory) (c : Channel) (command : ℕ) (may : Bool) (tail : Tail) →
      obey_tail (bare t) m c command may tail ≡ obey_tail t m c command may tail
  obey-tail-same m c command may unexpected = refl
  obey-tail-same m c command may (relay_from transmitter) = refl
  obey-tail-same m c command may (carries words) = refl

  kept-same : (m : Memory) (c : Channel) (command : ℕ) (words : Option (List ℕ)) → kept (bare t) m c command words ≡ kept t m c command words
  kept-same m c command None = refl
  kept-same m c command (Some words) = refl

  module _ (k : ℕ) where
    kept-by-same : (m : Memory) (c : Channel) (duty : Duty) (slots : List (Option Word)) (rest : ℕ) →
        kept_by k (bare t) m c duty slots rest ≡ kept_by k t m c duty slots rest
    kept-by-same m c free slots rest = refl
    kept-by-same m c (owes words acceptance) slots rest = refl
    kept-by-same m c (promises command transmitter) slots rest = kept-same m c command (relayed (word_count command) transmitter slots rest)

    done-by-same : (s : Standing) (m : Memory) (may : Bool) (handled : Handled) → done_by k (bare t) s m may handled ≡ done_by k t s m may handled
    done-by-same s m may (obeys c end order rest) =
        obey-tail-same m c order.command may (tail_of t.address order.command order.tail rest)
    done-by-same s m may (settles end slots rest) = kept-by-same m s.channel s.duty slots rest
    done-by-same s m may runs_out = refl

    order-by-same : (s : Standing) (c : Channel) (burst : Burst) (order : Option Order) → order_by k (bare t) s c burst order ≡ order_by k t s c burst order
    order-by-same s c burst None = refl
    order-by-same s c burst (Some order) = refl

    order-of-same : (s : Standing) (c : Channel) (burst : Option Burst) → order_of k (bare t) s c burst ≡ order_of k t s c burst
    order-of-same s c None = refl
    order-of-same s c (Some burst) = order-by-same s c burst (last_order t.address burst.slots)

    order-on-same : (past : List Moment) (s : Standing) (c : Channel) → order_on k (bare t) past s c ≡ order_on k t past s c
    order-on-same [] s c = refl
    order-on-same (now ∷ past) s c =
        ap (λ (o : Option Handled). if ignored_from k (heard_on c past) (mark_on s.sent c) then None else o)
        (order-of-same s c (ended_now k (heard_on c (now ∷ past))))

    order-now-same : (past : List Moment) (s : Standing) → order_now k (bare t) past s ≡ order_now k t past s
    order-now-same past s =
        ap (λ o. option_or o (option_or (order_on k (bare t) past s B) (running_out k (bare t) past s))) (order-on-same past s A)
        ∙ ap (λ o. option_or (order_on k t past s A) (option_or o (running_out k (bare t) past s))) (order-on-same past s B)

    drive-duty-same : (past : List Sample) (s : Standing) (duty : Duty) → drive_duty k (bare t) past s duty ≡ drive_duty k t past s duty
    drive-duty-same past s free = refl
    drive-duty-same past s (owes words acceptance) = refl
    drive-duty-same past s (promises command transmitter) = refl

    module _ (loads : List TimedLoad) where
      ordered-same : (tick : ℕ) (may : Bool) (s : Standing) (order : Option Handled) →
          ordered k (bare t) loads tick may s order ≡ ordered k t loads tick may s order
      ordered-same tick may s None = refl
      ordered-same tick may s (Some order) = ap (after_order s order) (done-by-same s (with_loads t.address tick loads s.memory) may order)

      after-tick-same : (now : Moment) (past : List Moment) (s : Standing) → after_tick k (bare t) loads now past s ≡ after_tick k t loads now past s
      after-tick-same now past s =
          ap (marked_by k t now past s)
          (ap (ordered k (bare t) loads (length past) now.has_items s) (order-now-same (now ∷ past) s)
          ∙ ordered-same (length past) now.has_items s (order_now k t (now ∷ past) s))

      pub standing-same : (m : Memory) (past : List Moment) → standing k (bare t) loads m past ≡ standing k t loads m past
      unfolding standing
      standing-same m [] = refl
      standing-same m (now ∷ past) =
          ap (after_tick k (bare t) loads now past) (standing-same m past) ∙ after-tick-same now past (standing k t loads m past)

      pub drives-same : (h : Hearing) → drives k (bare t) loads h ≡ drives k t loads h
      drives-same h =
          ap (drive_of k (bare t) h.ticks) (standing-same h.memory h.ticks)
          ∙ (let s = standing k t loads h.memory h.ticks in drive-duty-same (heard_on s.channel h.ticks) s s.duty)

      pub memory-same : (h : Hearing) → memory_after k (bare t) loads h ≡ memory_after k t loads h
      memory-same h = ap (λ (s : Standing). with_loads t.address (length h.ticks) loads s.memory) (standing-same h.memory h.ticks)

      accepted-by-same : (past : List Sample) (now : Sample) (s : Standing) (duty : Duty) →
          accepted_by k (bare t) loads past now s duty ≡ accepted_by k t loads past now s duty
      accepted-by-same past now s free = refl
      accepted-by-same past now s (owes words false) = refl
      accepted-by-same past now s (owes words true) = refl
      accepted-by-same past now s (promises command transmitter) = refl

      accepted-of-same : (m : Memory) (past : List Moment) → accepted_of k (bare t) loads m past ≡ accepted_of k t loads m past
      accepted-of-same m [] = refl
      accepted-of-same m (now ∷ past) =
          ap (accepted_on k (bare t) loads now past) (standing-same m past)
          ∙ (let s = standing k t loads m past in accepted-by-same (heard_on s.channel past) (sample_on now.shown s.channel) s s.duty)

      pub accepted-same : (h : Hearing) → accepted_now k (bare t) loads h ≡ accepted_now k t loads h
      accepted-same h = accepted-of-same h.memory h.ticks
