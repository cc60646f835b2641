-- A block is taken only in a tick in which a burst's end is known.
use Rattle.std.proofs.Common.{◌≡◌, ◌⊎◌, inl, inr, ℕ, ◌+◌, ◌<◌, Bool, true, false, List, ◌∷◌, ◌++◌, length, Option, Some, None, refl, sym, ap, ◌∙◌, subst, arith, length-append}
use Rattle.std.proofs.lemmas.Bool.{true≢false}
use Rattle.std.proofs.lemmas.Option.{none-some, same_Some}
use Rattle.std.specs.Prelude.{if◌then◌else◌, IsSome}
use Rattle.std.specs.Option.{option_or}
use Rattle.bus_base.specs.declared.samples.Channel.{Channel}
use Rattle.bus_base.specs.declared.samples.Channel.TheVariants.{A, B}
use Rattle.bus_base.specs.declared.samples.Pair.{Pair}
use Rattle.bus_line.specs.Channels.{WholeBurst, on_channel, burst_of, burst_now, bursts}
use Rattle.bus_line.specs.Past.{Burst, ended_now}
use Rattle.bus_formats.specs.Plans.{TerminalData, StationData}
use Rattle.bus_model.specs.Control.{OutsideTake, hear_more, hearing_after}
use Rattle.bus_model.specs.Hearing.{Moment, Hearing, heard_on}
use Rattle.bus_model.specs.Memory.{TimedLoad}
use Rattle.bus_model.specs.Orders.{Taken}
use Rattle.bus_model.specs.Standing.{Standing, Handled, runs_out, mark_on, ignored_from}
use Rattle.bus_model.specs.Terminal.{order_of, order_on, running_out, order_now, standing_after, taken_by, took_now}
use Rattle.bus_law_run.specs.Blocks.{heard_newest, taken_newest}
use Rattle.bus_law_run.proofs.HeardSince.{now-since, ended-shown}

-- ---- what is handled, where a block is taken

first-of : (a b r : Option Handled) (order : Handled) → option_or a (option_or b r) ≡ Some order → IsSome a ⊎ (IsSome b ⊎ (r ≡ Some order))
first-of (Some x) b r order is = inl refl
first-of None (Some y) r order is = inr (inl refl)
first-of None None r order is = inr (inr is)

outs : (b : Bool) (order : Handled) → (if b then Some runs_out else None) ≡ Some order → order ≡ runs_out
outs true order is = sym (same_Some runs_out order is)
outs false order is = absurd (none-some order is)

ends-if : (b : Bool) (k : ℕ) (terminal : TerminalData) (s : Standing) (c : Channel) (ended : Option Burst) →
    IsSome (if b then None else order_of k terminal s c ended) → IsSome ended
ends-if true k terminal s c ended some = absurd (true≢false (sym some))
ends-if false k terminal s c None some = absurd (true≢false (sym some))
ends-if false k terminal s c (Some burst) some = refl

module _ (k : ℕ) (terminal : TerminalData) (loads : List TimedLoad) (hearing : Hearing) (now : Moment) (block : Taken) where
  abbrev s : Standing
  s = standing_after k terminal loads hearing

  -- the end of a burst is known on this channel
  abbrev EndsOn : Channel → Type 0
  EndsOn c = IsSome (ended_now k (heard_on c (now ∷ hearing.ticks)))

  ends-on : (c : Channel) → IsSome (order_on k terminal (now ∷ hearing.ticks) s c) → EndsOn c
  ends-on c some = ends-if (ignored_from k (heard_on c hearing.ticks) (mark_on s.sent c)) k terminal s c _ some

  ends-by : (order : Option Handled) → order_now k terminal (now ∷ hearing.ticks) s ≡ order →
      taken_by k terminal loads (length hearing.ticks) now.has_items s order ≡ Some block → EndsOn A ⊎ EndsOn B
  ends-by None is taken = absurd (none-some block taken)
  ends-by (Some order) is taken =
      elim (first-of (order_on k terminal (now ∷ hearing.ticks) s A) (order_on k terminal (now ∷ hearing.ticks) s B)
      (running_out k terminal (now ∷ hearing.ticks) s) order is) [
        | inl a ↦ inl (ends-on A a)
        | inr later ↦ elim later [
          | inl b ↦ inr (ends-on B b)
          | inr out ↦ (let none : taken_by k terminal loads (length hearing.ticks) now.has_items s (Some runs_out) ≡ Some block =
              subst (λ o. taken_by k terminal loads (length hearing.ticks) now.has_items s (Some o) ≡ Some block) (outs _ order out) taken in
              absurd (none-some block none))
        ]
      ]

  pub ends-where-taken : took_now k terminal loads (hear_more hearing now) ≡ Some block → EndsOn A ⊎ EndsOn B
  ends-where-taken taken = ends-by (order_now k terminal (now ∷ hearing.ticks) s) refl taken

-- ---- so a burst is found in that tick

found-one : (c : Channel) (ended : Option Burst) → IsSome ended → length (burst_of c ended) ≡ 1
found-one c None some = absurd (true≢false (sym some))
found-one c (Some burst) some = refl

more-bursts : (k : ℕ) (shown : Pair) (past : List Pair) →
    IsSome (ended_now k (on_channel A (shown ∷ past))) ⊎ IsSome (ended_now k (on_channel B (shown ∷ past))) →
    length (bursts k past) < length (bursts k (shown ∷ past))
unfolding bursts
more-bursts k shown past some =
    let a : List WholeBurst = burst_now k A (shown ∷ past) in
    let b : List WholeBurst = burst_now k B (shown ∷ past) in
    let all : length (bursts k (shown ∷ past)) ≡ length (bursts k past) + (length a + length b) =
    length-append (bursts k past) (a ++ b) ∙ ap (λ n. length (bursts k past) + n) (length-append a b) in
    elim some [
      | inl on-a ↦ (let one = found-one A (ended_now k (on_channel A (shown ∷ past))) on-a in omega (arith, all, one))
      | inr on-b ↦ (let one = found-one B (ended_now k (on_channel B (shown ∷ past))) on-b in omega (arith, all, one))
    ]

pub burst-where-taken : (k : ℕ) (station : StationData) (starts : Bool) (loads : List TimedLoad) (outside : List OutsideTake) (shown : Pair) (past : List Pair)
    (block : Taken) → taken_newest k station starts loads outside shown past ≡ Some block → length (bursts k past) < length (bursts k (shown ∷ past))
burst-where-taken k station starts loads outside shown past block taken =
    let hearing : Hearing = hearing_after k station starts loads outside past in
    let now : Moment = heard_newest k station starts loads outside shown past in
    let since = now-since k station starts loads outside shown past in
    more-bursts k shown past (elim (ends-where-taken k station.terminal loads hearing now block taken) [
      | inl a ↦ inl (ended-shown k (shown ∷ past) (now ∷ hearing.ticks) A since a)
      | inr b ↦ inr (ended-shown k (shown ∷ past) (now ∷ hearing.ticks) B since b)
    ])
