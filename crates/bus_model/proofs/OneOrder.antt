-- Where an order comes from, and that a promise that stands is newer than any command on the other channel.
use Rattle.std.proofs.Common.{◌≡◌, inl, inr, ℕ, suc, ◌+◌, ◌-◌, ◌/◌, ◌<◌, ◌≤◌, List, ◌∷◌, length, refl, sym, ap, subst, ◌∙◌, arith}
use Rattle.std.proofs.lemmas.Bool.{cases_Bool, cases_lt, and_parts}
use Rattle.std.specs.Prelude.{true, false, ◌&&◌, ◌==◌, nat_lt, nat_le, map, Option, Some, None}
use Rattle.std.specs.List.{range_with_len}
use Rattle.bus_base.specs.Samples.{sample_on}
use Rattle.bus_base.specs.declared.samples.Channel.{Channel}
use Rattle.bus_base.specs.declared.samples.Sample.{Sample}
use Rattle.bus_base.specs.declared.samples.Sample.TheVariants.{Plus, Minus, Quiet}
use Rattle.bus_formats.specs.Plans.{TerminalData}
use Rattle.bus_line.specs.Past.{Burst, quiet, stopped, runs, first_tick, slot_word, burst_from, newest_burst, ended_now, end_of, rest_of}
use Rattle.bus_formats.specs.Times.{relay_wait}
use Rattle.bus_model.specs.Memory.{Memory, TimedLoad}
use Rattle.bus_model.specs.Orders.{Order, last_order}
use Rattle.bus_model.specs.Hearing.{Moment, heard_on}
use Rattle.bus_model.specs.Standing.{Standing, mark_on, ignored_from, outrun, promised_on, Handled, obeys, settles, runs_out}
use Rattle.bus_model.specs.Terminal.{standing, order_by, order_of, order_on}
use Rattle.bus_line.proofs.PastLaws.{quiet-le}
use Rattle.bus_model.proofs.Options.{cases-option}
use Rattle.std.proofs.lemmas.Option.{none-some, same_Some}
use Rattle.bus_model.proofs.Slots.{slot-later, bare-none}
use Rattle.bus_model.proofs.Marked.{IsMarked, heard-long}
use Rattle.bus_model.proofs.Newest.{marked-always}

-- an order that a burst on a channel brings: its last command, with a mark on the channel and none newer on the other; or a promise there
abbrev pub Seen : ℕ → ℕ → Standing → Channel → Handled → Type 0
Seen k tick s c (obeys on e last rest) =
    (on ≡ c) × (e + k ≤ tick) × ((m : ℕ) × (mark_on s.addressed c ≡ Some m)) × (outrun s c ≡ false)
Seen k tick s c (settles e slots rest) = promised_on k s c ≡ true
Seen k tick s c runs_out = ⊥

-- the burst that ended in a tick is of the ticks before it
ended-quiet : (k : ℕ) (x : Sample) (past : List Sample) → quiet (x ∷ past) ≡ suc k → (x ≡ Quiet) × (quiet past ≡ k)
ended-quiet k Plus past h = absurd (omega (arith, h))
ended-quiet k Minus past h = absurd (omega (arith, h))
ended-quiet k Quiet past h = (refl, omega (arith, h))

-- an unmarked channel that isn't ignored ends a burst without a command for the terminal
unmarked-ends : (own k : ℕ) (past : List Sample) (sent : Option ℕ) → IsMarked own k past sent None → quiet past ≡ k →
    0 < stopped (Quiet ∷ past) → ignored_from k past sent ≡ false → last_order own (newest_burst k (Quiet ∷ past)).slots ≡ None
unfolding burst_from
unmarked-ends own k past sent before q some free =
    let within : quiet past ≤ length past = quiet-le past in
    let stop : stopped (Quiet ∷ past) ≡ stopped past = omega (arith, within) in
    let running : runs k past ≡ true = grind (arith, q, some, stop) in
    bare-none own (slot_word (Quiet ∷ past) (first_tick k past)) 0 ((stopped (Quiet ∷ past) - first_tick k past) / 40)
    (λ i low high. rw (slot-later Quiet past (first_tick k past) i (omega (arith, high, stop)))
    (before.bare running free refl i (omega (arith, high, stop))))

-- a burst with a command is a burst of forty ticks at least
ordered-end : (own k : ℕ) (past : List Sample) (last : Order) → last_order own (newest_burst k past).slots ≡ Some last →
    end_of (newest_burst k past) ≡ stopped past
unfolding burst_from
ordered-end own k past last h =
    elim (cases_lt (stopped past - first_tick k past) 40) [
      | inl short ↦
          let none : (stopped past - first_tick k past) / 40 ≡ 0 = omega (arith, short) in
          absurd (none-some last (sym (ap (λ n. last_order own (map (slot_word past (first_tick k past)) (range_with_len 0 n))) none) ∙ h))
      | inr long ↦ omega (arith, long)
    ]

-- a command in a burst that ended is obeyed where none newer came
seen-command : (k : ℕ) (t : TerminalData) (s : Standing) (c : Channel) (past : List Sample) (tick : ℕ) (last : Order) (h : Handled) →
    IsMarked t.address k past (mark_on s.sent c) (mark_on s.addressed c) → quiet past ≡ k → 0 < stopped (Quiet ∷ past) →
    ignored_from k past (mark_on s.sent c) ≡ false → length past ≡ tick → last_order t.address (newest_burst k (Quiet ∷ past)).slots ≡ Some last →
    order_by k t s c (newest_burst k (Quiet ∷ past)) (Some last) ≡ Some h → Seen k tick s c h
seen-command k t s c past tick last h marked q some free long found given =
    elim (cases_Bool (outrun s c)) [
      | inl older ↦
          let none : order_by k t s c (newest_burst k (Quiet ∷ past)) (Some last) ≡ None = rw older refl in
          absurd (none-some h (sym none ∙ given))
      | inr newer ↦
          let within : quiet past ≤ length past = quiet-le past in
          let ended : end_of (newest_burst k (Quiet ∷ past)) ≡ stopped (Quiet ∷ past) = ordered-end t.address k (Quiet ∷ past) last found in
          let order : Handled = obeys c (end_of (newest_burst k (Quiet ∷ past))) last (rest_of (newest_burst k (Quiet ∷ past))) in
          let by : order_by k t s c (newest_burst k (Quiet ∷ past)) (Some last) ≡ Some order = rw newer refl in
          let same : order ≡ h = same_Some _ _ (sym by ∙ given) in
          elim (cases-option (mark_on s.addressed c)) [
            | inl none ↦
                let bare : last_order t.address (newest_burst k (Quiet ∷ past)).slots ≡ None =
                unmarked-ends t.address k past (mark_on s.sent c) (subst (IsMarked t.address k past (mark_on s.sent c)) none marked) q some free in
                absurd (none-some last (sym bare ∙ found))
            | inr mark ↦ subst (Seen k tick s c) same
                (refl, omega (arith, ended, q, within, long), mark, newer)
          ]
    ]

-- another burst is taken for a promise on its channel
seen-promise : (k : ℕ) (t : TerminalData) (tick : ℕ) (s : Standing) (c : Channel) (burst : Burst) (h : Handled) → order_by k t s c burst None ≡ Some h → Seen k tick s c h
seen-promise k t tick s c burst h given =
    elim (cases_Bool (promised_on k s c && nat_le burst.first (s.end + relay_wait))) [
      | inl holds ↦
          let order : Handled = settles (end_of burst) burst.slots (rest_of burst) in
          let by : order_by k t s c burst None ≡ Some order = rw holds refl in
          subst (Seen k tick s c) (same_Some _ _ (sym by ∙ given)) (and_parts _ _ holds).0
      | inr fails ↦
          let none : order_by k t s c burst None ≡ None = rw fails refl in
          absurd (none-some h (sym none ∙ given))
    ]

seen-last : (k : ℕ) (t : TerminalData) (s : Standing) (c : Channel) (past : List Sample) (tick : ℕ) (last : Option Order) (h : Handled) →
    IsMarked t.address k past (mark_on s.sent c) (mark_on s.addressed c) → quiet past ≡ k → 0 < stopped (Quiet ∷ past) →
    ignored_from k past (mark_on s.sent c) ≡ false → length past ≡ tick → last_order t.address (newest_burst k (Quiet ∷ past)).slots ≡ last →
    order_by k t s c (newest_burst k (Quiet ∷ past)) last ≡ Some h → Seen k tick s c h
seen-last k t s c past tick None h marked q some free long found given = seen-promise k t tick s c _ h given
seen-last k t s c past tick (Some last) h marked q some free long found given =
    seen-command k t s c past tick last h marked q some free long found given

seen-quiet : (k : ℕ) (t : TerminalData) (s : Standing) (c : Channel) (x : Sample) (past : List Sample) (tick : ℕ) (h : Handled) →
    IsMarked t.address k past (mark_on s.sent c) (mark_on s.addressed c) → ignored_from k past (mark_on s.sent c) ≡ false → length past ≡ tick →
    (quiet (x ∷ past) ≡ suc k) × (0 < stopped (x ∷ past)) → order_of k t s c (ended_now k (x ∷ past)) ≡ Some h → Seen k tick s c h
seen-quiet k t s c Plus past tick h marked free long ends given = absurd (omega (arith, ends.0))
seen-quiet k t s c Minus past tick h marked free long ends given = absurd (omega (arith, ends.0))
seen-quiet k t s c Quiet past tick h marked free long ends given =
    let found : ended_now k (Quiet ∷ past) ≡ Some (newest_burst k (Quiet ∷ past)) = grind (arith, ends.0, ends.1) in
    seen-last k t s c past tick (last_order t.address (newest_burst k (Quiet ∷ past)).slots) h marked (omega (arith, ends.0)) ends.1 free long refl
    (sym (ap (order_of k t s c) found) ∙ given)

ends-so : (k : ℕ) (past : List Sample) → ((quiet past == suc k) && nat_lt 0 (stopped past)) ≡ true → (quiet past ≡ suc k) × (0 < stopped past)
ends-so k past h = grind (arith, h)

-- what an order on a channel is, after whatever was heard
pub seen : (k : ℕ) (t : TerminalData) (loads : List TimedLoad) (memory : Memory) (now : Moment) (past : List Moment) (c : Channel) (h : Handled) →
    k < 40 → order_on k t (now ∷ past) (standing k t loads memory past) c ≡ Some h → Seen k (length past) (standing k t loads memory past) c h
seen k t loads memory now past c h small given =
    let s = standing k t loads memory past in
    elim (cases_Bool (ignored_from k (heard_on c past) (mark_on s.sent c))) [
      | inl ignored ↦
          let none : order_on k t (now ∷ past) s c ≡ None = rw ignored refl in
          absurd (none-some h (sym none ∙ given))
      | inr free ↦
          let by : order_on k t (now ∷ past) s c ≡ order_of k t s c (ended_now k (heard_on c (now ∷ past))) = rw free refl in
          elim (cases_Bool ((quiet (heard_on c (now ∷ past)) == suc k) && nat_lt 0 (stopped (heard_on c (now ∷ past))))) [
            | inl ends ↦
                seen-quiet k t s c (sample_on now.shown c) (heard_on c past) (length past) h (marked-always k t loads memory c past small) free
                (heard-long c past) (ends-so k (heard_on c (now ∷ past)) ends) (sym by ∙ given)
            | inr goes ↦
                let none : order_of k t s c (ended_now k (heard_on c (now ∷ past))) ≡ None = rw goes refl in
                absurd (none-some h (sym none ∙ (sym by ∙ given)))
          ]
    ]

-- an order comes with the k + 1st quiet tick after its burst
pub ends-now : (k : ℕ) (t : TerminalData) (s : Standing) (c : Channel) (now : Moment) (past : List Moment) (h : Handled) →
    order_on k t (now ∷ past) s c ≡ Some h → (quiet (heard_on c (now ∷ past)) ≡ suc k) × (0 < stopped (heard_on c (now ∷ past)))
ends-now k t s c now past h given =
    elim (cases_Bool (ignored_from k (heard_on c past) (mark_on s.sent c))) [
      | inl ignored ↦
          let none : order_on k t (now ∷ past) s c ≡ None = rw ignored refl in
          absurd (none-some h (sym none ∙ given))
      | inr free ↦
          let by : order_on k t (now ∷ past) s c ≡ order_of k t s c (ended_now k (heard_on c (now ∷ past))) = rw free refl in
          elim (cases_Bool ((quiet (heard_on c (now ∷ past)) == suc k) && nat_lt 0 (stopped (heard_on c (now ∷ past))))) [
            | inl ends ↦ ends-so k (heard_on c (now ∷ past)) ends
            | inr goes ↦
                let none : order_of k t s c (ended_now k (heard_on c (now ∷ past))) ≡ None = rw goes refl in
                absurd (none-some h (sym none ∙ (sym by ∙ given)))
          ]
    ]
