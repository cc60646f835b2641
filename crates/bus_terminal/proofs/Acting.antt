-- An order that is handled leaves a state that stands.
use Rattle.std.proofs.Common.{◌≡◌, ℕ, suc, ◌+◌, ◌≤◌, Bool, List, ◌∷◌, length, Some, refl, sym, ap, ◌∙◌, arith, inl, inr}
use Rattle.bus_base.specs.declared.samples.Channel.{Channel}
use Rattle.bus_formats.specs.Plans.{TerminalData}
use Rattle.bus_formats.specs.Times.{dead_ticks}
use Rattle.bus_model.specs.Memory.{Memory, TimedLoad, with_loads}
use Rattle.bus_model.specs.Orders.{Obeyed}
use Rattle.bus_model.specs.Hearing.{Moment, heard_on}
use Rattle.bus_model.specs.Standing.{Standing, obeys, settles, runs_out, Handled, superseded, is_owed}
use Rattle.bus_model.specs.Terminal.{done_by, after_order, marked_by, order_now}
use Rattle.bus_terminal.specs.Holding.{EarsStand}
use Rattle.bus_terminal.specs.Handling.{PerformedIs}
use Rattle.bus_terminal.specs.Stands.{CommonStands, StateStands}
use Rattle.bus_terminal.specs.Steps.{stands_told}
use Rattle.bus_terminal.specs.declared.common.Common.{Common}
use Rattle.bus_terminal.specs.declared.common.Ears.{Ears}
use Rattle.bus_terminal.specs.declared.handling.Performed.{Performed}
use Rattle.bus_terminal.proofs.Heard.{length-heard}
use Rattle.bus_terminal.proofs.Loads.{loads-same, made-more, absorbed-like, order-keeps}
use Rattle.bus_terminal.proofs.Standing.{Recent, left-stands}
use Rattle.bus_terminal.proofs.Ends.{Ends, now-ends, ended-place}
use Rattle.bus_terminal.proofs.Newest.{marked-tick, mark-before}
use Rattle.bus_terminal.proofs.Newer.{IsNewer, now-newer, newest-order}
use Rattle.bus_terminal.proofs.Heeding.{heeded-order}

order-leaves : (s : Standing) (order : Handled) (o : Obeyed) → ((after_order s order o).memory ≡ o.memory) × ((after_order s order o).duty ≡ o.duty)
order-leaves s (obeys c end order rest) o = (refl, refl)
order-leaves s (settles end slots rest) o = (refl, refl)
order-leaves s runs_out o = (refl, refl)

place-of : (k : ℕ) (heard : List Moment) (c : Channel) (end n : ℕ) → length heard ≡ n → (e : (length (heard_on c heard) ≡ end + suc k)) →
    length heard ≡ end + suc k
place-of k heard c end n here e = sym (length-heard c heard) ∙ e

-- where the order's burst ended, the end has just become known
order-recent : (k : ℕ) (terminal : TerminalData) (now : Moment) (past : List Moment) (s : Standing) (memory : Memory) (may : Bool) (order : Handled) →
    suc k ≤ dead_ticks terminal.delay →
    Ends k (now ∷ past) s order → IsNewer k past s order →
    Recent k (now ∷ past) (marked_by k terminal now past s (after_order s order (done_by k terminal s memory may order)))
order-recent k terminal now past s memory may (obeys c end order rest) prompt (burst, e, at) newer =
    let place = ended-place k (heard_on c (now ∷ past)) burst e in
    let after : Standing = after_order s (obeys c end order rest) (done_by k terminal s memory may (obeys c end order rest)) in
    inr (omega (arith, place.0, length-heard c (now ∷ past), at), place.1, heeded-order k terminal now past s after c burst prompt e newer.1)
order-recent k terminal now past s memory may (settles end slots rest) prompt (burst, e, at) newer =
    let place = ended-place k (heard_on s.channel (now ∷ past)) burst e in
    let after : Standing = after_order s (settles end slots rest) (done_by k terminal s memory may (settles end slots rest)) in
    inr (omega (arith, place.0, length-heard s.channel (now ∷ past), at), place.1, heeded-order k terminal now past s after s.channel burst prompt e newer.2)
order-recent k terminal now past s memory may runs_out prompt ends newer = inl refl

order-ended : (k : ℕ) (terminal : TerminalData) (heard : List Moment) (s : Standing) (o : Obeyed) (order : Handled) → Ends k heard s order →
    s.end ≤ length heard →
    (after_order s order o).end ≤ length heard
order-ended k terminal heard s o (obeys c end order rest) (burst, e, at) h =
    omega (arith, (ended-place k (heard_on c heard) burst e).0, length-heard c heard, at)
order-ended k terminal heard s o (settles end slots rest) (burst, e, at) h =
    omega (arith, (ended-place k (heard_on s.channel heard) burst e).0, length-heard s.channel heard, at)
order-ended k terminal heard s o runs_out ends h = h

-- what is the same in every state, after an order
pub common-after : (k : ℕ) (terminal : TerminalData) (loads : List TimedLoad) (common : Common) (after : Memory) (ears : Ears) (past : List Moment)
    (now : Moment) (s : Standing) (order : Handled) →
    CommonStands k terminal loads common past s → order_now k terminal (now ∷ past) s ≡ Some order →
    after ≡ (done_by k terminal s common.memory now.has_items order).memory →
    EarsStand k terminal.address ears (now ∷ past) (marked_by k terminal now past s (after_order s order (done_by k terminal s common.memory now.has_items order))) →
    CommonStands k terminal loads (record { plan = common.plan; memory = after; ears = ears }) (now ∷ past)
    (marked_by k terminal now past s (after_order s order (done_by k terminal s common.memory now.has_items order)))
common-after k terminal loads common after ears past now s order st is left hear =
    let o : Obeyed = done_by k terminal s common.memory now.has_items order in
    let same : o.memory.transmit ≡ common.memory.transmit = order-keeps k terminal s common.memory now.has_items order in
    let has : with_loads terminal.address (length past) loads o.memory ≡ o.memory =
    absorbed-like terminal.address (length past) loads common.memory o.memory st.absorbed same in
    let has_more : with_loads terminal.address (suc (length past)) loads o.memory ≡ o.memory =
    loads-same terminal.address (length past) loads o.memory st.made ∙ has in
    let memory_is : (after_order s order o).memory ≡ o.memory = (order-leaves s order o).0 in
    record {
      plan = st.plan;
      fits = st.fits;
      memory = left ∙ sym has_more ∙ ap (with_loads terminal.address (suc (length past)) loads) (sym memory_is);
      absorbed = ap (with_loads terminal.address (suc (length past)) loads) left ∙ has_more ∙ sym left;
      made = made-more terminal.address (length past) loads st.made;
      ears = hear;
      ended = order-ended k terminal (now ∷ past) s o order (now-ends k terminal now past s order is) (omega (arith, st.ended));
      marked = marked-tick k terminal now past s (after_order s order o) (omega (arith, st.fits.lag)) st.marked;
      newest = newest-order k terminal now past s common.memory now.has_items order is st.marked st.newest
          (λ c. mark-before k terminal.address common.ears past s c st.ears);
    }

-- the state that is left
pub acted : (k : ℕ) (terminal : TerminalData) (loads : List TimedLoad) (common : Common) (after : Memory) (ears : Ears) (past : List Moment)
    (now : Moment) (s : Standing) (order : Handled)
    (performed : Performed) (b : Bool) (n : ℕ) →
    CommonStands k terminal loads common past s → order_now k terminal (now ∷ past) s ≡ Some order → n ≡ suc (length past) →
    PerformedIs performed after s order (done_by k terminal s common.memory now.has_items order) →
    EarsStand k terminal.address ears (now ∷ past) (marked_by k terminal now past s (after_order s order (done_by k terminal s common.memory now.has_items order))) →
    b ≡ superseded k (marked_by k terminal now past s (after_order s order (done_by k terminal s common.memory now.has_items order))) →
    StateStands k terminal loads
    (stands_told (record { plan = common.plan; memory = after; ears = ears }) b n performed.channel performed.end performed.part performed.done.duty)
    (now ∷ past) (marked_by k terminal now past s (after_order s order (done_by k terminal s common.memory now.has_items order)))
acted k terminal loads common after ears past now s order performed b n st is here does hear is_b =
    let o : Obeyed = done_by k terminal s common.memory now.has_items order in
    let leaves = order-leaves s order o in
    let left : Standing = marked_by k terminal now past s (after_order s order o) in
    let recent : Recent k (now ∷ past) left =
    order-recent k terminal now past s common.memory now.has_items order st.fits.prompt (now-ends k terminal now past s order is)
    (now-newer k terminal now past s order st.marked is) in
    left-stands k terminal loads (record { plan = common.plan; memory = after; ears = ears }) n
    (now ∷ past) left performed.channel performed.end performed.part performed.done.duty b
    (common-after k terminal loads common after ears past now s order st is does.done.memory hear)
    here (sym does.channel) (sym does.end) (λ owed. sym (does.part (ap is_owed (sym leaves.1) ∙ owed))) is_b recent (does.done.duty ∙ sym leaves.1)
