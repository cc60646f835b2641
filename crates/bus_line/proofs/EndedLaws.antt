-- The list of ended bursts has each burst whose end is known, in the order of their ends. For every lag.
use Rattle.std.proofs.Common.{◌≡◌, ℕ, suc, ◌+◌, ◌-◌, ◌<◌, List, [], ◌∷◌, ◌++◌, length, get_or, Some, None, Option, refl, sym, ap, ◌∙◌, subst, arith, inl, inr, Contains, AllPairs, take, drop}
use Rattle.std.proofs.lemmas.List.{take-append-drop, append_assoc, append-nil, length-drop}
use Rattle.std.proofs.lemmas.List.Quantifiers.{all_pairs_push}
use Rattle.std.proofs.lemmas.List.Elements.{Contains-append_left, Contains-append_right, Contains-append_cases, Contains-get_or}
use Rattle.bus_base.specs.Samples.{sample_on}
use Rattle.bus_base.specs.declared.samples.Channel.{Channel}
use Rattle.bus_base.specs.declared.samples.Channel.TheVariants.{A, B}
use Rattle.bus_base.specs.declared.samples.Pair.{Pair}
use Rattle.bus_line.specs.Past.{Burst, burst_from, ended_now, end_of}
use Rattle.bus_line.specs.Channels.{WholeBurst, on_channel, bursts, burst_now, burst_of}
use Rattle.bus_line.specs.Bursts.{IsEndedNow, IsEnded, EndsBefore, BurstsAgree}
use Rattle.bus_line.proofs.BurstLaws.{burst-stays, burst-known}
use Rattle.bus_line.proofs.SlotLaws.{burst_from-more, burst_from-later}
use Rattle.bus_line.proofs.ChannelLaws.{length-on, on-append}
use Rattle.bus_line.proofs.LookUpLaws.{ended-known, ended-is, ended-all}

-- a burst of the newest tick is the one whose end became known in it
pub burst-in : (c : Channel) (o : Option Burst) (w : WholeBurst) → Contains (burst_of c o) w → (o ≡ Some w.burst) × (w.channel ≡ c)
burst-in c None w has = absurd (omega (arith, has.1))
burst-in c (Some burst) w has =
    let at : has.0 ≡ 0 = omega (arith, has.1) in
    let same : get_or (burst_of c (Some burst)) 0 w ≡ w = (let h = has.2 in rw at at h) in
    (ap (λ (u : WholeBurst). Some u.burst) same, sym (ap (λ (u : WholeBurst). u.channel) same))

-- it has ended, k + 1 ticks ago
now-ends : (k : ℕ) (c : Channel) (past : List Pair) (w : WholeBurst) → Contains (burst_now k c past) w →
    IsEnded k past w × (end_of w.burst + suc k ≡ length past) × (w.channel ≡ c)
now-ends k c past w has =
    let at = burst-in c (ended_now k (on_channel c past)) w has in
    let is : IsEndedNow k (on_channel c past) w.burst.first w.burst.ticks = ended-known k (on_channel c past) w.burst at.0 in
    let cut : w.burst ≡ burst_from (on_channel c past) w.burst.first w.burst.ticks = ended-is k (on_channel c past) w.burst at.0 in
    let long : length (on_channel c past) ≡ length past = length-on c past in
    (record { burst = rw at.1 is.burst; known = omega (arith, is.now, long); slots = rw at.1 cut }, omega (arith, is.now, long), at.1)

-- it stays ended with a tick more
ended-more : (k : ℕ) (shown : Pair) (past : List Pair) (w : WholeBurst) → IsEnded k past w → IsEnded k (shown ∷ past) w
ended-more k shown past w is =
    let long : length (on_channel w.channel past) ≡ length past = length-on w.channel past in
    let same = burst_from-more (sample_on shown w.channel) (on_channel w.channel past) w.burst.first w.burst.ticks (omega (arith, is.known, long)) in
    record {
      burst = burst-stays k (sample_on shown w.channel) (on_channel w.channel past) w.burst.first w.burst.ticks is.burst (omega (arith, is.known, long));
      known = omega (arith, is.known);
      slots = is.slots ∙ sym same;
    }

-- each burst in the list has ended
pub bursts-found : (k : ℕ) (past : List Pair) (w : WholeBurst) → Contains (bursts k past) w → IsEnded k past w
unfolding bursts
bursts-found k [] w has = absurd (omega (arith, has.1))
bursts-found k (shown ∷ past) w has =
    elim (Contains-append_cases (bursts k past) (burst_now k A (shown ∷ past) ++ burst_now k B (shown ∷ past)) w has) [
      | inl old ↦ ended-more k shown past w (bursts-found k past w old)
      | inr new ↦ elim (Contains-append_cases (burst_now k A (shown ∷ past)) (burst_now k B (shown ∷ past)) w new) [
        | inl a ↦ (now-ends k A (shown ∷ past) w a).0
        | inr b ↦ (now-ends k B (shown ∷ past) w b).0
      ]
    ]

-- ---- each ended burst is in the list

-- what was in the list stays there
pub bursts-later : (k : ℕ) (later past : List Pair) (w : WholeBurst) → Contains (bursts k past) w → Contains (bursts k (later ++ past)) w
unfolding bursts
bursts-later k [] past w has = has
bursts-later k (shown ∷ later) past w has =
    Contains-append_left (bursts k (later ++ past))
    (burst_now k A (shown ∷ (later ++ past)) ++ burst_now k B (shown ∷ (later ++ past))) w (bursts-later k later past w has)

-- a burst of the newest tick is in the list, on either channel
in-channel : (k : ℕ) (shown : Pair) (past : List Pair) (w : WholeBurst) (c : Channel) → Contains (burst_now k c (shown ∷ past)) w → Contains (bursts k (shown ∷ past)) w
unfolding bursts
in-channel k shown past w A has = Contains-append_right (bursts k past) (burst_now k A (shown ∷ past) ++ burst_now k B (shown ∷ past)) w
    (Contains-append_left (burst_now k A (shown ∷ past)) (burst_now k B (shown ∷ past)) w has)
in-channel k shown past w B has = Contains-append_right (bursts k past) (burst_now k A (shown ∷ past) ++ burst_now k B (shown ∷ past)) w
    (Contains-append_right (burst_now k A (shown ∷ past)) (burst_now k B (shown ∷ past)) w has)

-- so is the one that is looked up in it
in-now : (k : ℕ) (past : List Pair) (w : WholeBurst) → 0 < length past → ended_now k (on_channel w.channel past) ≡ Some w.burst → Contains (bursts k past) w
in-now k [] w some is = absurd (omega (arith, some))
in-now k (shown ∷ past) w some is = in-channel k shown past w w.channel (rw is (0, omega arith, refl))

-- and the one whose end became known in an earlier part of the past
in-parts : (k : ℕ) (later past : List Pair) (w : WholeBurst) → IsEnded k (later ++ past) w → end_of w.burst + suc k ≡ length past → Contains (bursts k (later ++ past)) w
in-parts k later past w is now =
    let parts : on_channel w.channel (later ++ past) ≡ on_channel w.channel later ++ on_channel w.channel past = on-append w.channel later past in
    let long : length (on_channel w.channel past) ≡ length past = length-on w.channel past in
    let whole = is.burst in
    let slots = is.slots in
    let burst = burst-known k (on_channel w.channel later) (on_channel w.channel past) w.burst.first w.burst.ticks (rw parts at whole) (omega (arith, now, long)) in
    let same = burst_from-later (on_channel w.channel later) (on_channel w.channel past) w.burst.first w.burst.ticks (omega (arith, now, long)) in
    let cut : w.burst ≡ burst_from (on_channel w.channel past) w.burst.first w.burst.ticks = (rw parts at slots) ∙ same in
    let ended = ended-all k (on_channel w.channel past) w.burst.first w.burst.ticks record { burst = burst; now = omega (arith, now, long) } in
    bursts-later k later past w (in-now k past w (omega (arith, now)) (ended ∙ ap Some (sym cut)))

-- so each ended burst is in the list
pub bursts-all : (k : ℕ) (past : List Pair) (w : WholeBurst) → IsEnded k past w → Contains (bursts k past) w
bursts-all k past w is =
    let n : ℕ = length past - (end_of w.burst + suc k) in
    let whole : take (length past - (end_of w.burst + suc k)) past ++ drop (length past - (end_of w.burst + suc k)) past ≡ past =
    take-append-drop (length past - (end_of w.burst + suc k)) past in
    let rest : length (drop (length past - (end_of w.burst + suc k)) past) ≡ length past - (length past - (end_of w.burst + suc k)) =
    length-drop (length past - (end_of w.burst + suc k)) past in
    subst (λ xs. Contains (bursts k xs) w) whole
    (in-parts k (take (length past - (end_of w.burst + suc k)) past) (drop (length past - (end_of w.burst + suc k)) past) w
    (subst (λ xs. IsEnded k xs w) (sym whole) is) (omega (arith, rest, is.known)))

-- ---- their order

-- one more at the end, where there is one
pairs-more : (c : Channel) (o : Option Burst) (ws : List WholeBurst) → AllPairs EndsBefore ws →
    ((v w : WholeBurst) → Contains ws v → Contains (burst_of c o) w → EndsBefore v w) → AllPairs EndsBefore (ws ++ burst_of c o)
pairs-more c None ws old new = rw (append-nil ws) old
pairs-more c (Some burst) ws old new = all_pairs_push EndsBefore ws record { channel = c; burst = burst } old
    (λ i d within. new (get_or ws i d) record { channel = c; burst = burst } (Contains-get_or ws i d within) (0, omega arith, refl))

-- what ended before was known before the newest tick
old-first : (k : ℕ) (c : Channel) (shown : Pair) (past : List Pair) (v w : WholeBurst) → Contains (bursts k past) v →
    Contains (burst_now k c (shown ∷ past)) w → end_of v.burst < end_of w.burst
old-first k c shown past v w has now =
    let old = bursts-found k past v has in
    let new = now-ends k c (shown ∷ past) w now in
    omega (arith, old.known, new.1)

-- bursts of one tick end together, on A and on B
both-now : (k : ℕ) (shown : Pair) (past : List Pair) (v w : WholeBurst) → Contains (burst_now k A (shown ∷ past)) v →
    Contains (burst_now k B (shown ∷ past)) w → (end_of v.burst ≡ end_of w.burst) × (v.channel ≡ A) × (w.channel ≡ B)
both-now k shown past v w a b =
    let on_a = now-ends k A (shown ∷ past) v a in
    let on_b = now-ends k B (shown ∷ past) w b in
    (omega (arith, on_a.1, on_b.1), on_a.2, on_b.2)

-- so the list is in order
pub bursts-order : (k : ℕ) (past : List Pair) → AllPairs EndsBefore (bursts k past)
unfolding bursts
bursts-order k [] = λ i j d a b. absurd (omega (arith, b))
bursts-order k (shown ∷ past) =
    let old : AllPairs EndsBefore (bursts k past) = bursts-order k past in
    let a_now = pairs-more A (ended_now k (on_channel A (shown ∷ past))) (bursts k past) old (λ v w has now. inl (old-first k A shown past v w has now)) in
    let b_now = pairs-more B (ended_now k (on_channel B (shown ∷ past))) (bursts k past ++ burst_now k A (shown ∷ past)) a_now
    (λ v w has now. elim (Contains-append_cases (bursts k past) (burst_now k A (shown ∷ past)) v has) [
      | inl before ↦ inl (old-first k B shown past v w before now)
      | inr beside ↦ inr (both-now k shown past v w beside now)
    ]) in
    subst (λ ws. AllPairs EndsBefore ws) (append_assoc (bursts k past) (burst_now k A (shown ∷ past)) (burst_now k B (shown ∷ past))) b_now

-- the list is the reader's
pub bursts-agree : (k : ℕ) (past : List Pair) → BurstsAgree k past
bursts-agree k past = record { found = bursts-found k past; all = bursts-all k past; order = bursts-order k past }
