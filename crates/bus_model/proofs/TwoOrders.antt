-- Two channels cannot both give an order in one tick.
use Rattle.std.proofs.Common.{◌≡◌, ◌⊎◌, inl, inr, ℕ, ◌<◌, List, ◌∷◌, length, refl, sym, ap, ◌∙◌, arith}
use Rattle.std.proofs.lemmas.Bool.{true≢false, and_parts}
use Rattle.std.specs.Prelude.{true, false, not, ◌&&◌, Some, None}
use Rattle.bus_base.specs.Samples.{other_of, same_channel}
use Rattle.bus_base.specs.declared.samples.Channel.{Channel}
use Rattle.bus_base.specs.declared.samples.Channel.TheVariants.{A, B}
use Rattle.bus_formats.specs.Plans.{TerminalData}
use Rattle.bus_model.specs.Memory.{Memory, TimedLoad}
use Rattle.bus_model.specs.Hearing.{Moment}
use Rattle.bus_model.specs.Standing.{Standing, mark_on, Handled, obeys, settles, runs_out, is_newer, superseded, outrun, is_promise, promised_on}
use Rattle.bus_model.specs.Terminal.{standing, order_on}
use Rattle.bus_model.proofs.Options.{cases-option}
use Rattle.bus_model.proofs.OneOrder.{Seen, seen}
use Rattle.bus_model.proofs.Promises.{Newest, Stands, stands-always}

-- of two marks one is newer
one-newer : (a b : ℕ) → is_newer B (Some b) (Some a) ≡ false → is_newer A (Some a) (Some b) ≡ false → ⊥
one-newer a b older newer = grind (arith, older, newer)

-- neither of two commands is outrun
both-outrun : (s : Standing) (a b : ℕ) → mark_on s.addressed A ≡ Some a → mark_on s.addressed B ≡ Some b → outrun s A ≡ false → outrun s B ≡ false → ⊥
both-outrun s a b marked-a marked-b first second =
    one-newer a b
    (sym (ap (λ m. is_newer B m (mark_on s.addressed A)) marked-b ∙ ap (is_newer B (Some b)) marked-a) ∙ first)
    (sym (ap (λ m. is_newer A m (mark_on s.addressed B)) marked-a ∙ ap (is_newer A (Some a)) marked-b) ∙ second)

-- a promise that stands on a channel: what is known of the marks
pub standing-promise : (k n : ℕ) (s : Standing) (c : Channel) → Stands k n s → promised_on k s c ≡ true →
    (same_channel s.channel c ≡ true) × ((m : ℕ) × (mark_on s.addressed s.channel ≡ Some m)
    × (is_newer (other_of s.channel) (mark_on s.addressed (other_of s.channel)) (Some m) ≡ false))
standing-promise k n s c stands h =
    let outer = and_parts (is_promise s.duty && same_channel s.channel c) (not (superseded k s)) h in
    let inner = and_parts (is_promise s.duty) (same_channel s.channel c) outer.0 in
    let newest : Newest k n s.channel s.end s.addressed = stands.promised inner.0 in (
      inner.1,
      (
        newest.m,
        newest.marked,
        elim newest.newest [
          | inl from ↦ absurd (true≢false (sym outer.1 ∙ ap not from))
          | inr older ↦ older
        ],
      ),
    )

-- a promise on A stands beside no newer command on B, and the other way round
pub on-a : (k n : ℕ) (s : Standing) (c : Channel) → s.channel ≡ c → (b : ℕ) → Stands k n s → promised_on k s A ≡ true → mark_on s.addressed B ≡ Some b →
    outrun s B ≡ false → ⊥
on-a k n s A on b stands h marked newer =
    let promise = standing-promise k n s A stands h in
    let own : mark_on s.addressed A ≡ Some promise.1.0 = sym (ap (mark_on s.addressed) on) ∙ promise.1.1 in
    let older : is_newer B (mark_on s.addressed B) (Some promise.1.0) ≡ false =
    sym (ap (λ c. is_newer (other_of c) (mark_on s.addressed (other_of c)) (Some promise.1.0)) on) ∙ promise.1.2 in
    both-outrun s promise.1.0 b own marked (ap (is_newer B (mark_on s.addressed B)) own ∙ older) newer
on-a k n s B on b stands h marked newer =
    let promise = standing-promise k n s A stands h in
    absurd (true≢false (sym promise.0 ∙ ap (λ c. same_channel c A) on))

pub on-b : (k n : ℕ) (s : Standing) (c : Channel) → s.channel ≡ c → (a : ℕ) → Stands k n s → promised_on k s B ≡ true → mark_on s.addressed A ≡ Some a →
    outrun s A ≡ false → ⊥
on-b k n s B on a stands h marked newer =
    let promise = standing-promise k n s B stands h in
    let own : mark_on s.addressed B ≡ Some promise.1.0 = sym (ap (mark_on s.addressed) on) ∙ promise.1.1 in
    let older : is_newer A (mark_on s.addressed A) (Some promise.1.0) ≡ false =
    sym (ap (λ c. is_newer (other_of c) (mark_on s.addressed (other_of c)) (Some promise.1.0)) on) ∙ promise.1.2 in
    both-outrun s a promise.1.0 marked own newer (ap (is_newer A (mark_on s.addressed A)) own ∙ older)
on-b k n s A on a stands h marked newer =
    let promise = standing-promise k n s B stands h in
    absurd (true≢false (sym promise.0 ∙ ap (λ c. same_channel c B) on))

-- promises on both channels don't stand
both-promised : (k n : ℕ) (s : Standing) (c : Channel) → s.channel ≡ c → Stands k n s → promised_on k s A ≡ true → promised_on k s B ≡ true → ⊥
both-promised k n s A on stands first second =
    absurd (true≢false (sym (standing-promise k n s B stands second).0 ∙ ap (λ c. same_channel c B) on))
both-promised k n s B on stands first second =
    absurd (true≢false (sym (standing-promise k n s A stands first).0 ∙ ap (λ c. same_channel c A) on))

two-seen : (k n : ℕ) (s : Standing) (first second : Handled) → Stands k n s → Seen k n s A first → Seen k n s B second → ⊥
two-seen k n s (obeys c e last rest) (obeys d f next tail) stands a b =
    both-outrun s a.2.0 b.2.0 a.2.1 b.2.1 a.3 b.3
two-seen k n s (obeys c e last rest) (settles f slots tail) stands a b = on-b k n s s.channel refl a.2.0 stands b a.2.1 a.3
two-seen k n s (settles e slots rest) (obeys d f next tail) stands a b = on-a k n s s.channel refl b.2.0 stands a b.2.1 b.3
two-seen k n s (settles e slots rest) (settles f more tail) stands a b = both-promised k n s s.channel refl stands a b
two-seen k n s runs_out second stands a b = absurd a
two-seen k n s (obeys c e last rest) runs_out stands a b = absurd b
two-seen k n s (settles e slots rest) runs_out stands a b = absurd b

-- at most one of the two channels brings an order in a tick
pub one-order : (k : ℕ) (t : TerminalData) (loads : List TimedLoad) (memory : Memory) (now : Moment) (past : List Moment) → k < 40 →
    (order_on k t (now ∷ past) (standing k t loads memory past) A ≡ None) ⊎ (order_on k t (now ∷ past) (standing k t loads memory past) B ≡ None)
one-order k t loads memory now past small =
    let s = standing k t loads memory past in
    elim (cases-option (order_on k t (now ∷ past) s A)) [
      | inl none ↦ inl none
      | inr first ↦ elim (cases-option (order_on k t (now ∷ past) s B)) [
        | inl none ↦ inr none
        | inr second ↦ absurd (two-seen k (length past) s first.0 second.0 (stands-always k t loads memory past small)
            (seen k t loads memory now past A first.0 small first.1) (seen k t loads memory now past B second.0 small second.1))
      ]
    ]
