-- What is known of a run that goes on: each attempt uses up one of those that its items can have.
use Rattle.std.proofs.Common.{◌≡◌, inl, inr, ℕ, suc, ◌+◌, ◌-◌, ◌<◌, ◌≤◌, List, [], ◌∷◌, length, refl, sym, ap, subst, ◌∙◌, arith}
use Rattle.std.proofs.lemmas.Bool.{cases_Bool, true≢false}
use Rattle.std.proofs.lemmas.Option.{slice_get_within}
use Rattle.std.specs.Prelude.{Bool, true, false, find, slice_get, Option, Some, None}
use Rattle.bus_base.specs.declared.samples.Channel.{Channel}
use Rattle.bus_formats.specs.Plans.{ItemData}
use Rattle.bus_formats.specs.declared.form.Outcome.{Outcome}
use Rattle.bus_formats.specs.declared.form.Outcome.TheVariants.{Clear, Sent, Declined, Passed, Illegal, Busy, NoResponse, BadReply, Abandoned, Yielded}
use Rattle.bus_formats.specs.declared.plan.Turn.{Turn}
use Rattle.bus_retry.specs.Retries.{may_retry, again, next_of}
use Rattle.bus_retry.specs.declared.Choice.TheVariants.{Again, Done}
use Rattle.bus_retry.specs.declared.RetryState.{RetryState}
use Rattle.bus_model.specs.Starts.{Entry, Opening, usual, superseding, taking, opening_after, state_of}
use Rattle.bus_model.specs.Attempts.{Begun}
use Rattle.bus_model.specs.Endings.{Passing}
use Rattle.bus_model.specs.Message.{Present, Message}
use Rattle.bus_model.specs.Run.{Run, Next, is_at, with_station, after_attempt, next_item, next_in, next_by, give_control, pass_control, with_message}
use Rattle.std.proofs.lemmas.Option.{none-some, same_Some}
use Rattle.bus_model.proofs.Options.{cases-option}
use Rattle.bus_model.proofs.PassingOn.{PassesAtTheEnd, Passes}
use Rattle.bus_model.proofs.AttemptsLeft.{attempts-left, left-same, found-same, left-kept, found-kept, done-less}

-- the attempts of the next item that were made already
abbrev pub spent : Option RetryState → ℕ
spent None = 0
spent (Some state) = state.turn - 1

abbrev pub IsUsual : Opening → Type 0
IsUsual (usual need tick) = Unit {0}
IsUsual _ = ⊥

-- a retry that is due is one of the next item's retry list
pub record IsDue (run : Run) (state : RetryState) : Type 0 where
  pub counted : 0 < state.turn
  pub waits : IsUsual run.opening
  pub listed : (next : Next) → next_item run ≡ Some next → state.turn ≤ suc (length next.entry.item.retry)

-- after n attempts of at most so many a run has as many left
pub record Live (most n : ℕ) (run : Run) : Type 0 where
  pub bound : n + attempts-left run.stations ≤ most + spent run.retry
  pub due : (state : RetryState) → run.retry ≡ Some state → IsDue run state

-- the station whose item is next, as it stands among all
from-left : (s : Present) (left : List Entry) → s.left ≡ left → (next : Next) → next_by (Some s) ≡ Some next →
    (s' : Present) × (later : List Entry) × (Some s ≡ Some s') × (s'.left ≡ next.entry ∷ later)
from-left s [] own next h = absurd (none-some next (sym (ap (λ l. next_in s l) own) ∙ h))
from-left s (entry ∷ later) own next h =
    let same : record { station = s; entry = entry } ≡ next = same_Some _ _ (sym (ap (λ l. next_in s l) own) ∙ h) in
    (s, later, refl, own ∙ ap (λ (n : Next). n.entry ∷ later) same)

pub next-found : (found : Option Present) (next : Next) → next_by found ≡ Some next →
    (s : Present) × (later : List Entry) × (found ≡ Some s) × (s.left ≡ next.entry ∷ later)
next-found None next h = absurd (none-some next h)
next-found (Some s) next h = from-left s s.left refl next h

-- the number of an attempt among those of its item
pub turn-is : (opening : Opening) (retry : Option RetryState) (entry : Entry) (live : Channel) →
    ((state : RetryState) → retry ≡ Some state → (0 < state.turn) × IsUsual opening) →
    (state_of opening retry entry live).turn ≡ suc (spent retry)
turn-is (usual need tick) None entry live h = refl
turn-is (usual need tick) (Some state) entry live h = omega (arith, (h state refl).0)
turn-is (superseding tick channel) None entry live h = refl
turn-is (superseding tick channel) (Some state) entry live h = absurd (h state refl).1
turn-is (taking tick) None entry live h = refl
turn-is (taking tick) (Some state) entry live h = absurd (h state refl).1

pub spent-listed : (retry : Option RetryState) (n : ℕ) → ((state : RetryState) → retry ≡ Some state → state.turn ≤ suc n) → spent retry ≤ n
spent-listed None n h = omega arith
spent-listed (Some state) n h = omega (arith, h state refl)

-- ---- control passes, or not

serves-left : (address : ℕ) (serving : Bool) (stations : List Present) →
    attempts-left (with_station address (λ s. record s { serves = serving }) stations) ≡ attempts-left stations
serves-left address serving stations = left-kept address (λ s. record s { serves = serving }) (λ s. refl) stations

passing-left : (passes : Option Passing) (run : Run) → attempts-left (pass_control passes run).stations ≡ attempts-left run.stations
passing-left None run = refl
passing-left (Some passing) run =
    serves-left passing.address false (give_control run).stations ∙ serves-left run.holder true run.stations

passing-retry : (passes : Option Passing) (run : Run) → run.retry ≡ None → (pass_control passes run).retry ≡ None
passing-retry None run h = h
passing-retry (Some passing) run h = refl

-- ---- an item is done

pub done-live : (most n : ℕ) (run : Run) (next : Next) (begun : Begun) (m : Message) → Live most n run → next_item run ≡ Some next → begun.entry ≡ next.entry →
    Passes run.stations m → spent run.retry ≤ length next.entry.item.retry → Live most (suc n) (with_message run begun Done m)
done-live most n run next begun m live given own passes few =
    let at = next-found (find (is_at run.holder) run.stations) next given in
    let after = found-same run.holder run.stations m.stations at.0 passes.same at.2 in
    let less = done-less run.holder begun m.ending.ended.outcome m.stations after.0 next.entry at.1 after.1 (after.2 ∙ at.3) in
    let same = left-same run.stations m.stations passes.same in
    let changed = with_station run.holder (after_attempt begun m.ending.ended.outcome Done) m.stations in
    let passed : attempts-left (with_message run begun Done m).stations ≡ attempts-left changed = passing-left m.ending.passes _ in
    let none : (with_message run begun Done m).retry ≡ None = passing-retry m.ending.passes _ refl in
    let unspent : spent (with_message run begun Done m).retry ≡ 0 = ap spent none in
    record {
      bound = omega (arith, live.bound, less, same, passed, few, unspent);
      due = λ state h. absurd (none-some state (sym none ∙ h));
    }

-- ---- another attempt follows

again-by : (state later : RetryState) (turn : Option Turn) → again state turn ≡ Again later → (later.turn ≡ suc state.turn) × ((t : Turn) × (turn ≡ Some t))
again-by state later None h = absurd (true≢false (ap (λ c. elim c as (λ x. Bool) [ Again s ↦ false | Done ↦ true ]) h))
again-by state later (Some turn) h =
    let same : state.turn + 1 ≡ later.turn = ap (λ c. elim c as (λ x. ℕ) [ Again s ↦ s.turn | Done ↦ 0 ]) h in
    (omega (arith, same), (turn, refl))

again-facts : (item : ItemData) (state later : RetryState) (outcome : Outcome) → next_of item state outcome ≡ Again later →
    (may_retry outcome ≡ true) × (later.turn ≡ suc state.turn) × (state.turn - 1 < length item.retry)
again-facts item state later outcome h = elim (cases_Bool (may_retry outcome)) [
  | inl may ↦
      let by : next_of item state outcome ≡ again state (slice_get item.retry (state.turn - 1)) = rw may refl in
      let facts = again-by state later (slice_get item.retry (state.turn - 1)) (sym by ∙ h) in
      (may, facts.0, slice_get_within item.retry (state.turn - 1) facts.1.0 facts.1.1)
  | inr never ↦
      let by : next_of item state outcome ≡ Done = rw never refl in
      absurd (true≢false (ap (λ c. elim c as (λ x. Bool) [ Again s ↦ false | Done ↦ true ]) (sym by ∙ h)))
]

waits-usual : (outcome : Outcome) (channel : Channel) (tick : ℕ) → may_retry outcome ≡ true → IsUsual (opening_after outcome channel tick)
waits-usual (NoResponse part) channel tick h = tt
waits-usual (BadReply part) channel tick h = tt
waits-usual Clear channel tick h = tt
waits-usual Sent channel tick h = tt
waits-usual Declined channel tick h = tt
waits-usual Passed channel tick h = tt
waits-usual (Illegal part) channel tick h = tt
waits-usual (Busy part) channel tick h = tt
waits-usual Abandoned channel tick h = absurd (true≢false (sym h))
waits-usual Yielded channel tick h = tt

same-entry : (a b : Entry) (left later : List Entry) → a ∷ left ≡ b ∷ later → a ≡ b
same-entry a b left later h = ap (λ l. elim l as (λ x. Entry) [ [] ↦ a | e ∷ es ↦ e ]) h

-- the run after an attempt after which another of its item follows
after-again : (run : Run) (begun : Begun) (m : Message) (state : RetryState) → may_retry m.ending.ended.outcome ≡ true → PassesAtTheEnd m.ending →
    m.ending.passes ≡ None
after-again run begun m state may well = elim (cases-option m.ending.passes) [
  | inl none ↦ none
  | inr passing ↦ absurd (true≢false (sym may ∙ well passing.0 passing.1))
]

again-due : (run : Run) (next : Next) (begun : Begun) (m : Message) (state : RetryState) → next_item run ≡ Some next → begun.entry ≡ next.entry →
    Passes run.stations m → m.ending.passes ≡ None → may_retry m.ending.ended.outcome ≡ true → state.turn ≡ suc begun.state.turn →
    begun.state.turn ≤ length next.entry.item.retry → IsDue (with_message run begun (Again state) m) state
again-due run next begun m state given own passes none may turn listed =
    let at = next-found (find (is_at run.holder) run.stations) next given in
    let after = found-same run.holder run.stations m.stations at.0 passes.same at.2 in
    let change : Present → Present = after_attempt begun m.ending.ended.outcome (Again state) in
    let found = found-kept run.holder change (λ s. refl) (λ s. refl) m.stations after.0 after.1 in
    rw none (record {
      counted = omega (arith, turn);
      waits = waits-usual m.ending.ended.outcome begun.state.channel m.ending.tick may;
      listed = λ other h.
          let there = next-found (find (is_at run.holder) (with_station run.holder change m.stations)) other h in
          let same : change after.0 ≡ there.0 = same_Some _ _ (sym found ∙ there.2) in
          let entries : next.entry ∷ at.1 ≡ other.entry ∷ there.1 =
          sym (after.2 ∙ at.3) ∙ (ap (λ (s : Present). s.left) same ∙ there.3) in
          let entry : next.entry ≡ other.entry = same-entry next.entry other.entry at.1 there.1 entries in
          subst (λ (e : Entry). state.turn ≤ suc (length e.item.retry)) entry (omega (arith, turn, listed));
    })

pub again-live : (most n : ℕ) (run : Run) (next : Next) (begun : Begun) (m : Message) (state : RetryState) → Live most n run → next_item run ≡ Some next →
    begun.entry ≡ next.entry → Passes run.stations m → begun.state.turn ≡ suc (spent run.retry) →
    next_of begun.entry.item begun.state m.ending.ended.outcome ≡ Again state → Live most (suc n) (with_message run begun (Again state) m)
again-live most n run next begun m state live given own passes turn follows =
    let facts = again-facts begun.entry.item begun.state state m.ending.ended.outcome follows in
    let none = after-again run begun m state facts.0 passes.well in
    let items : length begun.entry.item.retry ≡ length next.entry.item.retry = ap (λ (e : Entry). length e.item.retry) own in
    let same = left-same run.stations m.stations passes.same in
    let kept = left-kept run.holder (after_attempt begun m.ending.ended.outcome (Again state)) (λ s. refl) m.stations in
    let due = again-due run next begun m state given own passes none facts.0 facts.1 (omega (arith, facts.2, turn, items)) in
    let passed : attempts-left (with_message run begun (Again state) m).stations
    ≡ attempts-left (with_station run.holder (after_attempt begun m.ending.ended.outcome (Again state)) m.stations) =
    passing-left m.ending.passes _ in
    let retry : (with_message run begun (Again state) m).retry ≡ Some state = rw none refl in
    let used : spent (with_message run begun (Again state) m).retry ≡ state.turn - 1 = ap spent retry in
    record {
      bound = omega (arith, live.bound, same, kept, passed, used, facts.1, turn);
      due = λ other h. subst (IsDue (with_message run begun (Again state) m)) (same_Some _ _ (sym retry ∙ h)) due;
    }
