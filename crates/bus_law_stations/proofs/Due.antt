-- An answer that is owed begins when it is due.
use Rattle.std.proofs.Common.{◌≡◌, inl, ℕ, zero, suc, ◌+◌, ◌<◌, Bool, true, false, nat_lt, List, ◌∷◌, ◌++◌, length, Option, Some, None, refl, sym, ap, ◌∙◌, subst, arith}
use Rattle.std.proofs.lemmas.Bool.{or_from, lt-leb, true≢false, false_from_ne_true}
use Rattle.std.proofs.lemmas.Bool.Decides.{nat_tests}
use Rattle.std.proofs.lemmas.Option.{none-some}
use Rattle.std.specs.Prelude.{not, ◌&&◌, ◌==◌, if◌then◌else◌}
use Rattle.bus_base.specs.Samples.{other_of, same_channel}
use Rattle.bus_base.specs.declared.samples.Channel.{Channel}
use Rattle.bus_base.specs.declared.samples.Channel.TheVariants.{A, B}
use Rattle.bus_base.specs.declared.samples.Part.TheVariants.{First, Second}
use Rattle.bus_base.specs.declared.samples.Sample.{Sample}
use Rattle.bus_line.specs.Past.{Burst, end_of, rest_of, quiet_ticks, quiet, stopped, runs, ended_now, heard_within}
use Rattle.bus_line.specs.Bursts.{sample_at}
use Rattle.bus_line.proofs.HeardLaws.{heard_within-is, first_heard-none}
use Rattle.bus_line.proofs.TickLaws.{at-quiet}
use Rattle.bus_formats.specs.Plans.{TerminalData}
use Rattle.bus_model.specs.Memory.{Memory, TimedLoad}
use Rattle.bus_model.specs.Orders.{promises, Order, Obeyed, last_order, due_after}
use Rattle.bus_model.specs.Hearing.{Moment, heard_on}
use Rattle.bus_model.specs.Standing.{Standing, mark_on, is_from, superseded, is_owed, is_promise}
use Rattle.bus_model.specs.Terminal.{standing}
use Rattle.bus_law_stations.specs.Silence.{quiet_moments, NothingDue}
use Rattle.bus_law_stations.specs.Legs.{IsUnheeded, HearsBurst, IsReady, BeginsAnswer, obeyed_in, settled_in, after_command, after_promise}
use Rattle.bus_law_stations.proofs.Resting.{heard-quiet, moments-long}
use Rattle.bus_law_stations.proofs.StillTerminal.{still-stands}
use Rattle.bus_law_stations.proofs.Ready.{three-first, other-mark}
use Rattle.bus_law_stations.proofs.BurstEnds.{marks-before, began, obeyed, settled}
use Rattle.bus_law_stations.proofs.SenderTicks.{owes-no-promise}
use Rattle.bus_law_stations.proofs.Commanding.{quiet-since-end}

-- ---- quiet since the end

-- a burst whose end is known runs no longer
ended-by : {X : Type 0} (b : Bool) (x y : X) → (if b then Some x else None) ≡ Some y → b ≡ true
ended-by true x y e = refl
ended-by false x y e = absurd (none-some y e)

ended-rests : (k : ℕ) (past : List Sample) (burst : Burst) → ended_now k past ≡ Some burst → runs k past ≡ false
ended-rests k past burst ended =
    let test : ((quiet past == suc k) && nat_lt 0 (stopped past)) ≡ true = ended-by _ _ burst ended in
    grind (arith, nat_tests, test)

-- quiet ticks change no tick, wherever one looks
at-quiets : (n : ℕ) (past : List Sample) (t : ℕ) → sample_at (quiet_ticks n ++ past) t ≡ sample_at past t
at-quiets zero past t = refl
at-quiets (suc n) past t = at-quiet (quiet_ticks n ++ past) t ∙ at-quiets n past t

-- nothing is heard from the end of the burst on
unheard : (k : ℕ) (n : ℕ) (past : List Sample) (burst : Burst) (b : ℕ) → ended_now k past ≡ Some burst →
    heard_within (quiet_ticks n ++ past) (end_of burst) b ≡ false
unheard k n past burst b ended =
    false_from_ne_true (heard_within (quiet_ticks n ++ past) (end_of burst) b) (λ heard.
    let w = heard_within-is (quiet_ticks n ++ past) (end_of burst) b heard in
    w.3 (at-quiets n past w.0 ∙ first_heard-none past (end_of burst) w.0 (quiet-since-end k past burst ended) w.1))

-- ---- the answer

both-rest : (k : ℕ) (c : Channel) (w : List Moment) → runs k (heard_on c w) ≡ false → runs k (heard_on (other_of c) w) ≡ false →
    (runs k (heard_on A w) ≡ false) × (runs k (heard_on B w) ≡ false)
both-rest k A w own other = (own, other)
both-rest k B w own other = (other, own)

answer-due : (k : ℕ) (t : TerminalData) (loads : List TimedLoad) (memory : Memory) (c : Channel) (w : List Moment) (mays : List Bool) (burst : Burst)
    (u : Standing) → standing k t loads memory w ≡ u → ended_now k (heard_on c w) ≡ Some burst → runs k (heard_on (other_of c) w) ≡ false →
    is_owed u.duty ≡ true → u.channel ≡ c → u.end ≡ end_of burst → superseded k u ≡ false →
    length (quiet_moments mays ++ w) ≡ due_after t (end_of burst) →
    (standing k t loads memory (quiet_moments mays ++ w) ≡ u) × BeginsAnswer k t u c (quiet_moments mays ++ w)
answer-due k t loads memory c w mays burst u stands ended rests owes on end fresh due =
    let both = both-rest k c w (ended-rests k (heard_on c w) burst ended) rests in
    let long : length (quiet_moments mays ++ w) ≡ length mays + length w = moments-long mays w in
    let nothing : NothingDue k t u w (length mays) = record {
      rests_a = both.0;
      rests_b = both.1;
      answer = λ owed. inl (omega (arith, long, due, end));
      promise = λ promised. absurd (true≢false (sym promised
          ∙ three-first (is_promise u.duty) (same_channel u.channel u.channel) (not (superseded k u)) (owes-no-promise u.duty owes)));
    } in
    let before : NothingDue k t (standing k t loads memory w) w (length mays) =
    subst (λ (v : Standing). NothingDue k t v w (length mays)) (sym stands) nothing in (
      still-stands k t loads memory w mays before ∙ stands,
      record {
        owes = owes;
        channel = on;
        due = ap (due_after t) end ∙ sym due;
        kept = or_from (superseded k u) _ fresh
            (ap (λ xs. heard_within xs u.end (due_after t u.end)) (heard-quiet c mays w)
            ∙ ap (λ a. heard_within (quiet_ticks (length mays) ++ heard_on c w) a (due_after t u.end)) end
            ∙ unheard k (length mays) (heard_on c w) burst (due_after t u.end) ended);
      },
    )

-- as the standing has it
answer-as : (k : ℕ) (t : TerminalData) (loads : List TimedLoad) (memory : Memory) (c : Channel) (later : List Moment) (u : Standing) →
    (standing k t loads memory later ≡ u) × BeginsAnswer k t u c later →
    BeginsAnswer k t (standing k t loads memory later) c later × ((standing k t loads memory later).duty ≡ u.duty)
    × ((standing k t loads memory later).part ≡ u.part)
answer-as k t loads memory c later u both = (
  subst (λ (v : Standing). BeginsAnswer k t v c later) (sym both.0) both.1,
  ap (λ (v : Standing). v.duty) both.0,
  ap (λ (v : Standing). v.part) both.0,
)

-- marks of earlier ticks don't supersede it
pub not-from : (tick : ℕ) (o : Option ℕ) → ((m : ℕ) → o ≡ Some m → m < tick) → is_from tick o ≡ false
not-from tick None before = refl
not-from tick (Some m) before = lt-leb tick m (before m refl)

pub obeyed-due : (k : ℕ) (t : TerminalData) (loads : List TimedLoad) (memory : Memory) (c : Channel) (heard ticks : List Moment) (now : Moment)
    (burst : Burst) (order : Order) (mays : List Bool) → k < 40 →
    IsReady k t (standing k t loads memory heard) c heard → HearsBurst k t (standing k t loads memory heard) c heard ticks →
    IsUnheeded k t (standing k t loads memory heard) (other_of c) (now ∷ (ticks ++ heard)) →
    ended_now k (heard_on c (now ∷ (ticks ++ heard))) ≡ Some burst → last_order t.address burst.slots ≡ Some order →
    let o : Obeyed = obeyed_in t loads (length (ticks ++ heard)) (standing k t loads memory heard) c order (rest_of burst) now.has_items in
    let later : List Moment = quiet_moments mays ++ (now ∷ (ticks ++ heard)) in is_owed o.duty ≡ true →
    runs k (heard_on (other_of c) (now ∷ (ticks ++ heard))) ≡ false → length later ≡ due_after t (end_of burst) →
    BeginsAnswer k t (standing k t loads memory later) c later
    × ((standing k t loads memory later).duty ≡ o.duty) × ((standing k t loads memory later).part ≡ First)
obeyed-due k t loads memory c heard ticks now burst order mays small ready hears beside ended last owes rests due =
    let s = standing k t loads memory heard in
    let o : Obeyed = obeyed_in t loads (length (ticks ++ heard)) s c order (rest_of burst) now.has_items in
    let so = obeyed k t loads memory c heard ticks now burst ready beside ended hears small order last in
    let u = after_command s c (end_of burst) so.0 o in
    let first = began k t s c heard ticks now burst hears ended in
    let fresh = ap (is_from (end_of burst + k)) (other-mark s c (Some so.0))
    ∙ not-from (end_of burst + k) (mark_on s.addressed (other_of c))
    (λ m e. let before = marks-before k t loads memory (other_of c) heard m e in omega (arith, before, first)) in
    answer-as k t loads memory c (quiet_moments mays ++ (now ∷ (ticks ++ heard))) u
    (answer-due k t loads memory c (now ∷ (ticks ++ heard)) mays burst u so.3 ended rests owes refl refl fresh due)

pub settled-due : (k : ℕ) (t : TerminalData) (loads : List TimedLoad) (memory : Memory) (c : Channel) (heard ticks : List Moment) (now : Moment)
    (burst : Burst) (command transmitter : ℕ) (mays : List Bool) → k < 40 →
    IsReady k t (standing k t loads memory heard) c heard → HearsBurst k t (standing k t loads memory heard) c heard ticks →
    IsUnheeded k t (standing k t loads memory heard) (other_of c) (now ∷ (ticks ++ heard)) →
    ended_now k (heard_on c (now ∷ (ticks ++ heard))) ≡ Some burst → last_order t.address burst.slots ≡ None →
    (standing k t loads memory heard).duty ≡ promises command transmitter → superseded k (standing k t loads memory heard) ≡ false →
    let o : Obeyed = settled_in t loads (length (ticks ++ heard)) (standing k t loads memory heard) c command transmitter burst in
    let later : List Moment = quiet_moments mays ++ (now ∷ (ticks ++ heard)) in is_owed o.duty ≡ true →
    runs k (heard_on (other_of c) (now ∷ (ticks ++ heard))) ≡ false → length later ≡ due_after t (end_of burst) →
    BeginsAnswer k t (standing k t loads memory later) c later
    × ((standing k t loads memory later).duty ≡ o.duty) × ((standing k t loads memory later).part ≡ Second)
settled-due k t loads memory c heard ticks now burst command transmitter mays small ready hears beside ended last duty stands owes rests due =
    let s = standing k t loads memory heard in
    let o : Obeyed = settled_in t loads (length (ticks ++ heard)) s c command transmitter burst in
    let so = settled k t loads memory c heard ticks now burst ready beside ended hears small command transmitter last duty stands in
    let u = after_promise s (end_of burst) o in
    let made = ready.promise (ap is_promise duty) in
    let first = began k t s c heard ticks now burst hears ended in
    let fresh = not-from (end_of burst + k) (mark_on s.addressed (other_of s.channel))
    (λ m e. let before = marks-before k t loads memory (other_of s.channel) heard m e in omega (arith, before, first)) in
    answer-as k t loads memory c (quiet_moments mays ++ (now ∷ (ticks ++ heard))) u
    (answer-due k t loads memory c (now ∷ (ticks ++ heard)) mays burst u so.0 ended rests owes made.0 refl fresh due)
