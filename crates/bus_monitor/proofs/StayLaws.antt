-- Ticks at once that tell nothing and close no message: what the lister of a channel keeps stays so.
use Rattle.std.proofs.Common.{◌≡◌, ℕ, ◌+◌, ◌<◌, ◌≤◌, List, [], ◌∷◌, ◌++◌, length, take, reverse, refl, ap, sym, ◌∙◌, arith, length-append}
use Rattle.std.specs.Prelude.{false, ◌==◌, if◌then◌else◌, is_some, map, Option, Some, None}
use Rattle.std.proofs.lemmas.Bool.Decides.{nat_tests}
use Rattle.std.specs.List.{range_with_len}
use Rattle.std.proofs.lemmas.List.{append-nil, length-reverse}
use Rattle.std.proofs.lemmas.List.FromFn.{length-map-range_with_len}
use Rattle.bus_base.specs.Samples.{sample_on}
use Rattle.bus_base.specs.declared.samples.Channel.TheVariants.{A, B}
use Rattle.bus_base.specs.declared.samples.Sample.{Sample}
use Rattle.bus_base.specs.declared.samples.Pair.{Pair}
use Rattle.bus_line.specs.Past.{runs, first_tick, heard_or_now}
use Rattle.bus_line.specs.Channels.{on_channel}
use Rattle.bus_line.specs.Cutting.{cut_now, running_slots}
use Rattle.bus_planes.specs.Still.{sample_in, samples_in, TellNothing}
use Rattle.bus_line.specs.declared.cutter.TheConstants.{LAG}
use Rattle.bus_line.specs.declared.cutter.Cut.TheVariants as cuts
use Rattle.bus_formats.specs.Times.{no_response}
use Rattle.bus_monitor.specs.Awaited.{awaited, kept_in_time}
use Rattle.bus_monitor.specs.Channels.{ChannelListerStands}
use Rattle.bus_monitor.specs.Listings.{running_on}
use Rattle.bus_monitor.specs.Messages.{Waiting}
use Rattle.bus_monitor.specs.Parts.{InTime, CloseNone}
use Rattle.bus_monitor.specs.Progress.{closed_now, closed_in_time, message_lines, messages_now}
use Rattle.bus_monitor.specs.declared.channel_lister.ChannelLister.{ChannelLister}
use Rattle.bus_monitor.proofs.IdleLaws.{none-if, no-lines}
use Rattle.bus_monitor.proofs.LineLaws.{message_lines-grow}
use Rattle.bus_monitor.proofs.ListerLaws.{IsWaited, is-waited, tells-cut, collects-cut, runs-closed, runs-keeps}
use Rattle.bus_monitor.proofs.PartLaws.{on-append}

-- ---- one channel

-- where none ran none runs, and what ran keeps its first tick
running-kept : (x : Sample) (now : ℕ) (running : Option ℕ) (past : List Sample) → running ≡ running_on LAG past →
    heard_or_now x now running ≡ running_on LAG (x ∷ past) → runs LAG (x ∷ past) ≡ runs LAG past → heard_or_now x now running ≡ running
running-kept x now (Some first) past is next same = refl
running-kept x now None past is next same =
    let off : runs LAG past ≡ false = none-if (runs LAG past) (first_tick LAG past) (sym is) in
    next ∙ ap (λ b. if b then Some (first_tick LAG (x ∷ past)) else None) (same ∙ off)

not-over : (now over : ℕ) → now < over → (now == over) ≡ false
not-over now over h = grind (arith, nat_tests, h)

closes-none : (now : ℕ) (running : Option ℕ) (waiting : Option Waiting) →
    (running ≡ None → (w : Waiting) → waiting ≡ Some w → now < w.from + no_response) → closed_in_time now (is_some running) waiting ≡ []
closes-none now (Some first) waiting time = runs-closed now waiting
closes-none now None None time = refl
closes-none now None (Some w) time = rw (not-over now (w.from + no_response) (time refl w refl)) refl

keeps-it : (now : ℕ) (running : Option ℕ) (waiting : Option Waiting) →
    (running ≡ None → (w : Waiting) → waiting ≡ Some w → now < w.from + no_response) → kept_in_time now (is_some running) waiting ≡ waiting
keeps-it now (Some first) waiting time = runs-keeps now waiting
keeps-it now None None time = refl
keeps-it now None (Some w) time = rw (not-over now (w.from + no_response) (time refl w refl)) refl

-- what the lister keeps besides the cutter is that of the past with these ticks
pub record Stays (lister : ChannelLister) (xs past : List Sample) : Type 0 where
  pub runs : runs LAG (xs ++ past) ≡ runs LAG past
  pub running : lister.running ≡ running_on LAG (xs ++ past)
  pub slots : lister.slots.items ≡ take 34 (running_slots LAG (xs ++ past))
  pub waiting : lister.waiting ≡ awaited LAG (xs ++ past)
  pub closes : CloseNone xs past

pub stays : (lister : ChannelLister) (xs past : List Sample) (n : ℕ) → ChannelListerStands lister past → TellNothing LAG xs past →
    InTime lister (length past) n → length xs ≤ n → Stays lister xs past
stays lister [] past n s told time few = record { runs = refl; running = s.running; slots = s.slots; waiting = s.waiting; closes = tt }
stays lister (x ∷ xs) past n s told time few =
    let p : List Sample = xs ++ past in
    let now : ℕ = length p in
    let before : Stays lister xs past = stays lister xs past n s told.2 time (omega (arith, few)) in
    let is : cuts.Nothing ≡ cut_now LAG (x ∷ p) = sym told.0 in
    let waited : IsWaited LAG x p now lister.running lister.waiting =
    is-waited LAG x p now lister.running lister.waiting (tells-cut LAG x p cuts.Nothing is).0 refl before.running before.waiting in
    let kept : heard_or_now x now lister.running ≡ lister.running =
    running-kept x now lister.running p before.running waited.running_is (told.1 ∙ sym before.runs) in
    let long : length p ≡ length xs + length past = length-append xs past in
    let soon : lister.running ≡ None → (w : Waiting) → lister.waiting ≡ Some w → now < w.from + no_response =
    λ none w waits. let at : length past + n ≤ w.from + no_response = time none w waits in omega (arith, at, long, few) in
    record {
      runs = told.1;
      running = sym kept ∙ waited.running_is;
      slots = before.slots ∙ ap (take 34) (sym (collects-cut LAG x p cuts.Nothing (omega arith) is));
      waiting = sym (keeps-it now lister.running lister.waiting soon)
          ∙ ap (λ r. kept_in_time now (is_some r) lister.waiting) (sym kept) ∙ waited.keeps;
      closes = (
        sym waited.closed ∙ ap (λ r. closed_in_time now (is_some r) lister.waiting) kept ∙ closes-none now lister.running lister.waiting soon,
        before.closes,
      );
    }

pub long-shown : (heard plus n : ℕ) → length (reverse (samples_in heard plus n)) ≤ n
unfolding samples_in
long-shown heard plus n =
    let long : length (reverse (map (sample_in heard plus) (range_with_len 0 n))) ≡ n =
    length-reverse (map (sample_in heard plus) (range_with_len 0 n)) ∙ length-map-range_with_len (sample_in heard plus) 0 n in
    omega (arith, long)

-- ---- both

pub messages-still : (ticks past : List Pair) → CloseNone (on_channel A ticks) (on_channel A past) → CloseNone (on_channel B ticks) (on_channel B past) →
    message_lines LAG (ticks ++ past) ≡ message_lines LAG past
messages-still [] past a b = refl
messages-still (shown ∷ ticks) past a b =
    let before : List Pair = ticks ++ past in
    let on-a : closed_now LAG (on_channel A (shown ∷ before)) ≡ [] = ap (λ ys. closed_now LAG (sample_on shown A ∷ ys)) (on-append A ticks past) ∙ a.0 in
    let on-b : closed_now LAG (on_channel B (shown ∷ before)) ≡ [] = ap (λ ys. closed_now LAG (sample_on shown B ∷ ys)) (on-append B ticks past) ∙ b.0 in
    message_lines-grow LAG shown before (omega arith)
    ∙ ap (λ xs. message_lines LAG before ++ (xs ++ messages_now LAG B (shown ∷ before))) (no-lines A (closed_now LAG (on_channel A (shown ∷ before))) on-a)
    ∙ ap (λ xs. message_lines LAG before ++ xs) (no-lines B (closed_now LAG (on_channel B (shown ∷ before))) on-b)
    ∙ append-nil (message_lines LAG before) ∙ messages-still ticks past a.1 b.1
