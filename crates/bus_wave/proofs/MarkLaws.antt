-- What a channel's lister keeps tells what a tick tells.
use Rattle.std.proofs.Common.{◌≡◌, ℕ, zero, suc, ◌+◌, ◌*◌, ◌-◌, ◌≤◌, List, [], ◌∷◌, ◌++◌, length, refl, ap, sym, ◌∙◌, arith}
use Rattle.std.specs.Prelude.{Bool, true, false, ◌==◌, ◌&&◌, flat_map, is_some, is_none, if◌then◌else◌, Option, Some, None}
use Rattle.std.proofs.lemmas.Bool.Decides.{nat_tests}
use Rattle.bus_base.specs.Samples.{is_quiet}
use Rattle.bus_base.specs.declared.samples.Sample.{Sample}
use Rattle.bus_base.specs.declared.samples.Sample.TheVariants.{Plus, Minus, Quiet}
use Rattle.bus_words.specs.declared.word.Word.{Word}
use Rattle.bus_line.specs.Past.{Burst, Slot, runs, stopped, first_tick, newest_burst, end_of, rest_of, slot_now, heard_or_now}
use Rattle.bus_line.specs.Cutting.{cut_now, running_slots, Tells, Closes, Fills}
use Rattle.bus_line.specs.declared.cutter.TheConstants.{LAG}
use Rattle.bus_line.specs.declared.cutter.Cut.TheVariants as cuts
use Rattle.bus_line.proofs.CollectLaws.{end-closes, slot-fills}
use Rattle.bus_monitor.specs.Listings.{running_on}
use Rattle.bus_monitor.specs.Messages.{Closed, Waiting, message_of}
use Rattle.bus_monitor.specs.Progress.{closed_now, closed_in_time}
use Rattle.bus_monitor.specs.Awaited.{awaited}
use Rattle.bus_monitor.specs.Channels.{ChannelListerStands}
use Rattle.bus_monitor.specs.Steps.{burst_next, waits_in}
use Rattle.bus_monitor.specs.declared.channel_lister.ChannelLister.{ChannelLister}
use Rattle.bus_monitor.proofs.PastLaws.{RunsOn, runs-on, an-end}
use Rattle.bus_monitor.proofs.PastLaws as past_laws
use Rattle.bus_monitor.proofs.StepLaws.{running-is, some-if}
use Rattle.bus_monitor.proofs.ListerLaws.{tells-cut, nothing-closed, IsEnded, end-is, end-closed, end-next}
use Rattle.bus_wave.specs.Told.{Told, told_at, told_closed, told_begin, told_by, told_now, told_sender, told_opening, told_stop, told_to, told_last, told_waiting, slot_mark}
use Rattle.bus_wave.specs.Steps.{told_nothing, told_index, told_next, told_sender_of}
use Rattle.bus_wave.specs.declared.marks.Mark.TheVariants as marks

-- ---- nothing became known

-- where no burst runs, what closes in a quiet tick is what is over
closes-quiet : (x : Sample) (running : Option ℕ) (now : ℕ) (waiting : Option Waiting) → is_some running ≡ false → is_quiet x ≡ true →
    closed_in_time now false waiting ≡ closed_in_time now (is_some (heard_or_now x now running)) waiting
closes-quiet Quiet None now waiting none quiet = refl
closes-quiet Plus running now waiting none quiet = absurd (cc)
closes-quiet Minus running now waiting none quiet = absurd (cc)
closes-quiet x (Some first) now waiting none quiet = absurd (cc)

nothing-by : (ran quiet : Bool) (closed closed' begins : List Told) → (ran ≡ false → quiet ≡ true → closed ≡ closed') →
    (if ran then [] else if quiet then closed else begins) ≡ (if ran then [] else if quiet then closed' else begins)
nothing-by true quiet closed closed' begins h = refl
nothing-by false true closed closed' begins h = h refl refl
nothing-by false false closed closed' begins h = refl

pub nothing-told : (lister : ChannelLister) (gap : Option ℕ) (x : Sample) (past : List Sample) (now : ℕ) → ChannelListerStands lister past → length past ≡ now →
    cuts.Nothing ≡ cut_now LAG (x ∷ past) → told_nothing LAG gap now x lister.running lister.waiting ≡ told_now LAG gap x past
nothing-told lister gap x past now s here is =
    let tells : Tells LAG (x ∷ past) cuts.Nothing = tells-cut LAG x past cuts.Nothing is in
    let ran : is_some lister.running ≡ runs LAG past = ap is_some s.running ∙ some-if (runs LAG past) (first_tick LAG past) in
    nothing-by (is_some lister.running) (is_quiet x) (flat_map (told_closed LAG) (closed_in_time now false lister.waiting))
    (flat_map (told_closed LAG) (closed_now LAG (x ∷ past))) (told_begin gap now lister.waiting)
    (λ none quiet. ap (λ (closed : List Closed). flat_map (told_closed LAG) closed)
    (closes-quiet x lister.running now lister.waiting none quiet ∙ nothing-closed lister x past now s here is))
    ∙ ap (λ b. if b then [] else if is_quiet x then flat_map (told_closed LAG) (closed_now LAG (x ∷ past)) else told_begin gap now lister.waiting) ran
    ∙ ap (λ n. if runs LAG past then [] else if is_quiet x then flat_map (told_closed LAG) (closed_now LAG (x ∷ past)) else told_begin gap n lister.waiting) (sym here)
    ∙ ap (λ (w : Option Waiting). if runs LAG past then [] else if is_quiet x then flat_map (told_closed LAG) (closed_now LAG (x ∷ past)) else told_begin gap (length past) w) s.waiting
    ∙ sym (ap (λ (e : Option Burst). told_by LAG gap x past e (slot_now LAG (x ∷ past))) tells.0 ∙ ap (λ (e : Option Slot). told_by LAG gap x past None e) tells.1)

-- ---- a slot

index-is : (first i : ℕ) → (first + 40 * i == first) ≡ (i == 0)
index-is first zero = grind (arith, nat_tests)
index-is first (suc i) = grind (arith, nat_tests)

-- where the burst of a slot began, and that the slot is within the ticks
pub record IsSlotOf (lister : ChannelLister) (gap : Option ℕ) (x : Sample) (past : List Sample) (index : ℕ) (word : Option Word) : Type 0 where
  pub first : ℕ
  pub runs : lister.running ≡ Some first
  pub within : first + 40 * index ≤ length past
  pub told : told_index first index word lister.waiting ≡ told_now LAG gap x past

pub slot-told : (lister : ChannelLister) (gap : Option ℕ) (x : Sample) (past : List Sample) (index : ℕ) (word : Option Word) → ChannelListerStands lister past →
    cuts.Slot index word ≡ cut_now LAG (x ∷ past) → IsSlotOf lister gap x past index word
slot-told lister gap x past index word s is =
    let tells : Tells LAG (x ∷ past) (cuts.Slot index word) = tells-cut LAG x past (cuts.Slot index word) is in
    let slot : Slot = record { first = first_tick LAG (x ∷ past) + 40 * index; word = word } in
    let fills : Fills LAG x past slot = slot-fills LAG x past slot (omega arith) tells.1 in
    let same : first_tick LAG (x ∷ past) ≡ first_tick LAG past = (runs-on LAG x past tells.0).same fills.ran in
    record {
      first = first_tick LAG past;
      runs = s.running ∙ running-is LAG past true fills.ran;
      within = let whole = fills.whole in omega (arith, same, whole);
      told = ap (λ (f : ℕ). told_at (f + 40 * index) (marks.Word (slot_mark ((index == 0) && is_none lister.waiting) word)) ∷ []) (sym same)
          ∙ ap (λ (w : Option Waiting). told_at (first_tick LAG (x ∷ past) + 40 * index) (marks.Word (slot_mark ((index == 0) && is_none w) word)) ∷ []) s.waiting
          ∙ ap (λ (b : Bool). told_at (first_tick LAG (x ∷ past) + 40 * index) (marks.Word (slot_mark (b && is_none (awaited LAG past)) word)) ∷ [])
          (sym (index-is (first_tick LAG (x ∷ past)) index))
          ∙ sym (ap (λ (e : Option Burst). told_by LAG gap x past e (slot_now LAG (x ∷ past))) tells.0 ∙ ap (λ (e : Option Slot). told_by LAG gap x past None e) tells.1);
    }

-- ---- an end

-- what the end of a burst tells, by what was kept
pub record IsEndOf (lister : ChannelLister) (gap : Option ℕ) (x : Sample) (past : List Sample) (now rest : ℕ) : Type 0 where
  pub ended : IsEnded LAG x past rest
  pub early : ended.first ≤ length past
  pub told : told_next LAG ended.first (now - LAG) lister.waiting (message_of (running_slots LAG past) rest) rest
      (burst_next lister.waiting ended.first (now - LAG) now (running_slots LAG past) rest) ≡ told_now LAG gap x past

sender-same : (w : Option Waiting) (burst : Burst) (first rest : ℕ) (slots : List (Option Word)) → burst.first ≡ first → burst.slots ≡ slots →
    rest_of burst ≡ rest → told_sender_of first w (message_of slots rest) ≡ told_sender LAG w burst
sender-same None burst first rest slots f s r =
    ap (λ v. told_opening v (message_of slots rest)) (sym f)
    ∙ ap (λ (v : List (Option Word)). told_opening burst.first (message_of v rest)) (sym s)
    ∙ ap (λ v. told_opening burst.first (message_of burst.slots v)) (sym r)
sender-same (Some w) burst first rest slots f s r = refl

pub parts-same : (a a' b b' c c' d d' : List Told) → a ≡ a' → b ≡ b' → c ≡ c' → d ≡ d' → ((a ++ b) ++ c) ++ d ≡ ((a' ++ b') ++ c') ++ d'
parts-same a a' b b' c c' d d' p q r s = rw (p, q, r, s) refl

pub some-same : (a b : ℕ) → Some a ≡ Some b → a ≡ b
some-same a b h = cc

pub end-told : (lister : ChannelLister) (gap : Option ℕ) (x : Sample) (past : List Sample) (now slots rest : ℕ) → ChannelListerStands lister past → length past ≡ now →
    cuts.Ended slots rest ≡ cut_now LAG (x ∷ past) → IsEndOf lister gap x past now rest
end-told lister gap x past now slots rest s here is =
    let burst : Burst = newest_burst LAG (x ∷ past) in
    let tells : Tells LAG (x ∷ past) (cuts.Ended slots rest) = tells-cut LAG x past (cuts.Ended slots rest) is in
    let ends : past_laws.Ends LAG past burst (x ∷ past) = an-end LAG x past burst tells.0 in
    let closes : Closes LAG x past burst = end-closes LAG x past burst tells.0 in
    let e : IsEnded LAG x past rest = end-is x past slots rest is in
    let first : first_tick LAG past ≡ e.first = some-same (first_tick LAG past) e.first (sym (running-is LAG past true ends.ran) ∙ e.ran) in
    let known = ends.end in
    let begins = ends.first in
    let stop : now - LAG ≡ end_of burst = omega (arith, known, here) in
    record {
      ended = e;
      early = omega (arith, known, begins, first);
      told = parts-same _ _ _ _ _ _ _ _
          (ap (λ v. told_stop v rest) stop ∙ ap (λ v. told_stop (end_of burst) v) (sym tells.3))
          (sender-same lister.waiting burst e.first rest (running_slots LAG past) (ends.first ∙ first) closes.slots tells.3
          ∙ ap (λ (w : Option Waiting). told_sender LAG w burst) s.waiting)
          (ap (λ (closed : List Closed). flat_map (told_closed LAG) closed) (end-closed lister.waiting x past now rest s.waiting here e))
          (ap told_waiting (ap waits_in (end-next lister.waiting past now e.first rest s.waiting here) ∙ e.waits))
          ∙ sym (ap (λ (b : Option Burst). told_by LAG gap x past b (slot_now LAG (x ∷ past))) tells.0);
    }

-- ---- the end of the capture

-- where no burst runs, it doesn't matter where one would stop
to-none : (stop stop' : ℕ) (w : Option Waiting) → told_to stop None w ≡ told_to stop' None w
to-none stop stop' None = refl
to-none stop stop' (Some w) = refl

last-by : (ran : Bool) (lister : ChannelLister) (past : List Sample) (stop : ℕ) → runs LAG past ≡ ran → ChannelListerStands lister past →
    (runs LAG past ≡ true → stop ≡ stopped past) → told_to stop lister.running lister.waiting ≡ told_last LAG past
last-by true lister past stop is s h =
    ap (λ v. told_to v lister.running lister.waiting) (h is)
    ∙ ap (λ (r : Option ℕ). told_to (stopped past) r lister.waiting) s.running
    ∙ ap (λ (w : Option Waiting). told_to (stopped past) (running_on LAG past) w) s.waiting
last-by false lister past stop is s h =
    let none : running_on LAG past ≡ None = running-is LAG past false is in
    ap (λ (r : Option ℕ). told_to stop r lister.waiting) (s.running ∙ none)
    ∙ to-none stop (stopped past) lister.waiting
    ∙ ap (λ (r : Option ℕ). told_to (stopped past) r lister.waiting) (sym none)
    ∙ ap (λ (w : Option Waiting). told_to (stopped past) (running_on LAG past) w) s.waiting

pub last-told : (lister : ChannelLister) (past : List Sample) (stop : ℕ) → ChannelListerStands lister past →
    (runs LAG past ≡ true → stop ≡ stopped past) → told_to stop lister.running lister.waiting ≡ told_last LAG past
last-told lister past stop s h = last-by (runs LAG past) lister past stop refl s h
