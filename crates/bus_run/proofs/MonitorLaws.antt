-- What the lists of words and bursts grow by in a tick.
use Rattle.std.proofs.Common.{◌≡◌, ℕ, suc, ◌<◌, ◌≤◌, ◌^◌, Bool, true, false, ◌&&◌, List, [], ◌∷◌, ◌++◌, lit≤}
use Rattle.std.proofs.Common.{length, map, refl, ap, sym, ◌∙◌, arith, subst, append-nil, append_assoc, if◌then◌else◌, Option, Some, None}
use Rattle.std.specs.Prelude.{option_to_list}
use Rattle.std.proofs.lemmas.List.{map-append}
use Rattle.bus_base.specs.declared.samples.Channel.{Channel}
use Rattle.bus_base.specs.declared.samples.Channel.TheVariants.{A, B}
use Rattle.bus_base.specs.declared.samples.Pair.{Pair}
use Rattle.bus_base.specs.declared.samples.Sample.{Sample}
use Rattle.bus_line.specs.Past.{Burst, ended_now, slot_now}
use Rattle.bus_line.specs.Cutting.{cut_now, Tells}
use Rattle.bus_line.specs.declared.cutter.Cut.{Cut}
use Rattle.bus_line.specs.declared.cutter.Cut.TheVariants as kinds
use Rattle.bus_line.specs.declared.cutter.TheConstants.{LAG}
use Rattle.bus_line.proofs.CutNow.{cut-tells}
use Rattle.bus_receiver.specs.Moments.{moment_of}
use Rattle.bus_receiver.specs.Nothing.{is_nothing, are_nothing}
use Rattle.bus_receiver.specs.declared.receiver.Moment.{Moment}
use Rattle.bus_line.specs.Channels.{on_channel, both_quiet, quiet_both, valid, valid_now, bursts, burst_now, burst_of}
use Rattle.bus_model.specs.WorldLog.{heard_word, heard_burst}
use Rattle.bus_monitor.specs.Progress.{heard_now}
use Rattle.bus_monitor.proofs.ChannelLaws.{length-on_channel}
use Rattle.bus_monitor.proofs.LineLaws.{heard-valid}
use Rattle.bus_run.specs.BurstListers.{EarStands, heard_of, burst_on}
use Rattle.bus_run.specs.Monitors.{ListsStand}
use Rattle.bus_run.specs.declared.burst_lister.Ear.{Ear}
use Rattle.bus_run.specs.declared.monitor.Monitor.{Monitor}
use Rattle.bus_run.proofs.BurstLaws.{ear-keeps}

-- the words grow by those of the tick
pub words-grow : (k : ℕ) (shown : Pair) (past : List Pair) → map heard_word (valid k (shown ∷ past))
    ≡ (map heard_word (valid k past) ++ option_to_list (heard_now k A (shown ∷ past))) ++ option_to_list (heard_now k B (shown ∷ past))
unfolding valid
words-grow k shown past =
    map-append heard_word (valid k past) (valid_now k A (shown ∷ past) ++ valid_now k B (shown ∷ past))
    ∙ ap (λ xs. map heard_word (valid k past) ++ xs) (heard-valid k (shown ∷ past))
    ∙ sym (append_assoc (map heard_word (valid k past)) (option_to_list (heard_now k A (shown ∷ past))) (option_to_list (heard_now k B (shown ∷ past))))

-- a burst as the log has it
burst-heard : (c : Channel) (found : Option Burst) → map heard_burst (burst_of c found) ≡ option_to_list (heard_of c found)
burst-heard c None = refl
burst-heard c (Some burst) = refl

-- the bursts grow by those of the tick
pub bursts-grow : (k : ℕ) (shown : Pair) (past : List Pair) → map heard_burst (bursts k (shown ∷ past))
    ≡ (map heard_burst (bursts k past) ++ option_to_list (burst_on k A (shown ∷ past))) ++ option_to_list (burst_on k B (shown ∷ past))
unfolding bursts
bursts-grow k shown past =
    map-append heard_burst (bursts k past) (burst_now k A (shown ∷ past) ++ burst_now k B (shown ∷ past))
    ∙ ap (λ xs. map heard_burst (bursts k past) ++ xs) (map-append heard_burst (burst_now k A (shown ∷ past)) (burst_now k B (shown ∷ past)))
    ∙ (rw (burst-heard A (ended_now k (on_channel A (shown ∷ past))), burst-heard B (ended_now k (on_channel B (shown ∷ past))))
    (sym (append_assoc (map heard_burst (bursts k past)) (option_to_list (burst_on k A (shown ∷ past))) (option_to_list (burst_on k B (shown ∷ past))))))

-- no word before the first tick
pub words-none : (k : ℕ) → map heard_word (valid k []) ≡ []
unfolding valid
words-none k = refl

-- no burst before it
pub bursts-none : (k : ℕ) → map heard_burst (bursts k []) ≡ []
unfolding bursts
bursts-none k = refl

-- one quiet tick more, or none
quiet-next : (b : Bool) (n m : ℕ) → n ≤ m → (if b then suc n else 0) ≤ suc m
quiet-next true n m le = omega (arith, le)
quiet-next false n m le = omega arith

-- no more quiet ticks than ticks
pub quiet-few : (past : List Pair) → quiet_both past ≤ length past
quiet-few [] = omega arith
quiet-few (shown ∷ past) = quiet-next (both_quiet shown) (quiet_both past) (length past) (quiet-few past)

-- ---- a tick with which nothing becomes known

is-nothing : (cut : Cut) → is_nothing cut ≡ true → cut ≡ kinds.Nothing
is-nothing kinds.Nothing h = refl
is-nothing (kinds.Slot i word) h = absurd (cc)
is-nothing (kinds.Ended slots rest) h = absurd (cc)

both-so : (a b : Bool) → (a && b) ≡ true → (a ≡ true) × (b ≡ true)
both-so true b h = (refl, h)
both-so false b h = absurd (cc)

-- nothing ended on either channel
pub record Still (k : ℕ) (past : List Pair) : Type 0 where
  pub a : kinds.Nothing ≡ cut_now k (on_channel A past)
  pub b : kinds.Nothing ≡ cut_now k (on_channel B past)

pub still-of : (k : ℕ) (moment : Moment) (past : List Pair) → moment ≡ moment_of k moment.shown past → are_nothing moment.cuts ≡ true →
    Still k (moment.shown ∷ past)
still-of k moment past is none =
    let both = both-so (is_nothing moment.cuts.a) (is_nothing moment.cuts.b) none in
    record {
      a = sym (is-nothing moment.cuts.a both.0) ∙ ap (λ (m : Moment). m.cuts.a) is;
      b = sym (is-nothing moment.cuts.b both.1) ∙ ap (λ (m : Moment). m.cuts.b) is;
    }

nothing-tells : (k : ℕ) (past : List Sample) → kinds.Nothing ≡ cut_now k past → (ended_now k past ≡ None) × (slot_now k past ≡ None)
nothing-tells k past is = subst (λ (cut : Cut). Tells k past cut) (sym is) (cut-tells k past)

-- no word is listed
none-heard : (k : ℕ) (c : Channel) (past : List Pair) → kinds.Nothing ≡ cut_now k (on_channel c past) → option_to_list (heard_now k c past) ≡ []
none-heard k c past is = (let none = (nothing-tells k (on_channel c past) is).1 in rw none refl)

-- nor a burst
none-ended : (k : ℕ) (c : Channel) (past : List Pair) → kinds.Nothing ≡ cut_now k (on_channel c past) → option_to_list (burst_on k c past) ≡ []
none-ended k c past is = (let none = (nothing-tells k (on_channel c past) is).0 in rw none refl)

-- what is kept of the bursts stays
ear-still : (k : ℕ) (ear : Ear) (x : Sample) (past : List Sample) → k ≤ 39 → length past < 2 ^ 32 → kinds.Nothing ≡ cut_now k (x ∷ past) →
    EarStands k ear past → EarStands k ear (x ∷ past)
ear-still k ear x past short small is st = ear-keeps k ear x past kinds.Nothing short small st is

-- so the lists stand for the tick too
pub lists-still : (most_words most_bursts : ℕ) (monitor : Monitor) (shown : Pair) (past : List Pair) → length past < 2 ^ 32 →
    Still LAG (shown ∷ past) → ListsStand most_words most_bursts monitor past → ListsStand most_words most_bursts monitor (shown ∷ past)
lists-still most_words most_bursts monitor shown past small still st =
    let a = length-on_channel A past in
    let b = length-on_channel B past in
    record {
      burst_lister = record {
        a = ear-still LAG _ shown.a (on_channel A past) (lit≤ tt) (omega (arith, a, small)) still.a st.burst_lister.a;
        b = ear-still LAG _ shown.b (on_channel B past) (lit≤ tt) (omega (arith, b, small)) still.b st.burst_lister.b;
      };
      words_are = st.words_are ∙ sym (words-grow LAG shown past
          ∙ (rw (none-heard LAG A (shown ∷ past) still.a, none-heard LAG B (shown ∷ past) still.b) (append-nil _ ∙ append-nil _)));
      bursts_are = st.bursts_are ∙ sym (bursts-grow LAG shown past
          ∙ (rw (none-ended LAG A (shown ∷ past) still.a, none-ended LAG B (shown ∷ past) still.b) (append-nil _ ∙ append-nil _)));
      word_room = st.word_room;
      burst_room = st.burst_room;
    }

-- the lists don't depend on the count of quiet ticks
pub lists-quiet : (most_words most_bursts quiet : ℕ) (monitor : Monitor) (past : List Pair) → ListsStand most_words most_bursts monitor past →
    ListsStand most_words most_bursts (record monitor { quiet = quiet }) past
lists-quiet most_words most_bursts quiet monitor past st = record {
  burst_lister = st.burst_lister;
  words_are = st.words_are;
  bursts_are = st.bursts_are;
  word_room = st.word_room;
  burst_room = st.burst_room;
}

-- a tick with what was shown in it
pub own-moment : (k : ℕ) (moment : Moment) (shown : Pair) (past : List Pair) → moment ≡ moment_of k shown past → moment ≡ moment_of k moment.shown past
own-moment k moment shown past is = is ∙ ap (λ (x : Pair). moment_of k x past) (sym (ap (λ (m : Moment). m.shown) is))
