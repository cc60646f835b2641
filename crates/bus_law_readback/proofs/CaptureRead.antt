-- The capture of an accepted plan's run is read as its ticks, and its words are those of the run's report.
use Rattle.std.proofs.Common.{◌≡◌, ℕ, zero, suc, ◌+◌, ◌*◌, ◌≤◌, Bool, true, false, List, [], ◌∷◌, ◌++◌, length, reverse, map, sym, ap, ◌∙◌, subst, arith, length-append, inl, inr}
use Rattle.std.proofs.lemmas.List.{length-reverse}
use Rattle.std.specs.Prelude.{◌==◌, if◌then◌else◌, flat_map, Option, Result, Ok, Err}
use Rattle.std.specs.Io.KnownBytes.{Appends}
use Rattle.bus_base.specs.declared.samples.Pair.{Pair}
use Rattle.bus_capture.proofs.RoundTrip.{round-trip}
use Rattle.bus_capture.specs.Captures.{capture_text, header, line_feed, line_ticks, ticks_text}
use Rattle.bus_capture.specs.Readings.{text_limit, Capture, capture_ticks, ticks_in, end_after, place_after, tick_now, answer_at, end_in}
use Rattle.bus_capture.specs.declared.reader.Place.{Place}
use Rattle.bus_capture.specs.declared.reader.Place.TheVariants.{Between, Half, Refused}
use Rattle.bus_capture.specs.declared.refusal.CaptureRefusal.{CaptureRefusal}
use Rattle.bus_formats.specs.Accepted.{IsAccepted}
use Rattle.bus_formats.specs.Logs.{LogData}
use Rattle.bus_formats.specs.Plans.{PlanData, without_subsystems}
use Rattle.bus_line.specs.Channels.{valid}
use Rattle.bus_line.specs.declared.cutter.TheConstants.{LAG}
use Rattle.bus_model.specs.World.{world}
use Rattle.bus_model.specs.Log.{run_log}
use Rattle.bus_model.specs.WorldLog.{world_log}
use Rattle.bus_monitor.specs.Listings.{heard_word, word_listing}
use Rattle.bus_monitor.specs.Progress.{word_lines, end_text}
use Rattle.bus_monitor.specs.Scribes.{IsListed, IsRefusedBy}
use Rattle.bus_monitor.specs.declared.listing.Listing.TheVariants as listings
use Rattle.bus_text.specs.Texts.{word_line}
use Rattle.bus_law_run.specs.WorldIsRun.{plan_end}
use Rattle.bus_run.proofs.BusLaws.{world-length}
use Rattle.bus_run.proofs.TableRun.{of-plan, end-small}
use Rattle.bus_tool.specs.Texts.{plan_run, text_of}
use Rattle.bus_tool.specs.declared.text.Text.TheVariants as texts
use Rattle.bus_law_readback.proofs.AlikeBus.{world-same, ends-same}

-- ---- a capture is not too long

-- at most three bytes for each tick, and a line feed
module _ (n : ℕ) (later : List Pair) (few : (m : ℕ) → length (ticks_text m later) ≤ 3 * length later + 1) where
  line-few : (test : Bool) → length (if test then line_feed ∷ ticks_text 0 later else ticks_text (suc n) later) ≤ 3 * length later + 2
  line-few true = let most = few 0 in omega (arith, most)
  line-few false = let most = few (suc n) in omega (arith, most)

text-few : (later : List Pair) (n : ℕ) → length (ticks_text n later) ≤ 3 * length later + 1
text-few [] zero = omega arith
text-few [] (suc n) = omega arith
text-few (shown ∷ later) n = let most = line-few n later (text-few later) (suc n == line_ticks) in omega (arith, most)

capture-few : (past : List Pair) → length (capture_text past) ≤ 3 * length past + 16
unfolding capture_text
capture-few past =
    let most = text-few (reverse past) 0 in
    let long : length (header ++ ticks_text 0 (reverse past)) ≡ 15 + length (ticks_text 0 (reverse past)) = length-append header (ticks_text 0 (reverse past)) in
    let same : length (reverse past) ≡ length past = length-reverse past in
    omega (arith, most, long, same)

-- ---- a text whose end is good isn't refused

abbrev done-with : ℕ → Result ℕ CaptureRefusal
done-with n = Ok n

same-count : (n m : ℕ) → done-with n ≡ done-with m → n ≡ m
same-count n m is = cc

pub never-both : (place : Place) (tick : Option Pair) (count n m : ℕ) (refusal : CaptureRefusal) → answer_at place tick ≡ Err refusal →
    end_in count n place ≡ Ok m → ⊥
never-both (Refused other) tick count n m refusal refused ended = cc
never-both Between tick count n m refusal refused ended = cc
never-both (Half a) tick count n m refusal refused ended = cc

not-refused : (left : Option (List ℕ)) (bytes : List ℕ) (n : ℕ) (refusal : CaptureRefusal) → end_after bytes ≡ Ok n → IsRefusedBy left bytes refusal → ⊥
not-refused left bytes n refusal ended (inl byte) =
    never-both (place_after bytes) (tick_now bytes) (length bytes) (length (ticks_in bytes)) n refusal byte ended
not-refused left bytes n refusal ended (inr (at, other)) = (let no : done-with n ≡ Err refusal = sym ended ∙ other in cc)

module _ (plan : PlanData) (accepted : IsAccepted plan) where
  abbrev ticks : ℕ
  ticks = plan_end plan

  -- without its subsystems the plan's run ends in the same tick, and the ticks that are written are those of the plan with them
  written : (said : List (List ℕ)) → text_of texts.Capture (plan_run texts.Capture plan) said ≡ capture_text (world LAG plan [] [] [] ticks)
  written said =
      ap (λ n. capture_text (world LAG (without_subsystems plan) [] [] [] n)) (ends-same plan accepted)
      ∙ ap capture_text (world-same LAG plan [] [] [] ticks)

  short : length (capture_text (world LAG plan [] [] [] ticks)) ≤ text_limit
  short =
      let few = capture-few (world LAG plan [] [] [] ticks) in
      let ran = end-small plan accepted in
      let long = world-length plan ticks in
      omega (arith, few, ran, long)

  pub capture-short : (said : List (List ℕ)) → length (text_of texts.Capture (plan_run texts.Capture plan) said) ≤ text_limit
  capture-short said = subst (λ (text : List ℕ). length text ≤ text_limit) (sym (written said)) short

  -- ---- it is read as the ticks of the run

  pub capture-read : (said : List (List ℕ)) →
      capture_ticks (text_of texts.Capture (plan_run texts.Capture plan) said) ≡ record { ticks = world LAG plan [] [] [] ticks; ended = Ok ticks }
  capture-read said =
      ap capture_ticks (written said) ∙ round-trip (world LAG plan [] [] [] ticks) short
      ∙ ap (λ n. record { ticks = world LAG plan [] [] [] ticks; ended = Ok n }) (world-length plan ticks)

  -- ---- and its words are those of the report

  listing-of : word_listing LAG (world LAG plan [] [] [] ticks) ≡ flat_map word_line (run_log LAG plan).words ++ end_text ticks
  unfolding word_listing world_log
  listing-of =
      ap (λ n. flat_map word_line (map heard_word (valid LAG (world LAG plan [] [] [] ticks))) ++ end_text n) (world-length plan ticks)
      ∙ ap (λ (log : LogData). flat_map word_line log.words ++ end_text ticks) (of-plan plan accepted).log

  pub capture-words : (said : List (List ℕ)) →
      word_listing LAG (capture_ticks (text_of texts.Capture (plan_run texts.Capture plan) said)).ticks
      ≡ flat_map word_line (run_log LAG plan).words ++ end_text ticks
  capture-words said = ap (λ (c : Capture). word_listing LAG c.ticks) (capture-read said) ∙ listing-of

  -- ---- a listing of it

  module _ (said : List (List ℕ)) where
    abbrev text : List ℕ
    text = text_of texts.Capture (plan_run texts.Capture plan) said

    pub read-ticks : ticks_in (reverse text) ≡ world LAG plan [] [] [] ticks
    unfolding capture_ticks
    read-ticks = ap (λ (c : Capture). c.ticks) (capture-read said)

    pub read-end : end_after (reverse text) ≡ Ok ticks
    unfolding capture_ticks
    read-end = ap (λ (c : Capture). c.ended) (capture-read said)

    module _ (left0 left1 held0 held1 : Option (List ℕ)) where
      pub listing-done : (n : ℕ) (listed : IsListed (word_lines LAG) (word_listing LAG) left0 left1 held0 held1 (listings.Done n)) →
          listed.input ≡ text → (n ≡ ticks) × Appends held0 held1 (flat_map word_line (run_log LAG plan).words ++ end_text ticks)
      listing-done n listed is =
          let came : end_after (reverse text) ≡ Ok n = ap (λ input. end_after (reverse input)) (sym is) ∙ listed.ends.1 in
          let wrote : word_listing LAG (ticks_in (reverse listed.input)) ≡ flat_map word_line (run_log LAG plan).words ++ end_text ticks =
          ap (λ input. word_listing LAG (ticks_in (reverse input))) is ∙ ap (word_listing LAG) read-ticks ∙ listing-of in
          (same-count n ticks (sym came ∙ read-end), subst (Appends held0 held1) wrote listed.ends.2)

      pub listing-accepted : (refusal : CaptureRefusal) →
          (listed : IsListed (word_lines LAG) (word_listing LAG) left0 left1 held0 held1 (listings.Refused refusal)) → listed.input ≡ text → ⊥
      listing-accepted refusal listed is =
          not-refused left1 (reverse listed.input) ticks refusal (ap (λ input. end_after (reverse input)) is ∙ read-end) listed.ends.0
