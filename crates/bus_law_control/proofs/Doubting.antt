-- An offerer that doubts whether its offer was accepted.
use Rattle.std.proofs.Common.{◌≡◌, inl, ℕ, zero, suc, ◌+◌, ◌<◌, ◌≤◌, Bool, true, false, List, [], ◌∷◌, ◌++◌, length, Option, Some, None, refl, sym, ap, ◌∙◌, arith}
use Rattle.std.proofs.lemmas.Bool.{le-ltb, ne_eqb, eq-eqb}
use Rattle.std.proofs.lemmas.Bool.Decides.{nat_tests}
use Rattle.std.specs.Prelude.{◌==◌, ◌&&◌, nat_lt}
use Rattle.bus_base.specs.Samples.{sample_on, quiet_pair, quiet_pairs}
use Rattle.bus_base.specs.declared.samples.Pair.{Pair}
use Rattle.bus_base.specs.declared.samples.Part.{Part}
use Rattle.bus_base.specs.declared.samples.Part.TheVariants.{First}
use Rattle.bus_base.specs.declared.samples.Sample.{Sample}
use Rattle.bus_base.specs.declared.samples.Drive.TheVariants.{Silent}
use Rattle.bus_line.specs.Past.{Burst, end_of, rest_of, ended_now, end_since}
use Rattle.bus_line.specs.Bursts.{IsEndedNow}
use Rattle.bus_line.specs.Channels.{on_channel, both_quiet, quiet_both}
use Rattle.bus_line.proofs.ChannelLaws.{length-on}
use Rattle.bus_line.proofs.EndLaws.{end_since-stays}
use Rattle.bus_line.proofs.LookUpLaws.{ended-known}
use Rattle.bus_formats.specs.Plans.{StationData}
use Rattle.bus_formats.specs.Readings.{read_answer}
use Rattle.bus_formats.specs.Times.{doubting}
use Rattle.bus_formats.specs.declared.form.Outcome.TheVariants.{BadReply, Yielded}
use Rattle.bus_formats.specs.declared.form.Reading.TheVariants.{Ends}
use Rattle.bus_model.specs.Memory.{TimedLoad}
use Rattle.bus_model.specs.Attempts.{Begun, without_words, is_offer}
use Rattle.bus_model.specs.Controller.{ending_now, ending_after, command_ending, first_ending, first_read, read_ending, doubt_ending, is_bad, is_bad_reply, is_bad_after, doubts_of}
use Rattle.bus_model.specs.Course.{Take, course, close, close_or_run, drive_course}
use Rattle.bus_model.specs.Control.{OutsideTake, course_after, doubts_by, doubts}
use Rattle.bus_law_stations.specs.Silence.{AreTaken, AwaitsFirst}
use Rattle.bus_law_stations.specs.Messages.{ShowsBurst}
use Rattle.bus_law_stations.proofs.StillController.{pairs-long, whole-stays}
use Rattle.bus_law_control.specs.Abandoning.{IsAnsweredSoon, AreKept}
use Rattle.bus_law_control.specs.Offers.{IsDoubting}
use Rattle.bus_law_control.proofs.Endings.{ends-so, goes-on, sends-nothing, later-end}
use Rattle.bus_law_control.proofs.Answered.{reply-read, first-read}

-- ---- it goes on doubting, whatever is shown

-- a tick more
doubts-more : (k : ℕ) (begun : Begun) (past : List Sample) (now : Sample) (x : ℕ) → IsDoubting k begun past x → IsDoubting k begun (now ∷ past) x
doubts-more k begun past now x d = record {
  offers = d.offers;
  command_end = d.command_end;
  ended = end_since-stays k now past begun.start d.command_end d.ended;
  shape = d.shape;
  expects = d.expects;
  burst = d.burst;
  answered = whole-stays k now past d.command_end d.burst d.answered;
  part = d.part;
  status = d.status;
  bad = d.bad;
  end = d.end;
}

-- any ticks more
pub doubts-later : (k : ℕ) (begun : Begun) (past ticks : List Pair) (x : ℕ) → IsDoubting k begun (on_channel begun.state.channel past) x →
    IsDoubting k begun (on_channel begun.state.channel (ticks ++ past)) x
doubts-later k begun past [] x d = d
doubts-later k begun past (now ∷ ticks) x d =
    doubts-more k begun (on_channel begun.state.channel (ticks ++ past)) (sample_on now begun.state.channel) x (doubts-later k begun past ticks x d)

-- as others see it
pub doubts-so : (k : ℕ) (begun : Begun) (past : List Sample) (x : ℕ) → IsDoubting k begun past x → doubts_of k past begun ≡ true
doubts-so k begun past x d =
    ap (λ (b : Bool). b && is_bad_after k begun.entry.item past (end_since k past begun.start)) d.offers
    ∙ ap (is_bad_after k begun.entry.item past) d.ended
    ∙ ap (is_bad_reply begun.entry.item) d.answered
    ∙ ap is_bad d.bad

-- of a station
pub station-doubts : (k : ℕ) (station : StationData) (starts : Bool) (loads : List TimedLoad) (outside : List OutsideTake) (past : List Pair) (begun : Begun)
    (x : ℕ) → (course_after k station starts loads outside past).runs ≡ Some begun → IsDoubting k begun (on_channel begun.state.channel past) x →
    doubts k station starts loads outside past ≡ true
station-doubts k station starts loads outside past begun x runs d =
    ap (doubts_by k station starts loads outside past) runs ∙ doubts-so k begun (on_channel begun.state.channel past) x d

-- ---- how it ends

-- the doubt alone decides how its message ends
ends-by : (k : ℕ) (begun : Begun) (shown : List Pair) (x : ℕ) → IsDoubting k begun (on_channel begun.state.channel shown) x →
    ending_now k begun shown ≡ doubt_ending k begun.entry.item shown (on_channel begun.state.channel shown) x
ends-by k begun shown x d =
    let item = begun.entry.item in
    let channel = on_channel begun.state.channel shown in
    ap (ending_after k begun.entry.item shown channel) d.ended
    ∙ ap (command_ending k begun.entry.item shown channel d.command_end) d.expects
    ∙ ap (first_ending k begun.entry.item shown channel d.command_end) d.answered
    ∙ ap (first_read k begun.entry.item shown channel d.burst) d.bad
    ∙ ap (λ (b : Bool). read_ending k begun.entry.item shown channel d.burst b (BadReply d.part) d.status) d.offers
    ∙ ap (doubt_ending k begun.entry.item shown channel) d.end

-- both channels quiet, fewer than eighty ticks: it goes on
doubts-on : (k : ℕ) (begun : Begun) (shown : List Pair) (x : ℕ) → length shown ≤ x + quiet_both shown → length shown < x + doubting →
    doubt_ending k begun.entry.item shown (on_channel begun.state.channel shown) x ≡ None
doubts-on k begun shown x still early =
    let first : nat_lt (x + quiet_both shown) (length shown) ≡ false = le-ltb (x + quiet_both shown) (length shown) still in
    let second : (length shown == x + doubting) ≡ false = ne_eqb (length shown) (x + doubting) (λ e. omega (arith, e, early)) in
    rw (first, second) refl

-- eighty: it ends with a bad reply
doubts-end : (k : ℕ) (begun : Begun) (shown : List Pair) (x : ℕ) → length shown ≤ x + quiet_both shown → length shown ≡ x + doubting →
    doubt_ending k begun.entry.item shown (on_channel begun.state.channel shown) x ≡ Some (without_words (BadReply First) None None)
doubts-end k begun shown x still at =
    let first : nat_lt (x + quiet_both shown) (length shown) ≡ false = le-ltb (x + quiet_both shown) (length shown) still in
    let second : (length shown == x + doubting) ≡ true = eq-eqb (length shown) (x + doubting) at in
    rw (first, second) refl

-- a sample was heard: it yields
doubts-yield : (k : ℕ) (begun : Begun) (shown : List Pair) (x : ℕ) → x + quiet_both shown < length shown →
    doubt_ending k begun.entry.item shown (on_channel begun.state.channel shown) x ≡ Some (without_words Yielded None None)
doubts-yield k begun shown x heard =
    let first : nat_lt (x + quiet_both shown) (length shown) ≡ true = grind (arith, nat_tests, heard) in
    rw first refl

-- quiet ticks are counted
pairs-quiet : (n : ℕ) (past : List Pair) → quiet_both (quiet_pairs n ++ past) ≡ n + quiet_both past
pairs-quiet zero past = omega arith
pairs-quiet (suc n) past = let rest : quiet_both (quiet_pairs n ++ past) ≡ n + quiet_both past = pairs-quiet n past in omega (arith, rest)

module _ (k : ℕ) (station : StationData) (starts : Bool) (takes : List Take) (past : List Pair) (begun : Begun) (x : ℕ)
    (taken : AreTaken (length past) takes) (runs : (course k station starts takes past).runs ≡ Some begun)
    (doubt : IsDoubting k begun (on_channel begun.state.channel past) x) where
  -- while both channels stay quiet it keeps control, for eighty ticks
  pub doubt-waits : length past ≤ x + quiet_both past → (n : ℕ) → length past + n < x + doubting →
      course k station starts takes (quiet_pairs n ++ past) ≡ course k station starts takes past
  doubt-waits still zero early = refl
  doubt-waits still (suc n) early =
      let shown = quiet_pairs (suc n) ++ past in
      let long : length (quiet_pairs (suc n) ++ past) ≡ suc n + length past = pairs-long (suc n) past in
      let quiet : quiet_both (quiet_pairs (suc n) ++ past) ≡ suc n + quiet_both past = pairs-quiet (suc n) past in
      goes-on k station starts takes past begun taken runs quiet_pair (quiet_pairs n) (doubt-waits still n (omega (arith, early)))
      (ends-by k begun shown x (doubts-later k begun past (quiet_pairs (suc n)) x doubt)
      ∙ doubts-on k begun shown x (omega (arith, long, quiet, still)) (omega (arith, long, early)))

  -- it sends nothing meanwhile
  pub doubt-silent : length past ≤ x + quiet_both past → (n : ℕ) → length past + n < x + doubting →
      drive_course k (quiet_pairs n ++ past) (course k station starts takes (quiet_pairs n ++ past)) ≡ Silent
  doubt-silent still n early =
      sends-nothing k station starts takes past begun taken runs (quiet_pairs n) doubt.command_end (doubt-waits still n early)
      (later-end k begun.state.channel past (quiet_pairs n) begun.start doubt.command_end doubt.ended)

  -- with the eightieth its message ends
  pub doubt-over : length past ≤ x + quiet_both past → (n : ℕ) → suc (length past + n) ≡ x + doubting →
      course k station starts takes (quiet_pairs (suc n) ++ past)
      ≡ close (course k station starts takes past) begun (without_words (BadReply First) None None) (length past + n)
  doubt-over still n at =
      let shown = quiet_pairs (suc n) ++ past in
      let long : length (quiet_pairs (suc n) ++ past) ≡ suc n + length past = pairs-long (suc n) past in
      let before : length (quiet_pairs n ++ past) ≡ length past + n = (let all = pairs-long n past in omega (arith, all)) in
      let quiet : quiet_both (quiet_pairs (suc n) ++ past) ≡ suc n + quiet_both past = pairs-quiet (suc n) past in
      ends-so k station starts takes past begun taken runs quiet_pair (quiet_pairs n) (Some (without_words (BadReply First) None None))
      (doubt-waits still n (omega (arith, at)))
      (ends-by k begun shown x (doubts-later k begun past (quiet_pairs (suc n)) x doubt)
      ∙ doubts-end k begun shown x (omega (arith, long, quiet, still)) (omega (arith, long, at)))
      ∙ ap (close (course k station starts takes past) begun (without_words (BadReply First) None None)) before

  -- it yields to the first sample
  pub doubt-yields : (now : Pair) → x ≤ length past → both_quiet now ≡ false →
      course k station starts takes (now ∷ past) ≡ close (course k station starts takes past) begun (without_words Yielded None None) (length past)
  doubt-yields now late heard =
      let none : quiet_both (now ∷ past) ≡ 0 = rw heard refl in
      let after : x + quiet_both (now ∷ past) < length (now ∷ past) = omega (arith, none, late) in
      ends-so k station starts takes past begun taken runs now [] (Some (without_words Yielded None None)) refl
      (ends-by k begun (now ∷ past) x (doubts-later k begun past (now ∷ []) x doubt) ∙ doubts-yield k begun (now ∷ past) x after)

-- ---- it begins to doubt

-- with the end of a bad answer, where both channels were quiet since
pub doubt-begins : (k : ℕ) (station : StationData) (starts : Bool) (takes : List Take) (past ticks : List Pair) (now : Pair) (begun : Begun) (e : ℕ)
    (burst : Burst) (part : Part) (status : Option ℕ) → suc k < doubting → AreTaken (length past) takes →
    IsAnsweredSoon begun (course k station starts takes past) past e → AwaitsFirst k begun (on_channel begun.state.channel past) e →
    ShowsBurst k begun.state.channel past ticks → AreKept begun e past ticks →
    ended_now k (on_channel begun.state.channel (now ∷ (ticks ++ past))) ≡ Some burst → is_offer begun.entry.item.kind ≡ true →
    read_answer begun.entry.item.kind First burst.slots (rest_of burst) ≡ Ends (BadReply part) status →
    length (now ∷ (ticks ++ past)) ≤ end_of burst + quiet_both (now ∷ (ticks ++ past)) →
    (course k station starts takes (now ∷ (ticks ++ past)) ≡ course k station starts takes past)
    × IsDoubting k begun (on_channel begun.state.channel (now ∷ (ticks ++ past))) (end_of burst)
doubt-begins k station starts takes past ticks now begun e burst part status small taken answered w shows kept ended offers bad still =
    let shown = now ∷ (ticks ++ past) in
    let channel = on_channel begun.state.channel (now ∷ (ticks ++ past)) in
    let item = begun.entry.item in
    let is : IsEndedNow k (on_channel begun.state.channel (now ∷ (ticks ++ past))) burst.first burst.ticks = ended-known k channel burst ended in
    let known = is.now in
    let long : length (on_channel begun.state.channel (now ∷ (ticks ++ past))) ≡ length (now ∷ (ticks ++ past)) = length-on begun.state.channel shown in (
      first-read k station starts takes past begun e taken answered w ticks now burst shows kept ended
          ∙ ap (λ r. close_or_run (course k station starts takes past) begun (length (ticks ++ past)) (first_read k begun.entry.item shown channel burst r)) bad
          ∙ ap (λ (b : Bool). close_or_run (course k station starts takes past) begun (length (ticks ++ past))
          (read_ending k begun.entry.item shown channel burst b (BadReply part) status)) offers
          ∙ ap (close_or_run (course k station starts takes past) begun (length (ticks ++ past)))
          (doubts-on k begun shown (end_of burst) still (omega (arith, known, long, small)))
          ∙ ap (λ o. record (course k station starts takes past) { runs = o }) (sym answered.runs),
      record {
        offers = offers;
        command_end = e;
        ended = later-end k begun.state.channel past (now ∷ ticks) begun.start e w.ended;
        shape = w.shape;
        expects = w.expects;
        burst = burst;
        answered = reply-read k station starts takes past begun e taken answered (inl w) now ticks burst shows ended;
        part = part;
        status = status;
        bad = bad;
        end = refl;
      },
    )
