-- Ticks of a block at once: on each channel they are the samples that its bits show; and where they tell nothing they complete no line of a word.
use Rattle.std.proofs.Common.{◌≡◌, ℕ, zero, suc, ◌+◌, ◌-◌, ◌/◌, ◌%◌, ◌^◌, ◌<◌, ◌≤◌, Bool, true, false, ◌==◌, if◌then◌else◌, List, [], ◌∷◌, ◌++◌, length, reverse, take, drop, get_or, refl, sym, ap, subst, ◌∙◌, arith, length-append}
use Rattle.std.specs.Prelude.{flat_map, Option, None, Err}
use Rattle.std.proofs.lemmas.List.{append-nil, get_or-drop, length-drop, length-reverse, length-take-le, take_all, reverse-append}
use Rattle.std.proofs.lemmas.List.FromFn.{get_or-map-range_with_len, length-map-range_with_len}
use Rattle.std.proofs.lemmas.Grind.{take_at_read}
use Rattle.std.proofs.lemmas.Nat.{pow-add}
use Rattle.std.proofs.Math.Nat.{div-div-eq-div-mul}
use Rattle.bus_base.specs.Samples.{sample_on}
use Rattle.bus_base.specs.declared.samples.Sample.TheVariants.{Plus, Minus, Quiet}
use Rattle.bus_base.specs.declared.samples.Channel.{Channel}
use Rattle.bus_base.specs.declared.samples.Channel.TheVariants.{A, B}
use Rattle.bus_base.specs.declared.samples.Pair.{Pair}
use Rattle.bus_capture.specs.Blocks.{has_bit, tick_in, ticks_of}
use Rattle.bus_capture.specs.Blocks as blocks
use Rattle.bus_capture.specs.declared.block.Block.{Block}
use Rattle.bus_text.specs.Texts.{word_line}
use Rattle.bus_line.specs.Spelling.{is_one, first_half}
use Rattle.bus_line.specs.Channels.{on_channel}
use Rattle.bus_line.specs.Cutting.{cut_now}
use Rattle.bus_line.specs.declared.cutter.Cut.TheVariants as cuts
use Rattle.bus_line.specs.declared.cutter.TheConstants.{LAG}
use Rattle.bus_planes.specs.Still.{sample_in, samples_in}
use Rattle.bus_planes.proofs.StillLaws.{none-shown, one-more}
use Rattle.bus_monitor.specs.Parts.{part, TellNothingOn}
use Rattle.bus_monitor.specs.Progress.{heard_now, words_now, word_lines}
use Rattle.bus_monitor.specs.declared.listing_writer.ListingWriter.{ListingWriter}
use Rattle.bus_monitor.specs.declared.listing_writer.Stop.{Stop}
use Rattle.bus_monitor.specs.Scribes.{Lists, Listed}
use Rattle.bus_monitor.proofs.WriterLaws.{reverse-more}
use Rattle.bus_monitor.proofs.PieceLaws.{reverse-parts}
use Rattle.bus_monitor.proofs.TickLaws.{listed-all}
use Rattle.bus_monitor.proofs.LineLaws.{words-grow}
use Rattle.bus_monitor.proofs.WordLaws.{heard-told}

-- ---- the ticks of a part

quiet_tick : Pair
quiet_tick = record { a = Quiet; b = Quiet }

long-ticks : (block : Block) → length (ticks_of block) ≡ block.ticks
unfolding ticks_of
long-ticks block = length-map-range_with_len (tick_in block) 0 block.ticks

pub tick-at : (block : Block) (i : ℕ) (d : Pair) → i < block.ticks → get_or (ticks_of block) i d ≡ tick_in block i
unfolding ticks_of
tick-at block i d h = get_or-map-range_with_len (tick_in block) 0 block.ticks i i d h (omega arith)

part-none : (block : Block) (at : ℕ) → part block at 0 ≡ []
part-none block at = refl

part-more : (block : Block) (at n : ℕ) → at + n < block.ticks → part block at (suc n) ≡ tick_in block (at + n) ∷ part block at n
part-more block at n h =
    let long : length (drop at (ticks_of block)) ≡ length (ticks_of block) - at = length-drop at (ticks_of block) in
    let all : length (ticks_of block) ≡ block.ticks = long-ticks block in
    let within : n < length (drop at (ticks_of block)) = omega (arith, long, all, h) in
    let e : suc n ≡ n + 1 = omega arith in
    ap (λ m. reverse (take m (drop at (ticks_of block)))) e
    ∙ ap reverse (take_at_read (drop at (ticks_of block)) n quiet_tick within).1
    ∙ reverse-append (take n (drop at (ticks_of block))) (get_or (drop at (ticks_of block)) n quiet_tick ∷ [])
    ∙ ap (λ x. x ∷ part block at n) (get_or-drop at (ticks_of block) n quiet_tick ∙ tick-at block (at + n) quiet_tick h)

-- ---- on a channel

moved-bit : (x at i : ℕ) → is_one (x / 2 ^ at) i ≡ has_bit x (at + i)
moved-bit x at i = ap (λ q. q % 2 == 1) (div-div-eq-div-mul x (2 ^ at) (2 ^ i) ∙ ap (λ d. x / d) (sym (pow-add 2 at i)))

halves : (h p : Bool) → (if h then first_half p else Quiet) ≡ (if h then (if p then Plus else Minus) else Quiet)
halves true true = refl
halves true false = refl
halves false p = refl

moved-sample : (heard plus at i : ℕ) → sample_in (heard / 2 ^ at) (plus / 2 ^ at) i ≡ blocks.sample_in heard plus (at + i)
moved-sample heard plus at i =
    rw (moved-bit heard at i, moved-bit plus at i) (halves (has_bit heard (at + i)) (has_bit plus (at + i)))

pub part-a : (block : Block) (at n : ℕ) → at + n ≤ block.ticks →
    on_channel A (part block at n) ≡ reverse (samples_in (block.heard_a / 2 ^ at) (block.plus_a / 2 ^ at) n)
part-a block at zero h = sym (none-shown (block.heard_a / 2 ^ at) (block.plus_a / 2 ^ at))
part-a block at (suc n) h =
    ap (on_channel A) (part-more block at n (omega (arith, h)))
    ∙ ap (λ xs. blocks.sample_in block.heard_a block.plus_a (at + n) ∷ xs) (part-a block at n (omega (arith, h)))
    ∙ ap (λ x. x ∷ reverse (samples_in (block.heard_a / 2 ^ at) (block.plus_a / 2 ^ at) n)) (sym (moved-sample block.heard_a block.plus_a at n))
    ∙ sym (one-more (block.heard_a / 2 ^ at) (block.plus_a / 2 ^ at) n)

pub part-b : (block : Block) (at n : ℕ) → at + n ≤ block.ticks →
    on_channel B (part block at n) ≡ reverse (samples_in (block.heard_b / 2 ^ at) (block.plus_b / 2 ^ at) n)
part-b block at zero h = sym (none-shown (block.heard_b / 2 ^ at) (block.plus_b / 2 ^ at))
part-b block at (suc n) h =
    ap (on_channel B) (part-more block at n (omega (arith, h)))
    ∙ ap (λ xs. blocks.sample_in block.heard_b block.plus_b (at + n) ∷ xs) (part-b block at n (omega (arith, h)))
    ∙ ap (λ x. x ∷ reverse (samples_in (block.heard_b / 2 ^ at) (block.plus_b / 2 ^ at) n)) (sym (moved-sample block.heard_b block.plus_b at n))
    ∙ sym (one-more (block.heard_b / 2 ^ at) (block.plus_b / 2 ^ at) n)

pub on-append : (c : Channel) (xs past : List Pair) → on_channel c (xs ++ past) ≡ on_channel c xs ++ on_channel c past
on-append c [] past = refl
on-append c (x ∷ xs) past = ap (λ ys. sample_on x c ∷ ys) (on-append c xs past)

pub long-part : (block : Block) (at n : ℕ) → at + n ≤ block.ticks → length (part block at n) ≡ n
long-part block at zero h = refl
long-part block at (suc n) h =
    let before : length (part block at n) ≡ n = long-part block at n (omega (arith, h)) in
    ap length (part-more block at n (omega (arith, h))) ∙ omega (arith, before)

-- ---- ticks that tell nothing

none-told : (c : Channel) (x : Pair) (past : List Pair) → cut_now LAG (on_channel c (x ∷ past)) ≡ cuts.Nothing → heard_now LAG c (x ∷ past) ≡ None
none-told c x past told =
    sym (heard-told c (sample_on x c) (on_channel c past) cuts.Nothing (length (on_channel c past)) (sym told) refl)

pub words-still : (ticks past : List Pair) → TellNothingOn LAG ticks past → word_lines LAG (ticks ++ past) ≡ word_lines LAG past
words-still [] past told = refl
words-still (x ∷ ticks) past told =
    let cut-a : cut_now LAG (on_channel A (x ∷ (ticks ++ past))) ≡ cuts.Nothing =
    ap (λ ys. cut_now LAG (sample_on x A ∷ ys)) (on-append A ticks past) ∙ told.0.0 in
    let cut-b : cut_now LAG (on_channel B (x ∷ (ticks ++ past))) ≡ cuts.Nothing =
    ap (λ ys. cut_now LAG (sample_on x B ∷ ys)) (on-append B ticks past) ∙ told.1.0 in
    let a : heard_now LAG A (x ∷ (ticks ++ past)) ≡ None = none-told A x (ticks ++ past) cut-a in
    let b : heard_now LAG B (x ∷ (ticks ++ past)) ≡ None = none-told B x (ticks ++ past) cut-b in
    let none : flat_map word_line (words_now LAG (x ∷ (ticks ++ past))) ≡ [] = rw (a, b) refl in
    words-grow LAG x (ticks ++ past) ∙ ap (λ added. word_lines LAG (ticks ++ past) ++ added) none
    ∙ append-nil (word_lines LAG (ticks ++ past)) ∙ words-still ticks past (told.0.2, told.1.2)

-- ---- a block that is listed in parts

pub long-before : (block : Block) (at : ℕ) (past : List Pair) → at ≤ block.ticks → length (reverse (take at (ticks_of block)) ++ past) ≡ at + length past
long-before block at past h =
    let all : length (ticks_of block) ≡ block.ticks = long-ticks block in
    let front : length (take at (ticks_of block)) ≡ at = length-take-le at (ticks_of block) (omega (arith, all, h)) in
    length-append (reverse (take at (ticks_of block))) past
    ∙ ap (λ n. n + length past) (length-reverse (take at (ticks_of block)) ∙ front)

pub all-before : (block : Block) (at : ℕ) (past : List Pair) → block.ticks ≤ at → reverse (take at (ticks_of block)) ++ past ≡ reverse (ticks_of block) ++ past
all-before block at past h =
    let all : length (ticks_of block) ≡ block.ticks = long-ticks block in
    ap (λ ps. reverse ps ++ past) (take_all at (ticks_of block) (omega (arith, all, h)))

module _ {L : Type 0} (stands : L → List Pair → Type 0) (lines : List Pair → List ℕ) (block : Block) (past : List Pair) (first held : Option (List ℕ)) where
  -- ticks that complete no line
  pub lists-part : (writer : ListingWriter L) (lister : L) (at n : ℕ) → Lists stands lines writer (reverse (take at (ticks_of block)) ++ past) first held →
      ((p : List Pair) → stands writer.lister p → stands lister (part block at n ++ p)) →
      ((p : List Pair) → stands writer.lister p → lines (part block at n ++ p) ≡ lines p) →
      Lists stands lines (record writer { lister = lister }) (reverse (take (at + n) (ticks_of block)) ++ past) first held
  lists-part writer lister at n l more same =
      let before : List Pair = reverse (take at (ticks_of block)) ++ past in
      let parts : part block at n ++ before ≡ reverse (take (at + n) (ticks_of block)) ++ past = reverse-parts (ticks_of block) past at n in
      record {
        lister = subst (stands lister) parts (more before l.lister);
        written = record {
          done = l.written.done;
          made = ap lines (sym parts) ∙ same before l.lister ∙ l.written.made;
          added = l.written.added;
        };
        room = l.room;
      }

  -- a tick of it
  pub tick-more : (at : ℕ) → at < block.ticks → reverse (take (at + 1) (ticks_of block)) ++ past ≡ tick_in block at ∷ (reverse (take at (ticks_of block)) ++ past)
  tick-more at h =
      let all : length (ticks_of block) ≡ block.ticks = long-ticks block in
      reverse-more (ticks_of block) past at quiet_tick (omega (arith, all, h))
      ∙ ap (λ x. x ∷ (reverse (take at (ticks_of block)) ++ past)) (tick-at block at quiet_tick h)

  -- what stopped at a tick of it stopped in it
  pub stops-in : (T U : Type 0) (writer : ListingWriter L) (at : ℕ) (stop : Stop) → at < block.ticks →
      Listed stands lines writer (tick_in block at ∷ (reverse (take at (ticks_of block)) ++ past)) first held {T = T} (Err stop) →
      Listed stands lines writer (reverse (ticks_of block) ++ past) first held {T = U} (Err stop)
  stops-in T U writer at stop h listed =
      let all : length (ticks_of block) ≡ block.ticks = long-ticks block in
      listed-all stands lines first held T U writer (ticks_of block) past at quiet_tick stop (omega (arith, all, h))
      (subst (λ x. Listed stands lines writer (x ∷ (reverse (take at (ticks_of block)) ++ past)) first held {T = T} (Err stop)) (sym (tick-at block at quiet_tick h)) listed)
