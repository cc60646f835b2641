-- What is written of ticks, and at the end.
use Rattle.std.proofs.Common.{◌≡◌, ℕ, suc, ◌+◌, ◌-◌, ◌≤◌, min, List, [], ◌++◌, length, refl, ap, sym, ◌∙◌, append_assoc, append-nil, subst, inl, inr, ⊎_elim, arith}
use Rattle.std.specs.Prelude.{Option, Some, None, Result, Ok, Err}
use Rattle.std.proofs.KnownBytes.{Appends-nil}
use Rattle.std.proofs.lemmas.List.{take_min, take-append-le}
use Rattle.bus_base.specs.declared.samples.Channel.TheVariants.{A, B}
use Rattle.bus_base.specs.declared.samples.Pair.{Pair}
use Rattle.bus_line.specs.declared.cutter.TheConstants.{LAG}
use Rattle.bus_outside.specs.Causes.{GrowsByFront, Rose}
use Rattle.bus_monitor.specs.Scribes.{Owed, OwedSo, Closes}
use Rattle.bus_monitor.proofs.WriterLaws.{owed-whole}
use Rattle.bus_monitor.specs.declared.listing.Listing.{Listing}
use Rattle.bus_monitor.specs.declared.listing.Listing.TheVariants as listings
use Rattle.bus_monitor.specs.declared.listing_writer.Stop.{Stop}
use Rattle.bus_monitor.specs.declared.listing_writer.Stop.TheVariants as stops
use Rattle.bus_wave.specs.Delays.{column_at, kept}
use Rattle.bus_wave.specs.Drawers.{LineEnds, drawer_at}
use Rattle.bus_wave.specs.Marks.{mark_changes, tick_changes, time_change}
use Rattle.bus_wave.specs.Texts.{changes_text}
use Rattle.bus_wave.specs.Waves.{wave, wave_so_far, columns_at_end, changes_at, changes_from, changes_left, end_changes, shown_before, undrawn}
use Rattle.bus_wave.specs.Written.{text_before_end, whole_wave, comment_of, DrewTo, DrewDueSo}
use Rattle.bus_wave.specs.declared.delay_line.DelayLine.{DelayLine}
use Rattle.bus_wave.specs.declared.drawer.Drawer.{Drawer}
use Rattle.bus_wave.specs.declared.marks.Column.{Column}
use Rattle.bus_wave.specs.declared.wave_lister.WaveLister.{WaveLister}
use Rattle.bus_wave.specs.declared.wave_writer.WaveWriter.{WaveWriter}
use Rattle.bus_wave.proofs.ColumnLaws.{before-next, before-at-end}
use Rattle.bus_wave.proofs.KeptLaws.{changes-parts, before-kept}
use Rattle.bus_wave.proofs.TextLaws.{changes-append}

-- a front of a text is a front of the text with more behind it
pub front-more : (a b : Option (List ℕ)) (xs ys : List ℕ) → GrowsByFront a b xs → GrowsByFront a b (xs ++ ys)
front-more None b xs ys h = tt
front-more (Some a) None xs ys h = absurd h
front-more (Some a) (Some b) xs ys h =
    let m = min h.0 (length xs) in
    (m, h.1 ∙ ap (λ l. a ++ l) (sym (take-append-le m xs ys (omega arith) ∙ take_min h.0 xs)))

-- a text that is all owed
pub owed-own : (text : List ℕ) (held : Option (List ℕ)) → Owed text text held held
owed-own text held = record { done = []; made = refl; added = Appends-nil held }

abbrev drawer-shown : ℕ → Pair → Drawer
drawer-shown n p = record { tick = n; last = p }

abbrev drawer-with : DelayLine → ℕ → Drawer
drawer-with line n = record { tick = n + 1; last = (column_at line n).shown }

-- ---- ticks that are drawn after a text

module _ (known : ℕ → Column) (all : List ℕ) (from : ℕ) where
  -- the text with the lines of so many ticks
  abbrev pub text-with : ℕ → List ℕ
  text-with m = all ++ changes_text (changes_from known from m)

  pub with-more : (m d : ℕ) → text-with (m + d) ≡ text-with m ++ changes_text (changes_from known (from + m) d)
  with-more m d =
      ap (λ cs. all ++ changes_text cs) (changes-parts known from m d)
      ∙ ap (λ t. all ++ t) (changes-append (changes_from known from m) (changes_from known (from + m) d))
      ∙ sym (append_assoc all (changes_text (changes_from known from m)) (changes_text (changes_from known (from + m) d)))

  pub with-one : (m : ℕ) → text-with (suc m) ≡ text-with m ++ changes_text (changes_at known (from + m))
  unfolding changes_from
  with-one m =
      ap (λ t. all ++ t) (changes-append (changes_from known from m) (changes_at known (from + m)))
      ∙ sym (append_assoc all (changes_text (changes_from known from m)) (changes_text (changes_at known (from + m))))

  pub with-none : text-with 0 ≡ all
  unfolding changes_from
  with-none = append-nil all

  pub front-with : (m n : ℕ) (a b : Option (List ℕ)) → m ≤ n → GrowsByFront a b (text-with m) → GrowsByFront a b (text-with n)
  front-with m n a b h front =
      let is : m + (n - m) ≡ n = omega (arith, h) in
      subst (λ x. GrowsByFront a b (text-with x)) is
      (subst (GrowsByFront a b) (sym (with-more m (n - m))) (front-more a b (text-with m) (changes_text (changes_from known (from + m) (n - m))) front))

  -- some ticks more
  pub drew-some : (t t' : ℕ) (text text' : List ℕ) (first held : Option (List ℕ)) → from ≤ t → t ≤ t' → Owed (text-with (t - from)) text first held →
      text' ≡ text ++ changes_text (changes_from known t (t' - t)) → Owed (text-with (t' - from)) text' first held
  drew-some t t' text text' first held later more owed drew =
      let sum : (t - from) + (t' - t) ≡ t' - from = omega (arith, later, more) in
      let place : from + (t - from) ≡ t = omega (arith, later) in
      owed-whole (text-with (t - from)) (text-with (t' - from)) text text' first held owed (
        changes_text (changes_from known t (t' - t)),
        ap text-with (sym sum) ∙ with-more (t - from) (t' - t)
            ∙ ap (λ n. text-with (t - from) ++ changes_text (changes_from known n (t' - t))) place,
        drew,
      )

  -- a write that failed after some of them
  pub drew-failed : (t end : ℕ) (writer : WaveWriter) (text : List ℕ) (first held : Option (List ℕ)) (stop : Stop) → from ≤ t → t ≤ end →
      OwedSo {T = Unit {0}} (text-with (t - from)) text first held (Err stop) → DrewTo known all from end writer first held (Err stop)
  drew-failed t end writer text first held (stops.Refused refusal) later within owed = owed
  drew-failed t end writer text first held stops.WriteFault later within owed = front-with (t - from) (end - from) first held (omega (arith, within)) owed

-- ---- ticks that are due

pub due-so : (known : ℕ → Column) (all : List ℕ) (from end : ℕ) (past : List Pair) (writer : WaveWriter) (first held : Option (List ℕ)) (result : Result (Unit {0}) Stop) →
    all ++ changes_text (changes_from known from (end - from)) ≡ wave_so_far LAG past → known ≡ kept LAG past → end ≡ undrawn (length past) →
    DrewTo known all from end writer first held result → DrewDueSo past writer first held result
due-so known all from end past writer first held (Ok done) text knows due drew = record {
  drawer = drew.2 ∙ ap (λ (k : ℕ → Column). drawer_at k end) knows ∙ ap (drawer_at (kept LAG past)) due;
  owed = subst (λ t. Owed t writer.text first held) text drew.0;
  room = drew.1;
}
due-so known all from end past writer first held (Err (stops.Refused refusal)) text knows due drew = drew
due-so known all from end past writer first held (Err stops.WriteFault) text knows due drew = subst (GrowsByFront first held) text drew

-- ---- the end

-- all of it
pub end-whole : (past : List Pair) (ending : Listing) →
    whole_wave ending past ≡ text_before_end past ++ (changes_text (end_changes (columns_at_end LAG past) (length past)) ++ comment_of ending)
unfolding wave
end-whole past ending =
    let known = columns_at_end LAG past in
    let n = length past in
    let cs = changes_from known (undrawn n) (n - undrawn n) in
    let es = end_changes known n in
    ap (λ t. (wave_so_far LAG past ++ t) ++ comment_of ending) (changes-append cs es)
    ∙ ap (λ t. t ++ comment_of ending) (sym (append_assoc (wave_so_far LAG past) (changes_text cs) (changes_text es)))
    ∙ append_assoc (text_before_end past) (changes_text es) (comment_of ending)

-- the text with the end and the comment
pub owed-end : (past : List Pair) (ending : Listing) (t0 t1 t2 : List ℕ) (first held : Option (List ℕ)) → Owed (text_before_end past) t0 first held →
    t1 ≡ t0 ++ changes_text (end_changes (columns_at_end LAG past) (length past)) → t2 ≡ t1 ++ comment_of ending →
    Owed (whole_wave ending past) t2 first held
owed-end past ending t0 t1 t2 first held owed end comment =
    let es = changes_text (end_changes (columns_at_end LAG past) (length past)) in
    owed-whole (text_before_end past) (whole_wave ending past) t0 t2 first held owed (
      es ++ comment_of ending,
      end-whole past ending,
      comment ∙ ap (λ t. t ++ comment_of ending) end ∙ append_assoc t0 es (comment_of ending),
    )

-- at a write fault a front of the text was written
pub closes-front : (text more whole : List ℕ) (ending : Listing) (first held : Option (List ℕ)) (faults faults' : ℕ) → whole ≡ text ++ more →
    GrowsByFront first held text → Rose faults faults' → Closes whole ending first held faults faults' listings.WriteFault
closes-front text more whole ending first held faults faults' is front rose =
    inr (refl, subst (GrowsByFront first held) (sym is) (front-more first held text more front), rose)

pub due-closes : (past : List Pair) (ending : Listing) (writer : WaveWriter) (first held : Option (List ℕ)) (faults faults' : ℕ) (stop : Stop) →
    DrewDueSo past writer first held (Err stop) → (stop ≡ stops.WriteFault → Rose faults faults') →
    Closes (whole_wave ending past) ending first held faults faults' listings.WriteFault
unfolding wave
due-closes past ending writer first held faults faults' (stops.Refused refusal) drew rose = absurd drew
due-closes past ending writer first held faults faults' stops.WriteFault drew rose =
    let rest = changes_text (changes_left (columns_at_end LAG past) (length past)) in
    closes-front (wave_so_far LAG past) (rest ++ comment_of ending) (whole_wave ending past) ending first held faults faults'
    (append_assoc (wave_so_far LAG past) rest (comment_of ending)) drew (rose refl)

pub left-closes : (past : List Pair) (ending : Listing) (writer : WaveWriter) (first held : Option (List ℕ)) (faults faults' : ℕ) (stop : Stop) →
    DrewTo (columns_at_end LAG past) (wave_so_far LAG past) (undrawn (length past)) (length past) writer first held (Err stop) →
    (stop ≡ stops.WriteFault → Rose faults faults') → Closes (whole_wave ending past) ending first held faults faults' listings.WriteFault
left-closes past ending writer first held faults faults' (stops.Refused refusal) drew rose = absurd drew
left-closes past ending writer first held faults faults' stops.WriteFault drew rose =
    closes-front (text_before_end past) (changes_text (end_changes (columns_at_end LAG past) (length past)) ++ comment_of ending) (whole_wave ending past) ending first held
    faults faults' (end-whole past ending) drew (rose refl)

pub closes-later : (all : List ℕ) (ending : Listing) (first held : Option (List ℕ)) (faults faults1 faults2 : ℕ) (result : Listing) → faults ≤ faults1 →
    Closes all ending first held faults1 faults2 result → Closes all ending first held faults faults2 result
closes-later all ending first held faults faults1 faults2 result later closes =
    ⊎_elim (λ done. inl done) (λ failed. inr (failed.0, failed.1, let rose = failed.2 in omega (arith, later, rose))) closes

-- the ticks that weren't due were drawn
pub left-drew : (past : List Pair) (writer' : WaveWriter) (first held' : Option (List ℕ)) (from end : ℕ) (result : Result (Unit {0}) Stop) →
    from ≡ undrawn (length past) → end ≡ length past → DrewTo (columns_at_end LAG past) (wave_so_far LAG past) from end writer' first held' result →
    DrewTo (columns_at_end LAG past) (wave_so_far LAG past) (undrawn (length past)) (length past) writer' first held' result
left-drew past writer' first held' from end result a b drew =
    subst (λ n. DrewTo (columns_at_end LAG past) (wave_so_far LAG past) (undrawn (length past)) n writer' first held' result) b
    (subst (λ n. DrewTo (columns_at_end LAG past) (wave_so_far LAG past) n end writer' first held' result) a drew)

-- before them was shown what the last tick that was due showed
pub left-last : (past : List Pair) (drawer : Drawer) → drawer ≡ drawer_at (kept LAG past) (undrawn (length past)) →
    drawer.last ≡ shown_before (columns_at_end LAG past) drawer.tick
left-last past drawer is =
    let tick : drawer.tick ≡ undrawn (length past) = ap (λ (d : Drawer). d.tick) is in
    let few : undrawn (length past) ≤ length past = omega arith in
    ap (λ (d : Drawer). d.last) is ∙ before-kept LAG past (undrawn (length past)) few ∙ sym (before-at-end LAG past (undrawn (length past)) few)
    ∙ ap (shown_before (columns_at_end LAG past)) (sym tick)

-- the lines of the end
pub end-drawn : (past : List Pair) (lister : WaveLister) (t0 t1 : List ℕ) (n : ℕ) → LineEnds lister past → n ≡ length past →
    t1 ≡ t0 ++ changes_text ((time_change n ++ mark_changes A (column_at lister.line n).a) ++ mark_changes B (column_at lister.line n).b) →
    t1 ≡ t0 ++ changes_text (end_changes (columns_at_end LAG past) (length past))
end-drawn past lister t0 t1 n ends here is =
    let column : column_at lister.line n ≡ columns_at_end LAG past n = ends.column n (omega (arith, here)) (omega (arith, here)) in
    is ∙ ap (λ (x : Column). t0 ++ changes_text ((time_change n ++ mark_changes A x.a) ++ mark_changes B x.b)) column
    ∙ ap (λ m. t0 ++ changes_text (end_changes (columns_at_end LAG past) m)) here
