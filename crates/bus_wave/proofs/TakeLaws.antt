-- What a piece of the text adds to a wave.
use Rattle.std.proofs.Common.{◌≡◌, ℕ, zero, suc, take, ◌+◌, ◌≤◌, List, [], ◌∷◌, ◌++◌, length, reverse, refl, ap, sym, ◌∙◌, append_assoc, append-nil, subst, arith, length-append}
use Rattle.std.specs.Prelude.{Option, Some, None, option_to_list, Result, Ok, Err}
use Rattle.std.specs.Io.KnownBytes.{Appends}
use Rattle.std.proofs.KnownBytes.{Appends-nil}
use Rattle.std.proofs.lemmas.List.{length-reverse}
use Rattle.bus_base.specs.Samples.{quiet_pair}
use Rattle.bus_base.specs.declared.samples.Pair.{Pair}
use Rattle.bus_capture.specs.Readings.{ticks_in, tick_now}
use Rattle.bus_line.specs.declared.cutter.TheConstants.{LAG}
use Rattle.bus_outside.specs.Causes.{GrowsByFront}
use Rattle.bus_outside.proofs.Writes.{appends_then}
use Rattle.bus_monitor.specs.Scribes.{Owed, Follows, Took}
use Rattle.bus_monitor.proofs.WriterLaws.{owed-front}
use Rattle.bus_monitor.specs.declared.listing_writer.ListingWriter.{ListingWriter}
use Rattle.bus_monitor.specs.declared.listing_writer.Stop.{Stop}
use Rattle.bus_monitor.specs.declared.listing_writer.Stop.TheVariants as stops
use Rattle.bus_wave.specs.Delays.{kept}
use Rattle.bus_wave.specs.Drawers.{ListerStands, Draws, drawer_at, no_lines, text_to}
use Rattle.bus_wave.specs.Texts.{head_text}
use Rattle.bus_wave.specs.Waves.{drawn, undrawn, wave_so_far, shown_before}
use Rattle.bus_wave.specs.Written.{Hears, DrewDue, Kept, WaveFollows, WaveTook, DrewDueSo}
use Rattle.bus_wave.specs.declared.drawer.Drawer.{Drawer}
use Rattle.bus_wave.specs.declared.wave_lister.WaveLister.{WaveLister}
use Rattle.bus_wave.specs.declared.wave_writer.WaveWriter.{WaveWriter}
use Rattle.bus_wave.proofs.KeptLaws.{before-stays, text-stays}
use Rattle.bus_wave.proofs.WriteLaws.{owed-own}

-- ---- what hears, as a writer of no lines

pub hears-follows : (hearing : ListingWriter WaveLister) (bytes : List ℕ) (held : Option (List ℕ)) → Hears hearing bytes →
    Follows ListerStands no_lines hearing bytes held held
hears-follows hearing bytes held h =
    let few : length hearing.text ≡ 0 = ap length h.none in
    record {
      holds = record {
        reader = h.reader;
        going = h.going;
        lister = h.lister;
        written = record { done = []; made = sym h.none; added = Appends-nil held };
      };
      room = omega (arith, few);
    }

none-behind : (xs ys : List ℕ) → [] ≡ xs ++ ys → ys ≡ []
none-behind [] ys is = sym is
none-behind (x ∷ xs) ys is = absurd (cc)

pub follows-hears : (hearing : ListingWriter WaveLister) (bytes : List ℕ) (first held : Option (List ℕ)) →
    Follows ListerStands no_lines hearing bytes first held → Hears hearing bytes
follows-hears hearing bytes first held f = record {
  reader = f.holds.reader;
  going = f.holds.going;
  lister = f.holds.lister;
  none = none-behind f.holds.written.done hearing.text f.holds.written.made;
}

-- ---- bytes add at most a tick each

few-in : {T : Type 0} (o : Option T) → length (option_to_list o) ≤ 1
few-in None = omega arith
few-in (Some x) = omega arith

pub record TicksMore (xs bytes : List ℕ) : Type 0 where
  pub more : List Pair
  pub is : ticks_in (xs ++ bytes) ≡ more ++ ticks_in bytes
  pub few : length more ≤ length xs

ticks-are : (byte : ℕ) (bytes : List ℕ) → ticks_in (byte ∷ bytes) ≡ option_to_list (tick_now (byte ∷ bytes)) ++ ticks_in bytes
unfolding ticks_in
ticks-are byte bytes = refl

pub ticks-more : (xs bytes : List ℕ) → TicksMore xs bytes
ticks-more [] bytes = record { more = []; is = refl; few = omega arith }
ticks-more (x ∷ xs) bytes =
    let rest : TicksMore xs bytes = ticks-more xs bytes in
    let new : List Pair = option_to_list (tick_now (x ∷ (xs ++ bytes))) in
    let few : length new ≤ 1 = few-in (tick_now (x ∷ (xs ++ bytes))) in
    let long : length (new ++ rest.more) ≡ length new + length rest.more = length-append new rest.more in
    let short = rest.few in
    record {
      more = new ++ rest.more;
      is = ticks-are x (xs ++ bytes) ∙ ap (λ ts. new ++ ts) rest.is ∙ sym (append_assoc new rest.more (ticks_in bytes));
      few = omega (arith, few, long, short);
    }

-- ---- what was drawn before a piece

draws-more : (drawer : Drawer) (text : List ℕ) (more past : List Pair) (first held : Option (List ℕ)) → length more ≤ 2048 →
    drawer ≡ drawer_at (kept LAG past) (undrawn (length past)) → Owed (wave_so_far LAG past) text first held → length text ≤ 3000 →
    Draws drawer text (more ++ past) first held
draws-more drawer text more past first held few is owed room =
    let tick : drawer.tick ≡ undrawn (length past) = ap (λ (d : Drawer). d.tick) is in
    let last : drawer.last ≡ shown_before (kept LAG past) (undrawn (length past)) = ap (λ (d : Drawer). d.last) is in
    let long : length (more ++ past) ≡ length more + length past = length-append more past in
    record {
      due = omega (arith, tick, long);
      kept_yet = omega (arith, tick, long, few);
      last = last ∙ sym (before-stays LAG more past) ∙ ap (shown_before (kept LAG (more ++ past))) (sym tick);
      owed = subst (λ t. Owed t text first held) (sym (ap (text_to (kept LAG (more ++ past))) tick ∙ text-stays LAG more past)) owed;
      room = room;
    }

pub draws-then : (writer : WaveWriter) (piece bytes : List ℕ) (first held : Option (List ℕ)) → length piece ≤ 2048 → DrewDue writer (ticks_in bytes) first held →
    Draws writer.drawer writer.text (ticks_in (reverse piece ++ bytes)) first held
draws-then writer piece bytes first held short drew =
    let t : TicksMore (reverse piece) bytes = ticks-more (reverse piece) bytes in
    let few = t.few in
    let long : length (reverse piece) ≡ length piece = length-reverse piece in
    subst (λ past. Draws writer.drawer writer.text past first held) (sym t.is)
    (draws-more writer.drawer writer.text t.more (ticks_in bytes) first held (omega (arith, few, long, short)) drew.drawer drew.owed drew.room)

-- what hears wrote nothing
none-before : (xs ys : List ℕ) → [] ≡ xs ++ ys → xs ≡ []
none-before [] ys is = refl
none-before (x ∷ xs) ys is = absurd (cc)

nothing-added : (text : List ℕ) (held held' : Option (List ℕ)) → Owed [] text held held' → Appends held held' []
nothing-added text held held' owed = subst (Appends held held') (none-before owed.done text owed.made) owed.added

owed-still : (all text : List ℕ) (first held held' : Option (List ℕ)) → Owed all text first held → Appends held held' [] → Owed all text first held'
owed-still all text first held held' owed more = record {
  done = owed.done;
  made = owed.made;
  added = subst (Appends first held') (append-nil owed.done) (appends_then first held held' owed.done [] owed.added more);
}

draws-still : (drawer : Drawer) (text : List ℕ) (past : List Pair) (first held held' : Option (List ℕ)) → Draws drawer text past first held → Appends held held' [] →
    Draws drawer text past first held'
draws-still drawer text past first held held' d more = record {
  due = d.due;
  kept_yet = d.kept_yet;
  last = d.last;
  owed = owed-still (text_to (kept LAG past) drawer.tick) text first held held' d.owed more;
  room = d.room;
}

-- a piece was heard
pub record HeardPiece (hearing : ListingWriter WaveLister) (writer : WaveWriter) (bytes : List ℕ) (first held : Option (List ℕ)) : Type 0 where
  pub hears : Hears hearing bytes
  pub draws : Draws writer.drawer writer.text (ticks_in bytes) first held

pub heard-piece : (hearing : ListingWriter WaveLister) (writer : WaveWriter) (piece bytes : List ℕ) (first held held' : Option (List ℕ)) → length piece ≤ 2048 →
    WaveFollows writer bytes first held → Follows ListerStands no_lines hearing (reverse piece ++ bytes) held held' →
    HeardPiece hearing writer (reverse piece ++ bytes) first held'
heard-piece hearing writer piece bytes first held held' short f heard = record {
  hears = follows-hears hearing (reverse piece ++ bytes) held held' heard;
  draws = draws-still writer.drawer writer.text (ticks_in (reverse piece ++ bytes)) first held held' (draws-then writer piece bytes first held short f.drew)
      (nothing-added hearing.text held held' heard.holds.written);
}

take-none : (n : ℕ) → take {A = ℕ} n [] ≡ []
take-none zero = refl
take-none (suc n) = refl

-- a front of nothing is a front of what was held back
widen : (a b : Option (List ℕ)) (text : List ℕ) → GrowsByFront a b [] → GrowsByFront a b text
widen None b text h = tt
widen (Some a) None text h = absurd h
widen (Some a) (Some b) text h = (0, h.1 ∙ ap (λ l. a ++ l) (take-none h.0))

-- the ticks that were due with a piece were drawn
pub due-took : (writer : WaveWriter) (bytes : List ℕ) (first held : Option (List ℕ)) (result : Result (Unit {0}) Stop) → Hears writer.hearing bytes →
    DrewDueSo (ticks_in bytes) writer first held result → WaveTook writer bytes first held result
due-took writer bytes first held (Ok done) hears drew = record { hears = hears; drew = drew }
due-took writer bytes first held (Err (stops.Refused refusal)) hears drew = absurd drew
due-took writer bytes first held (Err stops.WriteFault) hears drew = record { later = []; before = bytes; parts = refl; front = drew }

abbrev pub with-hearing : WaveWriter → ListingWriter WaveLister → WaveWriter
with-hearing writer hearing = record writer { hearing = hearing }

-- reading stopped within a piece
pub stop-took : (hearing : ListingWriter WaveLister) (writer : WaveWriter) (piece bytes : List ℕ) (first held held' : Option (List ℕ)) (stop : Stop) →
    length piece ≤ 2048 → WaveFollows writer bytes first held →
    Took ListerStands no_lines hearing (reverse piece ++ bytes) held held' {T = Unit {0}} (Err stop) →
    WaveTook (with-hearing writer hearing) (reverse piece ++ bytes) first held' (Err stop)
stop-took hearing writer piece bytes first held held' (stops.Refused refusal) short f took = (
  took.0,
  record {
    stands = took.2;
    draws = draws-still writer.drawer writer.text (ticks_in (reverse piece ++ bytes)) first held held' (draws-then writer piece bytes first held short f.drew)
        (nothing-added hearing.text held held' took.1);
  },
)
stop-took hearing writer piece bytes first held held' stops.WriteFault short f took = record {
  later = reverse piece;
  before = bytes;
  parts = refl;
  front = owed-front (wave_so_far LAG (ticks_in bytes)) writer.text first held held' f.drew.owed (widen held held' writer.text took.front);
}

-- what follows a text draws what is due of it
pub follows-kept : (writer : WaveWriter) (bytes : List ℕ) (first held : Option (List ℕ)) → WaveFollows writer bytes first held → Kept writer bytes first held
follows-kept writer bytes first held f = record {
  stands = f.hears.lister;
  draws = draws-more writer.drawer writer.text [] (ticks_in bytes) first held (omega arith) f.drew.drawer f.drew.owed f.drew.room;
}

-- nothing was drawn of no ticks
begun-text : wave_so_far LAG [] ≡ head_text
unfolding wave_so_far drawn
begun-text = append-nil head_text

no-ticks : ticks_in [] ≡ []
unfolding ticks_in
no-ticks = refl

long-head : length head_text ≡ 493
long-head = refl

pub begun-drew : (writer : WaveWriter) (first : Option (List ℕ)) → writer.drawer ≡ record { tick = 0; last = quiet_pair } → writer.text ≡ head_text →
    DrewDue writer (ticks_in []) first first
begun-drew writer first drawer text =
    let long : length writer.text ≡ 493 = ap length text ∙ long-head in
    subst (λ past. DrewDue writer past first first) (sym no-ticks) record {
      drawer = drawer;
      owed = subst (λ t. Owed (wave_so_far LAG []) t first first) (begun-text ∙ sym text) (owed-own (wave_so_far LAG []) first);
      room = omega (arith, long);
    }
