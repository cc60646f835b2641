-- All ticks that are due are told one after the other.
use Rattle.std.proofs.Common.{◌≡◌, ℕ, suc, ◌<◌, List, [], ◌++◌, refl, ap, sym, ◌∙◌, subst, arith, Option, Result, Ok}
use Rattle.bus_outside.specs.Causes.{GrowsByFront}
use Rattle.bus_lines.specs.Written.{Took}
use Rattle.bus_lines.specs.Readers as readers
use Rattle.bus_lines.specs.declared.reader.RecordingReader.{RecordingReader}
use Rattle.bus_lines.specs.declared.reader.Closing.{Closing}
use Rattle.bus_lines.specs.declared.converter.Halt.{Halt}
use Rattle.bus_recording.specs.declared.refusal.RecordingRefusal.{RecordingRefusal}
use Rattle.bus_monitor.specs.Scribes.{Owed}
use Rattle.bus_phase.specs.Phases.{pair_now}
use Rattle.bus_lines.proofs.RestLaws.{Rests, rests_all, rests_on, rests_none, rests_fail}
use Rattle.bus_lines.specs.Converting.{ticks_due, after_one, after_told, told_text, due_text, all_told, tick_text, with_closing, going_on, closed, closed_text, closed_refusal, with_reader_end}
use Rattle.bus_lines.specs.declared.converter.Converter.{Converter}

due_one_more : (c : Converter) → 0 < ticks_due c → ticks_due c ≡ suc (ticks_due (after_one c))
due_one_more c some = omega (arith, some)

-- the next tick, and then the others
due_step : (c : Converter) → 0 < ticks_due c → due_text c ≡ tick_text c.column (pair_now c.phase) ++ due_text (after_one c)
unfolding told_text
due_step c some = ap (λ (n : ℕ). told_text n c) (due_one_more c some)

told_step : (c : Converter) → 0 < ticks_due c → all_told c ≡ all_told (after_one c)
unfolding after_told
told_step c some = ap (λ (n : ℕ). after_told n c) (due_one_more c some)

-- where none is due nothing is left
due_none : (c : Converter) → ticks_due c ≡ 0 → due_text c ≡ []
unfolding told_text
due_none c none = ap (λ (n : ℕ). told_text n c) none

told_none : (c : Converter) → ticks_due c ≡ 0 → all_told c ≡ c
unfolding after_told
told_none c none = ap (λ (n : ℕ). after_told n c) none

-- so far some ticks of those that were due are told
pub record Telling (c0 c : Converter) (text0 text : List ℕ) (held0 held : Option (List ℕ)) : Type 0 where
  pub state : all_told c ≡ all_told c0
  pub told : Rests (due_text c0) (due_text c) text0 text held0 held

pub telling_starts : (c : Converter) (text : List ℕ) (held : Option (List ℕ)) → Telling c c text text held held
telling_starts c text held = record { state = refl; told = rests_all (due_text c) text held }

pub telling_goes_on : (c0 c c' : Converter) (text0 text text' : List ℕ) (held0 held held' : Option (List ℕ)) → 0 < ticks_due c → c' ≡ after_one c →
    Telling c0 c text0 text held0 held →
    ((before : List ℕ) (first : Option (List ℕ)) → Owed before text first held → Owed (before ++ tick_text c.column (pair_now c.phase)) text' first held') →
    Telling c0 c' text0 text' held0 held'
telling_goes_on c0 c c' text0 text text' held0 held held' some is t one =
    subst (λ (x : Converter). Telling c0 x text0 text' held0 held') (sym is) record {
      state = sym (told_step c some) ∙ t.state;
      told = rests_on (due_text c0) (due_text c) (tick_text c.column (pair_now c.phase)) (due_text (after_one c)) text0 text text' held0 held held'
          (due_step c some) t.told one;
    }

pub telling_ends : (c0 c : Converter) (text0 text : List ℕ) (held0 held : Option (List ℕ)) → ticks_due c ≡ 0 → Telling c0 c text0 text held0 held →
    (before : List ℕ) (first : Option (List ℕ)) → Owed before text0 first held0 → Owed (before ++ due_text c0) text first held
telling_ends c0 c text0 text held0 held none t = rests_none (due_text c0) (due_text c) text0 text held0 held (due_none c none) t.told

pub telling_ended : (c0 c : Converter) (text0 text : List ℕ) (held0 held : Option (List ℕ)) → ticks_due c ≡ 0 → Telling c0 c text0 text held0 held → c ≡ all_told c0
telling_ended c0 c text0 text held0 held none t = sym (told_none c none) ∙ t.state

pub telling_fails : (c0 c : Converter) (text0 text : List ℕ) (held0 held held' : Option (List ℕ)) → 0 < ticks_due c → Telling c0 c text0 text held0 held →
    ((before : List ℕ) (first : Option (List ℕ)) → Owed before text first held → GrowsByFront first held' (before ++ tick_text c.column (pair_now c.phase))) →
    (before : List ℕ) (first : Option (List ℕ)) → Owed before text0 first held0 → GrowsByFront first held' (before ++ due_text c0)
telling_fails c0 c text0 text held0 held held' some t one =
    rests_fail (due_text c0) (due_text c) (tick_text c.column (pair_now c.phase)) (due_text (after_one c)) text0 text held0 held held' (due_step c some) t.told one

-- ---- the end of a recording

abbrev with_reader : RecordingReader → Converter → Converter
with_reader reader c = record c { reader = reader }

-- what the end tells goes to the phase
pub took_closing : (old : Converter) (reader : RecordingReader) (at : ℕ) (answer : Result Closing RecordingRefusal) (closing : Closing) (before : List ℕ)
    (new : Converter) (text : List ℕ) (first held : Option (List ℕ)) (done : Result (Unit {0}) Halt) → answer ≡ Ok closing → reader ≡ readers.after_end old.reader →
    at ≡ readers.offset old.reader →
    Took (all_told (with_closing closing (with_reader reader old))) (before ++ due_text (with_closing closing (with_reader reader old)))
    (going_on at (all_told (with_closing closing (with_reader reader old)))) new text first held done →
    Took (closed answer (with_reader_end old)) (before ++ closed_text answer (with_reader_end old))
    (closed_refusal answer (readers.offset old.reader) (closed answer (with_reader_end old))) new text first held done
took_closing old reader at answer closing before new text first held done is same place t =
    let x : Converter = with_reader_end old in
    subst (λ (a : Result Closing RecordingRefusal). Took (closed a x) (before ++ closed_text a x) (closed_refusal a (readers.offset old.reader) (closed a x)) new text first held done) (sym is)
    (subst (λ (n : ℕ). Took (all_told (with_closing closing x)) (before ++ due_text (with_closing closing x)) (going_on n (all_told (with_closing closing x))) new text first held done) place
    (subst (λ (r : RecordingReader). Took (all_told (with_closing closing (with_reader r old))) (before ++ due_text (with_closing closing (with_reader r old)))
    (going_on at (all_told (with_closing closing (with_reader r old)))) new text first held done) same t))
