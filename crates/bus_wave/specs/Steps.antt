-- What a tick tells, as the code takes it: by what a channel's lister keeps.
use Rattle.std.specs.Prelude.{ℕ, ◌+◌, ◌*◌, ◌==◌, false, ◌&&◌, if◌then◌else◌, List, [], ◌∷◌, ◌++◌, flat_map, Option, Some, None, is_some, is_none}
use Rattle.bus_base.specs.Samples.{is_quiet}
use Rattle.bus_base.specs.declared.samples.Sample.{Sample}
use Rattle.bus_words.specs.declared.word.Word.{Word}
use Rattle.bus_formats.specs.declared.plan.Kind.{Kind}
use Rattle.bus_monitor.specs.Messages.{Waiting}
use Rattle.bus_monitor.specs.Progress.{closed_in_time}
use Rattle.bus_monitor.specs.Steps.{closed_in, waits_in}
use Rattle.bus_monitor.specs.declared.waiting.Next.{Next}
use Rattle.bus_wave.specs.Told.{Told, told_at, told_closed, told_begin, told_stop, told_opening, told_waiting, slot_mark}
use Rattle.bus_wave.specs.declared.marks.Mark.TheVariants as marks

-- nothing became known of a burst
abbrev pub told_nothing : ℕ → Option ℕ → ℕ → Sample → Option ℕ → Option Waiting → List Told
told_nothing k gap now x running waiting =
    if is_some running then []
    else if is_quiet x then flat_map (told_closed k) (closed_in_time now false waiting)
    else told_begin gap now waiting

-- the slot with this index ended, of the burst from this tick on
abbrev pub told_index : ℕ → ℕ → Option Word → Option Waiting → List Told
told_index first index word waiting =
    told_at (first + 40 * index) (marks.Word (slot_mark ((index == 0) && is_none waiting) word)) ∷ []

abbrev pub told_sender_of : ℕ → Option Waiting → Option Kind → List Told
told_sender_of first None kind = told_opening first kind
told_sender_of first (Some w) kind = []

-- the burst from this tick on ended
abbrev pub told_next : ℕ → ℕ → ℕ → Option Waiting → Option Kind → ℕ → Next → List Told
told_next k first end waiting kind rest next =
    ((told_stop end rest ++ told_sender_of first waiting kind) ++ flat_map (told_closed k) (closed_in next)) ++ told_waiting (waits_in next)
