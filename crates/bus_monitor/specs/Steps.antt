-- One tick of a channel, and what it leaves, as the code takes it.
use Rattle.std.specs.Prelude.{ℕ, ◌+◌, ◌==◌, Bool, true, false, nat_lt, length, is_some, if◌then◌else◌, List, [], ◌∷◌, ◌++◌, map, flat_map, Option, Some, None, option_to_list}
use Rattle.bus_base.specs.declared.samples.Part.TheVariants.{First, Second}
use Rattle.bus_words.specs.declared.word.Word.{Word}
use Rattle.bus_formats.specs.Forms.{answers_of}
use Rattle.bus_formats.specs.Readings.{read_answer}
use Rattle.bus_formats.specs.Times.{no_response}
use Rattle.bus_formats.specs.declared.form.Outcome.{Outcome}
use Rattle.bus_formats.specs.declared.form.Outcome.TheVariants.{Clear, Sent}
use Rattle.bus_formats.specs.declared.form.Reading.{Reading}
use Rattle.bus_formats.specs.declared.form.Reading.TheVariants.{Good, Ends}
use Rattle.bus_formats.specs.declared.plan.Kind.{Kind}
use Rattle.bus_base.specs.declared.samples.Channel.{Channel}
use Rattle.bus_monitor.specs.Listings.{closed_line}
use Rattle.bus_monitor.specs.Messages.{Closed, Waiting, unknown, ended, waits_on, message_of}
use Rattle.bus_monitor.specs.declared.waiting.Next.{Next}
use Rattle.bus_monitor.specs.declared.waiting.Next.TheVariants as nexts

-- the lines of messages that closed on a channel
abbrev pub closed_lines : Channel → List Closed → List ℕ
closed_lines c closed = flat_map (λ l. l.text) (map (closed_line c) closed)

-- the message that closed, and the one that waits
abbrev pub closed_in : Next → List Closed
closed_in (nexts.Closed closed) = closed ∷ []
closed_in (nexts.Waits waiting) = []

abbrev pub waits_in : Next → Option Waiting
waits_in (nexts.Closed closed) = None
waits_in (nexts.Waits waiting) = Some waiting

-- whether the time of the message that waits is over with this tick
abbrev pub is_over : ℕ → Option Waiting → Bool
is_over now None = false
is_over now (Some w) = now == w.from + no_response

-- the slots that are kept, with one more where there is room
abbrev pub kept_with : List (Option Word) → Option Word → List (Option Word)
kept_with kept word = if nat_lt (length kept) 34 then kept ++ word ∷ [] else kept

-- a burst from the first tick to before the end, which is known now, opens this message
abbrev pub opens_next : ℕ → ℕ → ℕ → Option Kind → Next
opens_next first end now None = nexts.Closed record { first = first; tick = now; came = unknown }
opens_next first end now (Some kind) =
    if is_some (answers_of kind).first
    then nexts.Waits record { first = first; kind = kind; part = First; from = end; statuses = [] }
    else nexts.Closed record { first = first; tick = now; came = ended kind Sent [] }

abbrev pub closes_next : Waiting → ℕ → Outcome → List ℕ → Next
closes_next w now outcome statuses = nexts.Closed record { first = w.first; tick = now; came = ended w.kind outcome (w.statuses ++ statuses) }

-- an answer that ended there is read so
abbrev pub well_next : Waiting → ℕ → ℕ → ℕ → Bool → Next
well_next w end now status true = nexts.Waits record w { part = Second; from = end; statuses = w.statuses ++ status ∷ [] }
well_next w end now status false = closes_next w now Clear (status ∷ [])

abbrev pub answered_next : Waiting → ℕ → ℕ → Reading → Next
answered_next w end now (Good status) = well_next w end now status (waits_on w)
answered_next w end now (Ends outcome status) = closes_next w now outcome (option_to_list status)

-- a burst answers the message that waits, or opens one
abbrev pub burst_next : Option Waiting → ℕ → ℕ → ℕ → List (Option Word) → ℕ → Next
burst_next None first end now slots rest = opens_next first end now (message_of slots rest)
burst_next (Some w) first end now slots rest = answered_next w end now (read_answer w.kind w.part slots rest)
