-- The lines of the message listing, made of the rows.
use Rattle.std.proofs.Common.{◌≡◌, ℕ, List, [], ◌∷◌, ◌++◌, map, Option, Some, None, refl, sym, ap, ◌∙◌, arith, append_assoc}
use Rattle.std.specs.Prelude.{flat_map}
use Rattle.std.proofs.lemmas.Grind.{flat_map-append}
use Rattle.std.proofs.lemmas.List.{append-nil}
use Rattle.bus_base.specs.declared.samples.Channel.{Channel}
use Rattle.bus_base.specs.declared.samples.Channel.TheVariants.{A, B}
use Rattle.bus_base.specs.declared.samples.Pair.{Pair}
use Rattle.bus_formats.specs.Forms.{commands_of}
use Rattle.bus_formats.specs.declared.form.Outcome.{Outcome}
use Rattle.bus_formats.specs.declared.form.Outcome.TheVariants.{Clear, Sent, Declined, Passed, Illegal, Busy, NoResponse, BadReply, Abandoned, Yielded}
use Rattle.bus_line.specs.Channels.{on_channel, bursts}
use Rattle.bus_line.specs.declared.cutter.TheConstants.{LAG}
use Rattle.bus_text.specs.Texts.{spaced, outcome_text}
use Rattle.bus_monitor.specs.Messages.{Came, unknown, ended, Closed, messages}
use Rattle.bus_monitor.specs.Listings.{message_listing, message_line, came_text, closed_line, open_line, open_on, end_line, statuses_text}
use Rattle.bus_monitor.specs.Progress.{message_lines, messages_now, closed_now}
use Rattle.bus_monitor.proofs.LineLaws.{message_lines-grow}
use Rattle.bus_table.specs.Exchanges.{Facts, exchange, facts_of}
use Rattle.bus_table.specs.Lines.{line_of, commands_part, answer_part}
use Rattle.bus_table.specs.Rows.{Row, closed_row, state_of, outcome_name, deciding, commands_in, outcome_in, answer_in, statuses_in}
use Rattle.bus_table.specs.Tables.{rows, rows_now, open_rows, row_of_open, open_gap, all_rows}

-- an outcome is its name and the answer that decided
outcome-parts : (o : Outcome) → spaced (outcome_name o) ++ answer_part (deciding o) ≡ outcome_text o
outcome-parts Clear = refl
outcome-parts Sent = refl
outcome-parts Declined = refl
outcome-parts Passed = refl
outcome-parts (Illegal part) = refl
outcome-parts (Busy part) = refl
outcome-parts (NoResponse part) = refl
outcome-parts (BadReply part) = refl
outcome-parts Abandoned = refl
outcome-parts Yielded = refl

came-parts : (came : Came) → commands_part (commands_in (state_of came)) ++ (spaced (outcome_in (state_of came)) ++ answer_part (answer_in (state_of came)))
    ++ statuses_text (statuses_in (state_of came)) ≡ came_text came
came-parts unknown = refl
came-parts (ended kind outcome statuses) = ap (λ text. (commands_part (commands_of kind) ++ text) ++ statuses_text statuses) (outcome-parts outcome)

closed-line : (c : Channel) (facts : Facts) (closed : Closed) → line_of (closed_row c facts closed) ≡ message_line c closed.first (came_text closed.came)
closed-line c facts closed = ap (message_line c closed.first) (came-parts closed.came)

closed-lines : (c : Channel) (facts : Facts) (xs : List Closed) →
    flat_map line_of (map (closed_row c facts) xs) ≡ flat_map (λ l. l.text) (map (closed_line c) xs)
closed-lines c facts [] = refl
closed-lines c facts (closed ∷ xs) =
    ap (λ l. l ++ flat_map line_of (map (closed_row c facts) xs)) (closed-line c facts closed)
    ∙ ap (λ ls. message_line c closed.first (came_text closed.came) ++ ls) (closed-lines c facts xs)

pub lines-closed : (past : List Pair) → message_lines LAG past ≡ flat_map line_of (rows LAG past)
unfolding message_lines bursts messages rows
lines-closed [] = refl
lines-closed (shown ∷ past) =
    let a : List Row = rows_now LAG A (shown ∷ past) in
    let b : List Row = rows_now LAG B (shown ∷ past) in
    message_lines-grow LAG shown past (omega arith)
    ∙ ap (λ ls. ls ++ (messages_now LAG A (shown ∷ past) ++ messages_now LAG B (shown ∷ past))) (lines-closed past)
    ∙ ap (λ ls. flat_map line_of (rows LAG past) ++ (ls ++ messages_now LAG B (shown ∷ past)))
    (sym (closed-lines A (facts_of (exchange LAG A (shown ∷ past))) (closed_now LAG (on_channel A (shown ∷ past)))))
    ∙ ap (λ ls. flat_map line_of (rows LAG past) ++ (flat_map line_of a ++ ls))
    (sym (closed-lines B (facts_of (exchange LAG B (shown ∷ past))) (closed_now LAG (on_channel B (shown ∷ past)))))
    ∙ sym (flat_map-append line_of (rows LAG past) (a ++ b) ∙ ap (λ ls. flat_map line_of (rows LAG past) ++ ls) (flat_map-append line_of a b))

open-lines : (c : Channel) (first gap : Option ℕ) → flat_map line_of (row_of_open LAG c first gap) ≡ open_line c first
open-lines c None gap = refl
open-lines c (Some first) gap = append-nil (open_line c (Some first))

pub lines-whole : (past : List Pair) → message_listing LAG past ≡ flat_map line_of (all_rows LAG past) ++ end_line past
unfolding message_listing message_lines
lines-whole past =
    let a : List ℕ = open_line A (open_on LAG A past) in
    let b : List ℕ = open_line B (open_on LAG B past) in
    ap (λ ls. ((ls ++ a) ++ b) ++ end_line past) (lines-closed past)
    ∙ ap (λ ls. ls ++ end_line past) (append_assoc (flat_map line_of (rows LAG past)) a b
    ∙ ap (λ ls. flat_map line_of (rows LAG past) ++ (ls ++ b)) (sym (open-lines A (open_on LAG A past) (open_gap LAG A past)))
    ∙ ap (λ ls. flat_map line_of (rows LAG past) ++ (flat_map line_of (open_rows LAG A past) ++ ls)) (sym (open-lines B (open_on LAG B past) (open_gap LAG B past)))
    ∙ sym (flat_map-append line_of (rows LAG past) (open_rows LAG A past ++ open_rows LAG B past)
    ∙ ap (λ ls. flat_map line_of (rows LAG past) ++ ls) (flat_map-append line_of (open_rows LAG A past) (open_rows LAG B past))))
