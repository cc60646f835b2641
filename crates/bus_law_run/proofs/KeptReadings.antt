-- Which readings of an answer keep control.
use Rattle.std.proofs.Common.{◌≡◌, ℕ, Bool, true, false, List, Option, Some, None, refl, sym, ap, ◌∙◌}
use Rattle.std.proofs.lemmas.Bool.{true≢false}
use Rattle.std.specs.Prelude.{◌&&◌, ◌||◌, ◌==◌, not, if◌then◌else◌}
use Rattle.bus_base.specs.declared.samples.Part.{Part}
use Rattle.bus_words.specs.Fields.{flags_in}
use Rattle.bus_words.specs.declared.word.Word.{Word}
use Rattle.bus_formats.specs.Codes.{transmit_status_word, transmit_last_command}
use Rattle.bus_formats.specs.Forms.{answers_of}
use Rattle.bus_formats.specs.Readings.{read_answer, read_by, read_offer, read_status, read_mode, read_refusal, read_full, read_data, read_shape, shape_in, status_alone, status_full}
use Rattle.bus_formats.specs.declared.form.Outcome.{Outcome}
use Rattle.bus_formats.specs.declared.form.Outcome.TheVariants.{Clear, Sent, Declined, Passed, Illegal, Busy, NoResponse, BadReply, Abandoned, Yielded}
use Rattle.bus_formats.specs.declared.form.Reading.{Reading}
use Rattle.bus_formats.specs.declared.form.Reading.TheVariants.{Good, Ends}
use Rattle.bus_formats.specs.declared.form.Shape.{Shape}
use Rattle.bus_formats.specs.declared.plan.Kind.{Kind}
use Rattle.bus_formats.specs.declared.plan.Kind.TheVariants.{Receive, Transmit, Relay, Mode}
use Rattle.bus_model.specs.Attempts.{is_offer}
use Rattle.bus_model.specs.Course.{gives}

-- a reading that ends the message keeps control
abbrev keeps : Reading → Bool
keeps (Good status) = true
keeps (Ends outcome status) = not (gives outcome)

if-keeps : (b : Bool) (r q : Reading) → keeps r ≡ true → keeps q ≡ true → keeps (if b then r else q) ≡ true
if-keeps true r q first second = first
if-keeps false r q first second = second

refusal-keeps : (part : Part) (alone : Option ℕ) → keeps (read_refusal part alone) ≡ true
refusal-keeps part None = refl
refusal-keeps part (Some status) = if-keeps (flags_in status).message_error (Ends (Illegal part) (Some status)) (Ends (BadReply part) None) refl refl

status-keeps : (part : Part) (alone : Option ℕ) → keeps (read_status part alone) ≡ true
status-keeps part None = refl
status-keeps part (Some status) = refl

mode-keeps : (part : Part) (reports : Bool) (full alone : Option ℕ) → keeps (read_mode part reports full alone) ≡ true
mode-keeps part reports None alone = refusal-keeps part alone
mode-keeps part reports (Some status) alone =
    if-keeps (not (flags_in status).message_error || reports) (Good status) (read_refusal part alone) refl (refusal-keeps part alone)

full-keeps : (part : Part) (full : Option ℕ) → keeps (read_full part full) ≡ true
full-keeps part None = refl
full-keeps part (Some status) =
    if-keeps ((flags_in status).message_error || (flags_in status).busy) (Ends (BadReply part) None) (Good status) refl refl

data-keeps : (part : Part) (alone full : Option ℕ) → keeps (read_data part alone full) ≡ true
data-keeps part None full = full-keeps part full
data-keeps part (Some status) full =
    if-keeps (flags_in status).message_error (Ends (Illegal part) (Some status))
    (if (flags_in status).busy then Ends (Busy part) (Some status) else read_full part full) refl
    (if-keeps (flags_in status).busy (Ends (Busy part) (Some status)) (read_full part full) refl (full-keeps part full))

by-keeps : (part : Part) (kind : Kind) (alone full : Option ℕ) → is_offer kind ≡ false → keeps (read_by part kind alone full) ≡ true
by-keeps part (Receive to sub words) alone full plain = data-keeps part alone full
by-keeps part (Transmit from sub count) alone full plain = data-keeps part alone full
by-keeps part (Relay from from_sub to to_sub count) alone full plain = data-keeps part alone full
by-keeps part (Mode to mode_sub transmit code word) alone full plain =
    let others : Reading = if transmit && (code == transmit_status_word) then read_status part alone
    else read_mode part (transmit && (code == transmit_last_command)) full alone in
    ap (λ (b : Bool). keeps (if b then read_offer part alone else others)) plain
    ∙ if-keeps (transmit && (code == transmit_status_word)) (read_status part alone)
    (read_mode part (transmit && (code == transmit_last_command)) full alone) (status-keeps part alone)
    (mode-keeps part (transmit && (code == transmit_last_command)) full alone)

shape-keeps : (part : Part) (kind : Kind) (shape : Option Shape) (slots : List (Option Word)) (rest : ℕ) → is_offer kind ≡ false →
    keeps (read_shape part kind shape slots rest) ≡ true
shape-keeps part kind None slots rest plain = refl
shape-keeps part kind (Some shape) slots rest plain = by-keeps part kind (status_alone shape slots rest) (status_full shape slots rest) plain

kept-of : (outcome : Outcome) → not (gives outcome) ≡ true → gives outcome ≡ false
kept-of Clear is = refl
kept-of Sent is = refl
kept-of Declined is = refl
kept-of Passed is = absurd (true≢false (sym is))
kept-of (Illegal part) is = refl
kept-of (Busy part) is = refl
kept-of (NoResponse part) is = refl
kept-of (BadReply part) is = refl
kept-of Abandoned is = refl
kept-of Yielded is = absurd (true≢false (sym is))

-- an answer to a message that is no offer
pub reading-keeps : (part : Part) (kind : Kind) (slots : List (Option Word)) (rest : ℕ) (outcome : Outcome) (status : Option ℕ) → is_offer kind ≡ false →
    read_answer kind part slots rest ≡ Ends outcome status → gives outcome ≡ false
reading-keeps part kind slots rest outcome status plain is =
    kept-of outcome (sym (ap keeps is) ∙ shape-keeps part kind (shape_in part (answers_of kind)) slots rest plain)
