-- A row: what a table tells of a message. It is told of the message of the listing, and of its bursts.
use Rattle.std.specs.Prelude.{ℕ, Bool, true, false, List, [], ◌∷◌, ◌++◌, length, codes, Option, Some, None, option_to_list, if◌then◌else◌}
use Rattle.bus_base.specs.declared.samples.Channel.{Channel}
use Rattle.bus_base.specs.declared.samples.Part.{Part}
use Rattle.bus_base.specs.declared.samples.Part.TheVariants as parts
use Rattle.bus_formats.specs.Forms.{commands_of}
use Rattle.bus_formats.specs.declared.form.Outcome.{Outcome}
use Rattle.bus_formats.specs.declared.form.Outcome.TheVariants.{Clear, Sent, Declined, Passed, Illegal, Busy, NoResponse, BadReply, Abandoned, Yielded}
use Rattle.bus_formats.specs.declared.plan.Kind.{Kind}
use Rattle.bus_formats.specs.declared.plan.Kind.TheVariants.{Receive, Transmit, Relay, Mode}
use Rattle.bus_text.specs.Texts.{part_number}
use Rattle.bus_monitor.specs.Messages.{Came, unknown, ended, Closed}
use Rattle.bus_table.specs.Exchanges.{Facts, first_response, second_response, last_end, first_bad}
use Rattle.bus_table.specs.declared.flaw.BadWord.{BadWord}

-- ---- what a message is

abbrev pub form_name : Kind → List ℕ
form_name (Receive to sub words) = codes "receive"
form_name (Transmit from sub count) = codes "transmit"
form_name (Relay from from_sub to to_sub count) = codes "relay"
form_name (Mode to mode_sub transmit code word) = codes "mode"

-- the address and the subaddress of the first command word: of a relay the receiver's
abbrev pub address : Kind → ℕ
address (Receive to sub words) = to
address (Transmit from sub count) = from
address (Relay from from_sub to to_sub count) = to
address (Mode to mode_sub transmit code word) = to

abbrev pub subaddress : Kind → ℕ
subaddress (Receive to sub words) = sub
subaddress (Transmit from sub count) = sub
subaddress (Relay from from_sub to to_sub count) = to_sub
subaddress (Mode to mode_sub transmit code word) = mode_sub

-- the data words that are to come, but for a mode command, which has its code in their place
abbrev pub count_of : Kind → Option ℕ
count_of (Receive to sub words) = Some (length words)
count_of (Transmit from sub count) = Some count
count_of (Relay from from_sub to to_sub count) = Some count
count_of (Mode to mode_sub transmit code word) = None

abbrev pub code_of : Kind → Option ℕ
code_of (Mode to mode_sub transmit code word) = Some code
code_of _ = None

-- the address and the subaddress of a relay's transmitter
abbrev pub source : Kind → Option ℕ
source (Relay from from_sub to to_sub count) = Some from
source _ = None

abbrev pub source_sub : Kind → Option ℕ
source_sub (Relay from from_sub to to_sub count) = Some from_sub
source_sub _ = None

-- ---- how it ended

abbrev pub outcome_name : Outcome → List ℕ
outcome_name Clear = codes "clear"
outcome_name Sent = codes "sent"
outcome_name Declined = codes "declined"
outcome_name Passed = codes "passed"
outcome_name (Illegal part) = codes "illegal"
outcome_name (Busy part) = codes "busy"
outcome_name (NoResponse part) = codes "no-response"
outcome_name (BadReply part) = codes "bad-reply"
outcome_name Abandoned = codes "abandoned"
outcome_name Yielded = codes "yielded"

-- the answer that decided
abbrev pub deciding : Outcome → Option ℕ
deciding (Illegal part) = Some (part_number part)
deciding (Busy part) = Some (part_number part)
deciding (NoResponse part) = Some (part_number part)
deciding (BadReply part) = Some (part_number part)
deciding _ = None

-- whether the first answer was the one that was due: the message ended clear, or the second answer decided
abbrev pub is_second : Part → Bool
is_second parts.Second = true
is_second _ = false

abbrev pub first_was_good : Outcome → Bool
first_was_good Clear = true
first_was_good (Illegal part) = is_second part
first_was_good (Busy part) = is_second part
first_was_good (NoResponse part) = is_second part
first_was_good (BadReply part) = is_second part
first_was_good _ = false

-- ---- its data words: of a receive command and of a mode command that carries one the controller's, else those of a good answer

abbrev pub answered_data : Outcome → List ℕ → List ℕ
answered_data outcome answer = if first_was_good outcome then answer else []

abbrev pub mode_data : Option ℕ → Outcome → List ℕ → List ℕ
mode_data (Some word) outcome answer = word ∷ []
mode_data None outcome answer = answered_data outcome answer

abbrev pub data_of : Kind → Outcome → List ℕ → List ℕ
data_of (Receive to sub words) outcome answer = words
data_of (Transmit from sub count) outcome answer = answered_data outcome answer
data_of (Relay from from_sub to to_sub count) outcome answer = answered_data outcome answer
data_of (Mode to mode_sub transmit code word) outcome answer = mode_data word outcome answer

-- ---- the row

-- how far a row's message came
pub data State : Type 0 where
  is_open : State
  is_unknown : State
  is_ended : Kind → Outcome → List ℕ → State

abbrev pub state_of : Came → State
state_of unknown = is_unknown
state_of (ended kind outcome statuses) = is_ended kind outcome statuses

-- its command words, how it ended, the answer that decided, and the status words that were read
abbrev pub commands_in : State → List ℕ
commands_in (is_ended kind outcome statuses) = commands_of kind
commands_in _ = []

abbrev pub outcome_in : State → List ℕ
outcome_in is_open = codes "open"
outcome_in is_unknown = codes "unknown"
outcome_in (is_ended kind outcome statuses) = outcome_name outcome

abbrev pub answer_in : State → Option ℕ
answer_in (is_ended kind outcome statuses) = deciding outcome
answer_in _ = None

abbrev pub statuses_in : State → List ℕ
statuses_in (is_ended kind outcome statuses) = statuses
statuses_in _ = []

-- the first tick and the channel of a message, how far it came, the gap before it, and of one that closed the tick after its last burst,
-- the responses, the data words of the first answer and the first bad word
pub record Row : Type 0 where
  pub at : ℕ
  pub channel : Channel
  pub state : State
  pub gap : Option ℕ
  pub end : Option ℕ
  pub responses : List ℕ
  pub answer : List ℕ
  pub bad : Option BadWord

abbrev pub responses_of : State → Facts → List ℕ
responses_of (is_ended kind outcome statuses) facts = option_to_list (first_response facts) ++ option_to_list (second_response facts)
responses_of _ facts = []

abbrev pub closed_row : Channel → Facts → Closed → Row
closed_row c facts closed = record {
  at = closed.first;
  channel = c;
  state = state_of closed.came;
  gap = facts.gap;
  end = Some (last_end facts);
  responses = responses_of (state_of closed.came) facts;
  answer = facts.words;
  bad = first_bad facts;
}

abbrev pub open_row : Channel → ℕ → Option ℕ → Row
open_row c first gap = record {
  at = first;
  channel = c;
  state = is_open;
  gap = gap;
  end = None;
  responses = [];
  answer = [];
  bad = None;
}
