-- A message ends without a response exactly where none was heard in time.
use Rattle.std.proofs.Common.{◌≡◌, ◌↔◌, ℕ, suc, ◌+◌, ◌<◌, Bool, true, false, not, ◌&&◌, ◌||◌, ◌==◌, nat_lt, List, length, Option, Some, None, refl, sym, ap, ◌∙◌, if◌then◌else◌}
use Rattle.bus_base.specs.declared.samples.Part.{Part}
use Rattle.bus_base.specs.declared.samples.Part.TheVariants.{First, Second}
use Rattle.bus_base.specs.declared.samples.Pair.{Pair}
use Rattle.bus_base.specs.declared.samples.Sample.{Sample}
use Rattle.bus_words.specs.Fields.{flags_in}
use Rattle.bus_words.specs.declared.word.Word.{Word}
use Rattle.bus_line.specs.Bursts.{IsEndSince}
use Rattle.bus_line.specs.Channels.{on_channel, quiet_both}
use Rattle.bus_line.specs.Past.{Burst, quiet, end_of, rest_of}
use Rattle.bus_line.proofs.EndLaws.{end_since-found}
use Rattle.bus_formats.specs.Codes.{dynamic_bus_control, transmit_status_word, transmit_last_command}
use Rattle.bus_formats.specs.Forms.{answers_of}
use Rattle.bus_formats.specs.Plans.{ItemData}
use Rattle.bus_formats.specs.Readings.{read_refusal, read_offer, read_status, read_mode, read_full, read_data, read_by, status_alone, status_full, shape_in, read_shape, read_answer}
use Rattle.bus_formats.specs.Times.{doubting}
use Rattle.bus_formats.specs.declared.form.Outcome.{Outcome}
use Rattle.bus_formats.specs.declared.form.Outcome.TheVariants.{Clear, Sent, NoResponse, BadReply, Illegal, Busy, Declined, Passed, Abandoned, Yielded}
use Rattle.bus_formats.specs.declared.form.Reading.{Reading}
use Rattle.bus_formats.specs.declared.form.Reading.TheVariants.{Good, Ends}
use Rattle.bus_formats.specs.declared.form.Shape.{Shape}
use Rattle.bus_formats.specs.declared.plan.Kind.{Kind}
use Rattle.bus_formats.specs.declared.plan.Kind.TheVariants.{Receive, Transmit, Relay, Mode}
use Rattle.bus_model.specs.Attempts.{Begun, Ended, without_words, is_offer}
use Rattle.bus_model.specs.Controller.{Reply, ended_so, silence, awaited, running, whole, reply, second_read, second_ending, good_ending, doubt_ending, read_ending, first_read, abandon_ending, first_ending, ending_now}
use Rattle.bus_law_ticks.specs.Replies.{AreQuiet}
use Rattle.bus_law_ticks.proofs.Choices.{by-test}
use Rattle.bus_law_ticks.proofs.Counting.{silence-is}

-- ---- no answer is read as no response

-- the part of a message that wasn't answered
abbrev pub missed : Outcome → Option Part
missed (NoResponse part) = Some part
missed _ = None

abbrev pub Never : Reading → Type 0
Never (Good status) = Unit {0}
Never (Ends outcome status) = missed outcome ≡ None

module _ (part : Part) where
  refusal-never : (status : Option ℕ) → Never (read_refusal part status)
  refusal-never None = refl
  refusal-never (Some status) = by-test Never (flags_in status).message_error _ _ (λ _. refl) (λ _. refl)

  offer-never : (status : Option ℕ) → Never (read_offer part status)
  offer-never None = refl
  offer-never (Some status) =
      by-test Never (flags_in status).message_error _ _ (λ _. refl) (λ _. by-test Never (flags_in status).acceptance _ _ (λ _. refl) (λ _. refl))

  status-never : (status : Option ℕ) → Never (read_status part status)
  status-never None = refl
  status-never (Some status) = tt

  mode-never : (reports : Bool) (full alone : Option ℕ) → Never (read_mode part reports full alone)
  mode-never reports None alone = refusal-never alone
  mode-never reports (Some status) alone = by-test Never (not (flags_in status).message_error || reports) _ _ (λ _. tt) (λ _. refusal-never alone)

  full-never : (full : Option ℕ) → Never (read_full part full)
  full-never None = refl
  full-never (Some status) = by-test Never ((flags_in status).message_error || (flags_in status).busy) _ _ (λ _. refl) (λ _. tt)

  data-never : (alone full : Option ℕ) → Never (read_data part alone full)
  data-never None full = full-never full
  data-never (Some status) full =
      by-test Never (flags_in status).message_error _ _ (λ _. refl) (λ _. by-test Never (flags_in status).busy _ _ (λ _. refl) (λ _. full-never full))

  kind-never : (kind : Kind) (alone full : Option ℕ) → Never (read_by part kind alone full)
  kind-never (Receive to sub words) alone full = data-never alone full
  kind-never (Transmit from sub count) alone full = data-never alone full
  kind-never (Relay from from_sub to to_sub count) alone full = data-never alone full
  kind-never (Mode to mode_sub transmit code word) alone full =
      by-test Never (code == dynamic_bus_control) _ _ (λ _. offer-never alone)
      (λ _. by-test Never (transmit && (code == transmit_status_word)) _ _ (λ _. status-never alone)
      (λ _. mode-never (transmit && (code == transmit_last_command)) full alone))

  shape-never : (kind : Kind) (shape : Option Shape) (slots : List (Option Word)) (rest : ℕ) → Never (read_shape part kind shape slots rest)
  shape-never kind None slots rest = refl
  shape-never kind (Some shape) slots rest = kind-never kind (status_alone shape slots rest) (status_full shape slots rest)

answer-never : (kind : Kind) (part : Part) (slots : List (Option Word)) (rest : ℕ) → Never (read_answer kind part slots rest)
answer-never kind part slots rest = shape-never part kind (shape_in part (answers_of kind)) slots rest

-- ---- the endings

-- the part that wasn't answered, where a message ended so
abbrev pub missed_in : Option Ended → Option Part
missed_in None = None
missed_in (Some ended) = missed ended.outcome

module _ (k : ℕ) (item : ItemData) (shown : List Pair) (past : List Sample) where
  read-second : (first : ℕ) (reading : Reading) → Never reading → missed_in (second_read k item shown past first reading) ≡ None
  read-second first (Good second) never = refl
  read-second first (Ends outcome second) never = never

  -- a relay misses its second answer only in silence
  second-missed : (first : ℕ) (r : Reply) → missed_in (second_ending k item shown past first r) ≡ Some Second → r ≡ silence
  second-missed first silence h = refl
  second-missed first awaited h = cc
  second-missed first running h = cc
  second-missed first (whole burst) h =
      let none = read-second first (read_answer item.kind Second burst.slots (rest_of burst)) (answer-never item.kind Second burst.slots (rest_of burst)) in
      let bad : None ≡ Some Second = sym none ∙ h in cc

  -- and it misses nothing else then
  second-first : (first : ℕ) (r : Reply) → missed_in (second_ending k item shown past first r) ≡ Some First → ⊥
  second-first first silence h = cc
  second-first first awaited h = cc
  second-first first running h = cc
  second-first first (whole burst) h =
      let none = read-second first (read_answer item.kind Second burst.slots (rest_of burst)) (answer-never item.kind Second burst.slots (rest_of burst)) in
      let bad : None ≡ Some First = sym none ∙ h in cc

  doubt-none : (x : ℕ) → missed_in (doubt_ending k item shown past x) ≡ None
  doubt-none x =
      by-test (λ (o : Option Ended). missed_in o ≡ None) (nat_lt (x + quiet_both shown) (length shown)) (ended_so Yielded None None)
      (if length shown == x + doubting then ended_so (BadReply First) None None else None) (λ _. refl)
      (λ _. by-test (λ (o : Option Ended). missed_in o ≡ None) (length shown == x + doubting) (ended_so (BadReply First) None None) None (λ _. refl) (λ _. refl))

  read-none : (burst : Burst) (offer : Bool) (outcome : Outcome) (status : Option ℕ) → missed outcome ≡ None →
      missed_in (read_ending k item shown past burst offer outcome status) ≡ None
  read-none burst true (BadReply part) status never = doubt-none (end_of burst)
  read-none burst false (BadReply part) status never = refl
  read-none burst true Clear status never = refl
  read-none burst true Sent status never = refl
  read-none burst true (NoResponse part) status never = never
  read-none burst true (Illegal part) status never = refl
  read-none burst true (Busy part) status never = refl
  read-none burst true Declined status never = refl
  read-none burst true Passed status never = refl
  read-none burst true Abandoned status never = refl
  read-none burst true Yielded status never = refl
  read-none burst false Clear status never = refl
  read-none burst false Sent status never = refl
  read-none burst false (NoResponse part) status never = never
  read-none burst false (Illegal part) status never = refl
  read-none burst false (Busy part) status never = refl
  read-none burst false Declined status never = refl
  read-none burst false Passed status never = refl
  read-none burst false Abandoned status never = refl
  read-none burst false Yielded status never = refl

  good-first : (status : ℕ) (burst : Burst) (shape : Option Shape) → missed_in (good_ending k item shown past status burst shape) ≡ Some First → ⊥
  good-first status burst None h = cc
  good-first status burst (Some shape) h = second-first status (reply k past (end_of burst)) h

  read-first : (burst : Burst) (reading : Reading) → Never reading → missed_in (first_read k item shown past burst reading) ≡ Some First → ⊥
  read-first burst (Good status) never h = good-first status burst (answers_of item.kind).second h
  read-first burst (Ends outcome status) never h =
      let none = read-none burst (is_offer item.kind) outcome status never in
      let bad : None ≡ Some First = sym none ∙ h in cc

  abandon-none : (e : ℕ) (ticks : Option ℕ) → missed_in (abandon_ending k item shown past e ticks) ≡ None
  abandon-none e None = refl
  abandon-none e (Some n) =
      by-test (λ (o : Option Ended). missed_in o ≡ None) ((length past == e + n) && (quiet past == 0)) (ended_so Abandoned None None) None (λ _. refl) (λ _. refl)

  -- a message misses its first answer only in silence
  first-missed : (e : ℕ) (r : Reply) → missed_in (first_ending k item shown past e r) ≡ Some First → r ≡ silence
  first-missed e silence h = refl
  first-missed e awaited h = cc
  first-missed e running h = (let none = abandon-none e item.abandon in let bad : None ≡ Some First = sym none ∙ h in cc)
  first-missed e (whole burst) h =
      absurd (read-first burst (read_answer item.kind First burst.slots (rest_of burst)) (answer-never item.kind First burst.slots (rest_of burst)) h)

-- ---- both laws

pub first-unanswered : (k : ℕ) (begun : Begun) (shown : List Pair) (e : ℕ) (shape : Shape) → let past : List Sample = on_channel begun.state.channel shown in
    (answers_of begun.entry.item.kind).first ≡ Some shape → IsEndSince k past begun.start e →
    (ending_now k begun shown ≡ Some (without_words (NoResponse First) None None)) ↔ ((e + 24 < length past) × AreQuiet past e (suc (e + 24)))
first-unanswered k begun shown e shape expects ended =
    let past : List Sample = on_channel begun.state.channel shown in
    let is : ending_now k begun shown ≡ first_ending k begun.entry.item shown past e (reply k past e) =
    rw (end_since-found k past begun.start e ended, expects) refl in (
      λ h. (silence-is k past e).0 (first-missed k begun.entry.item shown past e (reply k past e) (ap missed_in (sym is ∙ h))),
      λ w. is ∙ ap (first_ending k begun.entry.item shown past e) ((silence-is k past e).1 w),
    )

pub second-unanswered : (k : ℕ) (begun : Begun) (shown : List Pair) (e : ℕ) (shape other : Shape) (burst : Burst) (status : ℕ) →
    let past : List Sample = on_channel begun.state.channel shown in let x : ℕ = end_of burst in
    (answers_of begun.entry.item.kind).first ≡ Some shape → IsEndSince k past begun.start e → reply k past e ≡ whole burst →
    read_answer begun.entry.item.kind First burst.slots (rest_of burst) ≡ Good status → (answers_of begun.entry.item.kind).second ≡ Some other →
    (ending_now k begun shown ≡ Some (without_words (NoResponse Second) (Some status) None)) ↔ ((x + 24 < length past) × AreQuiet past x (suc (x + 24)))
second-unanswered k begun shown e shape other burst status expects ended heard good second =
    let past : List Sample = on_channel begun.state.channel shown in
    let x : ℕ = end_of burst in
    let item : ItemData = begun.entry.item in
    let is : ending_now k begun shown ≡ first_ending k item shown past e (reply k past e) = rw (end_since-found k past begun.start e ended, expects) refl in
    let read : first_ending k item shown past e (reply k past e) ≡ second_ending k item shown past status (reply k past x) =
    ap (first_ending k item shown past e) heard ∙ ap (first_read k item shown past burst) good ∙ ap (good_ending k item shown past status burst) second in (
      λ h. (silence-is k past x).0 (second-missed k item shown past status (reply k past x) (ap missed_in (sym (is ∙ read) ∙ h))),
      λ w. is ∙ read ∙ ap (second_ending k item shown past status) ((silence-is k past x).1 w),
    )
