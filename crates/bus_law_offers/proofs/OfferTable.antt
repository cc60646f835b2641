-- What the message of the table is that offers control, where an answer is shown and isn't abandoned.
use Rattle.std.proofs.Common.{◌≡◌, ℕ, ◌+◌, Bool, true, false, List, [], ◌∷◌, map, Option, Some, None, refl, sym, ap, ◌∙◌, subst}
use Rattle.bus_base.specs.declared.samples.Channel.{Channel}
use Rattle.bus_base.specs.declared.samples.Part.{Part}
use Rattle.bus_base.specs.declared.samples.Part.TheVariants.{Command, First, Second}
use Rattle.bus_formats.specs.Accepted.{HasKindRanges}
use Rattle.bus_formats.specs.Forms.{answers_of}
use Rattle.bus_formats.specs.Plans.{ItemData}
use Rattle.bus_formats.specs.Readings.{read_answer}
use Rattle.bus_formats.specs.declared.fault.Fault.{Fault}
use Rattle.bus_formats.specs.declared.form.Outcome.TheVariants.{Passed, BadReply}
use Rattle.bus_formats.specs.declared.form.Reading.{Reading}
use Rattle.bus_formats.specs.declared.form.Reading.TheVariants.{Ends}
use Rattle.bus_formats.specs.declared.form.Shape.{Shape}
use Rattle.bus_formats.specs.declared.plan.Kind.{Kind}
use Rattle.bus_model.specs.Attempts.{is_offer}
use Rattle.bus_model.specs.Endings.{Ending, passed, doubt_ending, read_ending, first_read, abandoned_at, heard_ending, ending_by, ending_of}
use Rattle.bus_model.specs.Memory.{TimedLoad}
use Rattle.bus_model.specs.Message.{Present, After, Delivered, Message, answer_bursts, ended_message, message_by, message_obeyed, message}
use Rattle.bus_model.specs.Strikes.{hits_on, ShownBurst, burst_end, ShownAnswer, shown_answer}
use Rattle.bus_law_duties.specs.Duties.{AreFree}
use Rattle.bus_law_duties.proofs.Settled.{none-owes-answer}
use Rattle.bus_law_told.specs.Tables.{command_shown, ordered, first_shown, settled, second_shown, answer_blocks, this_message}
use Rattle.bus_law_told.proofs.Refusals.{offer-alone}
use Rattle.bus_law_told.proofs.TablesFree.{free-unanswered}

-- a message ended so, and left these stations, these blocks and these bursts
pub record OfferIs (m : Message) (ending : Ending) (afters : List After) (blocks : List Delivered) (bursts : List ShownBurst) : Type 0 where
  pub ending_is : m.ending ≡ ending
  pub stations : m.stations ≡ map (λ after. after.station) afters
  pub blocks_are : m.deliveries ≡ blocks
  pub bursts_are : m.bursts ≡ bursts

-- ---- how it ends

ends-read : (k : ℕ) (item : ItemData) (end : ℕ) (shape : Shape) (first : ShownAnswer) (reading : Reading) →
    abandoned_at k item.kind item.abandon end first ≡ None → (answers_of item.kind).first ≡ Some shape →
    read_answer item.kind First first.burst.slots first.burst.rest ≡ reading → ending_of k item end (Some first) None ≡ first_read k item.kind first None reading
ends-read k item end shape first reading stays expected is =
    ap (ending_by k item.kind item.abandon end (Some first) None) expected ∙ ap (heard_ending k item.kind first None) stays
    ∙ ap (first_read k item.kind first None) is

-- an offer that was accepted
passed-by : (k : ℕ) (kind : Kind) (first : ShownAnswer) (offer : Bool) (status : Option ℕ) →
    read_ending k kind first offer Passed status ≡ passed Passed status (burst_end first.burst + k) first
passed-by k kind first true status = refl
passed-by k kind first false status = refl

pub ends-passed : (k : ℕ) (item : ItemData) (end : ℕ) (shape : Shape) (first : ShownAnswer) (status : Option ℕ) →
    abandoned_at k item.kind item.abandon end first ≡ None → (answers_of item.kind).first ≡ Some shape →
    read_answer item.kind First first.burst.slots first.burst.rest ≡ Ends Passed status →
    ending_of k item end (Some first) None ≡ passed Passed status (burst_end first.burst + k) first
ends-passed k item end shape first status stays expected is =
    ends-read k item end shape first (Ends Passed status) stays expected is ∙ passed-by k item.kind first (is_offer item.kind) status

-- one that was answered badly
pub ends-badly : (k : ℕ) (item : ItemData) (end : ℕ) (shape : Shape) (first : ShownAnswer) (part : Part) (status : Option ℕ) →
    is_offer item.kind ≡ true → abandoned_at k item.kind item.abandon end first ≡ None → (answers_of item.kind).first ≡ Some shape →
    read_answer item.kind First first.burst.slots first.burst.rest ≡ Ends (BadReply part) status →
    ending_of k item end (Some first) None ≡ doubt_ending k item.kind first first.sent.acceptance
ends-badly k item end shape first part status offers stays expected is =
    ends-read k item end shape first (Ends (BadReply part) status) stays expected is
    ∙ ap (λ offer. read_ending k item.kind first offer (BadReply part) status) offers

-- ---- what it leaves

module _ (k : ℕ) (loads : List TimedLoad) (faults : List Fault) (attempt : ℕ) (item : ItemData) (channel : Channel) (start : ℕ) (stations : List Present)
    (first : ShownAnswer) (shows : first_shown k loads faults attempt item channel start stations ≡ Some first) where
  abbrev command : ShownBurst
  command = command_shown k loads faults attempt item channel start stations

  abbrev settled_by : List After
  settled_by = settled k loads faults attempt item channel start stations first

  abbrev taken_by : List Delivered
  taken_by = answer_blocks k loads faults attempt item channel start stations first

  -- by its first answer
  by-first : (P : Message → Type 0) → P (message_obeyed k loads faults attempt item None command (ordered k loads faults attempt item channel start stations) (Some first)) →
      P (this_message k loads faults attempt item channel start stations)
  unfolding message
  by-first P is = subst (λ o. P (message_obeyed k loads faults attempt item None command (ordered k loads faults attempt item channel start stations) o)) (sym shows) is

  by-ending : (ending : Ending) → ending.runs_on ≡ None →
      OfferIs (ended_message k loads faults attempt item None command taken_by settled_by (Some first) None ending) ending settled_by taken_by
      (command ∷ first.burst ∷ [])
  by-ending ending none = record {
    ending_is = refl;
    stations = refl;
    blocks_are = refl;
    bursts_are = ap (λ o. command ∷ answer_bursts o (Some first) None) none;
  }

  module _ (ranges : HasKindRanges item.kind) (offers : is_offer item.kind ≡ true) where
    -- after its answer nobody owes anything
    pub offer-free : AreFree (settled k loads faults attempt item channel start stations first)
    offer-free =
        none-owes-answer k loads channel start (hits_on faults attempt Command) item first.burst stations ranges (offer-alone item.kind offers)

    none-again : second_shown k loads faults attempt item channel start stations first ≡ None
    none-again = ap (shown_answer (hits_on faults attempt Second)) (free-unanswered first.burst settled_by offer-free)

    pub offer-is : (ending : Ending) → ending_of k item (burst_end (command_shown k loads faults attempt item channel start stations)) (Some first) None ≡ ending →
        ending.runs_on ≡ None →
        OfferIs (this_message k loads faults attempt item channel start stations) ending (settled k loads faults attempt item channel start stations first)
        (answer_blocks k loads faults attempt item channel start stations first)
        (command_shown k loads faults attempt item channel start stations ∷ first.burst ∷ [])
    offer-is ending is none =
        by-first (λ m. OfferIs m ending settled_by taken_by (command ∷ first.burst ∷ []))
        (subst (λ o. OfferIs (message_by k loads faults attempt item None command taken_by settled_by (Some first) o) ending settled_by taken_by
        (command ∷ first.burst ∷ [])) (sym none-again)
        (subst (λ e. OfferIs (ended_message k loads faults attempt item None command taken_by settled_by (Some first) None e) ending settled_by taken_by
        (command ∷ first.burst ∷ [])) (sym is) (by-ending ending none)))
