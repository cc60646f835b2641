-- Messages that start in a tick of their own: of a station that took control, and after one that was abandoned.
use Rattle.std.proofs.Common.{◌≡◌, ℕ, suc, ◌<◌, Bool, true, false, List, ◌∷◌, length, Option, Some, None, refl, sym, ap}
use Rattle.bus_base.specs.Samples.{other_of}
use Rattle.bus_base.specs.declared.samples.Pair.{Pair}
use Rattle.bus_base.specs.declared.samples.Part.{Part}
use Rattle.bus_base.specs.declared.samples.Sample.{Sample}
use Rattle.bus_line.specs.Past.{Burst}
use Rattle.bus_formats.specs.Plans.{ItemData}
use Rattle.bus_formats.specs.declared.form.Outcome.{Outcome}
use Rattle.bus_formats.specs.declared.form.Outcome.TheVariants.{Clear, Sent, Declined, Passed, Illegal, Busy, NoResponse, BadReply, Abandoned, Yielded}
use Rattle.bus_formats.specs.declared.form.Reading.TheVariants.{Ends}
use Rattle.bus_model.specs.Attempts.{Begun, without_words, is_offer}
use Rattle.bus_model.specs.Controller.{first_read, read_ending}
use Rattle.bus_model.specs.Course.{Course, take_control, close}
use Rattle.bus_model.specs.Starts.{Entry}
use Rattle.bus_law_stations.specs.Messages.{BeginsMessage, message_begun}
use Rattle.bus_law_control.specs.Waiting.{StartsLater}

-- nothing starts before the tick that was given
pub taken-waits : (first : ℕ) (c : Course) (past : List Pair) → length past < first → StartsLater (take_control first c) past
taken-waits first c past early entry later left = early

-- in it the first message begins
pub taken-begins : (first : ℕ) (c : Course) (past : List Pair) (entry : Entry) (later : List Entry) → c.runs ≡ None → c.left ≡ entry ∷ later →
    length past ≡ first → BeginsMessage (take_control first c) past entry
taken-begins first c past entry later idle left at = record { holds = refl; idle = idle; later = later; left = left; starts = sym at }

-- after an abandoned message the next begins at once
pub superseding-begins : (c : Course) (begun : Begun) (tick : ℕ) (past : List Pair) (entry : Entry) (later : List Entry) →
    let after : Course = close c begun (without_words Abandoned None None) tick in after.left ≡ entry ∷ later → length past ≡ suc tick →
    BeginsMessage after past entry × ((message_begun after entry (length past)).state ≡ record { channel = other_of begun.state.channel; turn = 1 })
superseding-begins c begun tick past entry later left at =
    (record { holds = refl; idle = refl; later = later; left = left; starts = sym at }, refl)

-- ---- an answer that ends its message

-- whatever is read but a bad reply ends the message, of an offer too
read-any : (k : ℕ) (item : ItemData) (shown : List Pair) (past : List Sample) (burst : Burst) (b : Bool) (outcome : Outcome) (status : Option ℕ) →
    ((part : Part) → outcome ≡ BadReply part → ⊥) → read_ending k item shown past burst b outcome status ≡ Some (without_words outcome status None)
read-any k item shown past burst b (BadReply part) status other = absurd (other part refl)
read-any k item shown past burst true Clear status other = refl
read-any k item shown past burst true Sent status other = refl
read-any k item shown past burst true Declined status other = refl
read-any k item shown past burst true Passed status other = refl
read-any k item shown past burst true (Illegal part) status other = refl
read-any k item shown past burst true (Busy part) status other = refl
read-any k item shown past burst true (NoResponse part) status other = refl
read-any k item shown past burst true Abandoned status other = refl
read-any k item shown past burst true Yielded status other = refl
read-any k item shown past burst false outcome status other = refl

-- as the answer was read
pub reads-well : (k : ℕ) (item : ItemData) (shown : List Pair) (past : List Sample) (burst : Burst) (outcome : Outcome) (status : Option ℕ) →
    ((part : Part) → outcome ≡ BadReply part → ⊥) → first_read k item shown past burst (Ends outcome status) ≡ Some (without_words outcome status None)
reads-well k item shown past burst outcome status other = read-any k item shown past burst (is_offer item.kind) outcome status other

-- and a bad reply ends one that is no offer
pub reads-plain : (k : ℕ) (item : ItemData) (shown : List Pair) (past : List Sample) (burst : Burst) (outcome : Outcome) (status : Option ℕ) →
    is_offer item.kind ≡ false → first_read k item shown past burst (Ends outcome status) ≡ Some (without_words outcome status None)
reads-plain k item shown past burst outcome status plain = ap (λ (b : Bool). read_ending k item shown past burst b outcome status) plain
