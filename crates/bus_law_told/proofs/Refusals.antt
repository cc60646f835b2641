-- An offer of control that is refused: control stays, and no second answer is expected.
use Rattle.std.proofs.Common.{◌≡◌, ℕ, suc, ◌≤◌, Bool, true, false, List, Option, Some, None, refl, sym, arith}
use Rattle.std.proofs.lemmas.Bool.{true≢false}
use Rattle.bus_base.specs.declared.samples.Channel.{Channel}
use Rattle.bus_base.specs.declared.samples.Pair.{Pair}
use Rattle.bus_base.specs.declared.samples.Sample.{Sample}
use Rattle.bus_line.specs.Past.{Burst}
use Rattle.bus_formats.specs.Forms.{answers_of}
use Rattle.bus_formats.specs.Plans.{ItemData}
use Rattle.bus_formats.specs.declared.form.Outcome.{Outcome}
use Rattle.bus_formats.specs.declared.form.Outcome.TheVariants.{Clear, Sent, Declined, Passed, Illegal, Busy, NoResponse, BadReply, Abandoned, Yielded}
use Rattle.bus_formats.specs.declared.plan.Kind.{Kind}
use Rattle.bus_formats.specs.declared.plan.Kind.TheVariants.{Receive, Transmit, Relay, Mode}
use Rattle.bus_model.specs.Attempts.{without_words, is_offer}
use Rattle.bus_model.specs.Controller.{read_ending}
use Rattle.bus_model.specs.Course.{gives}
use Rattle.bus_model.specs.Starts.{usual, needed_quiet, opening_after}
use Rattle.bus_law_told.specs.Tables.{IsRefusal}

-- an outcome with which control stays, after which the next message needs as many quiet ticks as always, or more
pub record EndsAsUsual (outcome : Outcome) : Type 0 where
  pub keeps : gives outcome ≡ false
  pub opens : (c : Channel) (tick : ℕ) → opening_after outcome c tick ≡ usual (needed_quiet outcome) (suc tick)
  pub needs : 4 ≤ needed_quiet outcome

pub refusal-ends : (outcome : Outcome) → IsRefusal outcome → EndsAsUsual outcome
refusal-ends (Illegal part) is = record { keeps = refl; opens = λ c tick. refl; needs = omega arith }
refusal-ends Declined is = record { keeps = refl; opens = λ c tick. refl; needs = omega arith }
refusal-ends Clear is = absurd is
refusal-ends Sent is = absurd is
refusal-ends Passed is = absurd is
refusal-ends (Busy part) is = absurd is
refusal-ends (NoResponse part) is = absurd is
refusal-ends (BadReply part) is = absurd is
refusal-ends Abandoned is = absurd is
refusal-ends Yielded is = absurd is

-- it ends the message at once
pub reads-refused : (k : ℕ) (item : ItemData) (shown : List Pair) (past : List Sample) (burst : Burst) (offers : Bool) (outcome : Outcome)
    (status : Option ℕ) → IsRefusal outcome → read_ending k item shown past burst offers outcome status ≡ Some (without_words outcome status None)
reads-refused k item shown past burst true (Illegal part) status is = refl
reads-refused k item shown past burst false (Illegal part) status is = refl
reads-refused k item shown past burst true Declined status is = refl
reads-refused k item shown past burst false Declined status is = refl
reads-refused k item shown past burst offers Clear status is = absurd is
reads-refused k item shown past burst offers Sent status is = absurd is
reads-refused k item shown past burst offers Passed status is = absurd is
reads-refused k item shown past burst offers (Busy part) status is = absurd is
reads-refused k item shown past burst offers (NoResponse part) status is = absurd is
reads-refused k item shown past burst offers (BadReply part) status is = absurd is
reads-refused k item shown past burst offers Abandoned status is = absurd is
reads-refused k item shown past burst offers Yielded status is = absurd is

-- an offer is a mode command, to which one answer is expected
pub offer-alone : (kind : Kind) → is_offer kind ≡ true → (answers_of kind).second ≡ None
offer-alone (Receive to sub words) is = absurd (true≢false (sym is))
offer-alone (Transmit from sub count) is = absurd (true≢false (sym is))
offer-alone (Relay from from_sub to to_sub count) is = absurd (true≢false (sym is))
offer-alone (Mode to mode_sub transmit code word) is = refl
