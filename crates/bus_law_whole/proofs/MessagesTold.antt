-- The messages of a bus are told, from the laws of each sort of them.
use Rattle.std.proofs.Common.{◌≡◌, ◌⊎◌, inl, inr, ℕ, ◌+◌, ◌≤◌, Bool, List, [], ◌∷◌, refl, ap, subst}
use Rattle.std.specs.Prelude.{◌&&◌, ◌||◌, ◌==◌, nat_lt, if◌then◌else◌}
use Rattle.bus_base.specs.Samples.{same_channel}
use Rattle.bus_base.specs.declared.samples.Channel.{Channel}
use Rattle.bus_base.specs.declared.samples.Channel.TheVariants.{A, B}
use Rattle.bus_model.specs.Log.{is_on_a}
use Rattle.bus_formats.specs.Accepted.{HasSuperseding, Supersedes}
use Rattle.bus_formats.specs.Plans.{StationData}
use Rattle.bus_formats.specs.Times.{taking_over}
use Rattle.bus_formats.specs.declared.log.Attempt.{Attempt}
use Rattle.bus_model.specs.Attempts.{Begun}
use Rattle.bus_model.specs.Message.{Present}
use Rattle.bus_model.specs.Starts.{Entry}
use Rattle.bus_model.specs.Strikes.{ShownBurst, burst_end, ShownAnswer, beside_command}
use Rattle.bus_law_plans.specs.Entries.{items_of}
use Rattle.bus_law_phases.specs.Commands.{command_at}
use Rattle.bus_law_phases.specs.Scenarios.{Scenario, trace_at, StaysFrom}
use Rattle.bus_law_moments.specs.Begun.{MessageBegan}
use Rattle.bus_law_moments.specs.Doubts.{RestedInDoubt, attempt_yielded}
use Rattle.bus_law_moments.specs.OldAnswers.{BesideOldAnswer}
use Rattle.bus_law_moments.specs.Told.{IsTold, MessageTold}
use Rattle.bus_law_abandoned.proofs.Abandoned.{answer-abandoned}
use Rattle.bus_law_abandoned.proofs.Either.{abandoned-or-not}
use Rattle.bus_law_beside.proofs.BesideEither.{began-or-told}
use Rattle.bus_law_beside.specs.Beside.{by_ends, BeginsBeside}
use Rattle.bus_law_offers.proofs.DoubtCommand.{began-in-doubt}
use Rattle.bus_law_offers.proofs.DoubtLasts.{doubt-lasts}
use Rattle.bus_law_offers.proofs.OfferTold.{message-told}
use Rattle.bus_law_run.specs.WholeRun.{IsAcceptedBus}
use Rattle.bus_law_whole.specs.Messages.{shown_in_order, found_beside, StartsMessage, DoubtLasts, MessagesAreTold}

-- ---- a message that began

module _ (w : Scenario) (t place : ℕ) (holder : StationData) (stations : List Present) (entry : Entry) (ended : List Attempt) (found : List ShownBurst)
    (began : MessageBegan w t holder entry place stations ended found) where
  began-told : (later : List Entry) → HasSuperseding (items_of (entry ∷ later)) → IsTold w t holder stations entry place ended found
  began-told later followed = elim (abandoned-or-not w t holder stations entry) [
    | inl kept ↦ elim (message-told w t place holder stations entry ended found began kept) [
      | inl told ↦ inl told
      | inr gives ↦ elim gives [ inl passed ↦ inr (inl passed) | inr yielded ↦ inr (inr (inl yielded)) ]
    ]
    | inr gone ↦ inr (inr (inr (answer-abandoned w t place holder stations entry ended found (items_of later) gone.0 gone.1 began followed gone.2)))
  ]

-- ---- both bursts in the order of their ends

on-a : (c : Channel) → same_channel c A ≡ is_on_a c
on-a A = refl
on-a B = refl

found-same : (old command : ShownBurst) → by_ends old command ≡ shown_in_order (old ∷ command ∷ [])
found-same old command =
    ap (λ (a : Bool). if nat_lt (burst_end old) (burst_end command) || ((burst_end old == burst_end command) && a) then old ∷ command ∷ []
    else command ∷ old ∷ []) (on-a old.channel)

-- ---- all of them

module _ (w : Scenario) (is : IsAcceptedBus w) where
  lasts : (t n place : ℕ) (holder : StationData) (stations : List Present) (begun : Begun) (x : ℕ)
      (moment : RestedInDoubt w (trace_at w t) place holder stations begun x) → StaysFrom w t → t + n ≤ x + taking_over →
      DoubtLasts w t n place holder stations begun x moment.offerer
  lasts t n place holder stations begun x moment stays soon =
      let still = doubt-lasts w t n place holder stations begun x moment soon stays in record {
        quiet = still.0;
        moment = still.1.0;
        offerer_is = still.1.1;
        course = still.2;
        passage = still.4;
      }

  in-doubt : (t place : ℕ) (holder : StationData) (stations : List Present) (entry : Entry) (begun : Begun) (x : ℕ)
      (moment : RestedInDoubt w (trace_at w t) place holder stations begun x) → StartsMessage w t holder stations entry →
      MessageBegan w t holder entry place stations (attempt_yielded moment.offerer begun x ∷ []) (command_at w t t holder entry ∷ [])
  in-doubt t place holder stations entry begun x moment starts =
      began-in-doubt w t place holder stations begun x entry is.lag is.accepted is.blocks starts.entry_of moment starts.starts starts.stays starts.apart starts.ranged

  -- ---- beside an abandoned answer

  module _ (t place : ℕ) (holder : StationData) (stations : List Present) (entry : Entry) (old : ShownAnswer)
      (beside : BesideOldAnswer w t place holder stations old) (starts : StartsMessage w t holder stations entry)
      (supersedes : Supersedes old.sent.address entry.item.kind) where
    abbrev command : ShownBurst
    command = command_at w t t holder entry

    begins : BeginsBeside w t place holder stations entry old
    begins = record {
      lag = is.lag;
      accepted = is.accepted;
      blocks = is.blocks;
      entry_of = starts.entry_of;
      beside = beside;
      begins = starts.starts;
      apart = starts.apart;
      ranged = starts.ranged;
      supersedes = supersedes;
    }

    -- the bursts that are found with its command, in the order of their ends
    abbrev Began : List ShownBurst → Type 0
    Began found = MessageBegan w t holder entry place stations [] found ⊎ MessageTold w t holder stations entry place [] found

    begins-so : Began (found_beside w t holder entry old)
    begins-so = subst Began (found-same (beside_command command old) command) (began-or-told w t place holder stations entry old begins)

  pub messages-told : MessagesAreTold w
  messages-told = record {
    told = λ t place holder stations entry later ended found followed began. began-told w t place holder stations entry ended found began later followed;
    doubt_lasts = lasts;
    begins_in_doubt = in-doubt;
    begins_beside = begins-so;
  }
