-- An answer begins: one station sends it, and all others but the one in control are free, where nobody promised to take it.
use Rattle.std.proofs.Common.{◌≡◌, ◌≢◌, inl, inr, ℕ, false, List, length, Some, refl, sym, ap, ◌∙◌, subst}
use Rattle.std.proofs.lemmas.Bool.{true≢false}
use Rattle.bus_base.specs.declared.samples.Channel.{Channel}
use Rattle.bus_base.specs.declared.samples.Pair.{Pair}
use Rattle.bus_base.specs.declared.samples.Part.TheVariants.{First}
use Rattle.bus_words.specs.declared.word.Word.{Word}
use Rattle.bus_formats.specs.Accepted.{IsAccepted}
use Rattle.bus_formats.specs.Plans.{StationData}
use Rattle.bus_model.specs.Message.{Present, After, answer_to}
use Rattle.bus_model.specs.Orders.{Duty, free, owes, promises, due_after}
use Rattle.bus_model.specs.Standing.{is_owed, is_promise}
use Rattle.bus_model.specs.Starts.{starts}
use Rattle.bus_model.specs.Strikes.{hits_on, ShownBurst, burst_end, ShownAnswer}
use Rattle.bus_model.specs.World.{is_present}
use Rattle.bus_model.specs.WorldLog.{present_stations}
use Rattle.bus_law_messages.specs.Settled.{IsServing}
use Rattle.bus_law_table.proofs.Pairing.{Each}
use Rattle.bus_law_phases.specs.Answers.{AnswerBegins}
use Rattle.bus_law_phases.specs.Moments.{HasDuty, Owes, IsServer, IsAfter}
use Rattle.bus_law_phases.specs.Scenarios.{Scenario, trace_at, shown_at, driven_at, commands_in, course_of, IsPresentAt, NoneTakesFrom, StaysFrom}
use Rattle.bus_law_phases.proofs.AnswerBegun.{shown-by, Owed, owed-of, answer-beside, OwesIt, all-owe-it}
use Rattle.bus_law_phases.proofs.AnswerServers.{owes-none}
use Rattle.bus_law_phases.proofs.AnswerSpeaking.{replies-from}
use Rattle.bus_law_phases.proofs.Pairs.{each-of, beside-at}
use Rattle.bus_law_abandoned.proofs.Others.{Speaks}
use Rattle.bus_law_abandoned.proofs.Table.{NonePromises}
use Rattle.bus_law_phases.proofs.Staying.{long-at}

-- who owes and promises nothing is free
free-duty : (duty : Duty) → is_owed duty ≡ false → is_promise duty ≡ false → duty ≡ free
free-duty free owed promised = refl
free-duty (owes words acceptance) owed promised = absurd (true≢false owed)
free-duty (promises command transmitter) owed promised = absurd (true≢false promised)

-- the station with this address begins to send these words
pub record HasSpeaker (w : Scenario) (past : List Pair) (place : ℕ) (c : Channel) (words : List Word) (address : ℕ) : Type 0 where
  pub answerer : ℕ
  pub answering : StationData
  pub address_is : answering.terminal.address ≡ address
  pub speaks : Speaks w past place c First words answerer answering

module _ (w : Scenario) (u place : ℕ) (holder : StationData) (burst : ShownBurst) (afters : List After) (first : ShownAnswer) (accepted : IsAccepted w.plan)
    (begins : AnswerBegins w u place holder First burst afters first) (none : NonePromises afters) (stays : StaysFrom w u) where
  abbrev past : List Pair
  past = shown_at w u

  abbrev c : Channel
  c = burst.channel

  abbrev e : ℕ
  e = burst_end burst

  abbrev Now : StationData → After → Type 0
  Now = IsAfter w past place holder c e First

  long : length (shown_at w u) ≡ u
  long = long-at w u stays

  found : answer_to burst afters ≡ Some first.sent
  found = (shown-by (hits_on w.plan.faults (commands_in w (driven_at w u)) First) (answer_to burst afters) first begins.shown).sent

  -- who owes something owes this answer, and nobody promised
  abbrev OwesOnlyIt : After → Type 0
  OwesOnlyIt after = (is_promise after.duty ≡ false) × OwesIt first.sent after

  all-owe-only : Each OwesOnlyIt afters
  all-owe-only =
      each-of OwesOnlyIt afters (λ i d inside. (none i d inside, all-owe-it burst afters first.sent begins.moment.one found i d inside))

  module _ (after : After) (owed : Owed burst after first.sent) (other : ℕ) (station : StationData) (apart : other ≢ place)
      (at : IsPresentAt w other station) (server : IsServer w past c e First station after) where
    owes-it : Owes w past station c e First first.sent.words false
    owes-it =
        subst (λ b. Owes w past station c e First first.sent.words b) begins.declines
        (subst (HasDuty w past station c e First) owed.duty server.duty)

    is-due : due_after station.terminal e ≡ length past
    is-due = ap (λ (p : Present). due_after p.plan.terminal e) server.is ∙ sym owed.start ∙ begins.due ∙ sym long

    own-address : station.terminal.address ≡ first.sent.address
    own-address = ap (λ (p : Present). p.plan.terminal.address) server.is ∙ sym owed.address

    is-free : (aside : ℕ) (st : StationData) → IsPresentAt w aside st → aside ≢ place → aside ≢ other →
        IsServing w.lag st (starts w.plan st) w.loads w.outside past
    is-free aside st there away others =
        let pair = beside-at Now OwesOnlyIt (is_present w.absent) w.plan.stations afters aside st begins.moment.stations all-owe-only there.there
        there.present in
        elim pair.1 [
          | inl own ↦ absurd (true≢false (sym begins.moment.holds ∙ sym (ap (λ x. (course_of w x past).holds) own.0)
              ∙ (begins.moment.serves aside st there away).serves))
          | inr serving ↦ subst (HasDuty w past st c e First)
              (free-duty pair.0.duty
              (owes-none w (trace_at w u) place holder c e First burst afters first.sent accepted begins.moment found other station at own-address aside st pair.0
              there others serving.3 pair.2.1) pair.2.0) serving.3.duty
        ]

    speaker-at : HasSpeaker w past place c first.sent.words first.sent.address
    speaker-at = record {
      answerer = other;
      answering = station;
      address_is = own-address;
      speaks = record {
        at = at;
        apart = apart;
        replies = replies-from w past station c e First first.sent.words owes-it is-due;
        frees = is-free;
        stays = subst (NoneTakesFrom w) (sym long) stays.takes;
      };
    }

  pub speaker : HasSpeaker w (shown_at w u) place burst.channel first.sent.words first.sent.address
  speaker =
      let pair = answer-beside Now burst (present_stations w.lag w.plan w.loads w.outside w.absent) afters first.sent begins.moment.stations found in
      let owed = owed-of burst pair.1 first.sent pair.3 in
      elim pair.2 [
        | inl own ↦ absurd (true≢false (sym (ap is_owed owed.duty) ∙ ap is_owed own.1.duty))
        | inr server ↦ speaker-at pair.1 owed server.0 pair.0 server.1 server.2 server.3
      ]
