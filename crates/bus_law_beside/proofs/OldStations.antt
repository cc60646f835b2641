-- The stations as an answer began that was abandoned: which one sends it, and that every other one passes over it.
use Rattle.std.proofs.Common.{◌≡◌, ◌≢◌, inl, inr, ℕ, ◌+◌, ◌-◌, ◌≤◌, false, List, ◌++◌, length, None, refl, sym, ap, ◌∙◌, subst, arith, All}
use Rattle.std.proofs.lemmas.Bool.{cases_eq, true≢false}
use Rattle.std.proofs.lemmas.Option.{same_Some}
use Rattle.std.specs.Prelude.{slice_get, take}
use Rattle.bus_base.specs.declared.samples.Pair.{Pair}
use Rattle.bus_base.specs.declared.samples.Part.TheVariants.{First}
use Rattle.bus_formats.specs.Accepted.{HasStationRanges}
use Rattle.bus_formats.specs.Plans.{StationData}
use Rattle.bus_model.specs.Message.{Present, After, answer_to}
use Rattle.bus_model.specs.Orders.{Duty, free, owes, promises, last_order, due_after}
use Rattle.bus_model.specs.Standing.{is_owed, is_promise}
use Rattle.bus_model.specs.Starts.{Entry, starts}
use Rattle.bus_model.specs.Strikes.{hits_on, struck, ShownBurst, burst_end, ShownAnswer}
use Rattle.bus_model.specs.World.{is_present}
use Rattle.bus_model.specs.WorldLog.{present_stations}
use Rattle.bus_law_duties.specs.Words.{with_data}
use Rattle.bus_law_duties.proofs.Found.{left-unaddressed}
use Rattle.bus_law_duties.proofs.Struck.{struck-left, take-left}
use Rattle.bus_law_parts.specs.Parts.{HitsFit, part_ticks}
use Rattle.bus_law_messages.specs.Settled.{IsServing}
use Rattle.bus_law_messages.specs.Promises.{IsReplying}
use Rattle.bus_law_phases.specs.Moments.{HasDuty, Owes, IsServer, IsAfter}
use Rattle.bus_law_phases.specs.Scenarios.{Scenario, trace_at, shown_at, driven_at, commands_in, course_of, IsPresentAt, StaysFrom}
use Rattle.bus_law_phases.proofs.AnswerBegun.{IsShownBy, shown-by, answer-fits, Owed, owed-of, answer-beside, OwesIt, all-owe-it, addresses-apart}
use Rattle.bus_law_phases.proofs.AnswerServers.{owes-none, other-address}
use Rattle.bus_law_phases.proofs.AnswerSpeaking.{replies-from}
use Rattle.bus_law_phases.proofs.Pairs.{each-of, beside-at}
use Rattle.bus_law_phases.proofs.Spares.{all-at}
use Rattle.bus_law_beside.specs.Beside.{BeginsBeside}
use Rattle.bus_law_phases.proofs.Staying.{long-at, ticks-later, stays-later}

module _ (w : Scenario) (t place : ℕ) (holder : StationData) (stations : List Present) (entry : Entry) (old : ShownAnswer)
    (p : BeginsBeside w t place holder stations entry old) where
  abbrev a : ℕ
  a = old.sent.start

  abbrev pub before : List Pair
  before = shown_at w old.sent.start

  abbrev burst : ShownBurst
  burst = p.beside.burst

  abbrev afters : List After
  afters = p.beside.afters

  abbrev At : StationData → After → Type 0
  At = IsAfter w before place holder burst.channel (burst_end burst) First

  -- ---- the answer

  is : IsShownBy (hits_on w.plan.faults (commands_in w (driven_at w old.sent.start)) First) (answer_to burst afters) old
  is = shown-by (hits_on w.plan.faults (commands_in w (driven_at w old.sent.start)) First) (answer_to burst afters) old p.beside.begins.shown

  pub fits : HitsFit First old.hits old.sent.words
  fits =
      subst (λ hits. HitsFit First hits old.sent.words) is.hits_are
      (answer-fits w.plan (commands_in w (driven_at w old.sent.start)) First old.sent p.accepted p.beside.begins.words)

  pub slots-are : old.burst.slots ≡ struck old.hits old.sent.words
  slots-are = ap (λ (b : ShownBurst). b.slots) is.burst

  pub ends-at : burst_end old.burst ≡ old.sent.start + part_ticks old.hits old.sent.words
  ends-at = ap burst_end is.burst ∙ omega arith

  pub channel-is : old.burst.channel ≡ old.sent.channel
  channel-is = ap (λ (b : ShownBurst). b.channel) is.burst

  pub start-is : old.burst.start ≡ old.sent.start
  start-is = ap (λ (b : ShownBurst). b.start) is.burst

  pub stays-now : StaysFrom w t
  stays-now = stays-later w old.sent.start t (let some = p.beside.some in omega (arith, some)) p.beside.stays

  pub long-before : length before ≡ old.sent.start
  long-before = long-at w old.sent.start p.beside.stays

  -- so many ticks of it came before the command
  pub n : ℕ
  n = t - old.sent.start

  -- the world as the command begins
  pub then-is : trace_at w t ≡ record { shown = p.beside.ticks ++ before; driven = p.beside.sent ++ driven_at w old.sent.start }
  then-is =
      let some = p.beside.some in
      let at : old.sent.start + (t - old.sent.start) ≡ t = omega (arith, some) in
      ap (trace_at w) (sym at) ∙ sym (ticks-later w old.sent.start (t - old.sent.start) p.beside.stays) ∙ p.beside.runs.world

  -- ---- who sends it

  pub record TellsIt : Type 0 where
    pub channel : old.sent.channel ≡ burst.channel
    pub apart : p.beside.teller ≢ place
    pub owes : Owes w before p.beside.telling burst.channel (burst_end burst) First old.sent.words false
    pub due : due_after p.beside.telling.terminal (burst_end burst) ≡ length before

  module _ (station : StationData) (after : After) (owed : Owed burst after old.sent) (other : ℕ) (away : other ≢ place) (at : IsPresentAt w other station)
      (server : IsServer w before burst.channel (burst_end burst) First station after) where
    own-address : station.terminal.address ≡ old.sent.address
    own-address = ap (λ (q : Present). q.plan.terminal.address) server.is ∙ sym owed.address

    same-place : other ≡ p.beside.teller
    same-place = elim (cases_eq other p.beside.teller) [
      | inl same ↦ same
      | inr aside ↦ absurd (addresses-apart w.plan other p.beside.teller station p.beside.telling p.accepted at.there p.beside.teller_at.there aside
          (own-address ∙ sym p.beside.teller_is))
    ]

    same-station : station ≡ p.beside.telling
    same-station =
        same_Some station p.beside.telling (sym at.there ∙ ap (slice_get w.plan.stations) same-place ∙ p.beside.teller_at.there)

    tells-so : TellsIt
    tells-so = record {
      channel = owed.channel;
      apart = λ e. away (same-place ∙ e);
      owes = subst (λ st. Owes w before st burst.channel (burst_end burst) First old.sent.words false) same-station
          (subst (λ b. Owes w before station burst.channel (burst_end burst) First old.sent.words b) p.beside.begins.declines
          (subst (HasDuty w before station burst.channel (burst_end burst) First) owed.duty server.duty));
      due = ap (λ (st : StationData). due_after st.terminal (burst_end burst)) (sym same-station)
          ∙ ap (λ (q : Present). due_after q.plan.terminal (burst_end burst)) server.is ∙ sym owed.start ∙ sym long-before;
    }

  pub tells : TellsIt
  tells =
      let pair = answer-beside At burst (present_stations w.lag w.plan w.loads w.outside w.absent) afters old.sent p.beside.begins.moment.stations is.sent in
      let owed = owed-of burst pair.1 old.sent pair.3 in
      elim pair.2 [
        | inl own ↦ absurd (true≢false (sym (ap is_owed owed.duty) ∙ ap is_owed own.1.duty))
        | inr server ↦ tells-so pair.0 pair.1 owed server.0 server.1 server.2 server.3
      ]

  pub replies : IsReplying w.lag p.beside.telling (starts w.plan p.beside.telling) w.loads w.outside before old.sent.channel First old.sent.words
  replies =
      subst (λ c. IsReplying w.lag p.beside.telling (starts w.plan p.beside.telling) w.loads w.outside before c First old.sent.words) (sym tells.channel)
      (replies-from w before p.beside.telling burst.channel (burst_end burst) First old.sent.words tells.owes tells.due)

  -- ---- the others

  pub prompt : (other : ℕ) (station : StationData) → IsPresentAt w other station → 8 ≤ station.terminal.delay
  prompt other station at = (all-at HasStationRanges w.plan.stations other station p.accepted.ranges at.there).terminal.delay.0

  abbrev Rests : After → Type 0
  Rests after = OwesIt old.sent after × (is_promise after.duty ≡ false)

  all-rest : All Rests afters
  all-rest =
      let owe = all-owe-it burst afters old.sent p.beside.begins.moment.one is.sent in
      let none = p.beside.unpromised in λ i d inside. (owe i d inside, none i d inside)

  free-by : (station : StationData) (after : After) (duty : Duty) → duty ≡ after.duty → is_owed after.duty ≡ false → is_promise after.duty ≡ false →
      HasDuty w before station burst.channel (burst_end burst) First after.duty → IsServing w.lag station (starts w.plan station) w.loads w.outside before
  free-by station after free is unowed unpromised has = subst (HasDuty w before station burst.channel (burst_end burst) First) (sym is) has
  free-by station after (owes words acceptance) is unowed unpromised has = absurd (true≢false (ap is_owed is ∙ unowed))
  free-by station after (promises command transmitter) is unowed unpromised has = absurd (true≢false (ap is_promise is ∙ unpromised))

  pub others-serve : (other : ℕ) (station : StationData) → IsPresentAt w other station → other ≢ place → other ≢ p.beside.teller →
      IsServing w.lag station (starts w.plan station) w.loads w.outside before
  others-serve other station at away aside =
      let pair = beside-at At Rests (is_present w.absent) w.plan.stations afters other station p.beside.begins.moment.stations
      (each-of Rests afters all-rest) at.there at.present in
      elim pair.1 [
        | inl own ↦ absurd (true≢false (sym p.beside.begins.moment.holds ∙ sym (ap (λ st. (course_of w st before).holds) own.0)
            ∙ (p.beside.begins.moment.serves other station at away).serves))
        | inr server ↦ free-by station pair.0 pair.0.duty refl
            (owes-none w (trace_at w old.sent.start) place holder burst.channel (burst_end burst) First burst afters old.sent p.accepted
            p.beside.begins.moment is.sent p.beside.teller p.beside.telling p.beside.teller_at p.beside.teller_is other station pair.0 at aside server.3
            pair.2.0) pair.2.1 server.3.duty
      ]

  -- no slot of it is a command for them
  pub other-named : (other : ℕ) (station : StationData) → IsPresentAt w other station → other ≢ p.beside.teller →
      station.terminal.address ≢ old.sent.address
  other-named =
      other-address w (trace_at w old.sent.start) place holder burst.channel (burst_end burst) First burst afters old.sent p.accepted
      p.beside.begins.moment is.sent p.beside.teller p.beside.telling p.beside.teller_at p.beside.teller_is

  pub not-for-others : (own m : ℕ) → own ≢ old.sent.address → last_order own (take m old.burst.slots) ≡ None
  not-for-others own m other =
      let spells = p.beside.begins.words in
      ap (λ slots. last_order own (take m slots)) slots-are
      ∙ ap (λ ws. last_order own (take m (struck old.hits ws))) spells.words_are
      ∙ left-unaddressed spells.status own spells.data_words (take m (struck old.hits (with_data spells.status spells.data_words)))
      (λ same. other (sym same ∙ spells.address)) (λ same. spells.terminal (sym spells.address ∙ same))
      (take-left m (with_data spells.status spells.data_words) (struck old.hits (with_data spells.status spells.data_words))
      (struck-left old.hits (with_data spells.status spells.data_words)))
