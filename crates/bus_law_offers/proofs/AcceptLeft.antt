-- The stations where the end of an answer that accepts control becomes known: the one that offered it, and the one that takes it.
use Rattle.std.proofs.Common.{◌≡◌, inl, inr, ℕ, ◌+◌, ◌≤◌, true, false, List, ◌∷◌, length, Some, None, refl, sym, ap, ◌∙◌, subst}
use Rattle.std.specs.Prelude.{option_map, if◌then◌else◌}
use Rattle.bus_base.specs.declared.samples.Channel.{Channel}
use Rattle.bus_base.specs.declared.samples.Pair.{Pair}
use Rattle.bus_base.specs.declared.samples.Part.{Part}
use Rattle.bus_words.specs.declared.word.Word.{Word}
use Rattle.bus_formats.specs.Plans.{StationData}
use Rattle.bus_model.specs.Control.{taking_from}
use Rattle.bus_model.specs.Course.{Course}
use Rattle.bus_model.specs.Memory.{with_loads}
use Rattle.bus_model.specs.Message.{After, delivered, unmoved, after_answer}
use Rattle.bus_model.specs.Orders.{Duty, free, owes, promises}
use Rattle.bus_model.specs.Standing.{is_promise}
use Rattle.bus_model.specs.Starts.{starts, taking}
use Rattle.bus_model.specs.Strikes.{ShownBurst, burst_end}
use Rattle.bus_law_control.proofs.Holding.{heard-nothing}
use Rattle.bus_law_duties.proofs.Settled.{others-stay}
use Rattle.bus_law_offers.specs.Accepting.{TookControl}
use Rattle.bus_law_offers.specs.Passing.{HolderLeft, IsLeft}
use Rattle.bus_law_offers.proofs.Accepting.{taker-takes, taker-is}
use Rattle.bus_law_offers.proofs.DoubtLasts.{takes-by}
use Rattle.bus_law_phases.specs.Moments.{Owes, HasDuty, IsHolder}
use Rattle.bus_law_phases.specs.Scenarios.{Scenario, course_of, hearing_of, present_of}
use Rattle.bus_law_phases.proofs.AnswerLeft.{took-none}
use Rattle.bus_law_table.specs.Happened.{took_in}
use Rattle.bus_law_table.specs.Stations.{loaded_at}
use Rattle.bus_law_table.proofs.Loads.{loaded-alike}
use Rattle.bus_law_table.proofs.Takes.{unheard-takes, unheard-keeps}

-- who took control is taking it until its tick
pub taking-until : (c : Course) (past : List Pair) (first : ℕ) → c.holds ≡ true → c.opening ≡ taking first → length past ≤ first →
    (if c.holds then taking_from (length past) c.opening else None) ≡ Some first
taking-until c past first holds opens early =
    ap (λ b. if b then taking_from (length past) c.opening else None) holds ∙ takes-by c past first opens early

-- who owes an answer promised nothing
pub owed-no-promise : (w : Scenario) (past : List Pair) (answering : StationData) (c : Channel) (e : ℕ) (part : Part) (words : List Word) →
    Owes w past answering c e part words true → (duty : Duty) → HasDuty w past answering c e part duty → is_promise duty ≡ false
owed-no-promise w past answering c e part words owed free has = refl
owed-no-promise w past answering c e part words owed (owes ws acceptance) has = refl
owed-no-promise w past answering c e part words owed (promises command transmitter) has =
    let both : owes words true ≡ promises command transmitter = sym owed.duty ∙ has.duty in absurd (cc)

module _ (w : Scenario) (past : List Pair) (x : Pair) (rest : List Pair) (place : ℕ) (holder : StationData) (answerer : ℕ) (answering : StationData) (c : Channel)
    (shows : ShownBurst) where
  abbrev later : List Pair
  later = x ∷ rest

  abbrev tick : ℕ
  tick = burst_end shows + w.lag

  abbrev settled : After → After
  settled = after_answer w.lag w.loads shows

  -- a station of the table as it is then, and the block that it took
  abbrev pub IsThen : StationData → After → Type 0
  IsThen station after =
      IsLeft w later place holder answerer answering c (burst_end shows) station (settled after)
      × (took_in w.lag w.plan w.loads w.outside w.absent later tick station ≡ option_map (delivered tick c (settled after)) (settled after).taken)

  module _ (holds : (course_of w holder past).holds ≡ true) (late : length past ≤ length (x ∷ rest)) (later_course : Course)
      (left : HolderLeft w past (x ∷ rest) holder later_course) where
    -- the memory of the one that offered control
    holder-memory : (after : After) → IsHolder w past holder after → (present_of w holder later).memory ≡ (loaded_at w.loads (length later) after.station).memory
    holder-memory after is =
        let a = holder.terminal.address in
        let n = length later in
        let before : with_loads holder.terminal.address (length past) w.loads (hearing_of w holder past).memory
        ≡ with_loads holder.terminal.address (length past) w.loads after.station.memory =
        sym (unheard-keeps w.lag holder (starts w.plan holder) w.loads w.outside past (heard-nothing w.lag holder (starts w.plan holder) w.loads w.outside past holds))
        ∙ is.memory
        ∙ ap (λ (st : StationData). with_loads st.terminal.address (length past) w.loads after.station.memory) is.plan in
        unheard-keeps w.lag holder (starts w.plan holder) w.loads w.outside later left.nothing
        ∙ ap (with_loads a n w.loads) left.memory
        ∙ loaded-alike a (length past) n w.loads (hearing_of w holder past).memory after.station.memory late before
        ∙ ap (λ (st : StationData). with_loads st.terminal.address n w.loads after.station.memory) (sym is.plan)

    pub then-holder : (after : After) → IsHolder w past holder after → IsThen holder after
    then-holder after is =
        let a : settled after ≡ unmoved after.station = others-stay w.lag w.loads shows after (ap is_promise is.duty) in (
          subst (IsLeft w later place holder answerer answering c (burst_end shows) holder) (sym a)
              (inl (refl, record { plan = is.plan; memory = holder-memory after is; serves = is.serves; duty = refl })),
          took-none w later tick holder (unheard-takes w.lag holder (starts w.plan holder) w.loads w.outside x rest left.nothing)
              ∙ sym (ap (λ (b : After). option_map (delivered tick c b) b.taken) a),
        )

  module _ (late : length past ≤ length (x ∷ rest)) (took : TookControl w past (x ∷ rest) answering (burst_end shows)) where
    pub then-taker : (after : After) → is_promise after.duty ≡ false → present_of w answering past ≡ loaded_at w.loads (length past) after.station →
        IsThen answering after
    then-taker after none is =
        let a : settled after ≡ unmoved after.station = others-stay w.lag w.loads shows after none in (
          subst (IsLeft w later place holder answerer answering c (burst_end shows) answering) (sym a)
              (inr (inl (refl, taker-is w past x rest answering (burst_end shows) took after.station late is))),
          took-none w later tick answering (taker-takes w past x rest answering (burst_end shows) took)
              ∙ sym (ap (λ (b : After). option_map (delivered tick c b) b.taken) a),
        )
