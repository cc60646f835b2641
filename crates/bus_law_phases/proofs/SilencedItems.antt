-- The items left and the live channel of the station in control, in its entry of the table: a message changes them only as it is closed.
use Rattle.std.proofs.Common.{◌≡◌, ℕ, Bool, true, false, List, [], ◌∷◌, length, map, Option, Some, None, refl, sym, ap, ◌∙◌}
use Rattle.std.proofs.lemmas.List.Elements.{All-nil, All-cons, All-head, All-tail}
use Rattle.std.specs.List.{All}
use Rattle.std.specs.Prelude.{if◌then◌else◌}
use Rattle.bus_formats.specs.Plans.{StationData}
use Rattle.bus_model.specs.Course.{Course}
use Rattle.bus_model.specs.Memory.{TimedLoad}
use Rattle.bus_model.specs.Message.{Present, After, address_of_station, unmoved, after_command_of, after_command, after_answer_of, after_answer, after_silence_of, after_silence}
use Rattle.bus_model.specs.Orders.{Duty, free, owes, promises, Order, last_order}
use Rattle.bus_model.specs.Strikes.{ShownBurst}
use Rattle.bus_model.specs.World.{Trace}
use Rattle.bus_model.specs.WorldLog.{present_stations}
use Rattle.bus_law_table.specs.Stations.{loaded_at}
use Rattle.bus_law_table.proofs.Pairing.{Each, beside, each-other}
use Rattle.bus_law_phases.specs.Scenarios.{Scenario, course_of, present_of}
use Rattle.bus_law_phases.specs.Rests.{Rested}
use Rattle.bus_law_phases.specs.Closings.{HasItemsOf}
use Rattle.bus_law_phases.proofs.Resting.{each-present}

-- an entry that is the same station's, with the same items and live channel
record IsAlike (a b : Present) : Type 0 where
  pub plan : b.plan ≡ a.plan
  pub left : b.left ≡ a.left
  pub live : b.live ≡ a.live

alike : (p : Present) → IsAlike p p
alike p = record { plan = refl; left = refl; live = refl }

all-items : (P Q : After → Type 0) (f : After → After) (afters : List After) → ((after : After) → P after → Q (f after)) → All P afters → All Q (map f afters)
all-items P Q f [] make all = All-nil Q
all-items P Q f (a ∷ afters) make all =
    All-cons Q (f a) (map f afters) (make a (All-head P a afters all)) (all-items P Q f afters make (All-tail P a afters all))

module _ (holder : StationData) (c : Course) where
  items-alike : (a b : After) → IsAlike a.station b.station → HasItemsOf holder c a → HasItemsOf holder c b
  items-alike a b same has own = let h = has (sym same.plan ∙ own) in (same.left ∙ h.0, same.live ∙ h.1)

  module _ (k : ℕ) (loads : List TimedLoad) (burst : ShownBurst) where
    command-by : (station : Present) (o : Option Order) → IsAlike station (after_command_of k loads burst station o).station
    command-by station None = alike station
    command-by station (Some order) = record { plan = refl; left = refl; live = refl }

    either-by : (b : Bool) (station : Present) (o : Option Order) →
        IsAlike station (if b then after_command_of k loads burst station o else unmoved station).station
    either-by true station o = command-by station o
    either-by false station o = alike station

    answer-by : (station : Present) (duty : Duty) → IsAlike station (after_answer_of k loads burst station duty).station
    answer-by station free = alike station
    answer-by station (owes words acceptance) = alike station
    answer-by station (promises command transmitter) = record { plan = refl; left = refl; live = refl }

    silence-by : (station : Present) (duty : Duty) → IsAlike station (after_silence_of k loads burst station duty).station
    silence-by station free = alike station
    silence-by station (owes words acceptance) = alike station
    silence-by station (promises command transmitter) = record { plan = refl; left = refl; live = refl }

    command-station : (stations : List Present) → All (HasItemsOf holder c) (map unmoved stations) →
        All (HasItemsOf holder c) (map (after_command k loads burst) stations)
    command-station [] all = All-nil (HasItemsOf holder c)
    command-station (y ∷ ys) all =
        All-cons (HasItemsOf holder c) (after_command k loads burst y) (map (after_command k loads burst) ys)
        (items-alike (unmoved y) (after_command k loads burst y) (either-by y.serves y (last_order (address_of_station y) burst.slots))
        (All-head (HasItemsOf holder c) (unmoved y) (map unmoved ys) all)) (command-station ys (All-tail (HasItemsOf holder c) (unmoved y) (map unmoved ys) all))

    -- neither a command, nor an answer, nor silence changes them
    pub items-command : (stations : List Present) → All (HasItemsOf holder c) (map unmoved stations) →
        All (HasItemsOf holder c) (map (after_command k loads burst) stations)
    items-command stations all = command-station stations all

    pub items-answer : (afters : List After) → All (HasItemsOf holder c) afters → All (HasItemsOf holder c) (map (after_answer k loads burst) afters)
    items-answer afters all =
        all-items (HasItemsOf holder c) (HasItemsOf holder c) (after_answer k loads burst) afters
        (λ after. items-alike after (after_answer k loads burst after) (answer-by after.station after.duty)) all

    pub items-silence : (afters : List After) → All (HasItemsOf holder c) afters → All (HasItemsOf holder c) (map (after_silence k loads burst) afters)
    items-silence afters all =
        all-items (HasItemsOf holder c) (HasItemsOf holder c) (after_silence k loads burst) afters
        (λ after. items-alike after (after_silence k loads burst after) (silence-by after.station after.duty)) all

-- between two messages they are those of its course
unmoved-all : (P : After → Type 0) (ys : List Present) → Each (λ y. P (unmoved y)) ys → All P (map unmoved ys)
unmoved-all P [] each = All-nil P
unmoved-all P (y ∷ ys) each = All-cons P (unmoved y) (map unmoved ys) each.0 (unmoved-all P ys each.1)

pub items-first : (w : Scenario) (now : Trace) (place : ℕ) (holder : StationData) (stations : List Present) → Rested w now place holder stations →
    All (HasItemsOf holder (course_of w holder now.shown)) (map unmoved stations)
items-first w now place holder stations moment =
    let past = now.shown in
    let R : StationData → Present → Type 0 = λ station y. present_of w station past ≡ loaded_at w.loads (length past) y in
    unmoved-all (HasItemsOf holder (course_of w holder past)) stations
    (each-other R (λ y. HasItemsOf holder (course_of w holder past) (unmoved y)) (present_stations w.lag w.plan w.loads w.outside w.absent) stations
    (beside (λ station. station ≡ station) R (λ station. present_of w station past) (loaded_at w.loads (length past))
    (present_stations w.lag w.plan w.loads w.outside w.absent) stations
    (each-present w past (λ station. station ≡ station) (λ place station at. refl)) moment.are (λ station y is same. same))
    (λ station y same own.
    let st : station ≡ holder = ap (λ (p : Present). p.plan) same ∙ own in (
      sym (ap (λ (p : Present). p.left) same) ∙ ap (λ s. (course_of w s past).left) st,
      sym (ap (λ (p : Present). p.live) same) ∙ ap (λ s. (course_of w s past).live) st,
    )))
