-- What a message of the table leaves of each station, by whether an answer to its command is shown.
use Rattle.std.proofs.Common.{◌≡◌, ◌++◌, ℕ, List, [], ◌∷◌, map, Option, Some, None, refl, ◌∙◌}
use Rattle.std.specs.List.{AllByRecursion as Each, AllZip}
use Rattle.bus_base.specs.declared.samples.Channel.{Channel}
use Rattle.bus_base.specs.declared.samples.Part.TheVariants.{Command, First, Second}
use Rattle.bus_formats.specs.Plans.{ItemData}
use Rattle.bus_formats.specs.declared.fault.Fault.{Fault}
use Rattle.bus_model.specs.Memory.{TimedLoad}
use Rattle.bus_model.specs.Orders.{Duty, free, owes, promises, Order}
use Rattle.bus_model.specs.Strikes.{ShownBurst, burst_end, ShownAnswer, shown_answer, hits_on}
use Rattle.bus_model.specs.Counted.{is_counted}
use Rattle.bus_model.specs.Endings.{ending_of}
use Rattle.bus_model.specs.Message.{Present, After, command_burst, after_command, after_command_of, after_answer, after_answer_of, after_silence, after_silence_of, answer_to, Delivered, blocks_taken, abandoned_bursts, answer_bursts, message, message_obeyed}
use Rattle.bus_law_plans.proofs.Lists.{either, each-append}

zip-settled : (R : Present → Present → Type 0) (f : After → After) (g : Present → After) (stations : List Present) →
    Each (λ s. R s (f (g s)).station) stations → AllZip R stations (map (λ after. after.station) (map f (map g stations)))
zip-settled R f g [] all = tt
zip-settled R f g (s ∷ stations) all = (all.0, zip-settled R f g stations all.1)

module _ (k : ℕ) (loads : List TimedLoad) (faults : List Fault) (n : ℕ) (item : ItemData) (on : Option ShownAnswer) (channel : Channel) (start : ℕ)
    (stations : List Present) where
  -- the command of the message, as it is shown
  abbrev pub told : ShownBurst
  told = command_burst channel start (hits_on faults n Command) item

  -- each station after it
  abbrev pub ordered : List After
  ordered = map (after_command k loads told) stations

  -- the first answer, as it is shown
  abbrev pub replied : Option ShownAnswer
  replied = shown_answer (hits_on faults n First) (answer_to told ordered)

  stations-by : (R : Present → Present → Type 0) (shown : Option ShownAnswer) →
      (shown ≡ None → Each (λ s. R s (after_silence k loads told (after_command k loads told s)).station) stations) →
      ((answer : ShownAnswer) → shown ≡ Some answer → Each (λ s. R s (after_answer k loads answer.burst (after_command k loads told s)).station) stations) →
      AllZip R stations (message_obeyed k loads faults n item on told ordered shown).stations
  stations-by R None silent answered =
      zip-settled R (after_silence k loads told) (after_command k loads told) stations (silent refl)
  stations-by R (Some answer) silent answered =
      zip-settled R (after_answer k loads answer.burst) (after_command k loads told) stations (answered answer refl)

  -- each station after the message, by what holds of it after the silence, and after an answer
  pub stations-after : (R : Present → Present → Type 0) →
      (replied ≡ None → Each (λ s. R s (after_silence k loads told (after_command k loads told s)).station) stations) →
      ((answer : ShownAnswer) → replied ≡ Some answer → Each (λ s. R s (after_answer k loads answer.burst (after_command k loads told s)).station) stations) →
      AllZip R stations (message k loads faults n item on channel start stations).stations
  unfolding message
  stations-after R silent answered = stations-by R replied silent answered

  -- the second answer that is shown, after a first
  abbrev pub second-after : ShownAnswer → Option ShownAnswer
  second-after answer = shown_answer (hits_on faults n Second) (answer_to answer.burst (map (after_answer k loads answer.burst) ordered))

  -- the second answer that is shown, if a first is
  abbrev pub second-of : Option ShownAnswer → Option ShownAnswer
  second-of None = None
  second-of (Some answer) = second-after answer

  ending-by : (shown : Option ShownAnswer) →
      (message_obeyed k loads faults n item on told ordered shown).ending ≡ ending_of k item (burst_end told) shown (second-of shown)
  ending-by None = refl
  ending-by (Some answer) = refl

  -- its ending is that of its command and its answers
  pub ending-is : (message k loads faults n item on channel start stations).ending ≡ ending_of k item (burst_end told) replied (second-of replied)
  unfolding message
  ending-is = ending-by replied

  bursts-by : (shown : Option ShownAnswer) →
      (message_obeyed k loads faults n item on told ordered shown).bursts
      ≡ abandoned_bursts on told ++ (told ∷ answer_bursts (message_obeyed k loads faults n item on told ordered shown).ending.runs_on shown (second-of shown))
  bursts-by None = refl
  bursts-by (Some answer) = refl

  -- and so are its bursts
  pub bursts-are : (message k loads faults n item on channel start stations).bursts
      ≡ abandoned_bursts on told ++ (told ∷ answer_bursts (message k loads faults n item on channel start stations).ending.runs_on replied (second-of replied))
  unfolding message
  bursts-are = bursts-by replied

  deliveries-by : (P : Delivered → Type 0) (shown : Option ShownAnswer) → Each P (blocks_taken k loads told ordered) →
      ((answer : ShownAnswer) → shown ≡ Some answer → Each P (blocks_taken k loads answer.burst (map (after_answer k loads answer.burst) ordered))) →
      Each P (message_obeyed k loads faults n item on told ordered shown).deliveries
  deliveries-by P None first later = first
  deliveries-by P (Some answer) first later =
      each-append P (blocks_taken k loads told ordered) (blocks_taken k loads answer.burst (map (after_answer k loads answer.burst) ordered)) first (later answer refl)

  -- what holds of the blocks that are taken of the command and of the first answer holds of all
  pub deliveries-each : (P : Delivered → Type 0) → Each P (blocks_taken k loads told ordered) →
      ((answer : ShownAnswer) → replied ≡ Some answer → Each P (blocks_taken k loads answer.burst (map (after_answer k loads answer.burst) ordered))) →
      Each P (message k loads faults n item on channel start stations).deliveries
  unfolding message
  deliveries-each P first later = deliveries-by P replied first later

  counted-by : (shown : Option ShownAnswer) → (message_obeyed k loads faults n item on told ordered shown).counted ≡ is_counted item.kind shown
  counted-by None = refl
  counted-by (Some answer) = refl

  -- no fault deceives the count of its first answer
  pub counted-is : (message k loads faults n item on channel start stations).counted ≡ is_counted item.kind replied
  unfolding message
  counted-is = counted-by replied

-- ---- a message changes of a station what its terminal keeps, and nothing else

pub record IsKept (a b : Present) : Type 0 where
  pub plan_is : b.plan ≡ a.plan
  pub left_is : b.left ≡ a.left
  pub live_is : b.live ≡ a.live
  pub serves_is : b.serves ≡ a.serves

same : (s : Present) → IsKept s s
same s = record { plan_is = refl; left_is = refl; live_is = refl; serves_is = refl }

kept-then : (a b c : Present) → IsKept a b → IsKept b c → IsKept a c
kept-then a b c first second = record {
  plan_is = second.plan_is ∙ first.plan_is;
  left_is = second.left_is ∙ first.left_is;
  live_is = second.live_is ∙ first.live_is;
  serves_is = second.serves_is ∙ first.serves_is;
}

module _ (k : ℕ) (loads : List TimedLoad) (burst : ShownBurst) where
  order-kept : (s : Present) (order : Option Order) → IsKept s (after_command_of k loads burst s order).station
  order-kept s None = same s
  order-kept s (Some order) = record { plan_is = refl; left_is = refl; live_is = refl; serves_is = refl }

  -- a command keeps all but the memory
  pub command-kept : (s : Present) → IsKept s (after_command k loads burst s).station
  command-kept s = either (λ (a : After). IsKept s a.station) s.serves _ _ (order-kept s _) (same s)

  -- an answer too
  pub answer-kept : (s : Present) (duty : Duty) → IsKept s (after_answer_of k loads burst s duty).station
  answer-kept s free = same s
  answer-kept s (owes words acceptance) = same s
  answer-kept s (promises command transmitter) = record { plan_is = refl; left_is = refl; live_is = refl; serves_is = refl }

  silence-kept : (s : Present) (duty : Duty) → IsKept s (after_silence_of k loads burst s duty).station
  silence-kept s free = same s
  silence-kept s (owes words acceptance) = same s
  silence-kept s (promises command transmitter) = record { plan_is = refl; left_is = refl; live_is = refl; serves_is = refl }

each-kept : (k : ℕ) (loads : List TimedLoad) (command : ShownBurst) (f : After → After) → ((a : After) → IsKept a.station (f a).station) → (stations : List Present) →
    Each (λ s. IsKept s (f (after_command k loads command s)).station) stations
each-kept k loads command f h [] = tt
each-kept k loads command f h (s ∷ stations) = (
  kept-then s (after_command k loads command s).station (f (after_command k loads command s)).station (command-kept k loads command s)
      (h (after_command k loads command s)),
  each-kept k loads command f h stations,
)

-- and a whole message
pub message-kept : (k : ℕ) (loads : List TimedLoad) (faults : List Fault) (n : ℕ) (item : ItemData) (on : Option ShownAnswer) (channel : Channel)
    (start : ℕ) (stations : List Present) → AllZip IsKept stations (message k loads faults n item on channel start stations).stations
message-kept k loads faults n item on channel start stations =
    stations-after k loads faults n item on channel start stations IsKept
    (λ none. each-kept k loads (told k loads faults n item on channel start stations) (after_silence k loads (told k loads faults n item on channel start stations))
    (λ a. silence-kept k loads (told k loads faults n item on channel start stations) a.station a.duty) stations)
    (λ answer is. each-kept k loads (told k loads faults n item on channel start stations) (after_answer k loads answer.burst)
    (λ a. answer-kept k loads answer.burst a.station a.duty) stations)
