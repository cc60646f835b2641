-- A station that doesn't serve changes nothing in a message.
use Rattle.std.proofs.Common.{◌≡◌, ℕ, ◌+◌, Bool, true, false, List, [], ◌∷◌, ◌++◌, map, Option, Some, None, refl, sym, ap, ◌∙◌}
use Rattle.std.proofs.lemmas.Bool.{true≢false}
use Rattle.std.specs.Option.{option_or}
use Rattle.std.specs.Prelude.{if◌then◌else◌, option_map, ◌==◌}
use Rattle.std.specs.List.{AllByRecursion as Each, cons_option}
use Rattle.bus_base.specs.declared.samples.Channel.{Channel}
use Rattle.bus_base.specs.declared.samples.Part.TheVariants.{First, Second}
use Rattle.bus_formats.specs.Plans.{StationData, ItemData}
use Rattle.bus_formats.specs.declared.fault.Fault.{Fault}
use Rattle.bus_model.specs.Memory.{TimedLoad}
use Rattle.bus_model.specs.Message.{Present, After, unmoved, delivered, answer_for, answer_to, blocks_taken, after_command, after_command_of, after_answer, after_silence, after_silence_of, Message, message_by, message_settled, message_obeyed, message}
use Rattle.bus_model.specs.Orders.{Duty, free, owes, promises, last_order}
use Rattle.bus_model.specs.Run.{is_at}
use Rattle.bus_model.specs.Strikes.{ShownBurst, burst_end, Answer, ShownAnswer, shown_answer, hits_on}
use Rattle.bus_law_plans.proofs.Messages.{told, replied, command-kept, answer-kept}
use Rattle.bus_standby.specs.Without.{without, message_without, DoesNotServe}

-- the stations after a burst but the one with this address
abbrev without_after : ℕ → List After → List After
without_after address [] = []
without_after address (x ∷ xs) = if is_at address x.station then without_after address xs else x ∷ without_after address xs

-- that one is as it was, and owes nothing
abbrev IsUnmoved : ℕ → After → Type 0
IsUnmoved address x = is_at address x.station ≡ true → x ≡ unmoved x.station

module _ (address : ℕ) where
  stations-of : (xs : List After) → map (λ (x : After). x.station) (without_after address xs) ≡ without address (map (λ (x : After). x.station) xs)
  stations-of [] = refl
  stations-of (x ∷ xs) = by-test (is_at address x.station) (stations-of xs)
    where
      by-test : (b : Bool) → map (λ (y : After). y.station) (without_after address xs) ≡ without address (map (λ (y : After). y.station) xs) →
          map (λ (y : After). y.station) (if b then without_after address xs else x ∷ without_after address xs)
          ≡ (if b then without address (map (λ (y : After). y.station) xs) else x.station ∷ without address (map (λ (y : After). y.station) xs))
      by-test true rest = rest
      by-test false rest = ap (λ l. x.station ∷ l) rest

  mapped : (g : After → After) → ((x : After) → is_at address (g x).station ≡ is_at address x.station) → (xs : List After) →
      map g (without_after address xs) ≡ without_after address (map g xs)
  mapped g same [] = refl
  mapped g same (x ∷ xs) = by-test (is_at address x.station) (is_at address (g x).station) (same x) (mapped g same xs)
    where
      by-test : (b c : Bool) → c ≡ b → map g (without_after address xs) ≡ without_after address (map g xs) →
          map g (if b then without_after address xs else x ∷ without_after address xs)
          ≡ (if c then without_after address (map g xs) else g x ∷ without_after address (map g xs))
      by-test true true e rest = rest
      by-test false false e rest = ap (λ l. g x ∷ l) rest
      by-test true false e rest = absurd (true≢false (sym e))
      by-test false true e rest = absurd (true≢false e)

  ordered-so : (f : Present → After) → ((s : Present) → is_at address (f s).station ≡ is_at address s) → (stations : List Present) →
      map f (without address stations) ≡ without_after address (map f stations)
  ordered-so f same [] = refl
  ordered-so f same (s ∷ stations) = by-test (is_at address s) (is_at address (f s).station) (same s) (ordered-so f same stations)
    where
      by-test : (b c : Bool) → c ≡ b → map f (without address stations) ≡ without_after address (map f stations) →
          map f (if b then without address stations else s ∷ without address stations)
          ≡ (if c then without_after address (map f stations) else f s ∷ without_after address (map f stations))
      by-test true true e rest = rest
      by-test false false e rest = ap (λ l. f s ∷ l) rest
      by-test true false e rest = absurd (true≢false (sym e))
      by-test false true e rest = absurd (true≢false e)

  -- nobody else's answer
  answer-same : (burst : ShownBurst) (xs : List After) → Each (IsUnmoved address) xs → answer_to burst (without_after address xs) ≡ answer_to burst xs
  answer-same burst [] all = refl
  answer-same burst (x ∷ xs) all = by-test (is_at address x.station) refl (answer-same burst xs all.1)
    where
      by-test : (b : Bool) → is_at address x.station ≡ b → answer_to burst (without_after address xs) ≡ answer_to burst xs →
          answer_to burst (if b then without_after address xs else x ∷ without_after address xs) ≡ option_or (answer_for burst x x.duty) (answer_to burst xs)
      by-test true is rest = rest ∙ sym (ap (λ (y : After). option_or (answer_for burst y y.duty) (answer_to burst xs)) (all.0 is))
      by-test false is rest = ap (option_or (answer_for burst x x.duty)) rest

  -- and nobody else's block
  blocks-same : (k : ℕ) (loads : List TimedLoad) (burst : ShownBurst) (xs : List After) → Each (IsUnmoved address) xs →
      blocks_taken k loads burst (without_after address xs) ≡ blocks_taken k loads burst xs
  blocks-same k loads burst [] all = refl
  blocks-same k loads burst (x ∷ xs) all = by-test (is_at address x.station) refl (blocks-same k loads burst xs all.1)
    where
      by-test : (b : Bool) → is_at address x.station ≡ b → blocks_taken k loads burst (without_after address xs) ≡ blocks_taken k loads burst xs →
          blocks_taken k loads burst (if b then without_after address xs else x ∷ without_after address xs) ≡ blocks_taken k loads burst (x ∷ xs)
      by-test true is rest = rest ∙ sym (ap (λ (y : After). blocks_taken k loads burst (y ∷ xs)) (all.0 is))
      by-test false is rest =
          ap (λ l. cons_option (option_map (delivered (burst_end burst + k) burst.channel x) x.taken) l) rest

  at-same : (s t : Present) → t.plan ≡ s.plan → is_at address t ≡ is_at address s
  at-same s t same = ap (λ (p : StationData). p.terminal.address == address) same

  -- what is free stays so
  kept-so : (g : After → After) → ((x : After) → is_at address (g x).station ≡ is_at address x.station) → ((s : Present) → g (unmoved s) ≡ unmoved s) → (xs : List After) →
      Each (IsUnmoved address) xs → Each (IsUnmoved address) (map g xs)
  kept-so g same stays [] all = tt
  kept-so g same stays (x ∷ xs) all = (
    λ is. let e = ap g (all.0 (sym (same x) ∙ is)) ∙ stays x.station in e ∙ sym (ap (λ (y : After). unmoved y.station) e),
    kept-so g same stays xs all.1,
  )

  module _ (k : ℕ) (loads : List TimedLoad) (faults : List Fault) (n : ℕ) (item : ItemData) (on : Option ShownAnswer) where
    silence-plan : (burst : ShownBurst) (s : Present) (duty : Duty) → (after_silence_of k loads burst s duty).station.plan ≡ s.plan
    silence-plan burst s free = refl
    silence-plan burst s (owes words acceptance) = refl
    silence-plan burst s (promises command transmitter) = refl

    obeyed-so : (command : ShownBurst) (xs : List After) (shown : Option ShownAnswer) → Each (IsUnmoved address) xs →
        message_obeyed k loads faults n item on command (without_after address xs) shown ≡ message_without address (message_obeyed k loads faults n item on command xs shown)
    obeyed-so command xs None all =
        let g : After → After = after_silence k loads command in
        let same : (x : After) → is_at address (g x).station ≡ is_at address x.station = λ x. at-same x.station (g x).station (silence-plan command x.station x.duty) in
        ap (λ d. message_by k loads faults n item on command d (map g (without_after address xs)) None None) (blocks-same k loads command xs all)
        ∙ ap (λ l. record (message_by k loads faults n item on command (blocks_taken k loads command xs) (map g xs) None None) { stations = l })
        (ap (map (λ (x : After). x.station)) (mapped g same xs) ∙ stations-of (map g xs))
    obeyed-so command xs (Some answer) all =
        let g : After → After = after_answer k loads answer.burst in
        let same : (x : After) → is_at address (g x).station ≡ is_at address x.station =
        λ x. at-same x.station (g x).station (answer-kept k loads answer.burst x.station x.duty).plan_is in
        let later : Each (IsUnmoved address) (map g xs) = kept-so g same (λ s. refl) xs all in
        ap (message_settled k loads faults n item on command (without_after address xs) answer) (mapped g same xs)
        ∙ (ap (λ d. message_by k loads faults n item on command (d ++ blocks_taken k loads answer.burst (without_after address (map g xs))) (without_after address (map g xs)) (Some answer)
        (shown_answer (hits_on faults n Second) (answer_to answer.burst (without_after address (map g xs))))) (blocks-same k loads command xs all)
        ∙ (ap (λ d. message_by k loads faults n item on command (blocks_taken k loads command xs ++ d) (without_after address (map g xs)) (Some answer)
        (shown_answer (hits_on faults n Second) (answer_to answer.burst (without_after address (map g xs))))) (blocks-same k loads answer.burst (map g xs) later)
        ∙ (ap (λ a. message_by k loads faults n item on command (blocks_taken k loads command xs ++ blocks_taken k loads answer.burst (map g xs)) (without_after address (map g xs)) (Some answer)
        (shown_answer (hits_on faults n Second) a)) (answer-same answer.burst (map g xs) later)
        ∙ ap (λ l. record (message_settled k loads faults n item on command xs answer (map g xs)) { stations = l }) (stations-of (map g xs)))))

    module _ (channel : Channel) (start : ℕ) (stations : List Present) (silent : Each (DoesNotServe address) stations) where
      abbrev command : ShownBurst
      command = told k loads faults n item on channel start stations

      f-same : (s : Present) → is_at address (after_command k loads command s).station ≡ is_at address s
      f-same s = at-same s (after_command k loads command s).station (command-kept k loads command s).plan_is

      unserved : (s : Present) (b : Bool) (y : After) → b ≡ false → (if b then y else unmoved s) ≡ unmoved s
      unserved s true y off = absurd (true≢false off)
      unserved s false y off = refl

      all-unmoved : (ss : List Present) → Each (DoesNotServe address) ss → Each (IsUnmoved address) (map (after_command k loads command) ss)
      all-unmoved [] all = tt
      all-unmoved (s ∷ ss) all = (
        λ is. let e = unserved s s.serves (after_command_of k loads command s (last_order s.plan.terminal.address command.slots)) (all.0 (sym (f-same s) ∙ is)) in
            e ∙ sym (ap (λ (y : After). unmoved y.station) e),
        all-unmoved ss all.1,
      )

      -- a message without it is the same
      pub message-so : message k loads faults n item on channel start (without address stations)
          ≡ message_without address (message k loads faults n item on channel start stations)
      unfolding message
      message-so =
          let f : Present → After = after_command k loads command in
          let all : Each (IsUnmoved address) (map f stations) = all-unmoved stations silent in
          ap (λ xs. message_obeyed k loads faults n item on command xs (shown_answer (hits_on faults n First) (answer_to command xs))) (ordered-so f f-same stations)
          ∙ (ap (λ a. message_obeyed k loads faults n item on command (without_after address (map f stations)) (shown_answer (hits_on faults n First) a))
          (answer-same command (map f stations) all)
          ∙ obeyed-so command (map f stations) (shown_answer (hits_on faults n First) (answer_to command (map f stations))) all)
