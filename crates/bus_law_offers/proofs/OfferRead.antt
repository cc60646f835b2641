-- How the answer to an offer of control is read, whoever gives it.
use Rattle.std.proofs.Common.{◌≡◌, ◌⊎◌, ◌≢◌, inl, inr, ℕ, ◌≤◌, Bool, true, false, List, [], ◌∷◌, map, get_or, Option, Some, None, refl, sym, ap, ◌∙◌, subst, All}
use Rattle.std.proofs.lemmas.Bool.{cases_Bool}
use Rattle.std.proofs.lemmas.List.Elements.{All-map, All-contains, All-from_recursion}
use Rattle.std.proofs.lemmas.Option.{none-some, same_Some}
use Rattle.std.specs.List.{AllByRecursion as Each}
use Rattle.std.specs.Prelude.{if◌then◌else◌}
use Rattle.bus_base.specs.declared.samples.Channel.{Channel}
use Rattle.bus_base.specs.declared.samples.Part.TheVariants.{First}
use Rattle.bus_words.specs.Fields.{flags_in}
use Rattle.bus_words.specs.declared.word.Word.{Word}
use Rattle.bus_formats.specs.Accepted.{HasKindRanges}
use Rattle.bus_formats.specs.Forms.{command_word, data_word}
use Rattle.bus_formats.specs.Plans.{ItemData}
use Rattle.bus_formats.specs.Readings.{read_answer}
use Rattle.bus_formats.specs.declared.fault.Hit.{Hit}
use Rattle.bus_formats.specs.declared.form.Outcome.TheVariants.{Declined, Illegal}
use Rattle.bus_formats.specs.declared.form.Reading.TheVariants.{Ends}
use Rattle.bus_model.specs.Attempts.{is_offer}
use Rattle.bus_model.specs.Memory.{TimedLoad}
use Rattle.bus_model.specs.Message.{Present, address_of_station, After, command_burst, after_command, answer_for, answer_to}
use Rattle.bus_model.specs.Orders.{Duty, free, owes, promises}
use Rattle.bus_model.specs.Strikes.{struck, ShownBurst, Answer}
use Rattle.bus_law_duties.specs.Duties.{status_after}
use Rattle.bus_law_duties.specs.Offers.{meant_by}
use Rattle.bus_law_duties.specs.Words.{with_data, AreLeftOf}
use Rattle.bus_law_duties.proofs.Answering.{answer-found}
use Rattle.bus_law_duties.proofs.Offered.{offer-is-read}
use Rattle.bus_law_duties.proofs.Struck.{struck-left}
use Rattle.bus_law_moments.specs.Begun.{IsRanged}
use Rattle.bus_law_offers.specs.Read.{IsOfferRead}
use Rattle.bus_law_plans.proofs.Lists.{each-weaker}

first-slot : (a b : Option Word) → (a ∷ []) ≡ (b ∷ []) → a ≡ b
first-slot a b same = cc

-- a data word is no status
no-command : (status : ℕ) → data_word 0 ≡ command_word status → ⊥
no-command status same = let syncs : (data_word 0).sync ≡ (command_word status).sync = ap (λ (w : Word). w.sync) same in absurd (cc)

-- what is left of a status is the status alone, or isn't
alone-or-not : (status : ℕ) (slots : List (Option Word)) → AreLeftOf (with_data status []) slots →
    (slots ≡ Some (command_word status) ∷ []) ⊎ (slots ≢ Some (command_word status) ∷ [])
alone-or-not status [] left = inr (λ same. absurd (cc))
alone-or-not status (slot ∷ []) (inl same, rest) = inl (ap (λ s. s ∷ []) same)
alone-or-not status (slot ∷ []) (inr (inl none), rest) =
    inr (λ same. let both : None ≡ Some (command_word status) = sym none ∙ first-slot slot (Some (command_word status)) same in absurd (cc))
alone-or-not status (slot ∷ []) (inr (inr added), rest) =
    inr (λ same. no-command status (same_Some (data_word 0) (command_word status) (sym added ∙ first-slot slot (Some (command_word status)) same)))
alone-or-not status (slot ∷ next ∷ slots) left = inr (λ same. absurd (cc))

-- a status that stands alone
meant-read : (answer : Answer) (status : ℕ) (acceptance : Bool) → answer.acceptance ≡ acceptance → IsOfferRead answer (meant_by status acceptance)
meant-read answer status true accepts = inr (inl (status, accepts, refl))
meant-read answer status false declines = inr (inr (
  status,
  declines,
  elim (cases_Bool (flags_in status).message_error) [
    | inl error ↦ inl (ap (λ b. if b then Ends (Illegal First) (Some status) else Ends Declined (Some status)) error)
    | inr fine ↦ inr (ap (λ b. if b then Ends (Illegal First) (Some status) else Ends Declined (Some status)) fine)
  ],
))

module _ (k : ℕ) (loads : List TimedLoad) (c : Channel) (start : ℕ) (hits : List Hit) (item : ItemData) (ranges : HasKindRanges item.kind)
    (offers : is_offer item.kind ≡ true) where
  abbrev command : ShownBurst
  command = command_burst c start hits item

  abbrev obeyed : Present → After
  obeyed station = after_command k loads command station

  -- the answer that a terminal owes is read so, whatever strikes it
  abbrev Gives : After → Type 0
  Gives after =
      (answer : Answer) → answer_for command after after.duty ≡ Some answer → (strikes : List Hit) →
      IsOfferRead answer (read_answer item.kind First (struck strikes answer.words) 0)

  owed-read : (station : Present) → address_of_station station ≤ 31 → (words : List Word) (acceptance : Bool) → (obeyed station).duty ≡ owes words acceptance →
      (answer : Answer) → answer.words ≡ words → answer.acceptance ≡ acceptance → (strikes : List Hit) →
      IsOfferRead answer (read_answer item.kind First (struck strikes answer.words) 0)
  owed-read station low words acceptance owed answer words_are accepts strikes =
      let read = offer-is-read k loads c start hits strikes item station words acceptance ranges offers low owed in
      let status : ℕ = status_after (obeyed station) acceptance in
      let left : AreLeftOf (with_data (status_after (obeyed station) acceptance) []) (struck strikes words) =
      subst (λ ws. AreLeftOf ws (struck strikes words)) read.0 (struck-left strikes words) in
      subst (λ ws. IsOfferRead answer (read_answer item.kind First (struck strikes ws) 0)) (sym words_are)
      (elim (alone-or-not status (struck strikes words) left) [
        | inl alone ↦ subst (IsOfferRead answer) (sym (read.1.alone alone)) (meant-read answer status acceptance accepts)
        | inr other ↦ inl (read.1.otherwise other)
      ])

  by-duty : (station : Present) → address_of_station station ≤ 31 → (duty : Duty) → (obeyed station).duty ≡ duty → (answer : Answer) →
      answer_for command (obeyed station) duty ≡ Some answer → (strikes : List Hit) →
      IsOfferRead answer (read_answer item.kind First (struck strikes answer.words) 0)
  by-duty station low free owed answer is strikes = absurd (none-some answer is)
  by-duty station low (promises other transmitter) owed answer is strikes = absurd (none-some answer is)
  by-duty station low (owes words acceptance) owed answer is strikes =
      let same = same_Some _ answer is in
      owed-read station low words acceptance owed answer (sym (ap (λ (a : Answer). a.words) same)) (sym (ap (λ (a : Answer). a.acceptance) same)) strikes

  pub offer-read : (stations : List Present) → Each IsRanged stations → (answer : Answer) → answer_to command (map obeyed stations) ≡ Some answer →
      (strikes : List Hit) → IsOfferRead answer (read_answer item.kind First (struck strikes answer.words) 0)
  offer-read stations each answer is =
      let low = All-from_recursion (λ (s : Present). address_of_station s ≤ 31) stations
      (each-weaker IsRanged (λ s. address_of_station s ≤ 31) (λ s r. r.0.address) stations each) in
      let all : All Gives (map obeyed stations) =
      All-map Gives obeyed stations (λ i d inside. by-duty (get_or stations i d) (low i d inside) (obeyed (get_or stations i d)).duty refl) in
      let found = answer-found command (map obeyed stations) answer is in
      All-contains Gives (map obeyed stations) found.0 all found.1 answer found.2
