-- An answer that was sent whole is read as one that is due: never as a bad reply.
use Rattle.std.proofs.Common.{◌≡◌, ◌⊎◌, inl, inr, ℕ, zero, suc, List, [], ◌∷◌, length, map, refl, ap, sym, subst, ◌∙◌, arith}
use Rattle.std.proofs.lemmas.Bool.{true≢false}
use Rattle.std.proofs.lemmas.Bool.Decides.{nat_tests}
use Rattle.std.specs.Prelude.{Bool, true, false, not, ◌&&◌, ◌||◌, ◌==◌, if◌then◌else◌, Option, Some, None}
use Rattle.bus_base.specs.declared.samples.Part.{Part}
use Rattle.bus_words.specs.Fields.{address_of, is_clean, flags_in}
use Rattle.bus_words.specs.declared.word.Word.{Word}
use Rattle.bus_formats.specs.Forms.{data_word}
use Rattle.bus_formats.specs.Readings.{data_in, status_from, status_before, status_alone, status_full, bad_reply, read_refusal, read_offer, read_status, read_mode, read_full, read_data}
use Rattle.bus_formats.specs.declared.form.Outcome.TheVariants.{Declined, Passed, Illegal, Busy}
use Rattle.bus_formats.specs.declared.form.Reading.{Reading}
use Rattle.bus_formats.specs.declared.form.Reading.TheVariants.{Good, Ends}
use Rattle.bus_formats.specs.declared.form.Shape.{Shape}
use Rattle.bus_law_duties.specs.Words.{whole_slots, with_data}
use Rattle.bus_law_plans.proofs.Lists.{either-by}
use Rattle.bus_rules.specs.Breaches.{is_bad_reply}
use Rattle.bus_law_clean.proofs.CommandRead.{data-read}

-- the reading is no bad reply
abbrev pub IsDue : Reading → Type 0
IsDue reading = is_bad_reply reading ≡ false

-- a status word of the terminal with this address, with no reserved bit set
pub record IsStatus (address status : ℕ) : Type 0 where
  pub address_is : address_of status ≡ address
  pub clean : is_clean status ≡ true

-- a status and data words as they are shown, each whole
abbrev pub shown : ℕ → List ℕ → List (Option Word)
shown status words = whole_slots (with_data status words)

status-read : (address status : ℕ) → IsStatus address status → status_from address (Some status) ≡ Some status
status-read address status is =
    let at : address_of status ≡ address = is.address_is in
    let same : (address_of status == address) ≡ true = grind (arith, nat_tests, at) in
    ap (λ (b : Bool). if b && is_clean status then Some status else None) same
    ∙ ap (λ (b : Bool). if b then Some status else None) is.clean

none-of : (a b : Bool) → a ≡ false → b ≡ false → (a || b) ≡ false
none-of a b x y = rw (x, y) refl

either-true : (a b : Bool) → (a ≡ false) ⊎ (b ≡ true) → (not a || b) ≡ true
either-true a b (inl x) = rw x refl
either-true true b (inr y) = y
either-true false b (inr y) = refl

module _ (part : Part) (shape : Shape) (status : ℕ) (is : IsStatus shape.address status) where
  abbrev error : Bool
  error = (flags_in status).message_error

  abbrev busy : Bool
  busy = (flags_in status).busy

  alone-is : status_alone shape (shown status []) 0 ≡ Some status
  alone-is = status-read shape.address status is

  full-is : (words : List ℕ) → length words ≡ shape.count → status_full shape (shown status words) 0 ≡ Some status
  full-is words long =
      ap (λ o. status_before o (data_in shape.count (whole_slots (map data_word words)))) (status-read shape.address status is)
      ∙ ap (λ n. status_before (Some status) (data_in n (whole_slots (map data_word words)))) (sym long)
      ∙ ap (status_before (Some status)) (data-read words)

  full-good : error ≡ false → busy ≡ false → IsDue (read_full part (Some status))
  full-good fine idle =
      either-by IsDue (error || busy) (bad_reply part) (Good status) (λ bad. absurd (true≢false (sym bad ∙ none-of error busy fine idle))) (λ good. refl)

  -- ---- to a message with data words: the status alone where it refuses, is busy, or no data words are due; else all of them

  alone-due : (error ≡ false → busy ≡ false → shape.count ≡ 0) → IsDue (read_data part (Some status) (status_full shape (shown status []) 0))
  alone-due none =
      either-by IsDue error (Ends (Illegal part) (Some status)) _ (λ bad. refl) (λ fine.
      either-by IsDue busy (Ends (Busy part) (Some status)) (read_full part (status_full shape (shown status []) 0)) (λ on. refl) (λ idle.
      subst (λ o. IsDue (read_full part o)) (sym (full-is [] (sym (none fine idle)))) (full-good fine idle)))

  pub data-alone : (error ≡ false → busy ≡ false → shape.count ≡ 0) →
      IsDue (read_data part (status_alone shape (shown status []) 0) (status_full shape (shown status []) 0))
  data-alone none = subst (λ o. IsDue (read_data part o (status_full shape (shown status []) 0))) (sym alone-is) (alone-due none)

  pub data-whole : (words : List ℕ) → length words ≡ shape.count → error ≡ false → busy ≡ false →
      IsDue (read_data part (status_alone shape (shown status words) 0) (status_full shape (shown status words) 0))
  data-whole [] long fine idle = data-alone (λ e b. sym long)
  data-whole (word ∷ words) long fine idle = subst (λ o. IsDue (read_full part o)) (sym (full-is (word ∷ words) long)) (full-good fine idle)

  -- ---- to a mode command

  -- an offer of control, and one that asks for the status, are answered by the status alone
  pub offer-due : IsDue (read_offer part (status_alone shape (shown status []) 0))
  offer-due =
      subst (λ o. IsDue (read_offer part o)) (sym alone-is)
      (either-by IsDue error (Ends (Illegal part) (Some status)) _ (λ bad. refl) (λ fine.
      either-by IsDue (flags_in status).acceptance (Ends Passed (Some status)) (Ends Declined (Some status)) (λ on. refl) (λ off. refl)))

  pub status-due : IsDue (read_status part (status_alone shape (shown status []) 0))
  status-due = subst (λ o. IsDue (read_status part o)) (sym alone-is) refl

  refusal-due : error ≡ true → IsDue (read_refusal part (Some status))
  refusal-due bad =
      either-by IsDue error (Ends (Illegal part) (Some status)) (bad_reply part) (λ on. refl) (λ off. absurd (true≢false (sym bad ∙ off)))

  -- the status where it is all that is due
  same-due : (reports : Bool) → IsDue (read_mode part reports (Some status) (Some status))
  same-due reports =
      either-by IsDue (not error || reports) (Good status) (read_refusal part (Some status)) (λ good. refl) (λ other.
      either-by IsDue error (Ends (Illegal part) (Some status)) (bad_reply part) (λ on. refl)
      (λ off. absurd (true≢false (sym (either-true error reports (inl off)) ∙ other))))

  pub mode-alone : (reports : Bool) → (shape.count ≡ 0) ⊎ (error ≡ true) →
      IsDue (read_mode part reports (status_full shape (shown status []) 0) (status_alone shape (shown status []) 0))
  mode-alone reports (inl none) =
      subst (λ o. IsDue (read_mode part reports (status_full shape (shown status []) 0) o)) (sym alone-is)
      (subst (λ o. IsDue (read_mode part reports o (Some status))) (sym (full-is [] (sym none))) (same-due reports))
  mode-alone reports (inr bad) =
      subst (λ o. IsDue (read_mode part reports (status_full shape (shown status []) 0) o)) (sym alone-is) (by-count shape.count refl)
    where
      by-count : (n : ℕ) → shape.count ≡ n → IsDue (read_mode part reports (status_full shape (shown status []) 0) (Some status))
      by-count zero none = subst (λ o. IsDue (read_mode part reports o (Some status))) (sym (full-is [] (sym none))) (same-due reports)
      by-count (suc n) some =
          let no-full : status_full shape (shown status []) 0 ≡ None =
          ap (λ o. status_before o (data_in shape.count [])) (status-read shape.address status is)
          ∙ ap (λ (m : ℕ). status_before (Some status) (data_in m [])) some in
          subst (λ o. IsDue (read_mode part reports o (Some status))) (sym no-full) (refusal-due bad)

  -- the status with all that is due, where it reports no error of this command
  pub mode-whole : (reports : Bool) (words : List ℕ) → length words ≡ shape.count → (error ≡ false) ⊎ (reports ≡ true) →
      IsDue (read_mode part reports (status_full shape (shown status words) 0) (status_alone shape (shown status words) 0))
  mode-whole reports words long fine =
      subst (λ o. IsDue (read_mode part reports o (status_alone shape (shown status words) 0))) (sym (full-is words long))
      (either-by IsDue (not error || reports) (Good status) (read_refusal part (status_alone shape (shown status words) 0)) (λ good. refl)
      (λ other. absurd (true≢false (sym (either-true error reports fine) ∙ other))))
