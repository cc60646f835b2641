-- A command that supersedes an answer, of which the first word was struck: nobody finds a command in it.
use Rattle.std.proofs.Common.{◌≡◌, inl, inr, ℕ, zero, suc, ◌+◌, ◌-◌, ◌<◌, ◌≤◌, Bool, true, false, List, [], ◌∷◌, ◌++◌, length, Option, Some, None, refl, sym, ap, ◌∙◌, subst, arith}
use Rattle.std.proofs.lemmas.Bool.{cases_Bool, true≢false}
use Rattle.std.specs.Prelude.{is_some, option_to_list}
use Rattle.bus_base.specs.declared.samples.Channel.{Channel}
use Rattle.bus_base.specs.declared.samples.Sample.{Sample}
use Rattle.bus_words.specs.declared.word.Word.{Word}
use Rattle.bus_line.specs.Past.{Burst, InLeg}
use Rattle.bus_line.specs.Cutting.{running_slots}
use Rattle.bus_formats.specs.Accepted.{Supersedes}
use Rattle.bus_formats.specs.Forms.{command_words}
use Rattle.bus_formats.specs.Plans.{TerminalData}
use Rattle.bus_formats.specs.declared.fault.Hit.{Hit}
use Rattle.bus_formats.specs.declared.plan.Kind.{Kind}
use Rattle.bus_formats.specs.declared.plan.Kind.TheVariants.{Receive, Transmit, Relay, Mode}
use Rattle.bus_model.specs.Hearing.{Moment, heard_on}
use Rattle.bus_model.specs.Orders.{last_order}
use Rattle.bus_model.specs.Strikes.{struck}
use Rattle.bus_law_control.proofs.OtherChannel.{order-stays}
use Rattle.bus_law_duties.proofs.Found.{no-command, data-unaddressed}
use Rattle.bus_law_duties.proofs.Struck.{struck-left}
use Rattle.bus_law_duties.specs.Words.{AreLeftOf}
use Rattle.bus_law_line.specs.Shown.{first_samples}
use Rattle.bus_law_stations.proofs.LegTicks.{heard-append, end-slots}
use Rattle.bus_law_beside.specs.Beside.{is_valid}
use Rattle.bus_law_beside.specs.Rows.{RowEnds}
use Rattle.bus_law_beside.proofs.RowLaws.{leg-to, only, going_on, heard-on, going-long}

-- no command is left of it
none-left : (kind : Kind) (own address : ℕ) (slots : List (Option Word)) → Supersedes address kind → is_valid slots ≡ false →
    AreLeftOf (command_words kind) slots → last_order own slots ≡ None
none-left kind own address [] is struck left = refl
none-left kind own address (Some word ∷ slots) is struck left = absurd (true≢false struck)
none-left (Receive to sub words) own address (None ∷ slots) is struck left = no-command own None slots refl (data-unaddressed own words slots left.1)
none-left (Transmit from sub count) own address (None ∷ slots) is struck left = no-command own None slots refl (data-unaddressed own [] slots left.1)
none-left (Relay from from_sub to to_sub count) own address (None ∷ slots) is struck left = absurd is
none-left (Mode to mode_sub transmit code word) own address (None ∷ slots) is struck left =
    no-command own None slots refl (data-unaddressed own (option_to_list word) slots left.1)

pub none-ordered : (hits : List Hit) (kind : Kind) (own address : ℕ) → Supersedes address kind → is_valid (struck hits (command_words kind)) ≡ false →
    last_order own (struck hits (command_words kind)) ≡ None
none-ordered hits kind own address is struck_so =
    none-left kind own address (struck hits (command_words kind)) is struck_so (struck-left hits (command_words kind))

module _ (k : ℕ) (row : ℕ → Sample) (known : ℕ) (burst : Burst) (small : k < 40) (t : TerminalData) (d : Channel) (heard : List Moment)
    (so : RowEnds k row known burst (heard_on d heard)) (none : last_order t.address burst.slots ≡ None) where
  abbrev Ordered : List Moment → Bool
  Ordered ticks = is_some (last_order t.address (running_slots k (heard_on d (ticks ++ heard))))

  abbrev IsRow : List Moment → Type 0
  IsRow ticks = heard_on d ticks ≡ first_samples row (length ticks)

  -- the last tick before its end is known
  at-end : (ticks : List Moment) → IsRow ticks → length ticks ≡ known → Ordered ticks ≡ false
  at-end ticks shown at =
      let whole : heard_on d (ticks ++ heard) ≡ first_samples row known ++ heard_on d heard =
      heard-append d ticks heard ∙ ap (λ xs. xs ++ heard_on d heard) (shown ∙ ap (first_samples row) at) in
      ap (λ xs. is_some (last_order t.address (running_slots k xs))) whole
      ∙ ap (λ slots. is_some (last_order t.address slots)) (sym (end-slots k (row known) (first_samples row known ++ heard_on d heard) burst so.ended))
      ∙ ap is_some none

  -- a command would stay one to the end
  stays-to : (ticks : List Moment) → IsRow ticks → (j : ℕ) → length ticks + j ≤ known → Ordered ticks ≡ true → Ordered (going_on d row (length ticks) j ++ ticks) ≡ true
  stays-to ticks shown zero low on = on
  stays-to ticks shown (suc j) low on =
      let more = going_on d row (length ticks) j in
      let all = going_on d row (length ticks) (suc j) ++ ticks in
      let long : length (going_on d row (length ticks) (suc j) ++ ticks) ≡ suc j + length ticks = going-long d row (length ticks) (suc j) ticks in
      let here : heard_on d (going_on d row (length ticks) (suc j) ++ ticks) ≡ first_samples row (length ticks + suc j) = heard-on d row ticks (suc j) shown in
      order-stays k t d heard (more ++ ticks) record { shown = only d (row (length ticks + j)); has_items = false } small
      (subst (λ xs. InLeg k xs) (sym here) (leg-to k row known burst (heard_on d heard) so (length ticks + suc j) low))
      (stays-to ticks shown j (omega (arith, low)) on)

  pub never-ordered : (ticks : List Moment) → IsRow ticks → length ticks ≤ known → Ordered ticks ≡ false
  never-ordered ticks shown low = elim (cases_Bool (Ordered ticks)) [
    | inr off ↦ off
    | inl on ↦ (
        let j = known - length ticks in
        let all = going_on d row (length ticks) (known - length ticks) ++ ticks in
        let at : length ticks + (known - length ticks) ≡ known = omega (arith, low) in
        let long : length (going_on d row (length ticks) (known - length ticks) ++ ticks) ≡ (known - length ticks) + length ticks =
        going-long d row (length ticks) (known - length ticks) ticks in
        let whole : length (going_on d row (length ticks) (known - length ticks) ++ ticks) ≡ known = omega (arith, long, low) in
        let here : IsRow (going_on d row (length ticks) (known - length ticks) ++ ticks) =
        heard-on d row ticks (known - length ticks) shown ∙ ap (first_samples row) (at ∙ sym whole) in
        absurd (true≢false (sym (stays-to ticks shown (known - length ticks) (omega (arith, low)) on) ∙ at-end all here whole)))
  ]
