-- From which tick on both channels are quiet after the bursts of a message.
use Rattle.std.proofs.Common.{◌≡◌, ℕ, ◌≤◌, List, [], ◌∷◌, ◌++◌, sym, ap, ◌∙◌, arith, append_assoc}
use Rattle.std.proofs.Math.Nat.{zero-max}
use Rattle.std.proofs.lemmas.Grind.{fold-append}
use Rattle.std.specs.Prelude.{max}
use Rattle.bus_model.specs.Run.{quiet_after}
use Rattle.bus_model.specs.Strikes.{ShownBurst, burst_end}

later-max : (m n : ℕ) → m ≤ n → max m n ≡ n
later-max m n low = grind (arith, low)

pub quiet-one : (command : ShownBurst) → quiet_after (command ∷ []) ≡ burst_end command
quiet-one command = zero-max (burst_end command)

-- one burst more, which begins where the last one ended or later
pub quiet-more : (found : List ShownBurst) (e : ℕ) (later : ShownBurst) → quiet_after found ≡ e → e ≤ later.start →
    quiet_after (found ++ later ∷ []) ≡ burst_end later
quiet-more found e later last follows =
    fold-append (λ tick (b : ShownBurst). max tick (burst_end b)) 0 found (later ∷ [])
    ∙ ap (λ n. max n (burst_end later)) last
    ∙ later-max e (burst_end later) (omega (arith, follows))

pub quiet-both : (found : List ShownBurst) (e : ℕ) (first second : ShownBurst) → quiet_after found ≡ e → e ≤ first.start →
    burst_end first ≤ second.start → quiet_after (found ++ first ∷ second ∷ []) ≡ burst_end second
quiet-both found e first second last after later =
    ap quiet_after (sym (append_assoc found (first ∷ []) (second ∷ [])))
    ∙ quiet-more (found ++ first ∷ []) (burst_end first) second (quiet-more found e first last after) later
