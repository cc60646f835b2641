-- The bursts of a message beside an abandoned answer, as they are found.
use Rattle.std.proofs.Common.{◌≡◌, ℕ, Bool, true, false, List, [], ◌∷◌, ◌++◌, map, Option, Some, None, refl, sym, ap, ◌∙◌, subst, arith, append_assoc}
use Rattle.std.proofs.lemmas.List.{map-append}
use Rattle.std.specs.Prelude.{fold, max, if◌then◌else◌}
use Rattle.bus_base.specs.declared.samples.Pair.{Pair}
use Rattle.bus_line.specs.Bursts.{EndsBefore}
use Rattle.bus_line.specs.Channels.{WholeBurst, bursts}
use Rattle.bus_line.specs.Past.{end_of}
use Rattle.bus_model.specs.Log.{is_before}
use Rattle.bus_model.specs.Message.{abandoned_bursts}
use Rattle.bus_model.specs.Run.{quiet_after}
use Rattle.bus_model.specs.Strikes.{ShownBurst, burst_end, ShownAnswer, beside_command}
use Rattle.bus_law_listing.specs.Listing.{burst_found, found_in_order}
use Rattle.bus_law_listing.proofs.Found.{end_in, channel_in, strict-bursts}
use Rattle.bus_law_listing.proofs.Members.{Each, Pairs, each-more, pairs-across}
use Rattle.bus_law_listing.proofs.Ordered.{Before, order-each, order-append, order-same, strictly-before, map-order}
use Rattle.bus_law_whole.specs.Messages.{shown_in_order}

-- ---- bursts one after the other

pairs-last : {X : Type 0} (R : X → X → Type 0) (xs ys : List X) → Pairs R (xs ++ ys) → Pairs R ys
pairs-last R [] ys pairs = pairs
pairs-last R (x ∷ xs) ys pairs = pairs-last R xs ys pairs.1

-- two lists in order that are in order one after the other are the whole in order
order-joined : (xs ys : List WholeBurst) → Pairs EndsBefore (found_in_order xs ++ found_in_order ys) →
    found_in_order (xs ++ ys) ≡ found_in_order xs ++ found_in_order ys
order-joined xs ys pairs =
    let across = pairs-across EndsBefore (found_in_order xs) (found_in_order ys) pairs in
    let first : Each (λ x. Each (EndsBefore x) (found_in_order ys)) xs =
    order-each end_in channel_in (λ x. Each (EndsBefore x) (found_in_order ys)) xs across in
    order-append end_in channel_in xs ys
    (each-more (λ x. Each (EndsBefore x) (found_in_order ys)) (λ x. Each (Before end_in channel_in x) ys) xs
    (λ x each. each-more (EndsBefore x) (Before end_in channel_in x) ys (strictly-before end_in channel_in x)
    (order-each end_in channel_in (EndsBefore x) ys each)) first)

-- what was found last is in order
found-last : (k : ℕ) (past : List Pair) (before xs ys : List WholeBurst) → bursts k past ≡ before ++ (found_in_order xs ++ ys) →
    found_in_order xs ++ ys ≡ found_in_order (xs ++ ys)
found-last k past before xs ys found =
    let all : Pairs EndsBefore (found_in_order xs ++ ys) =
    pairs-last EndsBefore before (found_in_order xs ++ ys) (subst (Pairs EndsBefore) found (strict-bursts k past)) in
    let same : found_in_order ys ≡ ys = order-same end_in channel_in ys (pairs-last EndsBefore (found_in_order xs) ys all) in
    ap (λ zs. found_in_order xs ++ zs) (sym same)
    ∙ sym (order-joined xs ys (subst (λ zs. Pairs EndsBefore (found_in_order xs ++ zs)) (sym same) all))

-- ---- bursts of the table

-- in order as they are shown, and as they are found
order-found : (shown : List ShownBurst) → map burst_found (shown_in_order shown) ≡ found_in_order (map burst_found shown)
order-found shown =
    map-order burst_found burst_end (λ (burst : ShownBurst). burst.channel) (λ (whole : WholeBurst). end_of whole.burst)
    (λ (whole : WholeBurst). whole.channel) (λ b. refl) (λ b. refl) shown

-- the bursts with a command are found in order, and then the answers: so all of them are in order
pub found-all : (k : ℕ) (past : List Pair) (before : List WholeBurst) (old answers : List ShownBurst) (command : ShownBurst) →
    bursts k past ≡ before ++ map burst_found (shown_in_order (old ++ command ∷ []) ++ answers) →
    map burst_found (shown_in_order (old ++ command ∷ []) ++ answers) ≡ found_in_order (map burst_found (old ++ (command ∷ answers)))
found-all k past before old answers command found =
    let first : List ShownBurst = old ++ command ∷ [] in
    let same : map burst_found (shown_in_order first ++ answers) ≡ found_in_order (map burst_found first) ++ map burst_found answers =
    map-append burst_found (shown_in_order first) answers ∙ ap (λ xs. xs ++ map burst_found answers) (order-found first) in
    same
    ∙ found-last k past before (map burst_found first) (map burst_found answers) (found ∙ ap (λ xs. before ++ xs) same)
    ∙ ap found_in_order (sym (map-append burst_found first answers) ∙ ap (map burst_found) (append_assoc old (command ∷ []) answers))

-- ---- the first quiet tick after them is the same in any order

abbrev later : ℕ → List ShownBurst → ℕ
later tick shown = fold (λ t (burst : ShownBurst). max t (burst_end burst)) tick shown

either-later : (b : Bool) (old command : ShownBurst) (answers : List ShownBurst) →
    quiet_after ((if b then old ∷ command ∷ [] else command ∷ old ∷ []) ++ answers) ≡ quiet_after (old ∷ command ∷ answers)
either-later true old command answers = refl
either-later false old command answers =
    let same : max (max 0 (burst_end command)) (burst_end old) ≡ max (max 0 (burst_end old)) (burst_end command) = omega arith in
    ap (λ t. later t answers) same

pub quiet-same : (old : Option ShownAnswer) (command : ShownBurst) (answers : List ShownBurst) →
    quiet_after (shown_in_order (abandoned_bursts old command ++ command ∷ []) ++ answers) ≡ quiet_after (abandoned_bursts old command ++ (command ∷ answers))
quiet-same None command answers = refl
quiet-same (Some old) command answers =
    let shown : ShownBurst = beside_command command old in
    either-later (is_before (burst_end shown) shown.channel (burst_end command)) shown command answers
