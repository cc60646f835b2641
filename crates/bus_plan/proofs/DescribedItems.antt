-- Each item of a plan is read back from the table that describes it.
use Rattle.std.proofs.Common.{◌≡◌, ◌<◌, ◌⊎◌, inl, inr, ℕ, Bool, true, false, cond, ◌==◌, List, [], ◌∷◌, length, Option, Some, None, arith, refl, sym, ap, ◌∙◌, subst}
use Rattle.std.specs.Prelude.{is_some}
use Rattle.bus_base.specs.declared.samples.Channel.{Channel}
use Rattle.bus_base.specs.declared.samples.Channel.TheVariants.{A, B}
use Rattle.bus_formats.specs.Accepted.{AreWords, HasReceiveRanges, HasTransmitRanges, HasModeRanges, HasItemRanges}
use Rattle.bus_formats.specs.Plans.{ItemData}
use Rattle.bus_formats.specs.declared.plan.Kind.{Kind}
use Rattle.bus_formats.specs.declared.plan.Kind.TheVariants.{Receive, Transmit, Relay, Mode}
use Rattle.bus_formats.specs.declared.plan.Turn.{Turn}
use Rattle.bus_plan.specs.Decode.{words_from, filled}
use Rattle.bus_plan.specs.DecodeItems.{usual_transmit, item_of}
use Rattle.bus_plan.specs.Described.{number, items_of, bit_number, item_members}
use Rattle.bus_plan.specs.Document.{number_within, number_in}
use Rattle.bus_plan.specs.Ranges.{address_range, terminal_range, word_range, sub_range, count_range, gap_range, abandon_range, code_range, transmit_range, mode_sub_range}
use Rattle.bus_plan.proofs.DescribedValues.{within-back, number-back, block-back, turns-read}
use Rattle.bus_plan.proofs.ExactItems.{all_first}

-- a value of three or of five parts, part by part
pub same3 : {A B C X : Type 0} (f : A → B → C → X) {a a' : A} {b b' : B} {c c' : C} → a ≡ a' → b ≡ b' → c ≡ c' → f a b c ≡ f a' b' c'
same3 f {a} {a'} {b} {b'} {c} {c'} p q r = ap (λ x. f x b c) p ∙ ap (λ y. f a' y c) q ∙ ap (λ z. f a' b' z) r

pub same5 : {A B C D E X : Type 0} (f : A → B → C → D → E → X) {a a' : A} {b b' : B} {c c' : C} {d d' : D} {e e' : E}
    → a ≡ a' → b ≡ b' → c ≡ c' → d ≡ d' → e ≡ e' → f a b c d e ≡ f a' b' c' d' e'
same5 f {a} {a'} {b} {b'} {c} {c'} {d} {d'} {e} {e'} p q r s t =
    same3 (λ x y z. f x y z d e) p q r ∙ ap (λ y. f a' b' c' y e) s ∙ ap (λ z. f a' b' c' d' z) t

receive-back : (to sub : ℕ) (words : List ℕ) → HasReceiveRanges to sub (length words) → AreWords words
    → Receive (number_in address_range 0 (Some (number to))) (number_in sub_range 1 (Some (number sub))) (filled (words_from [] (items_of number words)))
    ≡ Receive to sub words
receive-back to sub words h w =
    same3 (λ a b c. Receive a b c) (number-back address_range 0 to (omega arith, h.address)) (number-back sub_range 1 sub h.subaddress)
    (block-back words h.words.0 h.words.1 w)

transmit-back : (from sub count : ℕ) → HasTransmitRanges from sub count
    → Transmit (number_in terminal_range 0 (Some (number from))) (number_in sub_range 1 (Some (number sub))) (number_in count_range 1 (Some (number count)))
    ≡ Transmit from sub count
transmit-back from sub count h =
    same3 (λ a b c. Transmit a b c) (number-back terminal_range 0 from (omega arith, h.address)) (number-back sub_range 1 sub h.subaddress)
    (number-back count_range 1 count h.words)

relay-back : (from from_sub to to_sub count : ℕ) → HasTransmitRanges from from_sub count → HasReceiveRanges to to_sub count
    → Relay (number_in terminal_range 0 (Some (number from))) (number_in sub_range 1 (Some (number from_sub)))
    (number_in address_range 0 (Some (number to))) (number_in sub_range 1 (Some (number to_sub))) (number_in count_range 1 (Some (number count)))
    ≡ Relay from from_sub to to_sub count
relay-back from from_sub to to_sub count h r =
    same5 (λ a b c d e. Relay a b c d e) (number-back terminal_range 0 from (omega arith, h.address)) (number-back sub_range 1 from_sub h.subaddress)
    (number-back address_range 0 to (omega arith, r.address)) (number-back sub_range 1 to_sub r.subaddress) (number-back count_range 1 count h.words)

mode-sub-back : (m : ℕ) → (m ≡ 0) ⊎ (m ≡ 31) → cond (is_some (number_within mode_sub_range (Some (number m)))) 31 0 ≡ m
mode-sub-back m (inl e) = subst (λ n. cond (is_some (number_within mode_sub_range (Some (number n)))) 31 0 ≡ n) (sym e) refl
mode-sub-back m (inr e) = subst (λ n. cond (is_some (number_within mode_sub_range (Some (number n)))) 31 0 ≡ n) (sym e) refl

bit-back : (other : ℕ) (b : Bool) → (number_in transmit_range other (Some (number (bit_number b))) == 1) ≡ b
bit-back other true = refl
bit-back other false = refl

mode-back : (to mode_sub code : ℕ) (transmit : Bool) (read word : Option ℕ) → HasModeRanges to mode_sub code → read ≡ word
    → Mode (number_in address_range 0 (Some (number to))) (cond (is_some (number_within mode_sub_range (Some (number mode_sub)))) 31 0)
    (number_in transmit_range (usual_transmit (number_in code_range 0 (Some (number code)))) (Some (number (bit_number transmit))) == 1)
    (number_in code_range 0 (Some (number code))) read
    ≡ Mode to mode_sub transmit code word
mode-back to mode_sub code transmit read word h w =
    same5 (λ a b c d e. Mode a b c d e) (number-back address_range 0 to (omega arith, h.address)) (mode-sub-back mode_sub h.subaddress)
    (bit-back (usual_transmit (number_in code_range 0 (Some (number code)))) transmit) (number-back code_range 0 code (omega arith, h.mode)) w

word-back : (w : ℕ) → AreWords (w ∷ []) → number_within word_range (Some (number w)) ≡ Some w
word-back w h = let below : w < 65536 = all_first (λ w. w < 65536) w [] h in within-back word_range w (omega arith, omega (arith, below))

abbrev pub item_with : Kind → Option Channel → ℕ → List Turn → Option ℕ → ItemData
item_with kind channel gap retry abandon = record { kind = kind; channel = channel; gap = gap; retry = retry; abandon = abandon }

item-same : {k k' : Kind} {g g' : ℕ} {r r' : List Turn} {a a' : Option ℕ} (c : Option Channel) → k ≡ k' → g ≡ g' → r ≡ r' → a ≡ a'
    → item_with k c g r a ≡ item_with k' c g' r' a'
item-same c p q r s = same5 (λ k o g t a. item_with k o g t a) p refl q r s

item-back : (kind : Kind) (channel : Option Channel) (gap : ℕ) (retry : List Turn) (abandon : Option ℕ)
    → HasItemRanges (item_with kind channel gap retry abandon)
    → item_of (item_members (item_with kind channel gap retry abandon)) ≡ item_with kind channel gap retry abandon
item-back (Receive to sub words) None gap retry None h = item-same None (receive-back to sub words h.kind h.words) (number-back gap_range 8 gap h.gap) (turns-read retry h.retry) refl
item-back (Receive to sub words) None gap retry (Some n) h = item-same None (receive-back to sub words h.kind h.words) (number-back gap_range 8 gap h.gap) (turns-read retry h.retry) (within-back abandon_range n h.abandon)
item-back (Receive to sub words) (Some A) gap retry None h = item-same (Some A) (receive-back to sub words h.kind h.words) (number-back gap_range 8 gap h.gap) (turns-read retry h.retry) refl
item-back (Receive to sub words) (Some A) gap retry (Some n) h = item-same (Some A) (receive-back to sub words h.kind h.words) (number-back gap_range 8 gap h.gap) (turns-read retry h.retry) (within-back abandon_range n h.abandon)
item-back (Receive to sub words) (Some B) gap retry None h = item-same (Some B) (receive-back to sub words h.kind h.words) (number-back gap_range 8 gap h.gap) (turns-read retry h.retry) refl
item-back (Receive to sub words) (Some B) gap retry (Some n) h = item-same (Some B) (receive-back to sub words h.kind h.words) (number-back gap_range 8 gap h.gap) (turns-read retry h.retry) (within-back abandon_range n h.abandon)
item-back (Transmit from sub count) None gap retry None h = item-same None (transmit-back from sub count h.kind) (number-back gap_range 8 gap h.gap) (turns-read retry h.retry) refl
item-back (Transmit from sub count) None gap retry (Some n) h = item-same None (transmit-back from sub count h.kind) (number-back gap_range 8 gap h.gap) (turns-read retry h.retry) (within-back abandon_range n h.abandon)
item-back (Transmit from sub count) (Some A) gap retry None h = item-same (Some A) (transmit-back from sub count h.kind) (number-back gap_range 8 gap h.gap) (turns-read retry h.retry) refl
item-back (Transmit from sub count) (Some A) gap retry (Some n) h = item-same (Some A) (transmit-back from sub count h.kind) (number-back gap_range 8 gap h.gap) (turns-read retry h.retry) (within-back abandon_range n h.abandon)
item-back (Transmit from sub count) (Some B) gap retry None h = item-same (Some B) (transmit-back from sub count h.kind) (number-back gap_range 8 gap h.gap) (turns-read retry h.retry) refl
item-back (Transmit from sub count) (Some B) gap retry (Some n) h = item-same (Some B) (transmit-back from sub count h.kind) (number-back gap_range 8 gap h.gap) (turns-read retry h.retry) (within-back abandon_range n h.abandon)
item-back (Relay from from_sub to to_sub count) None gap retry None h = item-same None (relay-back from from_sub to to_sub count h.kind.0 h.kind.1) (number-back gap_range 8 gap h.gap) (turns-read retry h.retry) refl
item-back (Relay from from_sub to to_sub count) None gap retry (Some n) h = item-same None (relay-back from from_sub to to_sub count h.kind.0 h.kind.1) (number-back gap_range 8 gap h.gap) (turns-read retry h.retry) (within-back abandon_range n h.abandon)
item-back (Relay from from_sub to to_sub count) (Some A) gap retry None h = item-same (Some A) (relay-back from from_sub to to_sub count h.kind.0 h.kind.1) (number-back gap_range 8 gap h.gap) (turns-read retry h.retry) refl
item-back (Relay from from_sub to to_sub count) (Some A) gap retry (Some n) h = item-same (Some A) (relay-back from from_sub to to_sub count h.kind.0 h.kind.1) (number-back gap_range 8 gap h.gap) (turns-read retry h.retry) (within-back abandon_range n h.abandon)
item-back (Relay from from_sub to to_sub count) (Some B) gap retry None h = item-same (Some B) (relay-back from from_sub to to_sub count h.kind.0 h.kind.1) (number-back gap_range 8 gap h.gap) (turns-read retry h.retry) refl
item-back (Relay from from_sub to to_sub count) (Some B) gap retry (Some n) h = item-same (Some B) (relay-back from from_sub to to_sub count h.kind.0 h.kind.1) (number-back gap_range 8 gap h.gap) (turns-read retry h.retry) (within-back abandon_range n h.abandon)
item-back (Mode to mode_sub transmit code None) None gap retry None h = item-same None (mode-back to mode_sub code transmit _ None h.kind refl) (number-back gap_range 8 gap h.gap) (turns-read retry h.retry) refl
item-back (Mode to mode_sub transmit code None) None gap retry (Some n) h = item-same None (mode-back to mode_sub code transmit _ None h.kind refl) (number-back gap_range 8 gap h.gap) (turns-read retry h.retry) (within-back abandon_range n h.abandon)
item-back (Mode to mode_sub transmit code None) (Some A) gap retry None h = item-same (Some A) (mode-back to mode_sub code transmit _ None h.kind refl) (number-back gap_range 8 gap h.gap) (turns-read retry h.retry) refl
item-back (Mode to mode_sub transmit code None) (Some A) gap retry (Some n) h = item-same (Some A) (mode-back to mode_sub code transmit _ None h.kind refl) (number-back gap_range 8 gap h.gap) (turns-read retry h.retry) (within-back abandon_range n h.abandon)
item-back (Mode to mode_sub transmit code None) (Some B) gap retry None h = item-same (Some B) (mode-back to mode_sub code transmit _ None h.kind refl) (number-back gap_range 8 gap h.gap) (turns-read retry h.retry) refl
item-back (Mode to mode_sub transmit code None) (Some B) gap retry (Some n) h = item-same (Some B) (mode-back to mode_sub code transmit _ None h.kind refl) (number-back gap_range 8 gap h.gap) (turns-read retry h.retry) (within-back abandon_range n h.abandon)
item-back (Mode to mode_sub transmit code (Some w)) None gap retry None h = item-same None (mode-back to mode_sub code transmit _ (Some w) h.kind (word-back w h.words)) (number-back gap_range 8 gap h.gap) (turns-read retry h.retry) refl
item-back (Mode to mode_sub transmit code (Some w)) None gap retry (Some n) h = item-same None (mode-back to mode_sub code transmit _ (Some w) h.kind (word-back w h.words)) (number-back gap_range 8 gap h.gap) (turns-read retry h.retry) (within-back abandon_range n h.abandon)
item-back (Mode to mode_sub transmit code (Some w)) (Some A) gap retry None h = item-same (Some A) (mode-back to mode_sub code transmit _ (Some w) h.kind (word-back w h.words)) (number-back gap_range 8 gap h.gap) (turns-read retry h.retry) refl
item-back (Mode to mode_sub transmit code (Some w)) (Some A) gap retry (Some n) h = item-same (Some A) (mode-back to mode_sub code transmit _ (Some w) h.kind (word-back w h.words)) (number-back gap_range 8 gap h.gap) (turns-read retry h.retry) (within-back abandon_range n h.abandon)
item-back (Mode to mode_sub transmit code (Some w)) (Some B) gap retry None h = item-same (Some B) (mode-back to mode_sub code transmit _ (Some w) h.kind (word-back w h.words)) (number-back gap_range 8 gap h.gap) (turns-read retry h.retry) refl
item-back (Mode to mode_sub transmit code (Some w)) (Some B) gap retry (Some n) h = item-same (Some B) (mode-back to mode_sub code transmit _ (Some w) h.kind (word-back w h.words)) (number-back gap_range 8 gap h.gap) (turns-read retry h.retry) (within-back abandon_range n h.abandon)

pub item-read : (i : ItemData) → HasItemRanges i → item_of (item_members i) ≡ i
item-read i h = item-back i.kind i.channel i.gap i.retry i.abandon h
