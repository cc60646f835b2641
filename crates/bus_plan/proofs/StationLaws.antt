-- Each station and fault of a plan that is read has its ranges.
use Rattle.std.proofs.Common.{◌≡◌, ◌<◌, ◌≤◌, ◌⊎◌, inl, inr, ℕ, Bool, true, false, cond, ◌&&◌, not, List, [], length, Option, Some, None, All, IfSome, arith, refl, codes, option_to_list}
use Rattle.std.proofs.lemmas.Bool.Decides.{nat_tests}
use Rattle.std.proofs.lemmas.List.Elements.{All-nil, All-cons}
use Rattle.toml.specs.Data.{Items, no_items, item, Members, get_member}
use Rattle.bus_base.specs.Positions.{IsBetween, set_of}
use Rattle.bus_base.specs.declared.samples.Part.{Part}
use Rattle.bus_base.specs.declared.samples.Part.TheVariants.{Command, First, Second}
use Rattle.bus_formats.specs.Accepted.{IsRefusable, HasKindRanges, HasItemRanges, HasFrameRanges, HasLoadRanges, HasTerminalRanges, HasStationRanges, HasHitRanges, HasFaultRanges, AreWords, words_sent, least_cut}
use Rattle.bus_formats.specs.declared.plan.Kind.{Kind}
use Rattle.bus_formats.specs.declared.plan.Turn.{Turn}
use Rattle.bus_plan.specs.Decode.{list_at, number_at}
use Rattle.bus_plan.specs.DecodeItems.{receive_of, transmit_of, relay_of, mode_of, kind_of, turn_of, turns_from, turns_of, item_of, frame_of, load_of, terminal_of, station_of}
use Rattle.bus_plan.specs.DecodeFaults.{part_of, positions_at, flip_of, fade_of, struck_of, hit_of, fault_of, plan_of}
use Rattle.bus_plan.specs.Positions.{pushed, may_stand, is_undetectable}
use Rattle.bus_plan.specs.Ranges.{address_range, terminal_range, delay_range, word_range, own_sub_range, sub_range, count_range, repeat_range, frame_range, gap_range, abandon_range, code_range, attempt_range, struck_range, after_range, command_after_range, extra_range, flip_range, fade_range}
use Rattle.bus_plan.specs.Rows.{has_text}
use Rattle.bus_plan.specs.Rules.{unless_obeyed, is_always_obeyed}
use Rattle.bus_plan.specs.declared.ranges.Range.{Range}
use Rattle.bus_plan.specs.declared.rows.Head.{Head}
use Rattle.bus_plan.specs.declared.rows.Refusable.TheVariants.{Subaddresses, ModeCodes}
use Rattle.bus_plan.proofs.RangeLaws.{at, within, all_at, pushed_length, block_fits, block_words, lists_at}
use Rattle.bus_plan.proofs.Flips.{detectable_list, fade_list}

-- a property of either choice is one of the chosen
either : {T : Type 0} (P : T → Type 0) (b : Bool) (x y : T) → P x → P y → P (cond b x y)
either P true x y p q = p
either P false x y p q = q

mode_sub_ranged : (b : Bool) (x y : ℕ) → (cond b x y ≡ y) ⊎ (cond b x y ≡ x)
mode_sub_ranged true x y = inr refl
mode_sub_ranged false x y = inl refl

receive_ranged : (ms : Members) → HasKindRanges (receive_of ms)
receive_ranged ms = record {
  address = (at address_range 0 (codes "to") ms (omega arith) (omega arith)).1;
  subaddress = at sub_range 1 (codes "sub") ms (omega arith) (omega arith);
  words = block_fits (codes "words") ms;
}

transmit_ranged : (ms : Members) → HasKindRanges (transmit_of ms)
transmit_ranged ms = record {
  address = (at terminal_range 0 (codes "from") ms (omega arith) (omega arith)).1;
  subaddress = at sub_range 1 (codes "sub") ms (omega arith) (omega arith);
  words = at count_range 1 (codes "count") ms (omega arith) (omega arith);
}

relay_ranged : (ms : Members) → HasKindRanges (relay_of ms)
relay_ranged ms = (
  record {
    address = (at terminal_range 0 (codes "from") ms (omega arith) (omega arith)).1;
    subaddress = at sub_range 1 (codes "from_sub") ms (omega arith) (omega arith);
    words = at count_range 1 (codes "count") ms (omega arith) (omega arith);
  },
  record {
    address = (at address_range 0 (codes "to") ms (omega arith) (omega arith)).1;
    subaddress = at sub_range 1 (codes "to_sub") ms (omega arith) (omega arith);
    words = at count_range 1 (codes "count") ms (omega arith) (omega arith);
  },
)

mode_ranged : (ms : Members) → HasKindRanges (mode_of ms)
mode_ranged ms = record {
  address = (at address_range 0 (codes "to") ms (omega arith) (omega arith)).1;
  subaddress = mode_sub_ranged _ 31 0;
  mode = (at code_range 0 (codes "code") ms (omega arith) (omega arith)).1;
}

kind_either : (P : Kind → Type 0) (ms : Members) → P (receive_of ms) → P (transmit_of ms) → P (relay_of ms) → P (mode_of ms) → P (kind_of ms)
kind_either P ms r t l m =
    either P (has_text (codes "form") (codes "receive") ms) _ _ r
    (either P (has_text (codes "form") (codes "transmit") ms) _ _ t (either P (has_text (codes "form") (codes "relay") ms) _ _ l m))

option_words : (w : Option ℕ) → IfSome w (IsBetween 0 65535) → AreWords (option_to_list w)
option_words None h = All-nil (λ w. w < 65536)
option_words (Some w) h = All-cons (λ w. w < 65536) w [] (omega (arith, h.1)) (All-nil (λ w. w < 65536))

turns_fit : (turns : List Turn) (ds : Items) → length turns ≤ 3 → length (turns_from turns ds) ≤ 3
turns_fit turns no_items h = h
turns_fit turns (item d ds) h = turns_fit (pushed 3 turns (turn_of d)) ds (pushed_length 3 turns (turn_of d) h)

turns_of_fit : (ds : Option Items) → length (turns_of ds) ≤ 3
turns_of_fit None = omega arith
turns_of_fit (Some ds) = turns_fit [] ds (omega arith)

item_ranged : (ms : Members) → HasItemRanges (item_of ms)
item_ranged ms = record {
  kind = kind_either HasKindRanges ms (receive_ranged ms) (transmit_ranged ms) (relay_ranged ms) (mode_ranged ms);
  words = kind_either (λ k. AreWords (words_sent k)) ms (block_words (codes "words") ms) (All-nil (λ w. w < 65536)) (All-nil (λ w. w < 65536))
      (option_words _ (within word_range (get_member (codes "word") ms)));
  gap = at gap_range 8 (codes "gap") ms (omega arith) (omega arith);
  retry = turns_of_fit (list_at (codes "retry") ms);
  abandon = within abandon_range (get_member (codes "abandon") ms);
}

frame_ranged : (ms : Members) → HasFrameRanges (frame_of ms)
frame_ranged ms = record {
  ticks = (at frame_range 0 (codes "ticks") ms (omega arith) (omega arith)).1;
  items = all_at HasItemRanges item_of item_ranged (codes "item") ms;
}

load_ranged : (ms : Members) → HasLoadRanges (load_of ms)
load_ranged ms = record {
  sub = at own_sub_range 1 (codes "sub") ms (omega arith) (omega arith);
  count = block_fits (codes "words") ms;
  words = block_words (codes "words") ms;
}

obeyed_cases : (code : ℕ) (b : Bool) → code ≤ 31 → is_always_obeyed code ≡ b → IfSome (cond b None (Some code)) IsRefusable
obeyed_cases code true h e = tt
obeyed_cases code false h e = record {
  within = h;
  status = λ s. grind (arith, nat_tests);
  shutdown = λ s. grind (arith, nat_tests);
  override = λ s. grind (arith, nat_tests);
  reset = λ s. grind (arith, nat_tests);
}

code_refusable : (code : Option ℕ) → IfSome code (IsBetween 0 31) → IfSome (unless_obeyed code) IsRefusable
code_refusable None h = tt
code_refusable (Some code) h = obeyed_cases code (is_always_obeyed code) h.1 refl

first_refusable : IsRefusable 0
first_refusable = record {
  within = omega arith;
  status = λ e. omega (arith, e);
  shutdown = λ e. omega (arith, e);
  override = λ e. omega (arith, e);
  reset = λ e. omega (arith, e);
}

at_most : (range : Range) (other high : ℕ) (key : List ℕ) (ms : Members) → range.low ≤ other → other ≤ range.high → range.high ≤ high
    → number_at range other key ms ≤ high
at_most range other high key ms l h t = let r = at range other key ms l h in omega (arith, r.1, t)

terminal_ranged : (head : Head) (ms : Members) → HasTerminalRanges (terminal_of head ms)
terminal_ranged head ms = record {
  address = either (λ n. n ≤ 31) head.last_starts _ _
      (at_most address_range 0 31 (codes "address") ms (omega arith) (omega arith) (omega arith))
      (at_most terminal_range 0 31 (codes "address") ms (omega arith) (omega arith) (omega arith));
  delay = at delay_range 8 (codes "delay") ms (omega arith) (omega arith);
  vector = omega (arith, at_most word_range 0 65535 (codes "vector") ms (omega arith) (omega arith) (omega arith));
  bit = omega (arith, at_most word_range 0 65535 (codes "bit") ms (omega arith) (omega arith) (omega arith));
  no_receive = lists_at (IsBetween 1 29) Subaddresses (omega arith, omega arith) (λ d. within own_sub_range (Some d)) (codes "no_receive") ms;
  no_transmit = lists_at (IsBetween 1 29) Subaddresses (omega arith, omega arith) (λ d. within own_sub_range (Some d)) (codes "no_transmit") ms;
  no_mode = lists_at IsRefusable ModeCodes first_refusable (λ d. code_refusable _ (within code_range (Some d))) (codes "no_mode") ms;
  loads = all_at HasLoadRanges load_of load_ranged (codes "load") ms;
}

station_ranged : (head : Head) (ms : Members) → HasStationRanges (station_of head ms)
station_ranged head ms = record {
  terminal = terminal_ranged head ms;
  frames = all_at HasFrameRanges frame_of frame_ranged (codes "frame") ms;
  repeat = at repeat_range 1 (codes "repeat") ms (omega arith) (omega arith);
}

flip_cases : (part : Part) (word : ℕ) (ps : List ℕ) (b : Bool) → word ≤ 39
    → (may_stand flip_range 40 ps && not (is_undetectable (set_of ps))) ≡ b
    → HasHitRanges part (flip_of word (cond b (Some (set_of ps)) None))
flip_cases part word ps true w e = (w, (ps, detectable_list ps e, refl))
flip_cases part word ps false w e = (omega arith, omega arith)

fade_cases : (part : Part) (word : ℕ) (ps : List ℕ) (b : Bool) → word ≤ 39 → may_stand fade_range 3 ps ≡ b
    → HasHitRanges part (fade_of word (cond b (Some (set_of ps)) None))
fade_cases part word ps true w e = (w, (ps, fade_list ps e, refl))
fade_cases part word ps false w e = (omega arith, omega arith)

cut_cases : (c f : Bool) (x y : ℕ) → IsBetween 1 32 x → IsBetween 0 32 y → IsBetween (least_cut (cond c Command (cond f First Second))) 32 (cond c x y)
cut_cases true f x y p q = p
cut_cases false true x y p q = q
cut_cases false false x y p q = q

struck : (ms : Members) → struck_of ms ≤ 39
struck ms = (at struck_range 0 (codes "word") ms (omega arith) (omega arith)).1

hit_ranged : (ms : Members) → HasHitRanges (part_of ms) (hit_of ms)
hit_ranged ms =
    either (HasHitRanges (part_of ms)) (has_text (codes "kind") (codes "flip") ms) _ _
    (flip_cases (part_of ms) (struck_of ms) (positions_at ms) _ (struck ms) refl)
    (either (HasHitRanges (part_of ms)) (has_text (codes "kind") (codes "fade") ms) _ _
    (fade_cases (part_of ms) (struck_of ms) (positions_at ms) _ (struck ms) refl)
    (either (HasHitRanges (part_of ms)) (has_text (codes "kind") (codes "cut") ms) _ _
    (cut_cases (has_text (codes "part") (codes "command") ms) (has_text (codes "part") (codes "first") ms) _ _
    (at command_after_range 1 (codes "after") ms (omega arith) (omega arith)) (at after_range 0 (codes "after") ms (omega arith) (omega arith)))
    (at extra_range 1 (codes "words") ms (omega arith) (omega arith))))

fault_ranged : (ms : Members) → HasFaultRanges (fault_of ms)
fault_ranged ms = record { attempt = at attempt_range 1 (codes "attempt") ms (omega arith) (omega arith); hit = hit_ranged ms }

-- the stations and faults of each document that is read have their ranges
pub stations_ranged : (head : Head) (doc : Members) → All HasStationRanges (plan_of head doc).stations
stations_ranged head doc = all_at HasStationRanges (station_of head) (station_ranged head) (codes "station") doc

pub faults_ranged : (head : Head) (doc : Members) → All HasFaultRanges (plan_of head doc).faults
faults_ranged head doc = all_at HasFaultRanges fault_of fault_ranged (codes "fault") doc
