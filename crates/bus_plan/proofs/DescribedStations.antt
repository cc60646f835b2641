-- Each station and each fault of an accepted plan is read back from the table that describes it, and so is the plan from the document.
use Rattle.std.proofs.Common.{◌≡◌, ◌≤◌, inl, inr, ℕ, Bool, true, false, cond, ◌==◌, List, Option, Some, None, IsNone, arith, refl, sym, ap, ◌∙◌}
use Rattle.std.proofs.lemmas.Bool.{cases_eq, false≢true}
use Rattle.toml.specs.Data.{table}
use Rattle.bus_base.specs.declared.samples.Channel.{Channel}
use Rattle.bus_base.specs.declared.samples.Channel.TheVariants.{A, B}
use Rattle.bus_formats.specs.Accepted.{HasItemRanges, HasFrameRanges, HasLoadRanges, HasTerminalRanges, HasStationRanges}
use Rattle.bus_formats.specs.Plans.{ItemData, FrameData, TerminalData, StationData}
use Rattle.bus_formats.specs.declared.plan.Load.{Load}
use Rattle.bus_formats.specs.declared.plan.SubsystemKind.{SubsystemKind}
use Rattle.bus_formats.specs.declared.plan.SubsystemKind.TheVariants.{Recorder, Tally}
use Rattle.bus_plan.specs.Decode.{tables, bits_from}
use Rattle.bus_plan.specs.DecodeItems.{item_of, frame_of, load_of, station_of}
use Rattle.bus_plan.specs.Described.{number, items_of, numbers_in, item_members, frame_members, load_members, station_members}
use Rattle.bus_plan.specs.Document.{number_in}
use Rattle.bus_plan.specs.Ranges.{address_range, terminal_range, delay_range, word_range, own_sub_range, repeat_range, frame_range}
use Rattle.bus_plan.specs.declared.rows.Head.{Head}
use Rattle.bus_plan.specs.declared.rows.Refusable.TheVariants.{Subaddresses, ModeCodes}
use Rattle.bus_plan.proofs.DescribedItems.{same3, same5, item-read}
use Rattle.bus_plan.proofs.ExactItems.{all_map, eqb-apart}
use Rattle.bus_plan.proofs.DescribedValues.{number-back, block-back, tables-back, subs-back, codes-back}

-- ---- frames and loads

pub same2 : {A B X : Type 0} (f : A → B → X) {a a' : A} {b b' : B} → a ≡ a' → b ≡ b' → f a b ≡ f a' b'
same2 f {a} {a'} {b} {b'} p q = ap (λ x. f x b) p ∙ ap (λ y. f a' y) q

abbrev frame_with : ℕ → List ItemData → FrameData
frame_with ticks items = record { ticks = ticks; items = items }

frame-read : (f : FrameData) → HasFrameRanges f → frame_of (frame_members f) ≡ f
frame-read f h =
    same2 frame_with (number-back frame_range 0 f.ticks (omega arith, h.ticks))
    (tables-back item_of item_members f.items (all_map HasItemRanges (λ i. item_of (item_members i) ≡ i) f.items item-read h.items))

abbrev load_with : ℕ → List ℕ → Load
load_with sub words = record { sub = sub; words = words }

load-read : (l : Load) → HasLoadRanges l → load_of (load_members l) ≡ l
load-read l h = same2 load_with (number-back own_sub_range 1 l.sub h.sub) (block-back l.words h.count.0 h.count.1 h.words)

-- ---- stations

-- the same station with another subsystem and channel, over which the table is read by cases
abbrev terminal_as : TerminalData → Option SubsystemKind → TerminalData
terminal_as t o = record t { subsystem = o }

abbrev station_as : StationData → Option SubsystemKind → Channel → StationData
station_as s o c = record { terminal = terminal_as s.terminal o; channel = c; frames = s.frames; repeat = s.repeat }

abbrev terminal_made : TerminalData → ℕ → ℕ → ℕ → ℕ → ℕ → ℕ → ℕ → Option SubsystemKind → List Load → TerminalData
terminal_made t address delay vector bit no_receive no_transmit no_mode subsystem loads = record {
  address = address;
  delay = delay;
  busy = t.busy;
  service = t.service;
  subsystem_flag = t.subsystem_flag;
  terminal_flag = t.terminal_flag;
  accepts = t.accepts;
  vector = vector;
  bit = bit;
  no_receive = no_receive;
  no_transmit = no_transmit;
  no_mode = no_mode;
  subsystem = subsystem;
  loads = loads;
}

address-read : (last : Bool) (a : ℕ) → a ≤ 31 → (a ≡ 31 → last ≡ true)
    → cond last (number_in address_range 0 (Some (number a))) (number_in terminal_range 0 (Some (number a))) ≡ a
address-read true a h l = number-back address_range 0 a (omega arith, h)
address-read false a h l =
    let below : a ≤ 30 =
    elim (cases_eq a 31) [
      | inl e ↦ absurd (false≢true (l e))
      | inr ne ↦ omega (arith, h, ne)
    ] in
    number-back terminal_range 0 a (omega arith, below)

-- a terminal is read back, where its subsystem is
terminal-made-back : (t : TerminalData) (a : ℕ) (o read : Option SubsystemKind) → HasTerminalRanges t → a ≡ t.address → read ≡ o
    → terminal_made t a (number_in delay_range 8 (Some (number t.delay))) (number_in word_range 0 (Some (number t.vector)))
    (number_in word_range 0 (Some (number t.bit))) (bits_from Subaddresses 0 (items_of number (numbers_in t.no_receive 0 32)))
    (bits_from Subaddresses 0 (items_of number (numbers_in t.no_transmit 0 32))) (bits_from ModeCodes 0 (items_of number (numbers_in t.no_mode 0 32)))
    read (tables load_of (items_of (λ l. table (load_members l)) t.loads))
    ≡ terminal_as t o
terminal-made-back t a o read h e r =
    let more : ℕ = bits_from Subaddresses 0 (items_of number (numbers_in t.no_transmit 0 32)) in
    let modes : ℕ = bits_from ModeCodes 0 (items_of number (numbers_in t.no_mode 0 32)) in
    let loads : List Load = tables load_of (items_of (λ l. table (load_members l)) t.loads) in
    same5 (λ a d v b n. terminal_made t a d v b n more modes read loads) e (number-back delay_range 8 t.delay h.delay)
    (number-back word_range 0 t.vector (omega arith, omega (arith, h.vector))) (number-back word_range 0 t.bit (omega arith, omega (arith, h.bit)))
    (subs-back t.no_receive h.no_receive)
    ∙ same3 (λ n m x. terminal_made t t.address t.delay t.vector t.bit t.no_receive n m x loads) (subs-back t.no_transmit h.no_transmit)
    (codes-back t.no_mode h.no_mode) r
    ∙ ap (λ ls. terminal_made t t.address t.delay t.vector t.bit t.no_receive t.no_transmit t.no_mode o ls)
    (tables-back load_of load_members t.loads (all_map HasLoadRanges (λ l. load_of (load_members l) ≡ l) t.loads load-read h.loads))

abbrev station_with : TerminalData → Channel → List FrameData → ℕ → StationData
station_with terminal channel frames repeat = record { terminal = terminal; channel = channel; frames = frames; repeat = repeat }

frames-read : (s : StationData) → HasStationRanges s → tables frame_of (items_of (λ f. table (frame_members f)) s.frames) ≡ s.frames
frames-read s h =
    tables-back frame_of frame_members s.frames (all_map HasFrameRanges (λ f. frame_of (frame_members f) ≡ f) s.frames frame-read h.frames)

repeat-read : (s : StationData) → HasStationRanges s → number_in repeat_range 1 (Some (number s.repeat)) ≡ s.repeat
repeat-read s h = number-back repeat_range 1 s.repeat h.repeat

none-either : (b : Bool) → cond {A = Option SubsystemKind} b None None ≡ None
none-either true = refl
none-either false = refl

some-unless : (a : ℕ) (o : Option SubsystemKind) → (a ≡ 31 → ⊥) → cond (a == 31) None o ≡ o
some-unless a o h = let e : (a == 31) ≡ false = eqb-apart a 31 h in rw e refl

-- what is asked of a station beside its ranges: the address 31 only where it starts, and without a subsystem
pub record IsFit (head : Head) (a : ℕ) (o : Option SubsystemKind) : Type 0 where
  pub starts : a ≡ 31 → head.last_starts ≡ true
  pub alone : a ≡ 31 → IsNone o

pub some-alone : (k : SubsystemKind) → IsNone (Some k) → ⊥
some-alone k h = false≢true (sym h)

abbrev Address : Head → StationData → ℕ
Address head s =
    cond head.last_starts (number_in address_range 0 (Some (number s.terminal.address))) (number_in terminal_range 0 (Some (number s.terminal.address)))

station-back : (head : Head) (s : StationData) (o : Option SubsystemKind) (c : Channel) → HasStationRanges s → IsFit head s.terminal.address o
    → station_of head (station_members (station_as s o c)) ≡ station_as s o c
station-back head s None A h f =
    same3 (λ t fs n. station_with t A fs n)
    (terminal-made-back s.terminal (Address head s) None _ h.terminal (address-read head.last_starts s.terminal.address h.terminal.address f.starts) (none-either (Address head s == 31)))
    (frames-read s h) (repeat-read s h)
station-back head s None B h f =
    same3 (λ t fs n. station_with t B fs n)
    (terminal-made-back s.terminal (Address head s) None _ h.terminal (address-read head.last_starts s.terminal.address h.terminal.address f.starts) (none-either (Address head s == 31)))
    (frames-read s h) (repeat-read s h)
station-back head s (Some Recorder) A h f =
    same3 (λ t fs n. station_with t A fs n)
    (terminal-made-back s.terminal (Address head s) (Some Recorder) _ h.terminal (address-read head.last_starts s.terminal.address h.terminal.address f.starts) ((let same : Address head s ≡ s.terminal.address = address-read head.last_starts s.terminal.address h.terminal.address f.starts in some-unless (Address head s) (Some Recorder) (λ e. some-alone Recorder (f.alone (sym same ∙ e))))))
    (frames-read s h) (repeat-read s h)
station-back head s (Some Recorder) B h f =
    same3 (λ t fs n. station_with t B fs n)
    (terminal-made-back s.terminal (Address head s) (Some Recorder) _ h.terminal (address-read head.last_starts s.terminal.address h.terminal.address f.starts) ((let same : Address head s ≡ s.terminal.address = address-read head.last_starts s.terminal.address h.terminal.address f.starts in some-unless (Address head s) (Some Recorder) (λ e. some-alone Recorder (f.alone (sym same ∙ e))))))
    (frames-read s h) (repeat-read s h)
station-back head s (Some Tally) A h f =
    same3 (λ t fs n. station_with t A fs n)
    (terminal-made-back s.terminal (Address head s) (Some Tally) _ h.terminal (address-read head.last_starts s.terminal.address h.terminal.address f.starts) ((let same : Address head s ≡ s.terminal.address = address-read head.last_starts s.terminal.address h.terminal.address f.starts in some-unless (Address head s) (Some Tally) (λ e. some-alone Tally (f.alone (sym same ∙ e))))))
    (frames-read s h) (repeat-read s h)
station-back head s (Some Tally) B h f =
    same3 (λ t fs n. station_with t B fs n)
    (terminal-made-back s.terminal (Address head s) (Some Tally) _ h.terminal (address-read head.last_starts s.terminal.address h.terminal.address f.starts) ((let same : Address head s ≡ s.terminal.address = address-read head.last_starts s.terminal.address h.terminal.address f.starts in some-unless (Address head s) (Some Tally) (λ e. some-alone Tally (f.alone (sym same ∙ e))))))
    (frames-read s h) (repeat-read s h)

pub station-read : (head : Head) (s : StationData) → HasStationRanges s → IsFit head s.terminal.address s.terminal.subsystem
    → station_of head (station_members s) ≡ s
station-read head s h f = station-back head s s.terminal.subsystem s.channel h f
