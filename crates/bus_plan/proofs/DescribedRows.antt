-- No item, frame or load of the document that describes an accepted plan breaks a rule on keys, kinds and ranges.
use Rattle.std.proofs.Common.{◌≡◌, ◌<◌, ◌≤◌, ℕ, Bool, true, false, List, [], ◌∷◌, length, get_or, Option, Some, None, arith, refl, codes, option_to_list}
use Rattle.toml.specs.Data.{Members}
use Rattle.bus_base.specs.declared.samples.Channel.{Channel}
use Rattle.bus_formats.specs.Accepted.{AreWords, HasReceiveRanges, HasTransmitRanges, HasModeRanges, HasItemRanges, HasFrameRanges, HasLoadRanges}
use Rattle.bus_formats.specs.Plans.{ItemData, FrameData}
use Rattle.bus_formats.specs.declared.plan.Kind.{Kind}
use Rattle.bus_formats.specs.declared.plan.Kind.TheVariants.{Receive, Transmit, Relay, Mode}
use Rattle.bus_formats.specs.declared.plan.Load.{Load}
use Rattle.bus_formats.specs.declared.plan.Turn.{Turn}
use Rattle.bus_plan.specs.Described.{number, bit_number, form_members, item_members, frame_members, load_members}
use Rattle.bus_plan.specs.Ranges.{address_range, terminal_range, word_range, own_sub_range, sub_range, count_range, frame_range, gap_range, abandon_range, code_range, transmit_range}
use Rattle.bus_plan.specs.Rows.{rows_from, rows_of, item_rows, receive_rows, transmit_rows, relay_rows, mode_rows}
use Rattle.bus_plan.specs.Rules.{in_table}
use Rattle.bus_plan.specs.Tables.{EachMember, KeepsRows, EachInFrame}
use Rattle.bus_plan.specs.declared.rows.Head.{Head}
use Rattle.bus_plan.specs.declared.rows.Shape.TheVariants.{Number, Either, Word, DataWords, Turns, Tables}
use Rattle.bus_plan.specs.declared.rows.TableKind.{TableKind}
use Rattle.bus_plan.specs.declared.rows.TableKind.TheVariants as kinds
use Rattle.bus_plan.specs.declared.rows.Words.TheVariants as words
use Rattle.bus_plan.specs.declared.rules.Rule.{Rule}
use Rattle.bus_plan.specs.declared.rules.Rule.TheVariants.{Missing}
use Rattle.bus_plan.proofs.DescribedItems.{item_with}
use Rattle.bus_plan.proofs.DescribedFits.{IsFitting, Fits, rows-kept, fit-number, fit-word, fit-channel, fit-either, fit-words, fit-turns, fit-tables, all-made}
use Rattle.bus_plan.proofs.ExactItems.{all_first}
use Rattle.bus_plan.proofs.RangeLaws.{IsIn}

-- the head of a document of version 2
abbrev pub second : Bool → Head
second last = record { is_second = true; last_starts = last }

-- no table of the kind that is made so breaks a rule
abbrev pub IsKept : TableKind → Bool → Members → Type 0
IsKept kind last ms = (rule : Rule) → KeepsRows rule (second last) (rows_of kind (second last) ms) ms

-- ---- items

sent-word : (w : ℕ) → AreWords (w ∷ []) → IsIn word_range w
sent-word w h = let below : w < 65536 = all_first (λ w. w < 65536) w [] h in (omega arith, omega (arith, below))

module _ (head : Head) (gap : ℕ) (retry : List Turn) (g : IsIn gap_range gap) (few : length retry ≤ 3) where
  receive-fits : (to sub : ℕ) (ws : List ℕ) → HasReceiveRanges to sub (length ws) → AreWords ws
      → EachMember (Fits head (rows_from item_rows receive_rows)) (form_members gap retry (Receive to sub ws))
  receive-fits to sub ws h w = (
    (Word words.Forms, refl, fit-word words.Forms (codes "receive") refl),
    (
      (Number gap_range, refl, fit-number gap_range gap g),
      (
        (Turns, refl, fit-turns retry few),
        (
          (Number sub_range, refl, fit-number sub_range sub h.subaddress),
          (
            (Number address_range, refl, fit-number address_range to (omega arith, h.address)),
            (
              (DataWords, refl, fit-words ws h.words.0 h.words.1 w),
              tt,
            ),
          ),
        ),
      ),
    ),
  )

  transmit-fits : (from sub count : ℕ) → HasTransmitRanges from sub count
      → EachMember (Fits head (rows_from item_rows transmit_rows)) (form_members gap retry (Transmit from sub count))
  transmit-fits from sub count h = (
    (Number count_range, refl, fit-number count_range count h.words),
    (
      (Word words.Forms, refl, fit-word words.Forms (codes "transmit") refl),
      (
        (Number terminal_range, refl, fit-number terminal_range from (omega arith, h.address)),
        (
          (Number gap_range, refl, fit-number gap_range gap g),
          (
            (Turns, refl, fit-turns retry few),
            (
              (Number sub_range, refl, fit-number sub_range sub h.subaddress),
              tt,
            ),
          ),
        ),
      ),
    ),
  )

  relay-fits : (from from_sub to to_sub count : ℕ) → HasTransmitRanges from from_sub count → HasReceiveRanges to to_sub count
      → EachMember (Fits head (rows_from item_rows relay_rows)) (form_members gap retry (Relay from from_sub to to_sub count))
  relay-fits from from_sub to to_sub count h r = (
    (Number count_range, refl, fit-number count_range count h.words),
    (
      (Word words.Forms, refl, fit-word words.Forms (codes "relay") refl),
      (
        (Number terminal_range, refl, fit-number terminal_range from (omega arith, h.address)),
        (
          (Number sub_range, refl, fit-number sub_range from_sub h.subaddress),
          (
            (Number gap_range, refl, fit-number gap_range gap g),
            (
              (Turns, refl, fit-turns retry few),
              (
                (Number address_range, refl, fit-number address_range to (omega arith, r.address)),
                (
                  (Number sub_range, refl, fit-number sub_range to_sub r.subaddress),
                  tt,
                ),
              ),
            ),
          ),
        ),
      ),
    ),
  )

  bit-fits : (b : Bool) → IsFitting (Number transmit_range) (number (bit_number b))
  bit-fits true = fit-number transmit_range 1 (omega arith, omega arith)
  bit-fits false = fit-number transmit_range 0 (omega arith, omega arith)

  mode-fits : (to mode_sub code : ℕ) (transmit : Bool) (word : Option ℕ) → HasModeRanges to mode_sub code → AreWords (option_to_list word)
      → EachMember (Fits head (rows_from item_rows mode_rows)) (form_members gap retry (Mode to mode_sub transmit code word))
  mode-fits to mode_sub code transmit None h w = (
    (Number code_range, refl, fit-number code_range code (omega arith, h.mode)),
    (
      (Word words.Forms, refl, fit-word words.Forms (codes "mode") refl),
      (
        (Number gap_range, refl, fit-number gap_range gap g),
        (
          (Either 0 31, refl, fit-either mode_sub h.subaddress),
          (
            (Turns, refl, fit-turns retry few),
            (
              (Number transmit_range, refl, bit-fits transmit),
              (
                (Number address_range, refl, fit-number address_range to (omega arith, h.address)),
                tt,
              ),
            ),
          ),
        ),
      ),
    ),
  )
  mode-fits to mode_sub code transmit (Some word) h w = (
    (Number code_range, refl, fit-number code_range code (omega arith, h.mode)),
    (
      (Word words.Forms, refl, fit-word words.Forms (codes "mode") refl),
      (
        (Number gap_range, refl, fit-number gap_range gap g),
        (
          (Either 0 31, refl, fit-either mode_sub h.subaddress),
          (
            (Turns, refl, fit-turns retry few),
            (
              (Number transmit_range, refl, bit-fits transmit),
              (
                (Number address_range, refl, fit-number address_range to (omega arith, h.address)),
                (
                  (Number word_range, refl, fit-number word_range word (sent-word word w)),
                  tt,
                ),
              ),
            ),
          ),
        ),
      ),
    ),
  )

item-fits : (head : Head) (kind : Kind) (channel : Option Channel) (gap : ℕ) (retry : List Turn) (abandon : Option ℕ)
    → HasItemRanges (item_with kind channel gap retry abandon)
    → EachMember (Fits head (rows_of kinds.Item head (item_members (item_with kind channel gap retry abandon))))
    (item_members (item_with kind channel gap retry abandon))
item-fits head (Receive to sub ws) None gap retry None h = receive-fits head gap retry h.gap h.retry to sub ws h.kind h.words
item-fits head (Receive to sub ws) None gap retry (Some n) h = ((Number abandon_range, refl, fit-number abandon_range n h.abandon), receive-fits head gap retry h.gap h.retry to sub ws h.kind h.words)
item-fits head (Receive to sub ws) (Some c) gap retry None h = ((Word words.Channels, refl, fit-channel c), receive-fits head gap retry h.gap h.retry to sub ws h.kind h.words)
item-fits head (Receive to sub ws) (Some c) gap retry (Some n) h = ((Number abandon_range, refl, fit-number abandon_range n h.abandon), ((Word words.Channels, refl, fit-channel c), receive-fits head gap retry h.gap h.retry to sub ws h.kind h.words))
item-fits head (Transmit from sub count) None gap retry None h = transmit-fits head gap retry h.gap h.retry from sub count h.kind
item-fits head (Transmit from sub count) None gap retry (Some n) h = ((Number abandon_range, refl, fit-number abandon_range n h.abandon), transmit-fits head gap retry h.gap h.retry from sub count h.kind)
item-fits head (Transmit from sub count) (Some c) gap retry None h = ((Word words.Channels, refl, fit-channel c), transmit-fits head gap retry h.gap h.retry from sub count h.kind)
item-fits head (Transmit from sub count) (Some c) gap retry (Some n) h = ((Number abandon_range, refl, fit-number abandon_range n h.abandon), ((Word words.Channels, refl, fit-channel c), transmit-fits head gap retry h.gap h.retry from sub count h.kind))
item-fits head (Relay from from_sub to to_sub count) None gap retry None h = relay-fits head gap retry h.gap h.retry from from_sub to to_sub count h.kind.0 h.kind.1
item-fits head (Relay from from_sub to to_sub count) None gap retry (Some n) h = ((Number abandon_range, refl, fit-number abandon_range n h.abandon), relay-fits head gap retry h.gap h.retry from from_sub to to_sub count h.kind.0 h.kind.1)
item-fits head (Relay from from_sub to to_sub count) (Some c) gap retry None h = ((Word words.Channels, refl, fit-channel c), relay-fits head gap retry h.gap h.retry from from_sub to to_sub count h.kind.0 h.kind.1)
item-fits head (Relay from from_sub to to_sub count) (Some c) gap retry (Some n) h = ((Number abandon_range, refl, fit-number abandon_range n h.abandon), ((Word words.Channels, refl, fit-channel c), relay-fits head gap retry h.gap h.retry from from_sub to to_sub count h.kind.0 h.kind.1))
item-fits head (Mode to mode_sub transmit code None) None gap retry None h = mode-fits head gap retry h.gap h.retry to mode_sub code transmit None h.kind h.words
item-fits head (Mode to mode_sub transmit code None) None gap retry (Some n) h = ((Number abandon_range, refl, fit-number abandon_range n h.abandon), mode-fits head gap retry h.gap h.retry to mode_sub code transmit None h.kind h.words)
item-fits head (Mode to mode_sub transmit code None) (Some c) gap retry None h = ((Word words.Channels, refl, fit-channel c), mode-fits head gap retry h.gap h.retry to mode_sub code transmit None h.kind h.words)
item-fits head (Mode to mode_sub transmit code None) (Some c) gap retry (Some n) h = ((Number abandon_range, refl, fit-number abandon_range n h.abandon), ((Word words.Channels, refl, fit-channel c), mode-fits head gap retry h.gap h.retry to mode_sub code transmit None h.kind h.words))
item-fits head (Mode to mode_sub transmit code (Some word)) None gap retry None h = mode-fits head gap retry h.gap h.retry to mode_sub code transmit (Some word) h.kind h.words
item-fits head (Mode to mode_sub transmit code (Some word)) None gap retry (Some n) h = ((Number abandon_range, refl, fit-number abandon_range n h.abandon), mode-fits head gap retry h.gap h.retry to mode_sub code transmit (Some word) h.kind h.words)
item-fits head (Mode to mode_sub transmit code (Some word)) (Some c) gap retry None h = ((Word words.Channels, refl, fit-channel c), mode-fits head gap retry h.gap h.retry to mode_sub code transmit (Some word) h.kind h.words)
item-fits head (Mode to mode_sub transmit code (Some word)) (Some c) gap retry (Some n) h = ((Number abandon_range, refl, fit-number abandon_range n h.abandon), ((Word words.Channels, refl, fit-channel c), mode-fits head gap retry h.gap h.retry to mode_sub code transmit (Some word) h.kind h.words))

item-there : (head : Head) (kind : Kind) (channel : Option Channel) (gap : ℕ) (retry : List Turn) (abandon : Option ℕ)
    → in_table head Missing (rows_of kinds.Item head (item_members (item_with kind channel gap retry abandon))) []
    (item_members (item_with kind channel gap retry abandon)) ≡ None
item-there head (Receive to sub ws) None gap retry None = refl
item-there head (Receive to sub ws) None gap retry (Some n) = refl
item-there head (Receive to sub ws) (Some c) gap retry None = refl
item-there head (Receive to sub ws) (Some c) gap retry (Some n) = refl
item-there head (Transmit from sub count) None gap retry None = refl
item-there head (Transmit from sub count) None gap retry (Some n) = refl
item-there head (Transmit from sub count) (Some c) gap retry None = refl
item-there head (Transmit from sub count) (Some c) gap retry (Some n) = refl
item-there head (Relay from from_sub to to_sub count) None gap retry None = refl
item-there head (Relay from from_sub to to_sub count) None gap retry (Some n) = refl
item-there head (Relay from from_sub to to_sub count) (Some c) gap retry None = refl
item-there head (Relay from from_sub to to_sub count) (Some c) gap retry (Some n) = refl
item-there head (Mode to mode_sub transmit code word) None gap retry None = refl
item-there head (Mode to mode_sub transmit code word) None gap retry (Some n) = refl
item-there head (Mode to mode_sub transmit code word) (Some c) gap retry None = refl
item-there head (Mode to mode_sub transmit code word) (Some c) gap retry (Some n) = refl

item-kept : (last : Bool) (i : ItemData) → HasItemRanges i → IsKept kinds.Item last (item_members i)
item-kept last i h =
    rows-kept (second last) (rows_of kinds.Item (second last) (item_members i)) (item_members i)
    (item-fits (second last) i.kind i.channel i.gap i.retry i.abandon h) (item-there (second last) i.kind i.channel i.gap i.retry i.abandon)

-- ---- frames and loads

frame-kept : (last : Bool) (f : FrameData) → HasFrameRanges f → IsKept kinds.Frame last (frame_members f)
frame-kept last f h =
    rows-kept (second last) (rows_of kinds.Frame (second last) (frame_members f)) (frame_members f)
    ((Tables, refl, fit-tables item_members f.items), ((Number frame_range, refl, fit-number frame_range f.ticks (omega arith, h.ticks)), tt)) refl

pub load-kept : (last : Bool) (l : Load) → HasLoadRanges l → IsKept kinds.Load last (load_members l)
load-kept last l h =
    rows-kept (second last) (rows_of kinds.Load (second last) (load_members l)) (load_members l)
    ((Number own_sub_range, refl, fit-number own_sub_range l.sub h.sub), ((DataWords, refl, fit-words l.words h.count.0 h.count.1 h.words), tt)) refl

pub frame-tables : (rule : Rule) (last : Bool) (f : FrameData) → HasFrameRanges f
    → EachInFrame (λ kind ms. KeepsRows rule (second last) (rows_of kind (second last) ms) ms) (frame_members f)
frame-tables rule last f h = record {
  own = frame-kept last f h rule;
  items = all-made (λ ms. KeepsRows rule (second last) (rows_of kinds.Item (second last) ms) ms) item_members f.items
      (λ k d within. item-kept last (get_or f.items k d) (h.items k d within) rule);
}
