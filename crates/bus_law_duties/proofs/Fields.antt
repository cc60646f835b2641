-- The fields of command words, and the command of a message to one address.
use Rattle.std.proofs.Common.{◌≡◌, ◌≢◌, ◌⊎◌, inl, inr, ℕ, ◌+◌, ◌*◌, ◌/◌, ◌%◌, ◌≤◌, Bool, true, false, List, [], ◌∷◌, length, refl, sym, ap, ◌∙◌, arith}
use Rattle.std.proofs.lemmas.Bool.{cases_eq, true≢false}
use Rattle.std.proofs.lemmas.Bool.Decides.{nat_tests}
use Rattle.std.specs.Prelude.{◌&&◌, ◌||◌, ◌==◌, not, if◌then◌else◌, option_to_list}
use Rattle.bus_words.specs.Fields.{command_bits, address_of, is_transmit, is_mode, is_broadcast, sub_of, field_of}
use Rattle.bus_formats.specs.Accepted.{HasKindRanges, addresses_named}
use Rattle.bus_formats.specs.Codes.{dynamic_bus_control}
use Rattle.bus_formats.specs.Forms.{command_words}
use Rattle.bus_formats.specs.declared.plan.Kind.{Kind}
use Rattle.bus_formats.specs.declared.plan.Kind.TheVariants.{Receive, Transmit, Relay, Mode}
use Rattle.bus_model.specs.Attempts.{is_offer}
use Rattle.bus_model.specs.Commands.{has_code}
use Rattle.bus_model.specs.Orders.{is_for}
use Rattle.bus_law_duties.specs.Words.{with_data}

-- ---- choices

-- the branch that is taken
pub skips : {X : Type 0} (b : Bool) (x y : X) → b ≡ false → (if b then x else y) ≡ y
skips b x y off = ap (λ (t : Bool). if t then x else y) off

-- the other one
pub takes : {X : Type 0} (b : Bool) (x y : X) → b ≡ true → (if b then x else y) ≡ x
takes b x y on = ap (λ (t : Bool). if t then x else y) on

-- ---- the fields of a command word

-- its address, subaddress or mode field, last field and transmit bit are read as they were written
pub address-is : (address sub field : ℕ) (transmit : Bool) → sub ≤ 31 → field ≤ 31 → address_of (command_bits address transmit sub field) ≡ address
address-is address sub field true low few = omega (arith, low, few)
address-is address sub field false low few = omega (arith, low, few)

pub sub-is : (address sub field : ℕ) (transmit : Bool) → sub ≤ 31 → field ≤ 31 → sub_of (command_bits address transmit sub field) ≡ sub
sub-is address sub field true low few = omega (arith, low, few)
sub-is address sub field false low few = omega (arith, low, few)

pub field-is : (address sub field : ℕ) (transmit : Bool) → field ≤ 31 → field_of (command_bits address transmit sub field) ≡ field
field-is address sub field true few = omega (arith, few)
field-is address sub field false few = omega (arith, few)

pub transmit-is : (address sub field : ℕ) (transmit : Bool) → sub ≤ 31 → field ≤ 31 → is_transmit (command_bits address transmit sub field) ≡ transmit
transmit-is address sub field true low few =
    let one : (address * 2048 + 1024 + sub * 32 + field) / 1024 % 2 ≡ 1 = omega (arith, low, few) in ap (λ n. n == 1) one
transmit-is address sub field false low few =
    let none : (address * 2048 + 0 + sub * 32 + field) / 1024 % 2 ≡ 0 = omega (arith, low, few) in ap (λ n. n == 1) none

-- a mode field is one of five bits
mode-sub : (sub : ℕ) → (sub ≡ 0) ⊎ (sub ≡ 31) → sub ≤ 31
mode-sub sub (inl none) = omega (arith, none)
mode-sub sub (inr all) = omega (arith, all)

-- a subaddress from 1 to 30 is that of no mode command
pub plain-mode : (bits sub : ℕ) → sub_of bits ≡ sub → 1 ≤ sub → sub ≤ 30 → is_mode bits ≡ false
plain-mode bits sub is some low = grind (arith, nat_tests, is, some, low)

-- a subaddress 0 or 31 is that of a mode command
mode-is : (bits sub : ℕ) → sub_of bits ≡ sub → (sub ≡ 0) ⊎ (sub ≡ 31) → is_mode bits ≡ true
mode-is bits sub is (inl none) = grind (arith, nat_tests, is, none)
mode-is bits sub is (inr all) = grind (arith, nat_tests, is, all)

-- a command that is no mode command has no mode code
pub no-code : (bits code : ℕ) → is_mode bits ≡ false → has_code bits code ≡ false
no-code bits code plain = ap (λ b. b && (field_of bits == code)) plain

-- ---- for whom it is

-- a command to another address than 31 isn't broadcast
pub not-all : (bits address : ℕ) → address_of bits ≡ address → address ≢ 31 → is_broadcast bits ≡ false
not-all bits address at apart = grind (arith, nat_tests, at, apart)

-- and one to 31 is
pub to-all : (bits address : ℕ) → address_of bits ≡ address → address ≡ 31 → is_broadcast bits ≡ true
to-all bits address at all = grind (arith, nat_tests, at, all)

-- a command that is for a terminal, and not for all, names it
pub own-one : (own bits : ℕ) → is_for own bits ≡ true → is_broadcast bits ≡ false → address_of bits ≡ own
own-one own bits is one = grind (arith, nat_tests, is, one)

-- a command that is for a terminal names it, or all
pub own-or-all : (own bits : ℕ) → is_for own bits ≡ true → (address_of bits ≡ own) ⊎ (address_of bits ≡ 31)
own-or-all own bits is = elim (cases_eq (address_of bits) 31) [
  | inl all ↦ inr all
  | inr one ↦ inl (own-one own bits is (not-all bits (address_of bits) refl one))
]

-- no station with address 31 is a terminal
pub own-terminal : (own bits : ℕ) → is_for own bits ≡ true → own ≢ 31
own-terminal own bits is all = let test : (own == 31) ≡ true = grind (arith, nat_tests, all) in
    true≢false (sym is ∙ ap (λ b. not b && ((address_of bits == own) || is_broadcast bits)) test)

-- a command to another address, and not to all, isn't for a terminal
pub not-for : (own bits : ℕ) → address_of bits ≢ own → address_of bits ≢ 31 → is_for own bits ≡ false
not-for own bits apart one = grind (arith, nat_tests, apart, one)

-- one to it is
pub for-own : (own bits : ℕ) → own ≢ 31 → (address_of bits ≡ own) ⊎ (address_of bits ≡ 31) → is_for own bits ≡ true
for-own own bits terminal (inl same) = grind (arith, nat_tests, terminal, same)
for-own own bits terminal (inr all) = grind (arith, nat_tests, terminal, all)

-- ---- the command of a message to one address

-- whether a message is a relay, which has two commands
abbrev pub is_relay_kind : Kind → Bool
is_relay_kind (Relay from from_sub to to_sub count) = true
is_relay_kind _ = false

-- the command of a message that is no relay, with its data words and its address
pub record OneCommand (kind : Kind) : Type 0 where
  pub bits : ℕ
  pub data_words : List ℕ
  pub address : ℕ
  pub words_are : command_words kind ≡ with_data bits data_words
  pub named : addresses_named kind ≡ address ∷ []
  pub at : address_of bits ≡ address
  pub offer : has_code bits dynamic_bus_control ≡ is_offer kind

-- each such message has one
pub one-command : (kind : Kind) → HasKindRanges kind → is_relay_kind kind ≡ false → OneCommand kind
one-command (Receive to sub words) ranges one =
    let n : ℕ = length words in
    let bits : ℕ = command_bits to false sub (n % 32) in
    let low : sub ≤ 31 = omega (arith, ranges.subaddress) in
    let few : n % 32 ≤ 31 = omega arith in
    record {
      bits = bits;
      data_words = words;
      address = to;
      words_are = refl;
      named = refl;
      at = address-is to sub (n % 32) false low few;
      offer = no-code bits dynamic_bus_control
          (plain-mode bits sub (sub-is to sub (n % 32) false low few) ranges.subaddress.0 ranges.subaddress.1);
    }
one-command (Transmit from sub count) ranges one =
    let bits : ℕ = command_bits from true sub (count % 32) in
    let low : sub ≤ 31 = omega (arith, ranges.subaddress) in
    let few : count % 32 ≤ 31 = omega arith in
    record {
      bits = bits;
      data_words = [];
      address = from;
      words_are = refl;
      named = refl;
      at = address-is from sub (count % 32) true low few;
      offer = no-code bits dynamic_bus_control
          (plain-mode bits sub (sub-is from sub (count % 32) true low few) ranges.subaddress.0 ranges.subaddress.1);
    }
one-command (Relay from from_sub to to_sub count) ranges one = absurd (true≢false one)
one-command (Mode to mode_sub transmit code word) ranges one =
    let bits : ℕ = command_bits to transmit mode_sub code in
    let low : mode_sub ≤ 31 = mode-sub mode_sub ranges.subaddress in
    record {
      bits = bits;
      data_words = option_to_list word;
      address = to;
      words_are = refl;
      named = refl;
      at = address-is to mode_sub code transmit low ranges.mode;
      offer = ap (λ b. b && (field_of bits == dynamic_bus_control))
          (mode-is bits mode_sub (sub-is to mode_sub code transmit low ranges.mode) ranges.subaddress)
          ∙ ap (λ n. n == dynamic_bus_control) (field-is to mode_sub code transmit ranges.mode);
    }
