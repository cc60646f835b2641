-- Flags as the bits of a number.
use Rattle.bus_words.specs.declared.status.Flags.{Flags}
use Rattle.bus_words.specs.Fields.{address_of, flags_in, status_bits, is_clean}
use Rattle.std.specs.Cmp.Derive.{both_true}
use Rattle.std.proofs.Common.{◌≡◌, ℕ, zero, suc, ◌+◌, ◌*◌, ◌/◌, ◌%◌, ◌<◌, ◌≤◌, Bool, true, false, cond, ◌==◌, IsTrue, refl, eq-eqb, arith}

-- a flag as a bit, 1 where it is true
abbrev pub bit : Bool → ℕ
bit true = 1
bit false = 0

-- a bit is 0 or 1
pub bit_small : (f : Bool) → bit f ≤ 1
bit_small true = omega arith
bit_small false = omega arith

-- a flag's place value is the bit times the value
pub value_is : (f : Bool) (v : ℕ) → cond f v 0 ≡ v * bit f
value_is true v = omega arith
value_is false v = omega arith

-- a place that holds a flag's bit reads as that flag
pub bit_is : (m : ℕ) (f : Bool) → m ≡ bit f → (m == 1) ≡ f
bit_is m true e = rw e refl
bit_is m false e = rw e refl

-- a flag that is read from a bit has the bit's place value
pub value_read : (m v : ℕ) → m < 2 → cond (m == 1) v 0 ≡ v * m
value_read zero v small = omega arith
value_read (suc zero) v small = omega arith
value_read (suc (suc m)) v small = absurd (omega arith)

-- each bit of a sum of place values
pub record BitsOf (n e s b y u c t : ℕ) : Type 0 where
  pub e_is : n / 1024 % 2 ≡ e
  pub s_is : n / 256 % 2 ≡ s
  pub b_is : n / 16 % 2 ≡ b
  pub y_is : n / 8 % 2 ≡ y
  pub u_is : n / 4 % 2 ≡ u
  pub c_is : n / 2 % 2 ≡ c
  pub t_is : n / 1 % 2 ≡ t
  pub instrumentation : n / 512 % 2 ≡ 0
  pub reserved : n / 32 % 8 ≡ 0

pub bits_of : (a e s b y u c t : ℕ) → e ≤ 1 → s ≤ 1 → b ≤ 1 → y ≤ 1 → u ≤ 1 → c ≤ 1 → t ≤ 1 →
    BitsOf (a * 2048 + (1024 * e + 256 * s + 16 * b + 8 * y + 4 * u + 2 * c + 1 * t)) e s b y u c t
bits_of a e s b y u c t he hs hb hy hu hc ht = record {
  e_is = omega arith;
  s_is = omega arith;
  b_is = omega arith;
  y_is = omega arith;
  u_is = omega arith;
  c_is = omega arith;
  t_is = omega arith;
  instrumentation = omega arith;
  reserved = omega arith;
}

-- a number is the sum of its bits, where the four that hold no flag are 0
pub sum_of_bits : (n : ℕ) → n / 512 % 2 ≡ 0 → n / 32 % 8 ≡ 0 →
    n / 2048 * 2048 + (1024 * (n / 1024 % 2) + 256 * (n / 256 % 2) + 16 * (n / 16 % 2) + 8 * (n / 8 % 2) + 4 * (n / 4 % 2) + 2 * (n / 2 % 2) + 1 * (n / 1 % 2)) ≡ n
sum_of_bits n i r = omega arith

-- a status word's bits as a sum of place values
pub status_sum : (a : ℕ) (f : Flags) → status_bits a f ≡ a * 2048 + (1024 * bit f.message_error + 256 * bit f.service
    + 16 * bit f.broadcast + 8 * bit f.busy + 4 * bit f.subsystem + 2 * bit f.acceptance + 1 * bit f.terminal)
status_sum a f = rw (
  value_is f.message_error 1024,
  value_is f.service 256,
  value_is f.broadcast 16,
  value_is f.busy 8,
  value_is f.subsystem 4,
  value_is f.acceptance 2,
  value_is f.terminal 1,
) refl

-- each bit of a status word that was made is its flag
pub status_bits_of : (a : ℕ) (f : Flags) → BitsOf (status_bits a f) (bit f.message_error) (bit f.service)
    (bit f.broadcast) (bit f.busy) (bit f.subsystem) (bit f.acceptance) (bit f.terminal)
status_bits_of a f = rw (status_sum a f) (bits_of a _ _ _ _ _ _ _ (bit_small f.message_error) (bit_small f.service)
    (bit_small f.broadcast) (bit_small f.busy) (bit_small f.subsystem) (bit_small f.acceptance) (bit_small f.terminal))

-- a number's flags are those of its bits
pub flags_are : (n : ℕ) (f : Flags) → BitsOf n (bit f.message_error) (bit f.service)
    (bit f.broadcast) (bit f.busy) (bit f.subsystem) (bit f.acceptance) (bit f.terminal) → flags_in n ≡ f
flags_are n f bits = rw (
  bit_is _ f.message_error bits.e_is,
  bit_is _ f.service bits.s_is,
  bit_is _ f.broadcast bits.b_is,
  bit_is _ f.busy bits.y_is,
  bit_is _ f.subsystem bits.u_is,
  bit_is _ f.acceptance bits.c_is,
  bit_is _ f.terminal bits.t_is,
) refl

-- a word is clean where its four bits without a flag are 0
pub clean_is : (n : ℕ) → n / 512 % 2 ≡ 0 → n / 32 % 8 ≡ 0 → IsTrue (is_clean n)
clean_is n i r = both_true (eq-eqb _ _ i) (eq-eqb _ _ r)

-- the place values of a number's address and flags
pub read_sum : (n : ℕ) → status_bits (address_of n) (flags_in n) ≡
    n / 2048 * 2048 + (1024 * (n / 1024 % 2) + 256 * (n / 256 % 2) + 16 * (n / 16 % 2) + 8 * (n / 8 % 2) + 4 * (n / 4 % 2) + 2 * (n / 2 % 2) + 1 * (n / 1 % 2))
read_sum n = rw (
  value_read (n / 1024 % 2) 1024 (omega arith),
  value_read (n / 256 % 2) 256 (omega arith),
  value_read (n / 16 % 2) 16 (omega arith),
  value_read (n / 8 % 2) 8 (omega arith),
  value_read (n / 4 % 2) 4 (omega arith),
  value_read (n / 2 % 2) 2 (omega arith),
  value_read (n / 1 % 2) 1 (omega arith),
) refl
