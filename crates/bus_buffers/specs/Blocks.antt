-- The data blocks of a remote terminal: one list of words for each subaddress (subaddresses 4.3.3.5.1.4; blocks are the project's own).
use Rattle.std.specs.Prelude.{ℕ, ◌==◌, if◌then◌else◌, List, [], replicate, get_or}

-- the receive blocks and the transmit blocks, by subaddress; an empty list where there is none
pub record Blocks : Type 0 where
  pub received : List (List ℕ)
  pub transmit : List (List ℕ)

-- subaddresses are the numbers below 31; no block of 0 is ever set
abbrev pub all_empty : List (List ℕ)
all_empty = replicate 31 []

-- the wrap-around subaddress, which sends what it received (Notice 2, 30.7)
abbrev pub wrap_around : ℕ
wrap_around = 30

-- the receive block of a subaddress, and what a subaddress sends
abbrev pub received_in : Blocks → ℕ → List ℕ
received_in blocks sub = get_or blocks.received sub []

abbrev pub sent_from : Blocks → ℕ → List ℕ
sent_from blocks sub = if sub == wrap_around then received_in blocks sub else get_or blocks.transmit sub []
