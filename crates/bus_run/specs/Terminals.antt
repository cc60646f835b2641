-- The terminals of a bus and their blocks, as the log has them.
use Rattle.std.specs.Prelude.{◌≡◌, ℕ, zero, suc, ◌≤◌, List, [], ◌∷◌, ◌++◌, Option, Some, None, option_to_list, length, take, map, flat_map, vec_capacity}
use Rattle.std.specs.List.{range_with_len}
use Rattle.bus_base.specs.declared.samples.Pair.{Pair}
use Rattle.bus_buffers.specs.Blocks.{Blocks, received_in}
use Rattle.bus_line.specs.declared.cutter.TheConstants.{LAG}
use Rattle.bus_formats.specs.Plans.{PlanData}
use Rattle.bus_formats.specs.declared.log.BlockEnd.{BlockEnd}
use Rattle.bus_model.specs.Message.{Present}
use Rattle.bus_model.specs.Log.{terminals_at, terminal_end, blocks_of}
use Rattle.bus_model.specs.WorldLog.{presents}
use Rattle.bus_run.specs.declared.ends.Ends.{Ends}

-- nothing is put yet, and there is room for what may be
pub record EndsStand (plan : PlanData) (ends : Ends) : Type 0 where
  pub addresses_are : ends.addresses.items ≡ map (λ s. s.terminal.address) plan.stations
  pub no_terminal : ends.terminals.items ≡ []
  pub no_block : ends.blocks.items ≡ []
  pub few : length plan.stations ≤ 32
  pub terminal_room : 992 ≤ vec_capacity ends.terminals
  pub block_room : 29760 ≤ vec_capacity ends.blocks

-- the terminals with addresses below this one were put, in order of address, and of this address those before the place
abbrev pub so_far : PlanData → List Pair → ℕ → ℕ → List Present
so_far plan past address place =
    flat_map (terminals_at (presents LAG plan [] [] [] past)) (range_with_len 0 address)
    ++ terminals_at (take place (presents LAG plan [] [] [] past)) address

-- what is put of these terminals
pub record ArePut (found : List Present) (ends : Ends) : Type 0 where
  pub terminals : ends.terminals.items ≡ map terminal_end found
  pub blocks : ends.blocks.items ≡ flat_map blocks_of found

-- ---- the blocks of a terminal

-- the block of a subaddress, if it isn't empty
abbrev pub block_of : ℕ → ℕ → List ℕ → Option BlockEnd
block_of address sub [] = None
block_of address sub (word ∷ words) = Some record { address = address; sub = sub; words = word ∷ words }

-- those of the first so many subaddresses
unfoldable pub blocks_below : ℕ → Blocks → ℕ → List BlockEnd
blocks_below address buffers zero = []
blocks_below address buffers (suc n) = blocks_below address buffers n ++ option_to_list (block_of address (suc n) (received_in buffers (suc n)))
