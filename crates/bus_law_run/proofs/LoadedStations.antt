-- What terminals are left with doesn't depend on the blocks that were put up for sending.
use Rattle.std.proofs.Common.{◌≡◌, ℕ, Bool, true, false, List, [], ◌∷◌, ◌++◌, map, get_or, Option, Some, None, refl, sym, ap, ◌∙◌}
use Rattle.std.proofs.lemmas.List.{map-append}
use Rattle.std.specs.Prelude.{if◌then◌else◌, filter_map, flat_map}
use Rattle.std.specs.List.{cons_option, range_with_len}
use Rattle.bus_formats.specs.declared.log.BlockEnd.{BlockEnd}
use Rattle.bus_formats.specs.declared.log.Registers.{Registers}
use Rattle.bus_model.specs.Log.{terminals_at, terminals, terminal_end, block_end, blocks_of}
use Rattle.bus_model.specs.Memory.{Memory, TimedLoad, status_of, load_block, load_due, with_loads}
use Rattle.bus_model.specs.Message.{Present, address_of_station}
use Rattle.bus_model.specs.Run.{is_at}
use Rattle.bus_law_table.specs.Stations.{loaded_at}
use Rattle.bus_law_run.proofs.BlocksTaken.{loads-leave}

-- ---- one terminal

load-registers : (b : Bool) (memory : Memory) (sub : ℕ) (words : List ℕ) →
    (if b then load_block memory sub words else memory).registers ≡ memory.registers
load-registers true memory sub words = refl
load-registers false memory sub words = refl

loads-registers : (address now : ℕ) (loads : List TimedLoad) (memory : Memory) → (with_loads address now loads memory).registers ≡ memory.registers
loads-registers address now [] memory = refl
loads-registers address now (load ∷ loads) memory =
    loads-registers address now loads (if load_due address now load then load_block memory load.sub load.words else memory)
    ∙ load-registers (load_due address now load) memory load.sub load.words

module _ (loads : List TimedLoad) (tick : ℕ) where
  abbrev loaded : Present → Present
  loaded station = loaded_at loads tick station

  same-end : (station : Present) → terminal_end (loaded station) ≡ terminal_end station
  same-end station =
      ap (λ (r : Registers). record { address = address_of_station station; registers = r; status = status_of station.plan.terminal r false })
      (loads-registers (address_of_station station) tick loads station.memory)

  block-in : Present → List (List ℕ) → ℕ → Option BlockEnd
  block-in station received sub = block_end station sub (get_or received sub [])

  same-row : (station : Present) (row : List ℕ) → filter_map (block-in (loaded station) (loaded station).memory.received) row
      ≡ filter_map (block-in station station.memory.received) row
  unfolding block-in
  same-row station row =
      ap (λ rs. filter_map (λ sub. block_end station sub (get_or rs sub [])) row)
      (loads-leave (address_of_station station) tick loads station.memory)

  same-blocks : (station : Present) → blocks_of (loaded station) ≡ blocks_of station
  unfolding block-in
  same-blocks station = same-row station (range_with_len 1 30)

  -- ---- all, in order of address

  one-loaded : (b : Bool) (station : Present) (stations : List Present) →
      cons_option (if b then Some (loaded station) else None) (map loaded stations) ≡ map loaded (cons_option (if b then Some station else None) stations)
  one-loaded true station stations = refl
  one-loaded false station stations = refl

  at-loaded : (address : ℕ) (stations : List Present) → terminals_at (map loaded stations) address ≡ map loaded (terminals_at stations address)
  at-loaded address [] = refl
  at-loaded address (station ∷ stations) =
      ap (cons_option (if is_at address station then Some (loaded station) else None)) (at-loaded address stations)
      ∙ one-loaded (is_at address station) station (terminals_at stations address)

  row-loaded : (row : List ℕ) (stations : List Present) → flat_map (terminals_at (map loaded stations)) row ≡ map loaded (flat_map (terminals_at stations) row)
  row-loaded [] stations = refl
  row-loaded (address ∷ row) stations =
      ap (λ xs. xs ++ flat_map (terminals_at (map loaded stations)) row) (at-loaded address stations)
      ∙ ap (λ xs. map loaded (terminals_at stations address) ++ xs) (row-loaded row stations)
      ∙ sym (map-append loaded (terminals_at stations address) (flat_map (terminals_at stations) row))

  ends-alike : (stations : List Present) → map terminal_end (map loaded stations) ≡ map terminal_end stations
  ends-alike [] = refl
  ends-alike (station ∷ stations) =
      ap (λ e. e ∷ map terminal_end (map loaded stations)) (same-end station) ∙ ap (λ es. terminal_end station ∷ es) (ends-alike stations)

  blocks-alike : (stations : List Present) → flat_map blocks_of (map loaded stations) ≡ flat_map blocks_of stations
  blocks-alike [] = refl
  blocks-alike (station ∷ stations) =
      ap (λ bs. bs ++ flat_map blocks_of (map loaded stations)) (same-blocks station) ∙ ap (λ bs. blocks_of station ++ bs) (blocks-alike stations)

  pub loaded-ends : (stations : List Present) → map terminal_end (terminals (map loaded stations)) ≡ map terminal_end (terminals stations)
  loaded-ends stations = ap (map terminal_end) (row-loaded (range_with_len 0 31) stations) ∙ ends-alike (terminals stations)

  pub loaded-blocks : (stations : List Present) → flat_map blocks_of (terminals (map loaded stations)) ≡ flat_map blocks_of (terminals stations)
  loaded-blocks stations = ap (flat_map blocks_of) (row-loaded (range_with_len 0 31) stations) ∙ blocks-alike (terminals stations)
