-- The terminals and their blocks, put one after the other.
use Rattle.std.proofs.Common.{◌≡◌, ◌≢◌, ℕ, zero, suc, ◌+◌, ◌-◌, ◌<◌, ◌≤◌, true, false, ◌==◌, List, [], ◌∷◌, ◌++◌}
use Rattle.std.proofs.Common.{length, take, map, refl, ap, sym, ◌∙◌, arith, add-one, append-nil, append_assoc, zero-add, if◌then◌else◌, Option, Some, None}
use Rattle.std.specs.Prelude.{flat_map, filter_map, option_to_list, slice_get, get_or}
use Rattle.std.specs.List.{range_with_len}
use Rattle.std.proofs.lemmas.Bool.Decides.{nat_tests}
use Rattle.std.proofs.lemmas.Option.{same_Some, slice_get_read}
use Rattle.std.proofs.lemmas.List.{map-append, take-map}
use Rattle.std.proofs.lemmas.List.Elements.{filter_map-append}
use Rattle.std.proofs.lemmas.Grind.{flat_map-append}
use Rattle.bus_base.specs.declared.samples.Pair.{Pair}
use Rattle.bus_buffers.specs.Blocks.{Blocks, received_in}
use Rattle.bus_line.specs.declared.cutter.TheConstants.{LAG}
use Rattle.bus_formats.specs.Plans.{StationData, PlanData}
use Rattle.bus_formats.specs.declared.log.BlockEnd.{BlockEnd}
use Rattle.bus_formats.specs.declared.log.Registers.{Registers}
use Rattle.bus_formats.specs.declared.log.TerminalEnd.{TerminalEnd}
use Rattle.bus_model.specs.Memory.{received_on, status_of}
use Rattle.bus_model.specs.Message.{Present}
use Rattle.bus_model.specs.Run.{is_at}
use Rattle.bus_model.specs.Log.{terminals_at, terminals, terminal_end, block_end, blocks_of}
use Rattle.bus_model.specs.WorldLog.{present_after, presents}
use Rattle.bus_run.specs.Terminals.{block_of, blocks_below, so_far, ArePut}
use Rattle.bus_run.specs.declared.ends.Ends.{Ends}
use Rattle.bus_run.proofs.RowLaws.{all-present, take-next, take-all, flat_map-one}

-- ---- lists

-- one number more
range-more : (a n : ℕ) → range_with_len a (suc n) ≡ range_with_len a n ++ (a + n) ∷ []
range-more a zero = let same : a + 0 ≡ a = omega arith in ap (λ x. x ∷ []) (sym same)
range-more a (suc n) =
    let same : a + 1 + n ≡ a + suc n = omega arith in
    ap (λ xs. a ∷ xs) (range-more (a + 1) n ∙ ap (λ x. range_with_len (a + 1) n ++ x ∷ []) same)

-- of one element
found-one : {A B : Type 0} (f : A → Option B) (x : A) (o : Option B) → f x ≡ o → filter_map f (x ∷ []) ≡ option_to_list o
found-one f x None is = rw is refl
found-one f x (Some y) is = rw is refl

-- ---- the blocks of a terminal

-- no block yet
pub no-blocks : (items : List BlockEnd) (address : ℕ) (buffers : Blocks) → items ++ blocks_below address buffers (1 - 1) ≡ items
unfolding blocks_below
no-blocks items address buffers = append-nil items

-- the block of the next subaddress
blocks-next : (items : List BlockEnd) (address : ℕ) (buffers : Blocks) (n : ℕ) →
    (items ++ blocks_below address buffers n) ++ option_to_list (block_of address (suc n) (received_in buffers
    (suc n))) ≡ items ++ blocks_below address buffers (suc n)
unfolding blocks_below
blocks-next items address buffers n = append_assoc items (blocks_below address buffers n) (option_to_list (block_of address (suc n) (received_in buffers
    (suc n))))

-- the blocks with those of one subaddress more
pub blocks-more : (items : List BlockEnd) (address : ℕ) (buffers : Blocks) (sub : ℕ) → 1 ≤ sub →
    (items ++ blocks_below address buffers (sub - 1)) ++ option_to_list (block_of address sub
    (received_in buffers sub)) ≡ items ++ blocks_below address buffers (sub + 1 - 1)
blocks-more items address buffers zero low = absurd (omega (arith, low))
blocks-more items address buffers (suc n) low =
    let before : suc n - 1 ≡ n = omega arith in
    let after : suc n + 1 - 1 ≡ suc n = omega arith in
    rw (before, after) (blocks-next items address buffers n)

-- a block as the log has it
block-same : (p : Present) (address sub : ℕ) (words : List ℕ) → p.plan.terminal.address ≡ address → block_end p sub words ≡ block_of address sub words
block-same p address sub [] is = refl
block-same p address sub (word ∷ words) is = rw is refl

-- those of all subaddresses are the terminal's
blocks-all : (p : Present) (address : ℕ) (buffers : Blocks) (n : ℕ) → p.plan.terminal.address ≡ address → buffers.received ≡ p.memory.received →
    filter_map (λ sub. block_end p sub (received_on p.memory sub)) (range_with_len 1 n) ≡ blocks_below address buffers n
unfolding blocks_below
blocks-all p address buffers zero is same = refl
blocks-all p address buffers (suc n) is same =
    let f : ℕ → Option BlockEnd = λ sub. block_end p sub (received_on p.memory sub) in
    let next : 1 + n ≡ suc n = omega arith in
    let one : f (suc n) ≡ block_of address (suc n) (received_in buffers (suc n)) =
    block-same p address (suc n) (received_on p.memory (suc n)) is ∙ ap (λ bs. block_of address (suc n) (get_or bs (suc n) [])) (sym same) in
    ap (filter_map f) (range-more 1 n ∙ ap (λ x. range_with_len 1 n ++ x ∷ []) next)
    ∙ filter_map-append f (range_with_len 1 n) (suc n ∷ [])
    ∙ ap (λ xs. xs ++ filter_map f (suc n ∷ [])) (blocks-all p address buffers n is same)
    ∙ ap (λ xs. blocks_below address buffers n ++ xs) (found-one f (suc n) (block_of address (suc n) (received_in buffers (suc n))) one)

-- ---- a terminal

-- a terminal and its blocks were put
pub put-one : (found : List Present) (p : Present) (old new : Ends) (end : TerminalEnd) (address : ℕ) (buffers : Blocks) → ArePut found old →
    p.plan.terminal.address ≡ address → buffers.received ≡ p.memory.received → end ≡ terminal_end p → new.terminals.items ≡ old.terminals.items ++ end ∷ [] →
    new.blocks.items ≡ old.blocks.items ++ blocks_below address buffers 30 → ArePut (found ++ p ∷ []) new
put-one found p old new end address buffers put at same is terminals-are blocks-are = record {
  terminals = terminals-are ∙ ap (λ xs. xs ++ end ∷ []) put.terminals ∙ ap (λ e. map terminal_end found ++ e ∷ []) is ∙ sym
      (map-append terminal_end found (p ∷ []));
  blocks = blocks-are ∙ ap (λ xs. xs ++ blocks_below address buffers 30) put.blocks
      ∙ ap (λ xs. flat_map blocks_of found ++ xs) (sym (blocks-all p address buffers 30 at same) ∙ sym (flat_map-one blocks_of p))
      ∙ sym (flat_map-append blocks_of found (p ∷ []));
}

-- the end of a terminal by its fields
end-of : (end : TerminalEnd) (address : ℕ) (registers : Registers) (status : ℕ) → end.address ≡ address → end.registers ≡ registers → end.status ≡ status →
    end ≡ record { address = address; registers = registers; status = status }
end-of end address registers status a r s = rw (← a, ← r, ← s) refl

-- the end of a terminal as the log has it
pub end-same : (p : Present) (address : ℕ) (end : TerminalEnd) → p.plan.terminal.address ≡ address → end.address ≡ address →
    end.registers ≡ p.memory.registers → end.status ≡ status_of p.plan.terminal p.memory.registers false → end ≡ terminal_end p
end-same p address end at a r s =
    end-of end p.plan.terminal.address p.memory.registers (status_of p.plan.terminal p.memory.registers false) (a ∙ sym at) r s

-- ---- those of an address

-- equal numbers
test-of : (a b : ℕ) → a ≡ b → (a == b) ≡ true
test-of a b is = grind (arith, nat_tests, is)

-- different numbers
test-not : (a b : ℕ) → a ≢ b → (a == b) ≡ false
test-not a b is = grind (arith, nat_tests, is)

-- a terminal with the address
pub at-address : (p : Present) (address : ℕ) → p.plan.terminal.address ≡ address → terminals_at (p ∷ []) address ≡ p ∷ []
at-address p address is =
    found-one (λ (s : Present). if is_at address s then Some s else None) p (Some p) (ap (λ b. if b then Some p else None)
    (test-of p.plan.terminal.address address is))

-- a terminal with another
pub at-another : (p : Present) (address : ℕ) → p.plan.terminal.address ≢ address → terminals_at (p ∷ []) address ≡ []
at-another p address isn't =
    found-one (λ (s : Present). if is_at address s then Some s else None) p None (ap (λ b. if b then Some p else None)
    (test-not p.plan.terminal.address address isn't))

-- every station is present
presents-are : (plan : PlanData) (past : List Pair) → presents LAG plan [] [] [] past ≡ map (present_after LAG plan [] [] [] past) plan.stations
presents-are plan past = ap (map (present_after LAG plan [] [] [] past)) (all-present plan.stations)

-- with the station of one place more
pub so-far-more : (plan : PlanData) (past : List Pair) (address place : ℕ) (s : StationData) → slice_get plan.stations place ≡ Some s →
    so_far plan past address place ++ terminals_at (present_after LAG plan [] [] [] past s ∷ []) address ≡ so_far plan past address (place + 1)
so-far-more plan past address place s here =
    let f = present_after LAG plan [] [] [] past in
    let ps : List Present = presents LAG plan [] [] [] past in
    let all : ps ≡ map f plan.stations = presents-are plan past in
    let next : take (place + 1) ps ≡ take place ps ++ f s ∷ [] =
    ap (take (place + 1)) all ∙ take-map f (place + 1) plan.stations ∙ ap (map f) (ap (λ n. take n plan.stations) (add-one place)
    ∙ take-next plan.stations place s here)
    ∙ map-append f (take place plan.stations) (s ∷ []) ∙ ap (λ xs. xs ++ f s ∷ []) (sym (take-map f place plan.stations) ∙ ap (take place) (sym all)) in
    append_assoc (flat_map (terminals_at ps) (range_with_len 0 address)) (terminals_at (take place ps) address) (terminals_at (f s ∷ []) address)
    ∙ ap (λ xs. flat_map (terminals_at ps) (range_with_len 0 address) ++ xs)
    (sym (filter_map-append (λ (q : Present). if is_at address q then Some q else None) (take place ps) (f s ∷ [])) ∙ ap (λ xs. terminals_at xs address)
    (sym next))

-- after the last place the next address begins
pub so-far-turns : (plan : PlanData) (past : List Pair) (address place : ℕ) → place ≡ length plan.stations →
    so_far plan past address place ≡ so_far plan past (address + 1) 0
so-far-turns plan past address place whole =
    let f = present_after LAG plan [] [] [] past in
    let ps : List Present = presents LAG plan [] [] [] past in
    let all : ps ≡ map f plan.stations = presents-are plan past in
    let whole-list : take place ps ≡ ps =
    ap (take place) all ∙ take-map f place plan.stations ∙ ap (map f) (ap (λ n. take n plan.stations) whole ∙ take-all plan.stations) ∙ sym all in
    let range : range_with_len 0 (address + 1) ≡ range_with_len 0 address ++ address ∷ [] =
    ap (range_with_len 0) (add-one address) ∙ range-more 0 address ∙ ap (λ x. range_with_len 0 address ++ x ∷ []) (zero-add address) in
    ap (λ xs. flat_map (terminals_at ps) (range_with_len 0 address) ++ terminals_at xs address) whole-list
    ∙ ap (λ xs. flat_map (terminals_at ps) (range_with_len 0 address) ++ xs) (sym (flat_map-one (terminals_at ps) address))
    ∙ sym (flat_map-append (terminals_at ps) (range_with_len 0 address) (address ∷ []))
    ∙ ap (flat_map (terminals_at ps)) (sym range)
    ∙ sym (append-nil (flat_map (terminals_at ps) (range_with_len 0 (address + 1))))

-- after the last address all were put
pub so-far-all : (plan : PlanData) (past : List Pair) (address : ℕ) → address ≡ 31 → so_far plan past address 0 ≡ terminals (presents LAG plan [] [] [] past)
so-far-all plan past address is =
    append-nil (flat_map (terminals_at (presents LAG plan [] [] [] past)) (range_with_len 0 address))
    ∙ ap (λ n. flat_map (terminals_at (presents LAG plan [] [] [] past)) (range_with_len 0 n)) is

-- ---- the address of a station

-- an element of a mapped list
get-map : {A B : Type 0} (f : A → B) (xs : List A) (i : ℕ) (x : A) → slice_get xs i ≡ Some x → slice_get (map f xs) i ≡ Some (f x)
get-map f [] i x here = (let no : None ≡ Some x = here in cc)
get-map f (y ∷ xs) zero x here = ap (λ z. Some (f z)) (same_Some y x here)
get-map f (y ∷ xs) (suc i) x here = get-map f xs i x here

-- the address of the station at a place
pub address-at : (plan : PlanData) (addresses : List ℕ) (place : ℕ) (s : StationData) (x : ℕ) → addresses ≡ map (λ s. s.terminal.address) plan.stations →
    slice_get plan.stations place ≡ Some s → place < length addresses → x ≡ get_or addresses place x → x ≡ s.terminal.address
address-at plan addresses place s x are here within is =
    same_Some x s.terminal.address (sym (slice_get_read addresses (length addresses) place x refl within is)
    ∙ ap (λ xs. slice_get xs place) are ∙ get-map (λ (d : StationData). d.terminal.address) plan.stations place s here)
