-- Sources and sinks over memory, as their contracts see them.
use Rattle.std.specs.Prelude.{ℕ, Bool, List, nat_eq}
use Rattle.std.specs.List.{list_any}

-- a source over memory: the bytes left, the numbers of the reads that fail, the most that a read gives,
-- the reads and the faults so far
pub record SourceValue : Type 0 where
  pub left : List ℕ
  pub fails : List ℕ
  pub most : ℕ
  pub reads : ℕ
  pub faults : ℕ

-- a sink over memory: the bytes held, the numbers of the writes that fail, the room for all bytes,
-- the writes and the faults so far
pub record SinkValue : Type 0 where
  pub held : List ℕ
  pub fails : List ℕ
  pub room : ℕ
  pub writes : ℕ
  pub faults : ℕ

-- whether the call with this number fails
abbrev pub fails_at : List ℕ → ℕ → Bool
fails_at fails number = list_any (λ x. nat_eq x number) fails
