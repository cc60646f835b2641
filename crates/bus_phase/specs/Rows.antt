-- The samples of a channel that are not yet told: those of single ticks, and the level from then on.
use Rattle.std.specs.Prelude.{ℕ, ◌-◌, min, List, [], ◌∷◌, ◌++◌, length, take, drop, replicate}
use Rattle.bus_base.specs.declared.samples.Sample.{Sample}

-- the samples of the ticks from the first that isn't told, and the level of all later ones
pub record RowData : Type 0 where
  pub waiting : List Sample
  pub level : Sample

-- the most ticks that wait
abbrev pub most_waiting : ℕ
most_waiting = 64

-- the first n samples of a row, of which those past its end have the level
abbrev pub fit : ℕ → Sample → List Sample → List Sample
fit n level waiting = take n waiting ++ replicate (n - length waiting) level

-- a change to another level so many ticks after the first that waits
abbrev pub put_at : ℕ → Sample → RowData → RowData
put_at place level row = record { waiting = fit place row.level row.waiting; level = level }

-- where a change is put: never among the ticks that are told, and no more than 64 ticks after them
abbrev pub place_of : ℕ → ℕ → ℕ
place_of settled tick = min (tick - settled) most_waiting

-- a change to another level in a tick
abbrev pub put : ℕ → ℕ → Sample → RowData → RowData
put settled tick level row = put_at (place_of settled tick) level row

-- the sample of the first tick that waits, and the row after it
abbrev pub sample_in : List Sample → Sample → Sample
sample_in [] level = level
sample_in (x ∷ xs) level = x

abbrev pub first_sample : RowData → Sample
first_sample row = sample_in row.waiting row.level

abbrev pub after_first : RowData → RowData
after_first row = record { waiting = drop 1 row.waiting; level = row.level }
