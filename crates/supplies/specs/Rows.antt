-- What a maker's list shows: one place a row.
use Rattle.std.specs.Prelude.{ℕ, ◌-◌, ◌^◌, min, cond, List, length, None, Option, nat_lt, slice_index_or}
use Rattle.plates.specs.Size.{Size, sized}
use Rattle.supplies.specs.declared.list.Row.{Row}

-- rows beyond the first 2^32 - 1 are not read
abbrev pub list_places : List Row → ℕ
list_places rows = min (length rows) (2 ^ 32 - 1)

-- the plate of a row, or nothing where there is no such plate
abbrev pub row_shows : Row → Option Size
row_shows row = sized row.width row.length row.family

abbrev pub no_row : Row
no_row = record { width = 0; length = 0; family = 0 }

-- place k shows row k, and nothing from the place count on
abbrev pub list_shows : List Row → ℕ → Option Size
list_shows rows k = cond (nat_lt k (list_places rows)) (row_shows (slice_index_or rows k no_row)) None
