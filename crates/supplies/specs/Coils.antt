-- What a coil cutter shows: the widths one after another, each in all its lengths.
use Rattle.std.specs.Prelude.{◌≡◌, ℕ, ◌+◌, ◌*◌, ◌/◌, ◌%◌, ◌<◌, min, cond, List, length, take, None, Option, nat_lt, slice_index}
use Rattle.plates.specs.Size.{Size, sized}
use Rattle.supplies.specs.Shown.{AllExist}

-- the first 8 widths are read, and at most 64 steps
abbrev pub coil_places : List ℕ → ℕ → ℕ
coil_places widths steps = length (take 8 widths) * min steps 64

-- the length after so many steps
abbrev pub coil_length : ℕ → ℕ → ℕ → ℕ
coil_length first step n = first + n * step

-- place k has width number k / steps and the length after k mod steps steps
abbrev pub coil_cut : ℕ → List ℕ → ℕ → ℕ → ℕ → ℕ → Option Size
coil_cut family widths first step steps k =
    sized (slice_index widths (k / steps)) (coil_length first step (k % steps)) family

-- nothing is shown from the place count on
abbrev pub coil_shows : ℕ → List ℕ → ℕ → ℕ → ℕ → ℕ → Option Size
coil_shows family widths first step steps k =
    cond (nat_lt k (coil_places widths steps)) (coil_cut family (take 8 widths) first step (min steps 64) k) None

pub record CoilLaws (family : ℕ) (widths : List ℕ) (first step steps : ℕ) : Type 0 where
  -- width number j, after i steps, lies at place j × steps + i
  pub placed : (j i : ℕ) → j < min 8 (length widths) → i < min steps 64 → coil_shows family widths first step steps (j * min steps 64 + i) ≡ sized (slice_index widths j) (first + i * step) family
  -- every plate shown exists
  pub exist : AllExist (coil_shows family widths first step steps)
