-- What a press limit shows of a supply, and its laws.
use Rattle.std.specs.Prelude.{ℕ, ◌≤◌, min, Bool, not, ◌&&◌, Option, nat_le}
use Rattle.plates.specs.Size.{Size}
use Rattle.supplies.specs.Hiding.{unhidden}
use Rattle.supplies.specs.Shown.{AllExist, Same}

-- a plate that is neither wider nor longer goes into the press
abbrev pub pressable : ℕ → ℕ → Size → Bool
pressable width length s = nat_le s.width width && nat_le s.length length

-- a plate that does not is hidden, at whatever place
abbrev pub limit_hides : ℕ → ℕ → ℕ → Size → Bool
limit_hides width length k s = not (pressable width length s)

-- each place shows its plate below, where that goes into the press
abbrev pub limit_shows : ℕ → ℕ → (ℕ → Option Size) → ℕ → Option Size
limit_shows width length = unhidden (limit_hides width length)

pub record LimitLaws (width length : ℕ) : Type 0 where
  -- limits that every plate meets hide nothing
  pub idle : 300 ≤ width → 1000 ≤ length → (shows : ℕ → Option Size) → AllExist shows → Same (limit_shows width length shows) shows
  -- of one limit over another the lesser numbers count
  pub lesser : (w l : ℕ) (shows : ℕ → Option Size) → Same (limit_shows width length (limit_shows w l shows)) (limit_shows (min width w) (min length l) shows)
  -- no plate is shown that does not exist below
  pub exist : (shows : ℕ → Option Size) → AllExist shows → AllExist (limit_shows width length shows)
