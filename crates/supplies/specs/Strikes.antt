-- What a strike list shows of a supply, and its laws.
use Rattle.std.specs.Prelude.{◌≡◌, ℕ, ◌≤◌, Bool, List, [], take, Option, ◌==◌}
use Rattle.std.specs.List.{AllByRecursion, list_any}
use Rattle.plates.specs.Size.{Size}
use Rattle.supplies.specs.Hiding.{unhidden}
use Rattle.supplies.specs.Shown.{AllExist, NothingFrom, Same}

-- the place stands in the list
abbrev pub listed : List ℕ → ℕ → Bool
listed js k = list_any (λ j. j == k) js

-- every plate is hidden at the first 32 places of the list
abbrev pub strike_hides : List ℕ → ℕ → Size → Bool
strike_hides struck k s = listed (take 32 struck) k

-- the first 32 places of the list show nothing, each other what it shows below
abbrev pub strike_shows : List ℕ → (ℕ → Option Size) → ℕ → Option Size
strike_shows struck = unhidden (strike_hides struck)

pub record StrikeLaws (struck : List ℕ) : Type 0 where
  -- an empty strike list hides nothing
  pub empty : struck ≡ [] → (shows : ℕ → Option Size) → Same (strike_shows struck shows) shows
  -- nor does one of places past the count
  pub past : (places : ℕ) (shows : ℕ → Option Size) → NothingFrom places shows → AllByRecursion (λ j. places ≤ j) (take 32 struck) → Same (strike_shows struck shows) shows
  -- no plate is shown that does not exist below
  pub exist : (shows : ℕ → Option Size) → AllExist shows → AllExist (strike_shows struck shows)
