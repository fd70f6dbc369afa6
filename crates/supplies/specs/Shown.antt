-- What can be said of anything that is shown place by place.
use Rattle.std.specs.Prelude.{◌≡◌, ℕ, ◌≤◌, true, Some, None, Option}
use Rattle.plates.specs.Size.{Size, exists}

-- a plate that is shown is one that exists
abbrev pub Exists : Option Size → Type 0
Exists None = Unit {0}
Exists (Some s) = exists s.width s.length s.family ≡ true

-- every plate shown exists
abbrev pub AllExist : (ℕ → Option Size) → Type 0
AllExist shows = (k : ℕ) → Exists (shows k)

-- nothing is shown from this place on
abbrev pub NothingFrom : ℕ → (ℕ → Option Size) → Type 0
NothingFrom places shows = (k : ℕ) → places ≤ k → shows k ≡ None

-- two show the same at every place
abbrev pub Same : (ℕ → Option Size) → (ℕ → Option Size) → Type 0
Same shows others = (k : ℕ) → shows k ≡ others k
