-- What shows through something that hides plates at places.
use Rattle.std.specs.Prelude.{ℕ, Bool, cond, Some, None, Option}
use Rattle.plates.specs.Size.{Size}

-- what is shown of the plate below, or of none
abbrev pub unless : (Size → Bool) → Option Size → Option Size
unless hidden None = None
unless hidden (Some s) = cond (hidden s) None (Some s)

-- each place shows its plate below, where that is not hidden
abbrev pub unhidden : (ℕ → Size → Bool) → (ℕ → Option Size) → ℕ → Option Size
unhidden hides shows k = unless (hides k) (shows k)
