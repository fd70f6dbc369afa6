-- The plate that is chosen.
use Rattle.std.specs.Prelude.{◌≡◌, ℕ, Some, Ok, Err, Option, Result}
use Rattle.plates.specs.Size.{Size, size}
use Rattle.plates.specs.declared.refusals.Refusal.{Refusal}
use Rattle.choice.specs.declared.Choice.{Choice}
use Rattle.asking.specs.declared.picks.Picked.{Picked}

abbrev pub as_choice : Result Picked Refusal → Result Choice Refusal
as_choice (Ok p) = Ok (record { candidate = (p.place, p.turning); area = p.area; asked = p.asked })
as_choice (Err e) = Err e

-- the plate is the one that is shown at the place
abbrev pub Shown : (ℕ → Option Size) → Result Picked Refusal → Type 0
Shown shows (Ok p) = shows p.place ≡ Some (size p.plate)
Shown shows (Err e) = Unit {0}
