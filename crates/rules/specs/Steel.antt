-- The resistance of the steel.
use Rattle.std.specs.Prelude.{ℕ, ◌+◌, ◌/◌, ◌%◌, slice_index}
use Rattle.rules.specs.declared.terms.Card.{Card}
use Rattle.rules.specs.Teeth.{between}

-- t: between the values along and across the plate axis
abbrev pub tensile : Card → ℕ → ℕ
tensile c ρ = between c.t0 c.t90 ρ 90

-- the shear value at 30 × k degrees; 180 has the value of 0
abbrev pub shear_at : Card → ℕ → ℕ
shear_at c k = slice_index c.shear (k % 6)

-- v: between the values at the 30-degree neighbours of σ
abbrev pub shearing : Card → ℕ → ℕ
shearing c σ = between (shear_at c (σ / 30)) (shear_at c (σ / 30 + 1)) (σ % 30) 30
