-- The clauses that joints of every kind are tried by.
use Rattle.std.specs.Prelude.{ℕ, true, false, List, [], ◌∷◌, Some, None, Option, slice_get}
use Rattle.plates.specs.Size.{Size}
use Rattle.plates.specs.declared.turnings.Turning.{Turning}
use Rattle.plates.specs.declared.verdicts.Clause.{Clause}
use Rattle.plates.specs.declared.verdicts.Clause.TheVariants as clause
use Rattle.clauses.specs.Clauses.{Laid, allowed, short_teeth, meets}
use Rattle.rules.specs.declared.terms.Card.{Card}
use Rattle.rules.specs.declared.terms.Conditions.{Conditions}
use Rattle.joints.specs.Verdict.{Check, whole, each}

-- the family's card
abbrev pub card_of : List Card → ℕ → Option Card
card_of cs k = slice_get cs k

-- what the clauses D to I ask of each member
abbrev pub member_clauses : List Clause
member_clauses = clause.Bite ∷ clause.CrossGrain ∷ clause.Grip ∷ clause.Tension ∷ clause.Shear ∷ clause.Slip ∷ []

abbrev pub each_of : List Clause → Laid → List Check
each_of [] l = []
each_of (c ∷ cs) l = each c (meets c l) ∷ each_of cs l

-- the clauses A to I, in order; without a card nothing after B can be tried. j is the moment factor
abbrev pub checks : Conditions → ℕ → Option Card → Size → Turning → List Check
checks k j None s t = whole clause.Turning (allowed k.turnings t) ∷ whole clause.Card false ∷ []
checks k j (Some c) s t =
    whole clause.Turning (allowed k.turnings t) ∷ whole clause.Card true ∷ whole clause.Teeth (short_teeth c)
    ∷ each_of member_clauses (record { conditions = k; factor = j; card = c; plate = s; turning = t })
