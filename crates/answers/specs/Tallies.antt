-- How many rows of an account end in which way.
use Rattle.std.specs.Prelude.{ℕ, Bool, true, false, List, Some, None, Option, ◌==◌, count_by}
use Rattle.plates.specs.Verdicts.{letter}
use Rattle.plates.specs.declared.verdicts.Clause.{Clause}
use Rattle.plates.specs.declared.verdicts.Verdict.{Verdict}
use Rattle.plates.specs.declared.verdicts.Verdict.TheVariants.{Passes, Misses}
use Rattle.choice.specs.declared.explaining.ExplainRow.{ExplainRow}

-- the verdict names this clause, or none where it passes
abbrev pub ends : Option Clause → Verdict → Bool
ends None Passes = true
ends None (Misses c m) = false
ends (Some d) Passes = false
ends (Some d) (Misses c m) = letter c == letter d

-- how many of the rows do
abbrev pub tally : Option Clause → List ExplainRow → ℕ
tally clause rows = count_by (λ x. ends clause x.verdict) rows
