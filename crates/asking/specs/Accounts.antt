-- The rows that say why each plate passes or not.
use Rattle.std.specs.Prelude.{◌≡◌, ℕ, List, Ok, Err, Option, Result}
use Rattle.plates.specs.Size.{Size}
use Rattle.plates.specs.declared.refusals.Refusal.{Refusal}
use Rattle.plates.specs.declared.turnings.Turning.{Turning}
use Rattle.plates.specs.declared.verdicts.Verdict.{Verdict}
use Rattle.choice.specs.Explaining.{explained}
use Rattle.choice.specs.declared.explaining.ExplainRow.{ExplainRow}
use Rattle.asking.specs.declared.accounts.NoAccount.{NoAccount}
use Rattle.asking.specs.declared.accounts.NoAccount.TheVariants.{Refused, Memory}

-- the joint is lawful, and these are the rows of all places
abbrev pub AllRows : Result (Unit {0}) Refusal → (Size → Turning → Verdict) → ℕ → (ℕ → Option Size) → List ExplainRow → Type 0
AllRows standing verdict places shows rows = (standing ≡ Ok tt) × (rows ≡ explained verdict places shows)

-- there are none for an unlawful joint, which gives its refusal, or for want of memory
abbrev pub NoRows : Result (Unit {0}) Refusal → NoAccount → Type 0
NoRows standing (Refused e) = standing ≡ Err e
NoRows standing Memory = Unit {0}
