-- What judge and choose answer, for any joint (its standing and its verdict) and any
-- supply (its place count and what it shows at each place).
use Rattle.std.specs.Prelude.{◌≡◌, ℕ, ◌<◌, ◌≤◌, ◌⊎◌, Some, Ok, Err, Option, Result}
use Rattle.plates.specs.Size.{Size, size, area}
use Rattle.plates.specs.declared.shape.Plate.{Plate}
use Rattle.plates.specs.declared.refusals.Refusal.{Refusal}
use Rattle.plates.specs.declared.refusals.Refusal.TheVariants.{NothingFits}
use Rattle.plates.specs.declared.turnings.Turning.{Turning}
use Rattle.plates.specs.declared.turnings.Turning.TheVariants.{Unturned, Turned}
use Rattle.plates.specs.declared.verdicts.Verdict.{Verdict}
use Rattle.plates.specs.declared.verdicts.Verdict.TheVariants.{Passes}
use Rattle.choice.specs.declared.Choice.{Choice}

-- an unlawful joint gives its refusal in place of a verdict
abbrev pub Judged : Result (Unit {0}) Refusal → (Size → Turning → Verdict) → Plate → Turning → Result Verdict Refusal → Type 0
Judged (Err e) verdict p t r = r ≡ Err e
Judged (Ok u) verdict p t r = r ≡ Ok (verdict (size p) t)

-- the plate s is shown at place k and passes in the turning t
abbrev pub Fits : (Size → Turning → Verdict) → (ℕ → Option Size) → ℕ → Turning → Size → Type 0
Fits verdict shows k t s = (shows k ≡ Some s) × (verdict s t ≡ Passes)

-- of two turnings at one place, unturned goes first
abbrev pub NoLater : Turning → Turning → Type 0
NoLater Unturned t = Unit {0}
NoLater Turned Unturned = ⊥
NoLater Turned Turned = Unit {0}

-- (k, t) is the least candidate: its plate is shown and passes, with that area; no plate that
-- is shown and passes has less; of equal ones none has a lower place, and at one place
-- unturned goes first
pub record Least (verdict : Size → Turning → Verdict) (shows : ℕ → Option Size) (k : ℕ) (t : Turning) (a : ℕ) : Type 0 where
  pub plate : Size
  pub fits : Fits verdict shows k t plate
  pub sized : a ≡ area plate
  pub least : (j : ℕ) (u : Turning) (s : Size) → Fits verdict shows j u s → a ≤ area s
  pub first : (j : ℕ) (u : Turning) (s : Size) → Fits verdict shows j u s → area s ≡ a → (k < j) ⊎ ((k ≡ j) × NoLater t u)

-- a lawful joint gets the least candidate with every place asked, or 'nothing fits' where no
-- plate shown passes in either turning
abbrev pub Answered : (Size → Turning → Verdict) → ℕ → (ℕ → Option Size) → Result Choice Refusal → Type 0
Answered verdict places shows (Ok c) = Least verdict shows c.candidate.0 c.candidate.1 c.area × (c.asked ≡ places)
Answered verdict places shows (Err e) = (e ≡ NothingFits) × ((k : ℕ) (t : Turning) (s : Size) → Fits verdict shows k t s → ⊥)

abbrev pub Chosen : Result (Unit {0}) Refusal → (Size → Turning → Verdict) → ℕ → (ℕ → Option Size) → Result Choice Refusal → Type 0
Chosen (Err e) verdict places shows r = r ≡ Err e
Chosen (Ok u) verdict places shows r = Answered verdict places shows r
