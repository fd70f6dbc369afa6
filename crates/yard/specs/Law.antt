-- The law of the books: what stands after any run of calls on a yard, from its making on.
use Rattle.std.specs.Prelude.{◌≡◌, ℕ, ◌+◌, ◌<◌, ◌≤◌, List, Some, Ok, Err, Option, Result}
use Rattle.plates.specs.Size.{Size, area}
use Rattle.plates.specs.declared.refusals.Refusal.{Refusal}
use Rattle.plates.specs.declared.refusals.Refusal.TheVariants.{NothingFits}
use Rattle.plates.specs.declared.turnings.Turning.{Turning}
use Rattle.plates.specs.declared.verdicts.Verdict.{Verdict}
use Rattle.plates.specs.declared.verdicts.Verdict.TheVariants.{Passes}
use Rattle.yard.specs.declared.bins.Bin.{Bin}
use Rattle.yard.specs.Slips.{DrawnSlip}
use Rattle.yard.specs.declared.slips.SlipNumbers.{SlipNumbers}
use Rattle.yard.specs.Counts.{Count, counted}
use Rattle.yard.specs.Calls.{Drew, Slipped, Told}
use Rattle.yard.specs.Runs.{Event, Ran, received, drawn, handed_back, pressed}

-- by the books a pair is on hand at place k: more came in there than was drawn
abbrev pub OnHand : List Event → ℕ → Type 0
OnHand es k = drawn k es < received k es + handed_back k es

-- the pair on hand at place k is of the plate s, and passes in the turning t
pub record Passing (verdict : Size → Turning → Verdict) (shows : ℕ → Option Size) (es : List Event) (k : ℕ) (t : Turning) (s : Size) : Type 0 where
  pub on_hand : OnHand es k
  pub shown : shows k ≡ Some s
  pub passes : verdict s t ≡ Passes

abbrev pub NonePasses : (Size → Turning → Verdict) → (ℕ → Option Size) → List Event → Type 0
NonePasses verdict shows es = (k : ℕ) (t : Turning) (s : Size) → Passing verdict shows es k t s → ⊥

-- the slip names a pair on hand that passes in its turning, and every pair on hand that passes
-- in either turning has at least its area
pub record LeastOnHand (verdict : Size → Turning → Verdict) (shows : ℕ → Option Size) (es : List Event) (slip : SlipNumbers) : Type 0 where
  pub plate : Size
  pub passing : Passing verdict shows es slip.place slip.turning plate
  pub least : (k : ℕ) (t : Turning) (s : Size) → Passing verdict shows es k t s → area plate ≤ area s

-- the next drawing for a lawful joint is refused, as 'nothing fits', exactly when no pair on
-- hand passes; otherwise it gives the slip that draw defines, for the least pair on hand
pub record NextLawful (verdict : Size → Turning → Verdict) (shows : ℕ → Option Size) (stamp : ℕ) (es : List Event) (counts : List Count) (joint : ℕ) (r : Result DrawnSlip Refusal) (after : List Count) : Type 0 where
  pub refused : (e : Refusal) → r ≡ Err e → (e ≡ NothingFits) × NonePasses verdict shows es
  pub nothing_fits : NonePasses verdict shows es → r ≡ Err NothingFits
  pub defined : (slip : DrawnSlip) → r ≡ Ok slip → Slipped verdict shows stamp counts joint slip.numbers after
  pub best : (slip : DrawnSlip) → r ≡ Ok slip → LeastOnHand verdict shows es slip.numbers

-- the next drawing for an unlawful joint gets that joint's refusal
abbrev pub NextDrawing : Result (Unit {0}) Refusal → (Size → Turning → Verdict) → (ℕ → Option Size) → ℕ → List Event → List Count → ℕ → Result DrawnSlip Refusal → List Count → Type 0
NextDrawing (Err e) verdict shows stamp es counts joint r after = r ≡ Err e
NextDrawing (Ok u) verdict shows stamp es counts joint r after = NextLawful verdict shows stamp es counts joint r after

-- the next telling at a place is answered, and its numbers balance with what was done there
abbrev pub Balanced : List Event → ℕ → Result Bin Refusal → Type 0
Balanced es k (Ok b) =
    ((counted b).on_hand + drawn k es ≡ received k es + handed_back k es) × ((counted b).out + handed_back k es + pressed k es ≡ drawn k es)
Balanced es k (Err e) = ⊥

pub record Stands (places : ℕ) (shows : ℕ → Option Size) (stamp : ℕ) (es : List Event) (counts : List Count) : Type 0 where
  pub next_drawing : (standing : Result (Unit {0}) Refusal) (verdict : Size → Turning → Verdict) (joint : ℕ) (r : Result DrawnSlip Refusal) (after : List Count)
      → Drew standing verdict shows stamp counts joint r after → NextDrawing standing verdict shows stamp es counts joint r after
  pub balance : (k : ℕ) → k < 256 → k < places → (r : Result Bin Refusal) → Told places counts k r → Balanced es k r

abbrev pub Law : ℕ → (ℕ → Option Size) → ℕ → List Count → Type 0
Law places shows stamp start = (es : List Event) (counts : List Count) → Ran places shows stamp start es counts → Stands places shows stamp es counts
