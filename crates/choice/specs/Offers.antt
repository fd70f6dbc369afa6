-- What the steps of a choice answer.
use Rattle.std.specs.Prelude.{ℕ, cond, Some, None, Ok, Err, Option, Result, nat_lt}
use Rattle.plates.specs.Size.{Size, area}
use Rattle.plates.specs.Verdicts.{passes}
use Rattle.plates.specs.declared.refusals.Refusal.{Refusal}
use Rattle.plates.specs.declared.refusals.Refusal.TheVariants.{NothingFits}
use Rattle.plates.specs.declared.turnings.Turning.{Turning}
use Rattle.plates.specs.declared.turnings.Turning.TheVariants.{Unturned, Turned}
use Rattle.plates.specs.declared.verdicts.Verdict.{Verdict}
use Rattle.choice.specs.declared.Choice.{Choice}
use Rattle.choice.specs.declared.Offer.{Offer}
use Rattle.choice.specs.Choosing.{Fits, Least}

-- the first turning that passes: unturned, else turned, else none
abbrev pub first_passing : (Turning → Verdict) → Option Turning
first_passing verdict = cond (passes (verdict Unturned)) (Some Unturned) (cond (passes (verdict Turned)) (Some Turned) None)

-- the plate s at place k, in the turning found for it
abbrev pub placed : ℕ → Size → Option Turning → Option Offer
placed k s None = None
placed k s (Some t) = Some (record { candidate = (k, t); area = area s })

-- what place k offers, where this plate or nothing is shown
abbrev pub offered : (Size → Turning → Verdict) → ℕ → Option Size → Option Offer
offered verdict k None = None
offered verdict k (Some s) = placed k s (first_passing (verdict s))

-- the offer of less area; of equal ones the earlier
abbrev pub lesser_of : Option Offer → Option Offer → Option Offer
lesser_of None later = later
lesser_of (Some old) None = Some old
lesser_of (Some old) (Some new) = cond (nat_lt new.area old.area) (Some new) (Some old)

-- what a search answers that came to this offer, having asked so many places
abbrev pub answered : Option Offer → ℕ → Result Choice Refusal
answered None asked = Err NothingFits
answered (Some o) asked = Ok (record { candidate = o.candidate; area = o.area; asked = asked })

-- what is shown at the places below n
abbrev pub below : ℕ → (ℕ → Option Size) → ℕ → Option Size
below n shows k = cond (nat_lt k n) (shows k) None

-- the least candidate there is, or none where none passes
abbrev pub Best : (Size → Turning → Verdict) → (ℕ → Option Size) → Option Offer → Type 0
Best verdict shows None = (k : ℕ) (t : Turning) (s : Size) → Fits verdict shows k t s → ⊥
Best verdict shows (Some o) = Least verdict shows o.candidate.0 o.candidate.1 o.area
