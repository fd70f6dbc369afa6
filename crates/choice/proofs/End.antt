-- All places asked: the best of those below the place count is the best there is.
use Rattle.std.proofs.Common.{◌≡◌, ℕ, ◌≤◌, Some, None, Option, Result, sym, refl, ◌∙◌, subst}
use Rattle.plates.specs.Size.{Size}
use Rattle.plates.specs.declared.refusals.Refusal.{Refusal}
use Rattle.plates.specs.declared.turnings.Turning.{Turning}
use Rattle.plates.specs.declared.verdicts.Verdict.{Verdict}
use Rattle.choice.specs.declared.Choice.{Choice}
use Rattle.choice.specs.declared.Offer.{Offer}
use Rattle.choice.specs.Choosing.{Answered}
use Rattle.choice.specs.Offers.{answered, Best, below}
use Rattle.choice.proofs.Below.{fits_out, fits_all}

best_all : (v : Size → Turning → Verdict) (shows : ℕ → Option Size) (n : ℕ) (best : Option Offer) → ((k : ℕ) → n ≤ k → shows k ≡ None) → Best v (below n shows) best → Best v shows best
best_all v shows n None beyond b = λ j u s f. b j u s (fits_all v shows n beyond j u s f)
best_all v shows n (Some o) beyond b =
    record {
      plate = b.plate;
      fits = (fits_out v shows n o.candidate.0 o.candidate.1 b.plate b.fits).1;
      sized = b.sized;
      least = λ j u s f. b.least j u s (fits_all v shows n beyond j u s f);
      first = λ j u s f e. b.first j u s (fits_all v shows n beyond j u s f) e;
    }

best_answered : (v : Size → Turning → Verdict) (shows : ℕ → Option Size) (n asked : ℕ) (best : Option Offer) → asked ≡ n → Best v shows best → Answered v n shows (answered best asked)
best_answered v shows n asked None e b = (refl, b)
best_answered v shows n asked (Some o) e b = (b, e)

-- what a search answers that ended at place k, the place count
pub all_asked : (v : Size → Turning → Verdict) (shows : ℕ → Option Size) (best : Option Offer) {n k asked : ℕ} {r : Result Choice Refusal} → ((j : ℕ) → n ≤ j → shows j ≡ None) → k ≡ n → asked ≡ k → Best v (below k shows) best → r ≡ answered best asked → Answered v n shows r
all_asked v shows best {n = n} {asked = asked} beyond end counted b e =
    let all = best_all v shows n best beyond (subst (λ k. Best v (below k shows) best) end b) in
    subst (λ x. Answered v n shows x) (sym e) (best_answered v shows n asked best (counted ∙ end) all)
