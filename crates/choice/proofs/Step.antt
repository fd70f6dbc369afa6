-- One more place: the best below k and the offer at k give the best below k + 1.
use Rattle.std.proofs.Common.{◌≡◌, ℕ, ◌+◌, ◌<◌, ◌≤◌, ltb, Some, None, Option, sym, refl, ◌∙◌, subst, inl, inr, ⊎_elim, arith}
use Rattle.std.proofs.lemmas.Bool.{cond_both, ltb-true, ltb-false}
use Rattle.plates.specs.Size.{Size, area}
use Rattle.plates.specs.declared.turnings.Turning.{Turning}
use Rattle.plates.specs.declared.verdicts.Verdict.{Verdict}
use Rattle.choice.specs.declared.Offer.{Offer}
use Rattle.choice.specs.Choosing.{Fits}
use Rattle.choice.specs.Offers.{Best, below, lesser_of, offered}
use Rattle.choice.proofs.Below.{fits_in, fits_out, fits_either, Offers, At, offered_at}

-- the best stays, where nothing at k has less area
kept : (v : Size → Turning → Verdict) (shows : ℕ → Option Size) (k : ℕ) (o : Offer) → Best v (below k shows) (Some o) → ((u : Turning) (s : Size) → Fits v shows k u s → o.area ≤ area s) → Best v (below (k + 1) shows) (Some o)
kept v shows k o b here =
    let out = fits_out v shows k o.candidate.0 o.candidate.1 b.plate b.fits in
    record {
      plate = b.plate;
      fits = fits_in v shows (k + 1) o.candidate.0 o.candidate.1 b.plate (omega (arith, out.0)) out.1;
      sized = b.sized;
      least = λ j u s f. ⊎_elim (λ g. b.least j u s g) (λ g. here u s g.1) (fits_either v shows k j u s f);
      first = λ j u s f e. ⊎_elim (λ g. b.first j u s g e) (λ g. inl (omega (arith, out.0, g.0))) (fits_either v shows k j u s f);
    }

-- the offer at k is taken, where all below it has more area
taken : (v : Size → Turning → Verdict) (shows : ℕ → Option Size) (k : ℕ) (o : Offer) → Offers v shows k o → ((j : ℕ) (u : Turning) (s : Size) → Fits v (below k shows) j u s → o.area < area s) → Best v (below (k + 1) shows) (Some o)
taken v shows k o a more =
    record {
      plate = a.plate;
      fits = fits_in v shows (k + 1) o.candidate.0 o.candidate.1 a.plate (omega (arith, a.here)) (subst (λ i. Fits v shows i o.candidate.1 a.plate) (sym a.here) a.fits);
      sized = a.sized;
      least = λ j u s f. ⊎_elim (λ g. omega (arith, more j u s g)) (λ g. omega (arith, a.sized, (a.only u s g.1).0)) (fits_either v shows k j u s f);
      first = λ j u s f e. ⊎_elim (λ g. absurd (omega (arith, more j u s g, e))) (λ g. inr (a.here ∙ g.0, (a.only u s g.1).1)) (fits_either v shows k j u s f);
    }

pub best_more : (v : Size → Turning → Verdict) (shows : ℕ → Option Size) (k : ℕ) (best next : Option Offer) → Best v (below k shows) best → At v shows k next → Best v (below (k + 1) shows) (lesser_of best next)
best_more v shows k None None b a = λ j u s f. ⊎_elim (λ g. b j u s g) (λ g. a u s g.1) (fits_either v shows k j u s f)
best_more v shows k None (Some new) b a = taken v shows k new a (λ j u s f. absurd (b j u s f))
best_more v shows k (Some old) None b a = kept v shows k old b (λ u s f. absurd (a u s f))
best_more v shows k (Some old) (Some new) b a =
    cond_both (ltb new.area old.area) (Some new) (Some old) (λ r. Best v (below (k + 1) shows) r)
    (λ h. taken v shows k new a (λ j u s f. omega (arith, b.least j u s f, ltb-true new.area old.area h)))
    (λ h. kept v shows k old b (λ u s f. omega (arith, a.sized, (a.only u s f).0, ltb-false new.area old.area h)))

-- so it is with what place k offers
pub best_through : (v : Size → Turning → Verdict) (shows : ℕ → Option Size) (k : ℕ) (best : Option Offer) {next r : Option Offer} → Best v (below k shows) best → next ≡ offered v k (shows k) → r ≡ lesser_of best next → Best v (below (k + 1) shows) r
best_through v shows k best {next = next} b e l =
    subst (λ o. Best v (below (k + 1) shows) o) (sym l)
    (best_more v shows k best next b (subst (λ o. At v shows k o) (sym e) (offered_at v shows k (shows k) refl)))
