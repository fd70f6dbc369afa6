-- What fits among the places below n, and what fits at one place.
use Rattle.std.proofs.Common.{◌≡◌, ℕ, ◌+◌, ◌<◌, ◌≤◌, true, false, cond, ltb, ◌⊎◌, Some, None, Option, sym, refl, ap, ◌∙◌, subst, inl, inr, ⊎_elim, arith}
use Rattle.std.proofs.lemmas.Bool.{cases_Bool, cases_lt, cond-true, cond-false, cond_both, lt-ltb, ltb-true}
use Rattle.plates.specs.Size.{Size, area}
use Rattle.plates.specs.Verdicts.{passes}
use Rattle.plates.specs.declared.turnings.Turning.{Turning}
use Rattle.plates.specs.declared.turnings.Turning.TheVariants.{Unturned, Turned}
use Rattle.plates.specs.declared.verdicts.Verdict.{Verdict}
use Rattle.plates.specs.declared.verdicts.Verdict.TheVariants.{Passes, Misses}
use Rattle.choice.specs.declared.Offer.{Offer}
use Rattle.choice.specs.Choosing.{Fits, NoLater}
use Rattle.choice.specs.Offers.{below, offered, placed}

-- what fits below n fits, and its place is below n; and back
pub fits_out : (v : Size → Turning → Verdict) (shows : ℕ → Option Size) (n j : ℕ) (u : Turning) (s : Size) → Fits v (below n shows) j u s → (j < n) × Fits v shows j u s
fits_out v shows n j u s f =
    ⊎_elim (λ t. (ltb-true j n t, (sym (cond-true (ltb j n) (shows j) None t) ∙ f.0, f.1)))
    (λ t. let none = cond-false (ltb j n) (shows j) None t in cc)
    (cases_Bool (ltb j n))

pub fits_in : (v : Size → Turning → Verdict) (shows : ℕ → Option Size) (n j : ℕ) (u : Turning) (s : Size) → j < n → Fits v shows j u s → Fits v (below n shows) j u s
fits_in v shows n j u s h f = (cond-true (ltb j n) (shows j) None (lt-ltb j n h) ∙ f.0, f.1)

-- where nothing is shown from n on, all that fits is below n
pub fits_all : (v : Size → Turning → Verdict) (shows : ℕ → Option Size) (n : ℕ) → ((k : ℕ) → n ≤ k → shows k ≡ None) → (j : ℕ) (u : Turning) (s : Size) → Fits v shows j u s → Fits v (below n shows) j u s
fits_all v shows n beyond j u s f =
    ⊎_elim (λ h. fits_in v shows n j u s h f) (λ h. let none = beyond j h in cc) (cases_lt j n)

-- what fits below k + 1 fits below k or at k
pub fits_either : (v : Size → Turning → Verdict) (shows : ℕ → Option Size) (k j : ℕ) (u : Turning) (s : Size) → Fits v (below (k + 1) shows) j u s → Fits v (below k shows) j u s ⊎ ((k ≡ j) × Fits v shows k u s)
fits_either v shows k j u s f =
    let out = fits_out v shows (k + 1) j u s f in
    ⊎_elim (λ h. inl (fits_in v shows k j u s h out.1))
    (λ h. let e : j ≡ k = omega (arith, out.0) in inr (sym e, subst (λ i. Fits v shows i u s) e out.1))
    (cases_lt j k)

-- the offer of place k: its plate fits there in its turning, and no other plate nor an
-- earlier turning does
pub record Offers (v : Size → Turning → Verdict) (shows : ℕ → Option Size) (k : ℕ) (o : Offer) : Type 0 where
  pub here : o.candidate.0 ≡ k
  pub plate : Size
  pub fits : Fits v shows k o.candidate.1 plate
  pub sized : o.area ≡ area plate
  pub only : (u : Turning) (s : Size) → Fits v shows k u s → (area s ≡ area plate) × NoLater o.candidate.1 u

abbrev pub At : (Size → Turning → Verdict) → (ℕ → Option Size) → ℕ → Option Offer → Type 0
At v shows k None = (u : Turning) (s : Size) → Fits v shows k u s → ⊥
At v shows k (Some o) = Offers v shows k o

same_plate : {o : Option Size} {s p : Size} → o ≡ Some p → o ≡ Some s → s ≡ p
same_plate e f = cc

passes_true : (w : Verdict) → passes w ≡ true → w ≡ Passes
passes_true Passes e = refl
passes_true (Misses c m) e = cc

passes_false : (w : Verdict) → passes w ≡ false → w ≡ Passes → ⊥
passes_false w e p = let q = ap passes p in cc

-- a turning that fails for the plate shown fits no plate there
fails : (v : Size → Turning → Verdict) (shows : ℕ → Option Size) (k : ℕ) (p : Size) (t : Turning) → shows k ≡ Some p → passes (v p t) ≡ false → (s : Size) → Fits v shows k t s → ⊥
fails v shows k p t e h s f = passes_false (v p t) h (subst (λ q. v q t ≡ Passes) (same_plate e f.0) f.1)

at_unturned : (v : Size → Turning → Verdict) (shows : ℕ → Option Size) (k : ℕ) (p : Size) → shows k ≡ Some p → passes (v p Unturned) ≡ true → At v shows k (placed k p (Some Unturned))
at_unturned v shows k p e h =
    record { here = refl; plate = p; fits = (e, passes_true (v p Unturned) h); sized = refl; only = λ u s f. (ap area (same_plate e f.0), tt) }

turned_first : (v : Size → Turning → Verdict) (shows : ℕ → Option Size) (k : ℕ) (p : Size) → shows k ≡ Some p → passes (v p Unturned) ≡ false → (u : Turning) (s : Size) → Fits v shows k u s → NoLater Turned u
turned_first v shows k p e h Unturned s f = absurd (fails v shows k p Unturned e h s f)
turned_first v shows k p e h Turned s f = tt

at_turned : (v : Size → Turning → Verdict) (shows : ℕ → Option Size) (k : ℕ) (p : Size) → shows k ≡ Some p → passes (v p Unturned) ≡ false → passes (v p Turned) ≡ true → At v shows k (placed k p (Some Turned))
at_turned v shows k p e h h' =
    record { here = refl; plate = p; fits = (e, passes_true (v p Turned) h'); sized = refl; only = λ u s f. (ap area (same_plate e f.0), turned_first v shows k p e h u s f) }

at_neither : (v : Size → Turning → Verdict) (shows : ℕ → Option Size) (k : ℕ) (p : Size) → shows k ≡ Some p → passes (v p Unturned) ≡ false → passes (v p Turned) ≡ false → (u : Turning) (s : Size) → Fits v shows k u s → ⊥
at_neither v shows k p e h h' Unturned s f = fails v shows k p Unturned e h s f
at_neither v shows k p e h h' Turned s f = fails v shows k p Turned e h' s f

-- what place k offers is the offer of place k
pub offered_at : (v : Size → Turning → Verdict) (shows : ℕ → Option Size) (k : ℕ) (o : Option Size) → shows k ≡ o → At v shows k (offered v k o)
offered_at v shows k None e = λ u s f. cc
offered_at v shows k (Some p) e =
    cond_both (passes (v p Unturned)) (Some Unturned) (cond (passes (v p Turned)) (Some Turned) None) (λ t. At v shows k (placed k p t))
    (λ h. at_unturned v shows k p e h)
    (λ h.
    cond_both (passes (v p Turned)) (Some Turned) None (λ t. At v shows k (placed k p t))
    (λ h'. at_turned v shows k p e h h') (λ h'. at_neither v shows k p e h h'))
