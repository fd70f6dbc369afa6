-- The steps of trying a plate, and what its verdict means.
use Rattle.std.proofs.Common.{◌≡◌, ℕ, Bool, true, false, cond, List, [], ◌∷◌, ◌++◌, Some, None, Option, refl, ap, ◌∙◌, arith}
use Rattle.plates.specs.Verdicts.{passes}
use Rattle.plates.specs.declared.verdicts.Clause.{Clause}
use Rattle.plates.specs.declared.verdicts.Verdict.{Verdict}
use Rattle.plates.specs.declared.verdicts.Verdict.TheVariants.{Passes, Misses}
use Rattle.clauses.specs.Clauses.{Laid}
use Rattle.rules.specs.declared.terms.Member.{Member}
use Rattle.joints.specs.Scan.{first_failing}
use Rattle.joints.specs.Verdict.{Check, whole, each, Met, Missed, MissesFirst, Judges, missed_at, first_missed}
use Rattle.joints.proofs.Scanning.{Means, means}
use Rattle.joints.specs.Checks.{each_of}

-- the verdict of member clauses over the members
abbrev pub over : Laid → List Member → List Clause → Verdict
over l ms cs = first_missed (each_of cs l) ms

-- a check that is met goes before the verdict of the others
met_first : (ms : List Member) (k : Check) (ks : List Check) → Met ms k → (v : Verdict) → Judges ks ms v → Judges (k ∷ ks) ms v
met_first ms k ks m Passes h = (m, h)
met_first ms k ks m (Misses c n) h = record {
  met = k ∷ h.met;
  missed = h.missed;
  later = h.later;
  split = ap (λ l. k ∷ l) h.split;
  passed = (m, h.passed);
  fails = h.fails;
}

missed_first : (ms : List Member) (k : Check) (ks : List Check) (c : Clause) (n : ℕ) → Missed ms k c n → MissesFirst (k ∷ ks) ms c n
missed_first ms k ks c n m = record { met = []; missed = k; later = ks; split = refl; passed = tt; fails = m }

by_whole : (ms : List Member) (c : Clause) (b : Bool) (ks : List Check) (v : Verdict) → Judges ks ms v → Judges (whole c b ∷ ks) ms (cond b v (Misses c 0))
by_whole ms c true ks v h = met_first ms (whole c true) ks refl v h
by_whole ms c false ks v h = missed_first ms (whole c false) ks c 0 (refl, refl, refl)

by_each : (ms : List Member) (c : Clause) (p : Member → Bool) (ks : List Check) (v : Verdict) → Judges ks ms v → (r : Option ℕ) → Means p 1 ms r → Judges (each c p ∷ ks) ms (missed_at c r v)
by_each ms c p ks v h None m = met_first ms (each c p) ks m v h
by_each ms c p ks v h (Some n) m = missed_first ms (each c p) ks c n (m, refl)

pub judges : (ks : List Check) (ms : List Member) → Judges ks ms (first_missed ks ms)
judges [] ms = tt
judges (whole c b ∷ ks) ms = by_whole ms c b ks _ (judges ks ms)
judges (each c p ∷ ks) ms = by_each ms c p ks _ (judges ks ms) _ (means p 1 ms)

-- the verdict of checks that go on: a clause missed stays, and 'passes' leaves it to the others
abbrev after : Verdict → Verdict → Verdict
after Passes v = v
after (Misses c k) v = Misses c k

after_cond : (b : Bool) (v w : Verdict) (c : Clause) → cond b (after v w) (Misses c 0) ≡ after (cond b v (Misses c 0)) w
after_cond true v w c = refl
after_cond false v w c = refl

after_missed : (r : Option ℕ) (v w : Verdict) (c : Clause) → missed_at c r (after v w) ≡ after (missed_at c r v) w
after_missed None v w c = refl
after_missed (Some k) v w c = refl

goes_on : (ks ls : List Check) (ms : List Member) → first_missed (ks ++ ls) ms ≡ after (first_missed ks ms) (first_missed ls ms)
goes_on [] ls ms = refl
goes_on (whole c b ∷ ks) ls ms = ap (λ v. cond b v (Misses c 0)) (goes_on ks ls ms) ∙ after_cond b _ _ c
goes_on (each c p ∷ ks) ls ms = ap (missed_at c (first_failing p 1 ms)) (goes_on ks ls ms) ∙ after_missed (first_failing p 1 ms) _ _ c

stays_missed : (v w : Verdict) → passes v ≡ false → after v w ≡ v
stays_missed Passes w e = let z : ◌≡◌ {A = ℕ} 0 1 = cc in absurd (omega arith)
stays_missed (Misses c k) w e = refl

leaves_it : (v w : Verdict) → passes v ≡ true → after v w ≡ w
leaves_it Passes w e = refl
leaves_it (Misses c k) w e = let z : ◌≡◌ {A = ℕ} 0 1 = cc in absurd (omega arith)

module _ (ks ls : List Check) (ms : List Member) where
  pub missed_before : passes (first_missed ks ms) ≡ false → first_missed (ks ++ ls) ms ≡ first_missed ks ms
  missed_before e = goes_on ks ls ms ∙ stays_missed _ _ e

  pub passed_before : passes (first_missed ks ms) ≡ true → first_missed (ks ++ ls) ms ≡ first_missed ls ms
  passed_before e = goes_on ks ls ms ∙ leaves_it _ _ e
