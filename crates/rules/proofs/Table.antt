-- The laws of the table of squared sines, each one test that antt computes over all angles.
use Rattle.std.proofs.Common.{◌≡◌, ℕ, zero, suc, ◌+◌, ◌-◌, ◌*◌, ◌^◌, ◌<◌, ◌≤◌, List, slice_index, Bool, true, ◌&&◌, eqb, ltb, leb, Decides, refl, arith}
use Rattle.std.proofs.lemmas.Bool.{le-leb, leb-true}
use Rattle.std.proofs.lemmas.Bool.Decides.{Decides-below_and, Decides-eqb, Decides-ltb, Decides-and}
use Rattle.rules.specs.Sines.{squares, S, cosines, Nearest, SquaredSines}

-- the test passes at each number below n
abbrev below : (ℕ → Bool) → ℕ → Bool
below f zero = true
below f (suc n) = f n && below f n

decides_leb : (a b : ℕ) → Decides (leb a b) (a ≤ b)
decides_leb a b = (leb-true a b, le-leb a b)

at : (p : ℕ → Bool) (P : ℕ → Type 0) → ((k : ℕ) → Decides (p k) (P k)) → (n : ℕ) → below p n ≡ true → (k : ℕ) → k < n → P k
at p P each n t = (Decides-below_and p P (below p) each refl (λ _. refl) n).0 t

pub laws : SquaredSines
unfolding S squares
laws = record {
  symmetric = λ a h. at (λ a. eqb (S a + S (90 - a)) 10000) (λ a. S a + S (90 - a) ≡ 10000) (λ a. Decides-eqb _ _) 91 refl a (omega arith);
  growing = λ a h. at (λ a. ltb (S a) (S (a + 1))) (λ a. S a < S (a + 1)) (λ a. Decides-ltb _ _) 90 refl a h;
  nearest = λ a h. at (λ a. leb (2 * 10 ^ 16 * S a + (cosines a).0) (10 ^ 20 + 10 ^ 16) && leb (10 ^ 20) (2 * 10 ^ 16 * S a + (cosines a).0 + 10 ^ 16)) Nearest (λ a. Decides-and _ _ (decides_leb _ _) (decides_leb _ _)) 46 refl a (omega arith);
  quarter = leb-true _ _ refl;
}

-- no entry of a list of 91 that passes this test is above m
pub entry_bound : (m : ℕ) (xs : List ℕ) → below (λ k. leb (slice_index xs k) m) 91 ≡ true → (k : ℕ) → k ≤ 90 → slice_index xs k ≤ m
entry_bound m xs t k h = at (λ k. leb (slice_index xs k) m) (λ k. slice_index xs k ≤ m) (λ k. decides_leb _ _) 91 t k (omega arith)
