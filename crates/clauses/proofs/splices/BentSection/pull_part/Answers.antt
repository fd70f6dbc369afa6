use Rattle.std.proofs.Common.{◌≡◌, ◌*◌, ◌^◌, ◌≤◌, ℕ, ℤ, pos, ◌*ℤ◌, neg_ℤ, ◌≤ℤ◌, sym, subst, arith, w64, SFits, to_z, of_z}
use Rattle.std.proofs.lemmas.Int.{ints, to_z-of_z}
use Rattle.clauses.specs.Splice.{pull_part}
use Rattle.clauses.proofs.Floors.{between_products, fits_64}
use Rattle.clauses.proofs.splices.BentSection.pull_part.Goals as goal

-- 10^5 × T × y, for a tension of at most 200,000 and an axis within 50,000
module _ (t : ℕ) (y : ℤ) (few : t ≤ 200000) (low : neg_ℤ (pos 50000) ≤ℤ y) (high : y ≤ℤ pos 50000) where
  within : (neg_ℤ (pos (10 ^ 15)) ≤ℤ (pos (100000 * t) *ℤ y)) × ((pos (100000 * t) *ℤ y) ≤ℤ pos (10 ^ 15))
  within = between_products (100000 * 200000) (100000 * t) 50000 y (omega arith) low high

  -- 64 bits hold it
  is : to_z w64 (of_z w64 (to_z w64 (100000 * t) *ℤ to_z w64 (of_z w64 y))) ≡ pos (100000 * t) *ℤ y
  is =
      let e : to_z w64 (100000 * t) ≡ pos (100000 * t) = omega (arith, ints) in
      let s : to_z w64 (of_z w64 y) ≡ y = omega (arith, ints) in
      let f : SFits w64 (pos (100000 * t) *ℤ y) = fits_64 _ within.0 within.1 in
      simp (e, s, to_z-of_z)

pub returns : goal.returns
unfolding pull_part
returns c =
    let s = c.args.self.now in
    let far = s.within.side in
    let few = s.within.pull in
    let low : neg_ℤ (pos 50000) ≤ℤ s.y = omega (arith, ints) in
    let high : s.y ≤ℤ pos 50000 = omega (arith, ints) in
    let held = sym (is _ s.y few low high) in
    record {
      value = is _ s.y few low high;
      low = subst (λ (z : ℤ). neg_ℤ (pos (10 ^ 15)) ≤ℤ z) held (within _ s.y few low high).0;
      high = subst (λ (z : ℤ). z ≤ℤ pos (10 ^ 15)) held (within _ s.y few low high).1;
    }
