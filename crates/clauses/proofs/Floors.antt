-- A quotient rounded towards minus infinity is the greatest whole number that does not pass it.
use Rattle.std.proofs.Common.{◌≡◌, ℕ, suc, ◌+◌, ◌*◌, ◌/◌, ◌^◌, ◌<◌, ◌≤◌, ℤ, pos, negsuc, ◌*ℤ◌, neg_ℤ, ◌≤ℤ◌, refl, add-mul, div-mul-le_self, arith, w64, SFits}
use Rattle.std.specs.Int.{int_div_euclid}
use Rattle.std.proofs.lemmas.Nat.{div-add-mod', mod_below, div_below, le-div, mul-le}
use Rattle.std.proofs.lemmas.Int.{ints}
use Rattle.clauses.specs.Splice.{floored, Floor}

pub floored_is : (z : ℤ) (g : ℕ) → int_div_euclid z (pos g) ≡ floored z g
floored_is (pos a) g = refl
floored_is (negsuc a) g = refl

-- a whole number times g, by its sign
over_pos : (n g a : ℕ) → (pos n *ℤ pos g) ≤ℤ pos a → n * g ≤ a
over_pos n g a h = omega (arith, ints)

over_neg : (n g a : ℕ) → (negsuc n *ℤ pos g) ≤ℤ negsuc a → a < (n + 1) * g
over_neg n g a h = omega (arith, ints)

most_pos : (a g : ℕ) → 0 < g → (k : ℤ) → (k *ℤ pos g) ≤ℤ pos a → k ≤ℤ pos (a / g)
most_pos a g some (pos n) h = omega (arith, ints, le-div n a g some (over_pos n g a h))
most_pos a g some (negsuc n) h = omega (arith, ints)

most_neg : (a g : ℕ) → 0 < g → (k : ℤ) → (k *ℤ pos g) ≤ℤ negsuc a → k ≤ℤ negsuc (a / g)
most_neg a g some (pos n) h = absurd (omega (arith, ints))
most_neg a g some (negsuc n) h = omega (arith, ints, div_below a g (n + 1) some (over_neg n g a h))

pub floor : (z : ℤ) (g : ℕ) → 0 < g → Floor z g (floored z g)
floor (pos a) g some = record { reaches = omega (arith, ints, div-mul-le_self a g); greatest = most_pos a g some }
floor (negsuc a) g some = record {
  reaches = omega (arith, ints, div-add-mod' a g, mod_below a g some, add-mul (a / g) 1 g);
  greatest = most_neg a g some;
}

-- the product of a number up to a and one between −m and m
pub between_products : (a b m : ℕ) (z : ℤ) → b ≤ a → neg_ℤ (pos m) ≤ℤ z → z ≤ℤ pos m → (neg_ℤ (pos (a * m)) ≤ℤ (pos b *ℤ z)) × ((pos b *ℤ z) ≤ℤ pos (a * m))
between_products a b m (pos n) k l h = let p = mul-le b n a m k (omega (arith, ints)) in (omega (arith, ints), omega (arith, ints))
between_products a b m (negsuc n) k l h = let p = mul-le b (suc n) a m k (omega (arith, ints)) in (omega (arith, ints), omega (arith, ints))

-- what lies between −10^15 and 10^15 fits 64 bits
pub fits_64 : (z : ℤ) → neg_ℤ (pos (10 ^ 15)) ≤ℤ z → z ≤ℤ pos (10 ^ 15) → SFits w64 z
fits_64 (pos n) l h = record { sfits = omega (arith, ints) }
fits_64 (negsuc n) l h = record { sfits = omega (arith, ints) }
