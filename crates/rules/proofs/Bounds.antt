-- Bounds of products, sums of products and quotients.
use Rattle.std.proofs.Common.{◌≡◌, ℕ, ◌+◌, ◌*◌, ◌/◌, ◌≤◌, sym, ap, ◌∙◌, subst, mul-le-mul_right, mul_assoc, mul_comm, mul-add, mul_left_comm, arith}
use Rattle.std.proofs.lemmas.Nat.{mul-le}
use native.Mathlib.Nat.{div-le_of_le-mul}

-- a mean of two values up to m, weighted by x and y, is up to m
pub weighted : (m a b x y t : ℕ) → a ≤ m → b ≤ m → x + y ≡ t → a * x + b * y ≤ m * t
weighted m a b x y t ha hb e = subst (λ (n : ℕ). a * x + b * y ≤ m * n) e (omega (arith, mul-add m x y, mul-le-mul_right x ha, mul-le-mul_right y hb))

-- its quotient by the weights' sum
pub mean : (m a b x y t : ℕ) → a ≤ m → b ≤ m → x + y ≡ t → (a * x + b * y) / t ≤ m
mean m a b x y t ha hb e = div-le_of_le-mul t (omega (arith, weighted m a b x y t ha hb e, mul_comm m t))

-- p × q × t over p × x + q × y, where x + y is t, is a mean of p and q
pub inverse_mean : (m p q x y t : ℕ) → p ≤ m → q ≤ m → x + y ≡ t → p * q * t / (p * x + q * y) ≤ m
inverse_mean m p q x y t hp hq e =
    subst (λ (n : ℕ). n / (p * x + q * y) ≤ m)
    (sym (ap (λ n. p * q * n) (sym e) ∙ mul-add (p * q) x y ∙ (λ i. left i + mul_assoc p q y i)))
    (mean m q p (p * x) (q * y) (p * x + q * y) hq hp (λ i. p * x + q * y))
  where
    left : p * q * x ≡ q * (p * x)
    left = mul_assoc p q x ∙ mul_left_comm p q x

-- a product of a value, 90 and three factors is bounded by that of their greatest values
pub factors : (n d s j : ℕ) → n ≤ 20000 → d ≤ 115 → s ≤ 100 → j ≤ 100 → n * 90 * d * s * j ≤ 20000 * 90 * 115 * 100 * 100
factors n d s j hn hd hs hj =
    mul-le (n * 90 * d * s) j (20000 * 90 * 115 * 100) 100 (mul-le (n * 90 * d) s (20000 * 90 * 115) 100 (mul-le (n * 90) d (20000 * 90) 115 (omega arith) hd) hs) hj
