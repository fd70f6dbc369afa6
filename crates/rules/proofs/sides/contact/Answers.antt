use Rattle.std.proofs.Common.{◌≡◌, ◌≤◌, pos, negsuc, ◌-ℤ◌, ◌*ℤ◌, neg_ℤ, ◌≤ℤ◌, ◌/◌, ℕ, ℤ, nat_abs, refl, ap, ◌∙◌, subst, sym, arith, w32, SFits, to_z, of_z}
use Rattle.std.proofs.lemmas.Int.{ints, clamps}
use Rattle.std.specs.Int.{int_min, int_max}
use Rattle.rules.specs.Sides.{contact, halved}
use Rattle.rules.proofs.sides.contact.Goals as goal

small_fits : (z : ℤ) → negsuc 9999 ≤ℤ z → z ≤ℤ pos 9999 → SFits w32 z
small_fits (pos n) l h = record { sfits = omega (arith, ints) }
small_fits (negsuc n) l h = record { sfits = omega (arith, ints) }

halved_is : (z : ℤ) → nat_abs (int_max z (pos 0)) / 2 ≡ halved z
halved_is (pos n) = ap (λ x. x / 2) (omega (arith, ints, clamps))
halved_is (negsuc n) = refl

-- the ends in 32 bits, as the code finds them, are the whole numbers that they stand for
module _ (low high : ℤ) (e : ℕ) (ll : negsuc 1999 ≤ℤ low) (lh : low ≤ℤ pos 2000) (hl : negsuc 1999 ≤ℤ high) (hh : high ≤ℤ pos 2000) (he : e ≤ 1000) where
  reach : to_z w32 e ≡ pos e
  reach = omega (arith, ints)

  back : to_z w32 (of_z w32 (pos 0 -ℤ to_z w32 e)) ≡ neg_ℤ (pos e)
  back = omega (arith, ints)

  twice_high : to_z w32 (of_z w32 (pos 2 *ℤ to_z w32 (of_z w32 high))) ≡ pos 2 *ℤ high
  twice_high = omega (arith, ints)

  twice_low : to_z w32 (of_z w32 (pos 2 *ℤ to_z w32 (of_z w32 low))) ≡ pos 2 *ℤ low
  twice_low = omega (arith, ints)

  module _ (t b : ℤ) (top : t ≡ int_min (to_z w32 (of_z w32 (pos 2 *ℤ to_z w32 (of_z w32 high)))) (to_z w32 e)) (bottom : b ≡ int_max (to_z w32 (of_z w32 (pos 2 *ℤ to_z w32 (of_z w32 low)))) (to_z w32 (of_z w32 (pos 0 -ℤ to_z w32 e)))) where
    top_is : t ≡ int_min (pos 2 *ℤ high) (pos e)
    top_is = top ∙ (λ i. int_min (twice_high i) (reach i))

    bottom_is : b ≡ int_max (pos 2 *ℤ low) (neg_ℤ (pos e))
    bottom_is = bottom ∙ (λ i. int_max (twice_low i) (back i))

    apart : to_z w32 (of_z w32 t) -ℤ to_z w32 (of_z w32 b) ≡ t -ℤ b
    apart = let u = top_is in let d = bottom_is in omega (arith, ints, clamps)

    fits : SFits w32 (to_z w32 (of_z w32 t) -ℤ to_z w32 (of_z w32 b))
    fits = let u = top_is in let d = bottom_is in subst (SFits w32) (sym apart) (small_fits (t -ℤ b) (omega (arith, ints, clamps)) (omega (arith, ints, clamps)))

    module _ (m : ℤ) (over : m ≡ int_max (to_z w32 (of_z w32 (to_z w32 (of_z w32 t) -ℤ to_z w32 (of_z w32 b)))) (pos 0)) where
      over_is : to_z w32 (of_z w32 m) ≡ int_max (t -ℤ b) (pos 0)
      over_is = let u = top_is in let d = bottom_is in omega (arith, ints, clamps)

      value : nat_abs (to_z w32 (of_z w32 m)) / 2 ≡ contact low high e
      unfolding contact
      value = ap (λ z. nat_abs z / 2) over_is ∙ halved_is (t -ℤ b) ∙ (λ i. halved (top_is i -ℤ bottom_is i))

      bound : nat_abs (to_z w32 (of_z w32 m)) / 2 ≤ 1000
      bound = let u = top_is in let d = bottom_is in let o = over_is in omega (arith, ints, clamps)

pub overflow_sub-top : goal.overflow_sub-top
overflow_sub-top c = let r = c.requires in fits _ _ _ r.low_low r.low_high r.high_low r.high_high r.extent _ _ c.min-top.ensures.value c.max-bottom.ensures.value

pub returns : goal.returns
returns c =
    let r = c.requires in
    record {
      value = value _ _ _ r.low_low r.low_high r.high_low r.high_high r.extent _ _ c.min-top.ensures.value c.max-bottom.ensures.value _ c.max.ensures.value;
      bound = bound _ _ _ r.low_low r.low_high r.high_low r.high_high r.extent _ _ c.min-top.ensures.value c.max-bottom.ensures.value _ c.max.ensures.value;
    }
