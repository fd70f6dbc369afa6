-- The table of squared sines, and the laws that tell a right table from a wrong one.
use Rattle.std.specs.Prelude.{◌≡◌, ℕ, zero, suc, ◌+◌, ◌-◌, ◌*◌, ◌/◌, ◌^◌, ◌<◌, ◌≤◌, List, [], ◌∷◌, slice_index}

unfoldable pub squares : List ℕ
squares = 0 ∷ 3 ∷ 12 ∷ 27 ∷ 49 ∷ 76 ∷ 109 ∷ 149 ∷ 194 ∷ 245
    ∷ 302 ∷ 364 ∷ 432 ∷ 506 ∷ 585 ∷ 670 ∷ 760 ∷ 855 ∷ 955 ∷ 1060
    ∷ 1170 ∷ 1284 ∷ 1403 ∷ 1527 ∷ 1654 ∷ 1786 ∷ 1922 ∷ 2061 ∷ 2204 ∷ 2350
    ∷ 2500 ∷ 2653 ∷ 2808 ∷ 2966 ∷ 3127 ∷ 3290 ∷ 3455 ∷ 3622 ∷ 3790 ∷ 3960
    ∷ 4132 ∷ 4304 ∷ 4477 ∷ 4651 ∷ 4826 ∷ 5000 ∷ 5174 ∷ 5349 ∷ 5523 ∷ 5696
    ∷ 5868 ∷ 6040 ∷ 6210 ∷ 6378 ∷ 6545 ∷ 6710 ∷ 6873 ∷ 7034 ∷ 7192 ∷ 7347
    ∷ 7500 ∷ 7650 ∷ 7796 ∷ 7939 ∷ 8078 ∷ 8214 ∷ 8346 ∷ 8473 ∷ 8597 ∷ 8716
    ∷ 8830 ∷ 8940 ∷ 9045 ∷ 9145 ∷ 9240 ∷ 9330 ∷ 9415 ∷ 9494 ∷ 9568 ∷ 9636
    ∷ 9698 ∷ 9755 ∷ 9806 ∷ 9851 ∷ 9891 ∷ 9924 ∷ 9951 ∷ 9973 ∷ 9988 ∷ 9997
    ∷ 10000 ∷ []

-- S(a) is 10,000 × sin² a to the nearest whole number, a in whole degrees
unfoldable pub S : ℕ → ℕ
S a = slice_index squares a

-- cos 2° to twenty decimals
abbrev pub cosine_of_two : ℕ
cosine_of_two = 99939082701909573001

-- the cosines of 2a and 2(a + 1) degrees, in units of 10^-20, by
-- cos 2(a + 2) = 2 × cos 2 × cos 2(a + 1) − cos 2a
abbrev pub cosines : ℕ → ℕ × ℕ
cosines zero = (10 ^ 20, cosine_of_two)
cosines (suc a) = ((cosines a).1, 2 * cosine_of_two * (cosines a).1 / 10 ^ 20 - (cosines a).0)

-- sin² a = (1 − cos 2a) / 2, and S(a) is at most half a unit off 10,000 times that
abbrev pub Nearest : ℕ → Type 0
Nearest a = (2 * 10 ^ 16 * S a + (cosines a).0 ≤ 10 ^ 20 + 10 ^ 16) × (10 ^ 20 ≤ 2 * 10 ^ 16 * S a + (cosines a).0 + 10 ^ 16)

pub record SquaredSines : Type 0 where
  pub symmetric : (a : ℕ) → a ≤ 90 → S a + S (90 - a) ≡ 10000
  pub growing : (a : ℕ) → a < 90 → S a < S (a + 1)
  pub nearest : (a : ℕ) → a ≤ 45 → Nearest a
  -- the cosine of 90 degrees is nought to sixteen decimals
  pub quarter : (cosines 45).0 < 10 ^ 4
