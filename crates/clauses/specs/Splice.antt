-- The moment in the steel of a splice, over signed hundredths of a millimetre.
use Rattle.std.specs.Prelude.{ℕ, ◌+◌, ◌*◌, ◌/◌, ◌^◌, Bool, ◌&&◌, ◌||◌, ℤ, pos, negsuc, ◌+ℤ◌, ◌-ℤ◌, ◌*ℤ◌, neg_ℤ, ◌≤ℤ◌, ◌==◌, int_le, unsigned_abs}
use Rattle.clauses.specs.declared.splices.Section.{Section}

-- a quotient rounded towards minus infinity
abbrev pub floored : ℤ → ℕ → ℤ
floored (pos a) g = pos (a / g)
floored (negsuc a) g = negsuc (a / g)

-- what that means: the greatest whole number whose product with the divisor does not pass the dividend
pub record Floor (z : ℤ) (g : ℕ) (y : ℤ) : Type 0 where
  pub reaches : (y *ℤ pos g) ≤ℤ z
  pub greatest : (k : ℤ) → (k *ℤ pos g) ≤ℤ z → k ≤ℤ y

-- H = b×d×c + 74T − 20×w×t, with b = 38
unfoldable pub excess : Section → ℤ
excess s = pos (38 * s.depth * s.wood + 74 * s.pull) -ℤ pos (20 * s.side * s.steel)

-- G = 40t + 2×b×c
unfoldable pub stiffness : Section → ℕ
stiffness s = 40 * s.steel + 2 * 38 * s.wood

-- y, the neutral axis in hundredths of a millimetre from the chord's centre line
unfoldable pub axis : Section → ℤ
axis s = floored (pos 100 *ℤ excess s) (stiffness s)

abbrev pub square : ℤ → ℕ
square z = unsigned_abs z * unsigned_abs z

-- −50w ≤ y ≤ 50w
abbrev pub inside : ℕ → ℤ → Bool
inside w y = int_le (neg_ℤ (pos (50 * w))) y && int_le y (pos (50 * w))

-- 270t(50w + y)²
unfoldable pub steel_part : Section → ℤ → ℕ
steel_part s y = 270 * s.steel * square (pos (50 * s.side) +ℤ y)

-- 18×b×c(50d − y)²
unfoldable pub wood_part : Section → ℤ → ℕ
wood_part s y = 18 * 38 * s.wood * square (pos (50 * s.depth) -ℤ y)

-- 10^5 × T × y
unfoldable pub pull_part : Section → ℤ → ℤ
pull_part s y = pos (10 ^ 5 * s.pull) *ℤ y

-- 10^7 × M ≤ 270t(50w + y)² + 18×b×c(50d − y)² − 10^5 × T × y
abbrev pub resists : ℕ → Section → ℤ → Bool
resists m s y = int_le (pos (10 ^ 7 * m)) (pos (steel_part s y + wood_part s y) -ℤ pull_part s y)

-- K: there is no moment, or the axis lies under the plate and the section resists the moment
unfoldable pub holds_moment : ℕ → Section → Bool
holds_moment m s = m == 0 || (inside s.side (axis s) && resists m s (axis s))
