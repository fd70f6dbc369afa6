-- The moment factor of a heel joint, in hundredths, from its slope.
use Rattle.std.specs.Prelude.{ℕ, ◌+◌, ◌-◌, ◌*◌, ◌/◌, ◌≤◌, min, max, cond, Some, None, Option, nat_le, nat_lt}
use Rattle.rules.specs.declared.heels.FactorRule.{FactorRule}
use Rattle.rules.specs.declared.heels.FactorRule.TheVariants.{Table, Formula}

-- 85 for rise/run under 1/4, 80 under 1/3, 75 under 5/12, 70 up to and with 5/11, 65 above
abbrev pub by_table : ℕ → ℕ → ℕ
by_table rise run =
    cond (nat_lt (4 * rise) run) 85 (cond (nat_lt (3 * rise) run) 80 (cond (nat_lt (12 * rise) (5 * run)) 75 (cond (nat_le (11 * rise) (5 * run)) 70 65)))

-- a quotient rounded up: the least number whose product with the divisor reaches the dividend
abbrev pub rounded_up : ℕ → ℕ → ℕ
rounded_up a b = (a + b - 1) / b

pub record Reaches (a b q : ℕ) : Type 0 where
  pub reaches : a ≤ q * b
  pub least : (k : ℕ) → a ≤ k * b → q ≤ k

-- 95 − 60 × rise/run, the quotient rounded up, held within 65 to 85
abbrev pub by_formula : ℕ → ℕ → ℕ
by_formula rise run = max 65 (min 85 (95 - rounded_up (60 * rise) run))

-- the rule that a sheet means where it says none
abbrev pub default_rule : FactorRule
default_rule = Table

abbrev pub ruled : Option FactorRule → FactorRule
ruled None = default_rule
ruled (Some r) = r

abbrev pub factor_by : FactorRule → ℕ → ℕ → ℕ
factor_by Table rise run = by_table rise run
factor_by Formula rise run = by_formula rise run

abbrev pub heel_factor : Option FactorRule → ℕ → ℕ → ℕ
heel_factor choice rise run = factor_by (ruled choice) rise run
