-- The resistance of the teeth.
use Rattle.std.specs.Prelude.{ℕ, ◌+◌, ◌-◌, ◌*◌, ◌/◌, ◌^◌}
use Rattle.rules.specs.declared.terms.Area.{Area}
use Rattle.rules.specs.declared.terms.Area.TheVariants.{Net, Gross}
use Rattle.rules.specs.declared.terms.Duration.{Duration}
use Rattle.rules.specs.declared.terms.Duration.TheVariants.{Permanent, Standard, Short}
use Rattle.rules.specs.declared.terms.Lateral.{Lateral}
use Rattle.rules.specs.declared.terms.Service.{Service}
use Rattle.rules.specs.declared.terms.Service.TheVariants.{SeasonedDry, UnseasonedDry, Wet}
use Rattle.rules.specs.Sines.{S}

-- a value for load at θ to the grain, from p along it and q across it
unfoldable pub at_grain : ℕ → ℕ → ℕ → ℕ
at_grain p q θ = p * q * 10000 / (p * S θ + q * (10000 - S θ))

-- the value `part` of `whole` degrees on the way from one value to another
unfoldable pub between : ℕ → ℕ → ℕ → ℕ → ℕ
between one other part whole = (one * (whole - part) + other * part) / whole

-- n: the four values for load at θ to the grain and ρ to the plate axis
abbrev pub lateral : Lateral → ℕ → ℕ → ℕ
lateral v θ ρ = between (at_grain v.p v.q θ) (at_grain v.pt v.qt θ) ρ 90

-- on a gross sheet a tooth value is first cut to 80 percent
abbrev pub cut : Area → ℕ → ℕ
cut Net v = v
cut Gross v = v * 80 / 100

abbrev pub cut_all : Area → Lateral → Lateral
cut_all a v = record { p = cut a v.p; q = cut a v.q; pt = cut a v.pt; qt = cut a v.qt }

-- KD, the load duration factor in hundredths
abbrev pub duration_factor : Duration → ℕ
duration_factor Permanent = 65
duration_factor Standard = 100
duration_factor Short = 115

-- KSF, the service condition factor in hundredths
abbrev pub service_factor : Service → ℕ
service_factor SeasonedDry = 100
service_factor UnseasonedDry = 80
service_factor Wet = 67

-- Nr, the factored resistance; j is the moment factor of the joint
unfoldable pub factored : ℕ → Duration → Service → ℕ → ℕ
factored n d s j = n * 90 * duration_factor d * service_factor s * j / 10 ^ 8
