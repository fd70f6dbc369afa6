-- Joints worked by hand, of the definitions that the contracts use.
use Rattle.std.specs.Prelude.{◌≡◌, ◌*◌, true, false, pos}
use Rattle.rules.specs.declared.terms.Duration.TheVariants.{Standard}
use Rattle.rules.specs.declared.terms.Force.TheVariants.{Tension, Compression}
use Rattle.rules.specs.declared.terms.Service.TheVariants.{SeasonedDry}
use Rattle.rules.specs.declared.terms.Species.TheVariants.{SprucePineFir}
use Rattle.clauses.specs.declared.splices.Section.{Section}
use Rattle.clauses.specs.Splice.{axis, holds_moment}
use Rattle.clauses.specs.Clauses.{holds_cross, capacity, holds_grip}
use Rattle.rules.specs.Heel.{by_table, by_formula}
use Rattle.rules.specs.Sines.{S}
use Rattle.rules.specs.Teeth.{at_grain, lateral, factored}

abbrev pub worked_section : Section
worked_section = record { depth = 89; wood = 115; side = 76; steel = 200; pull = 5000 }

pub record WorkedByHand : Type 0 where
  pub sine_1 : S 1 ≡ 3
  pub sine_30 : S 30 ≡ 2500
  pub sine_44 : S 44 ≡ 4826
  -- p, q = 2000, 1500 and p', q' = 1800, 1400 at θ = 30
  pub along : at_grain 2000 1500 30 ≡ 1846
  pub across : at_grain 1800 1400 30 ≡ 1680
  -- half way between them, at ρ = 45
  pub n : lateral (record { p = 2000; q = 1500; pt = 1800; qt = 1400 }) 30 45 ≡ 1763
  -- with every factor 100
  pub resistance : factored 1763 Standard SeasonedDry 100 ≡ 1586
  -- over 76 × 50 mm
  pub cap : capacity 1586 (76 * 50) ≡ 6026
  -- the greatest load in tension, and in compression, of which half counts
  pub tension_holds : holds_grip Tension 0 6026 6026 ≡ true
  pub tension_misses : holds_grip Tension 0 6027 6026 ≡ false
  pub compression_holds : holds_grip Compression 0 12052 6026 ≡ true
  pub compression_misses : holds_grip Compression 0 12053 6026 ≡ false
  -- Q = 5,000 in spruce of depth 140
  pub cross_holds : holds_cross SprucePineFir 5000 140 61 ≡ true
  pub cross_misses : holds_cross SprucePineFir 5000 140 60 ≡ false
  -- the factor of a heel by table and by formula, at 1/4, 5/12 and 47/100
  pub quarter : (by_table 1 4 ≡ 80) × (by_formula 1 4 ≡ 80)
  pub five_twelfths : (by_table 5 12 ≡ 70) × (by_formula 5 12 ≡ 70)
  pub steep : (by_table 47 100 ≡ 65) × (by_formula 47 100 ≡ 66)
  -- a splice of t = 200, w = 76, d = 89, C = 115 and T = 5,000: its axis and the greatest moment
  pub neutral_axis : axis worked_section ≡ pos 2717
  pub moment_holds : holds_moment 117118 worked_section ≡ true
  pub moment_misses : holds_moment 117119 worked_section ≡ false
