-- What a verdict names: the letter of a clause, and the member.
use Rattle.std.specs.Prelude.{ℕ, Bool, true, false}
use Rattle.plates.specs.declared.verdicts.Clause.{Clause}
use Rattle.plates.specs.declared.verdicts.Clause.TheVariants.{Turning, Card, Teeth, Bite, CrossGrain, Grip, Tension, Shear, Slip, Extent, Moment}
use Rattle.plates.specs.declared.verdicts.Verdict.{Verdict}
use Rattle.plates.specs.declared.verdicts.Verdict.TheVariants.{Passes, Misses}

-- the letters A to K, by their codes
abbrev pub letter : Clause → ℕ
letter Turning = 65
letter Card = 66
letter Teeth = 67
letter Bite = 68
letter CrossGrain = 69
letter Grip = 70
letter Tension = 71
letter Shear = 72
letter Slip = 73
letter Extent = 74
letter Moment = 75

abbrev pub passes : Verdict → Bool
passes Passes = true
passes (Misses c m) = false

-- the member named: 0 for 'passes'
abbrev pub member : Verdict → ℕ
member Passes = 0
member (Misses c m) = m
