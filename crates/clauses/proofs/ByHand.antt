-- The joints worked by hand, by computation.
use Rattle.std.proofs.Common.{refl}
use Rattle.rules.specs.Sines.{S, squares}
use Rattle.rules.specs.Teeth.{at_grain, between, factored}
use Rattle.clauses.specs.Splice.{excess, stiffness, axis, steel_part, wood_part, pull_part, holds_moment}
use Rattle.clauses.specs.Worked.{WorkedByHand}

pub by_hand : WorkedByHand
unfolding S squares at_grain between factored excess stiffness axis steel_part wood_part pull_part holds_moment
by_hand = record {
  sine_1 = refl;
  sine_30 = refl;
  sine_44 = refl;
  along = refl;
  across = refl;
  n = refl;
  resistance = refl;
  cap = refl;
  tension_holds = refl;
  tension_misses = refl;
  compression_holds = refl;
  compression_misses = refl;
  cross_holds = refl;
  cross_misses = refl;
  quarter = (refl, refl);
  five_twelfths = (refl, refl);
  steep = (refl, refl);
  neutral_axis = refl;
  moment_holds = refl;
  moment_misses = refl;
}
