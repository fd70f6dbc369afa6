-- As many places are asked as the loop has passed, and `best` is the best of those.
use Rattle.std.proofs.Common.{◌≡◌}
use Rattle.choice.specs.Offers.{Best, below}
use Rattle.choice.proofs.survey.Survey.least.Given as goal

abbrev pub invariant-loop-place : goal.invariant-loop-place
invariant-loop-place g l = (l.asked ≡ l.place) × Best (g.J.Joint.verdict l.self.joint.now) (below l.place (g.S.Supply.shows l.self.supply.now)) l.best
