use Rattle.yard.proofs.Tables.{found_drawn}
use Rattle.yard.proofs.yards.Yard.draw.Goals as goal

pub returns-clause-answer : goal.returns-clause-answer
returns-clause-answer g c =
    let yard = c.args.self.now in
    found_drawn (g.J.Joint.standing c.args.joint.now) (g.J.Joint.verdict c.args.joint.now) (g.P.Supply.shows yard.pile) yard.stamp yard.bins c.args.number
    c.in_ok-candidate.candidate c.slip_for.result c.index-bins-candidate.result c.draw.new.self
    yard.full c.in_ok-candidate.ensures c.slip_for.ensures c.draw.ensures
