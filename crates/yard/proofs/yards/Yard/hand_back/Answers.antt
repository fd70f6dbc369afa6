use Rattle.yard.specs.Counts.{moved_back}
use Rattle.yard.proofs.Tables.{slip_settled}
use Rattle.yard.proofs.yards.Yard.hand_back.Goals as goal

pub returns-clause-answer : goal.returns-clause-answer
returns-clause-answer g c =
    let yard = c.args.self.now in
    let ended = c.in_ok-place.ensures.ended in
    slip_settled c.args.slip c.args.slip.numbers c.in_ok-place.place yard.stamp yard.bins moved_back c.index-bins-place.result c.hand_back.new.self yard.full ended.0 ended.1 c.hand_back.ensures
