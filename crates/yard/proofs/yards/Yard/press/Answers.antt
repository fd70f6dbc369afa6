use Rattle.yard.specs.Counts.{pressed_off}
use Rattle.yard.proofs.Tables.{slip_settled}
use Rattle.yard.proofs.yards.Yard.press.Goals as goal

pub returns-clause-answer : goal.returns-clause-answer
returns-clause-answer g c =
    let yard = c.args.self.now in
    let ended = c.in_ok-place.ensures.ended in
    slip_settled c.args.slip c.args.slip.numbers c.in_ok-place.place yard.stamp yard.bins pressed_off c.index-bins-place.result c.press.new.self yard.full ended.0 ended.1 c.press.ensures
