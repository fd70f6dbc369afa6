use Rattle.yard.specs.declared.replays.Hook.TheVariants.{Drawn}
use Rattle.yard.specs.Counts.{told}
use Rattle.yard.proofs.Racks.{hands_back, kept_is}
use Rattle.yard.proofs.replays.hand_back.Goals as goal

pub returns-in-Drawn-clause-answer : goal.returns-in-Drawn-clause-answer
returns-in-Drawn-clause-answer g c =
    let yard = c.args.yard.now in
    let done = c.settled.ensures in
    hands_back yard.stamp c.in-Drawn.slip c.args.held (told yard.bins) (told c.hand_back.new.self.bins) c.hand_back.result c.settled.result.0 c.settled.result.1 c.in-Drawn.is c.hand_back.ensures.answer
    (kept_is Drawn c.hand_back.result c.settled.result.0 done.left) done.answer.1
