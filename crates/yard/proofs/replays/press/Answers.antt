use Rattle.yard.specs.declared.replays.Hook.TheVariants.{Tacked}
use Rattle.yard.specs.Counts.{told}
use Rattle.yard.proofs.Racks.{kept_is, presses}
use Rattle.yard.proofs.replays.press.Goals as goal

pub returns-in-Tacked-clause-answer : goal.returns-in-Tacked-clause-answer
returns-in-Tacked-clause-answer g c =
    let yard = c.args.yard.now in
    let done = c.settled.ensures in
    presses yard.stamp c.in-Tacked.slip c.args.held (told yard.bins) (told c.press.new.self.bins) c.press.result c.settled.result.0 c.settled.result.1 c.in-Tacked.is c.press.ensures.answer
    (kept_is Tacked c.press.result c.settled.result.0 done.left) done.answer.1
