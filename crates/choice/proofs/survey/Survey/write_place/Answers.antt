use Rattle.plates.specs.Size.{size}
use Rattle.choice.proofs.Growing.{pair_grown}
use Rattle.choice.proofs.survey.Survey.write_place.Goals as goal

pub returns-in-Some-clause-grown : goal.returns-in-Some-clause-grown
returns-in-Some-clause-grown g c =
    pair_grown (g.J.Joint.verdict c.args.self.now.joint.now) c.args.place (size c.in-Some.plate) c.args.book.now c.write.new.self c.write-in-Some.new.self c.in-Some.ensures c.requires c.row.ensures c.row-in-Some.ensures c.write.ensures.stored c.write-in-Some.ensures.stored
