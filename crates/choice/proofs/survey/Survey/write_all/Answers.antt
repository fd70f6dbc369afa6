use Rattle.std.proofs.Common.{◌∙◌, arith}
use Rattle.choice.proofs.Growing.{place_room, place_grown}
use Rattle.choice.proofs.survey.Survey.write_all.Goals as goal

pub write_place-requires : goal.write_place-requires
write_place-requires g c =
    place_room (g.J.Joint.verdict c.args.self.now.joint.now) c.loop-place.place c.args.count (g.S.Supply.shows c.args.self.now.supply.now) c.args.book.now c.loop-place.book (omega arith) c.requires c.loop-place.invariant.0

pub loop-place-preserved : goal.loop-place-preserved
loop-place-preserved g c = (
  place_grown (g.J.Joint.verdict c.args.self.now.joint.now) c.loop-place.place (g.S.Supply.shows c.args.self.now.supply.now) c.args.book.now c.loop-place.book c.write_place.new.book c.loop-place.invariant.0 c.write_place.ensures.grown,
  c.write_place.ensures.one_memory ∙ c.loop-place.invariant.1,
)
