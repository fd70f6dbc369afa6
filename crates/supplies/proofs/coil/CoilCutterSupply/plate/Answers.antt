use Rattle.std.proofs.Common.{◌∙◌}
use Rattle.supplies.proofs.Cuts.{cut_shown}
use Rattle.supplies.proofs.coil.CoilCutterSupply.plate.Goals as goal

pub returns : goal.returns
returns c =
    c.new.ensures
    ∙ cut_shown c.args.self.now.family c.args.self.now.widths.now c.args.self.now.first c.args.self.now.step c.args.self.now.steps c.steps_read-steps.result c.places.result c.in_ok-length.length c.args.place c.steps_read-steps.ensures c.places.ensures.value c.in_ok-length.ensures.1 c.if-place-places.false
