use Rattle.supplies.proofs.Cuts.{coil_laws}
use Rattle.supplies.proofs.coil.CoilCutter.new.Goals as goal

pub returns-clause-laws : goal.returns-clause-laws
returns-clause-laws c =
    coil_laws c.args.family c.args.widths.now c.args.first c.args.step c.args.steps
