use Rattle.supplies.proofs.Layering.{layer_laws}
use Rattle.supplies.proofs.layered.Layered+S.new.Goals as goal

pub returns-clause-laws : goal.returns-clause-laws
returns-clause-laws g c = layer_laws c.args.layers.now
