use Rattle.std.proofs.Common.{refl}
use Rattle.rules.specs.declared.sines.TheConstants.{SQUARES}
use Rattle.rules.proofs.Table.{entry_bound}
use Rattle.rules.proofs.sines.square_sine.Goals as goal

-- by the code's own table
pub returns-clause-bound : goal.returns-clause-bound
returns-clause-bound c = entry_bound 10000 SQUARES refl c.args.angle c.requires
