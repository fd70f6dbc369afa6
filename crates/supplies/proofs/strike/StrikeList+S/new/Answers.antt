use Rattle.supplies.proofs.Strikes.{strike_laws}
use Rattle.supplies.proofs.strike.StrikeList+S.new.Goals as goal

pub returns-clause-laws : goal.returns-clause-laws
returns-clause-laws g c = strike_laws c.args.struck.now
