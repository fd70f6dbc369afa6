use Rattle.yard.proofs.Books.{the_law}
use Rattle.yard.proofs.yards.Yard.new.Goals as goal

pub returns-clause-law : goal.returns-clause-law
returns-clause-law g c = the_law (g.P.Supply.places c.args.pile) (g.P.Supply.shows c.args.pile) c.args.stamp
