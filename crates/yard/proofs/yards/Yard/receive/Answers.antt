use Rattle.yard.proofs.Tables.{no_fault, receipt_taken}
use Rattle.yard.proofs.yards.Yard.receive.Goals as goal

pub returns-clause-answer : goal.returns-clause-answer
returns-clause-answer g c =
    let yard = c.args.self.now in
    receipt_taken (g.P.Supply.places yard.pile) (g.P.Supply.shows yard.pile) yard.bins c.args.place c.args.pairs c.index-bins-place.result c.receive.new.self
    yard.full (no_fault _ _ c.in_ok-check_receipt.ensures) c.receive.ensures
