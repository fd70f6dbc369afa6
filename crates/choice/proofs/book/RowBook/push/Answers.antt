use Rattle.std.proofs.Common.{arith}
use Rattle.choice.proofs.Written.{grown_one}
use Rattle.choice.proofs.book.RowBook.push.Goals as goal

pub returns-clause-entered : goal.returns-clause-entered
returns-clause-entered g c = (
  omega (arith, c.free.ensures),
  grown_one c.args.self.now c.write.new.self c.args.row (omega (arith, c.free.ensures)) c.write.ensures.stored,
)
