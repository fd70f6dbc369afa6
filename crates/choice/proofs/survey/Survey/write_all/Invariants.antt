-- The book has the rows of the places passed, in the same memory.
use Rattle.choice.specs.Books.{Grown, OneMemory}
use Rattle.choice.specs.Explaining.{explained}
use Rattle.choice.proofs.survey.Survey.write_all.Given as goal

abbrev pub invariant-loop-place : goal.invariant-loop-place
invariant-loop-place g l = Grown l.initial.book (explained (g.J.Joint.verdict l.self.joint.now) l.place (g.S.Supply.shows l.self.supply.now)) l.book × OneMemory l.initial.book l.book
