-- The words passed are the numbers so far.
use Rattle.std.proofs.Common.{◌≡◌, length, take}
use Rattle.texts.specs.Lines.{rest, Numbers}
use Rattle.texts.proofs.line.Line.numbers.Given as goal

abbrev pub invariant-loop-number : goal.invariant-loop-number
invariant-loop-number g l = Numbers (rest l.initial.self) (take l.number-index l.number-items) (rest l.self) × (l.self.number ≡ l.initial.self.number) × (length l.number-items ≡ g.row.N)
