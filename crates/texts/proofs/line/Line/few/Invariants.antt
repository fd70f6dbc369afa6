-- The words passed are the numbers so far.
use Rattle.std.proofs.Common.{◌≡◌, length, take}
use Rattle.texts.specs.Lines.{rest, Numbers}
use Rattle.texts.proofs.line.Line.few.Given as goal

abbrev pub invariant-loop-count : goal.invariant-loop-count
invariant-loop-count g l = Numbers (rest l.initial.self) (take l.count l.value-items) (rest l.self) × (l.self.number ≡ l.initial.self.number) × (length l.value-items ≡ g.row.N)
