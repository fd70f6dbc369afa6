-- The lines passed lead to where the reader stands.
use Rattle.std.specs.Str.Iter.{lines_rest}
use Rattle.jobs.specs.Texts.{Reading, state}
use Rattle.jobs.proofs.reader.read.Given as goal

abbrev pub invariant-loop-index : goal.invariant-loop-index
invariant-loop-index l = Reading l.format l.text l.index-iterator.count (lines_rest l.index-iterator.iter) (state l.reader)
