-- The lines passed have made the entries.
use Rattle.std.proofs.Common.{vec_items}
use Rattle.std.specs.Str.Iter.{lines_rest}
use Rattle.journals.specs.Reading.{Reading}
use Rattle.journals.proofs.reader.read.Given as goal

abbrev pub invariant-loop-index : goal.invariant-loop-index
invariant-loop-index l = Reading l.text l.index-iterator.count (lines_rest l.index-iterator.iter) (vec_items l.entries)
