use Rattle.std.proofs.Common.{rules}
use Rattle.texts.proofs.Three.{three}
use Rattle.texts.specs.Lines.{rest}
use Rattle.jobs.proofs.reader.plate_row.Goals as goal

pub returns : goal.returns
returns c =
    record {
      word = search rules;
      row = three (rest c.args.line.now) _ (rest c.numbers.new.self) c.in_ok-width.ensures.numbers;
    }
