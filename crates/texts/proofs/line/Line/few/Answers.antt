use Rattle.std.proofs.Common.{◌∙◌, arith, length-set}
use Rattle.texts.specs.Lines.{rest}
use Rattle.texts.proofs.Longer.{longer}
use Rattle.texts.proofs.line.Line.few.Goals as goal

pub loop-count-preserved : goal.loop-count-preserved
loop-count-preserved g c =
    let at = c.loop-count in (
      longer (rest c.args.self.now) (rest at.self) (rest c.word.new.self) at.value-items at.count c.in_ok-value.field-0 (omega (arith, c.loop-count-test.true)) at.invariant.0 (_, c.in-Some.ensures.word, c.in_ok-value.ensures),
      c.word.ensures.number ∙ at.invariant.1,
      simp length-set at.invariant.2,
    )
