use Rattle.std.proofs.Common.{◌∙◌, arith, length-set}
use Rattle.texts.specs.Lines.{rest}
use Rattle.texts.proofs.Longer.{longer}
use Rattle.texts.proofs.line.Line.numbers.Goals as goal

pub loop-number-preserved : goal.loop-number-preserved
loop-number-preserved g c =
    let at = c.loop-number in (
      longer (rest c.args.self.now) (rest at.self) (rest c.value.new.self) at.number-items at.number-index c.in_ok-number.field-0 (omega (arith, c.loop-number-test.true)) at.invariant.0 c.in_ok-number.ensures.value,
      c.value.ensures.number ∙ at.invariant.1,
      simp length-set at.invariant.2,
    )
