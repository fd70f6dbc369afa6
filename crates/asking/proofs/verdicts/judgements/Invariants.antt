use Rattle.std.proofs.Common.{take, vec_items}
use Rattle.asking.specs.Verdicts.{AllJudged}
use Rattle.asking.proofs.verdicts.judgements.Given as goal

-- the sheets passed are judged
abbrev pub invariant-loop-entry : goal.invariant-loop-entry
invariant-loop-entry l = AllJudged l.job (take l.entry-index (vec_items l.job.sheets)) (vec_items l.all)
