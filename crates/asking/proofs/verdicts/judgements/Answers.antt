use Rattle.std.proofs.Common.{take, vec_items, sym, subst}
use Rattle.asking.specs.Verdicts.{Asked, AllJudged}
use Rattle.asking.proofs.Judging.{each_more, each_all, untried_at}
use Rattle.asking.proofs.verdicts.judgements.Goals as goal

pub returns-in_default : goal.returns-in_default
returns-in_default c =
    untried_at (vec_items c.args.job.now.sheets) c.deref-entry-items.result.now c.loop-entry.entry-index c.entry-item.result c.untried.result c.deref-entry-items.ensures.value c.loop-entry-test.true c.entry-item.is c.in_default.is c.untried.ensures

pub loop-entry-init : goal.loop-entry-init
loop-entry-init c = subst (AllJudged c.args.job.now (take 0 (vec_items c.args.job.now.sheets))) (sym c.new-all.ensures.items) tt

pub loop-entry-preserved : goal.loop-entry-preserved
loop-entry-preserved c =
    each_more (Asked c.args.job.now) (vec_items c.args.job.now.sheets) c.deref-entry-items.result.now c.loop-entry.entry-index c.entry-item.result (vec_items c.loop-entry.all) (vec_items c.push.new.self) c.deref-entry-items.ensures.value c.loop-entry-test.true c.entry-item.is c.loop-entry.invariant (c.in-Some.tried, c.in-Some.is, c.judged.ensures.judges) c.in_ok-push.ensures.items

pub returns : goal.returns
returns c =
    each_all (Asked c.args.job.now) (vec_items c.args.job.now.sheets) c.deref-entry-items.result.now c.loop-entry.entry-index (vec_items c.loop-entry.all) c.deref-entry-items.ensures.value c.loop-entry-test.false c.loop-entry.invariant
