use Rattle.std.proofs.Common.{vec_items}
use Rattle.asking.specs.Sheets.{Drawn}
use Rattle.asking.proofs.Judging.{each_more, each_all}
use Rattle.asking.proofs.sheets.joints_of.Goals as goal

pub loop-entry-preserved : goal.loop-entry-preserved
loop-entry-preserved c =
    each_more (Drawn c.args.job.now) (vec_items c.args.job.now.sheets) c.deref-entry-items.result.now c.loop-entry.entry-index c.entry-item.result (vec_items c.loop-entry.joints) (vec_items c.push.new.self) c.deref-entry-items.ensures.value c.loop-entry-test.true c.entry-item.is c.loop-entry.invariant c.joint.ensures c.in_ok-push.ensures.items

pub returns : goal.returns
returns c =
    each_all (Drawn c.args.job.now) (vec_items c.args.job.now.sheets) c.deref-entry-items.result.now c.loop-entry.entry-index (vec_items c.loop-entry.joints) c.deref-entry-items.ensures.value c.loop-entry-test.false c.loop-entry.invariant
