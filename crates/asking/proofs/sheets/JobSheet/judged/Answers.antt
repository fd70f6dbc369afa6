use Rattle.asking.proofs.Webs.{web_judges}
use Rattle.asking.proofs.sheets.JobSheet.judged.Goals as goal

pub returns-clause-web : goal.returns-clause-web
returns-clause-web c = λ s is. web_judges c.args.self.now.job.now c.args.self.now.entry s c.args.tried c.judge.result is (c.joint-joint.result, c.joint-joint.ensures, c.judge.ensures)
