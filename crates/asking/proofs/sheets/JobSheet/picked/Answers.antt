use Rattle.asking.specs.Sheets.{Picks}
use Rattle.asking.proofs.Webs.{picks_of_web, web_picks}
use Rattle.asking.proofs.sheets.JobSheet.picked.Goals as goal

pub returns-in-Web-clause-picks : goal.returns-in-Web-clause-picks
returns-in-Web-clause-picks c =
    picks_of_web c.args.self.now.job.now c.args.self.now.entry c.in-Web.sheet c.web_joint.result c.picked_for.result c.in-Web.is c.web_joint.ensures c.picked_for.ensures.chosen c.picked_for.ensures.shown

pub returns-in-Web-clause-web : goal.returns-in-Web-clause-web
returns-in-Web-clause-web c = λ s is fits. web_picks c.args.self.now.job.now c.args.self.now.entry s c.picked_for.result is fits (returns-in-Web-clause-picks c)
