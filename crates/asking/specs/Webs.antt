-- What is answered for a web sheet of a job of web joints, which has no plates but those of its list.
use Rattle.std.specs.Prelude.{◌≡◌, vec_items, Result}
use Rattle.plates.specs.declared.refusals.Refusal.{Refusal}
use Rattle.plates.specs.declared.verdicts.Verdict.{Verdict}
use Rattle.supplies.specs.Rows.{list_places, list_shows}
use Rattle.joints.specs.Web.{WebJoint, web_standing, web_verdict}
use Rattle.joints.specs.declared.sheets.Sheet.{Sheet}
use Rattle.choice.specs.Choosing.{Chosen, Judged}
use Rattle.blocks.specs.declared.sheets.Tried.{Tried}
use Rattle.jobs.specs.declared.reader.Job.{Job}
use Rattle.asking.specs.Picks.{as_choice, Shown}
use Rattle.asking.specs.declared.picks.Picked.{Picked}

-- w is the web joint of the sheet over the job's members and cards
pub record WebDrawn (job : Job) (s : Sheet) (w : WebJoint) : Type 0 where
  pub sheet : w.sheet ≡ s
  pub members : w.members.now ≡ vec_items job.members
  pub cards : w.cards.now ≡ vec_items job.cards

-- r is the engine's choice for the web joint of the sheet, over the job's list
abbrev pub WebPicks : Job → Sheet → Result Picked Refusal → Type 0
WebPicks job s r =
    (w : WebJoint)
    × WebDrawn job s w
    × Chosen (web_standing w) (web_verdict w) (list_places (vec_items job.rows)) (list_shows (vec_items job.rows)) (as_choice r)
    × Shown (list_shows (vec_items job.rows)) r

-- r is the engine's verdict on the plate that is tried
abbrev pub WebJudges : Job → Sheet → Tried → Result Verdict Refusal → Type 0
WebJudges job s tried r = (w : WebJoint) × WebDrawn job s w × Judged (web_standing w) (web_verdict w) tried.plate tried.turning r
