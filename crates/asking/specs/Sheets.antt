-- What is answered for a sheet of a job.
use Rattle.std.specs.Prelude.{◌≡◌, List, vec_items, Result}
use Rattle.plates.specs.declared.refusals.Refusal.{Refusal}
use Rattle.plates.specs.declared.verdicts.Verdict.{Verdict}
use Rattle.joints.specs.Any.{AnyJoint, any_standing, any_verdict}
use Rattle.choice.specs.Choosing.{Chosen, Judged}
use Rattle.choice.specs.declared.explaining.ExplainRow.{ExplainRow}
use Rattle.blocks.specs.declared.sheets.Tried.{Tried}
use Rattle.jobs.specs.declared.reader.Entry.{Entry}
use Rattle.jobs.specs.declared.reader.Job.{Job}
use Rattle.asking.specs.Accounts.{AllRows, NoRows}
use Rattle.std.specs.List.{AllZip}
use Rattle.asking.specs.Picks.{as_choice, Shown}
use Rattle.asking.specs.Piles.{pile_places, pile_shows}
use Rattle.asking.specs.declared.accounts.NoAccount.{NoAccount}
use Rattle.asking.specs.declared.picks.Picked.{Picked}

-- j is the joint of the sheet over the job's members and cards
pub record Drawn (job : Job) (e : Entry) (j : AnyJoint) : Type 0 where
  pub sheet : j.sheet ≡ e.sheet
  pub members : j.members.now ≡ vec_items job.members
  pub cards : j.cards.now ≡ vec_items job.cards

-- the joints of all sheets
abbrev pub AllDrawn : Job → List AnyJoint → Type 0
AllDrawn job js = AllZip (Drawn job) (vec_items job.sheets) js

-- r is the engine's choice for the joint of the sheet, over the job's pile
abbrev pub Picks : Job → Entry → Result Picked Refusal → Type 0
Picks job e r =
    (j : AnyJoint)
    × Drawn job e j
    × Chosen (any_standing j) (any_verdict j) (pile_places job) (pile_shows job) (as_choice r)
    × Shown (pile_shows job) r

-- r is the engine's verdict on the plate that is tried
abbrev pub Judges : Job → Entry → Tried → Result Verdict Refusal → Type 0
Judges job e tried r = (j : AnyJoint) × Drawn job e j × Judged (any_standing j) (any_verdict j) tried.plate tried.turning r

-- the rows are those of the joint of the sheet, over the job's pile
abbrev pub Explains : Job → Entry → List ExplainRow → Type 0
Explains job e rows = (j : AnyJoint) × Drawn job e j × AllRows (any_standing j) (any_verdict j) (pile_places job) (pile_shows job) rows

abbrev pub Unexplained : Job → Entry → NoAccount → Type 0
Unexplained job e why = (j : AnyJoint) × Drawn job e j × NoRows (any_standing j) why
