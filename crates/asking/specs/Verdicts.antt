-- The verdicts that the sheets of a job ask for, in their order.
use Rattle.std.specs.Prelude.{◌≡◌, List, Some, None, Result}
use Rattle.std.specs.List.{AllZip, Contains}
use Rattle.plates.specs.declared.refusals.Refusal.{Refusal}
use Rattle.plates.specs.declared.verdicts.Verdict.{Verdict}
use Rattle.texts.specs.declared.faults.Fault.{Fault}
use Rattle.texts.specs.declared.faults.Fault.TheVariants.{Format, Memory}
use Rattle.blocks.specs.declared.sheets.Tried.{Tried}
use Rattle.jobs.specs.declared.reader.Entry.{Entry}
use Rattle.jobs.specs.declared.reader.Job.{Job}
use Rattle.asking.specs.Sheets.{Judges}

-- r is the verdict on the plate that the sheet names
abbrev pub Asked : Job → Entry → Result Verdict Refusal → Type 0
Asked job e r = (t : Tried) × (e.tried ≡ Some t) × Judges job e t r

-- one for each sheet
abbrev pub AllJudged : Job → List Entry → List (Result Verdict Refusal) → Type 0
AllJudged job = AllZip (Asked job)

-- the fault is at a sheet that names no plate, or memory is short
abbrev pub Untried : List Entry → Fault → Type 0
Untried es (Format line m) = (e : Entry) × Contains es e × (e.tried ≡ None) × (line ≡ e.line)
Untried es Memory = Unit {0}
