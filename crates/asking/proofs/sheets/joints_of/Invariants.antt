use Rattle.std.proofs.Common.{take, vec_items}
use Rattle.std.specs.List.{AllZip}
use Rattle.asking.specs.Sheets.{Drawn}
use Rattle.asking.proofs.sheets.joints_of.Given as goal

-- the sheets passed have their joints
abbrev pub invariant-loop-entry : goal.invariant-loop-entry
invariant-loop-entry l = AllZip (Drawn l.job) (take l.entry-index (vec_items l.job.sheets)) (vec_items l.joints)
