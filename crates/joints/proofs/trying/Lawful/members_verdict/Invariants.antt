use Rattle.std.proofs.Common.{◌≡◌, drop}
use Rattle.clauses.specs.Clauses.{laid}
use Rattle.joints.specs.Checks.{member_clauses}
use Rattle.joints.proofs.Verdicts.{over}
use Rattle.joints.proofs.trying.Lawful.members_verdict.Given as goal

-- what is left gives the result
abbrev pub invariant-loop-clause : goal.invariant-loop-clause
invariant-loop-clause l = over (laid l.trial) l.self.own.now (drop l.clause-index member_clauses) ≡ over (laid l.trial) l.self.own.now member_clauses
