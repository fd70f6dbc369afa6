use Rattle.std.proofs.Common.{sym, subst, rules}
use borrow.Author.Tests.{tests}
use Rattle.std.proofs.lemmas.Iterator.{YieldsList-from_slice}
use Rattle.std.proofs.lemmas.Iterator.Adapters.{serves_from_places}
use Rattle.clauses.specs.Clauses.{laid, meets}
use Rattle.rules.specs.Ranges.{MemberWithin}
use Rattle.joints.proofs.Scanning.{found_at}
use Rattle.joints.proofs.trying.Lawful.first_missing.Goals as goal

pub position-requires-clause-callable : goal.position-requires-clause-callable
position-requires-clause-callable c =
    serves_from_places (YieldsList-from_slice c.args.self.now.own.now cc) (λ x q h. search rules) (λ x k h e.
    let m : MemberWithin x.now = subst MemberWithin (sym e) (c.args.self.now.ranged k x.now h) in
    search rules)

pub returns : goal.returns
returns c =
    let found = found_at (meets c.args.clause (laid c.args.trial.now)) 1 _ _ _ c.position.ensures.ran (YieldsList-from_slice c.args.self.now.own.now cc) (λ x q k. search (rules, tests)) (λ x q k. search (rules, tests)) in
    search (rules, found)
