use Rattle.std.proofs.Common.{◌≡◌, true, false, rules}
use borrow.Author.Tests.{tests}
use Rattle.std.proofs.lemmas.Iterator.{YieldsList-from_slice, cases_from_all}
use Rattle.joints.specs.Grounds.{within}
use Rattle.joints.proofs.Scanning.{all_six}
use Rattle.joints.proofs.grounds.shear_ranged.Goals as goal

pub returns : goal.returns
returns c =
    let all = cases_from_all _ _ _ (λ x. within 1 2000 x ≡ true) (λ x. within 1 2000 x ≡ false) c.all.ensures.ran (YieldsList-from_slice c.args.v cc) (λ x q k. search (rules, tests)) (λ x q k. search (rules, tests)) in
    all_six (within 1 2000) c.args.v _ (search rules) all
