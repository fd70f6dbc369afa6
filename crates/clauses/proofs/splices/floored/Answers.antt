use Rattle.std.proofs.Common.{◌≡◌, pos, sym, ◌∙◌, subst, arith, w64, SFits, to_z, of_z, rules}
use Rattle.std.proofs.lemmas.Int.{ints, to_z-of_z}
use Rattle.clauses.specs.Splice.{floored, Floor}
use Rattle.clauses.proofs.Floors.{floored_is, floor}
use Rattle.clauses.proofs.splices.floored.Goals as goal

pub returns-clause-means : goal.returns-clause-means
returns-clause-means c =
    let z : SFits w64 c.args.z = c.ranges.z in
    let r : SFits w64 c.div_euclid.result = search rules in
    let g : to_z w64 c.args.g ≡ pos c.args.g = omega (arith, ints) in
    let same = simp (g, to_z-of_z) at c.div_euclid.ensures in
    let is : to_z w64 (of_z w64 c.div_euclid.result) ≡ floored c.args.z c.args.g = to_z-of_z w64 _ r ∙ same ∙ floored_is c.args.z c.args.g in
    subst (Floor c.args.z c.args.g) (sym is) (floor c.args.z c.args.g c.requires)
