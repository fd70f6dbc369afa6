-- Joints of any kind: each is drawn, and its clauses are asked, as its kind has it.
use Rattle.std.specs.Prelude.{List, Result}
use Rattle.plates.specs.Size.{Size}
use Rattle.plates.specs.declared.refusals.Refusal.{Refusal}
use Rattle.plates.specs.declared.turnings.Turning.{Turning}
use Rattle.plates.specs.declared.verdicts.Verdict.{Verdict}
use Rattle.rules.specs.declared.terms.Card.{Card}
use Rattle.rules.specs.declared.terms.Member.{Member}
use Rattle.joints.specs.Grounds.{Drawing}
use Rattle.joints.specs.Heels.{heel_draws, heel_asks}
use Rattle.joints.specs.Joints.{joint_drawing, joint_standing, joint_checks, joint_verdict}
use Rattle.joints.specs.Splices.{splice_draws, splice_asks}
use Rattle.joints.specs.Verdict.{Check}
use Rattle.joints.specs.Web.{web_draws, web_asks}
use Rattle.joints.specs.declared.any.AnySheet.{AnySheet}
use Rattle.joints.specs.declared.any.AnySheet.TheVariants.{Web, Heel, Splice}
use Rattle.joints.specs.declared.kinds.SheetJoint.{SheetJoint}

-- a `AnyJoint`, since antt has no name for an alias
abbrev pub AnyJoint : Type 0
AnyJoint = SheetJoint AnySheet

abbrev pub any_draws : AnySheet → List Member → List Card → Drawing
any_draws (Web s) ms cs = web_draws s ms cs
any_draws (Heel s) ms cs = heel_draws s ms cs
any_draws (Splice s) ms cs = splice_draws s ms cs

abbrev pub any_asks : AnySheet → List Member → List Card → Size → Turning → List Check
any_asks (Web s) ms cs p t = web_asks s ms cs p t
any_asks (Heel s) ms cs p t = heel_asks s ms cs p t
any_asks (Splice s) ms cs p t = splice_asks s ms cs p t

abbrev pub any_drawing : AnyJoint → Drawing
any_drawing j = joint_drawing any_draws j

abbrev pub any_standing : AnyJoint → Result (Unit {0}) Refusal
any_standing j = joint_standing any_draws j

abbrev pub any_checks : AnyJoint → Size → Turning → List Check
any_checks j = joint_checks any_asks j

abbrev pub any_verdict : AnyJoint → Size → Turning → Verdict
any_verdict j = joint_verdict any_draws any_asks j
