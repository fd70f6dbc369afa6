-- The joint of a sheet, by what the sheet's kind draws and asks over members and cards.
use Rattle.std.specs.Prelude.{List, Result}
use Rattle.plates.specs.Size.{Size}
use Rattle.plates.specs.declared.refusals.Refusal.{Refusal}
use Rattle.plates.specs.declared.turnings.Turning.{Turning}
use Rattle.plates.specs.declared.verdicts.Verdict.{Verdict}
use Rattle.rules.specs.declared.terms.Card.{Card}
use Rattle.rules.specs.declared.terms.Member.{Member}
use Rattle.joints.specs.Grounds.{Drawing, stands}
use Rattle.joints.specs.Verdict.{Check, first_missed}
use Rattle.joints.specs.declared.kinds.SheetJoint.{SheetJoint}

module _ {K : Type 0} (draws : K → List Member → List Card → Drawing) where
  abbrev pub joint_drawing : SheetJoint K → Drawing
  joint_drawing j = draws j.sheet j.members.now j.cards.now

  abbrev pub joint_standing : SheetJoint K → Result (Unit {0}) Refusal
  joint_standing j = stands (joint_drawing j)

abbrev pub joint_checks : {K : Type 0} → (K → List Member → List Card → Size → Turning → List Check) → SheetJoint K → Size → Turning → List Check
joint_checks asks j s t = asks j.sheet j.members.now j.cards.now s t

abbrev pub joint_verdict : {K : Type 0} → (K → List Member → List Card → Drawing) → (K → List Member → List Card → Size → Turning → List Check) → SheetJoint K → Size → Turning → Verdict
joint_verdict draws asks j s t = first_missed (joint_checks asks j s t) (joint_drawing draws j).members
