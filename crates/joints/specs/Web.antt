-- Web joints.
use Rattle.std.specs.Prelude.{List, length, Result}
use Rattle.plates.specs.Size.{Size}
use Rattle.plates.specs.declared.refusals.Refusal.{Refusal}
use Rattle.plates.specs.declared.turnings.Turning.{Turning}
use Rattle.plates.specs.declared.verdicts.Verdict.{Verdict}
use Rattle.rules.specs.declared.terms.Card.{Card}
use Rattle.rules.specs.declared.terms.Member.{Member}
use Rattle.joints.specs.Checks.{card_of, checks}
use Rattle.joints.specs.Grounds.{truss_ranged, spanned, own, read_cards, Drawing}
use Rattle.joints.specs.Joints.{joint_drawing, joint_standing, joint_checks, joint_verdict}
use Rattle.joints.specs.Verdict.{Check}
use Rattle.joints.specs.declared.kinds.SheetJoint.{SheetJoint}
use Rattle.joints.specs.declared.sheets.Sheet.{Sheet}

-- a `WebJoint`, since antt has no name for an alias
abbrev pub WebJoint : Type 0
WebJoint = SheetJoint Sheet

abbrev pub web_draws : Sheet → List Member → List Card → Drawing
web_draws s ms cs = record {
  numbers = truss_ranged s;
  span = spanned s (length ms);
  first = s.first;
  members = own s ms;
  cards = read_cards cs;
}

-- off the heel the moment factor is 100
abbrev pub web_asks : Sheet → List Member → List Card → Size → Turning → List Check
web_asks s ms cs p t = checks s.conditions 100 (card_of (read_cards cs) p.family) p t

abbrev pub web_drawing : WebJoint → Drawing
web_drawing j = joint_drawing web_draws j

abbrev pub web_standing : WebJoint → Result (Unit {0}) Refusal
web_standing j = joint_standing web_draws j

abbrev pub web_checks : WebJoint → Size → Turning → List Check
web_checks j = joint_checks web_asks j

abbrev pub web_verdict : WebJoint → Size → Turning → Verdict
web_verdict j = joint_verdict web_draws web_asks j
