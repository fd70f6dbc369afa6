-- Heel joints.
use Rattle.std.specs.Prelude.{Bool, ◌&&◌, List, length, Result}
use Rattle.plates.specs.Size.{Size}
use Rattle.plates.specs.declared.refusals.Refusal.{Refusal}
use Rattle.plates.specs.declared.turnings.Turning.{Turning}
use Rattle.plates.specs.declared.verdicts.Verdict.{Verdict}
use Rattle.rules.specs.Heel.{heel_factor}
use Rattle.rules.specs.declared.terms.Card.{Card}
use Rattle.rules.specs.declared.terms.Member.{Member}
use Rattle.joints.specs.Checks.{card_of, checks}
use Rattle.joints.specs.Grounds.{within, truss_ranged, spanned, own, read_cards, Drawing}
use Rattle.joints.specs.Joints.{joint_drawing, joint_standing, joint_checks, joint_verdict}
use Rattle.joints.specs.Verdict.{Check}
use Rattle.joints.specs.declared.kinds.SheetJoint.{SheetJoint}
use Rattle.joints.specs.declared.sheets.HeelSheet.{HeelSheet}

-- a `HeelJoint`, since antt has no name for an alias
abbrev pub HeelJoint : Type 0
HeelJoint = SheetJoint HeelSheet

-- ground 1: the truss length, and a rise and a run of 1 to 10,000
abbrev pub heel_ranged : HeelSheet → Bool
heel_ranged h = truss_ranged h.sheet && (within 1 10000 h.rise && within 1 10000 h.run)

abbrev pub heel_draws : HeelSheet → List Member → List Card → Drawing
heel_draws h ms cs = let s = h.sheet in record {
  numbers = heel_ranged h;
  span = spanned s (length ms);
  first = s.first;
  members = own s ms;
  cards = read_cards cs;
}

-- the clauses A to I with the moment factor of the slope
abbrev pub heel_asks : HeelSheet → List Member → List Card → Size → Turning → List Check
heel_asks h ms cs p t = checks h.sheet.conditions (heel_factor h.rule h.rise h.run) (card_of (read_cards cs) p.family) p t

abbrev pub heel_drawing : HeelJoint → Drawing
heel_drawing j = joint_drawing heel_draws j

abbrev pub heel_standing : HeelJoint → Result (Unit {0}) Refusal
heel_standing j = joint_standing heel_draws j

abbrev pub heel_checks : HeelJoint → Size → Turning → List Check
heel_checks j = joint_checks heel_asks j

abbrev pub heel_verdict : HeelJoint → Size → Turning → Verdict
heel_verdict j = joint_verdict heel_draws heel_asks j
