-- Splice joints.
use Rattle.std.specs.Prelude.{Bool, true, ◌&&◌, List, [], ◌∷◌, ◌++◌, length, Some, None, Option, Result, nat_le}
use Rattle.plates.specs.Size.{Size}
use Rattle.plates.specs.declared.refusals.Refusal.{Refusal}
use Rattle.plates.specs.declared.turnings.Turning.{Turning}
use Rattle.plates.specs.declared.verdicts.Verdict.{Verdict}
use Rattle.rules.specs.declared.terms.Member.{Member}
use Rattle.joints.specs.Checks.{card_of, checks}
use Rattle.joints.specs.Verdict.{Check}
use Rattle.plates.specs.declared.verdicts.Clause.TheVariants as clause
use Rattle.clauses.specs.Clauses.{Laid, extends, section}
use Rattle.clauses.specs.Splice.{holds_moment}
use Rattle.rules.specs.declared.terms.Card.{Card}
use Rattle.joints.specs.Grounds.{within, truss_ranged, paired, own, read_cards, Drawing}
use Rattle.joints.specs.Joints.{joint_drawing, joint_standing, joint_checks, joint_verdict}
use Rattle.joints.specs.Verdict.{whole}
use Rattle.joints.specs.declared.kinds.SheetJoint.{SheetJoint}
use Rattle.joints.specs.declared.sheets.SpliceSheet.{SpliceSheet}

-- a `SpliceJoint`, since antt has no name for an alias
abbrev pub SpliceJoint : Type 0
SpliceJoint = SheetJoint SpliceSheet

-- ground 1: the truss length, a moment of 0 to 20,000,000 and a wood value of 1 to 400
abbrev pub splice_ranged : SpliceSheet → Bool
splice_ranged s = truss_ranged s.sheet && (nat_le s.moment 20000000 && within 1 400 s.wood)

abbrev pub splice_draws : SpliceSheet → List Member → List Card → Drawing
splice_draws j ms cs = let s = j.sheet in record {
  numbers = splice_ranged j;
  span = paired s (length ms);
  first = s.first;
  members = own s ms;
  cards = read_cards cs;
}

-- what is asked of the first member
abbrev pub at_first : (Member → Bool) → List Member → Bool
at_first p [] = true
at_first p (m ∷ ms) = p m

-- the clauses J and K, which speak of the first member alone
abbrev pub splice_clauses : SpliceSheet → Laid → List Member → List Check
splice_clauses s l ms = whole clause.Extent (at_first (extends l) ms) ∷ whole clause.Moment (at_first (λ m. holds_moment s.moment (section l m s.wood)) ms) ∷ []

-- they are tried where the family has a card
abbrev pub splice_only : SpliceSheet → Option Card → Size → Turning → List Member → List Check
splice_only s None p t ms = []
splice_only s (Some c) p t ms = splice_clauses s (record { conditions = s.sheet.conditions; factor = 100; card = c; plate = p; turning = t }) ms

-- the clauses A to I, then J and K
abbrev pub splice_asks : SpliceSheet → List Member → List Card → Size → Turning → List Check
splice_asks j ms cs p t =
    let c = card_of (read_cards cs) p.family in
    checks j.sheet.conditions 100 c p t ++ splice_only j c p t (own j.sheet ms)

abbrev pub splice_drawing : SpliceJoint → Drawing
splice_drawing j = joint_drawing splice_draws j

abbrev pub splice_standing : SpliceJoint → Result (Unit {0}) Refusal
splice_standing j = joint_standing splice_draws j

abbrev pub splice_checks : SpliceJoint → Size → Turning → List Check
splice_checks j = joint_checks splice_asks j

abbrev pub splice_verdict : SpliceJoint → Size → Turning → Verdict
splice_verdict j = joint_verdict splice_draws splice_asks j
