-- Numbers that passed the tests of their ranges lie within them.
use Rattle.std.proofs.Common.{◌≡◌, ℕ, zero, suc, ◌<◌, ◌≤◌, true, List, get_or, arith}
use Rattle.std.proofs.lemmas.Bool.{and_parts}
use Rattle.std.proofs.lemmas.Int.{ints}
use Rattle.std.proofs.lemmas.Bool.Decides.{nat_tests}
use Rattle.rules.specs.declared.terms.Card.{Card}
use Rattle.rules.specs.declared.terms.Lateral.{Lateral}
use Rattle.rules.specs.declared.terms.Member.{Member}
use Rattle.rules.specs.declared.terms.Span.{Span}
use Rattle.rules.specs.Ranges.{LateralWithin, CardWithin, SpanWithin, MemberWithin}
use Rattle.joints.specs.Grounds.{within, loads_ranged, angles_ranged, depth_listed, span_ranged, member_ranged, lateral_ranged, shear_ranged, card_ranged}

up_to : (low high n : ℕ) → within low high n ≡ true → n ≤ high
up_to low high n t = grind (arith, nat_tests)

deep : (d : ℕ) → depth_listed d ≡ true → d ≤ 286
deep d t = grind (arith, nat_tests)

lateral_within : (v : Lateral) → lateral_ranged v ≡ true → LateralWithin 10 v
lateral_within v t = record {
  p_low = grind (arith, nat_tests);
  p_high = grind (arith, nat_tests);
  q_low = grind (arith, nat_tests);
  q_high = grind (arith, nat_tests);
  pt_low = grind (arith, nat_tests);
  pt_high = grind (arith, nat_tests);
  qt_low = grind (arith, nat_tests);
  qt_high = grind (arith, nat_tests);
}

span_within : (s : Span) → span_ranged s ≡ true → SpanWithin s
span_within s t = record { low_low = grind (arith, ints); low_high = grind (arith, ints); high_low = grind (arith, ints); high_high = grind (arith, ints) }

pub member_within : (m : Member) → member_ranged m ≡ true → MemberWithin m
unfolding member_ranged
member_within m t =
    let loads = and_parts (loads_ranged m) _ t in
    let angles = and_parts (angles_ranged m) _ loads.1 in
    let depth = and_parts (depth_listed m.depth) _ angles.1 in
    let fields = and_parts (span_ranged m.field.x) (span_ranged m.field.y) depth.1 in
    record {
      normal = grind (arith, nat_tests);
      parallel = grind (arith, nat_tests);
      specified = grind (arith, nat_tests);
      cross = grind (arith, nat_tests);
      theta = grind (arith, nat_tests);
      rho = grind (arith, nat_tests);
      sigma = grind (arith, nat_tests);
      depth = deep _ depth.0;
      x = span_within _ fields.0;
      y = span_within _ fields.1;
    }

shear_within : (v : List ℕ) → shear_ranged v ≡ true → (k : ℕ) → k < 6 → get_or v k 0 ≤ 2000
shear_within v t zero h = grind (arith, nat_tests)
shear_within v t (suc zero) h = grind (arith, nat_tests)
shear_within v t (suc (suc zero)) h = grind (arith, nat_tests)
shear_within v t (suc (suc (suc zero))) h = grind (arith, nat_tests)
shear_within v t (suc (suc (suc (suc zero)))) h = grind (arith, nat_tests)
shear_within v t (suc (suc (suc (suc (suc zero))))) h = grind (arith, nat_tests)
shear_within v t (suc (suc (suc (suc (suc (suc k)))))) h = absurd (omega arith)

pub card_within : (c : Card) → card_ranged c ≡ true → CardWithin c
unfolding card_ranged
card_within c t =
    let teeth = and_parts (lateral_ranged c.teeth) _ t in
    let slip = and_parts (lateral_ranged c.slip) _ teeth.1 in
    let along = and_parts (within 1 2000 c.t0) _ slip.1 in
    let across = and_parts (within 1 2000 c.t90) _ along.1 in
    let shear = and_parts (shear_ranged c.shear) (within 1 40 c.tooth) across.1 in
    record {
      teeth = lateral_within _ teeth.0;
      slip = lateral_within _ slip.0;
      t0_high = up_to 1 2000 _ along.0;
      t90_high = up_to 1 2000 _ across.0;
      shear_high = shear_within _ shear.0;
      tooth_high = up_to 1 40 _ shear.1;
    }
