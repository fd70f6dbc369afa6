-- The ranges of a card's and a member's numbers.
use Rattle.std.specs.Prelude.{ℕ, ◌<◌, ◌≤◌, pos, negsuc, ◌≤ℤ◌, slice_index}
use Rattle.rules.specs.declared.terms.Card.{Card}
use Rattle.rules.specs.declared.terms.Lateral.{Lateral}
use Rattle.rules.specs.declared.terms.Member.{Member}
use Rattle.rules.specs.declared.terms.Span.{Span}

-- each of the four values lies from `low` to 20,000
pub record LateralWithin (low : ℕ) (v : Lateral) : Type 0 where
  pub p_low : low ≤ v.p
  pub p_high : v.p ≤ 20000
  pub q_low : low ≤ v.q
  pub q_high : v.q ≤ 20000
  pub pt_low : low ≤ v.pt
  pub pt_high : v.pt ≤ 20000
  pub qt_low : low ≤ v.qt
  pub qt_high : v.qt ≤ 20000

pub record CardWithin (c : Card) : Type 0 where
  pub teeth : LateralWithin 10 c.teeth
  pub slip : LateralWithin 10 c.slip
  pub t0_high : c.t0 ≤ 2000
  pub t90_high : c.t90 ≤ 2000
  pub shear_high : (k : ℕ) → k < 6 → slice_index c.shear k ≤ 2000
  pub tooth_high : c.tooth ≤ 40

pub record SpanWithin (s : Span) : Type 0 where
  pub low_low : negsuc 999 ≤ℤ s.low
  pub low_high : s.low ≤ℤ pos 1000
  pub high_low : negsuc 999 ≤ℤ s.high
  pub high_high : s.high ≤ℤ pos 1000

pub record MemberWithin (m : Member) : Type 0 where
  pub normal : m.normal ≤ 200000
  pub parallel : m.parallel ≤ 200000
  pub specified : m.specified ≤ 200000
  pub cross : m.cross ≤ 200000
  pub theta : m.theta ≤ 90
  pub rho : m.rho ≤ 90
  pub sigma : m.sigma ≤ 179
  pub depth : m.depth ≤ 286
  pub x : SpanWithin m.field.x
  pub y : SpanWithin m.field.y
