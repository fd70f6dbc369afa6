use Rattle.std.proofs.Common.{◌≡◌, pos, ◌+ℤ◌, ◌-ℤ◌, ◌∙◌, arith, w32, to_z, of_z}
use Rattle.std.proofs.lemmas.Int.{ints}
use Rattle.rules.specs.Sides.{contact}
use Rattle.rules.proofs.sides.net_side.Goals as goal

pub returns-clause-value : goal.returns-clause-value
returns-clause-value c =
    let s = c.args.span.now in
    let low : to_z w32 (of_z w32 (to_z w32 (of_z w32 s.low) +ℤ to_z w32 c.setback.result)) ≡ s.low +ℤ pos c.setback.result = omega (arith, ints) in
    let high : to_z w32 (of_z w32 (to_z w32 (of_z w32 s.high) -ℤ to_z w32 c.setback-2.result)) ≡ s.high -ℤ pos c.setback-2.result = omega (arith, ints) in
    let a = c.setback.ensures.value in
    let b = c.setback-2.ensures.value in
    c.contact.ensures.value ∙ (λ i. contact (low i) (high i) c.args.extent) ∙ (λ i. contact (s.low +ℤ pos (a i)) (s.high -ℤ pos (b i)) c.args.extent)
