-- A step on the yard that is passed to a function.
use Rattle.std.specs.Prelude.{◌≡◌}
use Rattle.std.specs.Borrow.{MutBor}
use Rattle.std.specs.Fn.{Once}

-- at a `&mut` to s and at x, the step may give r and leave s' there
pub record StepReturns {F S X R : Type 0} (g : Once F (MutBor S × (X × Unit {0})) (R × (MutBor S × Unit {0}))) (f : F) (s : S) (x : X) (r : R) (s' : S) : Type 0 where
  pub shown : MutBor S
  pub shows : shown.now ≡ s
  pub left : MutBor S
  pub met : g.post f (shown, (x, tt)) (r, (left, tt))
  pub leaves : left.now ≡ s'
