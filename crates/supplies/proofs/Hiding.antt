-- What shows through, place by place.
use Rattle.std.proofs.Common.{Bool, Some, None, Option}
use Rattle.std.proofs.lemmas.Bool.{cond_both}
use Rattle.plates.specs.Size.{Size}
use Rattle.supplies.specs.Hiding.{unless}
use Rattle.supplies.specs.Shown.{Exists}

-- no plate is shown that does not exist below
pub unless_exist : (hidden : Size → Bool) (o : Option Size) → Exists o → Exists (unless hidden o)
unless_exist hidden None h = tt
unless_exist hidden (Some s) h = cond_both (hidden s) None (Some s) Exists (λ _. tt) (λ _. h)
