-- A yard before and after a call, and after a replay.
use Rattle.std.specs.Prelude.{◌≡◌, ℕ, List, length, Option, vec_len, ◌==◌}
use Rattle.plates.specs.Size.{Size}
use Rattle.yard.specs.declared.replays.Call.{Call}
use Rattle.yard.specs.declared.replays.Hook.{Hook}
use Rattle.yard.specs.declared.replays.Outcome.{Outcome}
use Rattle.yard.specs.declared.yards.Yard.{Yard}
use Rattle.yard.specs.Counts.{told}
use Rattle.yard.specs.Replays.{Means, Replayed, State}

-- no call alters the pile or the stamp
pub record SamePile {P : Type 0} (before after : Yard P) : Type 0 where
  pub pile : after.pile ≡ before.pile
  pub stamp : after.stamp ≡ before.stamp

-- a rack, and the numbers that a yard tells beside it
abbrev pub state : {P : Type 0} → Yard P → List Hook → State
state yard rack = record { rack = rack; counts = told yard.bins }

-- what a replay of the calls on a new yard over the pile comes to, with the slips brought: the
-- law holds for what was done, and it is complete when each call has its answer
pub record IsOutcome {P : Type 0} (joints : List Means) (places : ℕ) (shows : ℕ → Option Size) (over : P) (mark : ℕ) (brought : List Hook) (calls : List Call) (end : Outcome P) : Type 0 where
  pub law : Replayed joints places shows mark brought calls end.answers.items end.rack.items (told end.yard.bins)
  pub complete : end.complete ≡ (vec_len end.answers == length calls)
  pub pile : end.yard.pile ≡ over
  pub stamp : end.yard.stamp ≡ mark
