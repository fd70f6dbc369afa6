-- Runs of calls on one yard, and what they come to at a place.
use Rattle.std.specs.Prelude.{◌≡◌, ℕ, ◌+◌, cond, List, [], ◌∷◌, Ok, Err, Option, Result, ◌==◌}
use Rattle.plates.specs.Size.{Size}
use Rattle.plates.specs.declared.refusals.Refusal.{Refusal}
use Rattle.plates.specs.declared.turnings.Turning.{Turning}
use Rattle.plates.specs.declared.verdicts.Verdict.{Verdict}
use Rattle.yard.specs.declared.bins.Bin.{Bin}
use Rattle.yard.specs.Slips.{DrawnSlip, TackedSlip}
use Rattle.yard.specs.declared.slips.TurnedAway.{TurnedAway}
use Rattle.yard.specs.Counts.{Count}
use Rattle.yard.specs.Calls.{Drew, HandedBack, Pressed, Received, Told}

-- one call with its answer; a drawing has the standing and the verdict of its joint, so joints
-- of any kinds mix, and the slips brought may be of any yard
pub data Event : Type 0 where
  receipt : ℕ → ℕ → Result (Unit {0}) Refusal → Event
  drawing : Result (Unit {0}) Refusal → (Size → Turning → Verdict) → ℕ → Result DrawnSlip Refusal → Event
  hand_back : DrawnSlip → Result (Unit {0}) (TurnedAway DrawnSlip) → Event
  pressing : TackedSlip → Result (Unit {0}) (TurnedAway TackedSlip) → Event
  telling : ℕ → Result Bin Refusal → Event

-- the call answers, and alters the numbers, as its own contract says
abbrev pub Step : ℕ → (ℕ → Option Size) → ℕ → List Count → Event → List Count → Type 0
Step places shows stamp before (receipt k pairs r) after = Received places shows before k pairs r after
Step places shows stamp before (drawing standing verdict joint r) after = Drew standing verdict shows stamp before joint r after
Step places shows stamp before (hand_back slip r) after = HandedBack stamp before slip r after
Step places shows stamp before (pressing slip r) after = Pressed stamp before slip r after
Step places shows stamp before (telling k r) after = Told places before k r × (after ≡ before)

-- the calls run one after the other
abbrev pub Ran : ℕ → (ℕ → Option Size) → ℕ → List Count → List Event → List Count → Type 0
Ran places shows stamp before [] after = after ≡ before
Ran places shows stamp before (e ∷ es) after = (next : List Count) × (Step places shows stamp before e next × Ran places shows stamp next es after)

-- the pairs that a call received, drew, took back or saw pressed at place k: none if refused
abbrev pub received_by : ℕ → Event → ℕ
received_by k (receipt j pairs (Ok u)) = cond (j == k) pairs 0
received_by k (receipt j pairs (Err e)) = 0
received_by k (drawing standing verdict joint r) = 0
received_by k (hand_back slip r) = 0
received_by k (pressing slip r) = 0
received_by k (telling j r) = 0

abbrev pub drawn_by : ℕ → Event → ℕ
drawn_by k (receipt j pairs r) = 0
drawn_by k (drawing standing verdict joint (Ok slip)) = cond (slip.numbers.place == k) 1 0
drawn_by k (drawing standing verdict joint (Err e)) = 0
drawn_by k (hand_back slip r) = 0
drawn_by k (pressing slip r) = 0
drawn_by k (telling j r) = 0

abbrev pub handed_back_by : ℕ → Event → ℕ
handed_back_by k (receipt j pairs r) = 0
handed_back_by k (drawing standing verdict joint r) = 0
handed_back_by k (hand_back slip (Ok u)) = cond (slip.numbers.place == k) 1 0
handed_back_by k (hand_back slip (Err e)) = 0
handed_back_by k (pressing slip r) = 0
handed_back_by k (telling j r) = 0

abbrev pub pressed_by : ℕ → Event → ℕ
pressed_by k (receipt j pairs r) = 0
pressed_by k (drawing standing verdict joint r) = 0
pressed_by k (hand_back slip r) = 0
pressed_by k (pressing slip (Ok u)) = cond (slip.numbers.place == k) 1 0
pressed_by k (pressing slip (Err e)) = 0
pressed_by k (telling j r) = 0

abbrev pub total : (Event → ℕ) → List Event → ℕ
total by [] = 0
total by (e ∷ es) = by e + total by es

-- what a run received, drew, took back and saw pressed at place k
abbrev pub received : ℕ → List Event → ℕ
received k = total (received_by k)

abbrev pub drawn : ℕ → List Event → ℕ
drawn k = total (drawn_by k)

abbrev pub handed_back : ℕ → List Event → ℕ
handed_back k = total (handed_back_by k)

abbrev pub pressed : ℕ → List Event → ℕ
pressed k = total (pressed_by k)
