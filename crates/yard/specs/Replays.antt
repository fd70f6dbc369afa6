-- What a replay does: for each call its answer, the events on the yard that it makes, and the
-- rack after it.
use Rattle.std.specs.Prelude.{◌≡◌, ℕ, List, [], ◌∷◌, ◌++◌, length, take, replicate, Some, None, Ok, Err, Option, Result, slice_index_or, slice_set}
use Rattle.std.specs.List.{slice_get}
use Rattle.plates.specs.Size.{Size}
use Rattle.plates.specs.declared.refusals.Refusal.{Refusal}
use Rattle.plates.specs.declared.turnings.Turning.{Turning}
use Rattle.plates.specs.declared.verdicts.Verdict.{Verdict}
use Rattle.yard.specs.declared.bins.Bin.{Bin}
use Rattle.yard.specs.Slips.{DrawnSlip, TackedSlip}
use Rattle.yard.specs.declared.slips.SlipNumbers.{SlipNumbers}
use Rattle.yard.specs.declared.slips.TurnedAway.{TurnedAway}
use Rattle.yard.specs.declared.replays.Answer.{Answer}
use Rattle.yard.specs.declared.replays.Answer.TheVariants as answer
use Rattle.yard.specs.declared.replays.Call.{Call}
use Rattle.yard.specs.declared.replays.Call.TheVariants.{Receive, Draw, Tack, HandBack, Press, Void, Tell}
use Rattle.yard.specs.declared.replays.Hook.{Hook}
use Rattle.yard.specs.declared.replays.Hook.TheVariants.{Drawn, Tacked, Empty}
use Rattle.yard.specs.Counts.{Count, empty}
use Rattle.yard.specs.Calls.{Drew, HandedBack, Pressed, Received, Told}
use Rattle.yard.specs.Runs.{Event, receipt, drawing, hand_back, pressing, telling}
use Rattle.yard.specs.Law.{Stands}

-- a joint by what it means: its standing and its verdict
pub record Means : Type 0 where
  pub standing : Result (Unit {0}) Refusal
  pub verdict : Size → Turning → Verdict

abbrev pub means : {J : Type 0} → (J → Result (Unit {0}) Refusal) → (J → Size → Turning → Verdict) → J → Means
means standing verdict joint = record { standing = standing joint; verdict = verdict joint }

-- the rack of slips, and the numbers of the yard's places
pub record State : Type 0 where
  pub rack : List Hook
  pub counts : List Count

-- what hangs on a hook: nothing where there is no such hook
abbrev pub hung : List Hook → ℕ → Hook
hung rack i = slice_index_or rack i Empty

-- the slip that a drawing gave, as it is answered and as it is hung on the next hook
abbrev pub noted : Result DrawnSlip Refusal → Result SlipNumbers Refusal
noted (Ok slip) = Ok slip.numbers
noted (Err e) = Err e

abbrev pub hooked : Result DrawnSlip Refusal → List Hook
hooked (Ok slip) = Drawn slip ∷ []
hooked (Err e) = []

-- a refusal without the slip that came back with it
abbrev pub told_off : {S : Type 0} → Result (Unit {0}) (TurnedAway S) → Result (Unit {0}) Refusal
told_off (Ok u) = Ok tt
told_off (Err t) = Err t.refusal

-- what is on the hook then: nothing, or the slip that came back
abbrev pub kept : {S : Type 0} → (S → Hook) → Result (Unit {0}) (TurnedAway S) → Hook
kept hook (Ok u) = Empty
kept hook (Err t) = hook t.slip

-- a drawing for one of the joints hangs its slip on a new hook; one that names no joint does nothing
abbrev pub Draws : (ℕ → Option Size) → ℕ → Option Means → ℕ → State → Answer → List Event → State → Type 0
Draws shows stamp None number before a made after = (a ≡ answer.NoJoint) × (made ≡ []) × (after ≡ before)
Draws shows stamp (Some joint) number before a made after =
    (r : Result DrawnSlip Refusal)
    × (Drew joint.standing joint.verdict shows stamp before.counts number r after.counts × (a ≡ answer.Drawn (noted r)) × (made ≡ drawing joint.standing joint.verdict number r ∷ []) × (after.rack ≡ before.rack ++ hooked r))

-- what hangs there is not what the call takes: it stays, and nothing else is done
abbrev pub Stays : Hook → List Count → Answer → List Event → Hook → List Count → Type 0
Stays held before a made left after = (left ≡ held) × (a ≡ answer.NoSlip) × (made ≡ []) × (after ≡ before)

-- what a call makes of the slip on its hook: the answer, the event on the yard, what is left on
-- the hook, and the numbers of the yard's places
abbrev pub Tacks : Hook → List Count → Answer → List Event → Hook → List Count → Type 0
Tacks (Drawn slip) before a made left after =
    (tacked : TackedSlip) × ((tacked.numbers ≡ slip.numbers) × (left ≡ Tacked tacked) × (a ≡ answer.Tacked) × (made ≡ []) × (after ≡ before))
Tacks (Tacked slip) before a made left after = Stays (Tacked slip) before a made left after
Tacks Empty before a made left after = Stays Empty before a made left after

abbrev pub HandsBack : ℕ → Hook → List Count → Answer → List Event → Hook → List Count → Type 0
HandsBack stamp (Drawn slip) before a made left after =
    (r : Result (Unit {0}) (TurnedAway DrawnSlip)) × (HandedBack stamp before slip r after × (left ≡ kept Drawn r) × (a ≡ answer.HandedBack (told_off r)) × (made ≡ hand_back slip r ∷ []))
HandsBack stamp (Tacked slip) before a made left after = Stays (Tacked slip) before a made left after
HandsBack stamp Empty before a made left after = Stays Empty before a made left after

abbrev pub Presses : ℕ → Hook → List Count → Answer → List Event → Hook → List Count → Type 0
Presses stamp (Drawn slip) before a made left after = Stays (Drawn slip) before a made left after
Presses stamp (Tacked slip) before a made left after =
    (r : Result (Unit {0}) (TurnedAway TackedSlip)) × (Pressed stamp before slip r after × (left ≡ kept Tacked r) × (a ≡ answer.Pressed (told_off r)) × (made ≡ pressing slip r ∷ []))
Presses stamp Empty before a made left after = Stays Empty before a made left after

-- either slip ends with no yard: its pair stays out
abbrev pub Voids : Hook → List Count → Answer → List Event → Hook → List Count → Type 0
Voids (Drawn slip) before a made left after = (left ≡ Empty) × (a ≡ answer.Voided slip.numbers) × (made ≡ []) × (after ≡ before)
Voids (Tacked slip) before a made left after = (left ≡ Empty) × (a ≡ answer.Voided slip.numbers) × (made ≡ []) × (after ≡ before)
Voids Empty before a made left after = Stays Empty before a made left after

-- a slip is taken from its hook and used, and what is left is hung there again
abbrev pub OnHook : (Hook → List Count → Answer → List Event → Hook → List Count → Type 0) → ℕ → State → Answer → List Event → State → Type 0
OnHook Uses i before a made after =
    (left : Hook) × (Uses (hung before.rack i) before.counts a made left after.counts × (after.rack ≡ slice_set before.rack i left))

-- one call: its answer, the event that it makes if it reaches the yard, and the state after it
abbrev pub Does : List Means → ℕ → (ℕ → Option Size) → ℕ → Call → State → Answer → List Event → State → Type 0
Does joints places shows stamp (Receive k pairs) before a made after =
    (r : Result (Unit {0}) Refusal) × (Received places shows before.counts k pairs r after.counts × (a ≡ answer.Received r) × (made ≡ receipt k pairs r ∷ []) × (after.rack ≡ before.rack))
Does joints places shows stamp (Draw j number) before a made after = Draws shows stamp (slice_get joints j) number before a made after
Does joints places shows stamp (Tack i) before a made after = OnHook Tacks i before a made after
Does joints places shows stamp (HandBack i) before a made after = OnHook (HandsBack stamp) i before a made after
Does joints places shows stamp (Press i) before a made after = OnHook (Presses stamp) i before a made after
Does joints places shows stamp (Void i) before a made after = OnHook Voids i before a made after
Does joints places shows stamp (Tell k) before a made after =
    (r : Result Bin Refusal) × (Told places before.counts k r × (a ≡ answer.Told r) × (made ≡ telling k r ∷ []) × (after ≡ before))

-- one thing is done, and then the rest: what both make of the events, and the state between
pub record Then (first : State → List Event → Type 0) (rest : State → List Event → Type 0) (es : List Event) : Type 0 where
  pub next : State
  pub made : List Event
  pub later : List Event
  pub split : es ≡ made ++ later
  pub begun : first next made
  pub ended : rest next later

-- the calls are done one after the other, each answered, and none is skipped
abbrev pub Replays : List Means → ℕ → (ℕ → Option Size) → ℕ → List Call → State → List Answer → List Event → State → Type 0
Replays joints places shows stamp [] before [] es after = (es ≡ []) × (after ≡ before)
Replays joints places shows stamp [] before (a ∷ answers) es after = ⊥
Replays joints places shows stamp (c ∷ cs) before [] es after = ⊥
Replays joints places shows stamp (c ∷ cs) before (a ∷ answers) es after =
    Then (λ next made. Does joints places shows stamp c before a made next) (λ next later. Replays joints places shows stamp cs next answers later after) es

-- a replay of the first calls, as many as there are answers, on a new yard: the law of the
-- books holds for what it did
pub record Replayed (joints : List Means) (places : ℕ) (shows : ℕ → Option Size) (stamp : ℕ) (brought : List Hook) (calls : List Call) (answers : List Answer) (rack : List Hook) (counts : List Count) : Type 0 where
  pub events : List Event
  pub done : Replays joints places shows stamp (take (length answers) calls) (record { rack = brought; counts = replicate 256 empty }) answers events (record { rack = rack; counts = counts })
  pub stands : Stands places shows stamp events counts
