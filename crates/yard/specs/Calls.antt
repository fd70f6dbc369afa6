-- What each call of a yard answers, and the numbers of its places after it. A yard is known
-- by its pile's place count, what the pile shows, the stamp, and the numbers of its places.
use Rattle.std.specs.Prelude.{◌≡◌, ℕ, Bool, true, false, cond, ◌&&◌, List, is_some, Some, None, Ok, Err, Option, Result, ◌==◌, nat_lt, slice_set}
use Rattle.plates.specs.Size.{Size}
use Rattle.plates.specs.declared.refusals.Refusal.{Refusal}
use Rattle.plates.specs.declared.refusals.Refusal.TheVariants.{NoPlace, BadReceipt, NothingFits, OtherStamp, NoneOut}
use Rattle.plates.specs.declared.turnings.Turning.{Turning}
use Rattle.plates.specs.declared.verdicts.Verdict.{Verdict}
use Rattle.choice.specs.Choosing.{Fits, Least}
use Rattle.yard.specs.declared.bins.Bin.{Bin}
use Rattle.yard.specs.Slips.{DrawnSlip, TackedSlip}
use Rattle.yard.specs.declared.slips.SlipNumbers.{SlipNumbers}
use Rattle.yard.specs.declared.slips.TurnedAway.{TurnedAway}
use Rattle.yard.specs.Counts.{Count, counted, at, room_for, with_more, moved_out, moved_back, pressed_off}

-- the place of a plate and its turning
abbrev pub Candidate : Type 0
Candidate = ℕ × Turning

-- a place of the yard is below both 256 and the pile's place count
abbrev pub has_place : ℕ → ℕ → Bool
has_place places k = nat_lt k 256 && nat_lt k places

-- what a yard shows: the pile's plate below place 256 while a pair is on hand there
abbrev pub in_yard : (ℕ → Option Size) → List Count → ℕ → Option Size
in_yard shows counts k = cond (nat_lt k 256 && nat_lt 0 (at counts k).on_hand) (shows k) None

-- a receipt is refused where there is no such place or the pile shows nothing there, then
-- where its pairs are none or too many
abbrev pub receipt_fault : ℕ → (ℕ → Option Size) → List Count → ℕ → ℕ → Option Refusal
receipt_fault places shows counts k pairs =
    cond (has_place places k && is_some (shows k)) (cond (room_for pairs (at counts k)) None (Some (BadReceipt k))) (Some (NoPlace k))

-- a fault as the answer of a test: an error where there is one
abbrev pub err_or_ok : Option Refusal → Result (Unit {0}) Refusal
err_or_ok None = Ok tt
err_or_ok (Some e) = Err e

-- a refused receipt alters nothing; another adds its pairs on hand at its place
abbrev pub Receipt : Option Refusal → List Count → ℕ → ℕ → Result (Unit {0}) Refusal → List Count → Type 0
Receipt (Some e) before k pairs r after = (r ≡ Err e) × (after ≡ before)
Receipt None before k pairs r after = (r ≡ Ok tt) × (after ≡ slice_set before k (with_more pairs (at before k)))

abbrev pub Received : ℕ → (ℕ → Option Size) → List Count → ℕ → ℕ → Result (Unit {0}) Refusal → List Count → Type 0
Received places shows before k pairs r after = Receipt (receipt_fault places shows before k pairs) before k pairs r after

-- the search of a drawing over what is shown: the least candidate that passes, or 'nothing
-- fits' where none does; an unlawful joint gets its refusal
abbrev pub Found : Result (Unit {0}) Refusal → (Size → Turning → Verdict) → (ℕ → Option Size) → Result Candidate Refusal → Type 0
Found (Err e) verdict shows r = r ≡ Err e
Found (Ok u) verdict shows (Ok c) = (area : ℕ) × Least verdict shows c.0 c.1 area
Found (Ok u) verdict shows (Err e) = (e ≡ NothingFits) × ((k : ℕ) (t : Turning) (s : Size) → Fits verdict shows k t s → ⊥)

-- a slip names the least plate on hand that passes the joint, and the turning found for it;
-- it bears the yard's stamp and the caller's number, and its pair has gone from on hand to out
pub record Slipped (verdict : Size → Turning → Verdict) (shows : ℕ → Option Size) (stamp : ℕ) (before : List Count) (joint : ℕ) (slip : SlipNumbers) (after : List Count) : Type 0 where
  pub area : ℕ
  pub least : Least verdict (in_yard shows before) slip.place slip.turning area
  pub stamped : slip.stamp ≡ stamp
  pub numbered : slip.joint ≡ joint
  pub moved : after ≡ slice_set before slip.place (moved_out (at before slip.place))

-- a lawful joint gets a slip, or 'nothing fits' where nothing on hand passes in either turning
abbrev pub Drawing : (Size → Turning → Verdict) → (ℕ → Option Size) → ℕ → List Count → ℕ → Result DrawnSlip Refusal → List Count → Type 0
Drawing verdict shows stamp before joint (Ok slip) after = Slipped verdict shows stamp before joint slip.numbers after
Drawing verdict shows stamp before joint (Err e) after =
    (e ≡ NothingFits) × ((k : ℕ) (t : Turning) (s : Size) → Fits verdict (in_yard shows before) k t s → ⊥) × (after ≡ before)

-- an unlawful joint gets its refusal
abbrev pub Drew : Result (Unit {0}) Refusal → (Size → Turning → Verdict) → (ℕ → Option Size) → ℕ → List Count → ℕ → Result DrawnSlip Refusal → List Count → Type 0
Drew (Err e) verdict shows stamp before joint r after = (r ≡ Err e) × (after ≡ before)
Drew (Ok u) verdict shows stamp before joint r after = Drawing verdict shows stamp before joint r after

-- a slip is refused where it bears another stamp, then where no pair is out at its place
abbrev pub slip_fault : ℕ → List Count → SlipNumbers → Option Refusal
slip_fault stamp counts slip =
    cond (slip.stamp == stamp) (cond (nat_lt slip.place 256 && nat_lt 0 (at counts slip.place).out) None (Some NoneOut)) (Some OtherStamp)

-- a refused slip comes back and nothing is altered; another ends, and its place has new numbers
abbrev pub Settled : {S : Type 0} → Option Refusal → S → List Count → ℕ → Count → Result (Unit {0}) (TurnedAway S) → List Count → Type 0
Settled (Some e) slip before k new r after = (r ≡ Err (record { refusal = e; slip = slip })) × (after ≡ before)
Settled None slip before k new r after = (r ≡ Ok tt) × (after ≡ slice_set before k new)

abbrev pub HandedBack : ℕ → List Count → DrawnSlip → Result (Unit {0}) (TurnedAway DrawnSlip) → List Count → Type 0
HandedBack stamp before slip r after =
    Settled (slip_fault stamp before slip.numbers) slip before slip.numbers.place (moved_back (at before slip.numbers.place)) r after

abbrev pub Pressed : ℕ → List Count → TackedSlip → Result (Unit {0}) (TurnedAway TackedSlip) → List Count → Type 0
Pressed stamp before slip r after =
    Settled (slip_fault stamp before slip.numbers) slip before slip.numbers.place (pressed_off (at before slip.numbers.place)) r after

-- a telling gives the two numbers of a place of the yard
abbrev pub Told : ℕ → List Count → ℕ → Result Bin Refusal → Type 0
Told places counts k (Ok b) = (has_place places k ≡ true) × (counted b ≡ at counts k)
Told places counts k (Err e) = (has_place places k ≡ false) × (e ≡ NoPlace k)
