-- What an answer says of a slip.
use Rattle.std.specs.Prelude.{ℕ, Some, None, Ok, Err, Option, Result}
use Rattle.plates.specs.declared.refusals.Refusal.{Refusal}
use Rattle.yard.specs.declared.replays.Answer.{Answer}
use Rattle.yard.specs.declared.replays.Answer.TheVariants as answer
use Rattle.yard.specs.declared.replays.Call.{Call}
use Rattle.yard.specs.declared.replays.Call.TheVariants as call
use Rattle.yard.specs.declared.slips.SlipNumbers.{SlipNumbers}
use Rattle.plays.specs.declared.fates.Fate.{Fate}
use Rattle.plays.specs.declared.fates.Fate.TheVariants as fate

abbrev pub drawn_fate : Result SlipNumbers Refusal → Fate
drawn_fate (Ok slip) = fate.Drawn slip
drawn_fate (Err e) = fate.Other

abbrev pub pressed_fate : Result (Unit {0}) Refusal → Fate
pressed_fate (Ok u) = fate.Pressed
pressed_fate (Err e) = fate.Other

abbrev pub fate_of : Answer → Fate
fate_of (answer.Received r) = fate.Other
fate_of (answer.Drawn r) = drawn_fate r
fate_of answer.Tacked = fate.Tacked
fate_of (answer.HandedBack r) = fate.Other
fate_of (answer.Pressed r) = pressed_fate r
fate_of (answer.Voided slip) = fate.Voided
fate_of (answer.Told r) = fate.Other
fate_of answer.NoSlip = fate.Other
fate_of answer.NoJoint = fate.Other

-- the slip that a call names
abbrev pub slip_of : Call → Option ℕ
slip_of (call.Receive place pairs) = None
slip_of (call.Draw joint number) = None
slip_of (call.Tack slip) = Some slip
slip_of (call.HandBack slip) = Some slip
slip_of (call.Press slip) = Some slip
slip_of (call.Void slip) = Some slip
slip_of (call.Tell place) = None
