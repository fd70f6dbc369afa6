-- The press list of what was done.
use Rattle.std.specs.Prelude.{ℕ, Bool, true, false, cond, List, Some, None, Option, ◌==◌}
use Rattle.std.specs.List.{filter_map, list_any, slice_get}
use Rattle.yard.specs.declared.slips.SlipNumbers.{SlipNumbers}
use Rattle.plays.specs.declared.fates.Fate.{Fate}
use Rattle.plays.specs.declared.fates.Fate.TheVariants as fate
use Rattle.plays.specs.declared.lists.Done.{Done}
use Rattle.plays.specs.declared.lists.End.{End}
use Rattle.plays.specs.declared.lists.End.TheVariants as end
use Rattle.plays.specs.declared.lists.PressLine.{PressLine}
use Rattle.plays.specs.Fates.{fate_of, slip_of}

-- the slip that a call drew
abbrev pub drawn_in : Fate → Option SlipNumbers
drawn_in (fate.Drawn slip) = Some slip
drawn_in fate.Tacked = None
drawn_in fate.Pressed = None
drawn_in fate.Voided = None
drawn_in fate.Other = None

abbrev pub drawn_by : Done → Option SlipNumbers
drawn_by d = drawn_in (fate_of d.answer)

-- the slips that were drawn
abbrev pub slips : List Done → List SlipNumbers
slips = filter_map drawn_by

-- the slip that a call tacked
abbrev pub tacked_in : Fate → Option ℕ → Option ℕ
tacked_in (fate.Drawn slip) named = None
tacked_in fate.Tacked named = named
tacked_in fate.Pressed named = None
tacked_in fate.Voided named = None
tacked_in fate.Other named = None

abbrev pub tacked_by : Done → Option ℕ
tacked_by d = tacked_in (fate_of d.answer) (slip_of d.call)

-- the call ended this slip so
abbrev pub is : ℕ → Option ℕ → Bool
is slip (Some named) = named == slip
is slip None = false

abbrev pub ended_in : End → Fate → Bool
ended_in end.Pressed (fate.Drawn slip) = false
ended_in end.Pressed fate.Tacked = false
ended_in end.Pressed fate.Pressed = true
ended_in end.Pressed fate.Voided = false
ended_in end.Pressed fate.Other = false
ended_in end.Voided (fate.Drawn slip) = false
ended_in end.Voided fate.Tacked = false
ended_in end.Voided fate.Pressed = false
ended_in end.Voided fate.Voided = true
ended_in end.Voided fate.Other = false

abbrev pub ends : End → ℕ → Done → Bool
ends way slip d = cond (ended_in way (fate_of d.answer)) (is slip (slip_of d.call)) false

-- one of the calls did
abbrev pub has_ended : End → ℕ → List Done → Bool
has_ended way slip = list_any (ends way slip)

-- a slip in the press list, with its numbers, and whether its pair was pressed
abbrev pub line_of : List Done → ℕ → SlipNumbers → PressLine
line_of all slip numbers = record { slip = slip; numbers = numbers; pressed = has_ended end.Pressed slip all }

-- it stands there unless it was voided
abbrev pub listed : List Done → ℕ → Option SlipNumbers → Option PressLine
listed all slip None = None
listed all slip (Some numbers) = cond (has_ended end.Voided slip all) None (Some (line_of all slip numbers))

abbrev pub pressing : List Done → Option ℕ → Option PressLine
pressing all None = None
pressing all (Some slip) = listed all slip (slice_get (slips all) slip)

-- in the order of tacking
abbrev pub press_list : List Done → List PressLine
press_list all = filter_map (λ d. pressing all (tacked_by d)) all
