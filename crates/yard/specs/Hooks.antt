-- The slips that hang on a rack.
use Rattle.std.specs.Prelude.{ℕ, true, false, List, count_by, is_some, Some, None, Option}
use Rattle.std.specs.List.{enumerate_from, filter_map}
use Rattle.yard.specs.declared.hooks.OpenSlip.{OpenSlip}
use Rattle.yard.specs.declared.replays.Hook.{Hook}
use Rattle.yard.specs.declared.replays.Hook.TheVariants.{Drawn, Tacked, Empty}
use Rattle.yard.specs.declared.slips.SlipNumbers.{SlipNumbers}

-- what is written on the slip that hangs on a hook
abbrev pub written : Hook → Option SlipNumbers
written (Drawn slip) = Some slip.numbers
written (Tacked slip) = Some slip.numbers
written Empty = None

-- the slip that hangs on hook i
abbrev pub open_slip : ℕ → Hook → Option OpenSlip
open_slip i (Drawn slip) = Some (record { hook = i; numbers = slip.numbers; tacked = false })
open_slip i (Tacked slip) = Some (record { hook = i; numbers = slip.numbers; tacked = true })
open_slip i Empty = None

-- all that hang there, in the order of their hooks, the first of which is hook i
abbrev pub open_slips : ℕ → List Hook → List OpenSlip
open_slips i hs = filter_map (λ p. open_slip p.0 p.1) (enumerate_from i hs)

-- how many hang there
abbrev pub hanging : List Hook → ℕ
hanging = count_by (λ h. is_some (written h))
