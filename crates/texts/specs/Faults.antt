-- The line of a fault.
use Rattle.std.specs.Prelude.{◌≡◌, ℕ}
use Rattle.texts.specs.declared.faults.Fault.{Fault}
use Rattle.texts.specs.declared.faults.Fault.TheVariants.{Format, Memory}

-- its number, from 1; 0 where memory is short
abbrev pub at_line : Fault → ℕ
at_line (Format line m) = line
at_line Memory = 0

-- the fault is one of line n, or memory is short
abbrev pub At : ℕ → Fault → Type 0
At n (Format line m) = line ≡ n
At n Memory = Unit {0}
