-- The two kinds of slips, by their states.
use Rattle.yard.specs.declared.slips.Drawn.{Drawn}
use Rattle.yard.specs.declared.slips.Slip.{Slip}
use Rattle.yard.specs.declared.slips.Tacked.{Tacked}

abbrev pub DrawnSlip : Type 0
DrawnSlip = Slip Drawn

abbrev pub TackedSlip : Type 0
TackedSlip = Slip Tacked
