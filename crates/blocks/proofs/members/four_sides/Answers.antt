use Rattle.std.proofs.Common.{refl}
use Rattle.blocks.specs.Members.{SidesSaid}
use Rattle.blocks.proofs.members.four_sides.Goals as goal

pub returns : goal.returns
unfolding SidesSaid
returns g c =
    (_, c.in_ok-value.ensures.value, (_, c.in_ok-value-2.ensures.value, (_, c.in_ok-value-3.ensures.value, (_, c.in_ok-value-4.ensures.value, refl))))
