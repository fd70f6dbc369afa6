use Rattle.std.proofs.Common.{sym, subst}
use Rattle.std.specs.List.{All}
use Rattle.rules.specs.Ranges.{CardWithin, MemberWithin}
use Rattle.joints.proofs.Standing.{members_within, cards_within}
use Rattle.joints.proofs.trying.Lawful.new.Goals as goal

pub invariant_of-result-clause-ranged : goal.invariant_of-result-clause-ranged
invariant_of-result-clause-ranged c = subst (All MemberWithin) (sym c.own.ensures) (members_within _ _ _ c.requires.stand)

pub invariant_of-result-clause-carded : goal.invariant_of-result-clause-carded
invariant_of-result-clause-carded c = subst (All CardWithin) (sym c.read_cards.ensures) (cards_within _ _ _ c.requires.stand)
