-- What was ended and what still hangs make up what hung there at first.
use Rattle.std.proofs.Common.{◌≡◌, ◌+◌, ◌≤◌, vec_items, vec_len}
use Rattle.yard.specs.Hooks.{hanging}
use Rattle.yard.proofs.hooks.void_all.Given as goal

abbrev pub invariant-loop-hook : goal.invariant-loop-hook
invariant-loop-hook l = (l.ended + hanging (vec_items l.rack) ≡ hanging (vec_items l.initial.rack)) × (l.ended + vec_len l.rack ≤ vec_len l.initial.rack)

abbrev pub decreases-loop-hook : goal.decreases-loop-hook
decreases-loop-hook l = vec_len l.rack
