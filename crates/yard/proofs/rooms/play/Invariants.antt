-- There is an answer for each call passed, and those calls have been done on the yard that was made.
use Rattle.std.proofs.Common.{◌≡◌, ◌≤◌, map, length, vec_capacity}
use Rattle.yard.specs.Counts.{told}
use Rattle.yard.specs.Replays.{means}
use Rattle.yard.proofs.Replaying.{Worked}
use Rattle.yard.proofs.rooms.play.Given as goal

abbrev pub invariant-loop-call : goal.invariant-loop-call
invariant-loop-call g l =
    record {
      counted : length l.answers.items ≡ l.call-index;
      worked : Worked (map (means g.J.Joint.standing g.J.Joint.verdict) l.joints) (g.P.Supply.places l.fn.pile) (g.P.Supply.shows l.fn.pile) l.stamp l.fn.rack.items l.calls l.answers.items l.rack.items (told l.yard.bins);
      pile : l.yard.pile ≡ l.fn.pile;
      stamp : l.yard.stamp ≡ l.stamp;
      rack_room : vec_capacity l.fn.rack ≤ vec_capacity l.rack;
      answers_room : vec_capacity l.fn.answers ≤ vec_capacity l.answers;
    }
