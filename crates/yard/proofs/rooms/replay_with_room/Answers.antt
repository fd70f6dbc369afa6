use Rattle.std.proofs.Common.{map, length, vec_len, vec_capacity, arith}
use Rattle.yard.specs.Counts.{told}
use Rattle.yard.specs.Replays.{means}
use Rattle.yard.proofs.Taken.{all_done, replayed_fits}
use Rattle.yard.proofs.rooms.replay_with_room.Goals as goal

pub returns-clause-all : goal.returns-clause-all
returns-clause-all g c = λ room hooks.
    let done = c.play.result in
    let fits = replayed_fits (map (means g.J.Joint.standing g.J.Joint.verdict) c.args.joints.now) (g.P.Supply.places c.args.pile) (g.P.Supply.shows c.args.pile) c.args.stamp c.args.rack.items c.args.calls.now done.answers.items done.rack.items (told done.yard.bins) c.play.ensures.outcome.law in
    all_done done.complete (length c.args.calls.now) (vec_len done.answers) (vec_capacity c.args.answers) (vec_capacity done.answers) (vec_len c.args.rack) (vec_len done.rack) (vec_capacity c.args.rack) (vec_capacity done.rack)
    c.play.ensures.outcome.complete (omega (arith, done.answers.ok.0)) (omega (arith, done.answers.ok.0, done.rack.ok.0, c.args.rack.ok.0)) c.play.ensures.stops
    (omega (arith, c.clear.ensures.capacity)) c.play.ensures.rack_room room hooks
