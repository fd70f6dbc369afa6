use Rattle.std.proofs.Common.{◌≡◌, List, map, get_or, arith, rules}
use Rattle.yard.specs.declared.replays.Call.{Call}
use Rattle.yard.specs.declared.replays.Call.TheVariants.{Receive}
use Rattle.yard.specs.Counts.{told}
use Rattle.yard.specs.Replays.{Means, State, means}
use Rattle.yard.specs.Yards.{state}
use Rattle.yard.proofs.Replaying.{worked_more, worked_replayed}
use Rattle.yard.proofs.rooms.play.Goals as goal

pub loop-call-preserved : goal.loop-call-preserved
loop-call-preserved g c =
    let inv = c.loop-call.invariant in
    let joints : List Means = map (means g.J.Joint.standing g.J.Joint.verdict) c.args.joints.now in
    let call : Call = get_or c.args.calls.now c.loop-call.call-index (Receive 0 0) in
    let next : State = state c.loop-call.yard c.loop-call.rack.items in
    let after : State = state c.perform-answer.new.yard c.perform-answer.new.rack.items in
    let does = rw (inv.pile, inv.stamp, c.find.ensures.same) at c.perform-answer.ensures.answer in
    let added = rw c.find-else-not-find.ensures.same at c.push_reserved.ensures.items in
    let more = worked_more joints (g.P.Supply.places c.args.pile) (g.P.Supply.shows c.args.pile) c.args.stamp c.args.rack.items c.args.calls.now c.loop-call.answers.items c.push_reserved.new.self.items c.loop-call.call-index (Receive 0 0) c.perform-answer.result next after
    inv.counted c.loop-call-test.true added inv.worked does
    in
    record { counted = more.0; worked = more.1; pile = search rules; stamp = search rules; rack_room = omega arith; answers_room = omega arith }

pub returns-clause-outcome : goal.returns-clause-outcome
returns-clause-outcome g c =
    let joints : List Means = map (means g.J.Joint.standing g.J.Joint.verdict) c.args.joints.now in
    let rack : c.loop-call-test.rack.items ≡ c.loop-call.rack.items = search rules in
    let answers : c.loop-call-test.answers.items ≡ c.loop-call.answers.items = search rules in
    let law = worked_replayed joints (g.P.Supply.places c.args.pile) (g.P.Supply.shows c.args.pile) c.args.stamp c.args.rack.items c.args.calls.now c.loop-call-test.answers.items c.loop-call-test.rack.items (told c.loop-call.yard.bins)
    (rw (rack, answers) c.loop-call.invariant.worked)
    in
    record { law = law; complete = search rules; pile = search rules; stamp = search rules }
