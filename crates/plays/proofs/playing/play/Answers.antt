use Rattle.std.proofs.Common.{◌≡◌, ◌+◌, ◌≤◌, map, length, vec_items, vec_len, vec_capacity, sym, ◌∙◌, arith, eqb-true}
use Rattle.yard.specs.Counts.{told}
use Rattle.yard.specs.Replays.{means}
use Rattle.plays.proofs.Ended.{ended}
use Rattle.plays.proofs.playing.play.Goals as goal

pub returns : goal.returns
returns g c =
    let done = c.replay_with_room-yard.result in
    let calls = c.as_slice.result.now in
    let room-answers : length calls ≤ vec_capacity c.in_ok-answers.answers =
    omega (arith, c.in_ok-answers.ensures.capacity, c.len.ensures, c.as_slice.ensures.len)
    in
    let room-rack : vec_len c.in_ok-rack.rack + length calls ≤ vec_capacity c.in_ok-rack.rack =
    omega (arith, c.in_ok-rack.ensures.len, c.in_ok-rack.ensures.capacity, c.len-2.ensures, c.as_slice.ensures.len)
    in
    let counted : vec_len done.answers ≡ length calls =
    eqb-true (vec_len done.answers) (length calls) (sym c.replay_with_room-yard.ensures.outcome.complete ∙ c.replay_with_room-yard.ensures.all room-answers room-rack)
    in
    let every : length (vec_items done.answers) ≡ length calls = omega (arith, counted, done.answers.ok.0) in
    ended (map (means g.J.Joint.standing g.J.Joint.verdict) c.args.joints.now) (g.P.Supply.places c.args.pile) (g.P.Supply.shows c.args.pile) c.args.stamp c.args.entries.now calls (vec_items done.answers) c.as_slice-3.result.now (vec_items c.in_ok-rack.rack) (vec_items done.rack) c.as_slice-2.result.now (told done.yard.bins) (vec_items c.in_ok-answered.field-0) (vec_items c.in_ok-slips.field-0)
    (c.as_slice.ensures.value ∙ c.in_ok-calls.ensures) c.in_ok-rack.ensures.items c.replay_with_room-yard.ensures.outcome.law every
    c.as_slice-3.ensures.value c.in_ok-answered.ensures
    c.as_slice-2.ensures.value c.in_ok-slips.ensures
