use Rattle.std.proofs.Common.{[], ◌∷◌, Ok, Err, vec_items, sym, refl, ap, append-nil}
use Rattle.yard.specs.declared.replays.Answer.TheVariants as answer
use Rattle.yard.specs.Runs.{drawing}
use Rattle.yard.proofs.replays.draw.Goals as goal

pub returns-in-Ok-clause-answer : goal.returns-in-Ok-clause-answer
returns-in-Ok-clause-answer g c =
    let joint = c.in-Some.joint.now in
    rw c.in-Some.is (
      drawing (g.J.Joint.standing joint) (g.J.Joint.verdict joint) c.args.number (Ok c.in-Ok.slip) ∷ [],
      (Ok c.in-Ok.slip, (c.in-Ok.ensures.answer, ap (λ n. answer.Drawn (Ok n)) c.numbers-numbers.ensures, refl, c.push_reserved.ensures.items)),
    )

pub returns-in-Err-clause-answer : goal.returns-in-Err-clause-answer
returns-in-Err-clause-answer g c =
    let joint = c.in-Some.joint.now in
    rw c.in-Some.is (
      drawing (g.J.Joint.standing joint) (g.J.Joint.verdict joint) c.args.number (Err c.in-Err.refusal) ∷ [],
      (Err c.in-Err.refusal, (c.in-Err.ensures.answer, refl, refl, sym (append-nil (vec_items c.args.rack.now)))),
    )
