use Rattle.std.proofs.Common.{◌∙◌, arith}
use Rattle.std.proofs.lemmas.Result.{err_from_is_err_and}
use Rattle.asking.proofs.Accounting.{read_back, joints_own, two_each}
use Rattle.asking.proofs.accounts.account.Goals as goal

pub returns : goal.returns
returns g c =
    read_back (g.J.Joint.verdict c.args.joint.now) (g.S.Supply.places c.args.supply.now) (g.S.Supply.shows c.args.supply.now) c.new-book.result c.explain.new.book
    (omega (arith, c.new-book.ensures.0))
    (two_each c.new-book.ensures.1 c.as_mut_slice.ensures.len c.in_ok-memory.ensures.len c.places.ensures.value)
    (g.J.Joint.standing c.args.joint.now) _ c.in_ok-explain.ensures.rows (c.in_ok-from_slice.ensures.items ∙ c.rows.ensures)

pub returns-in_err-explain : goal.returns-in_err-explain
returns-in_err-explain g c =
    let p = err_from_is_err_and c.from_residual-in_err-explain.result c.from_residual-in_err-explain.ensures.1 in
    rw (p.1, p.2)
    (joints_own (g.J.Joint.verdict c.args.joint.now) (g.S.Supply.places c.args.supply.now) (g.S.Supply.shows c.args.supply.now) c.new-book.result c.explain.new.book
    (omega (arith, c.new-book.ensures.0))
    (two_each c.new-book.ensures.1 c.as_mut_slice.ensures.len c.in_ok-memory.ensures.len c.places.ensures.value)
    (g.J.Joint.standing c.args.joint.now) _ c.in_err-explain.ensures.account c.in_err-explain.ensures.rows)
