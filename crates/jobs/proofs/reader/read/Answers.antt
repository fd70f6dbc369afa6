use Rattle.std.proofs.Common.{◌+◌, sym, ap, ◌∙◌, subst, rules}
use Rattle.std.specs.Str.Iter.{lines_rest}
use Rattle.texts.specs.Lines.{rest}
use Rattle.jobs.specs.Reading.{said}
use Rattle.jobs.proofs.Fits.{job_fits}
use Rattle.jobs.specs.Texts.{JobOf, Reading, Step, begun, step, state}
use Rattle.jobs.proofs.reader.read.Goals as goal

pub loop-index-init : goal.loop-index-init
loop-index-init c =
    let read = Reading c.args.format c.args.text.now in
    let same = c.into_iter-index-iterator.ensures.into_iter_gives in
    let left = ap (λ i. lines_rest i.iter) same ∙ ap lines_rest c.enumerate-index-items.ensures.source ∙ c.lines.ensures.rest in
    let none = ap (λ i. i.count) same ∙ c.enumerate-index-items.ensures.count in
    subst (λ n. read n (lines_rest c.into_iter-index-iterator.result.iter) (state c.new-reader.result)) (sym none)
    (subst (λ w. read 0 w (state c.new-reader.result)) (sym left) (subst (read 0 c.args.text.now) (sym c.new-reader.ensures) begun))

pub loop-index-preserved : goal.loop-index-preserved
loop-index-preserved c =
    let from = c.loop-index in
    let turn = c.in-Some.ensures.steps in
    let said = rest c.new.result in
    let one : Step c.args.format (from.index-iterator.count + 1) said (state from.reader) (state c.take.new.self) =
    subst (λ n. Step c.args.format n said (state from.reader) (state c.take.new.self)) (c.new.ensures.number ∙ ap (λ n. n + 1) turn.1) c.in_ok-take.ensures
    in
    subst (λ n. Reading c.args.format c.args.text.now n (lines_rest c.next.new.self.iter) (state c.take.new.self)) (sym turn.2)
    (step from.invariant turn.0.0.2 c.new.ensures.said one)

pub returns-clause-fits : goal.returns-clause-fits
returns-clause-fits c =
    let read : JobOf c.args.format c.args.text.now (said c.close.new.self.job) = search rules in
    job_fits c.args.format c.args.text.now (said c.close.new.self.job) read
