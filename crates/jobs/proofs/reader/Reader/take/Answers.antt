use Rattle.std.proofs.Common.{sym, subst}
use Rattle.texts.specs.Lines.{Blank, rest}
use Rattle.texts.specs.declared.line.Line.{Line}
use Rattle.jobs.specs.Texts.{Opened, Step, blank, opener, key, state}
use Rattle.jobs.proofs.reader.Reader.take.Goals as goal
use Rattle.jobs.proofs.reader.Reader.take.Goals.{in-Some-opens+in_ok-open-in-Some-opens, in-None+in_ok-key-in-None}

pub returns-in_default : goal.returns-in_default
returns-in_default c = blank c.in_default.ensures.word.0

pub returns : goal.returns
returns c =
    let from = state c.args.self.now in
    let line = c.args.line.now in
    let first = c.in-Some.ensures.word in
    let over = c.in_ok-end.ensures in
    elim c.match-opens.branch [
      | in-Some-opens+in_ok-open-in-Some-opens w ↦
          let opened = subst (λ n. Opened n w.in-Some-opens.block from (state w.«open».new.self)) c.word.ensures.number w.in_ok-open-in-Some-opens.ensures in
          let step : Step c.args.format line.number (rest line) from (state w.«open».new.self) =
          opener (c.in-Some.word.now, first, w.in-Some-opens.ensures) (subst (λ (l : Line). Blank (rest l)) w.line-is over) opened
          in
          subst (λ r. Step c.args.format line.number (rest line) from (state r)) (sym w.self-is) step
      | in-None+in_ok-key-in-None w ↦
          let step : Step c.args.format line.number (rest line) from (state w.key.new.self) =
          key first w.in-None.ensures w.in_ok-key-in-None.ensures (subst (λ (l : Line). Blank (rest l)) w.line-is over)
          in
          subst (λ r. Step c.args.format line.number (rest line) from (state r)) (sym w.self-is) step
    ]
