use Rattle.std.proofs.Common.{◌≡◌, min, length, take, ap, ◌∙◌, arith}
use Rattle.std.proofs.lemmas.List.{take_min}
use Rattle.supplies.specs.Strikes.{listed}
use Rattle.supplies.proofs.strike.Strikes.strikes.Goals as goal

pub returns : goal.returns
returns c =
    let struck = c.args.self.now.0.now in
    let read : c.min-read.result ≡ min 32 (length struck) = omega arith in
    c.contains.ensures.value ∙ ap (λ n. listed (take n struck) c.args.place) read ∙ ap (λ l. listed l c.args.place) (take_min 32 struck)
