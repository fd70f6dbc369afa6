use Rattle.std.proofs.Common.{◌≡◌, set, ap, ◌∙◌, refl}
use Rattle.std.proofs.lemmas.List.{get_or_default, set-set}
use Rattle.yard.specs.declared.replays.Hook.TheVariants.{Empty}
use Rattle.yard.specs.Replays.{hung}
use Rattle.yard.proofs.replays.use_slip.Goals as goal

pub returns-clause-used : goal.returns-clause-used
returns-clause-used g c = λ h.
    let rack = c.args.rack.now in
    let held : c.replace-held.result ≡ hung rack c.args.hook = c.replace-held.ensures.value ∙ get_or_default rack c.args.hook _ Empty h in
    let put : set (set rack c.args.hook c.replace-held.new.dest) c.args.hook c.replace.new.dest ≡ set rack c.args.hook c.step-left.result.0 =
    set-set rack c.args.hook _ _ ∙ ap (set rack c.args.hook) c.replace.ensures.after
    in
    (c.step-left.result.0, record { shown = _; shows = refl; left = _; met = rw held at c.step-left.ensures; leaves = refl }, put)
