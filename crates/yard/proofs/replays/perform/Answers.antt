use Rattle.std.proofs.Common.{◌≡◌, [], ◌∷◌, refl, rules, arith}
use Rattle.std.specs.List.{slice_get}
use Rattle.std.specs.Option.{option_copied}
use Rattle.std.proofs.lemmas.Option.{gets, slice_get-map}
use Rattle.yard.specs.Replays.{HandsBack, Presses, Tacks, Voids}
use Rattle.yard.specs.Runs.{receipt, telling}
use Rattle.yard.proofs.Racks.{on_hook}
use Rattle.yard.proofs.replays.perform.Goals as goal

pub returns-in-Receive-clause-answer : goal.returns-in-Receive-clause-answer
returns-in-Receive-clause-answer g c =
    rw c.in-Receive.is (receipt c.in-Receive.place c.in-Receive.pairs c.receive.result ∷ [], (c.receive.result, (c.receive.ensures.answer, refl, refl, refl)))

pub returns-in-Draw-clause-answer : goal.returns-in-Draw-clause-answer
returns-in-Draw-clause-answer g c =
    let found : option_copied c.get.result ≡ slice_get c.args.joints.now c.in-Draw.joint = search (rules, gets) in
    rw (c.in-Draw.is, slice_get-map, ← found) c.draw.ensures.answer

pub returns-in-Tack-clause-answer : goal.returns-in-Tack-clause-answer
returns-in-Tack-clause-answer g c =
    let rack = c.args.rack.now in
    let used = c.use_slip.ensures in
    rw c.in-Tack.is (on_hook _ _ (λ _. Tacks) c.args.yard.now c.use_slip.new.yard rack.items c.deref_mut.result.now c.use_slip.new.rack c.in-Tack.slip rack.len c.use_slip.result
    (λ counts. (refl, refl, refl, refl)) c.deref_mut.ensures.value (omega arith) (omega (arith, rack.ok.0)) used.none used.used (λ y held left said y' m. ([], m.1.0)))

pub returns-in-HandBack-clause-answer : goal.returns-in-HandBack-clause-answer
returns-in-HandBack-clause-answer g c =
    let rack = c.args.rack.now in
    let used = c.use_slip-in-HandBack.ensures in
    rw c.in-HandBack.is (on_hook _ _ HandsBack c.args.yard.now c.use_slip-in-HandBack.new.yard rack.items c.deref_mut-in-HandBack.result.now c.use_slip-in-HandBack.new.rack c.in-HandBack.slip rack.len c.use_slip-in-HandBack.result
    (λ counts. (refl, refl, refl, refl)) c.deref_mut-in-HandBack.ensures.value (omega arith) (omega (arith, rack.ok.0)) used.none used.used (λ y held left said y' m. m.1.0))

pub returns-in-Press-clause-answer : goal.returns-in-Press-clause-answer
returns-in-Press-clause-answer g c =
    let rack = c.args.rack.now in
    let used = c.use_slip-in-Press.ensures in
    rw c.in-Press.is (on_hook _ _ Presses c.args.yard.now c.use_slip-in-Press.new.yard rack.items c.deref_mut-in-Press.result.now c.use_slip-in-Press.new.rack c.in-Press.slip rack.len c.use_slip-in-Press.result
    (λ counts. (refl, refl, refl, refl)) c.deref_mut-in-Press.ensures.value (omega arith) (omega (arith, rack.ok.0)) used.none used.used (λ y held left said y' m. m.1.0))

pub returns-in-Void-clause-answer : goal.returns-in-Void-clause-answer
returns-in-Void-clause-answer g c =
    let rack = c.args.rack.now in
    let used = c.use_slip-in-Void.ensures in
    rw c.in-Void.is (on_hook _ _ (λ _. Voids) c.args.yard.now c.use_slip-in-Void.new.yard rack.items c.deref_mut-in-Void.result.now c.use_slip-in-Void.new.rack c.in-Void.slip rack.len c.use_slip-in-Void.result
    (λ counts. (refl, refl, refl, refl)) c.deref_mut-in-Void.ensures.value (omega arith) (omega (arith, rack.ok.0)) used.none used.used (λ y held left said y' m. ([], m.1.0)))

pub returns-in-Tell-clause-answer : goal.returns-in-Tell-clause-answer
returns-in-Tell-clause-answer g c =
    rw c.in-Tell.is (telling c.in-Tell.place c.tell.result ∷ [], (c.tell.result, (c.tell.ensures, refl, refl, refl)))
