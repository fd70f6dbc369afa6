-- A hook of the rack, taken down and hung again.
use Rattle.std.proofs.Common.{◌≡◌, ℕ, ◌<◌, ◌≤◌, List, [], ◌∷◌, ◌++◌, length, set, take, drop, Result, Ok, Err, MatchResult, MutBor, sym, refl, ap, ◌∙◌, subst, inl, inr, append-nil, arith}
use Rattle.std.specs.Fn.{Once}
use Rattle.std.proofs.lemmas.List.{get_or_past, length-drop, nil_from_length, set_past, take_all}
use Rattle.std.proofs.lemmas.Bool.{cases_lt}
use Rattle.yard.specs.Slips.{DrawnSlip, TackedSlip}
use Rattle.yard.specs.declared.slips.TurnedAway.{TurnedAway}
use Rattle.yard.specs.declared.yards.Yard.{Yard}
use Rattle.yard.specs.declared.replays.Answer.{Answer}
use Rattle.yard.specs.declared.replays.Answer.TheVariants as answer
use Rattle.yard.specs.declared.replays.Hook.{Hook}
use Rattle.yard.specs.declared.replays.Hook.TheVariants.{Drawn, Tacked, Empty}
use Rattle.yard.specs.Counts.{Count, told}
use Rattle.yard.specs.Calls.{HandedBack, Pressed}
use Rattle.yard.specs.Runs.{Event, hand_back, pressing}
use Rattle.yard.specs.Replays.{HandsBack, OnHook, Presses, hung, kept, told_off}
use Rattle.yard.specs.Steps.{StepReturns}
use Rattle.yard.specs.Yards.{state}

-- what is left on a hook, by what became of its slip
pub kept_is : {S : Type 0} (hook : S → Hook) (r : Result (Unit {0}) (TurnedAway S)) (left : Hook) → MatchResult r (λ _. left ≡ Empty) (λ t. S × (left ≡ hook t.slip)) → left ≡ kept hook r
kept_is hook (Ok u) left e = e
kept_is hook (Err t) left e = e.1

pub hands_back : (stamp : ℕ) (slip : DrawnSlip) (held : Hook) (before after : List Count) (r : Result (Unit {0}) (TurnedAway DrawnSlip)) (left : Hook) (a : Answer)
    → held ≡ Drawn slip → HandedBack stamp before slip r after → left ≡ kept Drawn r → a ≡ answer.HandedBack (told_off r) → (made : List Event) × HandsBack stamp held before a made left after
hands_back stamp slip held before after r left a e h stays said = rw e (hand_back slip r ∷ [], (r, (h, stays, said, refl)))

pub presses : (stamp : ℕ) (slip : TackedSlip) (held : Hook) (before after : List Count) (r : Result (Unit {0}) (TurnedAway TackedSlip)) (left : Hook) (a : Answer)
    → held ≡ Tacked slip → Pressed stamp before slip r after → left ≡ kept Tacked r → a ≡ answer.Pressed (told_off r) → (made : List Event) × Presses stamp held before a made left after
presses stamp slip held before after r left a e h stays said = rw e (pressing slip r ∷ [], (r, (h, stays, said, refl)))

-- a slice that was lent of a whole list comes back as the list
lent_back : (n : ℕ) (new old : List Hook) → length new ≡ n → length old ≡ n → take n (new ++ drop (length new) old) ≡ new
lent_back n new old e f =
    let none : drop (length new) old ≡ [] = nil_from_length (drop (length new) old) (omega (arith, length-drop (length new) old)) in
    ap (λ l. take n (new ++ l)) none ∙ ap (take n) (append-nil new) ∙ take_all n new (omega arith)

-- a step ran on what hangs on a hook of the rack, or there is no such hook
pub on_hook : {P F : Type 0} (g : Once F (MutBor (Yard P) × (Hook × Unit {0})) ((Hook × Answer) × (MutBor (Yard P) × Unit {0}))) (step : F) (Uses : ℕ → Hook → List Count → Answer → List Event → Hook → List Count → Type 0) (yard yard' : Yard P) (items rack rack' : List Hook) (i n : ℕ) (a : Answer)
    → ((counts : List Count) → Uses yard.stamp Empty counts answer.NoSlip [] Empty counts)
    → rack ≡ items → length rack' ≡ n → length items ≡ n
    → (length rack ≤ i → (a ≡ answer.NoSlip) × (yard' ≡ yard) × (rack' ≡ rack))
    → (i < length rack → (left : Hook) × StepReturns g step yard (hung rack i) (left, a) yard' × (rack' ≡ set rack i left))
    → ((y : MutBor (Yard P)) (held left : Hook) (said : Answer) (y' : MutBor (Yard P)) → g.post step (y, (held, tt)) ((left, said), (y', tt)) → (made : List Event) × Uses y.now.stamp held (told y.now.bins) said made left (told y'.now.bins))
    → (made : List Event) × OnHook (Uses yard.stamp) i (state yard items) a made (state yard' (take n (rack' ++ drop (length rack') items)))
on_hook {P} g step Uses yard yard' items rack rack' i n a empty whole len all none used gives =
    let back = lent_back n rack' items len all in
    elim (cases_lt i (length rack)) [
      | inl h ↦
          let u = used h in
          let m = gives u.1.shown (hung rack i) u.0 a u.1.left u.1.met in
          let at-first = subst (λ (y : Yard P). Uses y.stamp (hung rack i) (told y.bins) a m.0 u.0 (told u.1.left.now.bins)) u.1.shows m.1 in
          let then = subst (λ (y : Yard P). Uses yard.stamp (hung rack i) (told yard.bins) a m.0 u.0 (told y.bins)) u.1.leaves at-first in
          (m.0, (u.0, (subst (λ l. Uses yard.stamp (hung l i) (told yard.bins) a m.0 u.0 (told yard'.bins)) whole then, back ∙ u.2 ∙ ap (λ l. set l i u.0) whole)))
      | inr h ↦
          let z = none h in
          let past : length items ≤ i = omega (arith, h, ap length whole) in (
            [],
            (
              Empty,
              (
                subst (λ (c : List Count). Uses yard.stamp (hung items i) (told yard.bins) a [] Empty c) (sym (ap (λ (y : Yard P). told y.bins) z.1))
                    (subst (λ x. Uses yard.stamp (hung items i) (told yard.bins) x [] Empty (told yard.bins)) (sym z.0)
                    (subst (λ x. Uses yard.stamp x (told yard.bins) answer.NoSlip [] Empty (told yard.bins)) (sym (get_or_past items i Empty past)) (empty (told yard.bins)))),
                back ∙ z.2 ∙ whole ∙ sym (set_past items i Empty past),
              ),
            ),
          )
    ]
