use Rattle.std.proofs.Common.{◌≡◌, ℕ, ◌+◌, List, [], ◌∷◌, ◌++◌, Some, None, vec_items, Option, sym, refl, ap, ◌∙◌, subst, MatchOption}
use Rattle.std.specs.Str.Iter.{lines_rest}
use Rattle.texts.specs.Lines.{Blank, rest}
use Rattle.yard.specs.declared.replays.Call.{Call}
use Rattle.journals.specs.Says.{Says}
use Rattle.journals.specs.Reading.{Reading, begun, blank, entry}
use Rattle.journals.proofs.reader.read.Goals as goal

none_said : (said : List ℕ) (o : Option Call) → ((c : Call) → o ≡ Some c → ⊥) → MatchOption o (Blank said) (λ c. Says said c) → Blank said
none_said said (Some c) none h = absurd (none c refl)
none_said said None none h = h

pub loop-index-init : goal.loop-index-init
loop-index-init c =
    let read = Reading c.args.text.now in
    let same = c.into_iter-index-iterator.ensures.into_iter_gives in
    let left = ap (λ i. lines_rest i.iter) same ∙ ap lines_rest c.enumerate-index-items.ensures.source ∙ c.lines.ensures.rest in
    let none = ap (λ i. i.count) same ∙ c.enumerate-index-items.ensures.count in
    subst (λ n. read n (lines_rest c.into_iter-index-iterator.result.iter) (vec_items c.new-entries.result)) (sym none)
    (subst (λ w. read 0 w (vec_items c.new-entries.result)) (sym left) (subst (read 0 c.args.text.now) (sym c.new-entries.ensures.items) begun))

pub loop-index-preserved-in-Continue-branch-3 : goal.loop-index-preserved-in-Continue-branch-3
loop-index-preserved-in-Continue-branch-3 c =
    let turn = c.in-Some.ensures.steps in
    let said = rest c.new.result in
    let call = c.in-Some-2.call in
    let says : Says said call = subst (λ o. MatchOption o (Blank said) (λ k. Says said k)) c.in-Some-2.is c.in_ok-call.ensures in
    let made = λ (k n : ℕ). Reading c.args.text.now k (lines_rest c.next.new.self.iter) (vec_items c.loop-index.entries ++ record { line = n + 1; call = call } ∷ []) in
    let read = entry c.loop-index.invariant turn.0.0.2 c.new.ensures.said says in
    subst (Reading c.args.text.now c.next.new.self.count (lines_rest c.next.new.self.iter)) (sym c.in_ok-push.ensures.items)
    (subst (made c.next.new.self.count) (sym turn.1) (subst (λ k. made k c.loop-index.index-iterator.count) (sym turn.2) read))

pub loop-index-preserved : goal.loop-index-preserved
loop-index-preserved c =
    let turn = c.in-Some.ensures.steps in
    let none : Blank (rest c.new.result) = none_said (rest c.new.result) c.in_ok-call.field-0 c.in_default.not-Some c.in_ok-call.ensures in
    subst (λ k. Reading c.args.text.now k (lines_rest c.next.new.self.iter) (vec_items c.loop-index.entries)) (sym turn.2)
    (blank c.loop-index.invariant turn.0.0.2 c.new.ensures.said none)
