use Rattle.std.proofs.Common.{◌≡◌, ℕ, Bool, true, false, cond, List, [], ◌∷◌, get_or, Some, None, sym, subst, arith}
use Rattle.plates.specs.Size.{Size, size, sized, exists}
use Rattle.texts.specs.Lines.{Numbers, These, rest}
use Rattle.texts.proofs.Three.{three}
use Rattle.blocks.proofs.sheets.tried_plate.Goals as goal

-- a plate that there is has its numbers
where_some : (b : Bool) (p s : Size) → Some p ≡ cond b (Some s) None → p ≡ s
where_some true p s h = cc
where_some false p s h = absurd (let z : ◌≡◌ {A = ℕ} 0 1 = cc in omega arith)

-- so its numbers are those of the line
named : (bs ns after : List ℕ) (p : Size) → These 3 bs ns after → Some p ≡ sized (get_or ns 0 0) (get_or ns 1 0) (get_or ns 2 0)
    → Numbers bs (p.width ∷ p.length ∷ p.family ∷ []) after
named bs ns after p said h =
    let e = where_some (exists (get_or ns 0 0) (get_or ns 1 0) (get_or ns 2 0)) p (record { width = get_or ns 0 0; length = get_or ns 1 0; family = get_or ns 2 0 }) h in
    subst (λ (s : Size). Numbers bs (s.width ∷ s.length ∷ s.family ∷ []) after) (sym e) (three bs ns after said)

pub returns : goal.returns
returns c =
    let said = named (rest c.args.line.now) _ (rest c.numbers.new.self) (size c.in-Some.plate) c.in_ok-width.ensures.numbers c.in-Some.ensures in
    (rest c.numbers.new.self, said, c.in_ok-value.ensures.value)
