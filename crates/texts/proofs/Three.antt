-- Three numbers of a line, one by one.
use Rattle.std.proofs.Common.{◌≡◌, ℕ, List, [], ◌∷◌, length, get_or, refl, subst, arith}
use Rattle.texts.specs.Lines.{Numbers, These}

listed : (ns : List ℕ) → length ns ≡ 3 → ns ≡ get_or ns 0 0 ∷ get_or ns 1 0 ∷ get_or ns 2 0 ∷ []
listed [] h = absurd (omega arith)
listed (a ∷ []) h = absurd (omega arith)
listed (a ∷ (b ∷ [])) h = absurd (omega arith)
listed (a ∷ (b ∷ (c ∷ []))) h = refl
listed (a ∷ (b ∷ (c ∷ (d ∷ ns)))) h = absurd (omega arith)

pub three : (bs ns after : List ℕ) → These 3 bs ns after → Numbers bs (get_or ns 0 0 ∷ get_or ns 1 0 ∷ get_or ns 2 0 ∷ []) after
three bs ns after h = subst (λ l. Numbers bs l after) (listed ns h.1) h.0
