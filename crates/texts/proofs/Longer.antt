-- One more number of a line.
use Rattle.std.proofs.Common.{◌≡◌, ℕ, ◌+◌, ◌<◌, List, [], ◌∷◌, ◌++◌, length, take, set, refl, subst, add-one, take-suc-set}
use Rattle.texts.specs.Lines.{Numbers, Taken}
use Rattle.texts.specs.Numbers.{Whole}

last : (bs mid after ns : List ℕ) (n : ℕ) → Numbers bs ns mid → Taken Whole mid n after → Numbers bs (ns ++ n ∷ []) after
last bs mid after [] n h t = subst (λ b. (m : List ℕ) × Taken Whole b n m × (after ≡ m)) h (after, t, refl)
last bs mid after (x ∷ ns) n h t = (h.0, h.1, last h.0 mid after ns n h.2 t)

-- the next number goes into its place
pub longer : (bs mid after ns : List ℕ) (i n : ℕ) → i < length ns → Numbers bs (take i ns) mid → Taken Whole mid n after
    → Numbers bs (take (i + 1) (set ns i n)) after
longer bs mid after ns i n within h t = rw (add-one, take-suc-set) (last bs mid after (take i ns) n h t)
