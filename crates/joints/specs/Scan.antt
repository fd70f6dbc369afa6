-- The first item of a list that fails a test.
use Rattle.std.specs.Prelude.{◌≡◌, ℕ, ◌+◌, Bool, true, false, cond, List, [], ◌∷◌, ◌++◌, length, Some, None, Option}
use Rattle.std.specs.List.{AllByRecursion}

-- its position, counted from `start`
abbrev pub first_failing : {T : Type 0} → (T → Bool) → ℕ → List T → Option ℕ
first_failing p start [] = None
first_failing p start (x ∷ xs) = cond (p x) (first_failing p (start + 1) xs) (Some start)

-- the item at k, counted from `start`, fails, and all before it pass
pub record FirstFailing {T : Type 0} (p : T → Bool) (start : ℕ) (xs : List T) (k : ℕ) : Type 0 where
  pub before : List T
  pub item : T
  pub after : List T
  pub split : xs ≡ before ++ item ∷ after
  pub passed : AllByRecursion (λ x. p x ≡ true) before
  pub fails : p item ≡ false
  pub place : k ≡ start + length before
