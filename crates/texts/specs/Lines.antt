-- A line of a text, word by word.
use Rattle.std.specs.Prelude.{◌≡◌, ℕ, ◌<◌, ◌≤◌, ◌⊎◌, List, [], ◌∷◌, ◌++◌, length, Some, Option, nat_eq}
use Rattle.std.specs.Str.Iter.{split_whitespace_rest}
use Rattle.std.specs.Char.{is_whitespace, is_not_whitespace}
use Rattle.std.specs.Str.{NoCharPasses, EmptyOrStartsWithPassing}
use Rattle.texts.specs.declared.line.Line.{Line}
use Rattle.texts.specs.Numbers.{Whole}

-- what is left of the line
abbrev pub rest : Line → List ℕ
rest l = split_whitespace_rest l.words

-- said is the line text, or what stands in it before its first '#'
pub record Said (text said : List ℕ) : Type 0 where
  pub whole : (said ≡ text) ⊎ ((comment : List ℕ) × (text ≡ said ++ (35 ∷ comment)))
  pub bare : NoCharPasses (λ c. nat_eq c 35) said

-- no word is left
abbrev pub Blank : List ℕ → Type 0
Blank bs = NoCharPasses is_not_whitespace bs

-- bs is white space, the word w, and after, which is empty or begins with white space
pub record First (bs w after : List ℕ) : Type 0 where
  pub gap : List ℕ
  pub cut : bs ≡ gap ++ (w ++ after)
  pub some : 0 < length w
  pub blank : NoCharPasses is_not_whitespace gap
  pub solid : NoCharPasses is_whitespace w
  pub ends : (more : List ℕ) × EmptyOrStartsWithPassing is_whitespace after more

-- the first word of bs stands for v
abbrev pub Taken : {X : Type 0} → (List ℕ → Option X → Type 0) → List ℕ → X → List ℕ → Type 0
Taken reads bs v after = (w : List ℕ) × First bs w after × reads w (Some v)

-- the first words of bs stand for these values
abbrev pub Each : {X : Type 0} → (List ℕ → Option X → Type 0) → List ℕ → List X → List ℕ → Type 0
Each reads bs [] after = after ≡ bs
Each reads bs (x ∷ xs) after = (mid : List ℕ) × Taken reads bs x mid × Each reads mid xs after

-- the first words of bs are these numbers
abbrev pub Numbers : List ℕ → List ℕ → List ℕ → Type 0
Numbers bs ns after = Each Whole bs ns after

-- the first n words of bs are these numbers
abbrev pub These : ℕ → List ℕ → List ℕ → List ℕ → Type 0
These n bs ns after = Numbers bs ns after × (length ns ≡ n)

-- the first words of bs are these numbers: as many as there are, n at most
abbrev pub UpTo : ℕ → List ℕ → List ℕ → List ℕ → Type 0
UpTo n bs ns after = Numbers bs ns after × (length ns ≤ n) × (length ns < n → Blank after)
