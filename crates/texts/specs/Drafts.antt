-- Drafts: a key's value, or the key where the value is lacking.
use Rattle.std.specs.Prelude.{Some, None, Ok, Err, Option, Result}

abbrev pub given : {X Y K : Type 0} → Option X → K → (X → Result Y K) → Result Y K
given (Some x) key rest = rest x
given None key rest = Err key

-- the value of a draft within a draft, or the key that it lacks there
abbrev pub within : {X Y J K : Type 0} → (J → K) → Result X J → (X → Result Y K) → Result Y K
within outer (Ok x) rest = rest x
within outer (Err key) rest = Err (outer key)

-- the key has a value, of which P says what it is
abbrev pub Filled : {X : Type 0} → Option X → (X → Type 0) → Type 0
Filled (Some x) P = P x
Filled None P = ⊥
