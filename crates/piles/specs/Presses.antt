-- The block `press`: its keys, its draft and the press limit that a whole draft gives.
use Rattle.std.specs.Prelude.{◌≡◌, ℕ, Bool, List, is_some, None, Ok, codes, Result, ◌≢◌}
use Rattle.supplies.specs.declared.layered.Layer.{Layer}
use Rattle.supplies.specs.declared.layered.Layer.TheVariants.{Press}
use Rattle.texts.specs.Drafts.{given, Filled}
use Rattle.texts.specs.Lines.{Taken}
use Rattle.texts.specs.Numbers.{Whole}
use Rattle.piles.specs.declared.presses.PressDraft.{PressDraft}
use Rattle.piles.specs.declared.presses.PressKey.{PressKey}
use Rattle.piles.specs.declared.presses.PressKey.TheVariants.{Width, Length}

abbrev pub press_key_word : PressKey → List ℕ
press_key_word Width = codes "width"
press_key_word Length = codes "length"

-- the draft has a value for the key
abbrev pub press_has : PressKey → PressDraft → Bool
press_has Width d = is_some d.width
press_has Length d = is_some d.length

-- no key has come
abbrev pub empty_press : PressDraft
empty_press = record { width = None; length = None }

-- every key but this one is as it was
pub record PressKept (key : PressKey) (before after : PressDraft) : Type 0 where
  pub width : (key ≢ Width) → after.width ≡ before.width
  pub length : (key ≢ Length) → after.length ≡ before.length

-- the key's value is what the first words of bs say
abbrev pub PressTakes : PressKey → List ℕ → PressDraft → List ℕ → Type 0
PressTakes Width bs d after = Filled d.width (λ n. Taken Whole bs n after)
PressTakes Length bs d after = Filled d.length (λ n. Taken Whole bs n after)

-- the press limit of the draft, or the first key that it lacks
abbrev pub press_of : PressDraft → Result Layer PressKey
press_of d = given d.width Width (λ width. given d.length Length (λ length. Ok (Press width length)))
