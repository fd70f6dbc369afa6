-- The block `strike`: its key, its draft and the strike list that a whole draft gives.
use Rattle.std.specs.Prelude.{ℕ, Bool, List, is_some, None, Ok, codes, Result}
use Rattle.supplies.specs.declared.layered.Layer.{Layer}
use Rattle.supplies.specs.declared.layered.Layer.TheVariants.{Strike}
use Rattle.supplies.specs.Few.{few}
use Rattle.texts.specs.Drafts.{given, Filled}
use Rattle.texts.specs.Lines.{UpTo}
use Rattle.piles.specs.declared.strikes.StrikeDraft.{StrikeDraft}
use Rattle.piles.specs.declared.strikes.StrikeKey.{StrikeKey}
use Rattle.piles.specs.declared.strikes.StrikeKey.TheVariants.{Places}

abbrev pub strike_key_word : StrikeKey → List ℕ
strike_key_word Places = codes "places"

-- the draft has a value for the key
abbrev pub strike_has : StrikeKey → StrikeDraft → Bool
strike_has Places d = is_some d.places

-- no key has come
abbrev pub empty_strike : StrikeDraft
empty_strike = record { places = None }

-- there is no other key
abbrev pub StrikeKept : StrikeKey → StrikeDraft → StrikeDraft → Type 0
StrikeKept Places before after = Unit {0}

-- the key's value is what the first words of bs say
abbrev pub StrikeTakes : StrikeKey → List ℕ → StrikeDraft → List ℕ → Type 0
StrikeTakes Places bs d after = Filled d.places (λ f. UpTo 32 bs (few f) after)

-- the strike list of the draft, or the key that it lacks
abbrev pub strike_of : StrikeDraft → Result Layer StrikeKey
strike_of d = given d.places Places (λ f. Ok (Strike f))
