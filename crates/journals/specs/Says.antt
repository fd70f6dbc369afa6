-- What a line of a journal says.
use Rattle.std.specs.Prelude.{ℕ, ◌+◌, List, [], ◌∷◌, Some, Option, MatchOption}
use Rattle.texts.specs.Lines.{Blank, Numbers, Taken}
use Rattle.texts.specs.Numbers.{Whole}
use Rattle.texts.specs.Words.{Named}
use Rattle.yard.specs.declared.replays.Call.{Call}
use Rattle.yard.specs.declared.replays.Call.TheVariants.{Receive, Draw, Tack, HandBack, Press, Void, Tell}
use Rattle.journals.specs.declared.ordinals.Ordinal.{Ordinal}
use Rattle.journals.specs.declared.verbs.Verb.{Verb}
use Rattle.journals.specs.declared.verbs.Verb.TheVariants as verb
use Rattle.journals.specs.Verbs.{verb_word}

-- w writes a number from 1, which counts what has the index before it
abbrev pub Counted : List ℕ → Option Ordinal → Type 0
Counted w r = MatchOption r ((i : ℕ) → Whole w (Some (i + 1)) → ⊥) (λ o. Whole w (Some (o.index + 1)))

-- the verb that a call is written with
abbrev pub verb_of : Call → Verb
verb_of (Receive place pairs) = verb.Receive
verb_of (Draw joint number) = verb.Draw
verb_of (Tack slip) = verb.Tack
verb_of (HandBack slip) = verb.Back
verb_of (Press slip) = verb.Press
verb_of (Void slip) = verb.Void
verb_of (Tell place) = verb.Tell

-- the numbers after it: joints and slips are counted from 1
abbrev pub numbers_of : Call → List ℕ
numbers_of (Receive place pairs) = place ∷ pairs ∷ []
numbers_of (Draw joint number) = (joint + 1) ∷ number ∷ []
numbers_of (Tack slip) = (slip + 1) ∷ []
numbers_of (HandBack slip) = (slip + 1) ∷ []
numbers_of (Press slip) = (slip + 1) ∷ []
numbers_of (Void slip) = (slip + 1) ∷ []
numbers_of (Tell place) = place ∷ []

-- the line bs is the call's verb and its numbers, and nothing more
pub record Says (bs : List ℕ) (c : Call) : Type 0 where
  pub numbers : List ℕ
  pub after : List ℕ
  pub verb : Taken (Named verb_word) bs (verb_of c) numbers
  pub given : Numbers numbers (numbers_of c) after
  pub over : Blank after
