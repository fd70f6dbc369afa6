-- A whole journal, line by line.
use Rattle.std.specs.Prelude.{◌≡◌, ℕ, ◌+◌, List, [], ◌∷◌, ◌++◌, length}
use Rattle.std.specs.Str.Lines.{IsFirstLine}
use Rattle.texts.specs.Lines.{Blank, Said}
use Rattle.yard.specs.declared.replays.Call.{Call}
use Rattle.journals.specs.declared.reader.Entry.{Entry}
use Rattle.journals.specs.Says.{Says}

-- the first n lines of the text make these entries, and this much of it is left: a line that is
-- blank makes none, another makes the one of its call and its number
pub data Reading : List ℕ → ℕ → List ℕ → List Entry → Type 0 where
  begun : {text : List ℕ} → Reading text 0 text []
  blank : {text : List ℕ} {n : ℕ} {left line said next : List ℕ} {es : List Entry}
      → Reading text n left es → IsFirstLine left line next → Said line said → Blank said → Reading text (n + 1) next es
  entry : {text : List ℕ} {n : ℕ} {left line said next : List ℕ} {es : List Entry} {c : Call}
      → Reading text n left es → IsFirstLine left line next → Said line said → Says said c → Reading text (n + 1) next (es ++ record { line = n + 1; call = c } ∷ [])

-- the entries of all its lines
abbrev pub Journal : List ℕ → List Entry → Type 0
Journal text es = (n : ℕ) × (left : List ℕ) × Reading text n left es × (length left ≡ 0)
