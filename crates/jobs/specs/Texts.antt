-- A whole job text, line by line.
use Rattle.std.specs.Prelude.{◌≡◌, ℕ, ◌+◌, Bool, true, false, List, [], length, None}
use Rattle.std.specs.Str.Lines.{IsFirstLine}
use Rattle.texts.specs.Lines.{Blank, First, Taken}
use Rattle.texts.specs.Lines as of-line
use Rattle.jobs.specs.Openers.{Opens, OpensNone}
use Rattle.jobs.specs.Reading.{Said, said, Ended, Keyed, started}
use Rattle.jobs.specs.declared.openers.Block.{Block}
use Rattle.jobs.specs.declared.openers.Block.TheVariants as block
use Rattle.jobs.specs.declared.openers.Format.{Format}
use Rattle.jobs.specs.declared.reader.Open.{Open}
use Rattle.jobs.specs.declared.reader.Open.TheVariants as at
use Rattle.jobs.specs.declared.reader.Reader.{Reader}

-- between two lines: the open block, the line that opened it, whether a list or a coil has come, and the job so far
pub record State : Type 0 where
  pub block : Open
  pub opened : ℕ
  pub stocked : Bool
  pub job : Said

abbrev pub state : Reader → State
state r = record { block = r.block; opened = r.opened; stocked = r.stocked; job = said r.job }

-- before the first line
abbrev pub nothing_said : State
nothing_said = record { block = at.Nothing; opened = 0; stocked = false; job = record { cards = []; members = []; sheets = []; rows = []; coil = None; layers = [] } }

-- there is one list or coil at most
abbrev pub Stocked : Block → Bool → Bool → Type 0
Stocked block.Card before after = after ≡ before
Stocked block.Member before after = after ≡ before
Stocked block.Web before after = after ≡ before
Stocked block.Heel before after = after ≡ before
Stocked block.Splice before after = after ≡ before
Stocked block.List before after = (before ≡ false) × (after ≡ true)
Stocked block.Coil before after = (before ≡ false) × (after ≡ true)
Stocked block.Press before after = after ≡ before
Stocked block.Strike before after = after ≡ before

-- on line n the open block ends and b is opened
pub record Opened (n : ℕ) (b : Block) (s t : State) : Type 0 where
  pub ended : Ended s.block s.opened s.job t.job
  pub block : t.block ≡ started b
  pub opened : t.opened ≡ n
  pub stocked : Stocked b s.stocked t.stocked

-- a line of the word w and bs, which is read up to left, belongs to the open block
pub record Belongs (w bs left : List ℕ) (s t : State) : Type 0 where
  pub keyed : Keyed w bs left s.block t.block s.job t.job
  pub opened : t.opened ≡ s.opened
  pub stocked : t.stocked ≡ s.stocked

-- line n, which says bs: nothing, the opener of a block alone, or a word that opens none, its values and nothing more
pub data Step : Format → ℕ → List ℕ → State → State → Type 0 where
  blank : {f : Format} {n : ℕ} {bs : List ℕ} {s : State} → Blank bs → Step f n bs s s
  opener : {f : Format} {n : ℕ} {bs left : List ℕ} {b : Block} {s t : State} → Taken (Opens f) bs b left → Blank left → Opened n b s t → Step f n bs s t
  key : {f : Format} {n : ℕ} {bs w mid left : List ℕ} {s t : State}
      → First bs w mid → OpensNone f w → Belongs w mid left s t → Blank left → Step f n bs s t

-- the first n lines of the text lead here, and this much of it is left
pub data Reading : Format → List ℕ → ℕ → List ℕ → State → Type 0 where
  begun : {f : Format} {text : List ℕ} → Reading f text 0 text nothing_said
  step : {f : Format} {text left line bs next : List ℕ} {n : ℕ} {s t : State}
      → Reading f text n left s → IsFirstLine left line next → of-line.Said line bs → Step f (n + 1) bs s t → Reading f text (n + 1) next t

-- the job that all its lines say: after the last the open block ends
abbrev pub JobOf : Format → List ℕ → Said → Type 0
JobOf f text job =
    (n : ℕ) × (left : List ℕ) × (s : State) × Reading f text n left s × (length left ≡ 0) × Ended s.block s.opened s.job job
