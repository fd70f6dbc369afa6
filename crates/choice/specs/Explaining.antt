-- The rows that explain a choice, for any joint (its standing and its verdict) and any
-- supply (its place count and what it shows at each place).
use Rattle.std.specs.Prelude.{◌≡◌, ℕ, zero, suc, ◌+◌, ◌*◌, ◌<◌, ◌≤◌, cond, ◌⊎◌, List, [], ◌∷◌, ◌++◌, length, is_some, Some, None, Ok, Err, Option, Result, ◌≢◌}
use Rattle.std.specs.List.{AllByRecursion, Contains}
use Rattle.plates.specs.Size.{Size}
use Rattle.plates.specs.Refusals.{refusal_number}
use Rattle.plates.specs.declared.refusals.Refusal.{Refusal}
use Rattle.plates.specs.declared.refusals.Refusal.TheVariants.{BookFull}
use Rattle.plates.specs.declared.turnings.Turning.{Turning}
use Rattle.plates.specs.declared.turnings.Turning.TheVariants.{Unturned, Turned}
use Rattle.plates.specs.declared.verdicts.Verdict.{Verdict}
use Rattle.plates.specs.declared.verdicts.Verdict.TheVariants.{Passes}
use Rattle.choice.specs.declared.Choice.{Choice}
use Rattle.choice.specs.declared.book.RowBook.{RowBook}
use Rattle.choice.specs.declared.explaining.ExplainRow.{ExplainRow}
use Rattle.choice.specs.Books.{Entered, Unchanged}
use Rattle.choice.specs.Choosing.{Answered}

-- the row of the plate s, shown at place k, in the turning t
abbrev pub row_of : (Size → Turning → Verdict) → ℕ → Size → Turning → ExplainRow
row_of verdict k s t = record { place = k; turning = t; verdict = verdict s t }

-- the rows of place k: none where nothing is shown, else unturned and then turned
abbrev pub rows_at : (Size → Turning → Verdict) → ℕ → Option Size → List ExplainRow
rows_at verdict k None = []
rows_at verdict k (Some s) = row_of verdict k s Unturned ∷ row_of verdict k s Turned ∷ []

-- the rows of the first n places, in place order
abbrev pub explained : (Size → Turning → Verdict) → ℕ → (ℕ → Option Size) → List ExplainRow
explained verdict zero shows = []
explained verdict (suc n) shows = explained verdict n shows ++ rows_at verdict n (shows n)

-- how many of the first n places show a plate
abbrev pub shown : ℕ → (ℕ → Option Size) → ℕ
shown zero shows = 0
shown (suc n) shows = shown n shows + cond (is_some (shows n)) 1 0

-- a lawful joint gets the rows of all places into the book, or the book is full where it has
-- too few free rows; an unlawful one gives its refusal; a refusal leaves every row as it was
abbrev pub Explained : Result (Unit {0}) Refusal → (Size → Turning → Verdict) → ℕ → (ℕ → Option Size) → RowBook ExplainRow → RowBook ExplainRow → Result (Unit {0}) Refusal → Type 0
Explained (Err e) verdict places shows before after r = (r ≡ Err e) × Unchanged before after
Explained (Ok u) verdict places shows before after r = Entered before (explained verdict places shows) after r

-- it is refused on the joint's grounds, 1 to 4, or for the book, and on no other
abbrev pub Grounds : Result (Unit {0}) Refusal → Type 0
Grounds (Ok u) = Unit {0}
Grounds (Err e) = (refusal_number e ≤ 4) ⊎ (e ≡ BookFull)

-- a row tells the joint's verdict on the plate shown at its place, in its turning
abbrev pub Tells : (Size → Turning → Verdict) → (ℕ → Option Size) → ExplainRow → Type 0
Tells verdict shows x = (s : Size) × (shows x.place ≡ Some s) × (x.verdict ≡ verdict s x.turning)

-- by place, and at one place unturned before turned
abbrev pub Before : ExplainRow → ExplainRow → Type 0
Before x y = (x.place < y.place) ⊎ ((x.place ≡ y.place) × (x.turning ≡ Unturned) × (y.turning ≡ Turned))

abbrev pub InOrder : List ExplainRow → Type 0
InOrder [] = Unit {0}
InOrder (x ∷ xs) = AllByRecursion (Before x) xs × InOrder xs

-- a choice agrees with the rows: its candidate's row is there and passes; where nothing fits,
-- no row passes
abbrev pub Agrees : List ExplainRow → Result Choice Refusal → Type 0
Agrees rows (Ok c) = Contains rows (record { place = c.candidate.0; turning = c.candidate.1; verdict = Passes })
Agrees rows (Err e) = AllByRecursion (λ x. x.verdict ≢ Passes) rows

-- the rows give a full account of what is shown: each tells the verdict; each plate shown has
-- its row in either turning; they are in order, two for a plate; and they agree with
-- whatever choose may answer
pub record Account (verdict : Size → Turning → Verdict) (places : ℕ) (shows : ℕ → Option Size) (rows : List ExplainRow) : Type 0 where
  pub tells : AllByRecursion (Tells verdict shows) rows
  pub whole : (k : ℕ) (s : Size) (t : Turning) → shows k ≡ Some s → Contains rows (row_of verdict k s t)
  pub ordered : InOrder rows
  pub twice : length rows ≡ 2 * shown places shows
  pub agrees : (r : Result Choice Refusal) → Answered verdict places shows r → Agrees rows r

-- so do the rows of all places, for a lawful joint
abbrev pub Accounted : Result (Unit {0}) Refusal → (Size → Turning → Verdict) → ℕ → (ℕ → Option Size) → Type 0
Accounted (Err e) verdict places shows = Unit {0}
Accounted (Ok u) verdict places shows = Account verdict places shows (explained verdict places shows)
