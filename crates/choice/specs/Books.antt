-- What a row book holds, for rows of any one kind, and what appending to it does.
use Rattle.std.specs.Borrow.{MutBor}
use Rattle.std.specs.Prelude.{◌≡◌, ℕ, ◌+◌, ◌<◌, ◌≤◌, min, List, ◌++◌, length, take, drop, Ok, Err, Result, slice_set}
use Rattle.plates.specs.declared.refusals.Refusal.{Refusal}
use Rattle.plates.specs.declared.refusals.Refusal.TheVariants.{BookFull}
use Rattle.choice.specs.declared.book.RowBook.{RowBook}

-- all rows of the caller's memory: those in the book, then the free ones
abbrev pub memory : {R : Type 0} → RowBook R → List R
memory b = b.rows.now

-- the rows rs over xs from place n on; what stands before and after them stays
abbrev pub written : {R : Type 0} → List R → ℕ → List R → List R
written xs n rs = take n xs ++ (rs ++ drop (n + length rs) xs)

-- the two stand on one and the same memory of the caller's
abbrev pub OneMemory : {R : Type 0} → RowBook R → RowBook R → Type 0
OneMemory before after = after.rows.ghost_name ≡ before.rows.ghost_name

-- a book over the caller's rows, so many of them in it from the start, or all there are
abbrev pub Opened : {R : Type 0} → MutBor (List R) → ℕ → RowBook R → Type 0
Opened rows used b = (b.used ≡ min used (length rows.now)) × (memory b ≡ rows.now) × (b.rows.ghost_name ≡ rows.ghost_name)

-- every row is as it was, in the book or free
abbrev pub Unchanged : {R : Type 0} → RowBook R → RowBook R → Type 0
Unchanged before after = (memory after ≡ memory before) × (after.used ≡ before.used)

-- the row stands over the first free one
abbrev pub Stored : {R : Type 0} → RowBook R → R → RowBook R → Type 0
Stored before row after = (memory after ≡ slice_set (memory before) before.used row) × (after.used ≡ before.used + 1)

-- the rows rs stand in the book after those that it had, and no other row changed
abbrev pub Grown : {R : Type 0} → RowBook R → List R → RowBook R → Type 0
Grown before rs after = (memory after ≡ written (memory before) before.used rs) × (after.used ≡ before.used + length rs)

-- the book took these rows where it had room for all of them; else none, and it is full
abbrev pub Entered : {R : Type 0} → RowBook R → List R → RowBook R → Result (Unit {0}) Refusal → Type 0
Entered before rs after (Ok u) = (before.used + length rs ≤ length (memory before)) × Grown before rs after
Entered before rs after (Err e) = (length (memory before) < before.used + length rs) × (e ≡ BookFull) × Unchanged before after
