-- Rows written over a list, one after another.
use Rattle.std.proofs.Common.{◌≡◌, ℕ, ◌+◌, ◌<◌, ◌≤◌, List, [], ◌∷◌, ◌++◌, length, set, sym, refl, ap, ◌∙◌, add-zero, add_assoc, add-one, arith}
use lib.Seq.{paste}
use Rattle.std.proofs.lemmas.List.{length-append, set_split, take-append-drop}
use Rattle.std.proofs.lemmas.List.Edits.{paste_all, paste-paste, length-paste}
use Rattle.choice.specs.declared.book.RowBook.{RowBook}
use Rattle.choice.specs.Books.{memory, written, Grown, Stored}

written_none : {R : Type 0} (xs : List R) (n : ℕ) → xs ≡ written xs n []
written_none xs n = sym (rw add-zero (take-append-drop n xs))

written_one : {R : Type 0} (xs : List R) (n : ℕ) (x : R) → n < length xs → set xs n x ≡ written xs n (x ∷ [])
written_one xs n x h = set_split xs n x h ∙ rw add-one

as_paste : {R : Type 0} (xs : List R) (n : ℕ) (rs : List R) → paste xs n rs (length rs) ≡ written xs n rs
as_paste xs n rs = paste_all xs n rs (length rs) refl

written_more : {R : Type 0} (xs : List R) (n : ℕ) (rs ts : List R) → n ≤ length xs → written (written xs n rs) (n + length rs) ts ≡ written xs n (rs ++ ts)
written_more xs n rs ts h =
    sym (as_paste (written xs n rs) (n + length rs) ts) ∙
    ap (λ ys. paste ys (n + length rs) ts (length ts)) (sym (as_paste xs n rs)) ∙
    paste-paste xs n rs ts (length rs) (length ts) refl refl h ∙
    ap (λ m. paste xs n (rs ++ ts) m) (sym (length-append rs ts)) ∙
    as_paste xs n (rs ++ ts)

length_written : {R : Type 0} (xs : List R) (n : ℕ) (rs : List R) → n + length rs ≤ length xs → length (written xs n rs) ≡ length xs
length_written xs n rs h =
    ap length (sym (as_paste xs n rs)) ∙ length-paste xs n rs (length rs) h (omega arith)

-- the same of books
pub grown_none : {R : Type 0} (b : RowBook R) → Grown b [] b
grown_none b = (written_none (memory b) b.used, sym (add-zero b.used))

pub grown_one : {R : Type 0} (a b : RowBook R) (x : R) → a.used < length (memory a) → Stored a x b → Grown a (x ∷ []) b
grown_one a b x h s = (s.0 ∙ written_one (memory a) a.used x h, s.1)

pub grown_more : {R : Type 0} (a b c : RowBook R) (rs ts : List R) → Grown a rs b → Grown b ts c → Grown a (rs ++ ts) c
grown_more a b c rs ts g h = (
  h.0 ∙ ap (λ xs. written xs b.used ts) g.0 ∙ ap (λ n. written (written (memory a) a.used rs) n ts) g.1 ∙ written_more (memory a) a.used rs ts a.within,
  h.1 ∙ ap (λ n. n + length ts) g.1 ∙ add_assoc a.used (length rs) (length ts) ∙ ap (λ n. a.used + n) (sym (length-append rs ts)),
)

-- as many rows as before, where the new ones had room
pub length_grown : {R : Type 0} (a b : RowBook R) (rs : List R) → a.used + length rs ≤ length (memory a) → Grown a rs b → length (memory b) ≡ length (memory a)
length_grown a b rs h g = ap length g.0 ∙ length_written (memory a) a.used rs h
