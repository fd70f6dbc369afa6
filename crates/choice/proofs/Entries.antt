-- Room for the rows of all places.
use Rattle.std.proofs.Common.{◌≡◌, ℕ, ◌+◌, ◌-◌, ◌*◌, ◌<◌, ◌≤◌, true, false, leb, length, is_some, Option, sym, arith}
use Rattle.std.proofs.lemmas.Bool.{leb-true, leb-false}
use Rattle.std.specs.List.{count_by, range_with_len}
use Rattle.plates.specs.Size.{Size}
use Rattle.plates.specs.declared.turnings.Turning.{Turning}
use Rattle.plates.specs.declared.verdicts.Verdict.{Verdict}
use Rattle.choice.specs.declared.book.RowBook.{RowBook}
use Rattle.choice.specs.declared.explaining.ExplainRow.{ExplainRow}
use Rattle.choice.specs.Books.{memory}
use Rattle.choice.specs.Explaining.{explained}
use Rattle.choice.proofs.Rows.{length_explained, shown_counted}

-- two free rows for each plate shown are enough, and fewer are too few
pub enough : (v : Size → Turning → Verdict) (n : ℕ) (shows : ℕ → Option Size) (a : RowBook ExplainRow) {free plates : ℕ} → free ≡ length (memory a) - a.used → plates ≡ count_by (λ k. is_some (shows k)) (range_with_len 0 n) → true ≡ leb (2 * plates) free → a.used + length (explained v n shows) ≤ length (memory a)
enough v n shows a {free = free} {plates = plates} f p t =
    omega (arith, a.within, leb-true (2 * plates) free (sym t), length_explained v n shows, shown_counted n shows)

pub too_few : (v : Size → Turning → Verdict) (n : ℕ) (shows : ℕ → Option Size) (a : RowBook ExplainRow) {free plates : ℕ} → free ≡ length (memory a) - a.used → plates ≡ count_by (λ k. is_some (shows k)) (range_with_len 0 n) → false ≡ leb (2 * plates) free → length (memory a) < a.used + length (explained v n shows)
too_few v n shows a {free = free} {plates = plates} f p t =
    omega (arith, leb-false (2 * plates) free (sym t), length_explained v n shows, shown_counted n shows)
