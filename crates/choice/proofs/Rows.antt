-- How many rows the places have.
use Rattle.std.proofs.Common.{◌≡◌, ℕ, zero, suc, ◌+◌, ◌*◌, ◌<◌, ◌≤◌, cond, ◌++◌, length, map-id, is_some, Some, None, Option, refl, ap, ◌∙◌, zero-add, subst, ⊎_elim, add-one, arith}
use Rattle.std.proofs.lemmas.List.{length-append}
use Rattle.std.proofs.lemmas.Bool.{cases_lt}
use Rattle.std.specs.List.{count_by, range_with_len}
use Rattle.std.proofs.lemmas.List.FromFn.{sum_by-map-range_with_len_more}
use Rattle.plates.specs.Size.{Size}
use Rattle.plates.specs.declared.turnings.Turning.{Turning}
use Rattle.plates.specs.declared.verdicts.Verdict.{Verdict}
use Rattle.choice.specs.Explaining.{explained, rows_at, shown}

-- one more place
pub explained_more : (v : Size → Turning → Verdict) (n : ℕ) (shows : ℕ → Option Size) → explained v (n + 1) shows ≡ explained v n shows ++ rows_at v n (shows n)
explained_more v n shows = rw add-one

-- the places that show a plate, counted
pub shown_counted : (n : ℕ) (shows : ℕ → Option Size) → count_by (λ k. is_some (shows k)) (range_with_len 0 n) ≡ shown n shows
shown_counted zero shows = refl
shown_counted (suc n) shows =
    let one : ℕ → ℕ = λ k. cond (is_some (shows k)) 1 0 in
    let more = simp add-one at (simp map-id at (sum_by-map-range_with_len_more one (λ k. k) 0 n n (zero-add n))) in
    more ∙ ap (λ m. m + one n) (shown_counted n shows)

two_or_none : (v : Size → Turning → Verdict) (k : ℕ) (o : Option Size) → length (rows_at v k o) ≡ 2 * cond (is_some o) 1 0
two_or_none v k None = refl
two_or_none v k (Some s) = refl

-- two rows for each plate shown
pub length_explained : (v : Size → Turning → Verdict) (n : ℕ) (shows : ℕ → Option Size) → length (explained v n shows) ≡ 2 * shown n shows
length_explained v zero shows = refl
length_explained v (suc n) shows =
    length-append (explained v n shows) (rows_at v n (shows n)) ∙
    omega (arith, length_explained v n shows, two_or_none v n (shows n))

-- the rows through place k are among those of the first n places
pub explained_within : (v : Size → Turning → Verdict) (k n : ℕ) (shows : ℕ → Option Size) → k < n → length (explained v k shows) + length (rows_at v k (shows k)) ≤ length (explained v n shows)
explained_within v k zero shows h = absurd (omega arith)
explained_within v k (suc n) shows h =
    let more = length-append (explained v n shows) (rows_at v n (shows n)) in
    ⊎_elim (λ l. omega (arith, explained_within v k n shows l, more))
    (λ l.
    let e : n ≡ k = omega arith in
    subst (λ j. length (explained v j shows) + length (rows_at v j (shows j)) ≤ length (explained v (suc n) shows)) e (omega (arith, more)))
    (cases_lt k n)
