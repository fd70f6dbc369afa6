-- The rows of all places give a full account of what is shown.
use Rattle.std.proofs.Common.{◌≡◌, ℕ, zero, suc, ◌<◌, ◌≤◌, List, [], ◌∷◌, ◌++◌, Some, None, Ok, Err, Option, Result, sym, refl, ◌∙◌, subst, inl, inr, ⊎_elim, arith}
use Rattle.std.proofs.lemmas.Bool.{cases_lt}
use Rattle.std.proofs.lemmas.List.Elements.{All-append, All-from_recursion, All-weaker, Contains-append_left, Contains-append_right, recursion_from_All}
use Rattle.std.specs.List.{AllByRecursion, Contains}
use Rattle.plates.specs.Size.{Size}
use Rattle.plates.specs.declared.refusals.Refusal.{Refusal}
use Rattle.plates.specs.declared.turnings.Turning.{Turning}
use Rattle.plates.specs.declared.turnings.Turning.TheVariants.{Unturned, Turned}
use Rattle.plates.specs.declared.verdicts.Verdict.{Verdict}
use Rattle.plates.specs.declared.verdicts.Verdict.TheVariants.{Passes}
use Rattle.choice.specs.declared.Choice.{Choice}
use Rattle.choice.specs.declared.explaining.ExplainRow.{ExplainRow}
use Rattle.choice.specs.Choosing.{Answered}
use Rattle.choice.specs.Explaining.{explained, row_of, rows_at, Account, Agrees, Before, InOrder, Tells}
use Rattle.choice.proofs.Rows.{length_explained}

-- what holds of each in xs and of each in ys holds of each in xs ++ ys
all_append : {X : Type 0} (P : X → Type 0) (xs ys : List X) → AllByRecursion P xs → AllByRecursion P ys → AllByRecursion P (xs ++ ys)
all_append P xs ys h k = recursion_from_All P (xs ++ ys) (All-append P xs ys (All-from_recursion P xs h) (All-from_recursion P ys k))

-- what holds of the rows of each of the first n places holds of all their rows
each_row : (P : ExplainRow → Type 0) (v : Size → Turning → Verdict) (n : ℕ) (shows : ℕ → Option Size) → ((k : ℕ) (s : Size) (t : Turning) → k < n → shows k ≡ Some s → P (row_of v k s t)) → AllByRecursion P (explained v n shows)
each_row P v zero shows h = tt
each_row P v (suc n) shows h =
    all_append P (explained v n shows) (rows_at v n (shows n)) (each_row P v n shows (λ k s t l e. h k s t (omega arith) e))
    (here (shows n) refl)
  where
    here : (o : Option Size) → shows n ≡ o → AllByRecursion P (rows_at v n o)
    here None e = tt
    here (Some s) e = (h n s Unturned (omega arith) e, (h n s Turned (omega arith) e, tt))

has_turning : (v : Size → Turning → Verdict) (k : ℕ) (s : Size) (t : Turning) → Contains (rows_at v k (Some s)) (row_of v k s t)
has_turning v k s Unturned = (0, omega arith, refl)
has_turning v k s Turned = (1, omega arith, refl)

has_row : (v : Size → Turning → Verdict) (n : ℕ) (shows : ℕ → Option Size) (k : ℕ) (s : Size) (t : Turning) → k < n → shows k ≡ Some s → Contains (explained v n shows) (row_of v k s t)
has_row v zero shows k s t h e = absurd (omega arith)
has_row v (suc n) shows k s t h e =
    ⊎_elim (λ l. Contains-append_left (explained v n shows) (rows_at v n (shows n)) (row_of v k s t) (has_row v n shows k s t l e))
    (λ l.
    let i : k ≡ n = omega arith in
    Contains-append_right (explained v n shows) (rows_at v n (shows n)) (row_of v k s t)
    (subst (λ j. Contains (rows_at v j (shows j)) (row_of v k s t)) i
    (subst (λ o. Contains (rows_at v k o) (row_of v k s t)) (sym e) (has_turning v k s t))))
    (cases_lt k n)

ordered_append : (xs ys : List ExplainRow) → InOrder xs → InOrder ys → AllByRecursion (λ x. AllByRecursion (Before x) ys) xs → InOrder (xs ++ ys)
ordered_append [] ys o p a = p
ordered_append (x ∷ xs) ys o p a = (all_append (Before x) xs ys o.0 a.0, ordered_append xs ys o.1 p a.1)

ordered_at : (v : Size → Turning → Verdict) (k : ℕ) (o : Option Size) → InOrder (rows_at v k o)
ordered_at v k None = tt
ordered_at v k (Some s) = ((inr (refl, refl, refl), tt), (tt, tt))

-- a row of a lower place goes before those of place k
before_at : (v : Size → Turning → Verdict) (k : ℕ) (o : Option Size) (x : ExplainRow) → x.place < k → AllByRecursion (Before x) (rows_at v k o)
before_at v k None x l = tt
before_at v k (Some s) x l = (inl l, (inl l, tt))

in_order : (v : Size → Turning → Verdict) (n : ℕ) (shows : ℕ → Option Size) → InOrder (explained v n shows)
in_order v zero shows = tt
in_order v (suc n) shows =
    ordered_append (explained v n shows) (rows_at v n (shows n)) (in_order v n shows) (ordered_at v n (shows n))
    (each_row (λ x. AllByRecursion (Before x) (rows_at v n (shows n))) v n shows (λ k s t l e. before_at v n (shows n) (row_of v k s t) l))

pub account : (v : Size → Turning → Verdict) (n : ℕ) (shows : ℕ → Option Size) → ((k : ℕ) → n ≤ k → shows k ≡ None) → Account v n shows (explained v n shows)
account v n shows beyond = record { tells = tells; whole = whole; ordered = in_order v n shows; twice = length_explained v n shows; agrees = agrees }
  where
    tells : AllByRecursion (Tells v shows) (explained v n shows)
    tells = each_row (Tells v shows) v n shows (λ k s t l e. (s, e, refl))

    whole : (k : ℕ) (s : Size) (t : Turning) → shows k ≡ Some s → Contains (explained v n shows) (row_of v k s t)
    whole k s t e =
        ⊎_elim (λ l. has_row v n shows k s t l e) (λ l. let none = beyond k l in cc) (cases_lt k n)

    agrees : (r : Result Choice Refusal) → Answered v n shows r → Agrees (explained v n shows) r
    agrees (Ok c) a =
        let f = a.0.fits in
        subst (λ w. Contains (explained v n shows) (record { place = c.candidate.0; turning = c.candidate.1; verdict = w })) f.1
        (whole c.candidate.0 a.0.plate c.candidate.1 f.0)
    agrees (Err e) a =
        recursion_from_All (λ x. x.verdict ≡ Passes → ⊥) (explained v n shows)
        (All-weaker (Tells v shows) (λ x. x.verdict ≡ Passes → ⊥)
        (λ x w p. a.1 x.place x.turning w.0 (w.1, sym w.2 ∙ p))
        (explained v n shows) (All-from_recursion (Tells v shows) (explained v n shows) tells))
