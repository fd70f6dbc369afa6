-- A book of two free rows for each place takes the rows of all places.
use Rattle.std.proofs.Common.{◌≡◌, ℕ, zero, suc, ◌+◌, ◌*◌, ◌≤◌, Bool, true, false, cond, List, ◌++◌, length, take, drop, is_some, Ok, Err, Option, Result, sym, refl, ap, ◌∙◌, subst, arith}
use Rattle.std.proofs.lemmas.List.{take-append-le, take_all}
use Rattle.plates.specs.Size.{Size}
use Rattle.plates.specs.declared.refusals.Refusal.{Refusal}
use Rattle.plates.specs.declared.turnings.Turning.{Turning}
use Rattle.plates.specs.declared.verdicts.Verdict.{Verdict}
use Rattle.choice.specs.Books.{memory}
use Rattle.choice.specs.Explaining.{explained, shown, Accounted, Explained}
use Rattle.choice.specs.declared.book.RowBook.{RowBook}
use Rattle.choice.specs.declared.explaining.ExplainRow.{ExplainRow}
use Rattle.asking.specs.Accounts.{AllRows}

abbrev Granted : Result (Unit {0}) Refusal → Type 0
Granted (Ok u) = Unit {0}
Granted (Err r) = ⊥

one_at_most : (b : Bool) → cond b 1 0 ≤ 1
one_at_most true = omega arith
one_at_most false = omega arith

few_shown : (n : ℕ) (shows : ℕ → Option Size) → shown n shows ≤ n
few_shown zero shows = omega arith
few_shown (suc n) shows = let less = few_shown n shows in let one = one_at_most (is_some (shows n)) in omega (arith, less, one)

-- two rows for each place
pub two_each : {memory rows : List ExplainRow} {len n places : ℕ} → memory ≡ rows → length rows ≡ len → len ≡ 2 * n → n ≡ places → length memory ≡ 2 * places
two_each same long twice is = ap length same ∙ long ∙ twice ∙ ap (λ n. 2 * n) is

module _ (v : Size → Turning → Verdict) (places : ℕ) (shows : ℕ → Option Size) (before after : RowBook ExplainRow) (fresh : before.used ≡ 0) (room : length (memory before) ≡ 2 * places) where
  -- what is read back after a lawful joint is explained
  pub read_back : (st : Result (Unit {0}) Refusal) (rows : List ExplainRow) → Explained st v places shows before after (Ok tt) → rows ≡ take after.used (memory after) → AllRows st v places shows rows
  read_back (Ok u) rows h e =
      let rs = explained v places shows in
      let n : after.used ≡ length rs = omega (arith, fresh, h.1.1) in
      let written : memory after ≡ rs ++ drop (0 + length rs) (memory before) = h.1.0 ∙ ap (λ k. take k (memory before) ++ (rs ++ drop (k + length rs) (memory before))) fresh in
      (refl, e ∙ (λ i. take (n i) (written i)) ∙ take-append-le (length rs) rs _ (omega arith) ∙ take_all (length rs) rs (omega arith))
  read_back (Err r) rows h e = absurd (subst Granted h.0 tt)

  -- the book is never full, so that a refusal is the joint's
  pub joints_own : (st : Result (Unit {0}) Refusal) (r : Refusal) → Accounted st v places shows → Explained st v places shows before after (Err r) → st ≡ Err r
  joints_own (Err e) r a h = sym h.0
  joints_own (Ok u) r a h = absurd (let few = few_shown places shows in omega (arith, fresh, room, a.twice, few, h.0))
