-- The sheets of a job, one by one.
use Rattle.std.proofs.Common.{◌≡◌, ℕ, ◌+◌, ◌<◌, ◌≤◌, List, [], ◌∷◌, ◌++◌, length, get_or, take, None, sym, ap, ◌∙◌, subst}
use Rattle.std.proofs.lemmas.List.{take_more, take_all}
use Rattle.std.proofs.lemmas.List.Elements.{Contains-get_or}
use Rattle.std.specs.List.{AllZip, Contains}
use Rattle.jobs.specs.declared.reader.Entry.{Entry}
use Rattle.texts.specs.Faults.{at_line}
use Rattle.texts.specs.declared.faults.Fault.{Fault}
use Rattle.texts.specs.declared.faults.Fault.TheVariants.{Format, Memory}
use Rattle.asking.specs.Verdicts.{Untried}

module _ {R : Type 0} (P : Entry → R → Type 0) where
  -- one more sheet and what goes with it
  one_more : (es : List Entry) (rs : List R) {e : Entry} {r : R} → AllZip P es rs → P e r → AllZip P (es ++ e ∷ []) (rs ++ r ∷ [])
  one_more [] [] h a = (a, tt)
  one_more [] (r ∷ rs) h a = absurd h
  one_more (e ∷ es) [] h a = absurd h
  one_more (e ∷ es) (r ∷ rs) h a = (h.0, one_more es rs h.1 a)

  -- the sheets up to and with the one at i
  pub each_more : (sheets items : List Entry) (i : ℕ) (e : Entry) (rs more : List R) {r : R} → items ≡ sheets → i < length items → e ≡ get_or items i e → AllZip P (take i sheets) rs → P e r → more ≡ rs ++ r ∷ [] → AllZip P (take (i + 1) sheets) more
  each_more sheets items i e rs more same h is done asked on =
      let grown : take (i + 1) sheets ≡ take i sheets ++ e ∷ [] =
      ap (take (i + 1)) (sym same) ∙ take_more items i e h ∙ (λ j. take i (same j) ++ sym is j ∷ [])
      in
      subst (λ es. AllZip P es more) (sym grown) (subst (AllZip P (take i sheets ++ e ∷ [])) (sym on) (one_more (take i sheets) rs done asked))

  -- all of them
  pub each_all : (sheets items : List Entry) (i : ℕ) (rs : List R) → items ≡ sheets → length items ≤ i → AllZip P (take i sheets) rs → AllZip P sheets rs
  each_all sheets items i rs same h done = subst (λ es. AllZip P es rs) (take_all i sheets (subst (λ es. length es ≤ i) same h)) done

-- the fault of a sheet at i that names no plate
pub untried_at : (sheets items : List Entry) (i : ℕ) (e : Entry) (f : Fault) → items ≡ sheets → i < length items → e ≡ get_or items i e → e.tried ≡ None → at_line f ≡ e.line → Untried sheets f
untried_at sheets items i e (Format line m) same h is none at = (e, subst (λ es. Contains es e) same (subst (Contains items) (sym is) (Contains-get_or items i e h)), none, at)
untried_at sheets items i e Memory same h is none at = tt
