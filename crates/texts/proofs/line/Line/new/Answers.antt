use Rattle.std.proofs.Common.{ℕ, List, ◌++◌, take, drop, Some, None, sym, refl, ap, ◌∙◌, subst, inl, inr}
use lib.Utf8.{encode}
use Rattle.std.specs.Str.Pattern.{FindsChar}
use Rattle.std.proofs.lemmas.List.{take-append-drop}
use Rattle.texts.specs.Lines.{Said}
use Rattle.texts.proofs.line.Line.new.Goals as goal
use Rattle.texts.proofs.line.Line.new.Goals.{in-Some, in-None}

whole : (text : List ℕ) → FindsChar 35 text None → Said text text
whole text h = record { whole = inl refl; bare = h }

before : (text : List ℕ) (i j : ℕ) → FindsChar 35 text (Some (i, j)) → Said text (take i text)
unfolding encode
before text i j h =
    record { whole = inr (drop j text, sym (take-append-drop i text) ∙ ap (λ l. take i text ++ l) h.1.split); bare = h.0 }

pub returns : goal.returns
returns c =
    let text = c.args.text.now in
    let cut : Said text c.match-split_once.said.now =
    elim c.match-split_once.branch [
      | in-Some w ↦
          let at = w.in-Some.ensures.cases in
          subst (Said text) (sym at.3 ∙ sym (ap (λ s. s.now) w.said-is)) (before text at.0 at.1 at.2)
      | in-None w ↦ subst (Said text) (sym (ap (λ s. s.now) w.said-is)) (whole text w.in-None.ensures.cases)
    ]
    in
    record { number = refl {a = c.args.number}; said = subst (Said text) (sym c.split_whitespace.ensures.rest) cut }
