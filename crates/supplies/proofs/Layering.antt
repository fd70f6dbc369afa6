-- Layers one by one.
use Rattle.std.proofs.Common.{◌≡◌, ℕ, Bool, true, false, cond, ◌||◌, List, [], ◌∷◌, ◌++◌, Some, None, Option, sym, refl, ◌∙◌}
use Rattle.std.proofs.Math.Bool.{or-false}
use Rattle.std.proofs.lemmas.List.Folds.{list_any-append}
use Rattle.plates.specs.Size.{Size}
use Rattle.supplies.specs.Hiding.{unless}
use Rattle.supplies.specs.Layers.{hidden, hides, layered_shows, layer_shows, LayerLaws}
use Rattle.supplies.specs.declared.layered.Layer.{Layer}
use Rattle.supplies.specs.declared.layered.Layer.TheVariants.{Press, Strike}
use Rattle.supplies.proofs.Hiding.{unless_exist}

-- one layer by itself
alone : (l : Layer) (shows : ℕ → Option Size) (k : ℕ) → layer_shows l shows k ≡ unless (hides l k) (shows k)
alone (Press width length) shows k = refl
alone (Strike struck) shows k = refl

over : (layers : List Layer) (l : Layer) (k : ℕ) (o : Option Size) → unless (hidden (layers ++ l ∷ []) k) o ≡ unless (hides l k) (unless (hidden layers k) o)
over layers l k None = refl
over layers l k (Some s) = rw (list_any-append, or-false) (both (hidden layers k s))
  where
    both : (a : Bool) → cond (a || hides l k s) None (Some s) ≡ unless (hides l k) (cond a None (Some s))
    both true = refl
    both false = refl

none : (k : ℕ) (o : Option Size) → unless (hidden [] k) o ≡ o
none k None = refl
none k (Some s) = refl

pub layer_laws : (layers : List Layer) → LayerLaws layers
layer_laws layers =
    record {
      over = λ l shows k. over layers l k (shows k) ∙ sym (alone l (layered_shows layers shows) k);
      none = λ shows k. none k (shows k);
      exist = λ shows all k. unless_exist (hidden layers k) (shows k) (all k);
    }
