-- What shows through layers that are written down as a list.
use Rattle.std.specs.Prelude.{ℕ, Bool, List, [], ◌∷◌, ◌++◌, Option}
use Rattle.std.specs.List.{list_any}
use Rattle.plates.specs.Size.{Size}
use Rattle.supplies.specs.Few.{few}
use Rattle.supplies.specs.Hiding.{unless, unhidden}
use Rattle.supplies.specs.Limits.{limit_hides, limit_shows}
use Rattle.supplies.specs.Shown.{AllExist, Same}
use Rattle.supplies.specs.Strikes.{strike_hides, strike_shows}
use Rattle.supplies.specs.declared.few.Few.{Few}
use Rattle.supplies.specs.declared.layered.Layer.{Layer}
use Rattle.supplies.specs.declared.layered.Layer.TheVariants.{Press, Strike}

-- the places that are struck: the first so many, and 32 at most
abbrev pub struck_places : Few 32 → List ℕ
struck_places s = few s

-- the layer hides this plate at this place
abbrev pub hides : Layer → ℕ → Size → Bool
hides (Press width length) = limit_hides width length
hides (Strike struck) = strike_hides (struck_places struck)

-- one of the layers hides it
abbrev pub hidden : List Layer → ℕ → Size → Bool
hidden layers k s = list_any (λ l. hides l k s) layers

abbrev pub through : List Layer → ℕ → Option Size → Option Size
through layers k = unless (hidden layers k)

-- each place shows its plate below, where no layer hides that
abbrev pub layered_shows : List Layer → (ℕ → Option Size) → ℕ → Option Size
layered_shows layers = unhidden (hidden layers)

-- what the press limit or strike list shows of what is below it
abbrev pub layer_shows : Layer → (ℕ → Option Size) → ℕ → Option Size
layer_shows (Press width length) = limit_shows width length
layer_shows (Strike struck) = strike_shows (struck_places struck)

pub record LayerLaws (layers : List Layer) : Type 0 where
  -- one more layer shows what a press limit or strike list over these would show
  pub over : (l : Layer) (shows : ℕ → Option Size) → Same (layered_shows (layers ++ l ∷ []) shows) (layer_shows l (layered_shows layers shows))
  -- no layers hide nothing
  pub none : (shows : ℕ → Option Size) → Same (layered_shows [] shows) shows
  -- no plate is shown that does not exist below
  pub exist : (shows : ℕ → Option Size) → AllExist shows → AllExist (layered_shows layers shows)
