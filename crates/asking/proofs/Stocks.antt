-- What lies beyond the places of a stock.
use Rattle.std.proofs.Common.{◌≡◌, ℕ, ◌≤◌, List, None, Option, sym, ap, subst}
use Rattle.supplies.specs.Layers.{through, layered_shows}
use Rattle.supplies.specs.Rows.{list_places, list_shows}
use Rattle.supplies.specs.declared.layered.Layer.{Layer}
use Rattle.supplies.specs.declared.list.Row.{Row}
use Rattle.piles.specs.declared.coils.Coil.{Coil}
use Rattle.asking.specs.Piles.{stock_places, stock_shows}

-- from the rows of a list to a stock without a coil, and what shows through layers
pub listed_beyond : (coil : Option Coil) (read rows : List Row) (layers : List Layer) → coil ≡ None → read ≡ rows → ((k : ℕ) → list_places read ≤ k → list_shows read k ≡ None)
    → (k : ℕ) → stock_places coil rows ≤ k → layered_shows layers (stock_shows coil rows) k ≡ None
listed_beyond coil read rows layers none same beyond k past =
    let of-rows = subst (λ rs. (j : ℕ) → list_places rs ≤ j → list_shows rs j ≡ None) same beyond in
    let of-stock = subst (λ o. (j : ℕ) → stock_places o rows ≤ j → stock_shows o rows j ≡ None) (sym none) of-rows in
    ap (through layers k) (of-stock k past)
