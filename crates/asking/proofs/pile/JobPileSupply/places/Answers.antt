use Rattle.std.proofs.Common.{◌≡◌, None, sym, ap, ◌∙◌}
use Rattle.supplies.specs.Rows.{list_places}
use Rattle.asking.specs.Piles.{stock_places}
use Rattle.asking.proofs.Stocks.{listed_beyond}
use Rattle.asking.proofs.pile.JobPileSupply.places.Goals as goal

pub returns-in-None : goal.returns-in-None
returns-in-None c =
    let pile = c.args.self.now in
    let none : pile.coil ≡ None = c.in-None.is in
    record {
      value = c.places-in-None.ensures.value ∙ ap list_places c.new-list.ensures.rows ∙ ap (λ o. stock_places o pile.rows.now) (sym none);
      beyond = listed_beyond pile.coil c.new-list.result.rows.now pile.rows.now pile.layers.now none c.new-list.ensures.rows c.places-in-None.ensures.beyond;
    }
