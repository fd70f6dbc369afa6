-- The plates of a job: those of its coil, or of its rows where it has none, under its layers.
use Rattle.std.specs.Prelude.{ℕ, List, Some, None, vec_items, Option}
use Rattle.plates.specs.Size.{Size}
use Rattle.supplies.specs.Coils.{coil_places, coil_shows}
use Rattle.supplies.specs.Layers.{layered_shows}
use Rattle.supplies.specs.Rows.{list_places, list_shows}
use Rattle.supplies.specs.declared.list.Row.{Row}
use Rattle.piles.specs.Coils.{coil_widths}
use Rattle.piles.specs.declared.coils.Coil.{Coil}
use Rattle.jobs.specs.declared.reader.Job.{Job}

abbrev pub stock_places : Option Coil → List Row → ℕ
stock_places (Some c) rows = coil_places (coil_widths c) c.steps
stock_places None rows = list_places rows

abbrev pub stock_shows : Option Coil → List Row → ℕ → Option Size
stock_shows (Some c) rows = coil_shows c.family (coil_widths c) c.first c.step c.steps
stock_shows None rows = list_shows rows

abbrev pub pile_places : Job → ℕ
pile_places job = stock_places job.coil (vec_items job.rows)

abbrev pub pile_shows : Job → ℕ → Option Size
pile_shows job = layered_shows (vec_items job.layers) (stock_shows job.coil (vec_items job.rows))
