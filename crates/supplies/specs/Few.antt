-- A few numbers, in an array that has room for them.
use Rattle.std.specs.Prelude.{ℕ, List, take}
use Rattle.supplies.specs.declared.few.Few.{Few}

-- the first of the values, so many as are counted
abbrev pub few : {n : ℕ} → Few n → List ℕ
few f = take f.count f.values
