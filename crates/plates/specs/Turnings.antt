-- How a plate lies, in words.
use Rattle.std.specs.Prelude.{ℕ, List, codes}
use Rattle.plates.specs.declared.turnings.Turning.{Turning}
use Rattle.plates.specs.declared.turnings.Turning.TheVariants.{Unturned, Turned}

abbrev pub turning_word : Turning → List ℕ
turning_word Unturned = codes "unturned"
turning_word Turned = codes "turned"
