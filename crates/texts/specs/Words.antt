-- The words of a format, and those of the field.
use Rattle.std.specs.Prelude.{◌≡◌, ℕ, List, codes, Option, MatchOption, ◌≢◌}
use Rattle.rules.specs.declared.terms.Force.{Force}
use Rattle.rules.specs.declared.terms.Force.TheVariants.{Tension, Compression}
use Rattle.rules.specs.declared.terms.Species.{Species}
use Rattle.rules.specs.declared.terms.Species.TheVariants.{SprucePineFir, DouglasFirLarch}
use Rattle.rules.specs.declared.terms.Axis.{Axis}
use Rattle.rules.specs.declared.terms.Axis.TheVariants.{X, Y}
use Rattle.rules.specs.declared.terms.Mark.{Mark}
use Rattle.rules.specs.declared.terms.Mark.TheVariants.{Plain, Edge, End}
use Rattle.rules.specs.declared.terms.Duration.{Duration}
use Rattle.rules.specs.declared.terms.Duration.TheVariants.{Permanent, Standard, Short}
use Rattle.rules.specs.declared.terms.Service.{Service}
use Rattle.rules.specs.declared.terms.Service.TheVariants.{SeasonedDry, UnseasonedDry, Wet}
use Rattle.rules.specs.declared.terms.Area.{Area}
use Rattle.rules.specs.declared.terms.Area.TheVariants.{Net, Gross}
use Rattle.rules.specs.declared.terms.Turnings.{Turnings}
use Rattle.rules.specs.declared.terms.Turnings.TheVariants.{UnturnedOnly, TurnedOnly, Either}
use Rattle.rules.specs.declared.heels.FactorRule.{FactorRule}
use Rattle.rules.specs.declared.heels.FactorRule.TheVariants.{Table, Formula}

-- the value whose word this is; nothing where no value has this word
abbrev pub Named : {X : Type 0} → (X → List ℕ) → List ℕ → Option X → Type 0
Named word w r = MatchOption r ((x : _) → w ≢ word x) (λ x. w ≡ word x)

abbrev pub force_word : Force → List ℕ
force_word Tension = codes "tension"
force_word Compression = codes "compression"

abbrev pub species_word : Species → List ℕ
species_word SprucePineFir = codes "spruce"
species_word DouglasFirLarch = codes "douglas"

abbrev pub axis_word : Axis → List ℕ
axis_word X = codes "x"
axis_word Y = codes "y"

abbrev pub mark_word : Mark → List ℕ
mark_word Plain = codes "plain"
mark_word Edge = codes "edge"
mark_word End = codes "end"

abbrev pub duration_word : Duration → List ℕ
duration_word Permanent = codes "permanent"
duration_word Standard = codes "standard"
duration_word Short = codes "short"

abbrev pub service_word : Service → List ℕ
service_word SeasonedDry = codes "dry"
service_word UnseasonedDry = codes "unseasoned"
service_word Wet = codes "wet"

abbrev pub area_word : Area → List ℕ
area_word Net = codes "net"
area_word Gross = codes "gross"

abbrev pub turnings_word : Turnings → List ℕ
turnings_word UnturnedOnly = codes "unturned"
turnings_word TurnedOnly = codes "turned"
turnings_word Either = codes "either"

abbrev pub rule_word : FactorRule → List ℕ
rule_word Table = codes "table"
rule_word Formula = codes "formula"
