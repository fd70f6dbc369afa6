-- What each clause asks of one member. A plate is laid in one turning; a clause holds or it does not.
use Rattle.std.specs.Prelude.{ℕ, ◌+◌, ◌-◌, ◌*◌, ◌/◌, ◌%◌, Bool, true, false, ◌&&◌, ◌||◌, nat_le}
use Rattle.plates.specs.Size.{Size, size}
use Rattle.plates.specs.declared.turnings.Turning.{Turning}
use Rattle.plates.specs.declared.turnings.Turning.TheVariants.{Unturned, Turned}
use Rattle.plates.specs.declared.verdicts.Clause.{Clause}
use Rattle.plates.specs.declared.verdicts.Clause.TheVariants as clause
use Rattle.clauses.specs.declared.splices.Section.{Section}
use Rattle.rules.specs.declared.terms.Area.{Area}
use Rattle.rules.specs.declared.terms.Area.TheVariants.{Net, Gross}
use Rattle.rules.specs.declared.terms.Axis.{Axis}
use Rattle.rules.specs.declared.terms.Axis.TheVariants.{X, Y}
use Rattle.rules.specs.declared.terms.Card.{Card}
use Rattle.rules.specs.declared.terms.Conditions.{Conditions}
use Rattle.rules.specs.declared.terms.Force.{Force}
use Rattle.rules.specs.declared.terms.Force.TheVariants.{Tension, Compression}
use Rattle.rules.specs.declared.terms.Member.{Member}
use Rattle.rules.specs.declared.terms.Species.{Species}
use Rattle.rules.specs.declared.terms.Species.TheVariants.{SprucePineFir, DouglasFirLarch}
use Rattle.clauses.specs.declared.trials.Trial.{Trial}
use Rattle.rules.specs.declared.terms.Turnings.{Turnings}
use Rattle.rules.specs.declared.terms.Turnings.TheVariants.{UnturnedOnly, TurnedOnly, Either}
use Rattle.rules.specs.Bites.{bite}
use Rattle.rules.specs.Sides.{extent, along, full_side, net_side}
use Rattle.rules.specs.Steel.{tensile, shearing}
use Rattle.rules.specs.Teeth.{lateral, cut_all, factored, service_factor}

-- a plate of that size laid in that turning, under a sheet's conditions, with its family's
-- card and the joint's moment factor
pub record Laid : Type 0 where
  pub conditions : Conditions
  pub factor : ℕ
  pub card : Card
  pub plate : Size
  pub turning : Turning

abbrev pub laid : Trial → Laid
laid t = record { conditions = t.conditions; factor = t.factor; card = t.card; plate = size t.plate; turning = t.turning }

-- A: the sheet allows the turning
abbrev pub allowed : Turnings → Turning → Bool
allowed UnturnedOnly Unturned = true
allowed UnturnedOnly Turned = false
allowed TurnedOnly Unturned = false
allowed TurnedOnly Turned = true
allowed Either t = true

-- C: twice the tooth length is at most 38, the thickness of every member
abbrev pub short_teeth : Card → Bool
short_teeth c = nat_le (2 * c.tooth) 38

-- the load's angle to the axis of the plate as it is laid
abbrev pub to_axis : Turning → ℕ → ℕ
to_axis Unturned ρ = ρ
to_axis Turned ρ = 90 - ρ

-- the shear's angle to the axis of the plate as it is laid
abbrev pub to_shear : Turning → ℕ → ℕ
to_shear Unturned σ = σ
to_shear Turned σ = (σ + 90) % 180

abbrev pub crosswise : Axis → Axis
crosswise X = Y
crosswise Y = X

-- the full side along an axis
abbrev pub full : Laid → Member → Axis → ℕ
full l m a = full_side (along m.field a) (extent l.plate l.turning a)

-- the side along an axis of the area that the teeth count on
abbrev pub counted : Area → Laid → Member → Axis → ℕ
counted Net l m a = net_side (along m.field a) l.card.tooth (extent l.plate l.turning a)
counted Gross l m a = full l m a

-- A: the area, in mm²
abbrev pub bearing : Laid → Member → ℕ
bearing l m = counted l.conditions.area l m X * counted l.conditions.area l m Y

-- D: both full sides reach the bite
abbrev pub bites : Laid → Member → Bool
bites l m = nat_le (bite m.depth l.conditions.truss) (full l m X) && nat_le (bite m.depth l.conditions.truss) (full l m Y)

-- N for each mm of bite across the grain
abbrev pub per_mm : Species → ℕ
per_mm SprucePineFir = 41
per_mm DouglasFirLarch = 55

-- E: a load across the grain of at most 2,500, or one that the full side a across the grain
-- takes, or a side of three quarters of the depth
abbrev pub holds_cross : Species → ℕ → ℕ → ℕ → Bool
holds_cross s q d a = nat_le q 2500 || (nat_le (q - 2500) (per_mm s * a) || nat_le (3 * d) (4 * a))

abbrev pub crosses : Laid → Member → Bool
crosses l m = holds_cross m.species m.cross m.depth (full l m (crosswise m.grain))

-- the factored resistance of the teeth under the member's load, in kPa
abbrev pub tooth_resistance : Laid → Member → ℕ
tooth_resistance l m =
    factored (lateral (cut_all l.conditions.area l.card.teeth) m.theta (to_axis l.turning m.rho)) l.conditions.duration l.conditions.service l.factor

-- what the teeth hold over that area, in N
abbrev pub capacity : ℕ → ℕ → ℕ
capacity nr area = nr * area / 1000

-- the weight of the normal load: half of it counts in compression
abbrev pub normal_weight : Force → ℕ
normal_weight Tension = 4
normal_weight Compression = 1

-- F: 4P² + kN² ≤ 4 × cap²
abbrev pub holds_grip : Force → ℕ → ℕ → ℕ → Bool
holds_grip f p n cap = nat_le (4 * (p * p) + normal_weight f * (n * n)) (4 * (cap * cap))

abbrev pub grips : Laid → Member → Bool
grips l m = holds_grip m.force m.parallel m.normal (capacity (tooth_resistance l m) (bearing l m))

-- the factored resistance of steel of v N/mm over e mm
abbrev pub steel : ℕ → ℕ → ℕ
steel v e = 60 * v * e / 100

-- G: the steel takes the normal load of a member in tension
abbrev pub pulls : Laid → Member → Force → Bool
pulls l m Tension = nat_le m.normal (steel (tensile l.card (to_axis l.turning m.rho)) (full l m m.interface))
pulls l m Compression = true

-- H: the steel takes the load along the interface
abbrev pub shears : Laid → Member → Bool
shears l m = nat_le m.parallel (steel (shearing l.card (to_shear l.turning m.sigma)) (full l m m.interface))

-- I: the slip resistance takes the specified load
abbrev pub holds_slip : ℕ → ℕ → ℕ → ℕ → Bool
holds_slip s ns ksf area = nat_le s (ns * ksf * area / 100000)

abbrev pub slips : Laid → Member → Bool
slips l m = holds_slip m.specified (lateral l.card.slip m.theta (to_axis l.turning m.rho)) (service_factor l.conditions.service) (bearing l m)

-- J: the plate's extent across the grain is at least 65 percent of the depth
abbrev pub extends : Laid → Member → Bool
extends l m = nat_le (65 * m.depth) (100 * extent l.plate l.turning (crosswise m.grain))

-- T: the tension in a member
abbrev pub pull : Force → ℕ → ℕ
pull Tension n = n
pull Compression n = 0

-- the section of a splice through a member, with the wood value c
abbrev pub section : Laid → Member → ℕ → Section
section l m c = record {
  depth = m.depth;
  wood = c;
  side = full l m (crosswise m.grain);
  steel = tensile l.card (to_axis l.turning m.rho);
  pull = pull m.force m.normal;
}

-- whether the member meets the clause; the clauses of the joint as a whole ask nothing of one member
unfoldable pub meets : Clause → Laid → Member → Bool
meets clause.Turning l m = true
meets clause.Card l m = true
meets clause.Teeth l m = true
meets clause.Bite l m = bites l m
meets clause.CrossGrain l m = crosses l m
meets clause.Grip l m = grips l m
meets clause.Tension l m = pulls l m m.force
meets clause.Shear l m = shears l m
meets clause.Slip l m = slips l m
meets clause.Extent l m = true
meets clause.Moment l m = true
