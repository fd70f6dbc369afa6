-- A plate by its three numbers, and which plates there are.
use Rattle.std.specs.Prelude.{ℕ, ◌*◌, Bool, cond, ◌&&◌, Some, None, Option, nat_le}
use Rattle.plates.specs.declared.shape.Plate.{Plate}

-- width and length in mm, and the family
pub record Size : Type 0 where
  pub width : ℕ
  pub length : ℕ
  pub family : ℕ

abbrev pub size : Plate → Size
size p = record { width = p.width; length = p.length; family = p.family }

-- a plate has a width of 20 to 300, a length of 20 to 1,000 and a family of 0 to 15
abbrev pub exists : ℕ → ℕ → ℕ → Bool
exists w l f = (nat_le 20 w && nat_le w 300) && ((nat_le 20 l && nat_le l 1000) && nat_le f 15)

-- the plate of these numbers, or nothing where there is none
abbrev pub sized : ℕ → ℕ → ℕ → Option Size
sized w l f = cond (exists w l f) (Some (record { width = w; length = l; family = f })) None

-- the area of one face in mm²
abbrev pub area : Size → ℕ
area s = s.width * s.length
