-- The sides on which a plate and a field lie over each other.
use Rattle.std.specs.Prelude.{ℕ, ◌+◌, ◌/◌, max, ℤ, pos, negsuc, ◌+ℤ◌, ◌-ℤ◌, ◌*ℤ◌, neg_ℤ}
use Rattle.std.specs.Int.{int_min, int_max}
use Rattle.plates.specs.Size.{Size}
use Rattle.plates.specs.declared.turnings.Turning.{Turning}
use Rattle.plates.specs.declared.turnings.Turning.TheVariants.{Unturned, Turned}
use Rattle.rules.specs.declared.terms.Axis.{Axis}
use Rattle.rules.specs.declared.terms.Axis.TheVariants.{X, Y}
use Rattle.rules.specs.declared.terms.Field.{Field}
use Rattle.rules.specs.declared.terms.Mark.{Mark}
use Rattle.rules.specs.declared.terms.Mark.TheVariants.{Plain, Edge, End}
use Rattle.rules.specs.declared.terms.Span.{Span}

-- an unturned plate has its length along x, a turned one along y
abbrev pub extent : Size → Turning → Axis → ℕ
extent s Unturned X = s.length
extent s Unturned Y = s.width
extent s Turned X = s.width
extent s Turned Y = s.length

abbrev pub halved : ℤ → ℕ
halved (pos n) = n / 2
halved (negsuc n) = 0

-- the contact side of a field from low to high and a plate of extent e centred on the mark
unfoldable pub contact : ℤ → ℤ → ℕ → ℕ
contact low high e = halved (int_min (pos 2 *ℤ high) (pos e) -ℤ int_max (pos 2 *ℤ low) (neg_ℤ (pos e)))

-- how far a net field is drawn in: at an edge by the greater of 6 and a quarter tooth, at an
-- end by the greater of 12 and half a tooth, fractions rounded up
abbrev pub setback : Mark → ℕ → ℕ
setback Plain tooth = 0
setback Edge tooth = max 6 ((tooth + 3) / 4)
setback End tooth = max 12 ((tooth + 1) / 2)

abbrev pub along : Field → Axis → Span
along f X = f.x
along f Y = f.y

-- the side over the field as drawn
abbrev pub full_side : Span → ℕ → ℕ
full_side s e = contact s.low s.high e

-- the side over the field drawn in at its marks
abbrev pub net_side : Span → ℕ → ℕ → ℕ
net_side s tooth e = contact (s.low +ℤ pos (setback s.low_mark tooth)) (s.high -ℤ pos (setback s.high_mark tooth)) e
