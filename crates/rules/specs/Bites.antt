-- The least bite into chords and webs, in mm.
use Rattle.std.specs.Prelude.{ℕ, cond, nat_le}
use Rattle.rules.specs.declared.bites.BiteRow.{BiteRow}

-- the entries of a row for truss lengths up to 12,500, 18,300, 24,400 and beyond
abbrev pub entries : ℕ → ℕ → ℕ → ℕ → BiteRow
entries a b c d = record { first = a; second = b; third = c; last = d }

abbrev pub by_truss : ℕ → BiteRow → ℕ
by_truss truss row = cond (nat_le truss 12500) row.first (cond (nat_le truss 18300) row.second (cond (nat_le truss 24400) row.third row.last))

-- the row for the depth: 64, 89 and 114, then 140, 184, 235 and 286
abbrev pub by_depth : ℕ → BiteRow
by_depth depth =
    cond (nat_le depth 114) (entries 38 45 51 57)
    (cond (nat_le depth 140) (entries 38 51 57 64)
    (cond (nat_le depth 184) (entries 51 57 64 76)
    (cond (nat_le depth 235) (entries 64 70 76 83) (entries 76 76 83 89))))

unfoldable pub bite : ℕ → ℕ → ℕ
bite depth truss = by_truss truss (by_depth depth)
