-- The two numbers of a place, and what each call makes of them.
use Rattle.std.specs.Prelude.{ℕ, ◌+◌, ◌-◌, Bool, ◌&&◌, List, map, nat_le, slice_index_or}
use Rattle.yard.specs.declared.bins.Bin.{Bin}

-- the pairs on hand and out at one place
pub record Count : Type 0 where
  pub on_hand : ℕ
  pub out : ℕ

abbrev pub counted : Bin → Count
counted b = record { on_hand = b.on_hand; out = b.out }

-- the numbers of all bins, in place order
abbrev pub told : List Bin → List Count
told = map counted

abbrev pub empty : Count
empty = record { on_hand = 0; out = 0 }

-- the numbers at place k: none past the table's end
abbrev pub at : List Count → ℕ → Count
at counts k = slice_index_or counts k empty

-- so many pairs more may be received: at least one, and at most 60,000 on hand and out then
abbrev pub room_for : ℕ → Count → Bool
room_for pairs c = nat_le 1 pairs && nat_le (c.on_hand + c.out + pairs) 60000

-- so many pairs more on hand
abbrev pub with_more : ℕ → Count → Count
with_more pairs c = record { on_hand = c.on_hand + pairs; out = c.out }

-- one pair from on hand to out
abbrev pub moved_out : Count → Count
moved_out c = record { on_hand = c.on_hand - 1; out = c.out + 1 }

-- one pair from out to on hand
abbrev pub moved_back : Count → Count
moved_back c = record { on_hand = c.on_hand + 1; out = c.out - 1 }

-- one pair fewer out
abbrev pub pressed_off : Count → Count
pressed_off c = record { on_hand = c.on_hand; out = c.out - 1 }
