-- The grounds on which a joint is turned away, in their order.
use Rattle.std.specs.Prelude.{◌≡◌, ℕ, ◌+◌, Bool, true, false, cond, ◌&&◌, ◌||◌, List, take, drop, pos, negsuc, Some, None, Ok, Err, Option, Result, ◌==◌, int_le, int_lt, nat_le, slice_index}
use Rattle.std.specs.List.{AllByRecursion}
use Rattle.plates.specs.declared.refusals.Refusal.{Refusal}
use Rattle.plates.specs.declared.refusals.Refusal.TheVariants.{SheetNumber, MemberSpan, MemberNumber, CardNumber, EmptyField, NoPlace, BadReceipt, BookFull, NothingFits, OtherStamp, NoneOut}
use Rattle.rules.specs.declared.terms.Card.{Card}
use Rattle.rules.specs.declared.terms.Lateral.{Lateral}
use Rattle.rules.specs.declared.terms.Member.{Member}
use Rattle.rules.specs.declared.terms.Span.{Span}
use Rattle.joints.specs.declared.sheets.Sheet.{Sheet}
use Rattle.joints.specs.Scan.{first_failing, FirstFailing}

abbrev pub within : ℕ → ℕ → ℕ → Bool
within low high n = nat_le low n && nat_le n high

-- ground 1: the truss length is 1 to 30,500
abbrev pub truss_ranged : Sheet → Bool
truss_ranged s = within 1 30500 s.conditions.truss

-- ground 2: the members lie in the caller's list, of that length
abbrev pub listed : Sheet → ℕ → Bool
listed s list = nat_le (s.first + s.count) list

-- and they number one to six
abbrev pub spanned : Sheet → ℕ → Bool
spanned s list = within 1 6 s.count && listed s list

-- or, in a splice, two
abbrev pub paired : Sheet → ℕ → Bool
paired s list = s.count == 2 && listed s list

-- the sheet's own members
abbrev pub own : Sheet → List Member → List Member
own s ms = take s.count (drop s.first ms)

-- ground 3: N, P, S and Q are 0 to 200,000
abbrev pub loads_ranged : Member → Bool
loads_ranged m = nat_le m.normal 200000 && (nat_le m.parallel 200000 && (nat_le m.specified 200000 && nat_le m.cross 200000))

-- θ and ρ are 0 to 90, σ is 0 to 179
abbrev pub angles_ranged : Member → Bool
angles_ranged m = nat_le m.theta 90 && (nat_le m.rho 90 && nat_le m.sigma 179)

-- the depths of lumber
abbrev pub depth_listed : ℕ → Bool
depth_listed d = d == 64 || (d == 89 || (d == 114 || (d == 140 || (d == 184 || (d == 235 || d == 286)))))

-- distances are −1,000 to 1,000
abbrev pub span_ranged : Span → Bool
span_ranged s = (int_le (negsuc 999) s.low && int_le s.low (pos 1000)) && (int_le (negsuc 999) s.high && int_le s.high (pos 1000))

unfoldable pub member_ranged : Member → Bool
member_ranged m = loads_ranged m && (angles_ranged m && (depth_listed m.depth && (span_ranged m.field.x && span_ranged m.field.y)))

-- tooth and slip values are 10 to 20,000
abbrev pub lateral_ranged : Lateral → Bool
lateral_ranged v = within 10 20000 v.p && (within 10 20000 v.q && (within 10 20000 v.pt && within 10 20000 v.qt))

-- tensile and shear values are 1 to 2,000
abbrev pub shear_ranged : List ℕ → Bool
shear_ranged v =
    within 1 2000 (slice_index v 0)
    && (within 1 2000 (slice_index v 1) && (within 1 2000 (slice_index v 2) && (within 1 2000 (slice_index v 3) && (within 1 2000 (slice_index v 4) && within 1 2000 (slice_index v 5)))))

-- a tooth is 1 to 40
unfoldable pub card_ranged : Card → Bool
card_ranged c = lateral_ranged c.teeth && (lateral_ranged c.slip && (within 1 2000 c.t0 && (within 1 2000 c.t90 && (shear_ranged c.shear && within 1 40 c.tooth))))

-- cards past number 15 are not read
abbrev pub read_cards : List Card → List Card
read_cards cs = take 16 cs

-- ground 4: x0 < x1 and y0 < y1
unfoldable pub drawn : Member → Bool
drawn m = int_lt m.field.x.low m.field.x.high && int_lt m.field.y.low m.field.y.high

-- refused where something fails, at its position; else what comes after
abbrev pub unless_at : Option ℕ → (ℕ → Refusal) → Result (Unit {0}) Refusal → Result (Unit {0}) Refusal
unless_at None refusal next = next
unless_at (Some k) refusal next = Err (refusal k)

-- grounds 3 and 4
abbrev pub numbers_stand : ℕ → List Member → List Card → Result (Unit {0}) Refusal
numbers_stand first ms cs =
    unless_at (first_failing member_ranged first ms) MemberNumber
    (unless_at (first_failing card_ranged 0 cs) CardNumber
    (unless_at (first_failing drawn first ms) EmptyField (Ok tt)))

-- what the grounds look at: whether the sheet's own numbers are right and its span is, where its
-- members begin in the caller's list, and the members and cards that are read
pub record Drawing : Type 0 where
  pub numbers : Bool
  pub span : Bool
  pub first : ℕ
  pub members : List Member
  pub cards : List Card

abbrev pub stands : Drawing → Result (Unit {0}) Refusal
stands d = cond d.numbers (cond d.span (numbers_stand d.first d.members d.cards) (Err MemberSpan)) (Err SheetNumber)

abbrev pub MembersRanged : Drawing → Type 0
MembersRanged d = AllByRecursion (λ m. member_ranged m ≡ true) d.members

abbrev pub CardsRanged : Drawing → Type 0
CardsRanged d = AllByRecursion (λ c. card_ranged c ≡ true) d.cards

abbrev pub FieldsDrawn : Drawing → Type 0
FieldsDrawn d = AllByRecursion (λ m. drawn m ≡ true) d.members

-- what a standing means: each refusal names the first fault of its ground, and no ground before it
-- is given; lawful is what gives none
abbrev pub Stands : Drawing → Result (Unit {0}) Refusal → Type 0
Stands d (Ok u) = (d.numbers ≡ true) × (d.span ≡ true) × MembersRanged d × CardsRanged d × FieldsDrawn d
Stands d (Err SheetNumber) = d.numbers ≡ false
Stands d (Err MemberSpan) = (d.numbers ≡ true) × (d.span ≡ false)
Stands d (Err (MemberNumber k)) = (d.numbers ≡ true) × (d.span ≡ true) × FirstFailing member_ranged d.first d.members k
Stands d (Err (CardNumber k)) = (d.numbers ≡ true) × (d.span ≡ true) × MembersRanged d × FirstFailing card_ranged 0 d.cards k
Stands d (Err (EmptyField k)) = (d.numbers ≡ true) × (d.span ≡ true) × MembersRanged d × CardsRanged d × FirstFailing drawn d.first d.members k
Stands d (Err (NoPlace k)) = ⊥
Stands d (Err (BadReceipt k)) = ⊥
Stands d (Err BookFull) = ⊥
Stands d (Err NothingFits) = ⊥
Stands d (Err OtherStamp) = ⊥
Stands d (Err NoneOut) = ⊥
