-- What a standing means.
use Rattle.std.proofs.Common.{◌≡◌, ℕ, Bool, true, false, cond, List, Some, None, Ok, Err, Option, refl, subst}
use Rattle.rules.specs.declared.terms.Card.{Card}
use Rattle.rules.specs.declared.terms.Member.{Member}
use Rattle.joints.specs.Grounds.{MembersRanged, CardsRanged, member_ranged, card_ranged, drawn, unless_at, numbers_stand, Drawing, stands, Stands}
use Rattle.plates.specs.declared.refusals.Refusal.TheVariants.{SheetNumber, MemberSpan, MemberNumber, CardNumber, EmptyField}
use Rattle.std.specs.List.{All}
use Rattle.std.proofs.lemmas.List.Elements.{All-from_recursion}
use Rattle.rules.specs.Ranges.{CardWithin, MemberWithin}
use Rattle.joints.proofs.Scanning.{Means, means}
use Rattle.joints.proofs.Within.{member_within, card_within}

-- by what each scan found
found : (d : Drawing) (a b c : Option ℕ) → d.numbers ≡ true → d.span ≡ true → Means member_ranged d.first d.members a → Means card_ranged 0 d.cards b → Means drawn d.first d.members c → Stands d (unless_at a MemberNumber (unless_at b CardNumber (unless_at c EmptyField (Ok tt))))
found d (Some k) b c n s h i j = (n, s, h)
found d None (Some k) c n s h i j = (n, s, h, i)
found d None None (Some k) n s h i j = (n, s, h, i, j)
found d None None None n s h i j = (n, s, h, i, j)

by_span : (d : Drawing) (b : Bool) → d.numbers ≡ true → d.span ≡ b → Stands d (cond b (numbers_stand d.first d.members d.cards) (Err MemberSpan))
by_span d false n s = (n, s)
by_span d true n s = found d _ _ _ n s (means member_ranged d.first d.members) (means card_ranged 0 d.cards) (means drawn d.first d.members)

by_numbers : (d : Drawing) (b : Bool) → d.numbers ≡ b → Stands d (cond b (cond d.span (numbers_stand d.first d.members d.cards) (Err MemberSpan)) (Err SheetNumber))
by_numbers d false n = n
by_numbers d true n = by_span d d.span n refl

pub stands_so : (d : Drawing) → Stands d (stands d)
stands_so d = by_numbers d d.numbers refl

-- what the members and cards of a lawful joint give to its clauses
module _ (first : ℕ) (ms : List Member) (cs : List Card) (e : numbers_stand first ms cs ≡ Ok tt) where
  ruled : MembersRanged (record { numbers = true; span = true; first = first; members = ms; cards = cs }) × CardsRanged (record { numbers = true; span = true; first = first; members = ms; cards = cs })
  ruled =
      let d : Drawing = record { numbers = true; span = true; first = first; members = ms; cards = cs } in
      let h : Stands d (Ok tt) = subst (Stands d) e (stands_so d) in
      (h.2, h.3)

  pub members_within : All MemberWithin ms
  members_within = λ k d h. member_within _ (All-from_recursion (λ m. member_ranged m ≡ true) ms ruled.0 k d h)

  pub cards_within : All CardWithin cs
  cards_within = λ k d h. card_within _ (All-from_recursion (λ c. card_ranged c ≡ true) cs ruled.1 k d h)
