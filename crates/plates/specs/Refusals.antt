-- What each refusal carries: its number, the thing at fault and its position.
use Rattle.std.specs.Prelude.{ℕ, ◌≤◌, Ok, Err, Result}
use Rattle.plates.specs.declared.refusals.Refusal.{Refusal}
use Rattle.plates.specs.declared.refusals.Refusal.TheVariants.{SheetNumber, MemberSpan, MemberNumber, CardNumber, EmptyField, NoPlace, BadReceipt, BookFull, NothingFits, OtherStamp, NoneOut}
use Rattle.plates.specs.declared.refusals.Thing.{Thing}
use Rattle.plates.specs.declared.refusals.Thing.TheVariants.{Sheet, Member, Family, Place, Book, Slip}

abbrev pub refusal_number : Refusal → ℕ
refusal_number SheetNumber = 1
refusal_number MemberSpan = 2
refusal_number (MemberNumber i) = 3
refusal_number (CardNumber i) = 3
refusal_number (EmptyField i) = 4
refusal_number (NoPlace k) = 5
refusal_number (BadReceipt k) = 6
refusal_number BookFull = 7
refusal_number NothingFits = 8
refusal_number OtherStamp = 9
refusal_number NoneOut = 10

abbrev pub refusal_thing : Refusal → Thing
refusal_thing SheetNumber = Sheet
refusal_thing MemberSpan = Sheet
refusal_thing (MemberNumber i) = Member
refusal_thing (CardNumber i) = Family
refusal_thing (EmptyField i) = Member
refusal_thing (NoPlace k) = Place
refusal_thing (BadReceipt k) = Place
refusal_thing BookFull = Book
refusal_thing NothingFits = Sheet
refusal_thing OtherStamp = Slip
refusal_thing NoneOut = Slip

abbrev pub refusal_position : Refusal → ℕ
refusal_position SheetNumber = 0
refusal_position MemberSpan = 0
refusal_position (MemberNumber i) = i
refusal_position (CardNumber i) = i
refusal_position (EmptyField i) = i
refusal_position (NoPlace k) = k
refusal_position (BadReceipt k) = k
refusal_position BookFull = 0
refusal_position NothingFits = 0
refusal_position OtherStamp = 0
refusal_position NoneOut = 0

-- a joint is lawful, or refused on one of the grounds 1 to 4
abbrev pub Grounded : Result (Unit {0}) Refusal → Type 0
Grounded (Ok _) = Unit {0}
Grounded (Err e) = refusal_number e ≤ 4
