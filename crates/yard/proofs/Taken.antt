-- How many hooks a call takes, and a replay with them.
use Rattle.std.proofs.Common.{◌≡◌, ℕ, ◌+◌, ◌≤◌, ◌⊎◌, Bool, true, false, eqb, List, [], ◌∷◌, length, take, replicate, Some, None, Ok, Err, Option, Result, sym, refl, ap, inl, inr, arith}
use Rattle.std.specs.List.{slice_get}
use Rattle.std.proofs.lemmas.List.{length-append, length-set, length-take}
use borrow.Author.Tests.{eqb-false}
use Rattle.plates.specs.Size.{Size}
use Rattle.plates.specs.declared.refusals.Refusal.{Refusal}
use Rattle.yard.specs.Slips.{DrawnSlip}
use Rattle.yard.specs.declared.replays.Answer.{Answer}
use Rattle.yard.specs.declared.replays.Call.{Call}
use Rattle.yard.specs.declared.replays.Call.TheVariants as call
use Rattle.yard.specs.declared.replays.Hook.{Hook}
use Rattle.yard.specs.Counts.{Count, empty}
use Rattle.yard.specs.Runs.{Event}
use Rattle.yard.specs.Replays.{Does, Draws, HandsBack, Means, OnHook, Presses, Replayed, Replays, State, Tacks, Voids, hooked}

-- a call hangs at most one slip more
hooked_one : (r : Result DrawnSlip Refusal) → length (hooked r) ≤ 1
hooked_one (Ok slip) = omega arith
hooked_one (Err e) = omega arith

draws_one : (shows : ℕ → Option Size) (stamp : ℕ) (joint : Option Means) (number : ℕ) (before : State) (a : Answer) (made : List Event) (after : State)
    → Draws shows stamp joint number before a made after → length after.rack ≤ length before.rack + 1
draws_one shows stamp None number before a made after h = omega (arith, ap (λ s. length s.rack) h.2)
draws_one shows stamp (Some joint) number before a made after h =
    omega (arith, ap length h.1.3, length-append before.rack (hooked h.0), hooked_one h.0)

on_hook_one : (Uses : Hook → List Count → Answer → List Event → Hook → List Count → Type 0) (i : ℕ) (before : State) (a : Answer) (made : List Event) (after : State)
    → OnHook Uses i before a made after → length after.rack ≤ length before.rack + 1
on_hook_one Uses i before a made after h = omega (arith, ap length h.1.1, length-set before.rack i h.0)

pub does_one : (joints : List Means) (places : ℕ) (shows : ℕ → Option Size) (stamp : ℕ) (c : Call) (before : State) (a : Answer) (made : List Event) (after : State)
    → Does joints places shows stamp c before a made after → length after.rack ≤ length before.rack + 1
does_one joints places shows stamp (call.Receive k pairs) before a made after h = omega (arith, ap length h.1.3)
does_one joints places shows stamp (call.Draw j number) before a made after h = draws_one shows stamp (slice_get joints j) number before a made after h
does_one joints places shows stamp (call.Tack i) before a made after h = on_hook_one Tacks i before a made after h
does_one joints places shows stamp (call.HandBack i) before a made after h = on_hook_one (HandsBack stamp) i before a made after h
does_one joints places shows stamp (call.Press i) before a made after h = on_hook_one (Presses stamp) i before a made after h
does_one joints places shows stamp (call.Void i) before a made after h = on_hook_one Voids i before a made after h
does_one joints places shows stamp (call.Tell k) before a made after h = omega (arith, ap (λ s. length s.rack) h.1.3)

replays_fit : (joints : List Means) (places : ℕ) (shows : ℕ → Option Size) (stamp : ℕ) (cs : List Call) (before : State) (said : List Answer) (es : List Event) (after : State)
    → Replays joints places shows stamp cs before said es after → (length said ≡ length cs) × (length after.rack ≤ length before.rack + length said)
replays_fit joints places shows stamp [] before [] es after h = (refl, omega (arith, ap (λ s. length s.rack) h.1))
replays_fit joints places shows stamp [] before (a ∷ said) es after h = absurd h
replays_fit joints places shows stamp (c ∷ cs) before [] es after h = absurd h
replays_fit joints places shows stamp (c ∷ cs) before (a ∷ said) es after h =
    let one = does_one joints places shows stamp c before a h.made h.next h.begun in
    let rest = replays_fit joints places shows stamp cs h.next said h.later after h.ended in
    (omega arith, omega arith)

pub replayed_fits : (joints : List Means) (places : ℕ) (shows : ℕ → Option Size) (stamp : ℕ) (brought : List Hook) (calls : List Call) (answers : List Answer) (rack : List Hook) (counts : List Count)
    → Replayed joints places shows stamp brought calls answers rack counts → (length answers ≤ length calls) × (length rack ≤ length brought + length answers)
replayed_fits joints places shows stamp brought calls answers rack counts h =
    let fit = replays_fit joints places shows stamp (take (length answers) calls) (record { rack = brought; counts = replicate 256 empty }) answers h.events (record { rack = rack; counts = counts }) h.done in
    (omega (arith, fit.0, length-take (length answers) calls), fit.1)

-- with room for every call, a replay that ends where there is none ends with all done
pub all_done : (complete : Bool) (calls said room room' rack rack' hooks hooks' : ℕ)
    → complete ≡ eqb said calls → said ≤ calls → rack' ≤ rack + said → (complete ≡ false → (hooks' ≤ rack') ⊎ (room' ≤ said))
    → room ≤ room' → hooks ≤ hooks' → calls ≤ room → rack + calls ≤ hooks → complete ≡ true
all_done true calls said room room' rack rack' hooks hooks' is fit taken ends more grown enough free = refl
all_done false calls said room room' rack rack' hooks hooks' is fit taken ends more grown enough free =
    let all : said ≡ calls = elim (ends refl) [ inl h ↦ omega arith | inr h ↦ omega arith ] in
    absurd (eqb-false said calls (sym is) all)
