-- What one call, and then a run of calls, does to the numbers of every place.
use Rattle.std.proofs.Common.{◌≡◌, ℕ, ◌+◌, ◌<◌, Bool, true, false, cond, eqb, List, [], ◌∷◌, length, set, Some, None, Ok, Err, Option, Result, sym, refl, ap, ◌∙◌, subst, inl, inr, arith}
use Rattle.std.proofs.lemmas.List.{get_or-set_other, get_or-set_same, length-set}
use Rattle.std.proofs.lemmas.Bool.Decides.{eqb_tells}
use Rattle.plates.specs.Size.{Size}
use Rattle.plates.specs.declared.refusals.Refusal.{Refusal}
use Rattle.plates.specs.declared.turnings.Turning.{Turning}
use Rattle.plates.specs.declared.verdicts.Verdict.{Verdict}
use Rattle.yard.specs.Slips.{DrawnSlip, TackedSlip}
use Rattle.yard.specs.declared.slips.TurnedAway.{TurnedAway}
use Rattle.yard.specs.Counts.{Count, empty, at, with_more, moved_out, moved_back, pressed_off}
use Rattle.yard.specs.Calls.{Drew, Receipt, Settled, receipt_fault, slip_fault}
use Rattle.yard.specs.Runs.{Event, Ran, Step, receipt, drawing, hand_back, pressing, telling, received_by, drawn_by, handed_back_by, pressed_by, received, drawn, handed_back, pressed}
use Rattle.yard.proofs.Tables.{in_yard_held, receipt_met, slip_met}

-- the numbers of a place go from b to a where so many pairs were received, drawn, handed back and pressed there
abbrev pub Moved : Count → Count → ℕ → ℕ → ℕ → ℕ → Type 0
Moved b a taken gone back done = (a.on_hand + gone ≡ b.on_hand + taken + back) × (a.out + back + done ≡ b.out + gone)

abbrev pub Kept : List Count → Event → List Count → Type 0
Kept before e after = (length after ≡ length before) × ((k : ℕ) → Moved (at before k) (at after k) (received_by k e) (drawn_by k e) (handed_back_by k e) (pressed_by k e))

still : (before after : List Count) → after ≡ before → (length after ≡ length before) × ((k : ℕ) → Moved (at before k) (at after k) 0 0 0 0)
still before after e =
    (ap length e, λ k. let f : at after k ≡ at before k = ap (λ c. at c k) e in (omega (arith, ap (λ n. n.on_hand) f), omega (arith, ap (λ n. n.out) f)))

-- after a write at j: what holds of the new numbers there, and of the old ones elsewhere
wrote : (before after : List Count) (j : ℕ) (new : Count) → after ≡ set before j new → j < length before → (P : ℕ → Bool → Count → Type 0)
    → P j true new → ((k : ℕ) → P k false (at before k))
    → (length after ≡ length before) × ((k : ℕ) → P k (eqb j k) (at after k))
wrote before after j new e h P here there = (
  ap length e ∙ length-set before j new,
  λ k. subst (λ c. P k (eqb j k) (at c k)) (sym e)
      (elim (eqb_tells j k) [
        | inl t ↦ subst (λ b. P k b (at (set before j new) k)) (sym t.0)
            (subst (λ i. P k true (at (set before j new) i)) t.1 (subst (λ c. P k true c) (sym (get_or-set_same before j new empty h)) (subst (λ i. P i true new) t.1 here)))
        | inr f ↦ subst (λ b. P k b (at (set before j new) k)) (sym f.0)
            (subst (λ c. P k false c) (sym (get_or-set_other before j k new empty (λ q. f.1 (sym q)))) (there k))
      ]),
)

receipt_kept : (places : ℕ) (shows : ℕ → Option Size) (before after : List Count) (j pairs : ℕ) (f : Option Refusal) (r : Result (Unit {0}) Refusal) → length before ≡ 256
    → f ≡ receipt_fault places shows before j pairs → Receipt f before j pairs r after → Kept before (receipt j pairs r) after
receipt_kept places shows before after j pairs (Some e) (Ok u) full q h = cc h.0
receipt_kept places shows before after j pairs (Some e) (Err x) full q h = still before after h.1
receipt_kept places shows before after j pairs None (Err x) full q h = cc h.0
receipt_kept places shows before after j pairs None (Ok u) full q h =
    let m = receipt_met places shows before j pairs q in
    wrote before after j (with_more pairs (at before j)) h.1 (omega arith) (λ k b c. Moved (at before k) c (cond b pairs 0) 0 0 0)
    (omega arith, omega arith)
    (λ k. (omega arith, omega arith))

drawing_kept : (shows : ℕ → Option Size) (stamp : ℕ) (before after : List Count) (standing : Result (Unit {0}) Refusal) (verdict : Size → Turning → Verdict) (joint : ℕ) (r : Result DrawnSlip Refusal) → length before ≡ 256
    → Drew standing verdict shows stamp before joint r after → Kept before (drawing standing verdict joint r) after
drawing_kept shows stamp before after (Err e) verdict joint (Ok slip) full h = cc h.0
drawing_kept shows stamp before after (Err e) verdict joint (Err x) full h = still before after h.1
drawing_kept shows stamp before after (Ok u) verdict joint (Err x) full h = still before after h.2
drawing_kept shows stamp before after (Ok u) verdict joint (Ok slip) full h =
    let m = in_yard_held shows before slip.numbers.place h.least.plate h.least.fits.0 in
    wrote before after slip.numbers.place (moved_out (at before slip.numbers.place)) h.moved (omega arith) (λ k b c. Moved (at before k) c 0 (cond b 1 0) 0 0)
    (omega arith, omega arith)
    (λ k. (omega arith, omega arith))

hand_back_kept : (stamp : ℕ) (before after : List Count) (slip : DrawnSlip) (f : Option Refusal) (r : Result (Unit {0}) (TurnedAway DrawnSlip)) → length before ≡ 256
    → f ≡ slip_fault stamp before slip.numbers → Settled f slip before slip.numbers.place (moved_back (at before slip.numbers.place)) r after → Kept before (hand_back slip r) after
hand_back_kept stamp before after slip (Some e) (Ok u) full q h = cc h.0
hand_back_kept stamp before after slip (Some e) (Err x) full q h = still before after h.1
hand_back_kept stamp before after slip None (Err x) full q h = cc h.0
hand_back_kept stamp before after slip None (Ok u) full q h =
    let m = slip_met stamp before slip.numbers q in
    wrote before after slip.numbers.place (moved_back (at before slip.numbers.place)) h.1 (omega arith) (λ k b c. Moved (at before k) c 0 0 (cond b 1 0) 0)
    (omega arith, omega arith)
    (λ k. (omega arith, omega arith))

pressing_kept : (stamp : ℕ) (before after : List Count) (slip : TackedSlip) (f : Option Refusal) (r : Result (Unit {0}) (TurnedAway TackedSlip)) → length before ≡ 256
    → f ≡ slip_fault stamp before slip.numbers → Settled f slip before slip.numbers.place (pressed_off (at before slip.numbers.place)) r after → Kept before (pressing slip r) after
pressing_kept stamp before after slip (Some e) (Ok u) full q h = cc h.0
pressing_kept stamp before after slip (Some e) (Err x) full q h = still before after h.1
pressing_kept stamp before after slip None (Err x) full q h = cc h.0
pressing_kept stamp before after slip None (Ok u) full q h =
    let m = slip_met stamp before slip.numbers q in
    wrote before after slip.numbers.place (pressed_off (at before slip.numbers.place)) h.1 (omega arith) (λ k b c. Moved (at before k) c 0 0 0 (cond b 1 0))
    (omega arith, omega arith)
    (λ k. (omega arith, omega arith))

step_kept : (places : ℕ) (shows : ℕ → Option Size) (stamp : ℕ) (before after : List Count) (e : Event) → length before ≡ 256 → Step places shows stamp before e after → Kept before e after
step_kept places shows stamp before after (receipt j pairs r) full h = receipt_kept places shows before after j pairs (receipt_fault places shows before j pairs) r full refl h
step_kept places shows stamp before after (drawing standing verdict joint r) full h = drawing_kept shows stamp before after standing verdict joint r full h
step_kept places shows stamp before after (hand_back slip r) full h = hand_back_kept stamp before after slip (slip_fault stamp before slip.numbers) r full refl h
step_kept places shows stamp before after (pressing slip r) full h = pressing_kept stamp before after slip (slip_fault stamp before slip.numbers) r full refl h
step_kept places shows stamp before after (telling j r) full h = still before after h.1

pub run_kept : (places : ℕ) (shows : ℕ → Option Size) (stamp : ℕ) (before after : List Count) (es : List Event) → length before ≡ 256 → Ran places shows stamp before es after
    → (length after ≡ 256) × ((k : ℕ) → Moved (at before k) (at after k) (received k es) (drawn k es) (handed_back k es) (pressed k es))
run_kept places shows stamp before after [] full h =
    let s = still before after h in
    (s.0 ∙ full, s.1)
run_kept places shows stamp before after (e ∷ es) full h =
    let one = step_kept places shows stamp before h.0 e full h.1.0 in
    let rest = run_kept places shows stamp h.0 after es (one.0 ∙ full) h.1.1 in
    (rest.0, λ k. (omega (arith, (one.1 k).0, (rest.1 k).0), omega (arith, (one.1 k).1, (rest.1 k).1)))
