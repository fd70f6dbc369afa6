-- Reading and writing one bin of the table, and what a call that is not refused knows.
use Rattle.std.proofs.Common.{◌≡◌, ℕ, ◌+◌, ◌<◌, ◌≤◌, Bool, true, false, cond, ◌&&◌, eqb, ltb, List, length, get_or, set, is_some, Some, None, Ok, Err, Option, Result, sym, refl, ap, ◌∙◌, subst, arith}
use Rattle.std.proofs.lemmas.List.{get_or-map, map-set}
use Rattle.std.proofs.lemmas.Bool.Decides.{nat_tests}
use Rattle.plates.specs.Size.{Size}
use Rattle.plates.specs.declared.refusals.Refusal.{Refusal}
use Rattle.plates.specs.declared.turnings.Turning.{Turning}
use Rattle.plates.specs.declared.verdicts.Verdict.{Verdict}
use Rattle.yard.specs.declared.bins.Bin.{Bin}
use Rattle.yard.specs.Slips.{DrawnSlip}
use Rattle.yard.specs.declared.slips.SlipNumbers.{SlipNumbers}
use Rattle.yard.specs.Counts.{Count, counted, told, empty, at, with_more, moved_out}
use Rattle.yard.specs.Calls.{Candidate, Drew, Found, err_or_ok, Receipt, Received, Settled, Slipped, has_place, in_yard, receipt_fault, slip_fault}

pub at_told : (bins : List Bin) (k : ℕ) (d : Bin) → k < length bins → counted (get_or bins k d) ≡ at (told bins) k
at_told bins k d h = sym (get_or-map counted bins k d empty h)

pub told_set : (bins : List Bin) (k : ℕ) (b : Bin) (new : Count) → counted b ≡ new → told (set bins k b) ≡ set (told bins) k new
told_set bins k b new e = map-set counted bins k b ∙ ap (λ c. set (told bins) k c) e

-- of two tests, one after the other, of which neither refused, both were met
passed : (a b : Bool) (first second : Refusal) → None ≡ cond a (cond b None (Some second)) (Some first) → (a ≡ true) × (b ≡ true)
passed true true x y e = (refl, refl)
passed true false x y e = cc
passed false b x y e = cc

-- a test that gave no error found no fault
pub no_fault : (f : Option Refusal) (u : Unit {0}) → Ok u ≡ err_or_ok f → None ≡ f
no_fault None u e = refl
no_fault (Some x) u e = cc

pub receipt_met : (places : ℕ) (shows : ℕ → Option Size) (counts : List Count) (k pairs : ℕ) → None ≡ receipt_fault places shows counts k pairs
    → (k < 256) × (k < places) × (1 ≤ pairs) × ((at counts k).on_hand + (at counts k).out + pairs ≤ 60000)
receipt_met places shows counts k pairs e =
    let p = passed (has_place places k && is_some (shows k)) _ _ _ e in
    let a = p.0 in let b = p.1 in
    (grind (arith, nat_tests), grind (arith, nat_tests), grind (arith, nat_tests), grind (arith, nat_tests))

pub slip_met : (stamp : ℕ) (counts : List Count) (slip : SlipNumbers) → None ≡ slip_fault stamp counts slip
    → (slip.stamp ≡ stamp) × (slip.place < 256) × (0 < (at counts slip.place).out)
slip_met stamp counts slip e =
    let p = passed (eqb slip.stamp stamp) _ _ _ e in
    let a = p.0 in let b = p.1 in
    (grind (arith, nat_tests), grind (arith, nat_tests), grind (arith, nat_tests))

held : (a : Bool) (o : Option Size) (s : Size) → cond a o None ≡ Some s → (a ≡ true) × (o ≡ Some s)
held true o s e = (refl, e)
held false o s e = cc

-- what the yard shows is the pile's plate, with a pair on hand
pub in_yard_held : (shows : ℕ → Option Size) (counts : List Count) (k : ℕ) (s : Size) → in_yard shows counts k ≡ Some s
    → (k < 256) × (0 < (at counts k).on_hand) × (shows k ≡ Some s)
in_yard_held shows counts k s e =
    let p = held (ltb k 256 && ltb 0 (at counts k).on_hand) _ _ e in
    let a = p.0 in
    (grind (arith, nat_tests), grind (arith, nat_tests), p.1)

pub receipt_taken : (places : ℕ) (shows : ℕ → Option Size) (bins : List Bin) (k pairs : ℕ) (d b : Bin) → length bins ≡ 256
    → None ≡ receipt_fault places shows (told bins) k pairs → counted b ≡ with_more pairs (counted (get_or bins k d))
    → Received places shows (told bins) k pairs (Ok tt) (told (set bins k b))
receipt_taken places shows bins k pairs d b full e w =
    let m = receipt_met places shows (told bins) k pairs e in
    let h : k < length bins = omega arith in
    subst (λ f. Receipt f (told bins) k pairs (Ok tt) (told (set bins k b))) e
    (refl, told_set bins k b _ (w ∙ ap (with_more pairs) (at_told bins k d h)))

-- a slip that is not refused ends, and the bin at its place is written
pub slip_settled : {S : Type 0} (slip : S) (numbers : SlipNumbers) (k stamp : ℕ) (bins : List Bin) (change : Count → Count) (d b : Bin) → length bins ≡ 256
    → slip_fault stamp (told bins) numbers ≡ None → k ≡ numbers.place → counted b ≡ change (counted (get_or bins k d))
    → Settled (slip_fault stamp (told bins) numbers) slip (told bins) numbers.place (change (at (told bins) numbers.place)) (Ok tt) (told (set bins k b))
slip_settled slip numbers k stamp bins change d b full e there w =
    let m = slip_met stamp (told bins) numbers (sym e) in
    let h : k < length bins = omega arith in
    subst (λ n. Settled (slip_fault stamp (told bins) numbers) slip (told bins) n (change (at (told bins) n)) (Ok tt) (told (set bins k b))) there
    (subst (λ f. Settled f slip (told bins) k (change (at (told bins) k)) (Ok tt) (told (set bins k b))) (sym e)
    (refl, told_set bins k b _ (w ∙ ap change (at_told bins k d h))))

-- a candidate found in the yard is of a pair on hand
pub found_held : (standing : Result (Unit {0}) Refusal) (verdict : Size → Turning → Verdict) (shows : ℕ → Option Size) (bins : List Bin) (c : Candidate) (d : Bin) → length bins ≡ 256
    → Found standing verdict (in_yard shows (told bins)) (Ok c) → 0 < (get_or bins c.0 d).on_hand
found_held (Err x) verdict shows bins c d full e = cc
found_held (Ok u) verdict shows bins c d full e =
    let m = in_yard_held shows (told bins) c.0 e.1.plate e.1.fits.0 in
    let h : c.0 < length bins = omega arith in
    omega (arith, ap (λ n. n.on_hand) (at_told bins c.0 d h))

pub found_drawn : (standing : Result (Unit {0}) Refusal) (verdict : Size → Turning → Verdict) (shows : ℕ → Option Size) (stamp : ℕ) (bins : List Bin) (joint : ℕ) (c : Candidate) (slip : DrawnSlip) (d b : Bin) → length bins ≡ 256
    → Found standing verdict (in_yard shows (told bins)) (Ok c)
    → slip.numbers ≡ record { stamp = stamp; place = c.0; turning = c.1; joint = joint }
    → counted b ≡ moved_out (counted (get_or bins c.0 d))
    → Drew standing verdict shows stamp (told bins) joint (Ok slip) (told (set bins c.0 b))
found_drawn (Err x) verdict shows stamp bins joint c slip d b full e n w = cc
found_drawn (Ok u) verdict shows stamp bins joint c slip d b full e n w =
    let m = in_yard_held shows (told bins) c.0 e.1.plate e.1.fits.0 in
    let h : c.0 < length bins = omega arith in
    subst (λ s. Slipped verdict shows stamp (told bins) joint s (told (set bins c.0 b))) (sym n)
    (record { area = e.0; least = e.1; stamped = refl; numbered = refl; moved = told_set bins c.0 b _ (w ∙ ap moved_out (at_told bins c.0 d h)) })
