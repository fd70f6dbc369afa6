-- The scan for the first item that fails: how `position` finds it, and what its result means.
use Rattle.std.proofs.Common.{◌≡◌, ℕ, zero, suc, ◌+◌, ◌<◌, Bool, true, false, cond, List, [], ◌∷◌, length, Some, None, Option, ◌&&◌, slice_index, sym, refl, ap, ◌∙◌, add-zero, arith}
use denote.Param.Members.{Mut}
use Rattle.std.proofs.lemmas.Iterator.{YieldsList, IsFirst-from_position}
use Rattle.std.specs.Fn.{Called}
use Rattle.std.specs.Iterator.{YieldsThen}
use Rattle.std.specs.List.{AllByRecursion, AllWithin, FoldsTo, HoldsAt}
use Rattle.std.specs.Bool.{MatchBool}
use Rattle.std.specs.Option.{MatchOption, option_map}
use Rattle.std.proofs.lemmas.Grind.{common_steps}
use Rattle.std.proofs.lemmas.Bool.{cond-true, cond-false}
use Rattle.joints.specs.Scan.{first_failing, FirstFailing}

-- the first item that fails, where `position` looked for it from 0 on
first_from : {T : Type 0} (p : T → Bool) (start : ℕ) (xs : List T) (r : Option ℕ)
    → MatchOption r (AllWithin (λ x. p x ≡ true) xs 0 (length xs)) (λ i. (i < length xs) × HoldsAt (λ x. p x ≡ false) xs i × AllWithin (λ x. p x ≡ true) xs 0 i)
    → option_map (λ i. start + i) r ≡ first_failing p start xs
first_from p start [] None h = refl
first_from p start [] (Some i) h = absurd (omega (arith, h.0))
first_from p start (x ∷ xs) None h =
    first_from p (start + 1) xs None (λ k d l m. h (suc k) d (omega arith) (omega arith)) ∙ sym (cond-true (p x) _ _ (h 0 x (omega arith) (omega arith)))
first_from p start (x ∷ xs) (Some zero) h = ap Some (add-zero start) ∙ sym (cond-false (p x) _ _ (h.1 x))
first_from p start (x ∷ xs) (Some (suc i)) h =
    let inside : i < length xs = omega (arith, h.0) in
    let here : p x ≡ true = h.2 0 x (omega arith) (omega arith) in
    let later : option_map (λ i. (start + 1) + i) (Some i) ≡ first_failing p (start + 1) xs = first_from p (start + 1) xs (Some i) (inside, λ d. h.1 d, λ k d l m. h.2 (suc k) d (omega arith) (omega arith)) in
    ap Some (omega arith) ∙ later ∙ sym (cond-true (p x) _ _ here)

-- the same, by what a chain gives and what the closure tells of each item
pub found_at : {S A B F : Type 0} {steps : S → Option A → S → Type 0} {v : A → B} {g : Mut F (A × Unit {0}) Bool} {s : S} {all : List B} (p : B → Bool) (start : ℕ) (u : S) (f : F) (r : Option ℕ)
    → (xs : List A) × (o : Option A) × (j : F) × YieldsThen steps s xs o u × FoldsTo (λ a x b. Called g a (x, tt) false b) f xs j × MatchOption o (r ≡ None) (λ x. (r ≡ Some (length xs)) × ((h : F) × Called g j (x, tt) true h))
    → YieldsList steps v s all → ((x : A) (q : F) → Called g f (x, tt) true q → p (v x) ≡ false) → ((x : A) (q : F) → Called g f (x, tt) false q → (q ≡ f) × (p (v x) ≡ true))
    → option_map (λ i. start + i) r ≡ first_failing p start all
found_at {all} p start u f r ran road found passed = first_from p start all r (IsFirst-from_position u f r (λ x. p x ≡ false) (λ x. p x ≡ true) ran road found passed)

-- what the result means
abbrev pub Means : {T : Type 0} → (T → Bool) → ℕ → List T → Option ℕ → Type 0
Means p start xs None = AllByRecursion (λ x. p x ≡ true) xs
Means p start xs (Some k) = FirstFailing p start xs k

one_more : {T : Type 0} (p : T → Bool) (start : ℕ) (x : T) (xs : List T) → p x ≡ true → (r : Option ℕ) → Means p (start + 1) xs r → Means p start (x ∷ xs) r
one_more p start x xs t None h = (t, h)
one_more p start x xs t (Some k) h = record {
  before = x ∷ h.before;
  item = h.item;
  after = h.after;
  split = ap (λ l. x ∷ l) h.split;
  passed = (t, h.passed);
  fails = h.fails;
  place = omega (arith, h.place);
}

first_one : {T : Type 0} (p : T → Bool) (start : ℕ) (x : T) (xs : List T) (b : Bool) → p x ≡ b → (r : Option ℕ) → Means p (start + 1) xs r → Means p start (x ∷ xs) (cond b r (Some start))
first_one p start x xs true t r h = one_more p start x xs t r h
first_one p start x xs false t r h = record { before = []; item = x; after = xs; split = refl; passed = tt; fails = t; place = sym (add-zero start) }

pub means : {T : Type 0} (p : T → Bool) (start : ℕ) (xs : List T) → Means p start xs (first_failing p start xs)
means p start [] = tt
means p start (x ∷ xs) = first_one p start x xs (p x) refl _ (means p (start + 1) xs)

-- what `all` tells of a list of six
module _ (p : ℕ → Bool) (v : List ℕ) where
  abbrev AllSix : Bool
  AllSix = p (slice_index v 0) && (p (slice_index v 1) && (p (slice_index v 2) && (p (slice_index v 3) && (p (slice_index v 4) && p (slice_index v 5)))))

  fails_at : (k : ℕ) → k < 6 → p (slice_index v k) ≡ false → AllSix ≡ false
  fails_at zero h e = grind (arith, common_steps)
  fails_at (suc zero) h e = grind (arith, common_steps)
  fails_at (suc (suc zero)) h e = grind (arith, common_steps)
  fails_at (suc (suc (suc zero))) h e = grind (arith, common_steps)
  fails_at (suc (suc (suc (suc zero)))) h e = grind (arith, common_steps)
  fails_at (suc (suc (suc (suc (suc zero))))) h e = grind (arith, common_steps)
  fails_at (suc (suc (suc (suc (suc (suc k)))))) h e = absurd (omega arith)

  pub all_six : (r : Bool) → length v ≡ 6 → MatchBool r (AllWithin (λ x. p x ≡ true) v 0 (length v)) ((k : ℕ) × (k < length v) × HoldsAt (λ x. p x ≡ false) v k) → r ≡ AllSix
  all_six false n h = sym (fails_at h.0 (omega (arith, h.1)) (h.2 0))
  all_six true n h =
      let a = h 0 0 (omega arith) (omega arith) in
      let b = h 1 0 (omega arith) (omega arith) in
      let c = h 2 0 (omega arith) (omega arith) in
      let d = h 3 0 (omega arith) (omega arith) in
      let e = h 4 0 (omega arith) (omega arith) in
      let f = h 5 0 (omega arith) (omega arith) in
      grind (arith, common_steps, a, b, c, d, e, f)
