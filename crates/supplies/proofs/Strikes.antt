-- When a strike list hides nothing.
use Rattle.std.proofs.Common.{◌≡◌, ℕ, ◌≤◌, Bool, true, false, List, take, Some, None, Option, Decides, sym, refl, subst, eqb}
use Rattle.std.specs.List.{Contains}
use Rattle.std.proofs.lemmas.Bool.Decides.{Decides-by_or, Decides-eqb}
use Rattle.std.proofs.lemmas.List.Elements.{All-contains, All-from_recursion, Decides-contains}
use Rattle.plates.specs.Size.{Size}
use Rattle.supplies.specs.Hiding.{unless}
use Rattle.supplies.specs.Strikes.{listed, strike_shows, StrikeLaws}
use Rattle.supplies.proofs.Hiding.{unless_exist}

listed_decides : (js : List ℕ) (k : ℕ) → Decides (listed js k) (Contains js k)
listed_decides js k = Decides-contains js k (listed js k) (Decides-by_or (λ j. eqb j k) (λ j. j ≡ k) (λ l. listed l k) (λ j. Decides-eqb j k) refl (λ _ _. refl) js)

-- what is shown, where it is hidden only if there is nothing
idle : (o : Option Size) (b : Bool) → (b ≡ true → o ≡ None) → unless (λ _. b) o ≡ o
idle None b h = refl
idle (Some s) true h = sym (h refl)
idle (Some s) false h = refl

pub strike_laws : (struck : List ℕ) → StrikeLaws struck
strike_laws struck =
    record {
      empty = λ e shows k. subst (λ l. strike_shows l shows k ≡ shows k) (sym e) (idle (shows k) false (λ h. absurd (cc)));
      past = λ places shows beyond all k.
          idle (shows k) (listed (take 32 struck) k)
          (λ h. beyond k (All-contains (λ j. places ≤ j) (take 32 struck) k (All-from_recursion (λ j. places ≤ j) (take 32 struck) all) ((listed_decides (take 32 struck) k).0 h)));
      exist = λ shows all k. unless_exist (λ _. listed (take 32 struck) k) (shows k) (all k);
    }
