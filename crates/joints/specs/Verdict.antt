-- The verdict over a list of checks, in the order in which they are tried.
use Rattle.std.specs.Prelude.{◌≡◌, ℕ, Bool, true, false, cond, List, [], ◌∷◌, ◌++◌, Some, None, Option}
use Rattle.std.specs.List.{AllByRecursion}
use Rattle.plates.specs.declared.verdicts.Clause.{Clause}
use Rattle.plates.specs.declared.verdicts.Verdict.{Verdict}
use Rattle.plates.specs.declared.verdicts.Verdict.TheVariants.{Passes, Misses}
use Rattle.rules.specs.declared.terms.Member.{Member}
use Rattle.joints.specs.Scan.{first_failing, FirstFailing}

-- a clause asks something of the joint as a whole, or of each member
pub data Check : Type 0 where
  whole : Clause → Bool → Check
  each : Clause → (Member → Bool) → Check

-- the clause is missed at the member, or the verdict is what comes after
abbrev pub missed_at : Clause → Option ℕ → Verdict → Verdict
missed_at c None v = v
missed_at c (Some k) v = Misses c k

-- the first check missed, with its first member in sheet order, counted from 1
abbrev pub first_missed : List Check → List Member → Verdict
first_missed [] ms = Passes
first_missed (whole c b ∷ ks) ms = cond b (first_missed ks ms) (Misses c 0)
first_missed (each c p ∷ ks) ms = missed_at c (first_failing p 1 ms) (first_missed ks ms)

-- every member meets the check, or the joint does as a whole
abbrev pub Met : List Member → Check → Type 0
Met ms (whole c b) = b ≡ true
Met ms (each c p) = AllByRecursion (λ m. p m ≡ true) ms

-- the check of clause c is missed by the joint, as member 0, or by member k and by none before it
abbrev pub Missed : List Member → Check → Clause → ℕ → Type 0
Missed ms (whole c b) d k = (b ≡ false) × (c ≡ d) × (k ≡ 0)
Missed ms (each c p) d k = FirstFailing p 1 ms k × (c ≡ d)

-- what a verdict means: 'passes', that every check is met; else that the check it names is
-- missed at the member it names, and every earlier check is met
pub record MissesFirst (ks : List Check) (ms : List Member) (c : Clause) (k : ℕ) : Type 0 where
  pub met : List Check
  pub missed : Check
  pub later : List Check
  pub split : ks ≡ met ++ missed ∷ later
  pub passed : AllByRecursion (Met ms) met
  pub fails : Missed ms missed c k

abbrev pub Judges : List Check → List Member → Verdict → Type 0
Judges ks ms Passes = AllByRecursion (Met ms) ks
Judges ks ms (Misses c k) = MissesFirst ks ms c k
