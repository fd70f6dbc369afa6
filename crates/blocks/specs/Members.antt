-- The block `member`: its keys, its draft and the member that a whole draft gives.
use Rattle.std.specs.Prelude.{◌≡◌, ℕ, Bool, List, [], ◌∷◌, ℤ, is_some, None, Ok, codes, Option, Result, ◌≢◌}
use Rattle.rules.specs.declared.terms.Field.{Field}
use Rattle.rules.specs.declared.terms.Mark.{Mark}
use Rattle.rules.specs.declared.terms.Member.{Member}
use Rattle.texts.specs.Drafts.{given, Filled}
use Rattle.texts.specs.Lines.{Each, Taken}
use Rattle.texts.specs.Numbers.{Whole, Signed}
use Rattle.texts.specs.Words.{Named, axis_word, force_word, mark_word, species_word}
use Rattle.blocks.specs.declared.members.MemberDraft.{MemberDraft}
use Rattle.blocks.specs.declared.members.Sides.{Sides}
use Rattle.blocks.specs.declared.members.MemberKey.{MemberKey}
use Rattle.blocks.specs.declared.members.MemberKey.TheVariants as key

abbrev pub member_key_word : MemberKey → List ℕ
member_key_word key.Force = codes "force"
member_key_word key.Normal = codes "normal"
member_key_word key.Parallel = codes "parallel"
member_key_word key.Specified = codes "specified"
member_key_word key.Cross = codes "cross"
member_key_word key.Theta = codes "theta"
member_key_word key.Rho = codes "rho"
member_key_word key.Sigma = codes "sigma"
member_key_word key.Depth = codes "depth"
member_key_word key.Species = codes "species"
member_key_word key.Grain = codes "grain"
member_key_word key.Interface = codes "interface"
member_key_word key.Field = codes "field"
member_key_word key.Marks = codes "marks"

-- the draft has a value for the key
abbrev pub member_has : MemberKey → MemberDraft → Bool
member_has key.Force d = is_some d.force
member_has key.Normal d = is_some d.normal
member_has key.Parallel d = is_some d.parallel
member_has key.Specified d = is_some d.specified
member_has key.Cross d = is_some d.cross
member_has key.Theta d = is_some d.theta
member_has key.Rho d = is_some d.rho
member_has key.Sigma d = is_some d.sigma
member_has key.Depth d = is_some d.depth
member_has key.Species d = is_some d.species
member_has key.Grain d = is_some d.grain
member_has key.Interface d = is_some d.interface
member_has key.Field d = is_some d.field
member_has key.Marks d = is_some d.marks

-- no key has come
abbrev pub empty_member : MemberDraft
empty_member = record { force = None; normal = None; parallel = None; specified = None; cross = None; theta = None; rho = None; sigma = None; depth = None; species = None; grain = None; interface = None; field = None; marks = None }

-- every key but this one is as it was
pub record MemberKept (k : MemberKey) (before after : MemberDraft) : Type 0 where
  pub force : (k ≢ key.Force) → after.force ≡ before.force
  pub normal : (k ≢ key.Normal) → after.normal ≡ before.normal
  pub parallel : (k ≢ key.Parallel) → after.parallel ≡ before.parallel
  pub specified : (k ≢ key.Specified) → after.specified ≡ before.specified
  pub cross : (k ≢ key.Cross) → after.cross ≡ before.cross
  pub theta : (k ≢ key.Theta) → after.theta ≡ before.theta
  pub rho : (k ≢ key.Rho) → after.rho ≡ before.rho
  pub sigma : (k ≢ key.Sigma) → after.sigma ≡ before.sigma
  pub depth : (k ≢ key.Depth) → after.depth ≡ before.depth
  pub species : (k ≢ key.Species) → after.species ≡ before.species
  pub grain : (k ≢ key.Grain) → after.grain ≡ before.grain
  pub interface : (k ≢ key.Interface) → after.interface ≡ before.interface
  pub field : (k ≢ key.Field) → after.field ≡ before.field
  pub marks : (k ≢ key.Marks) → after.marks ≡ before.marks

-- the first words of bs are x0, x1, y0 and y1
unfoldable pub SidesSaid : {X : Type 0} → (List ℕ → Option X → Type 0) → List ℕ → List ℕ → Sides X → Type 0
SidesSaid reads bs after s = Each reads bs (s.x0 ∷ s.x1 ∷ s.y0 ∷ s.y1 ∷ []) after

-- the key's value is what the first words of bs say
abbrev pub MemberTakes : MemberKey → List ℕ → MemberDraft → List ℕ → Type 0
MemberTakes key.Force bs d after = Filled d.force (λ x. Taken (Named force_word) bs x after)
MemberTakes key.Normal bs d after = Filled d.normal (λ n. Taken Whole bs n after)
MemberTakes key.Parallel bs d after = Filled d.parallel (λ n. Taken Whole bs n after)
MemberTakes key.Specified bs d after = Filled d.specified (λ n. Taken Whole bs n after)
MemberTakes key.Cross bs d after = Filled d.cross (λ n. Taken Whole bs n after)
MemberTakes key.Theta bs d after = Filled d.theta (λ n. Taken Whole bs n after)
MemberTakes key.Rho bs d after = Filled d.rho (λ n. Taken Whole bs n after)
MemberTakes key.Sigma bs d after = Filled d.sigma (λ n. Taken Whole bs n after)
MemberTakes key.Depth bs d after = Filled d.depth (λ n. Taken Whole bs n after)
MemberTakes key.Species bs d after = Filled d.species (λ x. Taken (Named species_word) bs x after)
MemberTakes key.Grain bs d after = Filled d.grain (λ x. Taken (Named axis_word) bs x after)
MemberTakes key.Interface bs d after = Filled d.interface (λ x. Taken (Named axis_word) bs x after)
MemberTakes key.Field bs d after = Filled d.field (SidesSaid Signed bs after)
MemberTakes key.Marks bs d after = Filled d.marks (SidesSaid (Named mark_word) bs after)

-- the field of these sides, each with its mark
abbrev pub marked : Sides ℤ → Sides Mark → Field
marked at marks =
    record {
      x = record { low = at.x0; high = at.x1; low_mark = marks.x0; high_mark = marks.x1 };
      y = record { low = at.y0; high = at.y1; low_mark = marks.y0; high_mark = marks.y1 };
    }

-- the member of the draft, or the first key that it lacks
abbrev pub member_of : MemberDraft → Result Member MemberKey
member_of d =
    given d.force key.Force (λ force.
    given d.normal key.Normal (λ normal.
    given d.parallel key.Parallel (λ parallel.
    given d.specified key.Specified (λ specified.
    given d.cross key.Cross (λ cross.
    given d.theta key.Theta (λ theta.
    given d.rho key.Rho (λ rho.
    given d.sigma key.Sigma (λ sigma.
    given d.depth key.Depth (λ depth.
    given d.species key.Species (λ species.
    given d.grain key.Grain (λ grain.
    given d.interface key.Interface (λ interface.
    given d.field key.Field (λ field.
    given d.marks key.Marks (λ marks.
    Ok (record { force = force; normal = normal; parallel = parallel; specified = specified; cross = cross; theta = theta; rho = rho; sigma = sigma; depth = depth; species = species; grain = grain; interface = interface; field = marked field marks })))))))))))))))
