-- The block `coil`: its keys, its draft and the coil that a whole draft gives.
use Rattle.std.specs.Prelude.{◌≡◌, ℕ, Bool, List, is_some, None, Ok, codes, Result, ◌≢◌}
use Rattle.supplies.specs.Few.{few}
use Rattle.texts.specs.Drafts.{given, Filled}
use Rattle.texts.specs.Lines.{Taken, UpTo}
use Rattle.texts.specs.Numbers.{Whole}
use Rattle.piles.specs.declared.coils.Coil.{Coil}
use Rattle.piles.specs.declared.coils.CoilDraft.{CoilDraft}
use Rattle.piles.specs.declared.coils.CoilKey.{CoilKey}
use Rattle.piles.specs.declared.coils.CoilKey.TheVariants.{Family, Widths, First, Step, Steps}

abbrev pub coil_key_word : CoilKey → List ℕ
coil_key_word Family = codes "family"
coil_key_word Widths = codes "widths"
coil_key_word First = codes "first"
coil_key_word Step = codes "step"
coil_key_word Steps = codes "steps"

-- the draft has a value for the key
abbrev pub coil_has : CoilKey → CoilDraft → Bool
coil_has Family d = is_some d.family
coil_has Widths d = is_some d.widths
coil_has First d = is_some d.first
coil_has Step d = is_some d.step
coil_has Steps d = is_some d.steps

-- no key has come
abbrev pub empty_coil : CoilDraft
empty_coil = record { family = None; widths = None; first = None; step = None; steps = None }

-- every key but this one is as it was
pub record CoilKept (key : CoilKey) (before after : CoilDraft) : Type 0 where
  pub family : (key ≢ Family) → after.family ≡ before.family
  pub widths : (key ≢ Widths) → after.widths ≡ before.widths
  pub first : (key ≢ First) → after.first ≡ before.first
  pub step : (key ≢ Step) → after.step ≡ before.step
  pub steps : (key ≢ Steps) → after.steps ≡ before.steps

-- the key's value is what the first words of bs say
abbrev pub CoilTakes : CoilKey → List ℕ → CoilDraft → List ℕ → Type 0
CoilTakes Family bs d after = Filled d.family (λ n. Taken Whole bs n after)
CoilTakes Widths bs d after = Filled d.widths (λ f. UpTo 8 bs (few f) after)
CoilTakes First bs d after = Filled d.first (λ n. Taken Whole bs n after)
CoilTakes Step bs d after = Filled d.step (λ n. Taken Whole bs n after)
CoilTakes Steps bs d after = Filled d.steps (λ n. Taken Whole bs n after)

-- the coil of the draft, or the first key that it lacks
abbrev pub coil_of : CoilDraft → Result Coil CoilKey
coil_of d =
    given d.family Family (λ family.
    given d.widths Widths (λ widths.
    given d.first First (λ first.
    given d.step Step (λ step.
    given d.steps Steps (λ steps.
    Ok (record { family = family; widths = widths; first = first; step = step; steps = steps }))))))

-- the widths of the cutter
abbrev pub coil_widths : Coil → List ℕ
coil_widths c = few c.widths
