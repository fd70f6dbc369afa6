-- What every sheet says: its keys, its draft and the sheet that a whole draft gives.
use Rattle.std.specs.Prelude.{◌≡◌, ℕ, Bool, List, [], ◌∷◌, is_some, None, Ok, codes, Result, ◌≢◌, slice_index}
use Rattle.joints.specs.declared.sheets.Sheet.{Sheet}
use Rattle.texts.specs.Drafts.{given, Filled}
use Rattle.texts.specs.Lines.{Numbers, Taken, These}
use Rattle.texts.specs.Numbers.{Whole}
use Rattle.plates.specs.Turnings.{turning_word}
use Rattle.texts.specs.Words.{Named, area_word, duration_word, service_word, turnings_word}
use Rattle.blocks.specs.declared.sheets.SheetDraft.{SheetDraft}
use Rattle.blocks.specs.declared.sheets.SheetKey.{SheetKey}
use Rattle.blocks.specs.declared.sheets.SheetKey.TheVariants as key
use Rattle.blocks.specs.declared.sheets.Tried.{Tried}

abbrev pub sheet_key_word : SheetKey → List ℕ
sheet_key_word key.Members = codes "members"
sheet_key_word key.Truss = codes "truss"
sheet_key_word key.Duration = codes "duration"
sheet_key_word key.Service = codes "service"
sheet_key_word key.Area = codes "area"
sheet_key_word key.Turnings = codes "turnings"
sheet_key_word key.Try = codes "try"

-- the draft has a value for the key
abbrev pub sheet_has : SheetKey → SheetDraft → Bool
sheet_has key.Members d = is_some d.members
sheet_has key.Truss d = is_some d.truss
sheet_has key.Duration d = is_some d.duration
sheet_has key.Service d = is_some d.service
sheet_has key.Area d = is_some d.area
sheet_has key.Turnings d = is_some d.turnings
sheet_has key.Try d = is_some d.tried

-- no key has come
abbrev pub empty_sheet : SheetDraft
empty_sheet = record { members = None; truss = None; duration = None; service = None; area = None; turnings = None; tried = None }

-- every key but this one is as it was
pub record SheetKept (k : SheetKey) (before after : SheetDraft) : Type 0 where
  pub members : (k ≢ key.Members) → after.members ≡ before.members
  pub truss : (k ≢ key.Truss) → after.truss ≡ before.truss
  pub duration : (k ≢ key.Duration) → after.duration ≡ before.duration
  pub service : (k ≢ key.Service) → after.service ≡ before.service
  pub area : (k ≢ key.Area) → after.area ≡ before.area
  pub turnings : (k ≢ key.Turnings) → after.turnings ≡ before.turnings
  pub tried : (k ≢ key.Try) → after.tried ≡ before.tried

-- the first words of bs are the plate's width, length and family, and how it lies
abbrev pub TriedSaid : List ℕ → List ℕ → Tried → Type 0
TriedSaid bs after t =
    (mid : List ℕ) × Numbers bs (t.plate.width ∷ t.plate.length ∷ t.plate.family ∷ []) mid × Taken (Named turning_word) mid t.turning after

-- the key's value is what the first words of bs say
abbrev pub SheetTakes : SheetKey → List ℕ → SheetDraft → List ℕ → Type 0
SheetTakes key.Members bs d after = Filled d.members (λ v. These 2 bs v after)
SheetTakes key.Truss bs d after = Filled d.truss (λ n. Taken Whole bs n after)
SheetTakes key.Duration bs d after = Filled d.duration (λ x. Taken (Named duration_word) bs x after)
SheetTakes key.Service bs d after = Filled d.service (λ x. Taken (Named service_word) bs x after)
SheetTakes key.Area bs d after = Filled d.area (λ x. Taken (Named area_word) bs x after)
SheetTakes key.Turnings bs d after = Filled d.turnings (λ x. Taken (Named turnings_word) bs x after)
SheetTakes key.Try bs d after = Filled d.tried (TriedSaid bs after)

-- the sheet of the draft, or the first key that it lacks
abbrev pub sheet_of : SheetDraft → Result Sheet SheetKey
sheet_of d =
    given d.members key.Members (λ members.
    given d.truss key.Truss (λ truss.
    given d.duration key.Duration (λ duration.
    given d.service key.Service (λ service.
    given d.area key.Area (λ area.
    given d.turnings key.Turnings (λ turnings.
    Ok (record {
      first = slice_index members 0;
      count = slice_index members 1;
      conditions = record { truss = truss; duration = duration; service = service; area = area; turnings = turnings };
    })))))))
