-- The block `splice`: its keys, its draft and the sheet that a whole draft gives.
use Rattle.std.specs.Prelude.{◌≡◌, ℕ, Bool, List, is_some, None, Ok, codes, Result}
use Rattle.joints.specs.declared.sheets.SpliceSheet.{SpliceSheet}
use Rattle.texts.specs.Drafts.{given, within, Filled}
use Rattle.texts.specs.Lines.{Taken}
use Rattle.texts.specs.Numbers.{Whole}
use Rattle.blocks.specs.Sheets.{sheet_key_word, sheet_has, empty_sheet, SheetKept, SheetTakes, sheet_of}
use Rattle.blocks.specs.declared.splices.SpliceDraft.{SpliceDraft}
use Rattle.blocks.specs.declared.splices.SpliceKey.{SpliceKey}
use Rattle.blocks.specs.declared.splices.SpliceKey.TheVariants as key

abbrev pub splice_key_word : SpliceKey → List ℕ
splice_key_word (key.Sheet k) = sheet_key_word k
splice_key_word key.Moment = codes "moment"
splice_key_word key.Wood = codes "wood"

-- the draft has a value for the key
abbrev pub splice_has : SpliceKey → SpliceDraft → Bool
splice_has (key.Sheet k) d = sheet_has k d.sheet
splice_has key.Moment d = is_some d.moment
splice_has key.Wood d = is_some d.wood

-- no key has come
abbrev pub empty_splice : SpliceDraft
empty_splice = record { sheet = empty_sheet; moment = None; wood = None }

-- every key but this one is as it was
abbrev pub SpliceKept : SpliceKey → SpliceDraft → SpliceDraft → Type 0
SpliceKept (key.Sheet k) before after = SheetKept k before.sheet after.sheet × (after.moment ≡ before.moment) × (after.wood ≡ before.wood)
SpliceKept key.Moment before after = (after.sheet ≡ before.sheet) × (after.wood ≡ before.wood)
SpliceKept key.Wood before after = (after.sheet ≡ before.sheet) × (after.moment ≡ before.moment)

-- the key's value is what the first words of bs say
abbrev pub SpliceTakes : SpliceKey → List ℕ → SpliceDraft → List ℕ → Type 0
SpliceTakes (key.Sheet k) bs d after = SheetTakes k bs d.sheet after
SpliceTakes key.Moment bs d after = Filled d.moment (λ n. Taken Whole bs n after)
SpliceTakes key.Wood bs d after = Filled d.wood (λ n. Taken Whole bs n after)

-- the sheet of the draft, or the first key that it lacks
abbrev pub splice_of : SpliceDraft → Result SpliceSheet SpliceKey
splice_of d =
    within key.Sheet (sheet_of d.sheet) (λ sheet.
    given d.moment key.Moment (λ moment.
    given d.wood key.Wood (λ wood.
    Ok (record { sheet = sheet; moment = moment; wood = wood }))))
