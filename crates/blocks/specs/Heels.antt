-- The block `heel`: its keys, its draft and the sheet that a whole draft gives.
use Rattle.std.specs.Prelude.{◌≡◌, ℕ, Bool, List, is_some, None, Ok, codes, Result, slice_index}
use Rattle.joints.specs.declared.sheets.HeelSheet.{HeelSheet}
use Rattle.texts.specs.Drafts.{given, within, Filled}
use Rattle.texts.specs.Lines.{Taken, These}
use Rattle.texts.specs.Words.{Named, rule_word}
use Rattle.blocks.specs.Sheets.{sheet_key_word, sheet_has, empty_sheet, SheetKept, SheetTakes, sheet_of}
use Rattle.blocks.specs.declared.heels.HeelDraft.{HeelDraft}
use Rattle.blocks.specs.declared.heels.HeelKey.{HeelKey}
use Rattle.blocks.specs.declared.heels.HeelKey.TheVariants as key

abbrev pub heel_key_word : HeelKey → List ℕ
heel_key_word (key.Sheet k) = sheet_key_word k
heel_key_word key.Slope = codes "slope"
heel_key_word key.Rule = codes "rule"

-- the draft has a value for the key
abbrev pub heel_has : HeelKey → HeelDraft → Bool
heel_has (key.Sheet k) d = sheet_has k d.sheet
heel_has key.Slope d = is_some d.slope
heel_has key.Rule d = is_some d.rule

-- no key has come
abbrev pub empty_heel : HeelDraft
empty_heel = record { sheet = empty_sheet; slope = None; rule = None }

-- every key but this one is as it was
abbrev pub HeelKept : HeelKey → HeelDraft → HeelDraft → Type 0
HeelKept (key.Sheet k) before after = SheetKept k before.sheet after.sheet × (after.slope ≡ before.slope) × (after.rule ≡ before.rule)
HeelKept key.Slope before after = (after.sheet ≡ before.sheet) × (after.rule ≡ before.rule)
HeelKept key.Rule before after = (after.sheet ≡ before.sheet) × (after.slope ≡ before.slope)

-- the key's value is what the first words of bs say
abbrev pub HeelTakes : HeelKey → List ℕ → HeelDraft → List ℕ → Type 0
HeelTakes (key.Sheet k) bs d after = SheetTakes k bs d.sheet after
HeelTakes key.Slope bs d after = Filled d.slope (λ v. These 2 bs v after)
HeelTakes key.Rule bs d after = Filled d.rule (λ x. Taken (Named rule_word) bs x after)

-- the sheet of the draft, or the first key that it lacks; the rule may be lacking
abbrev pub heel_of : HeelDraft → Result HeelSheet HeelKey
heel_of d =
    within key.Sheet (sheet_of d.sheet) (λ sheet.
    given d.slope key.Slope (λ slope.
    Ok (record { sheet = sheet; rise = slice_index slope 0; run = slice_index slope 1; rule = d.rule })))
