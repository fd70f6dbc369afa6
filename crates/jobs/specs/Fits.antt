-- What a job of a format can have.
use Rattle.std.specs.Prelude.{◌≡◌, [], None}
use Rattle.std.specs.List.{AllByRecursion}
use Rattle.joints.specs.declared.any.AnySheet.{AnySheet}
use Rattle.joints.specs.declared.any.AnySheet.TheVariants as sheet
use Rattle.jobs.specs.Reading.{Said}
use Rattle.jobs.specs.declared.openers.Format.{Format}
use Rattle.jobs.specs.declared.openers.Format.TheVariants as format

abbrev pub IsWeb : AnySheet → Type 0
IsWeb (sheet.Web s) = Unit {0}
IsWeb (sheet.Heel s) = ⊥
IsWeb (sheet.Splice s) = ⊥

-- one of web joints has web sheets, and no plates but those of its list
abbrev pub Fits : Format → Said → Type 0
Fits format.Webs job = (job.coil ≡ None) × (job.layers ≡ []) × AllByRecursion (λ e. IsWeb e.sheet) job.sheets
Fits format.Whole job = Unit {0}
