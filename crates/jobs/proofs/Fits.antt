-- A job that is read in a format has what the format allows.
use Rattle.std.proofs.Common.{◌≡◌, ℕ, true, List, [], ◌∷◌, ◌++◌, sym, refl, subst}
use Rattle.std.specs.List.{AllByRecursion}
use Rattle.jobs.specs.Fits.{Fits, IsWeb}
use Rattle.jobs.specs.Openers.{allows}
use Rattle.jobs.specs.Reading.{Said, Ended, Keyed, started}
use Rattle.jobs.specs.Texts.{State, Step, Reading, JobOf, blank, opener, key, begun, nothing_said, step}
use Rattle.jobs.specs.declared.openers.Block.{Block}
use Rattle.jobs.specs.declared.openers.Block.TheVariants as block
use Rattle.jobs.specs.declared.openers.Format.{Format}
use Rattle.jobs.specs.declared.openers.Format.TheVariants as format
use Rattle.jobs.specs.declared.reader.Entry.{Entry}
use Rattle.jobs.specs.declared.reader.Open.{Open}
use Rattle.jobs.specs.declared.reader.Open.TheVariants as at

-- the open block is one of the format
abbrev IsOpen : Format → Open → Type 0
IsOpen format.Whole o = Unit {0}
IsOpen format.Webs at.Nothing = Unit {0}
IsOpen format.Webs (at.Card d) = Unit {0}
IsOpen format.Webs (at.Member d) = Unit {0}
IsOpen format.Webs (at.Web d) = Unit {0}
IsOpen format.Webs (at.Heel d) = ⊥
IsOpen format.Webs (at.Splice d) = ⊥
IsOpen format.Webs at.List = Unit {0}
IsOpen format.Webs (at.Coil d) = ⊥
IsOpen format.Webs (at.Press d) = ⊥
IsOpen format.Webs (at.Strike d) = ⊥

one_more : (P : Entry → Type 0) (es : List Entry) (e : Entry) → AllByRecursion P es → P e → AllByRecursion P (es ++ e ∷ [])
one_more P [] e h p = (p, tt)
one_more P (x ∷ es) e h p = (h.0, one_more P es e h.1 p)

ended : (f : Format) (o : Open) (n : ℕ) (before after : Said) → IsOpen f o → Fits f before → Ended o n before after → Fits f after
ended format.Whole o n before after i h e = tt
ended format.Webs at.Nothing n before after i h e = subst (Fits format.Webs) (sym e) h
ended format.Webs (at.Card d) n before after i h e = subst (Fits format.Webs) (sym e.2) h
ended format.Webs (at.Member d) n before after i h e = subst (Fits format.Webs) (sym e.2) h
ended format.Webs (at.Web d) n before after i h e = subst (Fits format.Webs) (sym e.2) (h.0, h.1, one_more (λ x. IsWeb x.sheet) before.sheets _ h.2 tt)
ended format.Webs (at.Heel d) n before after i h e = absurd i
ended format.Webs (at.Splice d) n before after i h e = absurd i
ended format.Webs at.List n before after i h e = subst (Fits format.Webs) (sym e) h
ended format.Webs (at.Coil d) n before after i h e = absurd i
ended format.Webs (at.Press d) n before after i h e = absurd i
ended format.Webs (at.Strike d) n before after i h e = absurd i

opened : (f : Format) (b : Block) → allows f b ≡ true → IsOpen f (started b)
opened format.Whole b a = tt
opened format.Webs block.Card a = tt
opened format.Webs block.Member a = tt
opened format.Webs block.Web a = tt
opened format.Webs block.Heel a = absurd (cc)
opened format.Webs block.Splice a = absurd (cc)
opened format.Webs block.List a = tt
opened format.Webs block.Coil a = absurd (cc)
opened format.Webs block.Press a = absurd (cc)
opened format.Webs block.Strike a = absurd (cc)

keyed : (f : Format) (w bs left : List ℕ) (o p : Open) (before after : Said) → IsOpen f o → Fits f before → Keyed w bs left o p before after → Fits f after × IsOpen f p
keyed format.Whole w bs left o p before after i h k = (tt, tt)
keyed format.Webs w bs left at.Nothing p before after i h k = absurd k
keyed format.Webs w bs left (at.Card d) p before after i h k = (subst (Fits format.Webs) (sym k.8) h, subst (IsOpen format.Webs) (sym k.2) tt)
keyed format.Webs w bs left (at.Member d) p before after i h k = (subst (Fits format.Webs) (sym k.8) h, subst (IsOpen format.Webs) (sym k.2) tt)
keyed format.Webs w bs left (at.Web d) p before after i h k = (subst (Fits format.Webs) (sym k.8) h, subst (IsOpen format.Webs) (sym k.2) tt)
keyed format.Webs w bs left (at.Heel d) p before after i h k = absurd i
keyed format.Webs w bs left (at.Splice d) p before after i h k = absurd i
keyed format.Webs w bs left at.List p before after i h k = (subst (Fits format.Webs) (sym k.4) h, subst (IsOpen format.Webs) (sym k.1) tt)
keyed format.Webs w bs left (at.Coil d) p before after i h k = absurd i
keyed format.Webs w bs left (at.Press d) p before after i h k = absurd i
keyed format.Webs w bs left (at.Strike d) p before after i h k = absurd i

stepped : {f : Format} {n : ℕ} {bs : List ℕ} {s t : State} → Step f n bs s t → Fits f s.job × IsOpen f s.block → Fits f t.job × IsOpen f t.block
stepped (blank e) h = h
stepped {f} {n} {bs} {s} {t} (opener {b = b} taken over o) h =
    (ended f s.block s.opened s.job t.job h.1 h.0 o.ended, subst (IsOpen f) (sym o.block) (opened f b taken.2.1))
stepped {f} {n} {bs} {s} {t} (key {w = w} {mid = mid} {left = left} first none b over) h = keyed f w mid left s.block t.block s.job t.job h.1 h.0 b.keyed

at_start : (f : Format) → Fits f nothing_said.job × IsOpen f nothing_said.block
at_start format.Whole = (tt, tt)
at_start format.Webs = ((refl, refl, tt), tt)

read : {f : Format} {text left : List ℕ} {n : ℕ} {s : State} → Reading f text n left s → Fits f s.job × IsOpen f s.block
read {f} begun = at_start f
read (step before line said turn) = stepped turn (read before)

pub job_fits : (f : Format) (text : List ℕ) (job : Said) → JobOf f text job → Fits f job
job_fits f text job (n, left, s, before, over, end) = let h = read before in ended f s.block s.opened s.job job h.1 h.0 end
