-- The text block by block: what each step adds to the job.
use Rattle.std.specs.Prelude.{◌≡◌, ℕ, Bool, true, false, List, [], ◌∷◌, ◌++◌, Some, Ok, vec_items, codes, Option, Result}
use Rattle.rules.specs.declared.terms.Card.{Card}
use Rattle.rules.specs.declared.terms.Member.{Member}
use Rattle.joints.specs.declared.any.AnySheet.TheVariants as sheet
use Rattle.supplies.specs.declared.layered.Layer.{Layer}
use Rattle.supplies.specs.declared.list.Row.{Row}
use Rattle.texts.specs.Lines.{Numbers}
use Rattle.blocks.specs.Cards.{empty_card, card_key_word, card_has, CardKept, CardTakes, card_of}
use Rattle.blocks.specs.Heels.{empty_heel, heel_key_word, heel_has, HeelKept, HeelTakes, heel_of}
use Rattle.blocks.specs.Members.{empty_member, member_key_word, member_has, MemberKept, MemberTakes, member_of}
use Rattle.blocks.specs.Sheets.{empty_sheet, sheet_key_word, sheet_has, SheetKept, SheetTakes, sheet_of}
use Rattle.blocks.specs.Splices.{empty_splice, splice_key_word, splice_has, SpliceKept, SpliceTakes, splice_of}
use Rattle.piles.specs.Coils.{empty_coil, coil_key_word, coil_has, CoilKept, CoilTakes, coil_of}
use Rattle.piles.specs.Presses.{empty_press, press_key_word, press_has, PressKept, PressTakes, press_of}
use Rattle.piles.specs.Strikes.{empty_strike, strike_key_word, strike_has, StrikeKept, StrikeTakes, strike_of}
use Rattle.piles.specs.declared.coils.Coil.{Coil}
use Rattle.jobs.specs.declared.openers.Block.{Block}
use Rattle.jobs.specs.declared.openers.Block.TheVariants as block
use Rattle.jobs.specs.declared.reader.Entry.{Entry}
use Rattle.jobs.specs.declared.reader.Job.{Job}
use Rattle.jobs.specs.declared.reader.Open.{Open}
use Rattle.jobs.specs.declared.reader.Open.TheVariants as at

-- a job by its lists
pub record Said : Type 0 where
  pub cards : List Card
  pub members : List Member
  pub sheets : List Entry
  pub rows : List Row
  pub coil : Option Coil
  pub layers : List Layer

abbrev pub said : Job → Said
said j =
    record {
      cards = vec_items j.cards;
      members = vec_items j.members;
      sheets = vec_items j.sheets;
      rows = vec_items j.rows;
      coil = j.coil;
      layers = vec_items j.layers;
    }

abbrev pub with_card : Said → Card → Said
with_card s x = record { cards = s.cards ++ x ∷ []; members = s.members; sheets = s.sheets; rows = s.rows; coil = s.coil; layers = s.layers }

abbrev pub with_member : Said → Member → Said
with_member s x = record { cards = s.cards; members = s.members ++ x ∷ []; sheets = s.sheets; rows = s.rows; coil = s.coil; layers = s.layers }

abbrev pub with_sheet : Said → Entry → Said
with_sheet s x = record { cards = s.cards; members = s.members; sheets = s.sheets ++ x ∷ []; rows = s.rows; coil = s.coil; layers = s.layers }

abbrev pub with_row : Said → Row → Said
with_row s x = record { cards = s.cards; members = s.members; sheets = s.sheets; rows = s.rows ++ x ∷ []; coil = s.coil; layers = s.layers }

abbrev pub with_coil : Said → Coil → Said
with_coil s x = record { cards = s.cards; members = s.members; sheets = s.sheets; rows = s.rows; coil = Some x; layers = s.layers }

abbrev pub with_layer : Said → Layer → Said
with_layer s x = record { cards = s.cards; members = s.members; sheets = s.sheets; rows = s.rows; coil = s.coil; layers = s.layers ++ x ∷ [] }

-- the draft is whole, and what it gives joins the job
abbrev pub Joins : {X K : Type 0} → Result X K → (Said → X → Said) → Said → Said → Type 0
Joins {X} given with before after = (x : X) × (given ≡ Ok x) × (after ≡ with before x)

-- the end of a block that line n opened: what its draft gives comes last in its list
abbrev pub Ended : Open → ℕ → Said → Said → Type 0
Ended at.Nothing n before after = after ≡ before
Ended (at.Card d) n before after = Joins (card_of d) with_card before after
Ended (at.Member d) n before after = Joins (member_of d) with_member before after
Ended (at.Web d) n before after = Joins (sheet_of d) (λ s x. with_sheet s (record { line = n; block = block.Web; sheet = sheet.Web x; tried = d.tried })) before after
Ended (at.Heel d) n before after = Joins (heel_of d) (λ s x. with_sheet s (record { line = n; block = block.Heel; sheet = sheet.Heel x; tried = d.sheet.tried })) before after
Ended (at.Splice d) n before after = Joins (splice_of d) (λ s x. with_sheet s (record { line = n; block = block.Splice; sheet = sheet.Splice x; tried = d.sheet.tried })) before after
Ended at.List n before after = after ≡ before
Ended (at.Coil d) n before after = Joins (coil_of d) with_coil before after
Ended (at.Press d) n before after = Joins (press_of d) with_layer before after
Ended (at.Strike d) n before after = Joins (strike_of d) with_layer before after

-- a block as it is opened
abbrev pub started : Block → Open
started block.Card = at.Card empty_card
started block.Member = at.Member empty_member
started block.Web = at.Web empty_sheet
started block.Heel = at.Heel empty_heel
started block.Splice = at.Splice empty_splice
started block.List = at.List
started block.Coil = at.Coil empty_coil
started block.Press = at.Press empty_press
started block.Strike = at.Strike empty_strike

-- the first words of bs are the row's width, length and family
abbrev pub RowSaid : List ℕ → List ℕ → Row → Type 0
RowSaid bs left x = Numbers bs (x.width ∷ x.length ∷ x.family ∷ []) left

-- w is a key that the draft d had not and e has, with the value that bs says up to left; every other key is as it was, and so is
-- the job
abbrev pub OneMore : {D K : Type 0} → (K → List ℕ) → (K → D → Bool) → (K → D → D → Type 0) → (K → List ℕ → D → List ℕ → Type 0) → (D → Open) → List ℕ → List ℕ → List ℕ → D → Open → Said → Said → Type 0
OneMore {D} {K} word has kept takes held w bs left d o before after =
    (e : D) × (k : K) × (o ≡ held e) × (w ≡ word k) × (has k d ≡ false) × (has k e ≡ true) × kept k d e × takes k bs e left × (after ≡ before)

-- a line of the word w and bs, which is read up to left: one more key, or one more row
abbrev pub Keyed : List ℕ → List ℕ → List ℕ → Open → Open → Said → Said → Type 0
Keyed w bs left at.Nothing o before after = ⊥
Keyed w bs left (at.Card d) o before after = OneMore card_key_word card_has CardKept CardTakes at.Card w bs left d o before after
Keyed w bs left (at.Member d) o before after = OneMore member_key_word member_has MemberKept MemberTakes at.Member w bs left d o before after
Keyed w bs left (at.Web d) o before after = OneMore sheet_key_word sheet_has SheetKept SheetTakes at.Web w bs left d o before after
Keyed w bs left (at.Heel d) o before after = OneMore heel_key_word heel_has HeelKept HeelTakes at.Heel w bs left d o before after
Keyed w bs left (at.Splice d) o before after = OneMore splice_key_word splice_has SpliceKept SpliceTakes at.Splice w bs left d o before after
Keyed w bs left at.List o before after = (x : Row) × (o ≡ at.List) × (w ≡ codes "plate") × RowSaid bs left x × (after ≡ with_row before x)
Keyed w bs left (at.Coil d) o before after = OneMore coil_key_word coil_has CoilKept CoilTakes at.Coil w bs left d o before after
Keyed w bs left (at.Press d) o before after = OneMore press_key_word press_has PressKept PressTakes at.Press w bs left d o before after
Keyed w bs left (at.Strike d) o before after = OneMore strike_key_word strike_has StrikeKept StrikeTakes at.Strike w bs left d o before after
