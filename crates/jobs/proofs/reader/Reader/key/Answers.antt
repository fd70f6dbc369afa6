-- Each way adds a line to its own block.
use Rattle.std.proofs.Common.{◌≡◌, ℕ, List, codes, sym, ap, ◌∙◌, subst, rules}
use Rattle.supplies.specs.declared.list.Row.{Row}
use Rattle.texts.specs.Lines.{rest}
use Rattle.texts.specs.declared.line.Line.{Line}
use Rattle.jobs.specs.Reading.{Keyed, RowSaid, with_row}
use Rattle.jobs.specs.Texts.{Belongs, State, state}
use Rattle.jobs.specs.declared.reader.Open.{Open}
use Rattle.jobs.specs.declared.reader.Open.TheVariants as at
use Rattle.jobs.proofs.reader.Reader.key.Goals as goal

-- one more row of a list
one_row : (w bs left : List ℕ) (s t : State) (x : Row) → s.block ≡ at.List → t ≡ record { block = s.block; opened = s.opened; stocked = s.stocked; job = with_row s.job x }
    → w ≡ codes "plate" → RowSaid bs left x → Belongs w bs left s t
one_row w bs left s t x is e word row =
    record {
      keyed = subst (λ (o : Open). Keyed w bs left o t.block s.job t.job) (sym is) (x, (cc), word, row, (cc));
      opened = cc;
      stocked = cc;
    }

pub returns : goal.returns
returns c =
    elim c.match-self.branch [
      | goal.in-Card+in_ok-with_line-in-Card w ↦ search rules
      | goal.in-Member+in_ok-with_line-in-Member w ↦ search rules
      | goal.in-Web+in_ok-with_line-in-Web w ↦ search rules
      | goal.in-Heel+in_ok-with_line-in-Heel w ↦ search rules
      | goal.in-Splice+in_ok-with_line-in-Splice w ↦ search rules
      | goal.in-List+in_ok-plate_row-in-List+in_ok-push-in-List w ↦
          let s = state c.args.self.now in
          let x = w.in_ok-plate_row-in-List.field-0 in
          let said = w.in_ok-plate_row-in-List.ensures in
          let grown : List Row → State = λ rows. record {
            block = s.block;
            opened = s.opened;
            stocked = s.stocked;
            job = record { cards = s.job.cards; members = s.job.members; sheets = s.job.sheets; rows = rows; coil = s.job.coil; layers = s.job.layers };
          }
          in
          let more = ap state w.self-is ∙ ap grown w.in_ok-push-in-List.ensures.items in
          let row = subst (λ (l : Line). RowSaid (rest c.args.line.now) (rest l) x) (sym w.line-is) said.row in
          one_row c.args.word.now (rest c.args.line.now) (rest c.match-self.line) s (state c.match-self.self) x w.in-List.is more said.word row
      | goal.in-Coil+in_ok-with_line-in-Coil w ↦ search rules
      | goal.in-Press+in_ok-with_line-in-Press w ↦ search rules
      | goal.in-Strike+in_ok-with_line-in-Strike w ↦ search rules
    ]
