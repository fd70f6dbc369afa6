-- The entries of a journal beside the answers of their calls.
use Rattle.std.specs.Prelude.{◌≡◌, List, map}
use Rattle.journals.specs.declared.reader.Entry.{Entry}
use Rattle.yard.specs.declared.replays.Answer.{Answer}
use Rattle.plays.specs.declared.lists.Done.{Done}

abbrev pub entry_of : Done → Entry
entry_of d = record { line = d.line; call = d.call }

abbrev pub answer_of : Done → Answer
answer_of d = d.answer

-- done is each of the entries with its answer, in their order
pub record Beside (entries : List Entry) (answers : List Answer) (done : List Done) : Type 0 where
  pub entered : map entry_of done ≡ entries
  pub answered : map answer_of done ≡ answers
