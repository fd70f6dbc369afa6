-- The entries paired with the answers.
use Rattle.std.proofs.Common.{◌≡◌, List, [], ◌∷◌, map, length, zip, Result, Ok, Err, IfOk, Vec, Global, refl, ap, arith}
use Rattle.std.specs.declared.alloc.AllocError.{AllocError}
use Rattle.journals.specs.declared.reader.Entry.{Entry}
use Rattle.yard.specs.declared.replays.Answer.{Answer}
use Rattle.plays.specs.Beside.{Beside}
use Rattle.plays.specs.declared.lists.Done.{Done}

abbrev pub done_of : Entry × Answer → Done
done_of p = record { line = p.0.line; call = p.0.call; answer = p.1 }

paired : (entries : List Entry) (answers : List Answer) → length entries ≡ length answers → Beside entries answers (map done_of (zip entries answers))
paired [] [] same = record { entered = refl; answered = refl }
paired [] (a ∷ answers) same = absurd (omega (arith, same))
paired (e ∷ entries) [] same = absurd (omega (arith, same))
paired (e ∷ entries) (a ∷ answers) same =
    let rest = paired entries answers (omega (arith, same)) in
    record { entered = ap (λ l. e ∷ l) rest.entered; answered = ap (λ l. a ∷ l) rest.answered }

pub all_paired : (entries : List Entry) (answers : List Answer) (r : Result (Vec Done Global) AllocError)
    → IfOk r (λ v. v.items ≡ map done_of (zip entries answers)) → IfOk r (λ v. length entries ≡ length answers → Beside entries answers v.items)
all_paired entries answers (Ok v) e = λ same. rw e (paired entries answers same)
all_paired entries answers (Err x) e = tt
