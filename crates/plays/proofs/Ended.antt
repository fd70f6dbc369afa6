-- What was played, put together.
use Rattle.std.proofs.Common.{◌≡◌, ℕ, List, [], map, length, Option, sym, ap, ◌∙◌, subst, arith}
use Rattle.std.proofs.lemmas.List.{length-map}
use Rattle.plates.specs.Size.{Size}
use Rattle.journals.specs.declared.reader.Entry.{Entry}
use Rattle.yard.specs.Counts.{Count}
use Rattle.yard.specs.Hooks.{open_slips}
use Rattle.yard.specs.Replays.{Means, Replayed}
use Rattle.yard.specs.declared.hooks.OpenSlip.{OpenSlip}
use Rattle.yard.specs.declared.replays.Answer.{Answer}
use Rattle.yard.specs.declared.replays.Call.{Call}
use Rattle.yard.specs.declared.replays.Hook.{Hook}
use Rattle.plays.specs.Beside.{Beside}
use Rattle.plays.specs.Plays.{Plays}
use Rattle.plays.specs.declared.lists.Done.{Done}

pub ended : (joints : List Means) (places : ℕ) (shows : ℕ → Option Size) (stamp : ℕ) (entries : List Entry) (calls : List Call) (said shown : List Answer) (brought rack hung : List Hook) (counts : List Count) (done : List Done) (slips : List OpenSlip)
    → calls ≡ map (λ e. e.call) entries → brought ≡ [] → Replayed joints places shows stamp brought calls said rack counts → length said ≡ length calls
    → shown ≡ said → (length entries ≡ length shown → Beside entries shown done)
    → hung ≡ rack → slips ≡ open_slips 0 hung
    → Plays joints places shows stamp entries done slips counts
ended joints places shows stamp entries calls said shown brought rack hung counts done slips called none replayed every is_said pairing is-rack open_ones =
    let count : length entries ≡ length shown = omega (arith, simp length-map at (ap length called), every, ap length is_said) in
    let pairs = pairing count in
    let fresh = subst (λ b. Replayed joints places shows stamp b calls said rack counts) none replayed in
    let of-entries = subst (λ cs. Replayed joints places shows stamp [] cs said rack counts) called fresh in
    record {
      rack = rack;
      every = pairs.entered;
      replayed = subst (λ l. Replayed joints places shows stamp [] (map (λ e. e.call) entries) l rack counts) (sym (pairs.answered ∙ is_said)) of-entries;
      open_ones = open_ones ∙ ap (open_slips 0) is-rack;
    }
