-- A journal that was played: its calls on a new yard, with no slip brought along.
use Rattle.std.specs.Prelude.{◌≡◌, ℕ, List, [], map, Option}
use Rattle.plates.specs.Size.{Size}
use Rattle.journals.specs.declared.reader.Entry.{Entry}
use Rattle.yard.specs.Counts.{Count}
use Rattle.yard.specs.Hooks.{open_slips}
use Rattle.yard.specs.Replays.{Means, Replayed}
use Rattle.yard.specs.declared.hooks.OpenSlip.{OpenSlip}
use Rattle.yard.specs.declared.replays.Hook.{Hook}
use Rattle.plays.specs.Beside.{answer_of, entry_of}
use Rattle.plays.specs.declared.lists.Done.{Done}

-- every entry was done and has its answer, the law of the books holds for what was done, and the
-- open slips are those that hung on the rack in the end
pub record Plays (joints : List Means) (places : ℕ) (shows : ℕ → Option Size) (stamp : ℕ) (entries : List Entry) (done : List Done) (slips : List OpenSlip) (counts : List Count) : Type 0 where
  pub rack : List Hook
  pub every : map entry_of done ≡ entries
  pub replayed : Replayed joints places shows stamp [] (map (λ e. e.call) entries) (map answer_of done) rack counts
  pub open_ones : slips ≡ open_slips 0 rack
