-- The ranges within which a trial and a section are computed.
use Rattle.std.specs.Prelude.{◌≤◌}
use Rattle.rules.specs.Ranges.{CardWithin}
use Rattle.clauses.specs.declared.splices.Section.{Section}
use Rattle.clauses.specs.declared.trials.Trial.{Trial}

pub record TrialWithin (t : Trial) : Type 0 where
  pub factor : t.factor ≤ 100
  pub card : CardWithin t.card

pub record SectionWithin (s : Section) : Type 0 where
  pub depth : s.depth ≤ 286
  pub wood_low : 1 ≤ s.wood
  pub wood_high : s.wood ≤ 400
  pub side : s.side ≤ 1000
  pub steel : s.steel ≤ 20000
  pub pull : s.pull ≤ 200000
