-- Each way ends its own block.
use Rattle.std.proofs.Common.{sym, ap, subst, rules}
use Rattle.jobs.specs.Reading.{Ended, said}
use Rattle.jobs.specs.declared.reader.Open.{Open}
use Rattle.jobs.specs.declared.reader.Reader.{Reader}
use Rattle.jobs.proofs.reader.Reader.close.Goals as goal

pub returns-clause-job : goal.returns-clause-job
returns-clause-job c =
    elim c.match-self.branch [
      | goal.in-Nothing w ↦ search rules
      | goal.in-Card+in_ok-whole-in-Card+in_ok-push-in-Card w ↦ search rules
      | goal.in-Member+in_ok-whole-in-Member+in_ok-push-in-Member w ↦ search rules
      | goal.in-Web+in_ok-whole-in-Web+in_ok-enter-in-Web w ↦ search rules
      | goal.in-Heel+in_ok-whole-in-Heel+in_ok-enter-in-Heel w ↦ search rules
      | goal.in-Splice+in_ok-whole-in-Splice+in_ok-enter-in-Splice w ↦ search rules
      | goal.in-List w ↦ search rules
      | goal.in-Coil+in_ok-whole-in-Coil w ↦
          subst (λ (o : Open). Ended o c.args.self.now.opened (said c.args.self.now.job) (said c.match-self.self.job)) (sym w.in-Coil.is)
          (w.in_ok-whole-in-Coil.field-0, w.in_ok-whole-in-Coil.ensures, ap (λ (r : Reader). said r.job) w.self-is)
      | goal.in-Press+in_ok-whole-in-Press+in_ok-push-in-Press w ↦ search rules
      | goal.in-Strike+in_ok-whole-in-Strike+in_ok-push-in-Strike w ↦ search rules
    ]
