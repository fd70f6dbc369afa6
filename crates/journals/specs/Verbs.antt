-- The verbs of a journal.
use Rattle.std.specs.Prelude.{ℕ, List, codes}
use Rattle.journals.specs.declared.verbs.Verb.{Verb}
use Rattle.journals.specs.declared.verbs.Verb.TheVariants as verb

abbrev pub verb_word : Verb → List ℕ
verb_word verb.Receive = codes "receive"
verb_word verb.Draw = codes "draw"
verb_word verb.Tack = codes "tack"
verb_word verb.Back = codes "back"
verb_word verb.Press = codes "press"
verb_word verb.Void = codes "void"
verb_word verb.Tell = codes "tell"
