use Rattle.std.proofs.Common.{rules, tests}
use Rattle.std.proofs.lemmas.Iterator.{YieldsList-from_map, YieldsList-from_slice, YieldsList-from_zip, items_from_collect}
use Rattle.std.proofs.lemmas.Iterator.Consumers.{YieldsList-at}
use Rattle.plays.proofs.Pairing.{all_paired, done_of}
use Rattle.plays.proofs.lists.answered.Goals as goal

pub returns : goal.returns
returns c =
    let entries = c.args.entries.now in
    let answers = c.args.answers.now in
    let pairs = YieldsList-from_zip (YieldsList-at c.zip.ensures.first (YieldsList-from_slice entries (cc))) (YieldsList-at c.zip.ensures.second (YieldsList-from_slice answers (cc))) in
    all_paired entries answers c.collect.result
    (items_from_collect _ c.collect.ensures.ran (YieldsList-from_map _ done_of (YieldsList-at c.map.ensures.source pairs) c.map.ensures.closure (λ x r q k. search (rules, tests))))
