use Rattle.std.proofs.Common.{◌≡◌, ◌+◌, rules, arith}
use borrow.Author.Tests.{tests}
use Rattle.std.proofs.lemmas.Iterator.{YieldsList-from_slice}
use Rattle.std.proofs.lemmas.Grind.{common_steps}
use Rattle.std.specs.Option.{option_map}
use Rattle.joints.specs.Grounds.{member_ranged, card_ranged, drawn}
use Rattle.joints.specs.Scan.{first_failing}
use Rattle.joints.proofs.Scanning.{found_at}
use Rattle.joints.proofs.grounds.numbers_stand.Goals as goal
use Rattle.joints.proofs.grounds.numbers_stand.Goals.{After-position, After-position-2, After-position-3}

members_found : (c : After-position) → option_map (λ i. c.args.sheet.now.first + i) c.position.result ≡ first_failing member_ranged c.args.sheet.now.first c.own-own.result.now
members_found c = found_at member_ranged c.args.sheet.now.first _ _ _ c.position.ensures.ran (YieldsList-from_slice c.own-own.result.now cc) (λ x q k. search (rules, tests)) (λ x q k. search (rules, tests))

cards_found : (c : After-position-2) → option_map (λ i. 0 + i) c.position-2.result ≡ first_failing card_ranged 0 c.read_cards.result.now
cards_found c = found_at card_ranged 0 _ _ _ c.position-2.ensures.ran (YieldsList-from_slice c.read_cards.result.now cc) (λ x q k. search (rules, tests)) (λ x q k. search (rules, tests))

fields_found : (c : After-position-3) → option_map (λ i. c.args.sheet.now.first + i) c.position-3.result ≡ first_failing drawn c.args.sheet.now.first c.own-own.result.now
fields_found c = found_at drawn c.args.sheet.now.first _ _ _ c.position-3.ensures.ran (YieldsList-from_slice c.own-own.result.now cc) (λ x q k. search (rules, tests)) (λ x q k. search (rules, tests))

pub returns-in-Some : goal.returns-in-Some
returns-in-Some c =
    let a = members_found (goal.at.returns-in-Some c).After-position in
    grind (arith, common_steps, a)

pub returns-in-Some-position : goal.returns-in-Some-position
returns-in-Some-position c =
    let at = goal.at.returns-in-Some-position c in
    let a = members_found at.After-position in
    let b = cards_found at.After-position-2 in
    grind (arith, common_steps, a, b)

pub returns-in-Some-position-2 : goal.returns-in-Some-position-2
returns-in-Some-position-2 c =
    let at = goal.at.returns-in-Some-position-2 c in
    let a = members_found at.After-position in
    let b = cards_found at.After-position-2 in
    let d = fields_found at.After-position-3 in
    grind (arith, common_steps, a, b, d)

pub returns : goal.returns
returns c =
    let at = goal.at.returns c in
    let a = members_found at.After-position in
    let b = cards_found at.After-position-2 in
    let d = fields_found at.After-position-3 in
    grind (arith, common_steps, a, b, d)
