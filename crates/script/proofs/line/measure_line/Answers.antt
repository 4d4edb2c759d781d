use Rattle.std.proofs.Common.{◌≡◌, eqb, rules, tests}
use Rattle.std.proofs.lemmas.Iterator.{YieldsList-from_slice}
use Rattle.std.proofs.lemmas.Iterator.Search.{position_from_yields_List}
use Rattle.std.specs.List.{position}
use Rattle.script.proofs.FirstLine.{size_from_place}
use Rattle.script.proofs.line.measure_line.Goals as goal

pub returns-in-Some : goal.returns-in-Some
returns-in-Some c =
    let place : c.position.result ≡ position (λ b. eqb b 10) c.args.bytes.now =
    position_from_yields_List (λ b. eqb b 10) _ _ _ c.position.ensures.ran (YieldsList-from_slice c.args.bytes.now cc) (λ x b q k. search (rules, tests)) in
    size_from_place c.args.bytes.now c.position.result _ place (search rules)

pub returns-in-None : goal.returns-in-None
returns-in-None c =
    let place : c.position.result ≡ position (λ b. eqb b 10) c.args.bytes.now =
    position_from_yields_List (λ b. eqb b 10) _ _ _ c.position.ensures.ran (YieldsList-from_slice c.args.bytes.now cc) (λ x b q k. search (rules, tests)) in
    size_from_place c.args.bytes.now c.position.result _ place (search rules)
