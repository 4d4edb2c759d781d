use Rattle.std.proofs.Common.{ℕ, rules}
use Rattle.std.proofs.lemmas.Iterator.{YieldsList-from_map, YieldsList-from_slice}
use Rattle.std.proofs.lemmas.Iterator.Adapters.{items_from_extend}
use Rattle.session.proofs.set_elements.Goals as goal

pub returns : goal.returns
returns g c =
    let made : ℕ → g.row.E.Denot = λ b. g.E.Element.made b 0 in
    let extended = items_from_extend c.extend.result c.extend.ensures.ran
    (YieldsList-from_map _ made (YieldsList-from_slice c.args.text.now cc) c.map.ensures.closure (λ x r q k. search rules)) in
    search rules
