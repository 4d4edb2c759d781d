use Rattle.std.proofs.Common.{◌≡◌, arith, rules, tests}
use Rattle.std.proofs.lemmas.Iterator.{YieldsList-from_slice}
use Rattle.std.proofs.lemmas.Iterator.Adapters.{fits_from_length, at_most_from_yields_List}
use Rattle.std.proofs.lemmas.List.Sums.{count_by-le-length}
use Rattle.std.specs.List.{count_by}
use Rattle.pieces.proofs.parts.count_breaks.Goals as goal

pub sum-requires-clause-fits : goal.sum-requires-clause-fits
sum-requires-clause-fits g c =
    fits_from_length _ _ 0xffff_ffff_ffff_ffff _ (at_most_from_yields_List (YieldsList-from_slice c.args.part.now cc) (omega arith)) c.map.ensures.closure (omega (arith, c.iter.ensures.len)) (λ x r q k. search (rules, tests))

pub returns-clause-few : goal.returns-clause-few
returns-clause-few g c =
    let count : c.sum.result ≡ count_by g.E.Element.breaks c.args.part.now = search rules in
    omega (arith, count, count_by-le-length g.E.Element.breaks c.args.part.now)
