use Rattle.std.proofs.Common.{sym, ap, ◌∙◌}
use Rattle.measure.specs.Totals.{total}
use Rattle.reading.proofs.PartTotals.{part_inner}
use Rattle.reading.proofs.totals.item_total.Goals as goal

pub returns : goal.returns
returns g c carries =
    let inner = part_inner c.args.sources.original.now c.args.sources.added.now c.args.item.piece c.args.item.length c.args.from c.args.upto c.requires.within.0 c.requires.within.1 in
    c.fold.ensures.whole ∙ ap (total g.T.Total.neutral g.T.Measure.value g.T.Total.joined) (c.part.ensures ∙ sym inner)
