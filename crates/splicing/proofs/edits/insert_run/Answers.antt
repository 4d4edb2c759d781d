use Rattle.std.proofs.Common.{length}
use Rattle.ledger.specs.Places.{stretch}
use Rattle.splicing.proofs.RunLists.{between}
use Rattle.pieces.proofs.Sewn.{faithful_sewn, places_sewn, standing_sewn}
use Rattle.splicing.proofs.edits.insert_run.Goals as goal

pub returns-clause-places : goal.returns-clause-places
returns-clause-places g c =
    let first = c.args.first in
    let k = c.cut-left.ensures in
    between (stretch first.source first.index c.args.count) (places_sewn g.T.Total.joined c.add_run-left.result.tree c.cut-left.result.1.tree c.sew.result.tree c.sew.ensures.items) c.add_run-left.ensures.places k.front k.back

pub returns-clause-standing : goal.returns-clause-standing
returns-clause-standing g c =
    let sources = c.args.sources in
    let s = c.sew.ensures in
    standing_sewn g.T.Total.joined (length sources.original.now) (length sources.added.now) c.add_run-left.result.tree c.cut-left.result.1.tree c.sew.result.tree s.items c.add_run-left.ensures.standing c.cut-left.ensures.standing.1

pub returns-clause-faithful : goal.returns-clause-faithful
returns-clause-faithful g c f =
    let sources = c.args.sources in
    let s = c.sew.ensures in
    let parts = c.cut-left.ensures.faithful f in
    faithful_sewn g.E.Element.breaks g.T.Total.neutral g.T.Measure.value g.T.Total.joined g.met.T.Total.monoid sources.original.now sources.added.now c.add_run-left.result.tree c.cut-left.result.1.tree c.sew.result.tree s.items s.summed (c.add_run-left.ensures.faithful parts.0) parts.1
