use Rattle.std.proofs.Common.{length, drop, ap, ◌∙◌, drop-drop}
use Rattle.pieces.specs.Spread.{places}
use Rattle.splicing.proofs.RunLists.{both_parts}
use Rattle.pieces.proofs.Sewn.{faithful_sewn, places_sewn, standing_sewn}
use Rattle.splicing.proofs.edits.take_out.Goals as goal

pub returns-clause-rest : goal.returns-clause-rest
returns-clause-rest g c =
    let count = c.args.count in
    let k = c.cut-left.ensures in
    let behind = c.cut-part.ensures.back ∙ ap (drop count) k.back ∙ drop-drop count c.args.offset (places c.args.tree.tree) in
    both_parts (places_sewn g.T.Total.joined c.cut-left.result.0.tree c.cut-part.result.1.tree c.sew.result.tree c.sew.ensures.items) k.front behind

pub returns-clause-standing : goal.returns-clause-standing
returns-clause-standing g c =
    let sources = c.args.sources in
    let p = c.cut-part.ensures.standing in
    let s = c.sew.ensures in (
      standing_sewn g.T.Total.joined (length sources.original.now) (length sources.added.now) c.cut-left.result.0.tree c.cut-part.result.1.tree c.sew.result.tree s.items c.cut-left.ensures.standing.0 p.1,
      p.0,
    )

pub returns-clause-faithful : goal.returns-clause-faithful
returns-clause-faithful g c f =
    let sources = c.args.sources in
    let s = c.sew.ensures in
    let one = c.cut-left.ensures.faithful f in
    faithful_sewn g.E.Element.breaks g.T.Total.neutral g.T.Measure.value g.T.Total.joined g.met.T.Total.monoid sources.original.now sources.added.now c.cut-left.result.0.tree c.cut-part.result.1.tree c.sew.result.tree s.items s.summed one.0 (c.cut-part.ensures.faithful one.1).1
