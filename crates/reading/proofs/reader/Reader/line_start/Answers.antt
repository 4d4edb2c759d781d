use Rattle.std.proofs.Common.{suc, ap, ◌∙◌, arith}
use Rattle.reading.specs.LineParts.{behind}
use Rattle.reading.proofs.LineReads.{found_inside, found_start, tree_start}
use Rattle.reading.proofs.reader.Reader.line_start.Goals as goal

pub returns-then-number-all : goal.returns-then-number-all
returns-then-number-all g c faithful =
    let all = c.sums-all.ensures in
    all.length ∙ tree_start g.E.Element.breaks g.T.Total.neutral g.T.Measure.value g.T.Total.joined c.args.self.now.sources.original.now c.args.self.now.sources.added.now c.args.self.now.tree.now c.args.self.now.weighed c.args.self.now.inside faithful c.args.number (omega (arith, all.breaks, c.if-number-all.true))

pub part-part-requires : goal.part-part-requires
part-part-requires g c =
    record { inside = found_inside c.args.self.now.sources.original.now c.args.self.now.sources.added.now c.args.self.now.inside c.find_break-found.ensures.stands }

pub returns : goal.returns
returns g c faithful =
    let breaks = g.E.Element.breaks in
    let found = c.find_break-found.ensures in
    let start = found_start c.args.self.now.sources.original.now c.args.self.now.sources.added.now c.args.self.now.inside found.stands breaks g.T.Measure.value faithful c.args.number (omega (arith, found.number, c.if-number-eq0.false)) found.inner in
    let position = c.break_position.ensures.position ∙ ap (behind breaks (suc c.find_break-found.result.inner)) c.part-part.ensures in
    omega (arith, start, position)
