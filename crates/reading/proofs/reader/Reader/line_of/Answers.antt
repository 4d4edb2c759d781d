use Rattle.std.proofs.Common.{ap, ◌∙◌, arith}
use Rattle.pieces.specs.Faithful.{count_breaks}
use Rattle.reading.proofs.LineReads.{found_inside, found_line}
use Rattle.reading.proofs.reader.Reader.line_of.Goals as goal

pub part-front-requires : goal.part-front-requires
part-front-requires g c =
    let found = c.find-found.ensures in
    let lies = found_inside c.args.self.now.sources.original.now c.args.self.now.sources.added.now c.args.self.now.inside found.stands in
    record { inside = omega (arith, lies, found.inner) }

pub returns : goal.returns
returns g c faithful =
    let breaks = g.E.Element.breaks in
    let found = c.find-found.ensures in
    let line = found_line c.args.self.now.sources.original.now c.args.self.now.sources.added.now c.args.self.now.inside found.stands breaks g.T.Measure.value faithful c.args.offset found.offset found.inner in
    let count = c.count_breaks.ensures.count ∙ ap (count_breaks breaks) c.part-front.ensures in
    omega (arith, line, count)
