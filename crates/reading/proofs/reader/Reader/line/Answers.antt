use Rattle.std.proofs.Common.{arith}
use Rattle.reading.specs.Readers.{read}
use Rattle.reading.proofs.LineReads.{line_is}
use Rattle.reading.proofs.reader.Reader.line.Goals as goal

pub returns : goal.returns
returns g c f =
    line_is g.E.Element.breaks (read c.args.self.now) c.args.number c.line_start-start.result c.line_start-stop.result c.saturating_sub.result (omega (arith, c.if-number-eq0.false)) (omega (arith, c.if-number-line_count.false, c.line_count.ensures f)) (c.line_start-start.ensures f) (c.line_start-stop.ensures f) c.saturating_sub.ensures
