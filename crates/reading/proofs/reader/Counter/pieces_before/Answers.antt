use Rattle.std.proofs.Common.{arith}
use Rattle.reading.proofs.Longest.{count_to}
use Rattle.reading.proofs.reader.Counter.pieces_before.Goals as goal

pub returns : goal.returns
returns g c =
    let f = c.find.ensures in
    let count = count_to f.stands c.args.self.now.weighed c.args.self.now.apart f.inner c.args.offset (omega (arith, f.offset, c.if-offset-eq0.false)) in
    omega (arith, count)
