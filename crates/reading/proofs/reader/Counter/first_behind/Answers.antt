use Rattle.std.proofs.Common.{take, sym, ap, arith}
use Rattle.reading.proofs.Changes.{none_behind}
use Rattle.reading.proofs.reader.Counter.first_behind.Goals as goal

pub returns-then-offset-sums : goal.returns-then-offset-sums
returns-then-offset-sums g c =
    sym (ap (take 1) (none_behind c.args.self.now.tree.now c.args.self.now.weighed c.args.offset (omega (arith, c.sums.ensures.length))))

pub returns : goal.returns
returns g c = sym (ap (take 1) c.spot_at.ensures)
