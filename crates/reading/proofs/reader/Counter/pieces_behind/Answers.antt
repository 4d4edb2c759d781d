use Rattle.std.proofs.Common.{length, sym, ap, arith}
use Rattle.ledger.specs.Places.{pieces_of}
use Rattle.seeking.proofs.Standing.{placed_is}
use Rattle.reading.proofs.Changes.{none_behind}
use Rattle.reading.proofs.Longest.{count_from}
use Rattle.reading.proofs.reader.Counter.pieces_behind.Goals as goal

pub returns-then-offset-all : goal.returns-then-offset-all
returns-then-offset-all g c =
    let none = none_behind c.args.self.now.tree.now c.args.self.now.weighed c.args.offset (omega (arith, c.sums-all.ensures.length)) in
    sym (ap (λ ps. length (pieces_of ps)) none)

pub overflow_sub-result : goal.overflow_sub-result
overflow_sub-result g c =
    let f = c.find.ensures in
    let count = count_from f.stands c.args.self.now.weighed c.args.self.now.apart f.inner c.args.offset f.offset in
    omega (arith, count, placed_is c.args.self.now.tree.now c.args.self.now.weighed, c.sums-all.ensures.pieces)

pub returns : goal.returns
returns g c =
    let f = c.find.ensures in
    let count = count_from f.stands c.args.self.now.weighed c.args.self.now.apart f.inner c.args.offset f.offset in
    omega (arith, count, placed_is c.args.self.now.tree.now c.args.self.now.weighed, c.sums-all.ensures.pieces)
