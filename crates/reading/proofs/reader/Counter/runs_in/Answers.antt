use Rattle.std.proofs.Common.{arith}
use Rattle.pieces.specs.Spread.{places}
use Rattle.reading.proofs.Changes.{behind_few, part_pieces, placed_pieces}
use Rattle.reading.proofs.reader.Counter.runs_in.Goals as goal

pub overflow_sub-result : goal.overflow_sub-result
overflow_sub-result g c =
    let ps = places c.args.self.now.tree.now in
    let all = placed_pieces c.args.self.now.tree.now c.args.self.now.weighed c.args.self.now.apart in
    omega (arith, all, behind_few ps c.args.offset, c.sums.ensures.pieces, c.pieces_behind.ensures)

pub overflow_sub-result-2 : goal.overflow_sub-result-2
overflow_sub-result-2 g c =
    let ps = places c.args.self.now.tree.now in
    let all = placed_pieces c.args.self.now.tree.now c.args.self.now.weighed c.args.self.now.apart in
    let part = part_pieces ps c.args.offset c.args.count (omega arith) in
    omega (arith, all, part, c.sums.ensures.pieces, c.pieces_behind.ensures, c.pieces_before.ensures)

pub returns : goal.returns
returns g c =
    let ps = places c.args.self.now.tree.now in
    let all = placed_pieces c.args.self.now.tree.now c.args.self.now.weighed c.args.self.now.apart in
    let part = part_pieces ps c.args.offset c.args.count (omega arith) in
    omega (arith, all, part, behind_few ps c.args.offset, c.sums.ensures.pieces, c.pieces_behind.ensures, c.pieces_before.ensures)
