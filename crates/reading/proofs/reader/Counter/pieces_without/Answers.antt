use Rattle.std.proofs.Common.{◌+◌, take, drop, ◌∙◌, arith}
use Rattle.pieces.specs.Spread.{places}
use Rattle.reading.proofs.Changes.{few_before, few_behind}
use Rattle.reading.proofs.Counting.{as_number, count_joint, joint_few}
use Rattle.reading.proofs.reader.Counter.pieces_without.Goals as goal

pub overflow_add-result : goal.overflow_add-result
overflow_add-result g c =
    let x = c.args.offset in
    let few = few_before c.args.self.now.tree.now c.args.self.now.weighed x (omega (arith, c.requires.within)) in
    let behind = few_behind c.args.self.now.tree.now c.args.self.now.weighed (x + c.args.count) c.requires.within in
    omega (arith, few, behind, c.pieces_before.ensures, c.pieces_behind.ensures, c.args.self.now.fits)

pub overflow_sub-result : goal.overflow_sub-result
overflow_sub-result g c =
    let ps = places c.args.self.now.tree.now in
    let x = c.args.offset in
    let met = c.from-joint.ensures ∙ as_number c.meets_across.result ∙ c.meets_across.ensures in
    omega (arith, met, joint_few (take x ps) (drop (x + c.args.count) ps), c.pieces_before.ensures)

pub returns : goal.returns
returns g c =
    let ps = places c.args.self.now.tree.now in
    let x = c.args.offset in
    let met = c.from-joint.ensures ∙ as_number c.meets_across.result ∙ c.meets_across.ensures in
    omega (arith, count_joint (take x ps) (drop (x + c.args.count) ps), c.pieces_before.ensures, c.pieces_behind.ensures, met)
