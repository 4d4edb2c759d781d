use Rattle.std.proofs.Common.{◌+◌, ◌-◌, [], ◌∷◌, take, drop, ap, ◌∙◌, arith}
use Rattle.ledger.specs.Places.{place}
use Rattle.pieces.specs.Spread.{places}
use Rattle.reading.specs.Joints.{joint}
use Rattle.reading.proofs.Changes.{few_before, few_behind, front_long, run_pieces}
use Rattle.reading.proofs.Counting.{as_number, joint_end, joint_take}
use Rattle.reading.proofs.reader.Counter.pieces_with.Goals as goal

pub overflow_add-result : goal.overflow_add-result
overflow_add-result g c =
    let few = few_before c.args.self.now.tree.now c.args.self.now.weighed c.args.offset c.requires.within in
    omega (arith, few, c.pieces_before.ensures, c.requires.fits, c.requires.within)

pub overflow_add-result-2 : goal.overflow_add-result-2
overflow_add-result-2 g c =
    let few = few_before c.args.self.now.tree.now c.args.self.now.weighed c.args.offset c.requires.within in
    let behind = few_behind c.args.self.now.tree.now c.args.self.now.weighed c.args.offset c.requires.within in
    omega (arith, few, behind, c.pieces_before.ensures, c.pieces_behind.ensures, c.requires.fits)

pub returns : goal.returns
returns g c =
    let tree = c.args.self.now.tree.now in
    let ps = places tree in
    let x = c.args.offset in
    let run = c.args.first in
    let first = place run.source (run.index + 0) in
    let last = place run.source (run.index + (c.args.count - 1)) in
    let front = c.from-front.ensures ∙ as_number c.meet.result ∙ c.meet.ensures ∙ ap (λ l. joint l (first ∷ [])) c.last_before.ensures ∙ joint_end (take x ps) (first ∷ []) x (front_long tree c.args.self.now.weighed x c.requires.within) in
    let back = c.from-back.ensures ∙ as_number c.meet-2.result ∙ c.meet-2.ensures ∙ ap (joint (last ∷ [])) c.first_behind.ensures ∙ joint_take (last ∷ []) (drop x ps) 1 (omega arith) in
    omega (arith, run_pieces (take x ps) (drop x ps) run.source run.index c.args.count c.requires.some, c.pieces_before.ensures, c.pieces_behind.ensures, front, back)
