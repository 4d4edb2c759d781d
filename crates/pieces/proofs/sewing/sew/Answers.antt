use Rattle.std.proofs.Common.{◌≡◌, ◌∷◌, box_value, sym, ap, ◌∙◌, arith}
use Rattle.nodes.specs.Trees.{items, long}
use Rattle.piece_tree.proofs.Ends.{none}
use Rattle.pieces.specs.Spread.{sewn}
use Rattle.pieces.proofs.Sewn.{sewn_end, sewn_none}
use Rattle.pieces.proofs.sewing.sew.Goals as goal

pub returns-then-len-eq0-2-clause-items : goal.returns-then-len-eq0-2-clause-items
returns-then-len-eq0-2-clause-items g c =
    let joined = g.T.Total.joined in
    let left = items c.args.left.tree in
    let zero : long c.args.right.tree ≡ 0 = omega (arith, c.len-2.ensures, c.if-len-eq0-2.true) in
    let empty = none c.args.right.tree c.args.right.weighed zero in
    sym (ap (sewn joined left) empty ∙ sewn_none joined left)

pub returns-clause-items : goal.returns-clause-items
returns-clause-items g c =
    let joined = g.T.Total.joined in
    let front = items c.take_last-front.result.0.tree in
    let back = items c.take_first-first.result.1.tree in
    let i = (box_value c.take_last-front.result.1).item in
    let j = (box_value c.take_first-first.result.0).item in
    c.join_ends.ensures.items ∙ sym (sewn_end joined i front (j ∷ back)) ∙ ap (λ xs. sewn joined xs (j ∷ back)) c.take_last-front.ensures.items ∙ ap (sewn joined (items c.args.left.tree)) c.take_first-first.ensures.items
