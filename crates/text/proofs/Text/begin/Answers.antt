use Rattle.std.proofs.Common.{length, subst, arith}
use Rattle.nodes.specs.Trees.{items}
use Rattle.pieces.specs.Faithful.{Faithful}
use Rattle.pieces.specs.Spread.{Lying}
use Rattle.text.proofs.Sourced.{one_at_most}
use Rattle.text.proofs.Text.begin.Goals as goal

pub invariant_of-result : goal.invariant_of-result
invariant_of-result g c =
    let original = c.args.original.now in
    let tree = c.whole_tree-tree.result.tree in
    let made = c.whole_tree-tree.ensures in
    let stands = subst (λ added. Lying (length original) (length added) tree) c.deref.ensures.value made.standing in
    let few = one_at_most (length original) (length (items tree)) c.args.limit made.few.0 made.few.1 c.requires.one in
    let carries = subst (λ added. Faithful g.E.Element.breaks g.T.Total.neutral g.T.Measure.value g.T.Total.joined original added tree) c.deref.ensures.value made.faithful in
    record { standing = stands; measured = carries; short = omega (arith, made.long, c.requires.short); few = few; ample = λ some. omega (arith, c.requires.ample some, made.stock); room = omega (arith, made.stock, made.capacity, c.args.stock.ok.1) }
