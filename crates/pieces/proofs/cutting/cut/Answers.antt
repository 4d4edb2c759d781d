use Rattle.std.proofs.Common.{◌≡◌, [], ◌∷◌, length, sym, ap, ◌∙◌, subst, append-nil, arith}
use Rattle.nodes.specs.Trees.{items, long}
use Rattle.pieces.specs.Faithful.{AllCarry}
use Rattle.pieces.specs.Spread.{places, spread, Apart, Inside}
use Rattle.pieces.proofs.Cuts.{taken, dropped, whole_parts, standing_front, standing_back, inside_at, halves_whole, halves_apart, halves_inside, halves_carry}
use Rattle.pieces.proofs.Spreads.{carry_front, carry_back}
use Rattle.pieces.proofs.cutting.cut.Goals as goal

pub cut_piece-requires-clause-inside : goal.cut_piece-requires-clause-inside
cut_piece-requires-clause-inside g c =
    let part = c.split-part.result in
    inside_at c.args.tree.tree (items part.left.tree) (items part.right.tree) part.place.value.item c.requires.standing c.split-part.ensures.items

pub returns-then-offset-len-clause-front : goal.returns-then-offset-len-clause-front
returns-then-offset-len-clause-front g c =
    let tree = c.args.tree.tree in
    let at : long tree ≡ c.args.offset = omega (arith, c.if-offset-len.true, c.len.ensures) in
    taken tree tree [] c.args.offset c.args.tree.weighed at (append-nil (places tree))

pub returns-then-offset-len-clause-back : goal.returns-then-offset-len-clause-back
returns-then-offset-len-clause-back g c =
    let tree = c.args.tree.tree in
    let at : long tree ≡ c.args.offset = omega (arith, c.if-offset-len.true, c.len.ensures) in
    ap spread c.empty.ensures.items ∙ dropped tree tree [] c.args.offset c.args.tree.weighed at (append-nil (places tree))

pub returns-then-part-eq0-clause-front : goal.returns-then-part-eq0-clause-front
returns-then-part-eq0-clause-front g c =
    let part = c.split-part.result in
    let back = c.push_front-back.result.tree in
    let s = c.split-part.ensures in
    let all = whole_parts part.left.tree back c.args.tree.tree (part.place.value.item ∷ items part.right.tree) s.items c.push_front-back.ensures.items in
    taken part.left.tree c.args.tree.tree (places back) c.args.offset part.left.weighed (omega (arith, s.offset, c.if-part-eq0.true)) all

pub returns-then-part-eq0-clause-back : goal.returns-then-part-eq0-clause-back
returns-then-part-eq0-clause-back g c =
    let part = c.split-part.result in
    let back = c.push_front-back.result.tree in
    let s = c.split-part.ensures in
    let all = whole_parts part.left.tree back c.args.tree.tree (part.place.value.item ∷ items part.right.tree) s.items c.push_front-back.ensures.items in
    dropped part.left.tree c.args.tree.tree (places back) c.args.offset part.left.weighed (omega (arith, s.offset, c.if-part-eq0.true)) all

pub returns-then-part-eq0-clause-standing : goal.returns-then-part-eq0-clause-standing
returns-then-part-eq0-clause-standing g c =
    let tree = c.args.tree.tree in
    let part = c.split-part.result in
    let rest = part.place.value.item ∷ items part.right.tree in
    let s = c.split-part.ensures in
    let j = c.push_front-back.ensures in (
      standing_front part.left.tree tree rest c.requires.standing s.items,
      standing_back c.push_front-back.result.tree tree (items part.left.tree) rest c.requires.standing s.items j.items,
    )

pub returns-then-part-eq0-clause-faithful : goal.returns-then-part-eq0-clause-faithful
returns-then-part-eq0-clause-faithful g c f =
    let breaks = g.E.Element.breaks in
    let neutral = g.T.Total.neutral in
    let value = g.T.Measure.value in
    let joined = g.T.Total.joined in
    let original = c.args.sources.original.now in
    let added = c.args.sources.added.now in
    let carry = AllCarry breaks neutral value joined original added in
    let part = c.split-part.result in
    let left = items part.left.tree in
    let rest = part.place.value.item ∷ items part.right.tree in
    let s = c.split-part.ensures in
    let j = c.push_front-back.ensures in
    let sides = s.summed f.0 in
    let carries = subst carry (sym s.items) f.1 in (
      (sides.0, carry_front breaks neutral value joined original added left rest carries),
      (j.summed sides.1, subst carry (sym j.items) (carry_back breaks neutral value joined original added left rest carries)),
    )

pub returns-clause-front : goal.returns-clause-front
returns-clause-front g c =
    let part = c.split-part.result in
    let front = c.cut_piece.result.0.tree in
    let back = c.cut_piece.result.1.tree in
    let s = c.split-part.ensures in
    let p = c.cut_piece.ensures in
    let all = halves_whole g.E.Element.breaks g.T.Total.neutral g.T.Measure.value g.T.Total.joined c.args.sources.original.now c.args.sources.added.now (items part.left.tree) part.place.value.item part.inner (items part.right.tree) (items front) (items back) p.halves ∙ ap spread s.items in
    taken front c.args.tree.tree (places back) c.args.offset c.cut_piece.result.0.weighed (omega (arith, s.offset, p.long.0)) all

pub returns-clause-back : goal.returns-clause-back
returns-clause-back g c =
    let part = c.split-part.result in
    let front = c.cut_piece.result.0.tree in
    let back = c.cut_piece.result.1.tree in
    let s = c.split-part.ensures in
    let p = c.cut_piece.ensures in
    let all = halves_whole g.E.Element.breaks g.T.Total.neutral g.T.Measure.value g.T.Total.joined c.args.sources.original.now c.args.sources.added.now (items part.left.tree) part.place.value.item part.inner (items part.right.tree) (items front) (items back) p.halves ∙ ap spread s.items in
    dropped front c.args.tree.tree (places back) c.args.offset c.cut_piece.result.0.weighed (omega (arith, s.offset, p.long.0)) all

pub returns-clause-standing : goal.returns-clause-standing
returns-clause-standing g c =
    let breaks = g.E.Element.breaks in
    let neutral = g.T.Total.neutral in
    let value = g.T.Measure.value in
    let joined = g.T.Total.joined in
    let original = c.args.sources.original.now in
    let added = c.args.sources.added.now in
    let part = c.split-part.result in
    let left = items part.left.tree in
    let right = items part.right.tree in
    let front = items c.cut_piece.result.0.tree in
    let back = items c.cut_piece.result.1.tree in
    let s = c.split-part.ensures in
    let p = c.cut_piece.ensures in
    let apart = halves_apart breaks neutral value joined original added left part.place.value.item part.inner right front back p.halves (subst Apart (sym s.items) c.requires.standing.apart) in
    let inside = halves_inside breaks neutral value joined original added (length original) (length added) left part.place.value.item part.inner right front back p.halves (subst (Inside (length original) (length added)) (sym s.items) c.requires.standing.inside) in (
      record { apart = apart.0; inside = inside.0 },
      record { apart = apart.1; inside = inside.1 },
    )

pub returns-clause-faithful : goal.returns-clause-faithful
returns-clause-faithful g c f =
    let breaks = g.E.Element.breaks in
    let neutral = g.T.Total.neutral in
    let value = g.T.Measure.value in
    let joined = g.T.Total.joined in
    let original = c.args.sources.original.now in
    let added = c.args.sources.added.now in
    let part = c.split-part.result in
    let s = c.split-part.ensures in
    let p = c.cut_piece.ensures in
    let sides = s.summed f.0 in
    let trees = p.summed sides.0 sides.1 in
    let carries = halves_carry breaks neutral value joined original added (items part.left.tree) part.place.value.item part.inner (items part.right.tree) (items c.cut_piece.result.0.tree) (items c.cut_piece.result.1.tree) p.halves (subst (AllCarry breaks neutral value joined original added) (sym s.items) f.1) in
    ((trees.0, carries.0), (trees.1, carries.1))
