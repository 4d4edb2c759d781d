use Rattle.std.proofs.Common.{◌+◌, [], ◌∷◌, ◌++◌, ap, ◌∙◌, arith}
use Rattle.nodes.specs.Trees.{items}
use Rattle.pieces.proofs.cutting.cut_piece.Goals as goal

pub returns-clause-halves : goal.returns-clause-halves
returns-clause-halves g c =
    let node = c.deref.ensures in
    let front = c.measure-front.ensures in
    let back = c.measure-back.ensures in
    record {
      first = c.measure-front.result;
      second = c.measure-back.result;
      front_is = c.push_back.ensures.items ∙ ap (λ i. items c.args.part.left.tree ++ i ∷ []) c.draw-last.ensures.item;
      back_is = c.push_front.ensures.items;
      first_piece = front.piece ∙ ap (λ n. n.item.piece) node;
      first_length = front.length;
      second_source = ap (λ p. p.source) back.piece ∙ ap (λ n. n.item.piece.source) node;
      second_index = ap (λ p. p.index) back.piece ∙ ap (λ n. n.item.piece.index + c.args.part.inner) node;
      whole_length = omega (arith, back.length, ap (λ n. n.item.length) node, c.requires.inner.1);
      first_carries = front.carries;
      second_carries = back.carries;
    }
