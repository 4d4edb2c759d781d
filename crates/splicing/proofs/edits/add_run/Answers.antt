use Rattle.std.proofs.Common.{◌≡◌, [], ◌∷◌, ◌++◌, length, sym, ap, ◌∙◌, subst, arith}
use Rattle.nodes.specs.Trees.{items}
use Rattle.pieces.specs.Faithful.{AllCarry}
use Rattle.pieces.specs.Spread.{places}
use Rattle.pieces.proofs.Sewn.{faithful_sewn, inside_is, places_one, places_sewn, sewn_few, standing_one, standing_sewn}
use Rattle.splicing.proofs.edits.add_run.Goals as goal

pub returns-clause-places : goal.returns-clause-places
returns-clause-places g c =
    let joined = g.T.Total.joined in
    let tree = c.args.tree.tree in
    let run = c.single-run.result.tree in
    let item = c.measure-item.result in
    let m = c.measure-item.ensures in
    let one : items run ≡ item ∷ [] = c.single-run.ensures.items ∙ ap (λ x. x ∷ []) c.draw-place.ensures.item in
    places_sewn joined tree run c.sew.result.tree c.sew.ensures.items ∙ ap (λ ps. places tree ++ ps) (places_one joined run item c.args.first c.args.count one m.piece m.length)

pub returns-clause-standing : goal.returns-clause-standing
returns-clause-standing g c =
    let joined = g.T.Total.joined in
    let original = length c.args.sources.original.now in
    let added = length c.args.sources.added.now in
    let run = c.single-run.result.tree in
    let item = c.measure-item.result in
    let m = c.measure-item.ensures in
    let j = c.single-run.ensures in
    let s = c.sew.ensures in
    let one : items run ≡ item ∷ [] = j.items ∙ ap (λ x. x ∷ []) c.draw-place.ensures.item in
    let fits = inside_is joined original added item c.args.first c.args.count m.piece m.length c.requires.inside in
    standing_sewn joined original added c.args.tree.tree run c.sew.result.tree s.items c.requires.standing (standing_one joined original added run item one fits)

pub returns-clause-faithful : goal.returns-clause-faithful
returns-clause-faithful g c f =
    let joined = g.T.Total.joined in
    let neutral = g.T.Total.neutral in
    let value = g.T.Measure.value in
    let breaks = g.E.Element.breaks in
    let original = c.args.sources.original.now in
    let added = c.args.sources.added.now in
    let run = c.single-run.result.tree in
    let s = c.sew.ensures in
    let one : items run ≡ c.measure-item.result ∷ [] = c.single-run.ensures.items ∙ ap (λ x. x ∷ []) c.draw-place.ensures.item in
    faithful_sewn breaks neutral value joined g.met.T.Total.monoid original added c.args.tree.tree run c.sew.result.tree s.items s.summed f
    (c.single-run.ensures.summed, subst (AllCarry breaks neutral value joined original added) (sym one) (c.measure-item.ensures.carries, tt))

pub returns-clause-drawn : goal.returns-clause-drawn
returns-clause-drawn g c =
    let j = c.single-run.ensures in
    let s = c.sew.ensures in
    omega (arith, s.stock, c.draw-place.ensures.len, ap length j.items, ap length s.items, sewn_few g.T.Total.joined (items c.args.tree.tree) (items c.single-run.result.tree))
