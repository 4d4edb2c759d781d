use Rattle.std.proofs.Common.{◌≡◌, ◌++◌, length, take, drop, vec_items, sym, ap, ◌∙◌, subst, arith, length-append}
use Rattle.ledger.specs.Places.{pieces_of, stretch}
use Rattle.ledger.specs.declared.words.Source.TheVariants.{Added}
use Rattle.nodes.specs.Trees.{items, long}
use Rattle.pieces.specs.Spread.{places, Lying}
use Rattle.pieces.proofs.Spreads.{stretch_length}
use Rattle.reading.proofs.Changes.{long_places}
use Rattle.text.specs.Texts.{text_places}
use Rattle.text.proofs.Edited.{carried, count_of, some_pieces, still_faithful}
use Rattle.text.proofs.Text.insert.Goals as goal

pub insert_run-requires : goal.insert_run-requires
insert_run-requires g c =
    let t = c.args.self.now in
    let tree_is = ap (λ u. u.tree) c.replace-tree.ensures.value in
    let long_is : long c.replace-tree.result.tree ≡ length (text_places t) = ap long tree_is ∙ sym (long_places t.tree.tree t.tree.weighed) in
    let run = stretch Added c.args.start c.args.count in
    let after = take c.args.offset (text_places t) ++ (run ++ drop c.args.offset (text_places t)) in
    let long_run = stretch_length Added c.args.start c.args.count in
    let whole = length-append (take c.args.offset (text_places t)) (run ++ drop c.args.offset (text_places t)) in
    let parts = length-append run (drop c.args.offset (text_places t)) in
    let pieces = some_pieces after (omega (arith, long_run, whole, parts, c.requires.some)) in
    let ample = t.ample (omega (arith, pieces, c.requires.few)) in
    record {
      standing = carried c.deref.ensures.value tree_is t.standing;
      within = omega (arith, long_is, c.requires.within);
      fits = omega (arith, long_is, c.requires.short);
      some = c.requires.some;
      inside = omega (arith, ap length c.deref.ensures.value, c.requires.inside);
      spare = omega (arith, ample, t.few);
      room = omega (arith, ap (λ u. length (items u)) tree_is, t.room);
    }

pub invariant_of-self : goal.invariant_of-self
invariant_of-self g c =
    let t = c.args.self.now in
    let e = c.insert_run.ensures in
    let tree_is = ap (λ u. u.tree) c.replace-tree.ensures.value in
    let x = c.args.offset in
    let run = stretch Added c.args.start c.args.count in
    let s : Lying (length t.original.now) (length (vec_items t.added)) c.insert_run.result.tree =
    subst (λ xs. Lying (length t.original.now) (length xs) c.insert_run.result.tree) c.deref.ensures.value e.standing in
    let after : places c.insert_run.result.tree ≡ take x (text_places t) ++ (run ++ drop x (text_places t)) =
    e.places ∙ ap (λ u. take x (places u) ++ (run ++ drop x (places u))) tree_is in
    let count = count_of c.insert_run.result.tree c.insert_run.result.weighed s in
    let long_was = ap long tree_is ∙ sym (long_places t.tree.tree t.tree.weighed) in
    let items_are = ap (λ u. length (items u)) tree_is in
    record { standing = s; measured = still_faithful g.E.Element.breaks g.T.Total.neutral g.T.Measure.value g.T.Total.joined t.original.now c.insert_run.result.tree c.deref.ensures.value tree_is t.measured e.faithful; short = omega (arith, e.long, long_was, c.requires.short); few = omega (arith, count, ap (λ ps. length (pieces_of ps)) after, c.requires.few); ample = λ some. omega (arith, t.ample some, e.stock, items_are); room = omega (arith, t.room, e.stock, e.capacity, items_are) }
