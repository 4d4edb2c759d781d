use Rattle.std.proofs.Common.{◌≡◌, ◌++◌, length, take, drop, vec_items, sym, ap, ◌∙◌, subst, arith, length-append}
use Rattle.ledger.specs.Places.{pieces_of}
use Rattle.nodes.specs.Trees.{items, long}
use Rattle.pieces.specs.Spread.{places, spelled, AllFit, Lying}
use Rattle.reading.proofs.Changes.{long_places}
use Rattle.text.specs.Texts.{text_places}
use Rattle.text.proofs.Edited.{all_fit, carried, count_of, counted_between, some_pieces, still_faithful}
use Rattle.reading.proofs.Counting.{pieces_few}
use Rattle.text.proofs.Text.put_back.Goals as goal

pub put_back-requires : goal.put_back-requires
put_back-requires g c =
    let t = c.args.self.now in
    let s = t.standing in
    let tree_is = ap (λ u. u.tree) c.replace-tree.ensures.value in
    let long_is : long c.replace-tree.result.tree ≡ length (text_places t) = ap long tree_is ∙ sym (long_places t.tree.tree t.tree.weighed) in
    let runs = c.args.runs.now in
    let between = counted_between (text_places t) (spelled runs) c.args.offset in
    let fewer = pieces_few (spelled runs) in
    let whole = length-append (take c.args.offset (text_places t)) (spelled runs ++ drop c.args.offset (text_places t)) in
    let parts = length-append (spelled runs) (drop c.args.offset (text_places t)) in
    let longest = ap length c.requires.longest in
    let some = some_pieces (take c.args.offset (text_places t) ++ (spelled runs ++ drop c.args.offset (text_places t))) (omega (arith, whole, parts, fewer, longest, c.requires.some)) in
    let ample = t.ample (omega (arith, some, c.requires.few)) in
    let added_is = c.deref.ensures.value in
    record {
      standing = carried added_is tree_is t.standing;
      within = omega (arith, long_is, c.requires.within);
      fits = omega (arith, long_is, c.requires.short);
      inside = subst (λ xs. AllFit (length t.original.now) (length xs) runs) (sym added_is) (all_fit t.original.now (vec_items t.added) runs c.requires.longest c.requires.inside);
      spare = omega (arith, ample, between, longest, count_of t.tree.tree t.tree.weighed s, c.requires.few);
      room = omega (arith, ap (λ u. length (items u)) tree_is, t.room);
    }

pub invariant_of-self : goal.invariant_of-self
invariant_of-self g c =
    let t = c.args.self.now in
    let e = c.put_back.ensures in
    let tree_is = ap (λ u. u.tree) c.replace-tree.ensures.value in
    let x = c.args.offset in
    let runs = spelled c.args.runs.now in
    let s : Lying (length t.original.now) (length (vec_items t.added)) c.put_back.result.tree =
    subst (λ xs. Lying (length t.original.now) (length xs) c.put_back.result.tree) c.deref.ensures.value e.standing in
    let after : places c.put_back.result.tree ≡ take x (text_places t) ++ (runs ++ drop x (text_places t)) =
    e.places ∙ ap (λ u. take x (places u) ++ (runs ++ drop x (places u))) tree_is in
    let long_was = ap long tree_is ∙ sym (long_places t.tree.tree t.tree.weighed) in
    let items_are = ap (λ u. length (items u)) tree_is in
    record { standing = s; measured = still_faithful g.E.Element.breaks g.T.Total.neutral g.T.Measure.value g.T.Total.joined t.original.now c.put_back.result.tree c.deref.ensures.value tree_is t.measured e.faithful; short = omega (arith, e.long, long_was, c.requires.short); few = omega (arith, count_of c.put_back.result.tree c.put_back.result.weighed s, ap (λ ps. length (pieces_of ps)) after, c.requires.few); ample = λ some. omega (arith, t.ample some, e.stock, items_are); room = omega (arith, t.room, e.stock, e.capacity, items_are) }
