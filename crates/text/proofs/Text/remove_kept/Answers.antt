use Rattle.std.proofs.Common.{◌≡◌, ◌+◌, ◌++◌, length, take, drop, vec_items, sym, ap, ◌∙◌, subst, arith, rules}
use Rattle.ledger.specs.Places.{pieces_of}
use Rattle.nodes.specs.Trees.{items, long}
use Rattle.pieces.specs.Spread.{places, Lying}
use Rattle.reading.proofs.Longest.{longest}
use Rattle.reading.proofs.Changes.{long_places}
use Rattle.text.specs.Texts.{text_places}
use Rattle.text.proofs.Edited.{carried, count_of, some_pieces, still_faithful}
use Rattle.text.proofs.Text.remove_kept.Goals as goal

pub take_out-rest-requires : goal.take_out-rest-requires
take_out-rest-requires g c =
    let t = c.args.self.now in
    let s = t.standing in
    let tree_is = ap (λ u. u.tree) c.replace-tree.ensures.value in
    let long_is : long c.replace-tree.result.tree ≡ length (text_places t) = ap long tree_is ∙ sym (long_places t.tree.tree t.tree.weighed) in
    let pieces = some_pieces (text_places t) (omega (arith, c.requires.some, c.requires.within)) in
    let ample = t.ample (omega (arith, pieces, count_of t.tree.tree t.tree.weighed s, t.few)) in
    record {
      standing = carried c.deref.ensures.value tree_is t.standing;
      within = omega (arith, long_is, c.requires.within);
      spare = omega (arith, ample, t.few);
      room = omega (arith, ap (λ u. length (items u)) tree_is, t.room);
    }

pub keep_runs-requires : goal.keep_runs-requires
keep_runs-requires g c =
    let t = c.args.self.now in
    let e = c.take_out-rest.ensures in
    let tree_is = ap (λ u. u.tree) c.replace-tree.ensures.value in
    let part = c.take_out-rest.result.1.tree in
    let count = count_of part c.take_out-rest.result.1.weighed e.standing.1 in
    let spelled : places part ≡ take c.args.count (drop c.args.offset (text_places t)) =
    e.part ∙ ap (λ u. take c.args.count (drop c.args.offset (places u))) tree_is in
    record {
      room = omega (arith, t.room, e.stock, e.capacity, ap (λ u. length (items u)) tree_is);
      cells = omega (arith, c.requires.room, count, ap (λ ps. length (pieces_of ps)) spelled);
    }

pub invariant_of-self : goal.invariant_of-self
invariant_of-self g c =
    let t = c.args.self.now in
    let e = c.take_out-rest.ensures in
    let tree_is = ap (λ u. u.tree) c.replace-tree.ensures.value in
    let x = c.args.offset in
    let rest = c.take_out-rest.result.0.tree in
    let s : Lying (length t.original.now) (length (vec_items t.added)) rest =
    subst (λ xs. Lying (length t.original.now) (length xs) rest) c.deref.ensures.value e.standing.0 in
    let after : places rest ≡ take x (text_places t) ++ drop (x + c.args.count) (text_places t) =
    e.rest ∙ ap (λ u. take x (places u) ++ drop (x + c.args.count) (places u)) tree_is in
    let items_are = ap (λ u. length (items u)) tree_is in
    let back = c.keep_runs.ensures in
    record { standing = s; measured = still_faithful g.E.Element.breaks g.T.Total.neutral g.T.Measure.value g.T.Total.joined t.original.now rest c.deref.ensures.value tree_is t.measured e.faithful; short = omega (arith, e.long.0, ap long tree_is, t.short); few = omega (arith, count_of rest c.take_out-rest.result.0.weighed s, ap (λ ps. length (pieces_of ps)) after, c.requires.few); ample = λ some. omega (arith, t.ample some, e.stock, back.stock, items_are); room = omega (arith, t.room, e.stock, e.capacity, back.stock, back.capacity.0, items_are) }

pub returns : goal.returns
returns g c =
    let t = c.args.self.now in
    let e = c.take_out-rest.ensures in
    let tree_is = ap (λ u. u.tree) c.replace-tree.ensures.value in
    let x = c.args.offset in
    let n = c.args.count in
    let part = c.take_out-rest.result.1.tree in
    let back = c.keep_runs.ensures in
    let kept = longest part c.take_out-rest.result.1.weighed e.standing.1.apart in
    let spelled : places part ≡ take n (drop x (text_places t)) = e.part ∙ ap (λ u. take n (drop x (places u))) tree_is in
    record {
      places = e.rest ∙ ap (λ u. take x (places u) ++ drop (x + n) (places u)) tree_is;
      runs = back.runs ∙ ap (λ ps. vec_items c.args.runs.now ++ ps) (kept ∙ ap pieces_of spelled);
      capacity = back.capacity.1;
      kept = search rules;
    }
