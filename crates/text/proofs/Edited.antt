-- What a text's type says of its tree, before a change and after it. Assumes nothing.
use Rattle.std.proofs.Common.{◌≡◌, ℕ, Bool, ◌+◌, ◌<◌, ◌≤◌, List, [], ◌∷◌, ◌++◌, length, take, drop, sym, ap, subst, arith, length-append, take-append-drop}
use Rattle.std.specs.List.{AllByRecursion as All}
use Rattle.std.proofs.lemmas.List.{length-take, length-drop}
use Rattle.ledger.specs.Places.{elements_at, pieces_of, source_list}
use Rattle.ledger.specs.declared.words.Piece.{Piece}
use Rattle.ledger.specs.declared.words.Place.{Place}
use Rattle.nodes.specs.declared.types.Tree.{Tree}
use Rattle.nodes.specs.Trees.{items, Weighed}
use Rattle.pieces.specs.Faithful.{Faithful}
use Rattle.pieces.specs.Spread.{places, spelled, AllFit, Lying}
use Rattle.pieces.proofs.Elements.{source_long}
use Rattle.reading.proofs.Counting.{begins, count_cut, count_joint}
use Rattle.reading.proofs.Longest.{Kept, all_some, count_items, fit_pieces}

-- a standing tree, and an added source, under other names
pub carried : {E T : Type 0} {original : ℕ} {old new : List E} {tree same : Tree Place T} → new ≡ old → same ≡ tree → Lying original (length old) tree → Lying original (length new) same
carried {original = original} {new = new} {tree = tree} added_is tree_is s =
    subst (Lying original (length new)) (sym tree_is) (subst (λ xs. Lying original (length xs) tree) (sym added_is) s)

-- a tree that carries what its elements have, under other names, and one that follows from it
pub still_faithful : {E T : Type 0} (breaks : E → Bool) (neutral : T) (value : E → T) (joined : T → T → T) (original : List E) {old new : List E} {tree same : Tree Place T} (after : Tree Place T) → new ≡ old → same ≡ tree → Faithful breaks neutral value joined original old tree → (Faithful breaks neutral value joined original new same → Faithful breaks neutral value joined original new after) → Faithful breaks neutral value joined original old after
still_faithful breaks neutral value joined original {new = new} {tree = tree} after added_is tree_is was follows =
    let had = subst (λ xs. Faithful breaks neutral value joined original xs tree) (sym added_is) was in
    subst (λ xs. Faithful breaks neutral value joined original xs after) added_is (follows (subst (Faithful breaks neutral value joined original new) (sym tree_is) had))

-- a standing tree has as many items as its text has pieces
pub count_of : {T : Type 0} {original added : ℕ} (tree : Tree Place T) → Weighed tree → Lying original added tree → length (items tree) ≡ length (pieces_of (places tree))
count_of tree w s = sym (count_items (items tree) (all_some tree w) s.apart)

-- a text of some places has some pieces
pub some_pieces : (ps : List Place) → 0 < length ps → 0 < length (pieces_of ps)
some_pieces [] h = h
some_pieces (p ∷ ps) h = let b = begins p (pieces_of ps) in subst (λ qs. 0 < length qs) (sym b.is) (omega arith)

-- where some places stand between two parts, there are at most two pieces less than the text and they have by themselves
pub counted_between : (ps qs : List Place) (x : ℕ) → length (pieces_of ps) + length (pieces_of qs) ≤ length (pieces_of (take x ps ++ (qs ++ drop x ps))) + 2
counted_between ps qs x =
    let outer = count_cut (take x ps) (qs ++ drop x ps) in
    let inner = count_cut qs (drop x ps) in
    let whole = count_joint (take x ps) (drop x ps) in
    let parts = ap (λ xs. length (pieces_of xs)) (take-append-drop x ps) in
    omega (arith, outer, inner, whole, parts)

module _ {E : Type 0} (original added : List E) where
  -- no more elements than places
  at_most : (ps : List Place) → length (elements_at original added ps) ≤ length ps
  at_most [] = omega arith
  at_most (p ∷ ps) =
      let one = length-take 1 (drop p.index (source_list original added p.source)) in
      let parts = length-append (take 1 (drop p.index (source_list original added p.source))) (elements_at original added ps) in
      let more = at_most ps in
      omega (arith, one, parts, more)

  -- places that all have an element are in their sources
  pub all_kept : (ps : List Place) → length (elements_at original added ps) ≡ length ps → All (Kept (length original) (length added)) ps
  all_kept [] h = tt
  all_kept (p ∷ ps) h =
      let source = source_list original added p.source in
      let one = length-take 1 (drop p.index source) in
      let rest = length-drop p.index source in
      let parts = length-append (take 1 (drop p.index source)) (elements_at original added ps) in
      let more = at_most ps in
      let s = source_long original added p.source in
      (omega (arith, one, rest, parts, more, s, h), all_kept ps (omega (arith, one, parts, more, h)))

  -- runs that are the pieces of such places lie in their sources
  pub all_fit : (runs : List Piece) → runs ≡ pieces_of (spelled runs) → length (elements_at original added (spelled runs)) ≡ length (spelled runs) → AllFit (length original) (length added) runs
  all_fit runs longest whole =
      subst (AllFit (length original) (length added)) (sym longest) (fit_pieces (length original) (length added) (spelled runs) (all_kept (spelled runs) whole))
