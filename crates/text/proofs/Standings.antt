-- What a text's tree keeps, and how many places, elements and pieces it has. Assumes nothing.
use Rattle.std.proofs.Common.{◌≡◌, ◌+◌, ◌^◌, ◌<◌, ◌≤◌, List, length, sym, subst, arith}
use Rattle.ledger.specs.Places.{pieces_of}
use Rattle.element.specs.declared.Element.{Ghosts as Elements}
use Rattle.measure.specs.declared.Measure.{Ghosts as Measures}
use Rattle.measure.specs.declared.Total.{Ghosts as Totals}
use Rattle.nodes.specs.Trees.{items, long, placed}
use Rattle.pieces.specs.Spread.{Inside}
use Rattle.seeking.proofs.Standing.{placed_is}
use Rattle.reading.proofs.Changes.{long_places, placed_pieces}
use Rattle.reading.proofs.PartTotals.{elements_long}
use Rattle.text.specs.declared.Text.{Text}
use Rattle.text.specs.Texts.{text_places, original_of, added_of, written}

module _ {E T : Type 0} {e : Elements E} {m : Measures T E} {total : Totals T} (t : Text E T e m total) where
  -- the pieces lie inside a list that is the added source
  pub inside_of : (added : List E) → added ≡ added_of t → Inside (length (original_of t)) (length added) (items t.tree.tree)
  inside_of added is = subst (λ more. Inside (length (original_of t)) (length more) (items t.tree.tree)) (sym is) t.standing.inside

  -- the carried length is that of the places, and of the elements
  pub places_long : length (text_places t) ≡ long t.tree.tree
  places_long = long_places t.tree.tree t.tree.weighed

  pub written_long : length (written t) ≡ long t.tree.tree
  written_long = elements_long (original_of t) (added_of t) t.tree.tree t.tree.weighed t.standing.inside

  -- the carried number is that of the pieces, and of the tree places
  pub pieces_placed : placed t.tree.tree ≡ length (pieces_of (text_places t))
  pieces_placed = placed_pieces t.tree.tree t.tree.weighed t.standing.apart

  pub items_placed : placed t.tree.tree ≡ length (items t.tree.tree)
  items_placed = placed_is t.tree.tree t.tree.weighed

  -- two more than the length is still a machine number
  pub long_fits : long t.tree.tree + 2 < 2 ^ 64
  long_fits = let short : long t.tree.tree ≤ 2 ^ 24 = t.short in omega (arith, short)
