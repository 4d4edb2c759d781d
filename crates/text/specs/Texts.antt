-- What a text stands for, and what a change leaves as it is. Assumes nothing.
use Rattle.std.specs.Prelude.{◌≡◌, ℕ, ◌+◌, List, length, vec_items, vec_len, vec_capacity}
use Rattle.element.specs.declared.Element.{Ghosts as Elements}
use Rattle.measure.specs.declared.Measure.{Ghosts as Measures}
use Rattle.measure.specs.declared.Total.{Ghosts as Totals}
use Rattle.ledger.specs.Places.{elements_at}
use Rattle.ledger.specs.declared.words.Place.{Place}
use Rattle.nodes.specs.Trees.{items}
use Rattle.pieces.specs.Spread.{places}
use Rattle.text.specs.declared.Text.{Text}

-- over any elements and any measure of them
module _ {E T : Type 0} {e : Elements E} {m : Measures T E} {t : Totals T} where
  -- the places of a text
  abbrev pub text_places : Text E T e m t → List Place
  text_places text = places text.tree.tree

  abbrev pub original_of : Text E T e m t → List E
  original_of text = text.original.now

  abbrev pub added_of : Text E T e m t → List E
  added_of text = vec_items text.added

  -- the elements of a text
  abbrev pub written : Text E T e m t → List E
  written text = elements_at (original_of text) (added_of text) (text_places text)

  -- tree places, in use and in stock
  abbrev pub places_owned : Text E T e m t → ℕ
  places_owned text = vec_len text.stock + length (items text.tree.tree)

  -- all but the places of the text, and how its tree is arranged, is the same
  pub record Kept (before after : Text E T e m t) : Type 0 where
    pub original : after.original ≡ before.original
    pub added : after.added ≡ before.added
    pub limit : after.limit ≡ before.limit
    pub owned : places_owned after ≡ places_owned before

  -- all but the added source is the same
  pub record SameText (before after : Text E T e m t) : Type 0 where
    pub original : after.original ≡ before.original
    pub tree : after.tree ≡ before.tree
    pub stock : after.stock ≡ before.stock
    pub limit : after.limit ≡ before.limit
    pub capacity : vec_capacity after.added ≡ vec_capacity before.added
