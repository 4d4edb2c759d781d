-- What the items of a tree of pieces spell: an item stands for `length` places from its first one on. Assumes nothing.
use Rattle.std.specs.Prelude.{◌≡◌, ℕ, ◌+◌, ◌<◌, ◌≤◌, Bool, false, cond, ◌&&◌, List, [], ◌∷◌, ◌++◌, ◌==◌}
use Rattle.ledger.specs.Places.{stretch, same_source, piece}
use Rattle.ledger.specs.declared.words.Piece.{Piece}
use Rattle.ledger.specs.declared.words.Place.{Place}
use Rattle.ledger.specs.declared.words.Source.{Source}
use Rattle.ledger.specs.declared.words.Source.TheVariants.{Original, Added}
use Rattle.nodes.specs.declared.types.Item.{Item}
use Rattle.nodes.specs.declared.types.Tree.{Tree}
use Rattle.nodes.specs.Trees.{items}

-- the places of some pieces, one after the other
abbrev pub spelled : List Piece → List Place
spelled [] = []
spelled (p ∷ more) = stretch p.source p.start p.length ++ spelled more

module _ {T : Type 0} where
  -- the piece of an item
  abbrev pub piece_of : Item Place T → Piece
  piece_of i = piece i.piece.source i.piece.index i.length

  -- the places of some items, one after the other
  abbrev pub spread : List (Item Place T) → List Place
  spread [] = []
  spread (i ∷ more) = stretch i.piece.source i.piece.index i.length ++ spread more

  -- the places that a tree stands for
  abbrev pub places : Tree Place T → List Place
  places tree = spread (items tree)

  -- whether the second piece goes on where the first ends
  abbrev pub touches : Item Place T → Item Place T → Bool
  touches i j = same_source i.piece.source j.piece.source && i.piece.index + i.length == j.piece.index

  abbrev pub StartsApart : Item Place T → List (Item Place T) → Type 0
  StartsApart i [] = Unit {0}
  StartsApart i (j ∷ more) = touches i j ≡ false

  -- no piece goes on where the one before it ends: each is a longest stretch
  abbrev pub Apart : List (Item Place T) → Type 0
  Apart [] = Unit {0}
  Apart (i ∷ more) = StartsApart i more × Apart more

-- one item where a piece goes on where another ends
abbrev pub merged : {T : Type 0} → (T → T → T) → Item Place T → Item Place T → Item Place T
merged joined i j = record {
  piece = i.piece;
  length = i.length + j.length;
  breaks = i.breaks + j.breaks;
  total = joined i.total j.total;
}

-- an item before some others
abbrev pub sewn_on : {T : Type 0} → (T → T → T) → Item Place T → List (Item Place T) → List (Item Place T)
sewn_on joined i [] = i ∷ []
sewn_on joined i (j ∷ more) = cond (touches i j) (merged joined i j ∷ more) (i ∷ j ∷ more)

abbrev pub sewn_from : {T : Type 0} → (T → T → T) → Item Place T → List (Item Place T) → List (Item Place T) → List (Item Place T)
sewn_from joined i [] back = sewn_on joined i back
sewn_from joined i (k ∷ front) back = i ∷ sewn_from joined k front back

-- some items before some others: where the last of the first and the first of the others touch, they become one
abbrev pub sewn : {T : Type 0} → (T → T → T) → List (Item Place T) → List (Item Place T) → List (Item Place T)
sewn joined [] back = back
sewn joined (i ∷ front) back = sewn_from joined i front back

-- how many elements a source has
abbrev pub size_of : ℕ → ℕ → Source → ℕ
size_of original added Original = original
size_of original added Added = added

-- each piece lies in its source
abbrev pub Inside : {T : Type 0} → ℕ → ℕ → List (Item Place T) → Type 0
Inside original added [] = Unit {0}
Inside original added (i ∷ more) =
    (i.piece.index + i.length ≤ size_of original added i.piece.source) × Inside original added more

-- a run has an element at least, and lies in its source
abbrev pub Fits : ℕ → ℕ → Piece → Type 0
Fits original added run = (0 < run.length) × (run.start + run.length ≤ size_of original added run.source)

abbrev pub AllFit : ℕ → ℕ → List Piece → Type 0
AllFit original added [] = Unit {0}
AllFit original added (run ∷ more) = Fits original added run × AllFit original added more

-- a tree of longest pieces over sources of so many elements
pub record Lying {T : Type 0} (original added : ℕ) (tree : Tree Place T) : Type 0 where
  pub apart : Apart (items tree)
  pub inside : Inside original added (items tree)
