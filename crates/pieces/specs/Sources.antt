-- What stands over the two sources of a text. Assumes nothing.
use Rattle.std.specs.Prelude.{ℕ, ◌+◌, ◌≤◌, Bool, List, length}
use Rattle.ledger.specs.declared.words.Place.{Place}
use Rattle.nodes.specs.declared.types.Item.{Item}
use Rattle.nodes.specs.declared.types.Tree.{Tree}
use Rattle.pieces.specs.declared.parts.Sources.{Sources}
use Rattle.pieces.specs.Faithful.{elements, source_part, Carries, Faithful}
use Rattle.pieces.specs.Spread.{size_of, AllFit, Inside, Lying}
use Rattle.ledger.specs.declared.words.Piece.{Piece}

module _ {E : Type 0} (sources : Sources E) where
  -- a place and those behind it, `count` in all, have elements
  abbrev pub Has : Place → ℕ → Type 0
  Has first count = first.index + count ≤ size_of (length sources.original.now) (length sources.added.now) first.source

  -- their elements
  abbrev pub part_of : Place → ℕ → List E
  part_of first count = source_part sources.original.now sources.added.now first count

  -- each run has elements
  abbrev pub HasAll : List Piece → Type 0
  HasAll runs = AllFit (length sources.original.now) (length sources.added.now) runs

  module _ {T : Type 0} where
    -- the elements that a tree stands for
    abbrev pub elements_of : Tree Place T → List E
    elements_of tree = elements sources.original.now sources.added.now tree

    -- each piece has elements
    abbrev pub InsideOf : List (Item Place T) → Type 0
    InsideOf items = Inside (length sources.original.now) (length sources.added.now) items

    -- a tree of longest pieces of these sources
    abbrev pub LyingOver : Tree Place T → Type 0
    LyingOver tree = Lying (length sources.original.now) (length sources.added.now) tree

module _ {E T : Type 0} (breaks : E → Bool) (neutral : T) (value : E → T) (joined : T → T → T) (sources : Sources E) where
  -- an item carries what its elements in these sources have
  abbrev pub TrueTo : Item Place T → Type 0
  TrueTo item = Carries breaks neutral value joined sources.original.now sources.added.now item

  -- a tree carries what its elements in these sources have
  abbrev pub FaithfulTo : Tree Place T → Type 0
  FaithfulTo tree = Faithful breaks neutral value joined sources.original.now sources.added.now tree
