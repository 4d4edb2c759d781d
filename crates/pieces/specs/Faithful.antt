-- What a tree of pieces carries of the elements that it stands for. Assumes nothing.
use Rattle.std.specs.Prelude.{◌≡◌, ℕ, Bool, List, [], ◌∷◌, take, drop}
use Rattle.std.specs.List.{count_by}
use Rattle.measure.specs.Totals.{total}
use Rattle.ledger.specs.Places.{elements_at, source_list}
use Rattle.ledger.specs.declared.words.Place.{Place}
use Rattle.nodes.specs.declared.types.Item.{Item}
use Rattle.nodes.specs.declared.types.Tree.{Tree}
use Rattle.nodes.specs.Trees.{items, Summed}
use Rattle.pieces.specs.Spread.{places}

-- how many elements of a list are breaks
abbrev pub count_breaks : {E : Type 0} → (E → Bool) → List E → ℕ
count_breaks breaks es = count_by breaks es

module _ {E : Type 0} (original added : List E) where
  -- `length` elements of a source, from a place on
  abbrev pub source_part : Place → ℕ → List E
  source_part first length = take length (drop first.index (source_list original added first.source))

  -- the elements that a tree stands for
  abbrev pub elements : {T : Type 0} → Tree Place T → List E
  elements tree = elements_at original added (places tree)

module _ {E T : Type 0} (breaks : E → Bool) (neutral : T) (value : E → T) (joined : T → T → T) (original added : List E) where
  -- an item carries the number of breaks and the total of its elements
  abbrev pub Carries : Item Place T → Type 0
  Carries i =
      (i.breaks ≡ count_breaks breaks (source_part original added i.piece i.length))
      × (i.total ≡ total neutral value joined (source_part original added i.piece i.length))

  abbrev pub AllCarry : List (Item Place T) → Type 0
  AllCarry [] = Unit {0}
  AllCarry (i ∷ more) = Carries i × AllCarry more

  -- each place of a tree carries its subtree's total, and each item what its elements have
  abbrev pub Faithful : Tree Place T → Type 0
  Faithful tree = Summed neutral joined tree × AllCarry (items tree)
