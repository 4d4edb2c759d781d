-- What stands at a place of a list of items. Assumes nothing.
use Rattle.std.specs.Prelude.{◌≡◌, ℕ, ◌+◌, List, [], ◌∷◌, ◌++◌, length}
use Rattle.measure.specs.Totals.{total}
use Rattle.nodes.specs.declared.types.Item.{Item}
use Rattle.nodes.specs.declared.types.Tree.{Tree}
use Rattle.nodes.specs.Trees.{items, Summed}
use Rattle.seeking.specs.declared.types.Found.{Found}

-- the elements and the breaks of some items, and the total of all their elements in order
abbrev pub elements_in : {P T : Type 0} → List (Item P T) → ℕ
elements_in [] = 0
elements_in (item ∷ more) = item.length + elements_in more

abbrev pub breaks_in : {P T : Type 0} → List (Item P T) → ℕ
breaks_in [] = 0
breaks_in (item ∷ more) = item.breaks + breaks_in more

abbrev pub total_of : {P T : Type 0} → T → (T → T → T) → List (Item P T) → T
total_of neutral joined = total neutral (λ item. item.total) joined

-- the found item is one of the tree's, and what is said to lie before it does
pub record Stands {P T : Type 0} (neutral : T) (joined : T → T → T) (tree : Tree P T) (found : Found P T) : Type 0 where
  pub front : List (Item P T)
  pub back : List (Item P T)
  pub parts : items tree ≡ front ++ found.item ∷ back
  pub elements : found.before.length ≡ elements_in front
  pub breaks : found.before.breaks ≡ breaks_in front
  pub pieces : found.before.pieces ≡ length front
  pub total_before : Summed neutral joined tree → found.before.total ≡ total_of neutral joined front
