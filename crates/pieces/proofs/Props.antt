-- What stands of a tree of pieces stands in one way only: any two proofs of it are equal. Assumes nothing.
use Rattle.std.proofs.Common.{ℕ, false, List, [], ◌∷◌}
use mathlib.Core.Bool.{Bool-set}
use mathlib.Core.HLevel.{Unit-prop}
use native.Mathlib.Bridge.{le_prop}
use Rattle.ledger.specs.declared.words.Place.{Place}
use Rattle.nodes.specs.declared.types.Item.{Item}
use Rattle.nodes.specs.declared.types.Tree.{Tree}
use Rattle.nodes.specs.Trees.{items}
use Rattle.pieces.specs.Spread.{touches, Apart, Inside, Lying, StartsApart}

module _ {T : Type 0} where
  starts_apart_prop : (item : Item Place T) (more : List (Item Place T)) → IsProp (StartsApart item more)
  starts_apart_prop item [] = Unit-prop
  starts_apart_prop item (next ∷ more) = Bool-set (touches item next) false

  pub apart_prop : (all : List (Item Place T)) → IsProp (Apart all)
  apart_prop [] x y = Unit-prop x y
  apart_prop (item ∷ more) x y = λ i. (starts_apart_prop item more x.0 y.0 i, apart_prop more x.1 y.1 i)

  pub inside_prop : (original added : ℕ) (all : List (Item Place T)) → IsProp (Inside original added all)
  inside_prop original added [] x y = Unit-prop x y
  inside_prop original added (item ∷ more) x y =
      λ i. (le_prop x.0 y.0 i, inside_prop original added more x.1 y.1 i)

  pub lying_prop : (original added : ℕ) (tree : Tree Place T) → IsProp (Lying original added tree)
  lying_prop original added tree x y =
      λ i. record {
        apart = apart_prop (items tree) x.apart y.apart i;
        inside = inside_prop original added (items tree) x.inside y.inside i;
      }
