-- What a tree carries and how it is balanced has one proof at most. Assumes nothing.
use Rattle.std.proofs.Common.{◌+◌, false}
use Rattle.std.specs.Coded.{Coded, Coded-set}
use mathlib.Core.Bool.{Bool-set}
use mathlib.Core.HLevel.{Unit-prop}
use native.Mathlib.Bridge.{le_prop}
use native.Mathlib.Nat.{ℕ_set}
use Rattle.nodes.specs.declared.types.Colour.{Colour}
use Rattle.nodes.specs.declared.types.Colour.TheVariants.{Red, Black}
use Rattle.nodes.specs.declared.types.Tree.{Tree}
use Rattle.nodes.specs.declared.types.Tree.TheVariants.{Empty, Place'}
use Rattle.nodes.specs.Trees.{long, broken, placed, whole, red, blacks, Balanced, Calm, Legal, Summed, Weighed}

module _ {P T : Type 0} where
  pub weighed_prop : (tree : Tree P T) → IsProp (Weighed tree)
  weighed_prop Empty x y = Unit-prop x y
  weighed_prop (Place' p colour left item right sums) x y =
      λ i. (
        ℕ_set sums.length (long left + item.length + long right) x.0 y.0 i,
        ℕ_set sums.breaks (broken left + item.breaks + broken right) x.1 y.1 i,
        ℕ_set sums.pieces (placed left + 1 + placed right) x.2 y.2 i,
        (le_prop x.3.0 y.3.0 i, le_prop x.3.1 y.3.1 i),
        weighed_prop left x.4 y.4 i,
        weighed_prop right x.5 y.5 i,
      )

  calm_prop : (colour : Colour) (side : Tree P T) → IsProp (Calm colour side)
  calm_prop Red side = Bool-set (red side) false
  calm_prop Black side = Unit-prop

  legal_prop : (tree : Tree P T) → IsProp (Legal tree)
  legal_prop Empty x y = Unit-prop x y
  legal_prop (Place' p colour left item right sums) x y =
      λ i. (
        ℕ_set (blacks left) (blacks right) x.0 y.0 i,
        calm_prop colour left x.1 y.1 i,
        calm_prop colour right x.2 y.2 i,
        legal_prop left x.3 y.3 i,
        legal_prop right x.4 y.4 i,
      )

  pub balanced_prop : (tree : Tree P T) → IsProp (Balanced tree)
  balanced_prop tree x y = λ i. (Bool-set (red tree) false x.0 y.0 i, legal_prop tree x.1 y.1 i)

-- an equation of totals has one proof at most, as all values of a type of the program tell apart
module _ {T : Type 0} (code : Coded T) where
  pub summed_prop : {P : Type 0} (neutral : T) (joined : T → T → T) (tree : Tree P T) → IsProp (Summed neutral joined tree)
  summed_prop neutral joined Empty x y = Unit-prop x y
  summed_prop neutral joined (Place' p colour left item right sums) x y =
      λ i. (
        Coded-set code sums.total (joined (joined (whole neutral left) item.total) (whole neutral right)) x.0 y.0 i,
        summed_prop neutral joined left x.1 y.1 i,
        summed_prop neutral joined right x.2 y.2 i,
      )
