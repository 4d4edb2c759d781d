-- What a tree carries of its elements, it carries in one way only: any two proofs of it are equal. Assumes nothing.
use Rattle.std.specs.Prelude.{Bool, List, [], ◌∷◌}
use Rattle.std.specs.Coded.{Coded, Coded-set, ×_prop, Unit-prop, coded_ℕ}
use Rattle.ledger.specs.declared.words.Place.{Place}
use Rattle.measure.specs.Totals.{total}
use Rattle.nodes.specs.declared.types.Item.{Item}
use Rattle.nodes.specs.declared.types.Tree.{Tree}
use Rattle.nodes.specs.OneProof.{summed_prop}
use Rattle.nodes.specs.Trees.{items}
use Rattle.pieces.specs.Faithful.{count_breaks, source_part, AllCarry, Faithful}

module _ {T : Type 0} (code : Coded T) where
  module _ {E : Type 0} (breaks : E → Bool) (neutral : T) (value : E → T) (joined : T → T → T) (original added : List E) where
    all_carry_prop : (is : List (Item Place T)) → IsProp (AllCarry breaks neutral value joined original added is)
    all_carry_prop [] = Unit-prop
    all_carry_prop (i ∷ more) =
        ×_prop
        (×_prop
        (Coded-set coded_ℕ i.breaks (count_breaks breaks (source_part original added i.piece i.length)))
        (Coded-set code i.total (total neutral value joined (source_part original added i.piece i.length))))
        (all_carry_prop more)

    pub faithful_prop : (tree : Tree Place T) → IsProp (Faithful breaks neutral value joined original added tree)
    faithful_prop tree = ×_prop (summed_prop code neutral joined tree) (all_carry_prop (items tree))
