-- The elements of some items of a tree of pieces. Assumes nothing.
use Rattle.std.proofs.Common.{◌≡◌, Bool, List, [], ◌∷◌, ◌++◌, length, sym, refl, ap, ◌∙◌, arith, length-append}
use Rattle.ledger.specs.Places.{elements_at, stretch}
use Rattle.ledger.specs.declared.words.Place.{Place}
use Rattle.nodes.specs.declared.types.Item.{Item}
use Rattle.nodes.specs.declared.types.Tree.{Tree}
use Rattle.nodes.specs.Trees.{items, broken, Weighed}
use Rattle.pieces.specs.Faithful.{count_breaks, source_part, elements, AllCarry}
use Rattle.pieces.specs.Spread.{spread, Inside}
use Rattle.pieces.proofs.Breaks.{count_append}
use Rattle.pieces.proofs.Elements.{elements_append, elements_stretch, part_long}
use Rattle.pieces.proofs.Spreads.{spread_append}
use Rattle.seeking.specs.Seeks.{elements_in, breaks_in}
use Rattle.seeking.proofs.Standing.{broken_is}

module _ {E : Type 0} (original added : List E) where
  module _ {T : Type 0} where
    -- the elements of some items, one after the other
    abbrev pub spelt : List (Item Place T) → List E
    spelt xs = elements_at original added (spread xs)

    pub spelt_append : (xs ys : List (Item Place T)) → spelt (xs ++ ys) ≡ spelt xs ++ spelt ys
    spelt_append xs ys = ap (elements_at original added) (spread_append xs ys) ∙ elements_append original added (spread xs) (spread ys)

    pub spelt_first : (i : Item Place T) (xs : List (Item Place T)) → spelt (i ∷ xs) ≡ source_part original added i.piece i.length ++ spelt xs
    spelt_first i xs =
        elements_append original added (stretch i.piece.source i.piece.index i.length) (spread xs) ∙ ap (λ ys. ys ++ spelt xs) (elements_stretch original added i.piece.source i.piece.index i.length)

    -- as many elements as the items say
    pub spelt_long : (xs : List (Item Place T)) → Inside (length original) (length added) xs → length (spelt xs) ≡ elements_in xs
    spelt_long [] h = refl
    spelt_long (i ∷ xs) h =
        let part = source_part original added i.piece i.length in
        let p = part_long original added i.piece i.length h.0 in
        let more = spelt_long xs h.1 in
        let f = ap length (spelt_first i xs) in
        let a = length-append part (spelt xs) in
        omega (arith, p, more, f, a)

    module _ (breaks : E → Bool) (neutral : T) (value : E → T) (joined : T → T → T) where
      -- as many breaks as the items say
      pub spelt_breaks : (xs : List (Item Place T)) → AllCarry breaks neutral value joined original added xs → count_breaks breaks (spelt xs) ≡ breaks_in xs
      spelt_breaks [] h = refl
      spelt_breaks (i ∷ xs) h =
          let part = source_part original added i.piece i.length in
          let p = h.0.0 in
          let more = spelt_breaks xs h.1 in
          let f = ap (count_breaks breaks) (spelt_first i xs) in
          let a = count_append breaks part (spelt xs) in
          omega (arith, p, more, f, a)

    -- a tree has as many breaks as it says
    pub tree_breaks : (breaks : E → Bool) (neutral : T) (value : E → T) (joined : T → T → T) (tree : Tree Place T) → Weighed tree → AllCarry breaks neutral value joined original added (items tree) → count_breaks breaks (elements original added tree) ≡ broken tree
    tree_breaks breaks neutral value joined tree w h = spelt_breaks breaks neutral value joined (items tree) h ∙ sym (broken_is tree w)
