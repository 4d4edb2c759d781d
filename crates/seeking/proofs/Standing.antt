-- What the parts of a tree say of the items of the whole. Assumes nothing.
use Rattle.std.proofs.Common.{◌≡◌, ◌+◌, List, [], ◌∷◌, ◌++◌, length, Box, sym, refl, ◌∙◌, subst, append_assoc, arith, length-append}
use Rattle.std.specs.declared.alloc.Global.{Global}
use Rattle.measure.specs.Totals.{Monoid}
use Rattle.measure.proofs.Totals.{total_append}
use Rattle.nodes.specs.declared.types.Item.{Item}
use Rattle.nodes.specs.declared.types.Node.{Node}
use Rattle.nodes.specs.declared.types.Tree.{Tree, Place}
use Rattle.nodes.specs.declared.types.Tree.TheVariants.{Empty, Place'}
use Rattle.nodes.specs.Trees.{items, long, broken, placed, whole, Summed, Weighed}
use Rattle.seeking.specs.declared.types.Found.{Found}
use Rattle.seeking.specs.Seeks.{elements_in, breaks_in, total_of, Stands}

pub elements_append : {P T : Type 0} → (xs ys : List (Item P T)) → elements_in (xs ++ ys) ≡ elements_in xs + elements_in ys
elements_append [] ys = omega arith
elements_append (x ∷ xs) ys = let h = elements_append xs ys in omega arith

pub breaks_append : {P T : Type 0} → (xs ys : List (Item P T)) → breaks_in (xs ++ ys) ≡ breaks_in xs + breaks_in ys
breaks_append [] ys = omega arith
breaks_append (x ∷ xs) ys = let h = breaks_append xs ys in omega arith

-- the sums that a tree carries are those of its items
pub long_is : {P T : Type 0} → (tree : Tree P T) → Weighed tree → long tree ≡ elements_in (items tree)
long_is Empty w = refl
long_is (Place' p colour left item right sums) w =
    omega (arith, w.0, long_is left w.4, long_is right w.5, elements_append (items left) (item ∷ items right))

pub broken_is : {P T : Type 0} → (tree : Tree P T) → Weighed tree → broken tree ≡ breaks_in (items tree)
broken_is Empty w = refl
broken_is (Place' p colour left item right sums) w =
    omega (arith, w.1, broken_is left w.4, broken_is right w.5, breaks_append (items left) (item ∷ items right))

pub placed_is : {P T : Type 0} → (tree : Tree P T) → Weighed tree → placed tree ≡ length (items tree)
placed_is Empty w = refl
placed_is (Place' p colour left item right sums) w =
    omega (arith, w.2, placed_is left w.4, placed_is right w.5, length-append (items left) (item ∷ items right))

module _ {P T : Type 0} (neutral : T) (joined : T → T → T) (laws : Monoid neutral joined) where
  -- the total of some items, one after them, and some more
  pub total_through : (xs ys : List (Item P T)) (x : Item P T) → joined (joined (total_of neutral joined xs) x.total) (total_of neutral joined ys) ≡ total_of neutral joined (xs ++ x ∷ ys)
  total_through xs ys x =
      laws.associative (total_of neutral joined xs) x.total (total_of neutral joined ys) ∙ sym (total_append neutral (λ item. item.total) joined laws xs (x ∷ ys))

  pub whole_is : (tree : Tree P T) → Summed neutral joined tree → whole neutral tree ≡ total_of neutral joined (items tree)
  whole_is Empty s = refl
  whole_is (Place' p colour left item right sums) s =
      cc (whole_is left s.1, whole_is right s.2, total_through (items left) (items right) item)

  -- what is found on the left of a tree's top place, at the place itself, or on the right
  pub stands_left : {tree : Tree P T} {place : Box (Node P T) Global} {found : Found P T} → tree ≡ Place place → Stands neutral joined place.value.left found → Stands neutral joined tree found
  stands_left {place = place} {found = found} is left =
      subst (λ t. Stands neutral joined t found) (sym is) (record {
        front = left.front;
        back = left.back ++ place.value.item ∷ items place.value.right;
        parts = cc (left.parts, append_assoc left.front (found.item ∷ left.back) (place.value.item ∷ items place.value.right));
        elements = left.elements;
        breaks = left.breaks;
        pieces = left.pieces;
        total_before = λ s. left.total_before s.1;
      })

  pub stands_here : {tree : Tree P T} {place : Box (Node P T) Global} {found : Found P T} → tree ≡ Place place → Weighed tree → found.item ≡ place.value.item → found.before.length ≡ long place.value.left → found.before.breaks ≡ broken place.value.left → found.before.pieces ≡ placed place.value.left → found.before.total ≡ whole neutral place.value.left → Stands neutral joined tree found
  stands_here {place = place} {found = found} is w item length_is breaks_is pieces_is total_is =
      let left = place.value.left in
      let weighed = (subst Weighed is w).4 in
      subst (λ t. Stands neutral joined t found) (sym is) (record {
        front = items left;
        back = items place.value.right;
        parts = (cc);
        elements = length_is ∙ long_is left weighed;
        breaks = breaks_is ∙ broken_is left weighed;
        pieces = pieces_is ∙ placed_is left weighed;
        total_before = λ s. total_is ∙ whole_is left s.1;
      })

  pub stands_right : {tree : Tree P T} {place : Box (Node P T) Global} {below found : Found P T} → tree ≡ Place place → Weighed tree → Stands neutral joined place.value.right below → found.item ≡ below.item → found.before.length ≡ long place.value.left + place.value.item.length + below.before.length → found.before.breaks ≡ broken place.value.left + place.value.item.breaks + below.before.breaks → found.before.pieces ≡ placed place.value.left + 1 + below.before.pieces → found.before.total ≡ joined (joined (whole neutral place.value.left) place.value.item.total) below.before.total → Stands neutral joined tree found
  stands_right {place = place} {below = below} {found = found} is w right item length_is breaks_is pieces_is total_is =
      let left = place.value.left in
      let it = place.value.item in
      let weighed = (subst Weighed is w).4 in
      subst (λ t. Stands neutral joined t found) (sym is) (record {
        front = items left ++ it ∷ right.front;
        back = right.back;
        parts = cc (right.parts, append_assoc (items left) (it ∷ right.front) (below.item ∷ right.back));
        elements = omega (arith, length_is, long_is left weighed, right.elements, elements_append (items left) (it ∷ right.front));
        breaks = omega (arith, breaks_is, broken_is left weighed, right.breaks, breaks_append (items left) (it ∷ right.front));
        pieces = omega (arith, pieces_is, placed_is left weighed, right.pieces, length-append (items left) (it ∷ right.front));
        total_before = λ s.
            cc (whole_is left s.1, right.total_before s.2, total_through (items left) right.front it);
      })

-- what a summary is proved by
pub ruleset summing = (long_is, broken_is, placed_is, whole_is)
