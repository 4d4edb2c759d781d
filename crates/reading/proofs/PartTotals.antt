-- Parts of a tree of pieces, and their totals. Assumes nothing.
use Rattle.std.proofs.Common.{◌≡◌, ℕ, zero, suc, ◌+◌, ◌-◌, ◌≤◌, min, Bool, List, [], ◌∷◌, ◌++◌, length, take, drop, Box, sym, refl, ap, ◌∙◌, subst, arith, length-drop, take_all, take-take, drop-drop}
use Rattle.std.proofs.lemmas.List.{drop_min, drop-take, take_min}
use Rattle.std.specs.declared.alloc.Global.{Global}
use Rattle.measure.specs.Totals.{Monoid, total}
use Rattle.measure.proofs.Totals.{total_append}
use Rattle.ledger.specs.Places.{source_list}
use Rattle.ledger.specs.declared.words.Place.{Place}
use Rattle.nodes.specs.declared.types.Item.{Item}
use Rattle.nodes.specs.declared.types.Node.{Node}
use Rattle.nodes.specs.declared.types.Tree.{Tree}
use Rattle.nodes.specs.declared.types.Tree as trees
use Rattle.nodes.specs.Trees.{items, long, whole, Summed, Weighed}
use Rattle.pieces.specs.Faithful.{elements, source_part, Carries, AllCarry, Faithful}
use Rattle.pieces.specs.Spread.{size_of, Inside}
use Rattle.pieces.proofs.Elements.{part_long}
use Rattle.pieces.proofs.Spreads.{carry_back, carry_front, inside_back, inside_front}
use Rattle.reading.proofs.LineItems.{spelt, spelt_append, spelt_first, spelt_long}
use Rattle.seeking.specs.Seeks.{total_of}
use Rattle.seeking.proofs.Standing.{long_is, whole_is}
use Rattle.reading.specs.LineParts.{part}

module _ {E : Type 0} where
  take_append : (k : ℕ) (xs ys : List E) → take k (xs ++ ys) ≡ take k xs ++ take (k - length xs) ys
  take_append zero xs ys = let none : 0 ≡ 0 - length xs = omega arith in ap (λ n. take n ys) none
  take_append (suc k) [] ys = let all : suc k ≡ suc k - 0 = omega arith in ap (λ n. take n ys) all
  take_append (suc k) (x ∷ xs) ys =
      let less : k - length xs ≡ suc k - suc (length xs) = omega arith in
      ap (λ l. x ∷ l) (take_append k xs ys ∙ ap (λ n. take k xs ++ take n ys) less)

  drop_append : (k : ℕ) (xs ys : List E) → drop k (xs ++ ys) ≡ drop k xs ++ drop (k - length xs) ys
  drop_append zero xs ys = let none : 0 ≡ 0 - length xs = omega arith in ap (λ n. xs ++ drop n ys) none
  drop_append (suc k) [] ys = let all : suc k ≡ suc k - 0 = omega arith in ap (λ n. drop n ys) all
  drop_append (suc k) (x ∷ xs) ys =
      let less : k - length xs ≡ suc k - suc (length xs) = omega arith in
      drop_append k xs ys ∙ ap (λ n. drop k xs ++ drop n ys) less

  -- offsets behind the end of a list may as well stand at its end
  part_capped : (from upto n : ℕ) (xs : List E) → length xs ≡ n → part from upto xs ≡ part (min from n) (min upto n) xs
  part_capped from upto n xs long =
      let rest = length-drop from xs in
      let less : min (upto - from) (length (drop from xs)) ≡ min upto n - min from n = omega arith in
      let start : min from (length xs) ≡ min from n = omega arith in
      sym (take_min (upto - from) (drop from xs)) ∙ ap (λ k. take k (drop from xs)) less ∙ ap (take (min upto n - min from n)) (sym (drop_min from xs) ∙ ap (λ k. drop k xs) start)

  -- a part of two lists, one after the other, is a part of the first and then one of the second
  part_append : (from upto n : ℕ) (xs ys : List E) → length xs ≡ n → part from upto (xs ++ ys) ≡ part (min from n) (min upto n) xs ++ part (from - n) (upto - n) ys
  part_append from upto n xs ys long =
      let rest = length-drop from xs in
      let start : from - length xs ≡ from - n = omega arith in
      let count : upto - from - length (drop from xs) ≡ (upto - n) - (from - n) = omega arith in
      ap (take (upto - from)) (drop_append from xs ys ∙ ap (λ k. drop from xs ++ drop k ys) start)
      ∙ take_append (upto - from) (drop from xs) (drop (from - n) ys)
      ∙ ap (λ k. part from upto xs ++ take k (drop (from - n) ys)) count
      ∙ ap (λ l. l ++ part (from - n) (upto - n) ys) (part_capped from upto n xs long)

  -- from 0 up to the length that is all
  pub part_all : (from upto : ℕ) (xs : List E) → from ≡ 0 → length xs ≤ upto → part from upto xs ≡ xs
  part_all from upto xs first all =
      ap (λ k. take (upto - from) (drop k xs)) first ∙ take_all (upto - from) xs (omega arith)

module _ {E : Type 0} (original added : List E) where
  -- a part of a piece's elements is read off its source
  pub part_inner : (first : Place) (n from upto : ℕ) → from ≤ upto → upto ≤ n → part from upto (source_part original added first n) ≡ take (upto - from) (drop (first.index + from) (source_list original added first.source))
  part_inner first n from upto low high =
      let rest : List E = drop first.index (source_list original added first.source) in
      let cut : n ≡ from + (n - from) = omega arith in
      ap (λ k. take (upto - from) (drop from (take k rest))) cut
      ∙ ap (take (upto - from)) (drop-take from (n - from) rest)
      ∙ take-take (upto - from) (n - from) (drop from rest) (omega arith)
      ∙ ap (take (upto - from)) (drop-drop from first.index (source_list original added first.source))

-- a tree has as many elements as it says
pub elements_long : {E T : Type 0} (original added : List E) (tree : Tree Place T) → Weighed tree → Inside (length original) (length added) (items tree) → length (elements original added tree) ≡ long tree
elements_long original added tree weighed inside = spelt_long original added (items tree) inside ∙ sym (long_is tree weighed)

-- what is known of a tree at its top place
pub record Opens {T : Type 0} (n a : ℕ) (tree : Tree Place T) (node : Node Place T) : Type 0 where
  pub items_are : items tree ≡ items node.left ++ node.item ∷ items node.right
  pub length_is : long tree ≡ node.sums.length
  pub long_are : long tree ≡ long node.left + node.item.length + long node.right
  pub left_weighed : Weighed node.left
  pub right_weighed : Weighed node.right
  pub left_inside : Inside n a (items node.left)
  pub item_inside : node.item.piece.index + node.item.length ≤ size_of n a node.item.piece.source
  pub right_inside : Inside n a (items node.right)
  pub total_is : (neutral : T) → whole neutral tree ≡ node.sums.total
  pub sides : (neutral : T) (joined : T → T → T) → Summed neutral joined tree → Summed neutral joined node.left × Summed neutral joined node.right

opens_value : {T : Type 0} {n a : ℕ} {tree : Tree Place T} {place : Box (Node Place T) Global} → tree ≡ trees.Place place → Weighed tree → Inside n a (items tree) → Opens n a tree place.value
opens_value {n = n} {a = a} {place = place} is weighed inside =
    let w = subst Weighed is weighed in
    let node = place.value in
    let all = subst (λ t. Inside n a (items t)) is inside in
    let cut = inside_back n a (items node.left) (node.item ∷ items node.right) all in
    record {
      items_are = ap items is;
      length_is = ap long is;
      long_are = ap long is ∙ w.0;
      left_weighed = w.4;
      right_weighed = w.5;
      left_inside = inside_front n a (items node.left) (node.item ∷ items node.right) all;
      item_inside = cut.0;
      right_inside = cut.1;
      total_is = λ neutral. ap (whole neutral) is;
      sides = λ neutral joined summed. let s = subst (Summed neutral joined) is summed in (s.1, s.2);
    }

pub opens : {T : Type 0} {n a : ℕ} {tree : Tree Place T} {place : Box (Node Place T) Global} {node : Node Place T} → tree ≡ trees.Place place → node ≡ place.value → Weighed tree → Inside n a (items tree) → Opens n a tree node
opens {n = n} {a = a} {tree = tree} is at weighed inside = subst (Opens n a tree) (sym at) (opens_value is weighed inside)

module _ {E T : Type 0} (breaks : E → Bool) (neutral : T) (value : E → T) (joined : T → T → T) (laws : Monoid neutral joined) (original added : List E) where
  abbrev sum : List E → T
  sum = total neutral value joined

  -- the totals that items carry make the total of their elements
  carried : (xs : List (Item Place T)) → AllCarry breaks neutral value joined original added xs → total_of neutral joined xs ≡ sum (spelt original added xs)
  carried [] h = refl
  carried (x ∷ xs) h =
      (λ i. joined (h.0.1 i) (carried xs h.1 i))
      ∙ sym (total_append neutral value joined laws (source_part original added x.piece x.length) (spelt original added xs))
      ∙ ap sum (sym (spelt_first original added x xs))

  -- a faithful tree carries the total of its elements
  pub whole_total : (tree : Tree Place T) → Faithful breaks neutral value joined original added tree → whole neutral tree ≡ sum (elements original added tree)
  whole_total tree faithful = whole_is neutral joined laws tree faithful.0 ∙ carried (items tree) faithful.1

  -- the sides of a faithful tree and its item
  pub faithful_left : {tree : Tree Place T} {node : Node Place T} → Opens (length original) (length added) tree node → Faithful breaks neutral value joined original added tree → Faithful breaks neutral value joined original added node.left
  faithful_left {node = node} o faithful =
      ((o.sides neutral joined faithful.0).0, carry_front breaks neutral value joined original added (items node.left) (node.item ∷ items node.right) (subst (AllCarry breaks neutral value joined original added) o.items_are faithful.1))

  pub faithful_item : {tree : Tree Place T} {node : Node Place T} → Opens (length original) (length added) tree node → Faithful breaks neutral value joined original added tree → Carries breaks neutral value joined original added node.item
  faithful_item {node = node} o faithful =
      (carry_back breaks neutral value joined original added (items node.left) (node.item ∷ items node.right) (subst (AllCarry breaks neutral value joined original added) o.items_are faithful.1)).0

  pub faithful_right : {tree : Tree Place T} {node : Node Place T} → Opens (length original) (length added) tree node → Faithful breaks neutral value joined original added tree → Faithful breaks neutral value joined original added node.right
  faithful_right {node = node} o faithful =
      ((o.sides neutral joined faithful.0).1, (carry_back breaks neutral value joined original added (items node.left) (node.item ∷ items node.right) (subst (AllCarry breaks neutral value joined original added) o.items_are faithful.1)).1)

  -- the total of a part is that of its parts on the left, in the item and on the right
  pub joined_total :
      {tree : Tree Place T} {node : Node Place T} (from upto l m : ℕ)
      → Opens (length original) (length added) tree node
      → l ≡ long node.left
      → m ≡ node.item.length
      → joined (joined (sum (part (min from l) (min upto l) (elements original added node.left))) (sum (part (min (from - l) m) (min (upto - l) m) (source_part original added node.item.piece node.item.length)))) (sum (part (from - l - m) (upto - l - m) (elements original added node.right))) ≡ sum (part from upto (elements original added tree))
  joined_total {tree = tree} {node = node} from upto l m o left item =
      let front : List E = elements original added node.left in
      let inner : List E = source_part original added node.item.piece node.item.length in
      let back : List E = elements original added node.right in
      let first : List E = part (min from l) (min upto l) front in
      let second : List E = part (min (from - l) m) (min (upto - l) m) inner in
      let third : List E = part (from - l - m) (upto - l - m) back in
      let front_long : length front ≡ l = elements_long original added node.left o.left_weighed o.left_inside ∙ sym left in
      let inner_long : length inner ≡ m = part_long original added node.item.piece node.item.length o.item_inside ∙ sym item in
      let whole_are : elements original added tree ≡ front ++ (inner ++ back) = ap (spelt original added) o.items_are ∙ spelt_append original added (items node.left) (node.item ∷ items node.right) ∙ ap (λ l. front ++ l) (spelt_first original added node.item (items node.right)) in
      let cut : part from upto (elements original added tree) ≡ first ++ (second ++ third) = ap (part from upto) whole_are ∙ part_append from upto l front (inner ++ back) front_long ∙ ap (λ s. first ++ s) (part_append (from - l) (upto - l) m inner back inner_long) in
      laws.associative (sum first) (sum second) (sum third)
      ∙ ap (joined (sum first)) (sym (total_append neutral value joined laws second third))
      ∙ sym (total_append neutral value joined laws first (second ++ third))
      ∙ ap sum (sym cut)
