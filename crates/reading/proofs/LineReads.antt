-- What is found in a tree of pieces, by its elements. Assumes nothing.
use Rattle.std.proofs.Common.{◌≡◌, ℕ, suc, ◌+◌, ◌-◌, ◌<◌, ◌≤◌, Bool, false, cond, ◌||◌, eqb, ltb, List, ◌∷◌, ◌++◌, length, take, drop, Some, None, Option, sym, ap, ◌∙◌, subst, arith, take-take, le-ltb, ne_eqb}
use lib.Seq.{take-append-add, take-append-le}
use Rattle.element.specs.Lines.{lines}
use Rattle.ledger.specs.Places.{source_list}
use Rattle.ledger.specs.declared.words.Place.{Place}
use Rattle.nodes.specs.declared.types.Tree.{Tree}
use Rattle.nodes.specs.Trees.{items, long, broken, Weighed}
use Rattle.pieces.specs.Faithful.{count_breaks, source_part, elements, AllCarry, Faithful}
use Rattle.pieces.specs.Spread.{size_of, Inside}
use Rattle.seeking.specs.declared.types.Found.{Found}
use Rattle.seeking.specs.Seeks.{Stands}
use Rattle.reading.specs.LineParts.{behind, line_start, line_length, line_found}
use Rattle.reading.proofs.LineFacts.{lines_all, lines_behind, line_long, lines_upto, behind_past, behind_within, behind_all}
use Rattle.pieces.proofs.Elements.{part_long}
use Rattle.pieces.proofs.Spreads.{carry_back, carry_front, inside_back, inside_front}
use Rattle.reading.proofs.LineItems.{spelt, spelt_append, spelt_first, spelt_long, spelt_breaks, tree_breaks}
use Rattle.reading.proofs.PartTotals.{elements_long}

module _ {E T : Type 0} (original added : List E) {neutral : T} {joined : T → T → T} {tree : Tree Place T} (within : Inside (length original) (length added) (items tree)) where
  module _ {found : Found Place T} (stands : Stands neutral joined tree found) where
    -- the pieces of the tree around the found one lie in their sources
    all_inside : Inside (length original) (length added) (stands.front ++ found.item ∷ stands.back)
    all_inside = subst (Inside (length original) (length added)) stands.parts within

    -- the found piece lies in its source
    pub found_inside : found.item.piece.index + found.item.length ≤ size_of (length original) (length added) found.item.piece.source
    found_inside = (inside_back (length original) (length added) stands.front (found.item ∷ stands.back) all_inside).0

    -- the elements before the found piece are as many as is said
    pub front_long : length (spelt original added stands.front) ≡ found.before.length
    front_long =
        spelt_long original added stands.front (inside_front (length original) (length added) stands.front (found.item ∷ stands.back) all_inside) ∙ sym stands.elements

    -- the elements before the found piece, its own, and the others
    pub found_parts : elements original added tree ≡ spelt original added stands.front ++ (source_part original added found.item.piece found.item.length ++ spelt original added stands.back)
    found_parts =
        ap (spelt original added) stands.parts ∙ spelt_append original added stands.front (found.item ∷ stands.back) ∙ ap (λ xs. spelt original added stands.front ++ xs) (spelt_first original added found.item stands.back)

    module _ (breaks : E → Bool) (value : E → T) (faithful : Faithful breaks neutral value joined original added tree) where
      all_carry : AllCarry breaks neutral value joined original added (stands.front ++ found.item ∷ stands.back)
      all_carry = subst (AllCarry breaks neutral value joined original added) stands.parts faithful.1

      -- the breaks before the found piece, and its own
      carried : count_breaks breaks (spelt original added stands.front) ≡ found.before.breaks
      carried =
          spelt_breaks original added breaks neutral value joined stands.front (carry_front breaks neutral value joined original added stands.front (found.item ∷ stands.back) all_carry) ∙ sym stands.breaks

      here : found.item.breaks ≡ count_breaks breaks (source_part original added found.item.piece found.item.length)
      here = (carry_back breaks neutral value joined original added stands.front (found.item ∷ stands.back) all_carry).0.0

      -- the lines up to the found element
      pub found_line : (offset : ℕ) → found.before.length + found.inner ≡ offset → found.inner < found.item.length → found.before.breaks + count_breaks breaks (source_part original added found.item.piece found.inner) + 1 ≡ length (lines breaks (take (suc offset) (elements original added tree)))
      found_line offset at inner =
          let xs = spelt original added stands.front in
          let first = found.item.piece in
          let part = source_part original added first found.item.length in
          let back = spelt original added stands.back in
          let n = found.inner in
          let long = front_long in
          let size = part_long original added first found.item.length found_inside in
          let ends : suc offset ≡ length xs + suc n = omega (arith, at, long) in
          let cut : take (suc offset) (elements original added tree) ≡ xs ++ take (suc n) part =
          ap (take (suc offset)) found_parts ∙ ap (λ m. take m (xs ++ (part ++ back))) ends ∙ take-append-add xs (part ++ back) (suc n) ∙ ap (λ ys. xs ++ ys) (take-append-le (suc n) part back (omega (arith, size, inner))) in
          let front : take n part ≡ source_part original added first n = take-take n found.item.length (drop first.index (source_list original added first.source)) (omega (arith, inner)) in
          let l = ap (λ ys. length (lines breaks ys)) cut in
          let m = lines_upto breaks xs part n (omega (arith, size, inner)) in
          let f = ap (count_breaks breaks) front in
          let c = carried in
          omega (arith, l, m, f, c)

      -- the offset behind the found break
      pub found_start : (number : ℕ) → found.before.breaks + found.inner + 1 ≡ number → found.inner < found.item.breaks → found.before.length + behind breaks (suc found.inner) (source_part original added found.item.piece found.item.length) ≡ behind breaks number (elements original added tree)
      found_start number at inner =
          let xs = spelt original added stands.front in
          let part = source_part original added found.item.piece found.item.length in
          let back = spelt original added stands.back in
          let long = front_long in
          let count = carried in
          let own = here in
          let whole = ap (behind breaks number) found_parts in
          let past = behind_past breaks xs (part ++ back) number found.inner (omega (arith, at, count)) in
          let inside = behind_within breaks part back (suc found.inner) (omega (arith, own, inner)) in
          omega (arith, long, whole, past, inside)

module _ {E T : Type 0} (breaks : E → Bool) (neutral : T) (value : E → T) (joined : T → T → T) (original added : List E) (tree : Tree Place T) (weighed : Weighed tree) (within : Inside (length original) (length added) (items tree)) (faithful : Faithful breaks neutral value joined original added tree) where
  -- as many lines as breaks, and one more where the last element is none
  pub tree_lines : (offset : ℕ) (e : E) → long tree ≡ offset + 1 → drop offset (elements original added tree) ≡ e ∷ drop (offset + 1) (elements original added tree) → length (lines breaks (elements original added tree)) + cond (breaks e) 1 0 ≡ broken tree + 1
  tree_lines offset e all last =
      let size = elements_long original added tree weighed within in
      let count = tree_breaks original added breaks neutral value joined tree weighed faithful.1 in
      let h = lines_all breaks (elements original added tree) offset e (omega (arith, size, all)) last in
      omega (arith, h, count)

  -- where there are fewer breaks, the offset behind all elements
  pub tree_start : (number : ℕ) → broken tree < number → long tree ≡ behind breaks number (elements original added tree)
  tree_start number few =
      let size = elements_long original added tree weighed within in
      let count = tree_breaks original added breaks neutral value joined tree weighed faithful.1 in
      let h = behind_all breaks (elements original added tree) number (omega (arith, count, few)) in
      omega (arith, h, size)

pick : (a b : Bool) (x : Option (ℕ × ℕ)) → a ≡ false → b ≡ false → x ≡ cond (a || b) None x
pick a b x p q = sym (ap (λ t. cond (t || b) None x) p ∙ ap (λ t. cond t None x) q)

-- a line by where it and the next begin
pub line_is : {E : Type 0} (breaks : E → Bool) (xs : List E) (number start stop size : ℕ) → 0 < number → number ≤ length (lines breaks xs) → start ≡ behind breaks (number - 1) xs → stop ≡ behind breaks number xs → size ≡ stop - start → Some (start, size) ≡ line_found breaks xs number
line_is breaks xs number start stop size some few begins ends sized =
    let k = number - 1 in
    let next : suc k ≡ number = omega (arith, some) in
    let n = ap (λ m. behind breaks m xs) next in
    let l = line_long breaks k xs in
    let first : start ≡ line_start breaks xs number = begins ∙ sym (lines_behind breaks k xs) in
    let own : size ≡ line_length breaks xs number = omega (arith, begins, ends, l, n, sized) in
    let found : Option (ℕ × ℕ) = Some (line_start breaks xs number, line_length breaks xs number) in
    let same : ◌≡◌ {A = Option (ℕ × ℕ)} (Some (start, size)) found = λ i. Some (first i, own i) in
    same ∙ pick (eqb number 0) (ltb (length (lines breaks xs)) number) found (ne_eqb number 0 (λ z. omega (arith, z, some))) (le-ltb (length (lines breaks xs)) number few)
