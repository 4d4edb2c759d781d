-- The elements at some places. Assumes nothing.
use Rattle.std.proofs.Common.{◌≡◌, ℕ, zero, suc, ◌+◌, ◌≤◌, List, [], ◌∷◌, ◌++◌, length, take, drop, sym, refl, ap, ◌∙◌, append_assoc, arith, length-drop, length-take}
use lib.Seq.{take-nil}
use Rattle.ledger.specs.Places.{elements_at, source_list, stretch}
use Rattle.ledger.specs.declared.words.Place.{Place}
use Rattle.ledger.specs.declared.words.Source.{Source}
use Rattle.ledger.specs.declared.words.Source.TheVariants.{Original, Added}
use Rattle.pieces.specs.Faithful.{source_part}
use Rattle.pieces.specs.Spread.{size_of}

-- one element, and those behind it
one_first : {E : Type 0} (n i : ℕ) (xs : List E) → take 1 (drop i xs) ++ take n (drop (suc i) xs) ≡ take (suc n) (drop i xs)
one_first n zero [] = take-nil n
one_first n zero (x ∷ xs) = refl
one_first n (suc i) [] = take-nil n
one_first n (suc i) (x ∷ xs) = one_first n i xs

module _ {E : Type 0} (original added : List E) where
  -- the elements of places, part by part
  pub elements_append : (ps qs : List Place) → elements_at original added (ps ++ qs) ≡ elements_at original added ps ++ elements_at original added qs
  elements_append [] qs = refl
  elements_append (p ∷ ps) qs =
      let one = take 1 (drop p.index (source_list original added p.source)) in
      ap (λ xs. one ++ xs) (elements_append ps qs) ∙ sym (append_assoc one (elements_at original added ps) (elements_at original added qs))

  -- a stretch of places has a part of its source
  pub elements_stretch : (s : Source) (i n : ℕ) → elements_at original added (stretch s i n) ≡ take n (drop i (source_list original added s))
  elements_stretch s i zero = refl
  elements_stretch s i (suc n) =
      let src = source_list original added s in
      ap (λ xs. take 1 (drop i src) ++ xs) (elements_stretch s (suc i) n) ∙ one_first n i src

  -- a source is as long as it is said to be
  pub source_long : (s : Source) → length (source_list original added s) ≡ size_of (length original) (length added) s
  source_long Original = refl
  source_long Added = refl

  -- a part within its source is as long as asked for
  pub part_long : (first : Place) (n : ℕ) → first.index + n ≤ size_of (length original) (length added) first.source → length (source_part original added first n) ≡ n
  part_long first n inside =
      let src = source_list original added first.source in
      let l = source_long first.source in
      let d = length-drop first.index src in
      let t = length-take n (drop first.index src) in
      omega (arith, l, d, t, inside)
