-- A tree of pieces whose added source grows or shrinks at its end. Assumes nothing.
use Rattle.std.proofs.Common.{◌≡◌, ℕ, zero, suc, ◌+◌, ◌<◌, ◌≤◌, Bool, List, [], ◌∷◌, ◌++◌, length, get_or, take, drop, sym, refl, ap, ◌∙◌, append_assoc, arith, length-append, length-drop, take-append-drop, length-take}
use lib.Seq.{drop-append-le, take-append-le}
use Rattle.std.proofs.lemmas.List.{take_more}
use Rattle.std.specs.List.{AllByRecursion as All}
use Rattle.measure.specs.Totals.{total}
use Rattle.ledger.specs.Places.{elements_at, source_list, stretch}
use Rattle.ledger.specs.declared.words.Place.{Place}
use Rattle.ledger.specs.declared.words.Source.{Source}
use Rattle.ledger.specs.declared.words.Source.TheVariants.{Original, Added}
use Rattle.nodes.specs.declared.types.Item.{Item}
use Rattle.nodes.specs.declared.types.Tree.{Tree}
use Rattle.nodes.specs.Trees.{items, Weighed}
use Rattle.pieces.specs.Faithful.{count_breaks, AllCarry, Faithful}
use Rattle.pieces.specs.Spread.{places, size_of, spread, Inside, Lying}
use Rattle.pieces.proofs.Spreads.{stretch_length}
use Rattle.pieces.proofs.Elements.{elements_append, elements_stretch}
use Rattle.reading.proofs.Longest.{all_some, Some}

-- a source is no shorter where the added one is longer
size_more : (original one other : ℕ) → one ≤ other → (source : Source) → size_of original one source ≤ size_of original other source
size_more original one other l Original = omega arith
size_more original one other l Added = l

module _ {T : Type 0} where
  -- pieces in their sources lie in longer ones too
  inside_more : (original one other : ℕ) → one ≤ other → (is : List (Item Place T)) → Inside original one is → Inside original other is
  inside_more original one other l [] h = tt
  inside_more original one other l (i ∷ more) h =
      let size = size_more original one other l i.piece.source in
      (omega (arith, h.0, size), inside_more original one other l more h.1)

  -- a tree stands over a longer added source too
  pub standing_more : (original one other : ℕ) → one ≤ other → (tree : Tree Place T) → Lying original one tree → Lying original other tree
  standing_more original one other l tree s = record {
    apart = s.apart;
    inside = inside_more original one other l (items tree) s.inside;
  }

module _ {E : Type 0} (original added : List E) where
  size_is : (source : Source) → length (source_list original added source) ≡ size_of (length original) (length added) source
  size_is Original = refl
  size_is Added = refl

  -- no more elements than places
  run_few : (source : Source) (start n : ℕ) → length (elements_at original added (stretch source start n)) ≤ n
  run_few source start n =
      let part = ap length (elements_stretch original added source start n) in
      let long = length-take n (drop start (source_list original added source)) in
      omega (arith, part, long)

  -- a run with as many elements as places lies in its source
  run_inside : (source : Source) (start n : ℕ) → 0 < n → length (elements_at original added (stretch source start n)) ≡ n → start + n ≤ size_of (length original) (length added) source
  run_inside source start n some all =
      let list : List E = source_list original added source in
      let part = ap length (elements_stretch original added source start n) in
      let long = length-take n (drop start list) in
      let rest = length-drop start list in
      let size = size_is source in
      omega (arith, some, all, part, long, rest, size)

  module _ {T : Type 0} where
    -- the elements and the places of some items, part by part
    length_first : (i : Item Place T) (more : List (Item Place T)) → length (elements_at original added (spread (i ∷ more))) ≡ length (elements_at original added (stretch i.piece.source i.piece.index i.length)) + length (elements_at original added (spread more))
    length_first i more =
        let here : List Place = stretch i.piece.source i.piece.index i.length in
        ap length (elements_append original added here (spread more)) ∙ length-append (elements_at original added here) (elements_at original added (spread more))

    spread_first : (i : Item Place T) (more : List (Item Place T)) → length (spread (i ∷ more)) ≡ i.length + length (spread more)
    spread_first i more =
        let here : List Place = stretch i.piece.source i.piece.index i.length in
        let own = stretch_length i.piece.source i.piece.index i.length in
        let both = length-append here (spread more) in
        omega (arith, own, both)

    items_few : (is : List (Item Place T)) → length (elements_at original added (spread is)) ≤ length (spread is)
    items_few [] = omega arith
    items_few (i ∷ more) =
        let run = run_few i.piece.source i.piece.index i.length in
        let rest = items_few more in
        omega (arith, length_first i more, spread_first i more, run, rest)

    -- items with as many elements as places lie in their sources
    items_inside : (is : List (Item Place T)) → All Some is → length (elements_at original added (spread is)) ≡ length (spread is) → Inside (length original) (length added) is
    items_inside [] some all = tt
    items_inside (i ∷ more) some all =
        let one = length_first i more in
        let two = spread_first i more in
        let run = run_few i.piece.source i.piece.index i.length in
        let rest = items_few more in (
          run_inside i.piece.source i.piece.index i.length some.0 (omega (arith, all, one, two, run, rest)),
          items_inside more some.1 (omega (arith, all, one, two, run, rest)),
        )

    -- a tree with as many elements as places stands over its sources
    standing_counted : (n : ℕ) (tree : Tree Place T) → Weighed tree → Lying (length original) n tree → length (elements_at original added (places tree)) ≡ length (places tree) → Lying (length original) (length added) tree
    standing_counted n tree w s all = record {
      apart = s.apart;
      inside = items_inside (items tree) (all_some tree w) all;
    }

module _ {E : Type 0} (original one other extra : List E) (longer : other ≡ one ++ extra) where
  -- a part of the shorter added source is the same part of the longer one
  same_part : (source : Source) (start n : ℕ) → start + n ≤ size_of (length original) (length one) source → take n (drop start (source_list original other source)) ≡ take n (drop start (source_list original one source))
  same_part Original start n l = refl
  same_part Added start n l =
      let rest = length-drop start one in
      ap (λ xs. take n (drop start xs)) longer ∙ ap (take n) (drop-append-le start one extra (omega (arith, l))) ∙ take-append-le n (drop start one) extra (omega (arith, l, rest))

  module _ {T : Type 0} where
    same_elements : (is : List (Item Place T)) → Inside (length original) (length one) is → elements_at original other (spread is) ≡ elements_at original one (spread is)
    same_elements [] h = refl
    same_elements (i ∷ more) h =
        let here : List Place = stretch i.piece.source i.piece.index i.length in
        let run : elements_at original other here ≡ elements_at original one here = elements_stretch original other i.piece.source i.piece.index i.length ∙ same_part i.piece.source i.piece.index i.length h.0 ∙ sym (elements_stretch original one i.piece.source i.piece.index i.length) in
        elements_append original other here (spread more) ∙ (λ k. run k ++ same_elements more h.1 k) ∙ sym (elements_append original one here (spread more))

    -- pieces of the shorter added source have the same elements in the longer one
    pub same_written : (tree : Tree Place T) → Lying (length original) (length one) tree → elements_at original other (places tree) ≡ elements_at original one (places tree)
    same_written tree s = same_elements (items tree) s.inside

    module _ (breaks : E → Bool) (neutral : T) (value : E → T) (joined : T → T → T) where
      carry_more : (is : List (Item Place T)) → Inside (length original) (length one) is → AllCarry breaks neutral value joined original one is → AllCarry breaks neutral value joined original other is
      carry_more [] h c = tt
      carry_more (i ∷ more) h c =
          let part = same_part i.piece.source i.piece.index i.length h.0 in
          ((c.0.0 ∙ ap (count_breaks breaks) (sym part), c.0.1 ∙ ap (total neutral value joined) (sym part)), carry_more more h.1 c.1)

      carry_less : (is : List (Item Place T)) → Inside (length original) (length one) is → AllCarry breaks neutral value joined original other is → AllCarry breaks neutral value joined original one is
      carry_less [] h c = tt
      carry_less (i ∷ more) h c =
          let part = same_part i.piece.source i.piece.index i.length h.0 in
          ((c.0.0 ∙ ap (count_breaks breaks) part, c.0.1 ∙ ap (total neutral value joined) part), carry_less more h.1 c.1)

      -- and so what a tree carries of them stands for either
      pub faithful_more : (tree : Tree Place T) → Lying (length original) (length one) tree → Faithful breaks neutral value joined original one tree → Faithful breaks neutral value joined original other tree
      faithful_more tree s f = (f.0, carry_more (items tree) s.inside f.1)

      pub faithful_less : (tree : Tree Place T) → Lying (length original) (length one) tree → Faithful breaks neutral value joined original other tree → Faithful breaks neutral value joined original one tree
      faithful_less tree s f = (f.0, carry_less (items tree) s.inside f.1)

-- a tree with all its elements in what is left of the added source stands over that
pub standing_cut : {E T : Type 0} (original before after : List E) (n : ℕ) (tree : Tree Place T) → after ≡ take n before → length (elements_at original (take n before) (places tree)) ≡ length (places tree) → Weighed tree → Lying (length original) (length before) tree → Lying (length original) (length after) tree
standing_cut original before after n tree cut all w s =
    standing_counted original after (length before) tree w s (ap (λ xs. length (elements_at original xs (places tree))) cut ∙ all)

-- what is left of a list and what was taken away make the list
pub cut_back : {E : Type 0} (xs short : List E) (n : ℕ) → short ≡ take n xs → xs ≡ short ++ drop n xs
cut_back xs short n is = sym (take-append-drop n xs) ∙ ap (λ l. l ++ drop n xs) (sym is)

-- a list with one more element of another pushed behind some of it
pub pushed : {E : Type 0} (before new now after : List E) (i : ℕ) (e : E) → i < length new → e ≡ get_or new i e → now ≡ before ++ take i new → after ≡ now ++ e ∷ [] → after ≡ before ++ take (i + 1) new
pushed before new now after i e l is so then =
    then ∙ ap (λ xs. xs ++ e ∷ []) so ∙ append_assoc before (take i new) (e ∷ []) ∙ ap (λ xs. before ++ xs) (ap (λ y. take i new ++ y ∷ []) is ∙ sym (take_more new i e l))

-- at most one piece is no more than the limit, where there is a piece only if the limit is not 0
pub one_at_most : (n count limit : ℕ) → count ≤ 1 → (n ≡ 0 → count ≡ 0) → (0 < n → 0 < limit) → count ≤ limit
one_at_most zero count limit few none some = let h = none refl in omega (arith, h)
one_at_most (suc n) count limit few none some = let h = some (omega arith) in omega (arith, few, h)
