-- What some items spell and are, part by part. Assumes nothing.
use Rattle.std.proofs.Common.{◌≡◌, ℕ, zero, suc, ◌+◌, Bool, ◌&&◌, eqb, List, [], ◌∷◌, ◌++◌, length, sym, refl, ap, ◌∙◌, append_assoc, arith, length-append}
use Rattle.ledger.specs.Places.{place, stretch, same_source}
use Rattle.ledger.specs.declared.words.Place.{Place}
use Rattle.ledger.specs.declared.words.Source.{Source}
use Rattle.nodes.specs.declared.types.Item.{Item}
use Rattle.nodes.specs.declared.types.Tree.{Tree}
use Rattle.nodes.specs.declared.types.Tree.TheVariants.{Empty, Place'}
use Rattle.nodes.specs.Trees.{items, long, Weighed}
use Rattle.pieces.specs.Faithful.{AllCarry}
use Rattle.pieces.specs.Spread.{places, spread, Apart, Inside}

-- a stretch has as many places as it says
pub stretch_length : (source : Source) (start n : ℕ) → length (stretch source start n) ≡ n
stretch_length source start zero = refl
stretch_length source start (suc n) = let h = stretch_length source (suc start) n in omega (arith, h)

-- a stretch in two parts
pub stretch_append : (source : Source) (start n m : ℕ) → stretch source start (n + m) ≡ stretch source start n ++ stretch source (start + n) m
stretch_append source start zero m =
    let none : zero + m ≡ m = omega arith in
    let here : start ≡ start + zero = omega arith in
    (λ k. stretch source (here k) (none k))
stretch_append source start (suc n) m =
    let more : suc n + m ≡ suc (n + m) = omega arith in
    let on : suc start + n ≡ start + suc n = omega arith in
    ap (stretch source start) more ∙ ap (λ l. place source start ∷ l) (stretch_append source (suc start) n m ∙ ap (λ k. stretch source (suc start) n ++ stretch source k m) on)

module _ {T : Type 0} where
  -- the places of two lists of items, one after the other
  pub spread_append : (xs ys : List (Item Place T)) → spread (xs ++ ys) ≡ spread xs ++ spread ys
  spread_append [] ys = refl
  spread_append (x ∷ xs) ys =
      let here = stretch x.piece.source x.piece.index x.length in
      ap (λ l. here ++ l) (spread_append xs ys) ∙ sym (append_assoc here (spread xs) (spread ys))

  -- a tree stands for as many places as it is long
  pub places_length : (tree : Tree Place T) → Weighed tree → length (places tree) ≡ long tree
  places_length Empty w = refl
  places_length (Place' p colour left item right sums) w =
      let here = stretch item.piece.source item.piece.index item.length in
      let parts = ap length (spread_append (items left) (item ∷ items right)) in
      let outer = length-append (spread (items left)) (here ++ spread (items right)) in
      let inner = length-append here (spread (items right)) in
      let own = stretch_length item.piece.source item.piece.index item.length in
      omega (arith, w.0, parts, outer, inner, own, places_length left w.4, places_length right w.5)

  -- the parts of a list of longest pieces are such lists
  pub apart_front : (xs ys : List (Item Place T)) → Apart (xs ++ ys) → Apart xs
  apart_front [] ys a = tt
  apart_front (x ∷ []) ys a = (tt, tt)
  apart_front (x ∷ y ∷ xs) ys a = (a.0, apart_front (y ∷ xs) ys a.1)

  pub apart_back : (xs ys : List (Item Place T)) → Apart (xs ++ ys) → Apart ys
  apart_back [] ys a = a
  apart_back (x ∷ xs) ys a = apart_back xs ys a.1

  -- up to an item, with another in its place that begins where it did
  pub apart_last : (xs ys : List (Item Place T)) (i j : Item Place T) → j.piece ≡ i.piece → Apart (xs ++ i ∷ ys) → Apart (xs ++ j ∷ [])
  apart_last [] ys i j e a = (tt, tt)
  apart_last (x ∷ []) ys i j e a =
      (ap (λ (p : Place). same_source x.piece.source p.source && eqb (x.piece.index + x.length) p.index) e ∙ a.0, (tt, tt))
  apart_last (x ∷ y ∷ xs) ys i j e a = (a.0, apart_last (y ∷ xs) ys i j e a.1)

  -- from an item on, with another in its place that ends where it did
  pub apart_first : (ys : List (Item Place T)) (i j : Item Place T) → j.piece.source ≡ i.piece.source → j.piece.index + j.length ≡ i.piece.index + i.length → Apart (i ∷ ys) → Apart (j ∷ ys)
  apart_first [] i j s e a = (tt, tt)
  apart_first (y ∷ ys) i j s e a = ((λ k. same_source (s k) y.piece.source && eqb (e k) y.piece.index) ∙ a.0, a.1)

  module _ (original added : ℕ) where
    -- pieces that lie in their sources, and the parts of a list of them
    pub inside_append : (xs ys : List (Item Place T)) → Inside original added xs → Inside original added ys → Inside original added (xs ++ ys)
    inside_append [] ys a b = b
    inside_append (x ∷ xs) ys a b = (a.0, inside_append xs ys a.1 b)

    pub inside_front : (xs ys : List (Item Place T)) → Inside original added (xs ++ ys) → Inside original added xs
    inside_front [] ys a = tt
    inside_front (x ∷ xs) ys a = (a.0, inside_front xs ys a.1)

    pub inside_back : (xs ys : List (Item Place T)) → Inside original added (xs ++ ys) → Inside original added ys
    inside_back [] ys a = a
    inside_back (x ∷ xs) ys a = inside_back xs ys a.1

module _ {E T : Type 0} (breaks : E → Bool) (neutral : T) (value : E → T) (joined : T → T → T) (original added : List E) where
  -- items that carry what their elements have, and the parts of a list of them
  pub carry_append : (xs ys : List (Item Place T)) → AllCarry breaks neutral value joined original added xs → AllCarry breaks neutral value joined original added ys → AllCarry breaks neutral value joined original added (xs ++ ys)
  carry_append [] ys a b = b
  carry_append (x ∷ xs) ys a b = (a.0, carry_append xs ys a.1 b)

  pub carry_front : (xs ys : List (Item Place T)) → AllCarry breaks neutral value joined original added (xs ++ ys) → AllCarry breaks neutral value joined original added xs
  carry_front [] ys a = tt
  carry_front (x ∷ xs) ys a = (a.0, carry_front xs ys a.1)

  pub carry_back : (xs ys : List (Item Place T)) → AllCarry breaks neutral value joined original added (xs ++ ys) → AllCarry breaks neutral value joined original added ys
  carry_back [] ys a = a
  carry_back (x ∷ xs) ys a = carry_back xs ys a.1
