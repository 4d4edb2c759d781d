-- Items and trees sewn together. Assumes nothing.
use Rattle.std.proofs.Common.{◌≡◌, ℕ, ◌+◌, ◌≤◌, Bool, true, false, ◌&&◌, eqb, List, [], ◌∷◌, ◌++◌, length, take, drop, sym, refl, ap, ◌∙◌, subst, append_assoc, append-nil, arith}
use mathlib.Core.Bool.{false≢true}
use Rattle.std.proofs.lemmas.Bool.{and_parts, eqb-true, cond_both}
use Rattle.ledger.specs.Places.{stretch, same_source, source_list}
use Rattle.ledger.specs.declared.words.Place.{Place}
use Rattle.ledger.specs.declared.words.Source.{Source}
use Rattle.ledger.specs.declared.words.Source.TheVariants.{Original, Added}
use Rattle.measure.specs.Totals.{Monoid, total}
use Rattle.measure.proofs.Totals.{total_append}
use Rattle.nodes.specs.declared.types.Item.{Item}
use Rattle.nodes.specs.declared.types.Tree.{Tree}
use Rattle.nodes.specs.Trees.{items, Balanced, Summed, Weighed}
use Rattle.pieces.specs.Faithful.{count_breaks, source_part, AllCarry, Carries, Faithful}
use Rattle.pieces.specs.Spread.{merged, places, sewn, sewn_from, sewn_on, size_of, spread, touches, Apart, Inside, Lying, StartsApart}
use Rattle.pieces.proofs.Breaks.{count_append}
use Rattle.pieces.proofs.SourceParts.{part_append}
use Rattle.pieces.proofs.Spreads.{stretch_append}

pub same_true : (a b : Source) → same_source a b ≡ true → a ≡ b
same_true Original Original e = refl
same_true Original Added e = absurd (false≢true e)
same_true Added Original e = absurd (false≢true e)
same_true Added Added e = refl

module _ {T : Type 0} where
  -- a piece that goes on is of the same source, and begins where the other ends
  pub touched : (i j : Item Place T) → touches i j ≡ true → (i.piece.source ≡ j.piece.source) × (i.piece.index + i.length ≡ j.piece.index)
  touched i j e =
      let parts = and_parts (same_source i.piece.source j.piece.source) (eqb (i.piece.index + i.length) j.piece.index) e in
      (same_true i.piece.source j.piece.source parts.0, eqb-true (i.piece.index + i.length) j.piece.index parts.1)

  -- the places of an item
  abbrev pub own : Item Place T → List Place
  own i = stretch i.piece.source i.piece.index i.length

module _ {T : Type 0} (joined : T → T → T) where
  -- what holds in both cases
  on_cases : (P : List (Item Place T) → Type 0) (i j : Item Place T) (more : List (Item Place T)) → (touches i j ≡ true → P (merged joined i j ∷ more)) → (touches i j ≡ false → P (i ∷ j ∷ more)) → P (sewn_on joined i (j ∷ more))
  on_cases P i j more p q = cond_both (touches i j) (merged joined i j ∷ more) (i ∷ j ∷ more) P p q

  from_end : (k i : Item Place T) (xs ys : List (Item Place T)) → sewn_from joined k (xs ++ i ∷ []) ys ≡ k ∷ (xs ++ sewn_on joined i ys)
  from_end k i [] ys = refl
  from_end k i (x ∷ xs) ys = ap (λ more. k ∷ more) (from_end x i xs ys)

  -- only the last item is sewn on
  pub sewn_end : (i : Item Place T) (xs ys : List (Item Place T)) → sewn joined (xs ++ i ∷ []) ys ≡ xs ++ sewn_on joined i ys
  sewn_end i [] ys = refl
  sewn_end i (x ∷ xs) ys = from_end x i xs ys

  from_none : (i : Item Place T) (xs : List (Item Place T)) → sewn_from joined i xs [] ≡ i ∷ xs
  from_none i [] = refl
  from_none i (x ∷ xs) = ap (λ more. i ∷ more) (from_none x xs)

  -- nothing sewn on
  pub sewn_none : (xs : List (Item Place T)) → sewn joined xs [] ≡ xs
  sewn_none [] = refl
  sewn_none (x ∷ xs) = from_none x xs

  on_few : (i : Item Place T) (ys : List (Item Place T)) → length (sewn_on joined i ys) ≤ 1 + length ys
  on_few i [] = omega arith
  on_few i (j ∷ more) = on_cases (λ xs. length xs ≤ 1 + length (j ∷ more)) i j more (λ e. omega arith) (λ e. omega arith)

  from_few : (i : Item Place T) (xs ys : List (Item Place T)) → length (sewn_from joined i xs ys) ≤ 1 + length xs + length ys
  from_few i [] ys = omega (arith, on_few i ys)
  from_few i (k ∷ xs) ys = omega (arith, from_few k xs ys)

  -- no more items than both have
  pub sewn_few : (xs ys : List (Item Place T)) → length (sewn joined xs ys) ≤ length xs + length ys
  sewn_few [] ys = omega arith
  sewn_few (i ∷ xs) ys = omega (arith, from_few i xs ys)

  own_merged : (i j : Item Place T) → touches i j ≡ true → own (merged joined i j) ≡ own i ++ own j
  own_merged i j e =
      let t = touched i j e in
      stretch_append i.piece.source i.piece.index i.length j.length ∙ ap (λ s. own i ++ stretch s (i.piece.index + i.length) j.length) t.0 ∙ ap (λ k. own i ++ stretch j.piece.source k j.length) t.1

  spread_on : (i : Item Place T) (ys : List (Item Place T)) → spread (sewn_on joined i ys) ≡ own i ++ spread ys
  spread_on i [] = refl
  spread_on i (j ∷ more) =
      on_cases (λ xs. spread xs ≡ own i ++ (own j ++ spread more)) i j more
      (λ e. ap (λ ps. ps ++ spread more) (own_merged i j e) ∙ append_assoc (own i) (own j) (spread more))
      (λ e. refl)

  spread_from : (i : Item Place T) (xs ys : List (Item Place T)) → spread (sewn_from joined i xs ys) ≡ (own i ++ spread xs) ++ spread ys
  spread_from i [] ys = spread_on i ys ∙ ap (λ ps. ps ++ spread ys) (sym (append-nil (own i)))
  spread_from i (k ∷ xs) ys =
      ap (λ ps. own i ++ ps) (spread_from k xs ys) ∙ sym (append_assoc (own i) (spread (k ∷ xs)) (spread ys))

  -- the places of both, one after the other
  pub spread_sewn : (xs ys : List (Item Place T)) → spread (sewn joined xs ys) ≡ spread xs ++ spread ys
  spread_sewn [] ys = refl
  spread_sewn (i ∷ xs) ys = spread_from i xs ys

  touches_merged : (i j k : Item Place T) → touches i j ≡ true → touches (merged joined i j) k ≡ touches j k
  touches_merged i j k e =
      let t = touched i j e in
      let sum : i.piece.index + (i.length + j.length) ≡ j.piece.index + j.length = omega (arith, t.1) in
      ap (λ s. same_source s k.piece.source && eqb (i.piece.index + (i.length + j.length)) k.piece.index) t.0 ∙ ap (λ n. same_source j.piece.source k.piece.source && eqb n k.piece.index) sum

  starts_merged : (i j : Item Place T) (more : List (Item Place T)) → touches i j ≡ true → StartsApart j more → StartsApart (merged joined i j) more
  starts_merged i j [] e h = tt
  starts_merged i j (k ∷ more) e h = touches_merged i j k e ∙ h

  apart_on : (i : Item Place T) (ys : List (Item Place T)) → Apart ys → Apart (sewn_on joined i ys)
  apart_on i [] a = (tt, tt)
  apart_on i (j ∷ more) a = on_cases Apart i j more (λ e. (starts_merged i j more e a.0, a.1)) (λ e. (e, a))

  starts_on : (h i : Item Place T) (ys : List (Item Place T)) → touches h i ≡ false → StartsApart h (sewn_on joined i ys)
  starts_on h i [] e = e
  starts_on h i (j ∷ more) e = on_cases (StartsApart h) i j more (λ t. e) (λ t. e)

  starts_from : (h i : Item Place T) (xs ys : List (Item Place T)) → touches h i ≡ false → StartsApart h (sewn_from joined i xs ys)
  starts_from h i [] ys e = starts_on h i ys e
  starts_from h i (k ∷ xs) ys e = e

  apart_from : (i : Item Place T) (xs ys : List (Item Place T)) → Apart (i ∷ xs) → Apart ys → Apart (sewn_from joined i xs ys)
  apart_from i [] ys a b = apart_on i ys b
  apart_from i (k ∷ xs) ys a b = (starts_from i k xs ys a.0, apart_from k xs ys a.1 b)

  -- longest pieces stay longest
  pub apart_sewn : (xs ys : List (Item Place T)) → Apart xs → Apart ys → Apart (sewn joined xs ys)
  apart_sewn [] ys a b = b
  apart_sewn (i ∷ xs) ys a b = apart_from i xs ys a b

  module _ (original added : ℕ) where
    inside_on : (i : Item Place T) (ys : List (Item Place T)) → i.piece.index + i.length ≤ size_of original added i.piece.source → Inside original added ys → Inside original added (sewn_on joined i ys)
    inside_on i [] h b = (h, tt)
    inside_on i (j ∷ more) h b =
        on_cases (Inside original added) i j more
        (λ e.
        let t = touched i j e in
        let size : size_of original added i.piece.source ≡ size_of original added j.piece.source = ap (size_of original added) t.0 in
        (omega (arith, t.1, size, b.0), b.1))
        (λ e. (h, b))

    inside_from : (i : Item Place T) (xs ys : List (Item Place T)) → Inside original added (i ∷ xs) → Inside original added ys → Inside original added (sewn_from joined i xs ys)
    inside_from i [] ys a b = inside_on i ys a.0 b
    inside_from i (k ∷ xs) ys a b = (a.0, inside_from k xs ys a.1 b)

    -- each piece still lies in its source
    pub inside_sewn : (xs ys : List (Item Place T)) → Inside original added xs → Inside original added ys → Inside original added (sewn joined xs ys)
    inside_sewn [] ys a b = b
    inside_sewn (i ∷ xs) ys a b = inside_from i xs ys a b

    -- an item of a run that lies in its source
    pub inside_is : (i : Item Place T) (first : Place) (n : ℕ) → i.piece ≡ first → i.length ≡ n → first.index + n ≤ size_of original added first.source → i.piece.index + i.length ≤ size_of original added i.piece.source
    inside_is i first n piece_is length_is within =
        subst (λ (p : Place). p.index + i.length ≤ size_of original added p.source) (sym piece_is) (omega (arith, length_is, within))

    -- a tree of one piece
    pub standing_one : (tree : Tree Place T) (i : Item Place T) → items tree ≡ i ∷ [] → i.piece.index + i.length ≤ size_of original added i.piece.source → Lying original added tree
    standing_one tree i is within = record {
      apart = subst Apart (sym is) (tt, tt);
      inside = subst (Inside original added) (sym is) (within, tt);
    }

    -- two trees sewn together
    pub standing_sewn : (left right all : Tree Place T) → items all ≡ sewn joined (items left) (items right) → Lying original added left → Lying original added right → Lying original added all
    standing_sewn left right all is l r = record {
      apart = subst Apart (sym is) (apart_sewn (items left) (items right) l.apart r.apart);
      inside = subst (Inside original added) (sym is) (inside_sewn (items left) (items right) l.inside r.inside);
    }

  pub places_one : (tree : Tree Place T) (i : Item Place T) (first : Place) (n : ℕ) → items tree ≡ i ∷ [] → i.piece ≡ first → i.length ≡ n → places tree ≡ stretch first.source first.index n
  places_one tree i first n is piece_is length_is =
      ap spread is ∙ append-nil (own i) ∙ ap (λ (p : Place). stretch p.source p.index i.length) piece_is ∙ ap (stretch first.source first.index) length_is

  pub places_sewn : (left right all : Tree Place T) → items all ≡ sewn joined (items left) (items right) → places all ≡ places left ++ places right
  places_sewn left right all is = ap spread is ∙ spread_sewn (items left) (items right)

module _ {E T : Type 0} (breaks : E → Bool) (neutral : T) (value : E → T) (joined : T → T → T) (laws : Monoid neutral joined) (original added : List E) where
  part_both : (i j : Item Place T) → touches i j ≡ true → source_part original added i.piece (i.length + j.length) ≡ source_part original added i.piece i.length ++ source_part original added j.piece j.length
  part_both i j e =
      let t = touched i j e in
      let first = source_part original added i.piece i.length in
      part_append original added i.piece i.length j.length ∙ ap (λ s. first ++ take j.length (drop (i.piece.index + i.length) (source_list original added s))) t.0 ∙ ap (λ k. first ++ take j.length (drop k (source_list original added j.piece.source))) t.1

  carries_merged : (i j : Item Place T) → touches i j ≡ true → Carries breaks neutral value joined original added i → Carries breaks neutral value joined original added j → Carries breaks neutral value joined original added (merged joined i j)
  carries_merged i j e a b =
      let first = source_part original added i.piece i.length in
      let second = source_part original added j.piece j.length in
      let both = part_both i j e in (
        omega (arith, a.0, b.0, ap (count_breaks breaks) both, count_append breaks first second),
        ap (λ t. joined t j.total) a.1 ∙ ap (joined (total neutral value joined first)) b.1 ∙ sym (total_append neutral value joined laws first second) ∙ sym (ap (total neutral value joined) both),
      )

  carry_on : (i : Item Place T) (ys : List (Item Place T)) → Carries breaks neutral value joined original added i → AllCarry breaks neutral value joined original added ys → AllCarry breaks neutral value joined original added (sewn_on joined i ys)
  carry_on i [] h b = (h, tt)
  carry_on i (j ∷ more) h b =
      on_cases joined (AllCarry breaks neutral value joined original added) i j more
      (λ e. (carries_merged i j e h b.0, b.1))
      (λ e. (h, b))

  carry_from : (i : Item Place T) (xs ys : List (Item Place T)) → AllCarry breaks neutral value joined original added (i ∷ xs) → AllCarry breaks neutral value joined original added ys → AllCarry breaks neutral value joined original added (sewn_from joined i xs ys)
  carry_from i [] ys a b = carry_on i ys a.0 b
  carry_from i (k ∷ xs) ys a b = (a.0, carry_from k xs ys a.1 b)

  -- each item carries what its elements have
  pub carry_sewn : (xs ys : List (Item Place T)) → AllCarry breaks neutral value joined original added xs → AllCarry breaks neutral value joined original added ys → AllCarry breaks neutral value joined original added (sewn joined xs ys)
  carry_sewn [] ys a b = b
  carry_sewn (i ∷ xs) ys a b = carry_from i xs ys a b

  pub faithful_sewn : (left right all : Tree Place T) → items all ≡ sewn joined (items left) (items right) → (Summed neutral joined left → Summed neutral joined right → Summed neutral joined all) → Faithful breaks neutral value joined original added left → Faithful breaks neutral value joined original added right → Faithful breaks neutral value joined original added all
  faithful_sewn left right all is summed l r =
      (summed l.0 r.0, subst (AllCarry breaks neutral value joined original added) (sym is) (carry_sewn (items left) (items right) l.1 r.1))
