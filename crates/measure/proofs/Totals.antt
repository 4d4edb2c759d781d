-- What the laws of a join give of totals. Assumes nothing.
use Rattle.std.proofs.Common.{◌≡◌, List, [], ◌∷◌, ◌++◌, fold, sym, refl, ap, ◌∙◌}
use Rattle.measure.specs.Pairs.{side_by_side}
use Rattle.measure.specs.Totals.{Monoid, total}

module _ {E T : Type 0} (empty : T) (value : E → T) (join : T → T → T) (laws : Monoid empty join) where
  -- the total of two parts, one after the other, is the join of their totals
  pub total_append : (xs ys : List E) → total empty value join (xs ++ ys) ≡ join (total empty value join xs) (total empty value join ys)
  total_append [] ys = sym (laws.neutral_left (total empty value join ys))
  total_append (x ∷ xs) ys =
      ap (join (value x)) (total_append xs ys) ∙ sym (laws.associative (value x) (total empty value join xs) (total empty value join ys))

  -- the values of a part, joined one after the other onto a total
  pub fold_join : (sum : T) (xs : List E) → fold (λ s e. join s (value e)) sum xs ≡ join sum (total empty value join xs)
  fold_join sum [] = sym (laws.neutral_right sum)
  fold_join sum (x ∷ xs) = fold_join (join sum (value x)) xs ∙ laws.associative sum (value x) (total empty value join xs)

-- the total of a pair of measures is the pair of their totals
pub total_pair : {E A B : Type 0} (a : A) (b : B) (f : E → A) (g : E → B) (j : A → A → A) (k : B → B → B) (xs : List E) → total (side_by_side a b) (λ e. side_by_side (f e) (g e)) (λ x y. side_by_side (j x.first y.first) (k x.second y.second)) xs ≡ side_by_side (total a f j xs) (total b g k xs)
total_pair a b f g j k [] = refl
total_pair a b f g j k (x ∷ xs) =
    ap (λ t. side_by_side (j (f x) t.first) (k (g x) t.second)) (total_pair a b f g j k xs)
