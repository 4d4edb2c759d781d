-- Numbers of breaks. Assumes nothing.
use Rattle.std.proofs.Common.{◌≡◌, ◌+◌, Bool, cond, List, ◌∷◌, ◌++◌}
use Rattle.std.proofs.lemmas.List.Sums.{sum_by-append, sum_by-cons}
use Rattle.pieces.specs.Faithful.{count_breaks}

module _ {E : Type 0} (breaks : E → Bool) where
  pub count_first : (x : E) (xs : List E) → count_breaks breaks (x ∷ xs) ≡ cond (breaks x) 1 0 + count_breaks breaks xs
  count_first = sum_by-cons (λ e. cond (breaks e) 1 0)

  pub count_append : (xs ys : List E) → count_breaks breaks (xs ++ ys) ≡ count_breaks breaks xs + count_breaks breaks ys
  count_append = sum_by-append (λ e. cond (breaks e) 1 0)
