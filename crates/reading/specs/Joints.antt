-- Where two lists of places meet. Assumes nothing.
use Rattle.std.specs.Prelude.{ℕ, suc, Bool, cond, ◌&&◌, List, [], ◌∷◌, ◌==◌}
use Rattle.ledger.specs.Places.{same_source}
use Rattle.ledger.specs.declared.words.Place.{Place}

-- whether a place is the next one of the same source
abbrev pub goes_on : Place → Place → Bool
goes_on p q = same_source p.source q.source && suc p.index == q.index

-- 1 where the last place of a list goes on to the first of another, and 0 elsewhere
abbrev pub joint : List Place → List Place → ℕ
joint [] ys = 0
joint (x ∷ []) [] = 0
joint (x ∷ []) (y ∷ ys) = cond (goes_on x y) 1 0
joint (x ∷ next ∷ xs) ys = joint (next ∷ xs) ys
