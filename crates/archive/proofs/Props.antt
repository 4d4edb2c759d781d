-- What the records of a history keep stands in one way only: any two proofs of it are equal. Assumes nothing.
use Rattle.std.proofs.Common.{ℕ, ◌+◌, List, [], ◌∷◌}
use mathlib.Core.Logic.{∥∥₁_elim}
use native.Mathlib.Nat.{ℕ_set}
use Rattle.archive.specs.declared.types.Chapter.{Chapter}
use Rattle.archive.specs.declared.types.Entry.{Entry}
use Rattle.archive.specs.Volumes.{Filed, Stored}

filed_prop : (chapters : List Chapter) (n : ℕ) → IsProp (Filed chapters n)
filed_prop [] n x y = ℕ_set n 0 x y
filed_prop (c ∷ older) n x y =
    λ i. (ℕ_set (c.first + c.count) n x.0 y.0 i, filed_prop older c.first x.1 y.1 i)

stored_prop : (entries : List Entry) (n : ℕ) → IsProp (Stored entries n)
stored_prop [] n x y = ℕ_set n 0 x y
stored_prop (e ∷ older) n x y =
    λ i. (ℕ_set (e.first + e.kept) n x.0 y.0 i, stored_prop older e.first x.1 y.1 i)

-- so what is known behind a truncation is known
pub filed : (chapters : List Chapter) (n : ℕ) → ∥ Filed chapters n ∥₁ → Filed chapters n
filed chapters n known = ∥∥₁_elim known (filed_prop chapters n) (λ it. it)

pub stored : (entries : List Entry) (n : ℕ) → ∥ Stored entries n ∥₁ → Stored entries n
stored entries n known = ∥∥₁_elim known (stored_prop entries n) (λ it. it)
