-- A line of a text, and a part of it. Assumes nothing.
use Rattle.std.specs.Prelude.{ℕ, zero, suc, ◌-◌, Bool, cond, ◌||◌, List, [], ◌∷◌, length, take, Some, None, Option, ◌==◌, nat_lt, slice_index_or, slice_range}
use Rattle.std.specs.List.{flat_map}
use Rattle.element.specs.Lines.{lines}

-- the elements from an offset up to another, which is left out
abbrev pub part : {E : Type 0} → ℕ → ℕ → List E → List E
part from upto xs = slice_range xs from upto

-- how many elements lie up to and including a break, counted from 1: all where there are fewer breaks
abbrev pub behind : {E : Type 0} → (E → Bool) → ℕ → List E → ℕ
behind breaks zero xs = 0
behind breaks (suc k) [] = 0
behind breaks (suc k) (e ∷ es) = suc (cond (breaks e) (behind breaks k es) (behind breaks (suc k) es))

module _ {E : Type 0} (breaks : E → Bool) (xs : List E) where
  -- where the line of a number begins: behind the lines before it
  abbrev pub line_start : ℕ → ℕ
  line_start number = length (flat_map (λ one. one) (take (number - 1) (lines breaks xs)))

  abbrev pub line_length : ℕ → ℕ
  line_length number = length (slice_index_or (lines breaks xs) (number - 1) [])

  -- a line's first offset and its length; lines count from 1
  abbrev pub line_found : ℕ → Option (ℕ × ℕ)
  line_found number = cond (number == 0 || nat_lt (length (lines breaks xs)) number) None (Some (line_start number, line_length number))
