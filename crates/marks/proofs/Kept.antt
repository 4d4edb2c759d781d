-- What holds of each mark of a list, and how it goes on. Assumes nothing.
use Rattle.std.proofs.Common.{◌≡◌, ℕ, ◌+◌, ◌-◌, ◌^◌, ◌<◌, ◌≤◌, Bool, true, false, cond, ◌&&◌, ◌||◌, eqb, ltb, leb, List, map, set, replicate, Some, None, Option, arith}
use Rattle.std.proofs.lemmas.Bool.{cond_both, leb-true}
use Rattle.std.proofs.lemmas.List.Elements.{All-from_recursion, recursion_from_All, All-map, All-replicate, All-set, All-weaker}
use Rattle.std.proofs.lemmas.Option.{IfSome_then}
use Rattle.std.specs.Option.{option_map}
use Rattle.ledger.specs.Steps.{is_right, shifted, pulled}
use Rattle.ledger.specs.declared.words.Mark.{Mark}
use Rattle.marks.specs.Bounds.{Where, Each, AllWithin, AllShiftable}

-- a property of each mark gives a weaker one
pub each_kept : (Before After : Mark → Type 0) → ((m : Mark) → Before m → After m) → (ms : List (Option Mark)) → Each Before ms → Each After ms
each_kept Before After step ms h =
    recursion_from_All (Where After) ms (All-weaker (Where Before) (Where After) (λ entry w. IfSome_then entry w step) ms (All-from_recursion (Where Before) ms h))

module _ (Before After : Mark → Type 0) (f : Mark → Mark) (step : (m : Mark) → Before m → After (f m)) where
  -- what holds of a mark goes on to it moved, where it is there
  where_mapped : (entry : Option Mark) → Where Before entry → Where After (option_map f entry)
  where_mapped None h = tt
  where_mapped (Some m) h = step m h

  -- a property of each mark goes on to each mark moved
  pub each_mapped : (ms : List (Option Mark)) → Each Before ms → Each After (map (option_map f) ms)
  each_mapped ms h =
      let moved = option_map f in
      recursion_from_All (Where After) (map moved ms)
      (All-map (Where After) moved ms (All-weaker (Where Before) (λ entry. Where After (moved entry)) where_mapped ms (All-from_recursion (Where Before) ms h)))

module _ (Holds : Mark → Type 0) where
  -- a property of each mark still holds of each where it holds of an entry that is put in
  pub each_set : (ms : List (Option Mark)) (i : ℕ) (entry : Option Mark) → Where Holds entry → Each Holds ms → Each Holds (set ms i entry)
  each_set ms i entry w h = recursion_from_All (Where Holds) (set ms i entry) (All-set (Where Holds) ms i entry w (All-from_recursion (Where Holds) ms h))

  -- it holds where no mark is there
  pub each_none : (n : ℕ) → Each Holds (replicate n None)
  each_none n = recursion_from_All (Where Holds) (replicate n None) (All-replicate (Where Holds) n None tt)

-- marks within a bound are within a larger one
pub within_more : (a b : ℕ) (ms : List (Option Mark)) → a ≤ b → AllWithin a ms → AllWithin b ms
within_more a b ms le h = each_kept (λ m. m.offset.0 ≤ a) (λ m. m.offset.0 ≤ b) (λ m w. omega arith) ms h

-- an insert can move marks within a bound that has room for its elements
pub within_shiftable : (bound n : ℕ) (ms : List (Option Mark)) → bound + n < 2 ^ 64 → AllWithin bound ms → AllShiftable n ms
within_shiftable bound n ms fits h =
    each_kept (λ m. m.offset.0 ≤ bound) (λ m. m.offset.0 + n < 2 ^ 64) (λ m w. omega arith) ms h

-- where one of two numbers is meant, a bound of both is one of it
cond_within : (b : Bool) (x y bound : ℕ) → (b ≡ true → x ≤ bound) → (b ≡ false → y ≤ bound) → cond b x y ≤ bound
cond_within b x y bound = cond_both b x y (λ z. z ≤ bound)

-- an insert lengthens the text, and its marks are within the longer one
pub within_shifted : (bound x n : ℕ) (ms : List (Option Mark)) → AllWithin bound ms → AllWithin (bound + n) (map (option_map (shifted x n)) ms)
within_shifted bound x n ms h =
    each_mapped (λ m. m.offset.0 ≤ bound) (λ m. m.offset.0 ≤ bound + n) (shifted x n)
    (λ m w.
    let q : ℕ = m.offset.0 in
    cond_within (ltb x q || (eqb q x && is_right m.gravity)) (q + n) q (bound + n) (λ e. omega arith) (λ e. omega arith))
    ms h

-- a delete within the text shortens it, and its marks are within the shorter one
pub within_pulled : (bound x n : ℕ) (ms : List (Option Mark)) → x + n ≤ bound → AllWithin bound ms → AllWithin (bound - n) (map (option_map (pulled x n)) ms)
within_pulled bound x n ms le h =
    each_mapped (λ m. m.offset.0 ≤ bound) (λ m. m.offset.0 ≤ bound - n) (pulled x n)
    (λ m w.
    let q : ℕ = m.offset.0 in
    cond_within (leb q x) q (cond (ltb q (x + n)) x (q - n)) (bound - n)
    (λ e. omega (arith, leb-true q x e))
    (λ e. cond_within (ltb q (x + n)) x (q - n) (bound - n) (λ t. omega arith) (λ t. omega arith)))
    ms h

-- a mark that is put in within the bound leaves all within it
pub within_set : (bound i : ℕ) (m : Mark) (ms : List (Option Mark)) → m.offset.0 ≤ bound → AllWithin bound ms → AllWithin bound (set ms i (Some m))
within_set bound i m ms le h = each_set (λ m. m.offset.0 ≤ bound) ms i (Some m) le h

-- and so does one that is taken out
pub within_dropped : (bound i : ℕ) (ms : List (Option Mark)) → AllWithin bound ms → AllWithin bound (set ms i None)
within_dropped bound i ms h = each_set (λ m. m.offset.0 ≤ bound) ms i None tt h
