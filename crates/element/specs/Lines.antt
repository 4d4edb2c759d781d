-- The lines of a list of elements. A line ends with its break; a last line without one counts too;
-- an empty list has no lines. Assumes nothing.
use Rattle.std.specs.Prelude.{Bool, if◌then◌else◌, List, [], ◌∷◌}

-- one element more at the front of the first line
abbrev pub onto : {E : Type 0} → E → List (List E) → List (List E)
onto e [] = (e ∷ []) ∷ []
onto e (l ∷ ls) = (e ∷ l) ∷ ls

abbrev pub lines : {E : Type 0} → (E → Bool) → List E → List (List E)
lines breaks [] = []
lines breaks (e ∷ es) = if breaks e then (e ∷ []) ∷ lines breaks es else onto e (lines breaks es)
