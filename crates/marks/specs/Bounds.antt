-- How far the offsets of marks go. Assumes nothing.
use Rattle.std.specs.Prelude.{ℕ, ◌+◌, ◌^◌, ◌<◌, ◌≤◌, List, length, Option}
use Rattle.std.specs.List.{AllByRecursion}
use Rattle.std.specs.Option.{IfSome}
use Rattle.ledger.specs.Steps.{Content}
use Rattle.ledger.specs.declared.words.Mark.{Mark}

-- the mark has the property, where there is one
abbrev pub Where : (Mark → Type 0) → Option Mark → Type 0
Where Holds entry = IfSome entry Holds

-- each mark that is there has the property
abbrev pub Each : (Mark → Type 0) → List (Option Mark) → Type 0
Each Holds = AllByRecursion (Where Holds)

-- each mark stands in a text of `bound` elements, or at its end
abbrev pub AllWithin : ℕ → List (Option Mark) → Type 0
AllWithin bound = Each (λ m. m.offset.0 ≤ bound)

-- every mark of a text stands in it, or at its end
abbrev pub Inside : Content → Type 0
Inside c = AllWithin (length c.places) c.marks

-- the offset of each mark that is there has room for `count` more
abbrev pub AllShiftable : ℕ → List (Option Mark) → Type 0
AllShiftable count = Each (λ m. m.offset.0 + count < 2 ^ 64)
