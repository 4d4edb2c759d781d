-- That the marks of a text lie in it stands in one way only: any two proofs of it are equal. Assumes nothing.
use mathlib.Core.HLevel.{Unit-prop}
use Rattle.std.proofs.Common.{ℕ, ◌≤◌, List, [], ◌∷◌, length, Some, None, Option}
use native.Mathlib.Bridge.{le_prop}
use Rattle.ledger.specs.Steps.{Content}
use Rattle.ledger.specs.declared.words.Mark.{Mark}
use Rattle.marks.specs.Bounds.{Where, AllWithin, Inside}

where_prop : (bound : ℕ) (entry : Option Mark) → IsProp (Where (λ m. m.offset.0 ≤ bound) entry)
where_prop bound None x y = Unit-prop x y
where_prop bound (Some m) x y = le_prop x y

within_prop : (bound : ℕ) (ms : List (Option Mark)) → IsProp (AllWithin bound ms)
within_prop bound [] x y = Unit-prop x y
within_prop bound (entry ∷ more) x y =
    λ i. (where_prop bound entry x.0 y.0 i, within_prop bound more x.1 y.1 i)

pub inside_prop : (c : Content) → IsProp (Inside c)
inside_prop c = within_prop (length c.places) c.marks
