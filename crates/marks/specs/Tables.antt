-- The marks that a table holds, and what changes them. Assumes nothing.
use Rattle.std.specs.Prelude.{◌≡◌, List, Option}
use Rattle.ledger.specs.declared.words.Mark.{Mark}
use Rattle.marks.specs.declared.table.Marks.{Marks}

-- the entries, from a to z
abbrev pub marks_of : Marks → List (Option Mark)
marks_of table = table.entries

-- what calls at marks may give, as `gives` says it, is what the function f gives
abbrev pub Computes : (Mark → Mark → Type 0) → (Mark → Mark) → Type 0
Computes gives f = (m new : Mark) → gives m new → new ≡ f m
