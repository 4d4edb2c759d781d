-- How deep a tree is. Assumes nothing.
use Rattle.std.specs.Prelude.{ℕ, ◌+◌, max}
use Rattle.nodes.specs.declared.types.Tree.{Tree}
use Rattle.nodes.specs.declared.types.Tree.TheVariants.{Empty, Place'}

-- the places on the longest way down
abbrev pub deep : {P T : Type 0} → Tree P T → ℕ
deep Empty = 0
deep (Place' p colour left item right sums) = max (deep left) (deep right) + 1
