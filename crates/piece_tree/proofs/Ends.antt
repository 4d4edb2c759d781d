-- What a tree without elements stands for. Assumes nothing.
use Rattle.std.proofs.Common.{◌≡◌, [], refl, arith}
use Rattle.nodes.specs.declared.types.Tree.{Tree}
use Rattle.nodes.specs.declared.types.Tree.TheVariants.{Empty, Place'}
use Rattle.nodes.specs.Trees.{items, long, Weighed}

-- it has no items, since each has an element
pub none : {P T : Type 0} → (tree : Tree P T) → Weighed tree → long tree ≡ 0 → items tree ≡ []
none Empty w e = refl
none (Place' p colour left item right sums) w e = absurd (omega (arith, w.0, w.3.0, e))
