-- Bounds on what a tree carries. Assumes nothing.
use Rattle.std.proofs.Common.{◌≡◌, ◌+◌, ◌<◌, ◌≤◌, if◌then◌else◌, Box, ap, subst, arith}
use Rattle.nodes.specs.declared.types.Colour.TheVariants.{Red, Black}
use Rattle.std.specs.declared.alloc.Global.{Global}
use Rattle.nodes.specs.declared.types.Node.{Node}
use Rattle.nodes.specs.declared.types.Tree.{Tree, Place}
use Rattle.nodes.specs.declared.types.Tree.TheVariants.{Empty, Place'}
use Rattle.nodes.specs.Trees.{long, broken, placed, blacks, red, Weighed}

-- no more breaks, pieces or black places in a row than elements
pub within : {P T : Type 0} → (tree : Tree P T) → Weighed tree → (broken tree ≤ long tree) × (placed tree ≤ long tree)
within Empty w = (omega arith, omega arith)
within (Place' p colour left item right sums) w =
    let l = within left w.4 in
    let r = within right w.5 in
    (omega arith, omega arith)

-- painted black, a tree is no taller than it is long
pub low : {P T : Type 0} → (tree : Tree P T) → Weighed tree → blacks tree + (if red tree then 1 else 0) ≤ long tree
low Empty w = omega arith
low (Place' p Red left item right sums) w = omega (arith, w, low left w.4)
low (Place' p Black left item right sums) w = omega (arith, w, low left w.4)

-- below a place there are fewer black places in a row than elements
pub low_place : {P T : Type 0} → {tree : Tree P T} {place : Box (Node P T) Global} → tree ≡ Place place → Weighed tree → blacks place.value.left < long tree
low_place {place = place} is w =
    let open_w = subst Weighed is w in
    omega (arith, low place.value.left open_w.4, open_w.0, open_w.3, ap long is)
