-- A red-black tree is no deeper than twice its black height, and has two to the power of that many places less one.
-- Assumes nothing.
use Rattle.std.proofs.Common.{◌≡◌, ℕ, ◌+◌, ◌*◌, ◌/◌, ◌^◌, ◌≤◌, if◌then◌else◌, length, ap, ◌∙◌, zero-add, one-add, arith, length-append}
use native.Mathlib.Nat.{pow-le-pow_right, two-pow-succ}
use Rattle.std.proofs.lemmas.Bool.Decides.{nat_tests}
use Rattle.nodes.specs.declared.types.Colour.TheVariants.{Red, Black}
use Rattle.nodes.specs.declared.types.Tree.{Tree}
use Rattle.nodes.specs.declared.types.Tree.TheVariants.{Empty, Place'}
use Rattle.nodes.specs.Trees.{items, placed, blacks, red, Balanced, Legal, Weighed}
use Rattle.nodes.proofs.Bounds.{within}
use Rattle.seeking.specs.Depths.{deep}

-- no deeper than it has places
pub deep_few : {P T : Type 0} → (tree : Tree P T) → Weighed tree → deep tree ≤ placed tree
deep_few Empty w = omega arith
deep_few (Place' p colour left item right sums) w =
    let l = deep_few left w.4 in
    let r = deep_few right w.5 in
    omega (arith, w.2, l, r)

-- no two red places follow each other on a way down
pub deep_within : {P T : Type 0} → (tree : Tree P T) → Legal tree → deep tree ≤ 2 * blacks tree + (if red tree then 1 else 0)
deep_within Empty h = omega arith
deep_within (Place' p Red left item right sums) h =
    grind (arith, nat_tests, h, deep_within left h.3, deep_within right h.4)
deep_within (Place' p Black left item right sums) h =
    grind (arith, nat_tests, h, deep_within left h.3, deep_within right h.4)

-- each black place on the way down doubles the places
pub many : {P T : Type 0} → (tree : Tree P T) → Legal tree → 2 ^ blacks tree ≤ length (items tree) + 1
many Empty h = omega arith
many (Place' p Red left item right sums) h = grind (arith, length-append, zero-add, many left h.3)
many (Place' p Black left item right sums) h =
    let power = ap (λ k. 2 ^ k) (one-add (blacks left)) ∙ two-pow-succ (blacks left) in
    grind (arith, length-append, power, h.0, many left h.3, many right h.4)

-- the bound on the depth
pub shallow : {P T : Type 0} → (tree : Tree P T) (depth : ℕ) → depth ≡ deep tree → Balanced tree → 2 ^ ((depth + 1) / 2) ≤ length (items tree) + 1
shallow tree depth is b =
    let half : (depth + 1) / 2 ≤ blacks tree = grind (arith, nat_tests, deep_within tree b.1) in
    let power : 2 ^ ((depth + 1) / 2) ≤ 2 ^ blacks tree = pow-le-pow_right (omega arith) half in
    omega (arith, power, many tree b.1)

-- what a depth is proved by
pub ruleset depths = (deep_few, shallow, within)
