-- What is known of a tree once it is open at its top place. Assumes nothing.
use Rattle.std.proofs.Common.{◌≡◌, ℕ, ◌+◌, true, false, List, ◌∷◌, ◌++◌, length, Box, sym, ap, ◌∙◌, subst, append_assoc, arith, length-append}
use mathlib.Core.Bool.{false≢true}
use Rattle.std.specs.declared.alloc.Global.{Global}
use Rattle.nodes.specs.declared.types.Colour.TheVariants.{Red, Black}
use Rattle.nodes.specs.declared.types.Node.{Node}
use Rattle.nodes.specs.declared.types.Tree.{Tree, Place}
use Rattle.nodes.specs.declared.types.Tree.TheVariants.{Empty, Place'}
use Rattle.nodes.specs.Trees.{items, blacks, red, reds_left, reds_right, Legal, LeansLeft, LeansRight, Summed}

abbrev pub left_of : {P T : Type 0} → Tree P T → Tree P T
left_of Empty = Empty
left_of (Place' p colour left item right sums) = left

abbrev pub right_of : {P T : Type 0} → Tree P T → Tree P T
right_of Empty = Empty
right_of (Place' p colour left item right sums) = right

-- two places in a row, grouped in either way
pub turned : {A : Type 0} → (xs ys zs : List A) (x y : A) → (xs ++ x ∷ ys) ++ y ∷ zs ≡ xs ++ x ∷ (ys ++ y ∷ zs)
turned xs ys zs x y = append_assoc xs (x ∷ ys) (y ∷ zs)

-- a tree that leans, and has no two red places at its top, is legal
pub upright_right : {P T : Type 0} → (tree : Tree P T) → LeansRight tree → reds_right tree ≡ false → Legal tree
upright_right Empty leans calm = tt
upright_right (Place' p Red left item right sums) leans calm = (leans.0, leans.1, calm, leans.2, leans.3)
upright_right (Place' p Black left item right sums) leans calm = (leans.0, tt, tt, leans.2, leans.3)

pub upright_left : {P T : Type 0} → (tree : Tree P T) → LeansLeft tree → reds_left tree ≡ false → Legal tree
upright_left Empty leans calm = tt
upright_left (Place' p Red left item right sums) leans calm = (leans.0, calm, leans.1, leans.2, leans.3)
upright_left (Place' p Black left item right sums) leans calm = (leans.0, tt, tt, leans.2, leans.3)

-- the sides of a red tree whose right, or left, side is red too
pub record Reds {P T : Type 0} (tree inner outer : Tree P T) : Type 0 where
  pub tall : blacks tree ≡ blacks inner
  pub level : blacks inner ≡ blacks outer
  pub inner_legal : Legal inner
  pub outer_legal : Legal outer
  pub outer_red : red outer ≡ true

reds_of_right : {P T : Type 0} → (tree : Tree P T) → LeansRight tree → reds_right tree ≡ true → Reds tree (left_of tree) (right_of tree)
reds_of_right Empty leans reds = absurd (false≢true reds)
reds_of_right (Place' p Red left item right sums) leans reds =
    record { tall = omega arith; level = leans.0; inner_legal = leans.2; outer_legal = leans.3; outer_red = reds }
reds_of_right (Place' p Black left item right sums) leans reds = absurd (false≢true reds)

reds_of_left : {P T : Type 0} → (tree : Tree P T) → LeansLeft tree → reds_left tree ≡ true → Reds tree (right_of tree) (left_of tree)
reds_of_left Empty leans reds = absurd (false≢true reds)
reds_of_left (Place' p Red left item right sums) leans reds =
    record { tall = omega (arith, leans.0); level = sym leans.0; inner_legal = leans.3; outer_legal = leans.2; outer_red = reds }
reds_of_left (Place' p Black left item right sums) leans reds = absurd (false≢true reds)

pub open_right : {P T : Type 0} → {tree inner outer : Tree P T} {side : Box (Node P T) Global} → tree ≡ Place side → inner ≡ side.value.left → outer ≡ side.value.right → LeansRight tree → reds_right tree ≡ true → Reds tree inner outer
open_right {tree = tree} {inner = inner} {outer = outer} is on_left on_right leans reds =
    let i : left_of tree ≡ inner = ap left_of is ∙ sym on_left in
    let o : right_of tree ≡ outer = ap right_of is ∙ sym on_right in
    subst (λ t. Reds tree inner t) o (subst (λ t. Reds tree t (right_of tree)) i (reds_of_right tree leans reds))

pub open_left : {P T : Type 0} → {tree inner outer : Tree P T} {side : Box (Node P T) Global} → tree ≡ Place side → outer ≡ side.value.left → inner ≡ side.value.right → LeansLeft tree → reds_left tree ≡ true → Reds tree inner outer
open_left {tree = tree} {inner = inner} {outer = outer} is on_left on_right leans reds =
    let o : left_of tree ≡ outer = ap left_of is ∙ sym on_left in
    let i : right_of tree ≡ inner = ap right_of is ∙ sym on_right in
    subst (λ t. Reds tree inner t) o (subst (λ t. Reds tree t (left_of tree)) i (reds_of_left tree leans reds))

-- the sides of a place whose tree is summed
pub sides_summed : {P T : Type 0} → (neutral : T) (joined : T → T → T) {tree left right : Tree P T} {side : Box (Node P T) Global} → tree ≡ Place side → left ≡ side.value.left → right ≡ side.value.right → Summed neutral joined tree → Summed neutral joined left × Summed neutral joined right
sides_summed neutral joined is on_left on_right summed =
    let s = subst (Summed neutral joined) is summed in
    (subst (Summed neutral joined) (sym on_left) s.1, subst (Summed neutral joined) (sym on_right) s.2)

-- how many places a tree has: what each recursion ends by
abbrev pub spots : {P T : Type 0} → Tree P T → ℕ
spots Empty = 0
spots (Place' p colour left item right sums) = spots left + spots right + 1

-- the number of items at and below a place
pub items_count : {P T : Type 0} → {tree left right : Tree P T} {side : Box (Node P T) Global} → tree ≡ Place side → left ≡ side.value.left → right ≡ side.value.right → length (items tree) ≡ length (items left) + 1 + length (items right)
items_count {left = left} {right = right} {side = side} is on_left on_right =
    let cut = length-append (items side.value.left) (side.value.item ∷ items side.value.right) in
    omega (arith, ap (λ t. length (items t)) is, cut, ap (λ t. length (items t)) on_left, ap (λ t. length (items t)) on_right)
