-- What is known of a tree once it is open at its top place, the same on both sides. Assumes nothing.
use Rattle.std.proofs.Common.{◌≡◌, ◌+◌, true, false, cond, List, Box, refl, sym, ap, ◌∙◌, subst, arith}
use Rattle.std.specs.declared.alloc.Global.{Global}
use Rattle.nodes.specs.declared.types.Colour.{Colour}
use Rattle.nodes.specs.declared.types.Item.{Item}
use Rattle.nodes.specs.declared.types.Node.{Node}
use Rattle.nodes.specs.declared.types.Tree.{Tree, Place}
use Rattle.nodes.specs.declared.types.Tree.TheVariants.{Empty, Place'}
use Rattle.nodes.specs.Trees.{items, long, weight, blacks, red, Calm, Fair, Legal, Summed, Weighed}
use Rattle.nodes.proofs.Shapes.{Reds, turned, upright_left, upright_right, open_left, open_right}
use Rattle.balance.specs.declared.side.Side.{Side}
use Rattle.balance.specs.declared.side.Side.TheVariants.{Left, Right}
use Rattle.balance.specs.Sides.{between, inner_side, outer_side, reds_on, Leans}

-- two places in a row, grouped in either way
pub grouped : {A : Type 0} → (side : Side) (xs ys zs : List A) (x y : A) → between side xs x (between side ys y zs) ≡ between side (between side xs x ys) y zs
grouped Left xs ys zs x y = turned zs ys xs y x
grouped Right xs ys zs x y = sym (turned xs ys zs x y)

-- a red tree that is painted black is taller by one
pub taller : {P T : Type 0} → (tree black : Tree P T) → blacks black ≡ blacks tree + cond (red tree) 1 0 → red tree ≡ true → blacks black ≡ blacks tree + 1
taller tree black is reds = is ∙ ap (λ b. blacks tree + cond b 1 0) reds

-- a tree that leans, and has no two red places at its top, is legal
pub upright : {P T : Type 0} → (side : Side) (tree : Tree P T) → Leans side tree → reds_on side tree ≡ false → Legal tree
upright Left tree leans calm = upright_left tree leans calm
upright Right tree leans calm = upright_right tree leans calm

-- a legal tree leans to neither side
pub leaning : {P T : Type 0} → (side : Side) (tree : Tree P T) → Legal tree → Leans side tree
leaning Left Empty legal = tt
leaning Left (Place' p colour left item right sums) legal = (legal.0, legal.2, legal.3, legal.4)
leaning Right Empty legal = tt
leaning Right (Place' p colour left item right sums) legal = (legal.0, legal.1, legal.3, legal.4)

-- a tree at its top place, with what is known of its sides where it carries its sums, is legal, is summed, or leans
pub record Opened {P T : Type 0} (side : Side) (tree : Tree P T) (colour : Colour) (item : Item P T) (inner outer : Tree P T) : Type 0 where
  pub items_are : items tree ≡ between side (items inner) item (items outer)
  pub length_is : Weighed tree → long tree ≡ long inner + item.length + long outer
  pub weighed : Weighed tree → Fair item × Weighed inner × Weighed outer
  pub blacks_are : Legal tree → blacks tree ≡ weight colour + blacks inner
  pub legal : Legal tree → (blacks inner ≡ blacks outer) × Calm colour inner × Calm colour outer × Legal inner × Legal outer
  pub summed : (neutral : T) (joined : T → T → T) → Summed neutral joined tree → Summed neutral joined inner × Summed neutral joined outer
  pub reds : Leans side tree → reds_on side tree ≡ true → Reds tree inner outer

opened_at : {P T : Type 0} → (side : Side) (top : Box (Node P T) Global) → Opened side (Place top) top.value.colour top.value.item (inner_side side top.value) (outer_side side top.value)
opened_at Left top = record {
  items_are = refl;
  length_is = λ w. omega (arith, w.0);
  weighed = λ w. (w.3, w.5, w.4);
  blacks_are = λ l. omega (arith, l.0);
  legal = λ l. (sym l.0, l.2, l.1, l.4, l.3);
  summed = λ neutral joined s. (s.2, s.1);
  reds = open_left {side = top} refl refl refl;
}
opened_at Right top = record {
  items_are = refl;
  length_is = λ w. w.0;
  weighed = λ w. (w.3, w.4, w.5);
  blacks_are = λ l. refl;
  legal = λ l. l;
  summed = λ neutral joined s. (s.1, s.2);
  reds = open_right {side = top} refl refl refl;
}

pub opened : {P T : Type 0} → (side : Side) {tree inner outer : Tree P T} {item : Item P T} {top : Box (Node P T) Global} → tree ≡ Place top → item ≡ top.value.item → inner ≡ inner_side side top.value → outer ≡ outer_side side top.value → Opened side tree top.value.colour item inner outer
opened side {tree = tree} {inner = inner} {outer = outer} {item = item} {top = top} is at on_inner on_outer =
    let i = subst (λ t. Opened side (Place top) top.value.colour top.value.item t (outer_side side top.value)) (sym on_inner) (opened_at side top) in
    let o = subst (λ t. Opened side (Place top) top.value.colour top.value.item inner t) (sym on_outer) i in
    let a = subst (λ t. Opened side (Place top) top.value.colour t inner outer) (sym at) o in
    subst (λ t. Opened side t top.value.colour item inner outer) (sym is) a
