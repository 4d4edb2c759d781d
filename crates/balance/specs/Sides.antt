-- What the two sides of a place have in common: the outer side is the one that is named, the inner side is the other one.
-- Assumes nothing.
use Rattle.std.specs.Prelude.{◌+◌, ◌^◌, ◌<◌, Bool, List, ◌∷◌, ◌++◌}
use Rattle.nodes.specs.declared.types.Node.{Node}
use Rattle.nodes.specs.declared.types.Tree.{Tree}
use Rattle.nodes.specs.Trees.{long, reds_left, reds_right, Bare, Fair, LeansLeft, LeansRight, Weighed}
use Rattle.balance.specs.declared.side.Side.{Side}
use Rattle.balance.specs.declared.side.Side.TheVariants.{Left, Right}

-- an item between those of the inner and of the outer side, in the order of the text
abbrev pub between : {A : Type 0} → Side → List A → A → List A → List A
between Left inner item outer = outer ++ item ∷ inner
between Right inner item outer = inner ++ item ∷ outer

-- the sides of a place
abbrev pub inner_side : {P T : Type 0} → Side → Node P T → Tree P T
inner_side Left node = node.right
inner_side Right node = node.left

abbrev pub outer_side : {P T : Type 0} → Side → Node P T → Tree P T
outer_side Left node = node.left
outer_side Right node = node.right

-- legal, but that the top place and its outer side may both be red
abbrev pub Leans : {P T : Type 0} → Side → Tree P T → Type 0
Leans Left tree = LeansLeft tree
Leans Right tree = LeansRight tree

-- whether the top place and its outer side are both red
abbrev pub reds_on : {P T : Type 0} → Side → Tree P T → Bool
reds_on Left tree = reds_left tree
reds_on Right tree = reds_right tree

-- a place in no tree, and two trees that may stand on its sides: the item is fair, the trees carry their sums, and the
-- length of all fits
pub record Linkable {P T : Type 0} (node : Node P T) (inner outer : Tree P T) : Type 0 where
  pub bare : Bare node
  pub fair : Fair node.item
  pub inner_weighed : Weighed inner
  pub outer_weighed : Weighed outer
  pub fits : long inner + node.item.length + long outer < 2 ^ 64
