-- What a piece tree stands for. Assumes nothing.
use Rattle.std.specs.Prelude.{◌≡◌, ℕ, ◌+◌, ◌<◌, ◌≤◌, Bool, true, false, ◌&&◌, List, [], ◌∷◌, ◌++◌}
use Rattle.nodes.specs.declared.types.Colour.{Colour}
use Rattle.nodes.specs.declared.types.Colour.TheVariants.{Red, Black}
use Rattle.nodes.specs.declared.types.Item.{Item}
use Rattle.nodes.specs.declared.types.Node.{Node}
use Rattle.nodes.specs.declared.types.Tree.{Tree}
use Rattle.nodes.specs.declared.types.Tree.TheVariants.{Empty, Place'}

-- the items in the order of the text
abbrev pub items : {P T : Type 0} → Tree P T → List (Item P T)
items Empty = []
items (Place' p colour left item right sums) = items left ++ item ∷ items right

-- the sums that a tree carries
abbrev pub long : {P T : Type 0} → Tree P T → ℕ
long Empty = 0
long (Place' p colour left item right sums) = sums.length

abbrev pub broken : {P T : Type 0} → Tree P T → ℕ
broken Empty = 0
broken (Place' p colour left item right sums) = sums.breaks

abbrev pub placed : {P T : Type 0} → Tree P T → ℕ
placed Empty = 0
placed (Place' p colour left item right sums) = sums.pieces

abbrev pub whole : {P T : Type 0} → T → Tree P T → T
whole neutral Empty = neutral
whole neutral (Place' p colour left item right sums) = sums.total

-- a piece has an element at least, and at most as many breaks as elements
abbrev pub Fair : {P T : Type 0} → Item P T → Type 0
Fair item = (0 < item.length) × (item.breaks ≤ item.length)

-- each place carries its subtree's length, breaks and number of pieces
abbrev pub Weighed : {P T : Type 0} → Tree P T → Type 0
Weighed Empty = Unit {0}
Weighed (Place' p colour left item right sums) = (sums.length ≡ long left + item.length + long right) × (sums.breaks ≡ broken left + item.breaks + broken right) × (sums.pieces ≡ placed left + 1 + placed right) × Fair item × Weighed left × Weighed right

-- each place carries its subtree's total, joined in the order of the text
abbrev pub Summed : {P T : Type 0} → T → (T → T → T) → Tree P T → Type 0
Summed neutral joined Empty = Unit {0}
Summed neutral joined (Place' p colour left item right sums) = (sums.total ≡ joined (joined (whole neutral left) item.total) (whole neutral right)) × Summed neutral joined left × Summed neutral joined right

-- whether the top place is red
abbrev pub ruddy : Colour → Bool
ruddy Red = true
ruddy Black = false

abbrev pub red : {P T : Type 0} → Tree P T → Bool
red Empty = false
red (Place' p colour left item right sums) = ruddy colour

-- black places on the way down the left side, which a legal tree has on every way down
abbrev pub weight : Colour → ℕ
weight Red = 0
weight Black = 1

abbrev pub blacks : {P T : Type 0} → Tree P T → ℕ
blacks Empty = 0
blacks (Place' p colour left item right sums) = weight colour + blacks left

-- no red side below a red place
abbrev pub Calm : {P T : Type 0} → Colour → Tree P T → Type 0
Calm Red side = red side ≡ false
Calm Black side = Unit {0}

-- equal black heights on both sides of each place, and no red place with a red child
abbrev pub Legal : {P T : Type 0} → Tree P T → Type 0
Legal Empty = Unit {0}
Legal (Place' p colour left item right sums) = (blacks left ≡ blacks right) × Calm colour left × Calm colour right × Legal left × Legal right

-- legal, but that the top place and its right side may both be red
abbrev pub LeansRight : {P T : Type 0} → Tree P T → Type 0
LeansRight Empty = Unit {0}
LeansRight (Place' p colour left item right sums) = (blacks left ≡ blacks right) × Calm colour left × Legal left × Legal right

-- legal, but that the top place and its left side may both be red
abbrev pub LeansLeft : {P T : Type 0} → Tree P T → Type 0
LeansLeft Empty = Unit {0}
LeansLeft (Place' p colour left item right sums) = (blacks left ≡ blacks right) × Calm colour right × Legal left × Legal right

-- whether the top place and its right side, or its left side, are both red
abbrev pub reds_right : {P T : Type 0} → Tree P T → Bool
reds_right Empty = false
reds_right (Place' p colour left item right sums) = ruddy colour && red right

abbrev pub reds_left : {P T : Type 0} → Tree P T → Bool
reds_left Empty = false
reds_left (Place' p colour left item right sums) = ruddy colour && red left

-- a red-black tree: legal with a black top place
abbrev pub Balanced : {P T : Type 0} → Tree P T → Type 0
Balanced tree = (red tree ≡ false) × Legal tree

-- a place that is in no tree
abbrev pub Bare : {P T : Type 0} → Node P T → Type 0
Bare node = (node.left ≡ Empty) × (node.right ≡ Empty)
