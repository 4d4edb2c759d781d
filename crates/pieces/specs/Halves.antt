-- What becomes of a piece that is cut in two, and of the items around it. Assumes nothing.
use Rattle.std.specs.Prelude.{◌≡◌, ℕ, ◌+◌, Bool, List, [], ◌∷◌, ◌++◌}
use Rattle.ledger.specs.declared.words.Place.{Place}
use Rattle.nodes.specs.declared.types.Item.{Item}
use Rattle.pieces.specs.Faithful.{Carries}

module _ {E T : Type 0} (breaks : E → Bool) (neutral : T) (value : E → T) (joined : T → T → T) (original added : List E) where
  -- some items end with the first `inner` elements of a piece, and some others begin with the rest of it
  pub record Halves (left : List (Item Place T)) (item : Item Place T) (inner : ℕ) (right front back : List (Item Place T)) : Type 0 where
    pub first : Item Place T
    pub second : Item Place T
    pub front_is : front ≡ left ++ first ∷ []
    pub back_is : back ≡ second ∷ right
    pub first_piece : first.piece ≡ item.piece
    pub first_length : first.length ≡ inner
    pub second_source : second.piece.source ≡ item.piece.source
    pub second_index : second.piece.index ≡ item.piece.index + inner
    pub whole_length : inner + second.length ≡ item.length
    pub first_carries : Carries breaks neutral value joined original added first
    pub second_carries : Carries breaks neutral value joined original added second
