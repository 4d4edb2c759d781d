-- What a reader reads. Assumes nothing.
use Rattle.std.specs.Prelude.{Bool, List}
use Rattle.pieces.specs.Sources.{elements_of, FaithfulTo}
use Rattle.reading.specs.declared.reader.Reader.{Reader}

module _ {E T : Type 0} where
  -- the elements
  abbrev pub read : Reader E T → List E
  read reader = elements_of reader.sources reader.tree.now

module _ {E T : Type 0} (breaks : E → Bool) (neutral : T) (value : E → T) (joined : T → T → T) where
  -- the tree carries the breaks and totals of the elements
  abbrev pub Measured : Reader E T → Type 0
  Measured reader = FaithfulTo breaks neutral value joined reader.sources reader.tree.now
