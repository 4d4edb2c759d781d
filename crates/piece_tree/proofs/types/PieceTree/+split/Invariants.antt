use Rattle.nodes.specs.Trees.{long}
use Rattle.piece_tree.proofs.types.PieceTree.+split.Given as goal

abbrev pub decreases-split : goal.decreases-split
decreases-split g l = long l.self.tree
