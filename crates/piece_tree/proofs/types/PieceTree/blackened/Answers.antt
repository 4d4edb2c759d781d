use Rattle.std.proofs.Common.{rules}
use Rattle.nodes.proofs.Bounds.{low}
use Rattle.piece_tree.proofs.types.PieceTree.blackened.Goals as goal

-- a tree is no taller than it is long, and its length fits
pub overflow_add-height : goal.overflow_add-height
overflow_add-height g c = let h = low c.args.tree c.requires.weighed in search rules
