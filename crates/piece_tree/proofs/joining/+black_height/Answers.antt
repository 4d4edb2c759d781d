use Rattle.std.proofs.Common.{rules}
use Rattle.nodes.proofs.Bounds.{low_place}
use Rattle.piece_tree.proofs.joining.+black_height.Goals as goal

-- a tree is no taller than it is long, and its length fits
pub overflow_add-result : goal.overflow_add-result
overflow_add-result g t c = let h = low_place c.in-Place.is c.requires.weighed in search rules
