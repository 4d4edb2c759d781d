use Rattle.nodes.proofs.Shapes.{spots}
use Rattle.balance.proofs.join.+join_on.Given as goal

abbrev pub decreases-join_on : goal.decreases-join_on
decreases-join_on g l = spots l.inner
