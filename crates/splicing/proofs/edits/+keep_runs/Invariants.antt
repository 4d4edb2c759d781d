use Rattle.nodes.proofs.Shapes.{spots}
use Rattle.splicing.proofs.edits.+keep_runs.Given as goal

abbrev pub decreases-keep_runs : goal.decreases-keep_runs
decreases-keep_runs g l = spots l.part
