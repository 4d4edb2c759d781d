use Rattle.std.proofs.Common.{length}
use Rattle.script.proofs.Dots.{Reached}
use Rattle.script.proofs.line.split_at_dot_line.Given as goal

abbrev pub invariant-loop-rest : goal.invariant-loop-rest
invariant-loop-rest l = Reached l.bytes l.rest

abbrev pub decreases-loop-rest : goal.decreases-loop-rest
decreases-loop-rest l = length l.rest
