use Rattle.nodes.proofs.Shapes.{spots}
use Rattle.reading.proofs.reader.Reader.+part_total.Given as goal

abbrev pub decreases-part_total : goal.decreases-part_total
decreases-part_total g l = spots l.self.now.tree.now
