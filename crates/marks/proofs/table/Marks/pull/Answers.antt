-- Each mark is moved.
use Rattle.std.proofs.Common.{rules}
use Rattle.ledger.specs.Steps.{pulled}
use Rattle.marks.proofs.table.Marks.pull.Goals as goal

pub returns : goal.returns
returns c = c.change_each.ensures (pulled c.args.offset c.args.count) (λ m new k. search rules)
