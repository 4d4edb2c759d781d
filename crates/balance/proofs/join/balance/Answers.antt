use Rattle.std.proofs.Common.{sym, rules}
use Rattle.balance.proofs.Opening.{upright}
use Rattle.balance.proofs.join.balance.Goals as goal

pub returns-else-both_red-clause-legal : goal.returns-else-both_red-clause-legal
returns-else-both_red-clause-legal g c =
    let legal = upright c.args.side c.args.outer c.requires.outer_leans (sym c.if-both_red.ensures) in
    search rules
