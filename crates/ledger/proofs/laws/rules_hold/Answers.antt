use Rattle.std.proofs.Common.{rules}
use Rattle.measure.specs.Totals.{total}
use Rattle.ledger.proofs.Groups.{retracts, strikes, unchanging}
use Rattle.ledger.proofs.Reached.{reached_legal, redo_takes_undo_back, undo_takes_redo_back}
use Rattle.ledger.proofs.Standing.{stands}
use Rattle.ledger.proofs.laws.rules_hold.Goals as goal

pub returns : goal.returns
returns g c =
    let breaks = g.E.Element.breaks in
    record {
      unchanging = unchanging breaks;
      retracting = retracts breaks;
      striking = strikes breaks (total g.T.Total.neutral g.T.Measure.value g.T.Total.joined);
      standing = stands breaks;
      legal = reached_legal breaks;
      redone = redo_takes_undo_back breaks;
      undone = undo_takes_redo_back breaks;
      held = search rules;
    }
