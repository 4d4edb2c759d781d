-- The numbers of a document's denials. Assumes nothing.
use Rattle.std.specs.Prelude.{ℕ}
use Rattle.ledger.specs.declared.denial.Denial.{Denial}
use Rattle.ledger.specs.declared.denial.Denial.TheVariants.{CapacityOutOfRange, TooFewRecords, OriginalTooLong, PastTheText, Nothing, AddedFull, PiecesFull, StepsFull, RunsFull, VersionsFull, AtVersionZero, NoChild, NoVersion, NoStep, MarkNotSet, NoMarkName, NoLine, GroupOpen, NoGroup}

abbrev pub number_of : Denial → ℕ
-- at the check of a making
number_of CapacityOutOfRange = 1
number_of TooFewRecords = 2
number_of OriginalTooLong = 3
-- an offset or a part past the text, or a part that ends before it begins
number_of PastTheText = 4
-- an insert or a delete of nothing
number_of Nothing = 5
-- what would pass its capacity: added elements, pieces of the resulting text, steps, kept runs; versions at an opening
number_of AddedFull = 6
number_of PiecesFull = 7
number_of StepsFull = 8
number_of RunsFull = 9
number_of VersionsFull = 10
-- undo at version 0, redo without a child, a version that was not made
number_of AtVersionZero = 11
number_of NoChild = 12
number_of NoVersion = 13
-- retract without a step
number_of NoStep = 14
-- a mark that is not set, a name that is not a to z
number_of MarkNotSet = 15
number_of NoMarkName = 16
-- a line that is not there
number_of NoLine = 17
-- opening, undo, redo or jump while a group is open; a step or retract while none is
number_of GroupOpen = 18
number_of NoGroup = 19
