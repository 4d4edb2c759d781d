-- Cells by what they show and by their hand. Assumes nothing.
use Rattle.std.specs.Prelude.{ℕ, min}
use Rattle.std.proofs.Math.Nat.{min-le_right}
use Rattle.element.specs.declared.hand.Hand.{Hand}
use Rattle.element.specs.declared.cell.Cell.{Cell}

-- the hand of a number, the top hand where the number is above it
abbrev pub hand_of : ℕ → Hand
hand_of number = record { value = min number 15; small = min-le_right number 15 }

abbrev pub cell_of : ℕ → ℕ → Cell
cell_of byte hand = record { shown = byte; hand = hand_of hand }
