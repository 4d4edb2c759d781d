-- The number of each reason to deny a whole input. Assumes nothing.
use Rattle.std.specs.Prelude.{ℕ}
use Rattle.script.specs.declared.denial.SessionDenial.{SessionDenial}
use Rattle.script.specs.declared.denial.SessionDenial.TheVariants.{InputTooLong, NoFinalBreak, NoDotLine}

abbrev pub number_of : SessionDenial → ℕ
-- the input has more than 65,536 bytes
number_of InputTooLong = 20
-- the input's last byte is not 10, or it has none
number_of NoFinalBreak = 21
-- no line of the input is a single dot
number_of NoDotLine = 22
