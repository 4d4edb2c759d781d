-- What is printed for an input. Assumes nothing.
use Rattle.std.specs.Prelude.{ℕ, List, map, Ok, Err, Result}
use Rattle.measure.specs.Fingerprints.{no_bytes, one_byte, bytes_joined}
use Rattle.measure.specs.Tallies.{none_typed, one_typed, typed_joined}
use Rattle.measure.specs.Totals.{total}
use Rattle.printing.specs.Numerals.{denial_line, totals_line}
use Rattle.script.specs.declared.denial.SessionDenial.{SessionDenial}
use Rattle.script.specs.Denials.{number_of}
use Rattle.script.specs.Paper.{paper_of}

-- the line of totals of a list of elements, by the byte that each shows and the hand that typed it
abbrev pub totals_of : {E : Type 0} → (E → ℕ) → (E → ℕ) → List E → List ℕ
totals_of shown typist elements =
    totals_line (total no_bytes (λ e. one_byte (shown e)) bytes_joined elements).value (total none_typed (λ e. one_typed (typist e)) typed_joined elements).count

-- what is printed for a paper that was read, or for a denial of the input
abbrev pub outcome : {E : Type 0} → (ℕ → ℕ → E) → (E → ℕ) → (E → ℕ) → Result (List ℕ × List ℕ) SessionDenial → List ℕ
outcome made shown typist (Ok paper) = totals_of shown typist (map (λ b. made b 0) paper.0)
outcome made shown typist (Err denial) = denial_line (number_of denial)

-- a denial of the input, or the totals of the set text, whose elements were typed by hand 0
abbrev pub report : {E : Type 0} → (ℕ → ℕ → E) → (E → ℕ) → (E → ℕ) → List ℕ → List ℕ
report made shown typist input = outcome made shown typist (paper_of input)
