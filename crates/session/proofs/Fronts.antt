-- What is printed for a paper of which only the front is read, and what stands at the front of a page that a line is printed on.
-- Assumes nothing.
use Rattle.std.proofs.Common.{◌≡◌, ℕ, ◌+◌, ◌^◌, ◌<◌, ◌≤◌, List, [], ◌++◌, length, map, take, drop, Some, None, Ok, Err, Option, Result, decimal, refl, subst, sym, ap, ◌∙◌, zero-add, ⊎_elim, arith, length-append}
use Rattle.std.specs.Prelude.{IfSome}
use Rattle.std.specs.Result.{IsOk}
use Rattle.std.specs.Io.KnownBytes.{Appends}
use Rattle.std.specs.Io.Take.{take_inner, take_limit, take_remaining}
use Rattle.std.specs.Option.{option_map}
use Rattle.std.specs.declared.io.traits.Take.{Take}
use Rattle.std.proofs.lemmas.Bool.{cases_lt, cond-true, lt-ltb}
use Rattle.std.proofs.lemmas.Fmt.{length-decimal-le}
use Rattle.std.proofs.lemmas.List.{take_all, take_at, length-take-le}
use Rattle.measure.specs.Fingerprints.{no_bytes, one_byte, bytes_joined}
use Rattle.measure.specs.Tallies.{none_typed, one_typed, typed_joined}
use Rattle.measure.specs.Totals.{total}
use Rattle.printing.specs.Numerals.{denial_line, totals_line}
use Rattle.printing.specs.Output.{Prints}
use Rattle.printing.specs.declared.NoRoom.{NoRoom}
use Rattle.printing.specs.declared.Page.{Page}
use Rattle.script.specs.declared.denial.SessionDenial.{SessionDenial}
use Rattle.script.specs.Paper.{paper_of}
use Rattle.script.specs.declared.denial.SessionDenial.TheVariants.{InputTooLong, NoFinalBreak, NoDotLine}
use Rattle.session.specs.Report.{outcome, report}

-- a paper above the limit is denied for its length
too_long : (paper : List ℕ) → 65_536 < length paper → paper_of paper ≡ Err InputTooLong
too_long paper long = cond-true _ _ _ (lt-ltb 65_536 (length paper) long)

-- one byte above the limit is enough to see that a paper is too long
front_enough : (paper : List ℕ) → paper_of (take 65_537 paper) ≡ paper_of paper
front_enough paper =
    ⊎_elim
    (λ long. too_long (take 65_537 paper) (omega (arith, length-take-le 65_537 paper)) ∙ sym (too_long paper (omega arith)))
    (λ short. ap paper_of (take_all 65_537 paper short))
    (cases_lt 65_537 (length paper))

-- what is printed for that front is printed for the paper
limited : {E : Type 0} (made : ℕ → ℕ → E) (shown typist : E → ℕ) (known old new : Option (List ℕ)) (front printed : List ℕ)
    → IfSome (option_map (take 65_537) known) (λ bytes. front ≡ [] ++ bytes) → printed ≡ report made shown typist front → Appends old new printed
    → IfSome known (λ paper. Appends old new (report made shown typist paper))
limited made shown typist None old new front printed read prints wrote = tt
limited made shown typist (Some paper) old new front printed read prints wrote =
    let same : printed ≡ report made shown typist paper = prints ∙ ap (report made shown typist) read ∙ ap (outcome made shown typist) (front_enough paper) in
    subst (Appends old new) same wrote

-- the same, where a reader was limited to the front
pub answered : {E R : Type 0} (made : ℕ → ℕ → E) (shown typist : E → ℕ) (remaining : R → Option (List ℕ)) (input : R) (reader : Take R)
    (old new : Option (List ℕ)) (blank front printed : List ℕ) → take_limit reader ≡ 65_537 → take_inner reader ≡ input → blank ≡ []
    → IfSome (take_remaining remaining reader) (λ bytes. front ≡ blank ++ bytes)
    → printed ≡ report made shown typist front → Appends old new printed
    → IfSome (remaining input) (λ paper. Appends old new (report made shown typist paper))
answered made shown typist remaining input reader old new blank front printed limit inner none read prints wrote =
    let known : IfSome (option_map (take 65_537) (remaining input)) (λ bytes. front ≡ [] ++ bytes) =
    rw (limit, inner, none) at read in
    limited made shown typist (remaining input) old new front printed known prints wrote

-- a line that fits an empty page is printed on it
pub fits : (old new : Page) (line : List ℕ) (printed : Result Unit NoRoom) → Prints old new line printed → old.end ≡ 0
    → length line ≤ length old.buffer.now → IsOk printed
fits old new line (Ok u) prints empty short = refl
fits old new line (Err e) prints empty short = absurd (omega (arith, prints.puts.0, empty, zero-add (length line)))

-- and the page's bytes are then the line, up to where they end
pub front : (old new : Page) (line : List ℕ) (printed : Result Unit NoRoom) → Prints old new line printed → old.end ≡ 0
    → length line ≤ length old.buffer.now → take new.end new.buffer.now ≡ line
front old new line (Ok u) prints empty short =
    let stop : new.end ≡ length line = prints.puts.1 ∙ ap (λ n. n + length line) empty ∙ zero-add (length line) in
    let after : new.buffer.now ≡ line ++ drop (0 + length line) old.buffer.now =
    prints.puts.2 ∙ ap (λ n. take n old.buffer.now ++ (line ++ drop (n + length line) old.buffer.now)) empty in
    ap (λ n. take n new.buffer.now) stop ∙ ap (take (length line)) after ∙ take_at line (drop (0 + length line) old.buffer.now) (length line) refl
front old new line (Err e) prints empty short = absurd (omega (arith, prints.puts.0, empty, zero-add (length line)))

-- a denial and a line of totals fit 64 bytes
pub short_denial : (n : ℕ) → n < 256 → length (denial_line n) ≤ 64
short_denial n small =
    let digits : length (decimal n) ≤ 3 = length-decimal-le 3 n (omega arith) (omega arith) (omega arith) in
    simp length-append (omega arith)

pub short_totals : (v t : ℕ) → t < 2 ^ 32 → length (totals_line v t) ≤ 64
short_totals v t small =
    let digits : length (decimal t) ≤ 10 = length-decimal-le 10 t (omega arith) (omega arith) (omega arith) in
    simp length-append (omega arith)

short_outcome : {E : Type 0} (made : ℕ → ℕ → E) (shown typist : E → ℕ) (read : Result (List ℕ × List ℕ) SessionDenial)
    → length (outcome made shown typist read) ≤ 64
short_outcome made shown typist (Ok paper) =
    let elements = map (λ b. made b 0) paper.0 in
    short_totals (total no_bytes (λ e. one_byte (shown e)) bytes_joined elements).value (total none_typed (λ e. one_typed (typist e)) typed_joined elements).count
    (total none_typed (λ e. one_typed (typist e)) typed_joined elements).modular
short_outcome made shown typist (Err InputTooLong) = short_denial 20 (omega arith)
short_outcome made shown typist (Err NoFinalBreak) = short_denial 21 (omega arith)
short_outcome made shown typist (Err NoDotLine) = short_denial 22 (omega arith)

-- so does what is printed for an input
pub short_report : {E : Type 0} (made : ℕ → ℕ → E) (shown typist : E → ℕ) (input : List ℕ) → length (report made shown typist input) ≤ 64
short_report made shown typist input = short_outcome made shown typist (paper_of input)
