-- How an input falls into a set text and a script. A byte is its number: 10 is a line break, 46 a dot. Assumes nothing.
use Rattle.std.specs.Prelude.{◌≡◌, ℕ, suc, ◌-◌, ◌<◌, Bool, false, cond, not, ◌&&◌, List, [], ◌∷◌, ◌++◌, length, Some, None, Err, Option, Result, ◌==◌, ◌≢◌, nat_eq, nat_lt, slice_index}
use Rattle.std.specs.Option.{option_map, ok_or}
use Rattle.std.specs.List.{AllByRecursion, concat}
use Rattle.element.specs.Lines.{lines}
use Rattle.script.specs.declared.denial.SessionDenial.{SessionDenial}
use Rattle.script.specs.declared.denial.SessionDenial.TheVariants.{InputTooLong, NoFinalBreak, NoDotLine}

-- the lines of a list of bytes, each with its break
abbrev pub byte_lines : List ℕ → List (List ℕ)
byte_lines = lines (λ b. nat_eq b 10)

-- the bytes of some lines, one line after the other
abbrev pub rejoin : List (List ℕ) → List ℕ
rejoin = concat

-- how many bytes the first line has
abbrev pub line_size : List ℕ → ℕ
line_size [] = 0
line_size (b ∷ bs) = cond (b == 10) 1 (suc (line_size bs))

-- `first` is the first line of the bytes, and `after` is what follows it; of no bytes, both are empty
pub record Splits (bytes first after : List ℕ) : Type 0 where
  pub whole : first ++ after ≡ bytes
  pub lines : 0 < length bytes → byte_lines bytes ≡ first ∷ byte_lines after
  pub shorter : 0 < length bytes → length after < length bytes

-- the line that is a single dot
abbrev pub dot_line : List ℕ
dot_line = 46 ∷ 10 ∷ []

-- whether a line is that line
abbrev pub is_dot : List ℕ → Bool
is_dot [] = false
is_dot (a ∷ []) = false
is_dot (a ∷ b ∷ []) = a == 46 && b == 10
is_dot (a ∷ b ∷ c ∷ more) = false

-- the lines before the first dot line, and those after it; none where there is no dot line
abbrev pub cut_lines : List (List ℕ) → Option (List (List ℕ) × List (List ℕ))
cut_lines [] = None
cut_lines (line ∷ more) = cond (is_dot line) (Some ([], more)) (option_map (λ cut. (line ∷ cut.0, cut.1)) (cut_lines more))

-- the same of bytes: those before the first dot line, and those after it
abbrev pub split_at_dot : List ℕ → Option (List ℕ × List ℕ)
split_at_dot bytes = option_map (λ cut. (rejoin cut.0, rejoin cut.1)) (cut_lines (byte_lines bytes))

-- a line with its break at the end that is not the dot line
pub record Plain (line : List ℕ) : Type 0 where
  pub text : List ℕ
  pub ends : line ≡ text ++ 10 ∷ []
  pub other : line ≡ dot_line → ⊥

-- a dot line stands between `before` and `after`, and it is the first: what is before it is whole lines, none of them a dot line
pub record FirstDot (bytes before after : List ℕ) : Type 0 where
  pub parts : bytes ≡ before ++ (dot_line ++ after)
  pub plain : AllByRecursion Plain (byte_lines before)

-- no line is a dot line
abbrev pub NoDot : List ℕ → Type 0
NoDot bytes = AllByRecursion (λ line. line ≢ dot_line) (byte_lines bytes)

-- whether there is a last byte, and it is a line break
abbrev pub ends_with_break : List ℕ → Bool
ends_with_break bytes = slice_index bytes (length bytes - 1) == 10

-- the set text and the script, or why the input is denied: the first of three tests that it fails
abbrev pub paper_of : List ℕ → Result (List ℕ × List ℕ) SessionDenial
paper_of input =
    cond (nat_lt 65536 (length input)) (Err InputTooLong)
    (cond (not (ends_with_break input)) (Err NoFinalBreak)
    (ok_or (split_at_dot input) NoDotLine))
