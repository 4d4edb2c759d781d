-- Numbers as bytes, and the lines that are made of them. Assumes nothing.
use Rattle.std.specs.Prelude.{ℕ, ◌+◌, ◌/◌, ◌%◌, cond, List, [], ◌∷◌, ◌++◌, decimal, nat_lt}
use Rattle.std.specs.Str.Parse.{digits_value}

-- the lower-case digit of a number below 16
abbrev pub hex_digit : ℕ → ℕ
hex_digit d = cond (nat_lt d 10) (48 + d) (87 + d)

-- the eight digits of a number of 32 bits, most significant first
abbrev pub hex8 : ℕ → List ℕ
hex8 n =
    hex_digit (n / 0x1000_0000 % 16) ∷ hex_digit (n / 0x100_0000 % 16) ∷ hex_digit (n / 0x10_0000 % 16) ∷ hex_digit (n / 0x1_0000 % 16)
    ∷ hex_digit (n / 0x1000 % 16) ∷ hex_digit (n / 0x100 % 16) ∷ hex_digit (n / 0x10 % 16) ∷ hex_digit (n % 16) ∷ []

-- the number that hexadecimal digits write
abbrev pub hex_value : List ℕ → ℕ
hex_value ds = digits_value 16 ds

-- a denial: a question mark, its number, the end of the line
abbrev pub denial_line : ℕ → List ℕ
denial_line n = 63 ∷ (decimal n ++ (10 ∷ []))

-- totals: the value, a space, the tally, the end of the line
abbrev pub totals_line : ℕ → ℕ → List ℕ
totals_line v t = hex8 v ++ (32 ∷ (decimal t ++ (10 ∷ [])))
