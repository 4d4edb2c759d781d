-- The eight hexadecimal digits of a number of 32 bits. Assumes nothing.
use Rattle.std.proofs.Common.{◌≡◌, ℕ, ◌/◌, ◌%◌, ◌^◌, ◌<◌, slice_index, subst, ap, ◌∙◌, zero-add, arith, refl, lit≤, w32}
use Rattle.std.proofs.lemmas.Bool.Decides.{nat_tests}
use Rattle.std.proofs.lemmas.List.FromFn.{get_or-map-range_with_len}
use Rattle.std.specs.Char.{digit_value}
use Rattle.std.proofs.lemmas.Str.{IsUtf8-from_ascii}
use Rattle.std.proofs.lemmas.Str.Ascii.{IsAscii-from_reads}
use Rattle.std.specs.Int.{to_be_bytes}
use Rattle.std.specs.Str.{IsAscii, IsUtf8}
use Rattle.hex.proofs.HexLemmas.{IsAscii-encode_with}
use Rattle.hex.specs.Hex.{encode_lower, encode_with, lower_digits}
use Rattle.printing.specs.Numerals.{hex_digit, hex8, hex_value}

-- a digit reads back as its value
pub digit_reads_back : (d : ℕ) → d < 16 → digit_value (hex_digit d) ≡ d
digit_reads_back d small = grind (arith, nat_tests)

-- the digits read back as the number
pub hex_reads_back : (n : ℕ) → n < 2 ^ 32 → hex_value (hex8 n) ≡ n
hex_reads_back n small =
    let d7 = digit_reads_back (n / 0x1000_0000 % 16) (omega arith) in
    let d6 = digit_reads_back (n / 0x100_0000 % 16) (omega arith) in
    let d5 = digit_reads_back (n / 0x10_0000 % 16) (omega arith) in
    let d4 = digit_reads_back (n / 0x1_0000 % 16) (omega arith) in
    let d3 = digit_reads_back (n / 0x1000 % 16) (omega arith) in
    let d2 = digit_reads_back (n / 0x100 % 16) (omega arith) in
    let d1 = digit_reads_back (n / 0x10 % 16) (omega arith) in
    let d0 = digit_reads_back (n % 16) (omega arith) in
    rw (d7, d6, d5, d4, d3, d2, d1, d0) (omega arith)

-- the library's digit, where its number is written in another way
same_digit : (m d : ℕ) → d < 16 → m ≡ d → slice_index lower_digits m ≡ hex_digit d
same_digit m d small same = ap (slice_index lower_digits) same ∙ get_or-map-range_with_len hex_digit 0 16 d d 0 small (zero-add d)

-- the library's digits of the bytes of the number, the highest byte first, are those digits
pub hex_of_bytes : (n : ℕ) → encode_lower (to_be_bytes w32 n) ≡ hex8 n
unfolding encode_with
hex_of_bytes n =
    let d7 = same_digit (n / 256 ^ 3 % 256 / 16) (n / 0x1000_0000 % 16) (omega arith) (omega arith) in
    let d6 = same_digit (n / 256 ^ 3 % 256 % 16) (n / 0x100_0000 % 16) (omega arith) (omega arith) in
    let d5 = same_digit (n / 256 ^ 2 % 256 / 16) (n / 0x10_0000 % 16) (omega arith) (omega arith) in
    let d4 = same_digit (n / 256 ^ 2 % 256 % 16) (n / 0x1_0000 % 16) (omega arith) (omega arith) in
    let d3 = same_digit (n / 256 ^ 1 % 256 / 16) (n / 0x1000 % 16) (omega arith) (omega arith) in
    let d2 = same_digit (n / 256 ^ 1 % 256 % 16) (n / 0x100 % 16) (omega arith) (omega arith) in
    let d1 = same_digit (n % 256 / 16) (n / 0x10 % 16) (omega arith) (omega arith) in
    let d0 = same_digit (n % 256 % 16) (n % 16) (omega arith) (omega arith) in
    rw (d7, d6, d5, d4, d3, d2, d1, d0)

-- they are text
pub hex_text : (n : ℕ) → IsUtf8 (hex8 n)
hex_text n =
    let digits : IsAscii lower_digits =
    IsAscii-from_reads lower_digits 16 (lit≤ tt) (λ k small. rw (same_digit k k small refl) (grind (arith, nat_tests))) in
    IsUtf8-from_ascii (hex8 n) (subst IsAscii (hex_of_bytes n) (IsAscii-encode_with lower_digits (to_be_bytes w32 n) digits))
