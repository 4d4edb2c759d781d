-- The names of marks. Assumes nothing.
use Rattle.std.specs.Prelude.{ℕ, Bool, ◌&&◌, nat_le}

-- a byte from a (97) to z (122)
abbrev pub is_name : ℕ → Bool
is_name byte = nat_le 97 byte && nat_le byte 122
