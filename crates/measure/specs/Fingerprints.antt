-- Fingerprints, modulo 2^32. Assumes nothing.
use Rattle.std.specs.Prelude.{ℕ, ◌+◌, ◌*◌, ◌%◌, ◌^◌}
use Rattle.std.proofs.Common.{lit<}
use Rattle.std.proofs.lemmas.Nat.{mod_below}
use Rattle.measure.specs.declared.fingerprint.Fingerprint.{Fingerprint}

-- a power and a value, modulo 2^32
abbrev pub fingerprint : ℕ → ℕ → Fingerprint
fingerprint power value = record {
  power = power % 2 ^ 32;
  value = value % 2 ^ 32;
  power_modular = mod_below power (2 ^ 32) (lit< tt);
  value_modular = mod_below value (2 ^ 32) (lit< tt);
}

abbrev pub no_bytes : Fingerprint
no_bytes = fingerprint 1 0

abbrev pub one_byte : ℕ → Fingerprint
one_byte shown = fingerprint 31 (shown + 1)

-- (p, v) joined with (q, w) is (p · q, v · q + w)
abbrev pub bytes_joined : Fingerprint → Fingerprint → Fingerprint
bytes_joined x y = fingerprint (x.power * y.power) (x.value * y.power + y.value)
