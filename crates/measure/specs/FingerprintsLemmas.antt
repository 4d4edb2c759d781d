-- The laws of fingerprints. Assumes nothing.
use Rattle.std.specs.Prelude.{◌≡◌, ◌^◌, ◌<◌}
use Rattle.std.proofs.Common.{mul_assoc, add-mul, add_assoc, arith}
use mathlib.Core.HLevel.{is_prop→PathP}
use Rattle.std.proofs.Math.Bridge.{le_prop}
use Rattle.std.proofs.Math.Nat.{add-mod-mod}
use Rattle.std.proofs.lemmas.Nat.{mul-mod_first, mul-mod_second}
use Rattle.measure.specs.Fingerprints.{no_bytes, bytes_joined}
use Rattle.measure.specs.Totals.{Monoid}
use Rattle.measure.specs.declared.fingerprint.Fingerprint.{Fingerprint}
use Rattle.measure.specs.Modular.{mod_left_add, mod_right_add}

-- a fingerprint is its power and its value
pub same_fingerprint : (x y : Fingerprint) → x.power ≡ y.power → x.value ≡ y.value → x ≡ y
same_fingerprint x y p v =
    λ i. record {
      power = p i;
      value = v i;
      power_modular = is_prop→PathP (λ j. p j < 2 ^ 32) (λ j. le_prop) x.power_modular y.power_modular i;
      value_modular = is_prop→PathP (λ j. v j < 2 ^ 32) (λ j. le_prop) x.value_modular y.value_modular i;
    }

bytes_assoc : (x y z : Fingerprint) → bytes_joined (bytes_joined x y) z ≡ bytes_joined x (bytes_joined y z)
bytes_assoc x y z =
    same_fingerprint _ _
    (simp (mul-mod_first, mul-mod_second, mul_assoc))
    (simp (mod_left_add, mod_right_add, add-mod-mod, add-mul, mul_assoc, add_assoc))

pub bytes_monoid : Monoid no_bytes bytes_joined
bytes_monoid = record {
  associative = bytes_assoc;
  neutral_left = λ x. same_fingerprint _ _ (omega arith) (omega arith);
  neutral_right = λ x. same_fingerprint _ _ (omega arith) (omega arith);
}
