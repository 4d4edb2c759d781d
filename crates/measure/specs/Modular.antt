-- One product and one term modulo m: a factor may be reduced first. Assumes nothing.
use Rattle.std.specs.Prelude.{◌≡◌, ℕ, ◌+◌, ◌*◌, ◌%◌}
use Rattle.std.proofs.Math.Nat.{mod-add-mod}
use Rattle.std.proofs.lemmas.Nat.{mul-mod_first, mul-mod_second}

pub mod_left_add : (a b c m : ℕ) → (a % m * b + c) % m ≡ (a * b + c) % m
mod_left_add a b c m = rw (← mod-add-mod (a % m * b) m c, mul-mod_first, mod-add-mod)

pub mod_right_add : (a b c m : ℕ) → (a * (b % m) + c) % m ≡ (a * b + c) % m
mod_right_add a b c m = rw (← mod-add-mod (a * (b % m)) m c, mul-mod_second, mod-add-mod)
