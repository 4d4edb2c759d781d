-- Tallies: how many elements have a hand above 0, modulo 2^32. Assumes nothing.
use Rattle.std.specs.Prelude.{ℕ, ◌+◌, ◌%◌, ◌^◌, if◌then◌else◌, nat_lt}
use Rattle.std.proofs.Common.{lit<}
use Rattle.std.proofs.lemmas.Nat.{mod_below}
use Rattle.measure.specs.declared.tally.Tally.{Tally}

abbrev pub tally : ℕ → Tally
tally count = record { count = count % 2 ^ 32; modular = mod_below count (2 ^ 32) (lit< tt) }

abbrev pub none_typed : Tally
none_typed = tally 0

abbrev pub one_typed : ℕ → Tally
one_typed hand = tally (if nat_lt 0 hand then 1 else 0)

abbrev pub typed_joined : Tally → Tally → Tally
typed_joined x y = tally (x.count + y.count)
