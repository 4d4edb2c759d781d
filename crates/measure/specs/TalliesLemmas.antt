-- The laws of tallies. Assumes nothing.
use Rattle.std.specs.Prelude.{◌≡◌, ◌^◌, ◌<◌}
use Rattle.std.proofs.Common.{add_assoc, arith}
use mathlib.Core.HLevel.{is_prop→PathP}
use Rattle.std.proofs.Math.Bridge.{le_prop}
use Rattle.std.proofs.Math.Nat.{mod-add-mod, add-mod-mod}
use Rattle.measure.specs.Tallies.{none_typed, typed_joined}
use Rattle.measure.specs.Totals.{Monoid}
use Rattle.measure.specs.declared.tally.Tally.{Tally}

-- a tally is its count
pub same_tally : (x y : Tally) → x.count ≡ y.count → x ≡ y
same_tally x y e =
    λ i. record {
      count = e i;
      modular = is_prop→PathP (λ j. e j < 2 ^ 32) (λ j. le_prop) x.modular y.modular i;
    }

pub typed_monoid : Monoid none_typed typed_joined
typed_monoid = record {
  associative = λ x y z. same_tally _ _ (simp (mod-add-mod, add-mod-mod, add_assoc));
  neutral_left = λ x. same_tally _ _ (omega arith);
  neutral_right = λ x. same_tally _ _ (omega arith);
}
