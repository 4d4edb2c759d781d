-- A hand is its number: two hands with the same number are the same hand. Assumes nothing.
use Rattle.std.proofs.Common.{◌≡◌, ◌≤◌}
use mathlib.Core.HLevel.{is_prop→PathP}
use native.Mathlib.Bridge.{le_prop}
use Rattle.element.specs.declared.hand.Hand.{Hand}

pub same_hand : (x y : Hand) → x.value ≡ y.value → x ≡ y
same_hand x y e =
    λ i. record {
      value = e i;
      small = is_prop→PathP (λ j. e j ≤ 15) (λ j. le_prop) x.small y.small i;
    }
