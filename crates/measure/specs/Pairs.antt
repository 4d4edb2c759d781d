-- Two totals side by side. Assumes nothing.
use Rattle.measure.specs.declared.pair.Pair.{Pair}

abbrev pub side_by_side : {A B : Type 0} → A → B → Pair A B
side_by_side x y = record { first = x; second = y }
