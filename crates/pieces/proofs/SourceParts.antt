-- Parts of sources. Assumes nothing.
use Rattle.std.proofs.Common.{◌≡◌, ℕ, ◌+◌, List, ◌++◌, take, drop, ap, ◌∙◌, drop-drop, take-add}
use Rattle.ledger.specs.Places.{place, source_list}
use Rattle.ledger.specs.declared.words.Place.{Place}
use Rattle.pieces.specs.Faithful.{source_part}

-- a part of a source that goes on where another ends
pub part_append : {E : Type 0} (original added : List E) (first : Place) (n m : ℕ) → source_part original added first (n + m) ≡ source_part original added first n ++ source_part original added (place first.source (first.index + n)) m
part_append original added first n m =
    let source = source_list original added first.source in
    take-add n m (drop first.index source) ∙ ap (λ xs. take n (drop first.index source) ++ take m xs) (drop-drop n first.index source)
