-- The places that spots stand for. Assumes nothing.
use Rattle.std.specs.Prelude.{◌+◌, List, [], ◌∷◌, Some, None, Option}
use Rattle.ledger.specs.Places.{place}
use Rattle.ledger.specs.declared.words.Place.{Place}
use Rattle.reading.specs.declared.ends.Spot.{Spot}

-- the place that a spot stands for, if there is one
abbrev pub spotted : Option Spot → List Place
spotted None = []
spotted (Some spot) = place spot.first.source (spot.first.index + spot.skip) ∷ []
