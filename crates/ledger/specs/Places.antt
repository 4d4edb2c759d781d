-- Where the elements of a text are kept, and the pieces of a text. Assumes nothing.
use Rattle.std.specs.Prelude.{ℕ, zero, suc, Bool, true, false, cond, ◌&&◌, List, [], ◌∷◌, ◌++◌, take, drop, ◌==◌}
use Rattle.ledger.specs.declared.words.Piece.{Piece}
use Rattle.ledger.specs.declared.words.Place.{Place}
use Rattle.ledger.specs.declared.words.Source.{Source}
use Rattle.ledger.specs.declared.words.Source.TheVariants.{Original, Added}

abbrev pub place : Source → ℕ → Place
place source index = record { source = source; index = index }

-- `length` places of one source, from `start` on
abbrev pub stretch : Source → ℕ → ℕ → List Place
stretch source start zero = []
stretch source start (suc length) = place source start ∷ stretch source (suc start) length

abbrev pub same_source : Source → Source → Bool
same_source Original Original = true
same_source Original Added = false
same_source Added Original = false
same_source Added Added = true

abbrev pub piece : Source → ℕ → ℕ → Piece
piece source start length = record { source = source; start = start; length = length }

-- a place before some pieces: the first piece begins with it where it goes on from it
abbrev pub before_pieces : Place → List Piece → List Piece
before_pieces p [] = piece p.source p.index 1 ∷ []
before_pieces p (first ∷ more) =
    cond (same_source p.source first.source && suc p.index == first.start)
    (piece p.source p.index (suc first.length) ∷ more)
    (piece p.source p.index 1 ∷ first ∷ more)

-- the pieces of a text: its longest stretches of places in one source with indexes rising by one
abbrev pub pieces_of : List Place → List Piece
pieces_of [] = []
pieces_of (p ∷ ps) = before_pieces p (pieces_of ps)

-- the source that a name of a source stands for
abbrev pub source_list : {E : Type 0} → List E → List E → Source → List E
source_list original added Original = original
source_list original added Added = added

-- the elements at some places
abbrev pub elements_at : {E : Type 0} → List E → List E → List Place → List E
elements_at original added [] = []
elements_at original added (p ∷ ps) = take 1 (drop p.index (source_list original added p.source)) ++ elements_at original added ps
