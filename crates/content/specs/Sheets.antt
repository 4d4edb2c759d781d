-- What a text with its marks stands for, and when a step can be made and taken back. Assumes nothing.
use Rattle.std.specs.Prelude.{◌≡◌, ℕ, ◌+◌, ◌^◌, ◌<◌, ◌≤◌, List, [], ◌++◌, length, take, drop}
use Rattle.element.specs.declared.Element.{Ghosts as Elements}
use Rattle.measure.specs.declared.Measure.{Ghosts as Measures}
use Rattle.measure.specs.declared.Total.{Ghosts as Totals}
use Rattle.ledger.specs.Legal.{Fit}
use Rattle.ledger.specs.Places.{elements_at, pieces_of}
use Rattle.ledger.specs.Steps.{Content, apply}
use Rattle.ledger.specs.declared.words.Piece.{Piece}
use Rattle.ledger.specs.declared.words.Place.{Place}
use Rattle.ledger.specs.declared.words.Step.{Step}
use Rattle.ledger.specs.declared.words.Step.TheVariants.{Insert, Delete, SetMark, DropMark}
use Rattle.marks.specs.Bounds.{Inside}
use Rattle.marks.specs.Tables.{marks_of}
use Rattle.marks.specs.declared.table.Marks.{Marks}
use Rattle.pieces.specs.Spread.{spelled}
use Rattle.text.specs.Texts.{added_of, original_of, text_places}
use Rattle.text.specs.declared.Text.{Text}
use Rattle.content.specs.declared.Sheet.{Sheet}

-- the runs that a step keeps: a delete, the pieces of the part that it removes
abbrev pub kept_runs : Step → Content → List Piece
kept_runs (Insert x n start) c = []
kept_runs (Delete x n) c = pieces_of (take n (drop x c.places))
kept_runs (SetMark name mark) c = []
kept_runs (DropMark name) c = []

-- the places before a step, out of those behind it and the runs that it kept
abbrev pub taken_back : Step → List Piece → List Place → List Place
taken_back (Insert x n start) runs ps = take x ps ++ drop (x + n) ps
taken_back (Delete x n) runs ps = take x ps ++ (spelled runs ++ drop x ps)
taken_back (SetMark name mark) runs ps = ps
taken_back (DropMark name) runs ps = ps

-- over any elements and any measure of them
module _ {E T : Type 0} {e : Elements E} {m : Measures T E} {total : Totals T} where
  -- kept runs are the pieces of places that are in their sources, and the text has room for them
  pub record Replaceable (x : ℕ) (runs : List Piece) (t : Text E T e m total) : Type 0 where
    pub some : 0 < length runs
    pub longest : runs ≡ pieces_of (spelled runs)
    pub inside : length (elements_at (original_of t) (added_of t) (spelled runs)) ≡ length (spelled runs)
    pub within : x ≤ length (text_places t)
    pub short : length (text_places t) + length (spelled runs) ≤ 2 ^ 24

  -- the text has the part that an insert put in, or room for the one that a delete took out
  abbrev pub Restorable : Step → List Piece → Text E T e m total → Type 0
  Restorable (Insert x n start) runs t = (0 < n) × (x + n ≤ length (text_places t))
  Restorable (Delete x n) runs t = Replaceable x runs t
  Restorable (SetMark name mark) runs t = Unit {0}
  Restorable (DropMark name) runs t = Unit {0}

  -- the places of a text, and its marks
  abbrev pub content_of : Sheet E T e m total → Content
  content_of s = record { places = text_places s.text; marks = marks_of s.marks }

  -- what an insert puts in is in the added source, and the text does not get too long
  abbrev pub Sourced : Step → Sheet E T e m total → Type 0
  Sourced (Insert x n start) s = (start + n ≤ length (added_of s.text)) × (length (text_places s.text) + n ≤ 2 ^ 24)
  Sourced (Delete x n) s = Unit {0}
  Sourced (SetMark name mark) s = Unit {0}
  Sourced (DropMark name) s = Unit {0}

  -- a step can be made: it fits, and leaves no more pieces than there may be
  pub record Doable (step : Step) (s : Sheet E T e m total) : Type 0 where
    pub fit : Fit step (content_of s)
    pub sourced : Sourced step s
    pub few : length (pieces_of (apply step (content_of s)).places) ≤ s.text.limit

  -- a step was made out of the content `before`, and its marks and kept runs are given
  pub record MadeOf (step : Step) (marks : Marks) (runs : List Piece) (s : Sheet E T e m total) (before : Content) : Type 0 where
    pub fit : Fit step before
    pub made : content_of s ≡ apply step before
    pub marks_are : marks_of marks ≡ before.marks
    pub runs_are : runs ≡ kept_runs step before

  -- a step can be taken back: there is a content that it was made out of, which was within bounds
  pub record Undoable (step : Step) (marks : Marks) (runs : List Piece) (s : Sheet E T e m total) : Type 0 where
    pub before : Content
    pub made_of : MadeOf step marks runs s before
    pub inside : Inside before
    pub whole : length (elements_at (original_of s.text) (added_of s.text) before.places) ≡ length before.places
    pub short : length before.places ≤ 2 ^ 24
    pub few : length (pieces_of before.places) ≤ s.text.limit
