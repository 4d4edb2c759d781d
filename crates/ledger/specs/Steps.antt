-- What steps make of a text and its marks. Assumes nothing.
use Rattle.std.specs.Prelude.{ℕ, ◌+◌, ◌-◌, Bool, true, false, cond, ◌&&◌, ◌||◌, List, [], ◌∷◌, ◌++◌, map, length, take, drop, replicate, Some, None, Option, ◌==◌, nat_le, nat_lt, slice_index_or, slice_set}
use Rattle.std.specs.Option.{option_map}
use Rattle.ledger.specs.Places.{stretch, pieces_of}
use Rattle.ledger.specs.declared.words.Gravity.{Gravity}
use Rattle.ledger.specs.declared.words.Gravity.TheVariants.{Left, Right}
use Rattle.ledger.specs.declared.words.Mark.{Mark}
use Rattle.ledger.specs.declared.words.Place.{Place}
use Rattle.ledger.specs.declared.words.Source.TheVariants.{Original, Added}
use Rattle.ledger.specs.declared.words.Step.{Step}
use Rattle.ledger.specs.declared.words.Step.TheVariants.{Insert, Delete, SetMark, DropMark}

-- the places of a text, and its marks by name, from a to z
pub record Content : Type 0 where
  pub places : List Place
  pub marks : List (Option Mark)

abbrev pub mark : ℕ → Gravity → Mark
mark offset gravity = record { offset = record { 0 = offset }; gravity = gravity }

-- the mark of a name
abbrev pub mark_of : ℕ → List (Option Mark) → Option Mark
mark_of name marks = slice_index_or marks (name - 97) None

abbrev pub is_right : Gravity → Bool
is_right Left = false
is_right Right = true

-- an insert of n at x moves a mark behind x, and one at x whose gravity is right
abbrev pub shifted : ℕ → ℕ → Mark → Mark
shifted x n m =
    let q : ℕ = m.offset.0 in
    mark (cond (nat_lt x q || (q == x && is_right m.gravity)) (q + n) q) m.gravity

-- a delete of n at x leaves a mark up to x, sends one inside the part to x, and moves one behind the part
abbrev pub pulled : ℕ → ℕ → Mark → Mark
pulled x n m =
    let q : ℕ = m.offset.0 in
    mark (cond (nat_le q x) q (cond (nat_lt q (x + n)) x (q - n))) m.gravity

-- one step
abbrev pub apply : Step → Content → Content
apply (Insert x n start) c = record {
  places = take x c.places ++ (stretch Added start n ++ drop x c.places);
  marks = map (option_map (shifted x n)) c.marks;
}
apply (Delete x n) c = record {
  places = take x c.places ++ drop (x + n) c.places;
  marks = map (option_map (pulled x n)) c.marks;
}
apply (SetMark name m) c = record { places = c.places; marks = slice_set c.marks (name - 97) (Some m) }
apply (DropMark name) c = record { places = c.places; marks = slice_set c.marks (name - 97) None }

-- an original of n elements, which has no marks
abbrev pub untouched : ℕ → Content
untouched n = record { places = stretch Original 0 n; marks = replicate 26 None }

-- what some steps make of an original of n elements; the newest step comes first
abbrev pub replay : ℕ → List Step → Content
replay n [] = untouched n
replay n (step ∷ before) = apply step (replay n before)

-- how many elements a step adds
abbrev pub added_by : Step → ℕ
added_by (Insert x n start) = n
added_by (Delete x n) = 0
added_by (SetMark name m) = 0
added_by (DropMark name) = 0

-- how many runs a step keeps: a delete, the pieces of the part that it removes
abbrev pub kept_by : Step → Content → ℕ
kept_by (Insert x n start) c = 0
kept_by (Delete x n) c = length (pieces_of (take n (drop x c.places)))
kept_by (SetMark name m) c = 0
kept_by (DropMark name) c = 0

-- the elements that some steps add
abbrev pub all_added : List Step → ℕ
all_added [] = 0
all_added (step ∷ before) = added_by step + all_added before

-- the runs that some steps keep, made one after the other behind the steps `base`
abbrev pub all_kept : ℕ → List Step → List Step → ℕ
all_kept n base [] = 0
all_kept n base (step ∷ before) = kept_by step (replay n (before ++ base)) + all_kept n base before
