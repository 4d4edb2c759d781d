-- What stands in every ledger that calls can reach, and what it means that a call takes another back. Assumes nothing.
use Rattle.std.specs.Prelude.{◌≡◌, ℕ, ◌+◌, ◌<◌, ◌≤◌, max, Bool, true, cond, List, [], ◌∷◌, ◌++◌, length, is_some, Some, None, Option, ◌==◌}
use Rattle.ledger.specs.Calls.{Call, denial, run, favoured_child, parent_or_zero}
use Rattle.ledger.specs.History.{Version, version_at, story, added_made}
use Rattle.ledger.specs.Laws.{TakenBack}
use Rattle.ledger.specs.Ledgers.{Ledger, steps_open, content, text, added_used, steps_used, runs_used}
use Rattle.ledger.specs.Making.{Room, make}
use Rattle.ledger.specs.Names.{is_name}
use Rattle.ledger.specs.Places.{pieces_of}
use Rattle.ledger.specs.Steps.{Content, replay, mark_of, all_added}
use Rattle.ledger.specs.declared.words.Capacities.{Capacities}
use Rattle.ledger.specs.declared.words.Step.{Step}
use Rattle.ledger.specs.declared.words.Step.TheVariants.{Insert, Delete, SetMark, DropMark}

-- A step fits the text and the marks that it meets: an insert and a delete have elements, all offsets are within the
-- text, a mark has a name from a to z, and one that is dropped is there.
abbrev pub Fit : Step → Content → Type 0
Fit (Insert x n start) c = (0 < n) × (x ≤ length c.places)
Fit (Delete x n) c = (0 < n) × (x + n ≤ length c.places)
Fit (SetMark name m) c = (is_name name ≡ true) × (m.offset.0 ≤ length c.places)
Fit (DropMark name) c = (is_name name ≡ true) × (is_some (mark_of name c.marks) ≡ true)

-- how many pieces the text has that some steps make of an original of n elements
abbrev pub pieces_made : ℕ → List Step → ℕ
pieces_made n steps = length (pieces_of (replay n steps).places)

-- Of steps made one after the other behind the steps `base`, each fits what it meets, and leaves a text of at most
-- `most` pieces.
abbrev pub Fitting : ℕ → ℕ → List Step → List Step → Type 0
Fitting n most [] base = Unit {0}
Fitting n most (step ∷ before) base =
    Fit step (replay n (before ++ base)) × (pieces_made n (step ∷ (before ++ base)) ≤ most) × Fitting n most before base

-- Version 0, behind which there is none, has no steps. Every other version has a parent among the older ones, and steps
-- that fit the parent's text.
abbrev pub Made : ℕ → ℕ → Version → List Version → Type 0
Made n most v [] = v.steps ≡ []
Made n most v (w ∷ older) =
    (v.parent < length (w ∷ older)) × Fitting n most v.steps (story v.parent (w ∷ older))

-- every version is made so, over an original of n elements and with at most `most` pieces
abbrev pub Sound : ℕ → ℕ → List Version → Type 0
Sound n most [] = Unit {0}
Sound n most (v ∷ older) = Made n most v older × Sound n most older

-- the elements of an insert stand in the added source from `used` on
abbrev pub StartsAt : ℕ → Step → Type 0
StartsAt used (Insert x n start) = start ≡ used
StartsAt used (Delete x n) = Unit {0}
StartsAt used (SetMark name m) = Unit {0}
StartsAt used (DropMark name) = Unit {0}

-- Of steps made one after the other behind `used` added elements, the elements of each insert stand right behind all
-- that were added before.
abbrev pub Placed : ℕ → List Step → Type 0
Placed used [] = Unit {0}
Placed used (step ∷ before) = StartsAt (all_added before + used) step × Placed used before

-- so in every version; the older ones added before it
abbrev pub AllPlaced : List Version → Type 0
AllPlaced [] = Unit {0}
AllPlaced (v ∷ older) = Placed (added_made older) v.steps × AllPlaced older

-- the numbers of the versions on the path from version k down to version 0, k first
abbrev pub path_to : ℕ → List Version → List ℕ
path_to k [] = []
path_to k (v ∷ older) = cond (k == length older) (k ∷ path_to v.parent older) (path_to k older)

-- the first of some numbers, where there is one, is a version that favours `child`
abbrev pub FavouredBy : List Version → ℕ → List ℕ → Type 0
FavouredBy versions child [] = Unit {0}
FavouredBy versions child (parent ∷ more) = favoured_child (version_at parent versions) ≡ Some child

-- along a path, each version is the favoured child of the next one
abbrev pub Followed : List Version → List ℕ → Type 0
Followed versions [] = Unit {0}
Followed versions (child ∷ more) = FavouredBy versions child more × Followed versions more

-- version `child` was made out of version `parent`
abbrev pub Child : List Version → ℕ → ℕ → Type 0
Child versions parent child =
    (parent < child) × (child < length versions) × (parent_or_zero (version_at child versions) ≡ parent)

-- where there is a number, it has the property
abbrev pub If : Option ℕ → (ℕ → Type 0) → Type 0
If None Holds = Unit {0}
If (Some k) Holds = Holds k

-- the favoured child of each version, where it has one, is a child in the sense of `IsChild`
abbrev pub Favours : (ℕ → ℕ → Type 0) → List Version → Type 0
Favours IsChild [] = Unit {0}
Favours IsChild (v ∷ older) = If v.favoured (IsChild (length older)) × Favours IsChild older

-- the version that an open group may become
abbrev pub to_come : Option (List Step) → ℕ
to_come None = 0
to_come (Some steps) = 1

pub record Legal {E : Type 0} (l : Ledger E) : Type 0 where
  -- the original alone is within the capacity for pieces
  pub original : pieces_made (length l.original) [] ≤ l.capacities.pieces
  -- each version has a parent older than itself, its steps fit, and so does each text on the way
  pub sound : Sound (length l.original) l.capacities.pieces l.versions
  -- the current version is one that was made
  pub current : l.current < length l.versions
  -- the open group's steps fit the current version's text, and so does each text on the way
  pub group : Fitting (length l.original) l.capacities.pieces (steps_open l.group) (story l.current l.versions)
  -- on the path to the current version each version is the favoured child of its parent
  pub followed : Followed l.versions (path_to l.current l.versions)
  -- a favoured child is a version that was made out of the one that favours it
  pub favoured : Favours (Child l.versions) l.versions
  -- the added source holds what the steps of all versions and of the open group added
  pub added : length l.added ≡ added_used l
  -- the elements of each insert stand there right behind all that were added before
  pub placed : AllPlaced l.versions
  pub group_placed : Placed (added_made l.versions) (steps_open l.group)
  -- each place of the present text is in its source, so that the text has an element for it
  pub whole : length (text l) ≡ length (content l).places
  -- no capacity is passed; version 0 is always there, and an open group has room to become a version
  pub added_within : added_used l ≤ l.capacities.added
  pub steps_within : steps_used l ≤ l.capacities.steps
  pub runs_within : runs_used l ≤ l.capacities.runs
  pub versions_within : length l.versions + to_come l.group ≤ max 1 l.capacities.versions

-- every ledger that calls reach from a new one is legal
abbrev pub AlwaysLegal : {E : Type 0} → (E → Bool) → Type 0
AlwaysLegal {E} breaks =
    (original : List E) (capacities : Capacities) (room : Room) (calls : List (Call E))
    → Legal (run breaks (make original capacities room) calls)

-- the second call takes the first back, in every ledger that calls reach from a new one, where the first is accepted
abbrev pub TakesBack : {E : Type 0} → (E → Bool) → Call E → Call E → Type 0
TakesBack {E} breaks first second =
    (original : List E) (capacities : Capacities) (room : Room) (calls : List (Call E))
    → denial breaks (run breaks (make original capacities room) calls) first ≡ None
    → TakenBack breaks (run breaks (make original capacities room) calls) first second
