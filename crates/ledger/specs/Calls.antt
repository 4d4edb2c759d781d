-- The calls, what denies each of them, and what an accepted one does to the ledger. Assumes nothing.
use Rattle.std.specs.Prelude.{ℕ, ◌+◌, ◌-◌, Bool, true, false, cond, not, ◌||◌, List, [], ◌∷◌, ◌++◌, length, take, is_some, Some, None, Option, ◌==◌, nat_le, nat_lt}
use Rattle.element.specs.Lines.{lines}
use Rattle.ledger.specs.History.{Version, version, version_at, along}
use Rattle.ledger.specs.Ledgers.{Ledger, steps_open, is_open, content, text, added_used, steps_used, runs_used}
use Rattle.ledger.specs.Names.{is_name}
use Rattle.ledger.specs.Places.{pieces_of}
use Rattle.ledger.specs.Steps.{apply, added_by, all_added, kept_by, mark, mark_of}
use Rattle.ledger.specs.declared.denial.Denial.{Denial}
use Rattle.ledger.specs.declared.denial.Denial.TheVariants.{PastTheText, Nothing, AddedFull, PiecesFull, StepsFull, RunsFull, VersionsFull, AtVersionZero, NoChild, NoVersion, NoStep, MarkNotSet, NoMarkName, NoLine, GroupOpen, NoGroup}
use Rattle.ledger.specs.declared.words.Gravity.{Gravity}
use Rattle.ledger.specs.declared.words.Step.{Step}
use Rattle.ledger.specs.declared.words.Step.TheVariants.{Insert, Delete, SetMark, DropMark}

-- A question changes nothing. Offsets and versions count from 0, lines from 1; a name is a byte.
pub data Question : Type 0 where
  text_length : Question
  element_at : ℕ → Question
  mark_named : ℕ → Question
  line_count : Question
  line_numbered : ℕ → Question
  line_holding : ℕ → Question
  -- of the part from an offset up to another, which is left out
  part_total : ℕ → ℕ → Question
  piece_count : Question
  tree_depth : Question
  added_count : Question
  step_count : Question
  run_count : Question
  current_version : Question
  highest_version : Question
  parent_of : ℕ → Question
  favoured_of : ℕ → Question
  steps_of : ℕ → Question

pub data Call (E : Type 0) : Type 0 where
  opening : Call E
  closing : Call E
  cancelling : Call E
  -- elements behind the first so many
  inserting : ℕ → List E → Call E
  -- from an offset, so many elements
  deleting : ℕ → ℕ → Call E
  setting : ℕ → ℕ → Gravity → Call E
  dropping : ℕ → Call E
  retracting : Call E
  undoing : Call E
  redoing : Call E
  jumping : ℕ → Call E
  asking : Question → Call E

-- A table of conditions, in the order in which they are tested: the first that holds denies the call.
abbrev pub first_held : List (Bool × Denial) → Option Denial
first_held [] = None
first_held (test ∷ more) = cond test.0 (Some test.1) (first_held more)

abbrev pub favoured_child : Option Version → Option ℕ
favoured_child None = None
favoured_child (Some v) = v.favoured

abbrev pub parent_or_zero : Option Version → ℕ
parent_or_zero None = 0
parent_or_zero (Some v) = v.parent

abbrev pub has_no_step : Option (List Step) → Bool
has_no_step None = true
has_no_step (Some []) = true
has_no_step (Some (step ∷ before)) = false

module _ {E : Type 0} (breaks : E → Bool) (l : Ledger E) where
  -- the step that an insert makes: its elements stand at the end of the added source
  abbrev pub insert_step : ℕ → List E → Step
  insert_step x new = Insert x (length new) (length l.added)

  -- how many pieces the text has after a step
  abbrev pub pieces_after : Step → ℕ
  pieces_after step = length (pieces_of (apply step (content l)).places)

  abbrev pub text_size : ℕ
  text_size = length (content l).places

  -- what denies a question
  abbrev pub asking_tests : Question → List (Bool × Denial)
  asking_tests text_length = []
  asking_tests (element_at x) = (nat_le text_size x, PastTheText) ∷ []
  asking_tests (mark_named name) = (not (is_name name), NoMarkName) ∷ (not (is_some (mark_of name (content l).marks)), MarkNotSet) ∷ []
  asking_tests line_count = []
  asking_tests (line_numbered k) = (k == 0 || nat_lt (length (lines breaks (text l))) k, NoLine) ∷ []
  asking_tests (line_holding x) = (nat_le text_size x, PastTheText) ∷ []
  asking_tests (part_total x y) = (nat_lt y x || nat_lt text_size y, PastTheText) ∷ []
  asking_tests piece_count = []
  asking_tests tree_depth = []
  asking_tests added_count = []
  asking_tests step_count = []
  asking_tests run_count = []
  asking_tests current_version = []
  asking_tests highest_version = []
  asking_tests (parent_of k) = (nat_le (length l.versions) k, NoVersion) ∷ []
  asking_tests (favoured_of k) = (nat_le (length l.versions) k, NoVersion) ∷ []
  asking_tests (steps_of k) = (nat_le (length l.versions) k, NoVersion) ∷ []

  -- what denies a call
  abbrev pub tests : Call E → List (Bool × Denial)
  tests opening = (is_open l.group, GroupOpen) ∷ (nat_le l.capacities.versions (length l.versions), VersionsFull) ∷ []
  tests closing = []
  tests cancelling = []
  tests (inserting x new) =
      (not (is_open l.group), NoGroup)
      ∷ (length new == 0, Nothing)
      ∷ (nat_lt text_size x, PastTheText)
      ∷ (nat_le l.capacities.steps (steps_used l), StepsFull)
      ∷ (nat_lt l.capacities.added (added_used l + length new), AddedFull)
      ∷ (nat_lt l.capacities.pieces (pieces_after (insert_step x new)), PiecesFull)
      ∷ []
  tests (deleting x n) =
      (not (is_open l.group), NoGroup)
      ∷ (n == 0, Nothing)
      ∷ (nat_lt text_size (x + n), PastTheText)
      ∷ (nat_le l.capacities.steps (steps_used l), StepsFull)
      ∷ (nat_lt l.capacities.runs (runs_used l + kept_by (Delete x n) (content l)), RunsFull)
      ∷ (nat_lt l.capacities.pieces (pieces_after (Delete x n)), PiecesFull)
      ∷ []
  tests (setting name x gravity) =
      (not (is_open l.group), NoGroup)
      ∷ (not (is_name name), NoMarkName)
      ∷ (nat_lt text_size x, PastTheText)
      ∷ (nat_le l.capacities.steps (steps_used l), StepsFull)
      ∷ []
  tests (dropping name) =
      (not (is_open l.group), NoGroup)
      ∷ (not (is_name name), NoMarkName)
      ∷ (not (is_some (mark_of name (content l).marks)), MarkNotSet)
      ∷ (nat_le l.capacities.steps (steps_used l), StepsFull)
      ∷ []
  tests retracting = (not (is_open l.group), NoGroup) ∷ (has_no_step l.group, NoStep) ∷ []
  tests undoing = (is_open l.group, GroupOpen) ∷ (l.current == 0, AtVersionZero) ∷ []
  tests redoing = (is_open l.group, GroupOpen) ∷ (not (is_some (favoured_child (version_at l.current l.versions))), NoChild) ∷ []
  tests (jumping k) = (is_open l.group, GroupOpen) ∷ (nat_le (length l.versions) k, NoVersion) ∷ []
  tests (asking q) = asking_tests q

  -- the number that denies a call, or none
  abbrev pub denial : Call E → Option Denial
  denial call = first_held (tests call)

module _ {E : Type 0} (l : Ledger E) where
  -- other added elements, and another group
  abbrev pub with_group : List E → Option (List Step) → Ledger E
  with_group added group = record {
    original = l.original;
    capacities = l.capacities;
    added = added;
    versions = l.versions;
    current = l.current;
    group = group;
  }

  -- a step at the end of the open group, with the elements that it adds
  abbrev pub with_step : Step → List E → Ledger E
  with_step step new = with_group (l.added ++ new) (Some (step ∷ steps_open l.group))

  -- the added source without its last n elements
  abbrev pub without_last : ℕ → List E
  without_last n = take (length l.added - n) l.added

  -- version k of some versions made current, with no group open
  abbrev pub at_version : List Version → ℕ → Ledger E
  at_version versions k = record {
    original = l.original;
    capacities = l.capacities;
    added = l.added;
    versions = along k None versions;
    current = k;
    group = None;
  }

  -- the open group's steps, if any, become the next version, a child of the current one
  abbrev pub closed : Option (List Step) → Ledger E
  closed None = l
  closed (Some []) = with_group l.added None
  closed (Some (step ∷ before)) = at_version (version l.current None (step ∷ before) ∷ l.versions) (length l.versions)

  -- the open group is taken out, with what it added
  abbrev pub cancelled : Option (List Step) → Ledger E
  cancelled None = l
  cancelled (Some steps) = with_group (without_last (all_added steps)) None

  -- the open group's last step is taken out, with what it added
  abbrev pub retracted : Option (List Step) → Ledger E
  retracted None = l
  retracted (Some []) = l
  retracted (Some (step ∷ before)) = with_group (without_last (added_by step)) (Some before)

  abbrev pub at_child : Option ℕ → Ledger E
  at_child None = l
  at_child (Some k) = at_version l.versions k

  -- what an accepted call does
  abbrev pub effect : Call E → Ledger E
  effect opening = with_group l.added (Some [])
  effect closing = closed l.group
  effect cancelling = cancelled l.group
  effect (inserting x new) = with_step (Insert x (length new) (length l.added)) new
  effect (deleting x n) = with_step (Delete x n) []
  effect (setting name x gravity) = with_step (SetMark name (mark x gravity)) []
  effect (dropping name) = with_step (DropMark name) []
  effect retracting = retracted l.group
  effect undoing = at_version l.versions (parent_or_zero (version_at l.current l.versions))
  effect redoing = at_child (favoured_child (version_at l.current l.versions))
  effect (jumping k) = at_version l.versions k
  effect (asking q) = l

abbrev pub unless_denied : {E : Type 0} → Option Denial → Ledger E → Ledger E → Ledger E
unless_denied None before after = after
unless_denied (Some d) before after = before

module _ {E : Type 0} (breaks : E → Bool) where
  -- the ledger after a call; a denied one leaves it as it was
  abbrev pub next : Ledger E → Call E → Ledger E
  next l call = unless_denied (denial breaks l call) l (effect l call)

  -- the ledger after some calls
  abbrev pub run : Ledger E → List (Call E) → Ledger E
  run l [] = l
  run l (call ∷ more) = run (next l call) more
