-- The ledger: what calls leave behind, kept in the plainest way. Assumes nothing.
use Rattle.std.specs.Prelude.{ℕ, ◌+◌, Bool, true, false, List, [], ◌∷◌, ◌++◌, length, Some, None, Option}
use Rattle.ledger.specs.History.{Version, version, story, steps_made, added_made, kept_made}
use Rattle.ledger.specs.Places.{elements_at}
use Rattle.ledger.specs.Steps.{Content, replay, all_added, all_kept}
use Rattle.ledger.specs.declared.words.Capacities.{Capacities}
use Rattle.ledger.specs.declared.words.Step.{Step}

pub record Ledger (E : Type 0) : Type 0 where
  pub original : List E
  pub capacities : Capacities
  -- the added source
  pub added : List E
  -- the newest version first; version 0 is the last
  pub versions : List Version
  pub current : ℕ
  -- the steps of the open group, the newest first; none where no group is open
  pub group : Option (List Step)

-- a new ledger
abbrev pub begin : {E : Type 0} → List E → Capacities → Ledger E
begin original capacities = record {
  original = original;
  capacities = capacities;
  added = [];
  versions = version 0 None [] ∷ [];
  current = 0;
  group = None;
}

abbrev pub steps_open : Option (List Step) → List Step
steps_open None = []
steps_open (Some steps) = steps

abbrev pub is_open : Option (List Step) → Bool
is_open None = false
is_open (Some steps) = true

module _ {E : Type 0} (l : Ledger E) where
  -- the steps that made the present text: those on the current path, then the open group's
  abbrev pub path : List Step
  path = steps_open l.group ++ story l.current l.versions

  -- the places of the present text, and its marks
  abbrev pub content : Content
  content = replay (length l.original) path

  abbrev pub text : List E
  text = elements_at l.original l.added content.places

  -- what is in use: added elements, steps, kept runs
  abbrev pub added_used : ℕ
  added_used = all_added (steps_open l.group) + added_made l.versions

  abbrev pub steps_used : ℕ
  steps_used = length (steps_open l.group) + steps_made l.versions

  abbrev pub runs_used : ℕ
  runs_used = all_kept (length l.original) (story l.current l.versions) (steps_open l.group) + kept_made (length l.original) l.versions
