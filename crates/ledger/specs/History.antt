-- Versions: a tree in which each version is made out of its parent by steps. Assumes nothing.
use Rattle.std.specs.Prelude.{ℕ, ◌+◌, cond, List, [], ◌∷◌, ◌++◌, length, Some, None, Option, ◌==◌}
use Rattle.ledger.specs.Steps.{all_added, all_kept}
use Rattle.ledger.specs.declared.words.Step.{Step}

-- The child that redo takes is the favoured one. Version 0 has no parent and no steps.
pub record Version : Type 0 where
  pub parent : ℕ
  pub favoured : Option ℕ
  -- the newest step first
  pub steps : List Step

abbrev pub version : ℕ → Option ℕ → List Step → Version
version parent favoured steps = record { parent = parent; favoured = favoured; steps = steps }

-- Versions are listed newest first, so that a version's number is the number of those behind it in the list.
-- the version of a number
abbrev pub version_at : ℕ → List Version → Option Version
version_at k [] = None
version_at k (v ∷ older) = cond (k == length older) (Some v) (version_at k older)

-- the steps on the path from version 0 to version k, the newest first
abbrev pub story : ℕ → List Version → List Step
story k [] = []
story k (v ∷ older) = cond (k == length older) (v.steps ++ story v.parent older) (story k older)

abbrev pub favouring : Option ℕ → Version → Version
favouring None v = v
favouring (Some child) v = version v.parent (Some child) v.steps

-- each version on the path from version 0 to version k takes the next one there as its favoured child, and the last one
-- `child`, where that is given
abbrev pub along : ℕ → Option ℕ → List Version → List Version
along k child [] = []
along k child (v ∷ older) =
    cond (k == length older) (favouring child v ∷ along v.parent (Some k) older) (v ∷ along k child older)

-- the steps of all versions, counted
abbrev pub steps_made : List Version → ℕ
steps_made [] = 0
steps_made (v ∷ older) = length v.steps + steps_made older

-- the elements that they added
abbrev pub added_made : List Version → ℕ
added_made [] = 0
added_made (v ∷ older) = all_added v.steps + added_made older

-- the runs that they keep, over an original of n elements
abbrev pub kept_made : ℕ → List Version → ℕ
kept_made n [] = 0
kept_made n (v ∷ older) = all_kept n (story v.parent older) v.steps + kept_made n older
