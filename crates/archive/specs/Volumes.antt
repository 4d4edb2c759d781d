-- What the records of a history stand for: versions with their entries. All lists are newest first. Assumes nothing.
use Rattle.std.specs.Prelude.{◌≡◌, ℕ, ◌+◌, cond, List, [], ◌∷◌, map, length, take, drop, Some, None, Option, ◌==◌}
use Rattle.ledger.specs.History.{Version, version}
use Rattle.ledger.specs.declared.words.Step.{Step}
use Rattle.archive.specs.declared.types.Chapter.{Chapter}
use Rattle.archive.specs.declared.types.Entry.{Entry}

-- a version with the entries of its steps
pub record Volume : Type 0 where
  pub parent : ℕ
  pub favoured : Option ℕ
  pub entries : List Entry

abbrev pub volume : ℕ → Option ℕ → List Entry → Volume
volume parent favoured entries = record { parent = parent; favoured = favoured; entries = entries }

abbrev pub steps_of : List Entry → List Step
steps_of = map (λ e. e.step)

-- the version that a volume is
abbrev pub version_of : Volume → Version
version_of v = version v.parent v.favoured (steps_of v.entries)

-- A chapter has the next `count` entries. Behind all chapters there is version 0, which has none.
abbrev pub volumes : Option ℕ → List Chapter → List Entry → List Volume
volumes root [] entries = volume 0 root [] ∷ []
volumes root (c ∷ older) entries =
    volume c.parent c.favoured (take c.count entries) ∷ volumes root older (drop c.count entries)

-- the volume of a number: that of the volumes behind it
abbrev pub volume_at : ℕ → List Volume → Option Volume
volume_at k [] = None
volume_at k (v ∷ older) = cond (k == length older) (Some v) (volume_at k older)

abbrev pub parent_in : Option Volume → ℕ
parent_in None = 0
parent_in (Some v) = v.parent

abbrev pub favoured_in : Option Volume → Option ℕ
favoured_in None = None
favoured_in (Some v) = v.favoured

abbrev pub entries_in : Option Volume → List Entry
entries_in None = []
entries_in (Some v) = v.entries

-- the volumes, where that of a number favours another child
abbrev pub favouring_at : ℕ → ℕ → List Volume → List Volume
favouring_at k child [] = []
favouring_at k child (v ∷ older) =
    cond (k == length older) (volume v.parent (Some child) v.entries ∷ older) (v ∷ favouring_at k child older)

-- Links are listed like volumes, with that of version 0 last. The link of a number:
abbrev pub link_at : ℕ → List ℕ → ℕ
link_at k [] = 0
link_at k (l ∷ older) = cond (k == length older) l (link_at k older)

-- the links, where that of a number is another
abbrev pub linking_at : ℕ → ℕ → List ℕ → List ℕ
linking_at k next [] = []
linking_at k next (l ∷ older) = cond (k == length older) (next ∷ older) (l ∷ linking_at k next older)

abbrev pub links : ℕ → List Chapter → List ℕ
links root [] = root ∷ []
links root (c ∷ older) = c.link ∷ links root older

-- the entries of each chapter stand right behind those of the chapter before, n in all
abbrev pub Filed : List Chapter → ℕ → Type 0
Filed [] n = n ≡ 0
Filed (c ∷ older) n = (c.first + c.count ≡ n) × Filed older c.first

-- the runs of each entry stand right behind those of the entry before, n in all
abbrev pub Stored : List Entry → ℕ → Type 0
Stored [] n = n ≡ 0
Stored (e ∷ older) n = (e.first + e.kept ≡ n) × Stored older e.first
