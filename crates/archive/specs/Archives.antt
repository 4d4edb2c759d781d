-- What an archive stands for. Assumes nothing.
use Rattle.std.specs.Prelude.{◌≡◌, ℕ, ◌-◌, List, reverse, take, drop, vec_items, vec_len, vec_capacity}
use Rattle.archive.specs.Volumes.{Volume, links, volumes}
use Rattle.archive.specs.declared.Archive.{Archive}
use Rattle.archive.specs.declared.types.Entry.{Entry}

module _ (a : Archive) where
  abbrev pub entries_of : List Entry
  entries_of = reverse (vec_items a.entries)

  -- how many entries are in no version
  abbrev pub loose : ℕ
  loose = vec_len a.entries - a.sealed

  -- the entries that are in no version yet: those of an open group
  abbrev pub open_entries : List Entry
  open_entries = take loose entries_of

  -- the versions, with their entries
  abbrev pub volumes_of : List Volume
  volumes_of = volumes a.chapters.root.favoured (reverse (vec_items a.chapters.later)) (drop loose entries_of)

  -- the links of the versions
  abbrev pub links_of : List ℕ
  links_of = links a.chapters.root.link (reverse (vec_items a.chapters.later))

-- all but the entries is the same, and how much there is room for
pub record SameVersions (before after : Archive) : Type 0 where
  pub volumes : volumes_of after ≡ volumes_of before
  pub chapters : after.chapters ≡ before.chapters
  pub sealed : after.sealed ≡ before.sealed
  pub capacity : vec_capacity after.entries ≡ vec_capacity before.entries

-- all but the versions' favoured children and links is the same
pub record SameEntries (before after : Archive) : Type 0 where
  pub entries : after.entries ≡ before.entries
  pub open_entries : open_entries after ≡ open_entries before
  pub runs : after.runs ≡ before.runs
  pub capacity : vec_capacity after.chapters.later ≡ vec_capacity before.chapters.later
