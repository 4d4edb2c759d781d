-- The chapters of all versions by their numbers, and what becomes of them where one is lent. Assumes nothing.
use Rattle.std.specs.Prelude.{ℕ, zero, suc, List, ◌∷◌, slice_index_or, vec_items}
use Rattle.std.specs.Borrow.{Lends, MutBor, Fml}
use Rattle.std.specs.Vec.{with_item}
use Rattle.archive.specs.declared.chapters.Chapters.{Chapters}
use Rattle.archive.specs.declared.types.Chapter.{Chapter}
use Rattle.archive.specs.contracts.chapters.Chapters.{the_row}
use Rattle.archive.specs.contracts.types.Chapter as chapter

-- version 0 first
abbrev pub by_number : Chapters → List Chapter
by_number s = s.root ∷ vec_items s.later

-- the chapter of a version
abbrev pub chapter_of : Chapters → ℕ → Chapter
chapter_of s k = slice_index_or (by_number s) k s.root

-- with another chapter for a version
abbrev pub with_chapter : Chapters → ℕ → Chapter → Chapters
with_chapter s zero c = record s { root = c }
with_chapter s (suc k) c = record s { later = with_item s.later k c }

-- the chapters end with what is left of the version's behind r
abbrev pub LendsChapter : MutBor Chapters → ℕ → MutBor Chapter → Fml
LendsChapter s k r = Lends the_row chapter.the_row s r (with_chapter s.now k)
