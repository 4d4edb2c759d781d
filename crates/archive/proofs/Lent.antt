-- What the chapters are with another one for a version. Assumes nothing.
use Rattle.std.proofs.Common.{◌≡◌, ◌≢◌, ℕ, zero, suc, ◌-◌, set, refl, ap, sub-one}
use Rattle.std.specs.Vec.{with_item}
use Rattle.archive.specs.Chapters.{by_number, chapter_of, with_chapter}
use Rattle.archive.specs.declared.chapters.Chapters.{Chapters}
use Rattle.archive.specs.declared.types.Chapter.{Chapter}

-- that of a later version is an item of the vector
pub with_later : (s : Chapters) (k : ℕ) (d : Chapter) → k ≢ 0
    → record s { later = with_item s.later (k - 1) d } ≡ with_chapter s k d
with_later s zero d nonzero = absurd (nonzero refl)
with_later s (suc k) d nonzero = ap (λ i. record s { later = with_item s.later i d }) (sub-one (suc k))

pub by_number-with : (s : Chapters) (k : ℕ) (d : Chapter) → by_number (with_chapter s k d) ≡ set (by_number s) k d
by_number-with s zero d = refl
by_number-with s (suc k) d = refl

-- what the other chapter has in common with the version's, version 0 has as before
pub root_alike : (s : Chapters) (k : ℕ) (d : Chapter) (f : Chapter → ℕ) → f d ≡ f (chapter_of s k)
    → f (with_chapter s k d).root ≡ f s.root
root_alike s zero d f same = same
root_alike s (suc k) d f same = refl
