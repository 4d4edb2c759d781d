-- The versions of an archive by their numbers, and what another chapter for one of them makes of all. Assumes nothing.
use Rattle.std.proofs.Common.{◌≡◌, ℕ, ◌+◌, ◌<◌, ◌≤◌, List, [], ◌∷◌, ◌++◌, reverse, length, take, drop, map, Option, Some, vec_items, vec_len, sym, ap, ◌∙◌, subst, arith, drop-drop}
use Rattle.std.proofs.lemmas.List.{length-map, length-reverse, length-take, map-append}
use Rattle.std.proofs.Math.Logic.{∥∥₁_elim, ∥∥₁_map}
use Rattle.std.proofs.Math.Nat.{ℕ_set}
use Rattle.archive.specs.Archives.{entries_of, links_of, loose, volumes_of}
use Rattle.archive.specs.Chapters.{by_number, chapter_of, with_chapter}
use Rattle.archive.specs.Volumes.{Volume, entries_in, favouring_at, link_at, linking_at, links, volume, volume_at, volumes, Filed}
use Rattle.archive.specs.declared.Archive.{Archive}
use Rattle.archive.specs.declared.chapters.Chapters.{Chapters}
use Rattle.archive.specs.declared.types.Chapter.{Chapter}
use Rattle.archive.specs.declared.types.Entry.{Entry}
use Rattle.archive.proofs.Lent.{by_number-with, root_alike}
use Rattle.archive.proofs.Numbered.{counts, listed, listed-append, length-listed, volumes-root, links-root, volume_at_number, favouring_at_number, link_at_number, linking_at_number, filed_alike, filed_before}
use Rattle.archive.proofs.Slices.{around, around_set, part_reverse, reverse_around}

-- all chapters, the newest first and that of version 0 last
abbrev all : Chapters → List Chapter
all s = reverse (by_number s)

-- their volumes over the entries of versions, and their links
abbrev volumes_in : Chapters → List Entry → List Volume
volumes_in s = volumes s.root.favoured (reverse (vec_items s.later))

abbrev links_in : Chapters → List ℕ
links_in s = links s.root.link (reverse (vec_items s.later))

abbrev link_in : Chapter → ℕ
link_in c = c.link

module _ (s : Chapters) where
  all_parts : reverse (vec_items s.later) ++ s.root ∷ [] ≡ all s
  all_parts = sym (reverse_around [] s.root (vec_items s.later))

  all_volumes : (es : List Entry) → s.root.parent ≡ 0 → s.root.count ≡ 0 → volumes_in s es ≡ listed (all s) es
  all_volumes es parent count =
      volumes-root s.root (reverse (vec_items s.later)) es parent count ∙ ap (λ cs. listed cs es) all_parts

  all_links : links_in s ≡ map link_in (all s)
  all_links = links-root s.root (reverse (vec_items s.later)) ∙ ap (map link_in) all_parts

-- the volumes and the links, where `c` is one of the chapters
module _ (s : Chapters) (newer : List Chapter) (c : Chapter) (older : List Chapter) (parts : all s ≡ newer ++ c ∷ older) where
  volumes_around : (es : List Entry) → s.root.parent ≡ 0 → s.root.count ≡ 0
      → volumes_in s es ≡ listed newer es ++ listed (c ∷ older) (drop (counts newer) es)
  volumes_around es parent count =
      all_volumes s es parent count ∙ ap (λ cs. listed cs es) parts ∙ listed-append newer (c ∷ older) es

  links_around : links_in s ≡ map link_in newer ++ c.link ∷ map link_in older
  links_around = all_links s ∙ ap (map link_in) parts ∙ map-append link_in newer (c ∷ older)

-- there are as many versions as chapters
pub versions_made : (a : Archive) → length (volumes_of a) ≡ length (by_number a.chapters)
versions_made a =
    let filed = drop (loose a) (entries_of a) in
    ap length (all_volumes a.chapters filed a.own_parent a.no_entries)
    ∙ length-listed (all a.chapters) filed ∙ length-reverse (by_number a.chapters)

-- a version that is made, and its chapter
module _ (a : Archive) (k : ℕ) (made : k < length (volumes_of a)) where
  abbrev chapters : List Chapter
  chapters = by_number a.chapters

  abbrev c : Chapter
  c = chapter_of a.chapters k

  abbrev newer : List Chapter
  newer = reverse (drop (k + 1) chapters)

  abbrev older : List Chapter
  older = reverse (take k chapters)

  -- the entries of versions, and those of this one and the older ones
  abbrev filed : List Entry
  filed = drop (loose a) (entries_of a)

  abbrev rest : List Entry
  rest = drop (counts newer) filed

  -- how many chapters are older
  within : k < length chapters
  within = omega (arith, made, versions_made a)

  number : k ≡ length older
  number = let h = within in omega (arith, h, length-reverse (take k chapters), length-take k chapters)

  numbered : (es : List Entry) → k ≡ length (listed older es)
  numbered es = number ∙ sym (length-listed older es)

  linked : k ≡ length (map link_in older)
  linked = number ∙ sym (length-map older link_in)

  -- the chapters around it, as they are and with another in its place
  parts : all a.chapters ≡ newer ++ c ∷ older
  parts =
      ap reverse (around chapters k a.chapters.root within) ∙ reverse_around (take k chapters) c (drop (k + 1) chapters)

  parts_with : (d : Chapter) → all (with_chapter a.chapters k d) ≡ newer ++ d ∷ older
  parts_with d =
      ap reverse (by_number-with a.chapters k d ∙ around_set chapters k d within)
      ∙ reverse_around (take k chapters) d (drop (k + 1) chapters)

  -- the volume and the link of the version are the chapter's
  volumes_now : volumes_of a ≡ listed newer filed ++ listed (c ∷ older) rest
  volumes_now = volumes_around a.chapters newer c older parts filed a.own_parent a.no_entries

  links_now : links_of a ≡ map link_in newer ++ c.link ∷ map link_in older
  links_now = links_around a.chapters newer c older parts

  pub found : volume_at k (volumes_of a) ≡ Some (volume c.parent c.favoured (take c.count rest))
  found = ap (volume_at k) volumes_now ∙ volume_at_number k (listed newer filed) _ _ (numbered _)

  pub found_link : link_at k (links_of a) ≡ c.link
  found_link = ap (link_at k) links_now ∙ link_at_number k (map link_in newer) c.link _ linked

  -- what the archive knows of the chapter's entries
  placed : ∥ Filed (newer ++ c ∷ older) a.sealed ∥₁
  placed = subst (λ cs. ∥ Filed cs a.sealed ∥₁) parts a.filed

  ends : c.first + c.count + counts newer ≡ a.sealed
  ends = ∥∥₁_elim placed (ℕ_set (c.first + c.count + counts newer) a.sealed) (filed_before newer c older a.sealed)

  pub within_entries : c.first + c.count ≤ vec_len a.entries
  within_entries = omega (arith, ends, a.within)

  -- the part of the entries that the chapter tells is the version's
  pub found_entries : reverse (take c.count (drop c.first (vec_items a.entries))) ≡ entries_in (volume_at k (volumes_of a))
  found_entries =
      let behind = loose a + counts newer in
      let long : c.first + c.count + behind ≡ length (vec_items a.entries) = omega (arith, ends, a.within, a.entries.ok.0) in
      part_reverse (vec_items a.entries) c.first c.count behind long
      ∙ ap (take c.count) (sym (drop-drop (counts newer) (loose a) (entries_of a))) ∙ ap entries_in (sym found)

  -- the chapter with another favoured child and another link in its place
  module _ (e : Chapter) (same : e ≡ c) (favoured : Option ℕ) (link : ℕ) where
    abbrev d : Chapter
    d = record e { favoured = favoured; link = link }

    abbrev changed : Chapters
    changed = with_chapter a.chapters k d

    -- the archive knows the same of its chapters
    pub still_kept : (changed.root.parent ≡ 0) × (changed.root.count ≡ 0) × ∥ Filed (all changed) a.sealed ∥₁
    still_kept =
        let alike = filed_alike newer c d older a.sealed (ap (λ x. x.first) same) (ap (λ x. x.count) same) in (
          root_alike a.chapters k d (λ x. x.parent) (ap (λ x. x.parent) same) ∙ a.own_parent,
          root_alike a.chapters k d (λ x. x.count) (ap (λ x. x.count) same) ∙ a.no_entries,
          subst (λ cs. ∥ Filed cs a.sealed ∥₁) (sym (parts_with d)) (∥∥₁_map placed alike),
        )

    volumes_with : volumes_in changed filed ≡ listed newer filed ++ listed (record c { favoured = favoured } ∷ older) rest
    volumes_with =
        volumes_around changed newer d older (parts_with d) filed still_kept.0 still_kept.1
        ∙ ap (λ x. listed newer filed ++ listed (record x { favoured = favoured } ∷ older) rest) same

    links_with : links_in changed ≡ map link_in newer ++ link ∷ map link_in older
    links_with = links_around changed newer d older (parts_with d)

  module _ (e : Chapter) (same : e ≡ c) where
    -- another favoured child alone
    abbrev favours : ℕ → Chapters
    favours child = with_chapter a.chapters k (record e { favoured = Some child })

    pub favoured_volumes : (child : ℕ) → volumes_in (favours child) filed ≡ favouring_at k child (volumes_of a)
    favoured_volumes child =
        volumes_with e same (Some child) e.link ∙ sym (favouring_at_number k child (listed newer filed) _ _ (numbered _))
        ∙ ap (favouring_at k child) (sym volumes_now)

    pub favoured_links : (child : ℕ) → links_in (favours child) ≡ links_of a
    favoured_links child =
        links_with e same (Some child) e.link ∙ ap (λ x. map link_in newer ++ x.link ∷ map link_in older) same ∙ sym links_now

    -- another link alone
    abbrev links_to : ℕ → Chapters
    links_to next = with_chapter a.chapters k (record e { link = next })

    pub linked_links : (next : ℕ) → links_in (links_to next) ≡ linking_at k next (links_of a)
    linked_links next =
        links_with e same e.favoured next ∙ sym (linking_at_number k next (map link_in newer) c.link _ linked)
        ∙ ap (linking_at k next) (sym links_now)

    pub linked_volumes : (next : ℕ) → volumes_in (links_to next) filed ≡ volumes_of a
    linked_volumes next =
        volumes_with e same e.favoured next
        ∙ ap (λ x. listed newer filed ++ listed (record c { favoured = x.favoured } ∷ older) rest) same ∙ sym volumes_now

-- what the chapter of a version tells, and what it tells with another favoured child or another link
pub ruleset chapters_found = (versions_made, found, found_link, within_entries, found_entries)

pub ruleset chapters_favoured = (versions_made, still_kept, favoured_volumes, favoured_links)

pub ruleset chapters_linked = (versions_made, still_kept, linked_volumes, linked_links)
