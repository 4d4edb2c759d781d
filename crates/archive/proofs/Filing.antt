-- What an archive knows of its entries and chapters, where one is filed or taken back. Assumes nothing.
use Rattle.std.proofs.Common.{◌≡◌, ℕ, suc, ◌+◌, ◌-◌, ◌<◌, List, [], ◌∷◌, ◌++◌, reverse, length, take, drop, vec_items, vec_len, sym, ap, ◌∙◌, subst, arith}
use Rattle.std.proofs.lemmas.List.{length-reverse, length-take, reverse-append}
use Rattle.std.proofs.Math.Logic.{∥∥₁_elim, ∥∥₁_map}
use Rattle.std.proofs.Math.Nat.{ℕ_set}
use Rattle.archive.specs.Archives.{entries_of, loose, open_entries}
use Rattle.archive.specs.Volumes.{Filed, Stored}
use Rattle.archive.specs.declared.Archive.{Archive}
use Rattle.archive.specs.declared.types.Chapter.{Chapter}
use Rattle.archive.specs.declared.types.Entry.{Entry}
use Rattle.archive.proofs.Slices.{part_reverse}

-- what is filed last is the newest
pub reverse_last : {X : Type 0} (after before : List X) (x : X) → after ≡ before ++ x ∷ [] → reverse after ≡ x ∷ reverse before
reverse_last after before x last = ap reverse last ∙ reverse-append before (x ∷ [])

-- an entry whose runs stand right behind the others, and a chapter whose entries do
pub stored_last : (after before : List Entry) (e : Entry) (n : ℕ) → after ≡ before ++ e ∷ [] → e.first + e.kept ≡ n
    → ∥ Stored (reverse before) e.first ∥₁ → ∥ Stored (reverse after) n ∥₁
stored_last after before e n last runs known =
    subst (λ l. ∥ Stored l n ∥₁) (sym (reverse_last after before e last)) (∥∥₁_map known (λ k. (runs, k)))

pub filed_last : (root : Chapter) (after before : List Chapter) (c : Chapter) (n : ℕ)
    → after ≡ before ++ c ∷ [] → c.first + c.count ≡ n
    → ∥ Filed (reverse (root ∷ before)) c.first ∥₁ → ∥ Filed (reverse (root ∷ after)) n ∥₁
filed_last root after before c n last entries known =
    let newest = reverse_last (root ∷ after) (root ∷ before) c (ap (λ l. root ∷ l) last) in
    subst (λ l. ∥ Filed l n ∥₁) (sym newest) (∥∥₁_map known (λ k. (entries, k)))

-- the newest entry, and what is left without it
module _ (all rest : List Entry) (e : Entry) (n : ℕ) (last : all ≡ rest ++ e ∷ []) (known : ∥ Stored (reverse all) n ∥₁) where
  parts : ∥ Stored (e ∷ reverse rest) n ∥₁
  parts = subst (λ l. ∥ Stored l n ∥₁) (reverse_last all rest e last) known

  pub runs_newest : e.first + e.kept ≡ n
  runs_newest = ∥∥₁_elim parts (ℕ_set (e.first + e.kept) n) (λ k. k.0)

  pub stored_rest : ∥ Stored (reverse rest) e.first ∥₁
  stored_rest = ∥∥₁_map parts (λ k. k.1)

-- how many entries are open, and which part of all
module _ (a : Archive) where
  abbrev items : List Entry
  items = vec_items a.entries

  pub length_open : length (open_entries a) ≡ vec_len a.entries - a.sealed
  length_open = omega (arith, length-take (loose a) (reverse items), length-reverse items, a.entries.ok.0)

  pub open_part : reverse (take (length items - a.sealed) (drop a.sealed items)) ≡ open_entries a
  open_part =
      part_reverse items a.sealed (length items - a.sealed) 0 (omega (arith, a.within, a.entries.ok.0))
      ∙ ap (λ n. take (n - a.sealed) (reverse items)) (sym a.entries.ok.0)

  -- those that are open without the newest, and those that are not
  module _ (rest : List Entry) (e : Entry) (n : ℕ)
      (last : items ≡ rest ++ e ∷ []) (fewer : n + 1 ≡ vec_len a.entries) (some : 0 < length (open_entries a)) where
    newest : reverse items ≡ e ∷ reverse rest
    newest = reverse_last items rest e last

    one_more : loose a ≡ suc (n - a.sealed)
    one_more = omega (arith, fewer, some, length_open)

    pub open_rest : e ∷ take (n - a.sealed) (reverse rest) ≡ open_entries a
    open_rest = sym (ap (take (loose a)) newest ∙ ap (λ m. take m (e ∷ reverse rest)) one_more)

    pub closed_rest : drop (n - a.sealed) (reverse rest) ≡ drop (loose a) (entries_of a)
    closed_rest = sym (ap (drop (loose a)) newest ∙ ap (λ m. drop m (e ∷ reverse rest)) one_more)

-- what is known without the newest entry
pub ruleset without_newest = (length_open, runs_newest, stored_rest, open_rest, closed_rest)
