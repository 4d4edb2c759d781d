-- Volumes and links by their numbers. All lists are newest first: the number of each is how many are older. Assumes nothing.
use Rattle.std.proofs.Common.{◌≡◌, ℕ, suc, ◌+◌, List, [], ◌∷◌, ◌++◌, length, take, drop, map, Some, sym, refl, ap, ◌∙◌, subst, arith, length-append, drop-drop}
use Rattle.std.proofs.lemmas.Bool.Decides.{nat_tests}
use Rattle.archive.specs.Volumes.{Volume, volume, volumes, volume_at, favouring_at, links, link_at, linking_at, Filed}
use Rattle.archive.specs.declared.types.Chapter.{Chapter}
use Rattle.archive.specs.declared.types.Entry.{Entry}

-- the one that has as many older ones as its number says
module _ (k : ℕ) where
  pub volume_at_number : (newer : List Volume) (v : Volume) (older : List Volume) → k ≡ length older
      → volume_at k (newer ++ v ∷ older) ≡ Some v
  volume_at_number [] v older number = grind (arith, nat_tests)
  volume_at_number (u ∷ newer) v older number =
      let h = volume_at_number newer v older number in grind (arith, nat_tests, length-append)

  pub favouring_at_number : (child : ℕ) (newer : List Volume) (v : Volume) (older : List Volume) → k ≡ length older
      → favouring_at k child (newer ++ v ∷ older) ≡ newer ++ volume v.parent (Some child) v.entries ∷ older
  favouring_at_number child [] v older number = grind (arith, nat_tests)
  favouring_at_number child (u ∷ newer) v older number =
      let h = favouring_at_number child newer v older number in grind (arith, nat_tests, length-append)

  pub link_at_number : (newer : List ℕ) (l : ℕ) (older : List ℕ) → k ≡ length older → link_at k (newer ++ l ∷ older) ≡ l
  link_at_number [] l older number = grind (arith, nat_tests)
  link_at_number (m ∷ newer) l older number =
      let h = link_at_number newer l older number in grind (arith, nat_tests, length-append)

  pub linking_at_number : (next : ℕ) (newer : List ℕ) (l : ℕ) (older : List ℕ) → k ≡ length older
      → linking_at k next (newer ++ l ∷ older) ≡ newer ++ next ∷ older
  linking_at_number next [] l older number = grind (arith, nat_tests)
  linking_at_number next (m ∷ newer) l older number =
      let h = linking_at_number next newer l older number in grind (arith, nat_tests, length-append)

-- how many entries chapters have
abbrev pub counts : List Chapter → ℕ
counts [] = 0
counts (c ∷ older) = c.count + counts older

-- the volumes of chapters, where version 0 has a chapter like any other
abbrev pub listed : List Chapter → List Entry → List Volume
listed [] es = []
listed (c ∷ older) es = volume c.parent c.favoured (take c.count es) ∷ listed older (drop c.count es)

pub volumes-root : (root : Chapter) (cs : List Chapter) (es : List Entry) → root.parent ≡ 0 → root.count ≡ 0
    → volumes root.favoured cs es ≡ listed (cs ++ root ∷ []) es
volumes-root root [] es parent count =
    sym (ap (λ n. volume root.parent root.favoured (take n es) ∷ []) count ∙ ap (λ n. volume n root.favoured [] ∷ []) parent)
volumes-root root (c ∷ older) es parent count =
    ap (λ vs. volume c.parent c.favoured (take c.count es) ∷ vs) (volumes-root root older (drop c.count es) parent count)

pub links-root : (root : Chapter) (cs : List Chapter) → links root.link cs ≡ map (λ (c : Chapter). c.link) (cs ++ root ∷ [])
links-root root [] = refl
links-root root (c ∷ older) = ap (λ ls. c.link ∷ ls) (links-root root older)

pub length-listed : (cs : List Chapter) (es : List Entry) → length (listed cs es) ≡ length cs
length-listed [] es = refl
length-listed (c ∷ older) es = ap suc (length-listed older (drop c.count es))

pub listed-append : (newer older : List Chapter) (es : List Entry)
    → listed (newer ++ older) es ≡ listed newer es ++ listed older (drop (counts newer) es)
listed-append [] older es = refl
listed-append (c ∷ newer) older es =
    let rest = drop c.count es in
    ap (λ vs. volume c.parent c.favoured (take c.count es) ∷ vs)
    (listed-append newer older rest ∙ ap (λ l. listed newer rest ++ listed older l) (drop-drop (counts newer) c.count es))

-- chapters with as many entries in the same place are filed alike
pub filed_alike : (newer : List Chapter) (c d : Chapter) (older : List Chapter) (n : ℕ)
    → d.first ≡ c.first → d.count ≡ c.count → Filed (newer ++ c ∷ older) n → Filed (newer ++ d ∷ older) n
filed_alike [] c d older n first count filed =
    let entries = filed.0 in (omega (arith, first, count, entries), subst (Filed older) (sym first) filed.1)
filed_alike (e ∷ newer) c d older n first count filed = (filed.0, filed_alike newer c d older e.first first count filed.1)

-- the entries of a chapter end where those of the newer ones start
pub filed_before : (newer : List Chapter) (c : Chapter) (older : List Chapter) (n : ℕ) → Filed (newer ++ c ∷ older) n
    → c.first + c.count + counts newer ≡ n
filed_before [] c older n filed = let entries = filed.0 in omega (arith, entries)
filed_before (d ∷ newer) c older n filed =
    let entries = filed.0 in let h = filed_before newer c older d.first filed.1 in omega (arith, entries, h)
