-- Where inserts stand right behind all that was added before, every place of a text is in its source, and elements that are
-- added later change no text. Assumes nothing.
use Rattle.std.proofs.Common.{◌≡◌, ℕ, zero, suc, ◌+◌, ◌-◌, ◌<◌, ◌≤◌, eqb, List, [], ◌∷◌, ◌++◌, length, take, drop, sym, refl, ap, ◌∙◌, arith, length-append, length-drop, length-take}
use Rattle.std.proofs.lemmas.List.{take-take, drop-take}
use Rattle.std.proofs.lemmas.List.Elements.{All-append, All-cons, All-drop, All-head, All-nil, All-tail, All-take}
use Rattle.std.proofs.lemmas.Bool.{cond_both}
use Rattle.std.specs.List.{All}
use Rattle.ledger.specs.History.{Version, story, added_made}
use Rattle.ledger.specs.Ledgers.{Ledger, steps_open, path, text, content, added_used}
use Rattle.ledger.specs.Legal.{StartsAt, Placed, AllPlaced}
use Rattle.ledger.specs.Places.{place, stretch, source_list, elements_at}
use Rattle.ledger.specs.Steps.{added_by, all_added, replay}
use Rattle.ledger.specs.declared.words.Place.{Place}
use Rattle.ledger.specs.declared.words.Source.{Source}
use Rattle.ledger.specs.declared.words.Source.TheVariants.{Original, Added}
use Rattle.ledger.specs.declared.words.Step.{Step}
use Rattle.ledger.specs.declared.words.Step.TheVariants.{Insert, Delete, SetMark, DropMark}

-- the elements of an insert are among the first `a` added ones
abbrev Inside : ℕ → Step → Type 0
Inside a (Insert x n start) = start + n ≤ a
Inside a (Delete x n) = Unit {0}
Inside a (SetMark name m) = Unit {0}
Inside a (DropMark name) = Unit {0}

step_inside : (a used : ℕ) (step : Step) → StartsAt used step → added_by step + used ≤ a → Inside a step
step_inside a used (Insert x n start) s l = omega arith
step_inside a used (Delete x n) s l = tt
step_inside a used (SetMark name m) s l = tt
step_inside a used (DropMark name) s l = tt

placed_inside : (a used : ℕ) (steps : List Step) → Placed used steps → all_added steps + used ≤ a → All (Inside a) steps
placed_inside a used [] p l = All-nil (Inside a)
placed_inside a used (step ∷ before) p l =
    All-cons (Inside a) step before (step_inside a (all_added before + used) step p.0 (omega arith)) (placed_inside a used before p.1 (omega arith))

-- the story of any version has only elements that the versions added
story_inside : (a k : ℕ) (vs : List Version) → AllPlaced vs → added_made vs ≤ a → All (Inside a) (story k vs)
story_inside a k [] p l = All-nil (Inside a)
story_inside a k (v ∷ older) p l =
    cond_both (eqb k (length older)) (v.steps ++ story v.parent older) (story k older) (All (Inside a))
    (λ e.
    All-append (Inside a) v.steps (story v.parent older) (placed_inside a (added_made older) v.steps p.0 (omega arith))
    (story_inside a v.parent older p.1 (omega arith)))
    (λ e. story_inside a k older p.1 (omega arith))

-- an original of n elements, and `a` added ones
module _ (n a : ℕ) where
  abbrev size : Source → ℕ
  size Original = n
  size Added = a

  -- a place is in its source
  abbrev Lies : Place → Type 0
  Lies p = p.index < size p.source

  stretch_lies : (source : Source) (start k : ℕ) → start + k ≤ size source → All Lies (stretch source start k)
  stretch_lies source start zero l = All-nil Lies
  stretch_lies source start (suc k) l =
      All-cons Lies (place source start) (stretch source (suc start) k) (omega arith) (stretch_lies source (suc start) k (omega arith))

  replay_lies : (steps : List Step) → All (Inside a) steps → All Lies (replay n steps).places
  replay_lies [] p = stretch_lies Original 0 n (omega arith)
  replay_lies (Insert x k start ∷ before) p =
      let h = replay_lies before (All-tail (Inside a) (Insert x k start) before p) in
      let c : List Place = (replay n before).places in
      All-append Lies (take x c) (stretch Added start k ++ drop x c) (All-take Lies x c h)
      (All-append Lies (stretch Added start k) (drop x c) (stretch_lies Added start k (All-head (Inside a) (Insert x k start) before p)) (All-drop Lies x c h))
  replay_lies (Delete x k ∷ before) p =
      let h = replay_lies before (All-tail (Inside a) (Delete x k) before p) in
      let c : List Place = (replay n before).places in
      All-append Lies (take x c) (drop (x + k) c) (All-take Lies x c h) (All-drop Lies (x + k) c h)
  replay_lies (SetMark name m ∷ before) p = replay_lies before (All-tail (Inside a) (SetMark name m) before p)
  replay_lies (DropMark name ∷ before) p = replay_lies before (All-tail (Inside a) (DropMark name) before p)

module _ {E : Type 0} (original added : List E) where
  one_there : (source : Source) (i : ℕ) → i < size (length original) (length added) source → length (take 1 (drop i (source_list original added source))) ≡ 1
  one_there Original i l = simp (length-take, length-drop) (omega arith)
  one_there Added i l = simp (length-take, length-drop) (omega arith)

  elements_length : (ps : List Place) → All (Lies (length original) (length added)) ps → length (elements_at original added ps) ≡ length ps
  elements_length [] p = refl
  elements_length (x ∷ ps) p =
      let Lie = Lies (length original) (length added) in
      let h = elements_length ps (All-tail Lie x ps p) in
      let one = one_there x.source x.index (All-head Lie x ps p) in
      simp length-append (omega arith)

pub whole_text : {E : Type 0} (l : Ledger E) → Placed (added_made l.versions) (steps_open l.group) → AllPlaced l.versions → length l.added ≡ added_used l → length (text l) ≡ length (content l).places
whole_text l group versions is =
    let a : ℕ = length l.added in
    elements_length l.original l.added (content l).places
    (replay_lies (length l.original) a (path l)
    (All-append (Inside a) (steps_open l.group) (story l.current l.versions)
    (placed_inside a (added_made l.versions) (steps_open l.group) group (omega arith))
    (story_inside a l.current l.versions versions (omega arith))))

-- places among the first b added elements
module _ {E : Type 0} (b : ℕ) (original xs : List E) where
  one_in_front : (source : Source) (i : ℕ) → i < size (length original) b source → take 1 (drop i (source_list original (take b xs) source)) ≡ take 1 (drop i (source_list original xs source))
  one_in_front Original i h = refl
  one_in_front Added i h =
      let e : i + (b - i) ≡ b = omega arith in
      let one : 1 ≤ b - i = omega arith in
      ap (λ n. take 1 (drop i (take n xs))) (sym e) ∙ ap (λ ys. take 1 ys) (drop-take i (b - i) xs) ∙ take-take 1 (b - i) (drop i xs) one

  elements_in_front : (ps : List Place) → All (Lies (length original) b) ps → elements_at original (take b xs) ps ≡ elements_at original xs ps
  elements_in_front [] h = refl
  elements_in_front (p ∷ ps) h =
      let Lie = Lies (length original) b in
      λ i. one_in_front p.source p.index (All-head Lie p ps h) i ++ elements_in_front ps (All-tail Lie p ps h) i

-- a version's text is the same over all added sources that agree on what the versions added
pub version_same :
    {E : Type 0} (original xs ys : List E) (k : ℕ) (vs : List Version)
    → AllPlaced vs
    → take (added_made vs) xs ≡ take (added_made vs) ys
    → elements_at original xs (replay (length original) (story k vs)).places ≡ elements_at original ys (replay (length original) (story k vs)).places
version_same original xs ys k vs placed agree =
    let b : ℕ = added_made vs in
    let ps : List Place = (replay (length original) (story k vs)).places in
    let lie = replay_lies (length original) b (story k vs) (story_inside b k vs placed (omega arith)) in
    sym (elements_in_front b original xs ps lie) ∙ ap (λ zs. elements_at original zs ps) agree ∙ elements_in_front b original ys ps lie
