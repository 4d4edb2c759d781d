-- Where the path to a version is taken, each version on it is the favoured child of the one before. Assumes nothing.
use Rattle.std.proofs.Common.{◌≡◌, ℕ, ◌<◌, List, [], ◌∷◌, length, Some, None, Option, sym, refl, ap, ◌∙◌, subst, inl, inr, arith}
use Rattle.std.proofs.lemmas.Bool.{cases_eq}
use Rattle.ledger.specs.Calls.{favoured_child, parent_or_zero}
use Rattle.ledger.specs.History.{Version, version, version_at, story, favouring, along}
use Rattle.ledger.specs.Legal.{Fitting, Made, Sound, path_to, Followed, Child, If, Favours}
use Rattle.ledger.proofs.Histories.{along_here, along_there, length_along, parent_along, path_here, path_there, version_here, version_there}

favouring_twice : (child : Option ℕ) (v : Version) → favouring child (favouring child v) ≡ favouring child v
favouring_twice None v = refl
favouring_twice (Some c) v = refl

favouring_parent : (child : Option ℕ) (v : Version) → (favouring child v).parent ≡ v.parent
favouring_parent None v = refl
favouring_parent (Some c) v = refl

-- to take a path once more changes nothing
pub along_twice : (k : ℕ) (child : Option ℕ) (vs : List Version) → along k child (along k child vs) ≡ along k child vs
along_twice k child [] = refl
along_twice k child (v ∷ older) =
    elim (cases_eq k (length older)) [
      | inl e ↦
          let A : List Version = along v.parent (Some k) older in
          let here = along_here k child v older e in
          let again = along_here k child (favouring child v) A (e ∙ sym (length_along v.parent (Some k) older)) in
          let h = along_twice v.parent (Some k) older in
          let f = favouring_twice child v in
          let p = favouring_parent child v in
          cc
      | inr d ↦
          let there = along_there k child v older d in
          let again = along_there k child v (along k child older) (λ e. d (e ∙ length_along k child older)) in
          let h = along_twice k child older in
          cc
    ]

-- a version other than 0 has an older parent, and every version has steps that fit
pub made_parts : (n most : ℕ) (v : Version) (older : List Version) → Made n most v older → (0 < length older → v.parent < length older) × Fitting n most v.steps (story v.parent older)
made_parts n most v [] m = (λ l. absurd (omega arith), rw m tt)
made_parts n most v (w ∷ older) m = (λ l. m.0, m.1)

-- to take the path to a version is to take the path to its parent, with that version for a child
along_parent : (k p : ℕ) (vs : List Version) → p < k → k < length vs → parent_or_zero (version_at k vs) ≡ p → along k None vs ≡ along p (Some k) vs
along_parent k p [] up l is = absurd (omega arith)
along_parent k p (v ∷ older) up l is =
    let apart = along_there p (Some k) v older (λ q. omega arith) in
    elim (cases_eq k (length older)) [
      | inl e ↦
          let here = along_here k None v older e in
          let found = version_here k v older e in
          let parent : v.parent ≡ p = cc in
          cc
      | inr d ↦
          let there = along_there k None v older d in
          let found = version_there k v older d in
          let h = along_parent k p older up (omega arith) (cc) in
          cc
    ]

-- the last version of a path that is taken favours the child
along_favours : (k c : ℕ) (vs : List Version) → k < length vs → favoured_child (version_at k (along k (Some c) vs)) ≡ Some c
along_favours k c [] l = absurd (omega arith)
along_favours k c (v ∷ older) l =
    elim (cases_eq k (length older)) [
      | inl e ↦
          let size = length_along v.parent (Some k) older in
          rw (along_here k (Some c) v older e, version_here k (favouring (Some c) v) (along v.parent (Some k) older) (e ∙ sym size))
      | inr d ↦
          let size = length_along k (Some c) older in
          rw (along_there k (Some c) v older d, version_there k v (along k (Some c) older) (λ e. d (e ∙ size))) (along_favours k c older (omega arith))
    ]

-- where it favours the child already, the path is taken as without the child
along_favoured : (k c : ℕ) (vs : List Version) → favoured_child (version_at k vs) ≡ Some c → along k (Some c) vs ≡ along k None vs
along_favoured k c [] f = refl
along_favoured k c (v ∷ older) f =
    elim (cases_eq k (length older)) [
      | inl e ↦
          let here = along_here k (Some c) v older e in
          let plainly = along_here k None v older e in
          let found : v.favoured ≡ Some c = sym (ap favoured_child (version_here k v older e)) ∙ f in
          let same : favouring (Some c) v ≡ v = λ i. version v.parent (sym found i) v.steps in
          cc
      | inr d ↦
          let there = along_there k (Some c) v older d in
          let plainly = along_there k None v older d in
          let found = version_there k v older d in
          let h = along_favoured k c older (cc) in
          cc
    ]

-- a parent is older than its child
pub sound_parent : (n most k : ℕ) (vs : List Version) → Sound n most vs → 0 < k → k < length vs → parent_or_zero (version_at k vs) < k
sound_parent n most k [] sound pos l = absurd (omega arith)
sound_parent n most k (v ∷ older) sound pos l =
    elim (cases_eq k (length older)) [
      | inl e ↦
          let below = (made_parts n most v older sound.0).0 (omega arith) in
          rw (version_here k v older e) (omega arith)
      | inr d ↦ rw (version_there k v older d) (sound_parent n most k older sound.1 pos (omega arith))
    ]

-- where the path to version k is taken, its parent favours it, and the path to the parent is taken
pub settled_parent : (k p : ℕ) (vs : List Version) → p < k → k < length vs → parent_or_zero (version_at k vs) ≡ p → along k None vs ≡ vs → (favoured_child (version_at p vs) ≡ Some k) × (along p None vs ≡ vs)
settled_parent k p vs up l is s =
    let taken : along p (Some k) vs ≡ vs = sym (along_parent k p vs up l is) ∙ s in
    let favours = ap (λ ws. favoured_child (version_at p ws)) (sym taken) ∙ along_favours p k vs (omega arith) in
    (favours, sym (along_favoured p k vs favours) ∙ taken)

-- where the path to a version is taken, the path to its favoured child is taken
pub settled_child : (p c : ℕ) (vs : List Version) → p < c → c < length vs → parent_or_zero (version_at c vs) ≡ p → favoured_child (version_at p vs) ≡ Some c → along p None vs ≡ vs → along c None vs ≡ vs
settled_child p c vs up l is f s = along_parent c p vs up l is ∙ along_favoured p c vs f ∙ s

-- a number in front of others, where there is one
abbrev onto : Option ℕ → List ℕ → List ℕ
onto None numbers = numbers
onto (Some k) numbers = k ∷ numbers

-- some versions have the numbers that they have among all
abbrev Among : List Version → List Version → Type 0
Among all vs = (j : ℕ) → j < length vs → version_at j vs ≡ version_at j all

among_older : (all : List Version) (v : Version) (older : List Version) → Among all (v ∷ older) → Among all older
among_older all v older a j l =
    let there = version_there j v older (λ e. omega arith) in
    let whole = a j (omega arith) in
    cc

onto_none : (all : List Version) (child : Option ℕ) → Followed all (onto child [])
onto_none all None = tt
onto_none all (Some c) = (tt, tt)

onto_path : (all : List Version) (k : ℕ) (child : Option ℕ) (v : Version) (more : List ℕ) → version_at k all ≡ Some v → favouring child v ≡ v → Followed all (k ∷ more) → Followed all (onto child (k ∷ more))
onto_path all k None v more found same f = f
onto_path all k (Some c) v more found same f = (ap favoured_child found ∙ sym (ap (λ (w : Version). w.favoured) same), f)

-- where the path to version k is taken, it is followed
followed_along : (all : List Version) (k : ℕ) (child : Option ℕ) (vs : List Version) → Among all vs → along k child vs ≡ vs → Followed all (onto child (path_to k vs))
followed_along all k child [] a s = onto_none all child
followed_along all k child (v ∷ older) a s =
    elim (cases_eq k (length older)) [
      | inl e ↦
          let here = along_here k child v older e in
          let rest : along v.parent (Some k) older ≡ older = cc in
          let same : favouring child v ≡ v = cc in
          let found : version_at k all ≡ Some v = sym (a k (omega arith)) ∙ version_here k v older e in
          rw (path_here k v older e)
          (onto_path all k child v (path_to v.parent older) found same (followed_along all v.parent (Some k) older (among_older all v older a) rest))
      | inr d ↦
          let there = along_there k child v older d in
          let rest : along k child older ≡ older = cc in
          rw (path_there k v older d) (followed_along all k child older (among_older all v older a) rest)
    ]

pub settled_followed : (k : ℕ) (vs : List Version) → along k None vs ≡ vs → Followed vs (path_to k vs)
settled_followed k vs s = followed_along vs k None vs (λ j l. refl) s

-- favoured children in one sense are favoured children in another
pub favours_as : (Is Is' : ℕ → ℕ → Type 0) → ((p c : ℕ) → Is p c → Is' p c) → (vs : List Version) → Favours Is vs → Favours Is' vs
favours_as Is Is' too [] f = tt
favours_as Is Is' too (v ∷ older) f = (if_as v.favoured f.0, favours_as Is Is' too older f.1)
  where
    if_as : (o : Option ℕ) → If o (Is (length older)) → If o (Is' (length older))
    if_as None h = tt
    if_as (Some c) h = too (length older) c h

if_favouring : (Holds : ℕ → Type 0) (child : Option ℕ) (v : Version) → If child Holds → If v.favoured Holds → If (favouring child v).favoured Holds
if_favouring Holds None v new old = old
if_favouring Holds (Some c) v new old = new

-- every version but 0 is the child of its parent
abbrev Links : (ℕ → ℕ → Type 0) → List Version → Type 0
Links Is vs = (j : ℕ) → 0 < j → j < length vs → Is (parent_or_zero (version_at j vs)) j

module _ (Is : ℕ → ℕ → Type 0) where
  links_older : (v : Version) (older : List Version) → Links Is (v ∷ older) → Links Is older
  links_older v older links j pos l =
      let there = version_there j v older (λ e. omega arith) in
      rw there at (links j pos (omega arith))

  favours_head : (k : ℕ) (child : Option ℕ) (v : Version) (older : List Version) → k ≡ length older → If child (Is k) → If v.favoured (Is (length older)) → (j : ℕ) (other : Option ℕ) → If (favouring child v).favoured (Is (length (along j other older)))
  favours_head k child v older e new old j other =
      rw (length_along j other older, ← e) (if_favouring (Is k) child v new (rw e old))

  favours_along : (k : ℕ) (child : Option ℕ) (vs : List Version) → Links Is vs → (k < length vs → If child (Is k)) → Favours Is vs → Favours Is (along k child vs)
  favours_along k child [] links new f = tt
  favours_along k child (v ∷ older) links new f =
      elim (cases_eq k (length older)) [
        | inl e ↦
            let link : v.parent < length older → Is v.parent k = λ l. rw (version_here k v older e) at (links k (omega arith) (omega arith)) in
            rw (along_here k child v older e)
            (favours_head k child v older e (new (omega arith)) f.0 v.parent (Some k), favours_along v.parent (Some k) older (links_older v older links) link f.1)
        | inr d ↦
            rw (along_there k child v older d)
            (rw (length_along k child older) f.0, favours_along k child older (links_older v older links) (λ l. new (omega arith)) f.1)
      ]

-- the favoured children of sound versions stay children where a path is taken
pub children_along : (n most k : ℕ) (vs : List Version) → Sound n most vs → Favours (Child vs) vs → Favours (Child (along k None vs)) (along k None vs)
children_along n most k vs sound f =
    favours_as (Child vs) (Child (along k None vs))
    (λ p c h. (h.0, rw (length_along k None vs) h.1, parent_along k None vs c ∙ h.2))
    (along k None vs)
    (favours_along (Child vs) k None vs (λ j pos l. (sound_parent n most j vs sound pos l, l, refl)) (λ l. tt) f)

-- a favoured child, looked up by the number of the version that favours it
pub favours_at : (Is : ℕ → ℕ → Type 0) (p c : ℕ) (vs : List Version) → Favours Is vs → favoured_child (version_at p vs) ≡ Some c → Is p c
favours_at Is p c [] f e = let z : ◌≡◌ {A = ℕ} 0 1 = cc in absurd (omega arith)
favours_at Is p c (v ∷ older) f e =
    elim (cases_eq p (length older)) [
      | inl q ↦
          let found : v.favoured ≡ Some c = sym (ap favoured_child (version_here p v older q)) ∙ e in
          let P : Option ℕ → Type 0 = λ o. If o (Is (length older)) in
          rw q (subst P found f.0)
      | inr d ↦ favours_at Is p c older f.1 (sym (ap favoured_child (version_there p v older d)) ∙ e)
    ]
