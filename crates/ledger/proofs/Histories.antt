-- Taking a path as the favoured one changes favoured children only. Assumes nothing.
use Rattle.std.proofs.Common.{◌≡◌, ℕ, suc, ◌+◌, ◌<◌, true, false, eqb, List, [], ◌∷◌, length, Some, None, Option, sym, refl, ap, ◌∙◌, inl, inr}
use Rattle.std.proofs.lemmas.Bool.{cases_Bool, cond-true, cond-false, cond_both, eq-eqb, ne_eqb}
use Rattle.ledger.specs.Calls.{parent_or_zero}
use Rattle.ledger.specs.History.{Version, version, version_at, story, favouring, along, steps_made, added_made, kept_made}
use Rattle.ledger.specs.Legal.{Made, Sound, Fitting, Placed, AllPlaced, path_to}
use Rattle.ledger.specs.Steps.{all_added}

-- a version without its favoured child, and some versions so
abbrev bare : Version → Version
bare v = version v.parent None v.steps

abbrev plain : List Version → List Version
plain [] = []
plain (v ∷ older) = bare v ∷ plain older

bare_favouring : (child : Option ℕ) (v : Version) → bare (favouring child v) ≡ bare v
bare_favouring None v = refl
bare_favouring (Some c) v = refl

plain_along : (k : ℕ) (child : Option ℕ) (vs : List Version) → plain (along k child vs) ≡ plain vs
plain_along k child [] = refl
plain_along k child (v ∷ older) =
    cond_both (eqb k (length older)) (favouring child v ∷ along v.parent (Some k) older) (v ∷ along k child older)
    (λ ws. plain ws ≡ bare v ∷ plain older)
    (λ e. let h = plain_along v.parent (Some k) older in let b = bare_favouring child v in cc)
    (λ e. ap (λ ws. bare v ∷ ws) (plain_along k child older))

-- what does not look at favoured children is the same of plain versions
length_plain : (vs : List Version) → length (plain vs) ≡ length vs
length_plain [] = refl
length_plain (v ∷ older) = ap suc (length_plain older)

story_plain : (k : ℕ) (vs : List Version) → story k (plain vs) ≡ story k vs
story_plain k [] = refl
story_plain k (v ∷ older) = simp (length_plain older, story_plain v.parent older, story_plain k older)

parent_plain : (k : ℕ) (vs : List Version) → parent_or_zero (version_at k (plain vs)) ≡ parent_or_zero (version_at k vs)
parent_plain k [] = refl
parent_plain k (v ∷ older) =
    let n = length_plain older in
    let h = parent_plain k older in
    elim (cases_Bool (eqb k (length older))) [
      | inl e ↦ let e' : eqb k (length (plain older)) ≡ true = rw n e in rw (e, e')
      | inr e ↦ let e' : eqb k (length (plain older)) ≡ false = rw n e in rw (e, e') h
    ]

steps_plain : (vs : List Version) → steps_made (plain vs) ≡ steps_made vs
steps_plain [] = refl
steps_plain (v ∷ older) = ap (λ x. length v.steps + x) (steps_plain older)

added_plain : (vs : List Version) → added_made (plain vs) ≡ added_made vs
added_plain [] = refl
added_plain (v ∷ older) = ap (λ x. all_added v.steps + x) (added_plain older)

kept_plain : (n : ℕ) (vs : List Version) → kept_made n (plain vs) ≡ kept_made n vs
kept_plain n [] = refl
kept_plain n (v ∷ older) = let s = story_plain v.parent older in let h = kept_plain n older in cc

made_plain : (n most : ℕ) (v : Version) (older : List Version) → Made n most v older ≡ Made n most (bare v) (plain older)
made_plain n most v [] = refl
made_plain n most v (w ∷ older) =
    λ i. (v.parent < sym (length_plain (w ∷ older)) i) × Fitting n most v.steps (sym (story_plain v.parent (w ∷ older)) i)

sound_plain : (n most : ℕ) (vs : List Version) → Sound n most vs ≡ Sound n most (plain vs)
sound_plain n most [] = refl
sound_plain n most (v ∷ older) = rw (made_plain n most v older, sound_plain n most older)

placed_plain : (vs : List Version) → AllPlaced vs ≡ AllPlaced (plain vs)
placed_plain [] = refl
placed_plain (v ∷ older) = λ i. Placed (sym (added_plain older) i) v.steps × placed_plain older i

-- and so it is the same after a path was taken
module _ (k : ℕ) (child : Option ℕ) (vs : List Version) where
  same_after : {X : Type 0} (f : List Version → X) → ((ws : List Version) → f (plain ws) ≡ f ws) → f (along k child vs) ≡ f vs
  same_after f plainly = sym (plainly (along k child vs)) ∙ (ap f (plain_along k child vs) ∙ plainly vs)

  pub length_along : length (along k child vs) ≡ length vs
  length_along = same_after length length_plain

  pub parent_along : (j : ℕ) → parent_or_zero (version_at j (along k child vs)) ≡ parent_or_zero (version_at j vs)
  parent_along j = same_after (λ ws. parent_or_zero (version_at j ws)) (parent_plain j)

  pub story_along : (j : ℕ) → story j (along k child vs) ≡ story j vs
  story_along j = same_after (story j) (story_plain j)

  pub steps_along : steps_made (along k child vs) ≡ steps_made vs
  steps_along = same_after steps_made steps_plain

  pub added_along : added_made (along k child vs) ≡ added_made vs
  added_along = same_after added_made added_plain

  pub kept_along : (n : ℕ) → kept_made n (along k child vs) ≡ kept_made n vs
  kept_along n = same_after (kept_made n) (kept_plain n)

  pub sound_along : (n most : ℕ) → Sound n most vs → Sound n most (along k child vs)
  sound_along n most s = rw (sound_plain n most (along k child vs), plain_along k child vs, ← sound_plain n most vs) s

  pub placed_along : AllPlaced vs → AllPlaced (along k child vs)
  placed_along p = rw (placed_plain (along k child vs), plain_along k child vs, ← placed_plain vs) p

-- version k where it is the newest of some versions, and where it is not
module _ (k : ℕ) (child : Option ℕ) (v : Version) (older : List Version) where
  pub along_here : k ≡ length older → along k child (v ∷ older) ≡ favouring child v ∷ along v.parent (Some k) older
  along_here e = cond-true (eqb k (length older)) _ _ (eq-eqb k (length older) e)

  pub along_there : (k ≡ length older → ⊥) → along k child (v ∷ older) ≡ v ∷ along k child older
  along_there d = cond-false (eqb k (length older)) _ _ (ne_eqb k (length older) d)

module _ (k : ℕ) (v : Version) (older : List Version) where
  pub version_here : k ≡ length older → version_at k (v ∷ older) ≡ Some v
  version_here e = cond-true (eqb k (length older)) _ _ (eq-eqb k (length older) e)

  pub version_there : (k ≡ length older → ⊥) → version_at k (v ∷ older) ≡ version_at k older
  version_there d = cond-false (eqb k (length older)) _ _ (ne_eqb k (length older) d)

  pub story_there : (k ≡ length older → ⊥) → story k (v ∷ older) ≡ story k older
  story_there d = cond-false (eqb k (length older)) _ _ (ne_eqb k (length older) d)

  pub path_here : k ≡ length older → path_to k (v ∷ older) ≡ k ∷ path_to v.parent older
  path_here e = cond-true (eqb k (length older)) _ _ (eq-eqb k (length older) e)

  pub path_there : (k ≡ length older → ⊥) → path_to k (v ∷ older) ≡ path_to k older
  path_there d = cond-false (eqb k (length older)) _ _ (ne_eqb k (length older) d)
