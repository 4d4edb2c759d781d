-- What it says of a call that nothing denies it, and what calls one after the other leave and answer. Assumes nothing.
use Rattle.std.proofs.Common.{◌≡◌, ℕ, suc, Bool, true, false, cond, List, [], ◌∷◌, ◌++◌, length, Some, None, Option, refl, ap, arith}
use Rattle.std.proofs.lemmas.Bool.{true≢false, false≢true}
use Rattle.std.specs.List.{AllByRecursion}
use Rattle.ledger.specs.Answers.{answer, answers}
use Rattle.ledger.specs.Calls.{Call, first_held, denial, effect, next, run, unless_denied}
use Rattle.ledger.specs.Ledgers.{Ledger, is_open, steps_open}
use Rattle.ledger.specs.declared.denial.Denial.{Denial}
use Rattle.ledger.specs.declared.words.Step.{Step}

pub some_not_none : {A : Type 0} (x : A) → Some x ≡ None → ⊥
some_not_none x e = let z : ◌≡◌ {A = ℕ} 0 1 = cc in omega arith

first_fails : (b : Bool) (d : Denial) (others : Option Denial) → cond b (Some d) others ≡ None → (b ≡ false) × (others ≡ None)
first_fails true d others e = absurd (some_not_none d e)
first_fails false d others e = (refl, e)

-- every test of a table fails
abbrev pub AllFail : List (Bool × Denial) → Type 0
AllFail table = AllByRecursion (λ test. test.0 ≡ false) table

-- so they do where nothing denies a call
pub all_fail : (table : List (Bool × Denial)) → first_held table ≡ None → AllFail table
all_fail [] e = tt
all_fail (test ∷ more) e =
    let both = first_fails test.0 test.1 (first_held more) e in
    (both.0, all_fail more both.1)

-- a group that is open, and one that is not
pub shut : (g : Option (List Step)) → is_open g ≡ false → g ≡ None
shut None e = refl
shut (Some steps) e = absurd (true≢false e)

pub opened : (g : Option (List Step)) → is_open g ≡ true → g ≡ Some (steps_open g)
opened None e = absurd (false≢true e)
opened (Some steps) e = refl

module _ {E : Type 0} (breaks : E → Bool) where
  -- what an accepted call leaves
  pub accepted_next : (l : Ledger E) (call : Call E) → denial breaks l call ≡ None → next breaks l call ≡ effect l call
  accepted_next l call e = ap (λ d. unless_denied d l (effect l call)) e

  pub run_append : (l : Ledger E) (xs ys : List (Call E)) → run breaks l (xs ++ ys) ≡ run breaks (run breaks l xs) ys
  run_append l [] ys = refl
  run_append l (x ∷ xs) ys = run_append (next breaks l x) xs ys

  module _ {T : Type 0} (sum : List E → T) where
    pub answers_append : (l : Ledger E) (xs ys : List (Call E)) → answers breaks sum l (xs ++ ys) ≡ answers breaks sum l xs ++ answers breaks sum (run breaks l xs) ys
    answers_append l [] ys = refl
    answers_append l (x ∷ xs) ys = ap (λ rest. answer breaks sum l x ∷ rest) (answers_append (next breaks l x) xs ys)

    pub length_answers : (l : Ledger E) (xs : List (Call E)) → length (answers breaks sum l xs) ≡ length xs
    length_answers l [] = refl
    length_answers l (x ∷ xs) = ap suc (length_answers (next breaks l x) xs)
