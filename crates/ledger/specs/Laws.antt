-- Laws of the ledger, over any calls. Assumes nothing.
use Rattle.std.specs.Prelude.{◌≡◌, ℕ, suc, ◌+◌, Bool, true, false, List, [], ◌∷◌, ◌++◌, length, take, drop, Some, None}
use Rattle.ledger.specs.Answers.{answers}
use Rattle.ledger.specs.Calls.{Call, Question, opening, closing, cancelling, inserting, deleting, setting, dropping, retracting, undoing, redoing, jumping, asking, denial, next, run}
use Rattle.ledger.specs.Ledgers.{Ledger}
use Rattle.ledger.specs.declared.denial.Denial.{Denial}

-- whether a call makes a step
abbrev pub is_step : {E : Type 0} → Call E → Bool
is_step opening = false
is_step closing = false
is_step cancelling = false
is_step (inserting x new) = true
is_step (deleting x n) = true
is_step (setting name x gravity) = true
is_step (dropping name) = true
is_step retracting = false
is_step undoing = false
is_step redoing = false
is_step (jumping k) = false
is_step (asking q) = false

-- whether a group that is open stays so, whatever a call answers
abbrev pub stays_inside : {E : Type 0} → Call E → Bool
stays_inside opening = true
stays_inside closing = false
stays_inside cancelling = false
stays_inside (inserting x new) = true
stays_inside (deleting x n) = true
stays_inside (setting name x gravity) = true
stays_inside (dropping name) = true
stays_inside retracting = true
stays_inside undoing = true
stays_inside redoing = true
stays_inside (jumping k) = true
stays_inside (asking q) = true

abbrev pub Inside : {E : Type 0} → List (Call E) → Type 0
Inside [] = Unit {0}
Inside (call ∷ more) = (stays_inside call ≡ true) × Inside more

-- a list without n of its items, from the i-th on
abbrev pub struck : {A : Type 0} → ℕ → ℕ → List A → List A
struck i n xs = take i xs ++ drop (i + n) xs

-- A denied call changes nothing, and neither does a question.
pub record Unchanging {E : Type 0} (breaks : E → Bool) : Type 0 where
  pub when_denied : (l : Ledger E) (call : Call E) (d : Denial) → denial breaks l call ≡ Some d → next breaks l call ≡ l
  pub when_asked : (l : Ledger E) (q : Question) → next breaks l (asking q) ≡ l

-- after the first call the second is accepted, and gives the very ledger from before the two
pub record TakenBack {E : Type 0} (breaks : E → Bool) (l : Ledger E) (first second : Call E) : Type 0 where
  pub accepted : denial breaks (next breaks l first) second ≡ None
  pub same : next breaks (next breaks l first) second ≡ l

-- Retracting takes an accepted step back.
abbrev pub Retracting : {E : Type 0} → (E → Bool) → Type 0
Retracting {E} breaks = (l : Ledger E) (step : Call E) → is_step step ≡ true → denial breaks l step ≡ None → TakenBack breaks l step retracting

-- A cancelled group, from its accepted opening to its cancelling with all between, leaves the ledger as it was. So it can be
-- struck out of a list of calls, and every call that is left gets the same answer.
pub record Striking {E T : Type 0} (breaks : E → Bool) (sum : List E → T) : Type 0 where
  pub as_before : (l : Ledger E) (inside : List (Call E)) → denial breaks l opening ≡ None → Inside inside
      → run breaks l (opening ∷ (inside ++ (cancelling ∷ []))) ≡ l
  pub same_answers : (l : Ledger E) (before inside after : List (Call E)) → denial breaks (run breaks l before) opening ≡ None → Inside inside
      → let calls : List (Call E) = before ++ (opening ∷ (inside ++ (cancelling ∷ after))) in
      answers breaks sum l (struck (length before) (suc (suc (length inside))) calls) ≡ struck (length before) (suc (suc (length inside))) (answers breaks sum l calls)
