-- What calls do to an open group: its steps can be taken back, and a cancelled group struck out. Assumes nothing.
use Rattle.std.proofs.Common.{◌≡◌, ℕ, suc, ◌+◌, ◌-◌, ◌≤◌, Bool, true, false, not, List, [], ◌∷◌, ◌++◌, length, take, drop, Some, None, Option, sym, refl, ap, ◌∙◌, subst, append_assoc, arith, length-append}
use Rattle.std.proofs.lemmas.List.{append-nil, take_at, drop_at, length-take-le}
use Rattle.std.proofs.lemmas.Bool.{false≢true, not-false}
use Rattle.ledger.specs.Answers.{answers}
use Rattle.ledger.specs.Calls.{Call, opening, closing, cancelling, inserting, deleting, setting, dropping, retracting, undoing, redoing, jumping, asking, tests, denial, effect, next, run, unless_denied, with_group, with_step}
use Rattle.ledger.specs.Laws.{Inside, Retracting, Striking, Unchanging, is_step, stays_inside, struck}
use Rattle.ledger.specs.Ledgers.{Ledger, is_open}
use Rattle.ledger.specs.Steps.{added_by, all_added, mark}
use Rattle.ledger.specs.declared.denial.Denial.{Denial}
use Rattle.ledger.specs.declared.denial.Denial.TheVariants.{GroupOpen}
use Rattle.ledger.specs.declared.words.Step.{Step}
use Rattle.ledger.specs.declared.words.Step.TheVariants.{Insert, Delete, SetMark, DropMark}
use Rattle.ledger.proofs.Calls.{accepted_next, answers_append, length_answers, AllFail, all_fail, some_not_none, opened, shut}

-- a front without the last n of what follows it
cut_back : {A : Type 0} (front more : List A) (n : ℕ) → n ≤ length more → take (length (front ++ more) - n) (front ++ more) ≡ front ++ take (length more - n) more
cut_back [] more n room = refl
cut_back (x ∷ front) more n room =
    let size : length (x ∷ (front ++ more)) - n ≡ suc (length (front ++ more) - n) = omega (arith, length-append front more) in
    ap (λ k. take k (x ∷ (front ++ more))) size ∙ ap (λ xs. x ∷ xs) (cut_back front more n room)

-- all of what follows is cut off
cut_all : {A : Type 0} (front more : List A) (n : ℕ) → n ≡ length more → take (length (front ++ more) - n) (front ++ more) ≡ front
cut_all front more n whole =
    let none : length more - n ≡ 0 = omega arith in
    cut_back front more n (omega arith) ∙ ap (λ k. front ++ take k more) none ∙ append-nil front

module _ {E : Type 0} (breaks : E → Bool) where
  -- a step is taken back, with what it added
  unstep : (l : Ledger E) (step : Step) (new : List E) → added_by step ≡ length new → not (is_open l.group) ≡ false → next breaks (with_step l step new) retracting ≡ l
  unstep l step new adds open_now =
      λ i. with_group l (cut_all l.added new (added_by step) adds i) (sym (opened l.group (not-false _ open_now)) i)

  -- what a question leaves, denied or not
  asked : (l : Ledger E) (d : Option Denial) → unless_denied d l l ≡ l
  asked l None = refl
  asked l (Some d) = refl

  pub unchanging : Unchanging breaks
  unchanging = record {
    when_denied = λ l call d e. ap (λ found. unless_denied found l (effect l call)) e;
    when_asked = λ l q. asked l (denial breaks l (asking q));
  }

  -- an accepted step is taken back
  taken_back : (l : Ledger E) (call : Call E) → is_step call ≡ true → AllFail (tests breaks l call) → (denial breaks (effect l call) retracting ≡ None) × (next breaks (effect l call) retracting ≡ l)
  taken_back l (inserting x new) made t = (refl, unstep l (Insert x (length new) (length l.added)) new refl t.0)
  taken_back l (deleting x n) made t = (refl, unstep l (Delete x n) [] refl t.0)
  taken_back l (setting name x gravity) made t = (refl, unstep l (SetMark name (mark x gravity)) [] refl t.0)
  taken_back l (dropping name) made t = (refl, unstep l (DropMark name) [] refl t.0)
  taken_back l opening made t = absurd (false≢true made)
  taken_back l closing made t = absurd (false≢true made)
  taken_back l cancelling made t = absurd (false≢true made)
  taken_back l retracting made t = absurd (false≢true made)
  taken_back l undoing made t = absurd (false≢true made)
  taken_back l redoing made t = absurd (false≢true made)
  taken_back l (jumping k) made t = absurd (false≢true made)
  taken_back l (asking q) made t = absurd (false≢true made)

  pub retracts : Retracting breaks
  retracts l call made e =
      let back = subst (λ (m : Ledger E). (denial breaks m retracting ≡ None) × (next breaks m retracting ≡ l)) (sym (accepted_next breaks l call e))
      (taken_back l call made (all_fail (tests breaks l call) e)) in
      record { accepted = back.0; same = back.1 }

  -- a ledger, a group that is opened on it, and its cancelling
  module _ (l : Ledger E) where
    -- the ledger with the group's steps and what they added
    abbrev grown : List E → List Step → Ledger E
    grown more steps = with_group l (l.added ++ more) (Some steps)

    -- what one call inside makes of the group
    record Grown (m : Ledger E) : Type 0 where
      more : List E
      steps : List Step
      adds : length more ≡ all_added steps
      is : m ≡ grown more steps

    stays : (more : List E) (steps : List Step) → length more ≡ all_added steps → Grown (grown more steps)
    stays more steps adds = record { more = more; steps = steps; adds = adds; is = refl }

    steps_on : (more : List E) (steps : List Step) → length more ≡ all_added steps → (step : Step) (new : List E) → added_by step ≡ length new → Grown (with_step (grown more steps) step new)
    steps_on more steps adds step new adds_new = record {
      more = more ++ new;
      steps = step ∷ steps;
      adds = omega (arith, length-append more new);
      is = ap (λ added. with_group l added (Some (step ∷ steps))) (append_assoc l.added more new);
    }

    grows : (more : List E) (steps : List Step) → length more ≡ all_added steps → (call : Call E) → stays_inside call ≡ true → (d : Option Denial) → denial breaks (grown more steps) call ≡ d → Grown (unless_denied d (grown more steps) (effect (grown more steps) call))
    grows more steps adds call inside (Some d) e = stays more steps adds
    grows more steps adds (inserting x new) inside None e = steps_on more steps adds (Insert x (length new) (length (l.added ++ more))) new refl
    grows more steps adds (deleting x n) inside None e = steps_on more steps adds (Delete x n) [] refl
    grows more steps adds (setting name x gravity) inside None e = steps_on more steps adds (SetMark name (mark x gravity)) [] refl
    grows more steps adds (dropping name) inside None e = steps_on more steps adds (DropMark name) [] refl
    grows more [] adds retracting inside None e = stays more [] adds
    grows more (step ∷ steps) adds retracting inside None e = record {
      more = take (length more - added_by step) more;
      steps = steps;
      adds = length-take-le (length more - added_by step) more (omega arith) ∙ omega arith;
      is = ap (λ added. with_group l added (Some steps)) (cut_back l.added more (added_by step) (omega arith));
    }
    grows more steps adds (asking q) inside None e = stays more steps adds
    grows more steps adds opening inside None e = absurd (some_not_none GroupOpen e)
    grows more steps adds undoing inside None e = absurd (some_not_none GroupOpen e)
    grows more steps adds redoing inside None e = absurd (some_not_none GroupOpen e)
    grows more steps adds (jumping k) inside None e = absurd (some_not_none GroupOpen e)
    grows more steps adds closing inside None e = absurd (false≢true inside)
    grows more steps adds cancelling inside None e = absurd (false≢true inside)

    -- whatever stands in the group, its cancelling leaves the ledger that it was opened on
    cancels : is_open l.group ≡ false → (more : List E) (steps : List Step) → length more ≡ all_added steps → (inside : List (Call E)) → Inside inside → run breaks (grown more steps) (inside ++ (cancelling ∷ [])) ≡ l
    cancels idle more steps adds [] all =
        λ i. with_group l (cut_all l.added more (all_added steps) (sym adds) i) (sym (shut l.group idle) i)
    cancels idle more steps adds (call ∷ rest) all =
        let so = grows more steps adds call all.0 (denial breaks (grown more steps) call) refl in
        ap (λ m. run breaks m (rest ++ (cancelling ∷ []))) so.is ∙ cancels idle so.more so.steps so.adds rest all.1

  cancelled_as_before : (l : Ledger E) (inside : List (Call E)) → denial breaks l opening ≡ None → Inside inside → run breaks l (opening ∷ (inside ++ (cancelling ∷ []))) ≡ l
  cancelled_as_before l inside e all =
      let opens = accepted_next breaks l opening e ∙ ap (λ added. with_group l added (Some [])) (sym (append-nil l.added)) in
      ap (λ m. run breaks m (inside ++ (cancelling ∷ []))) opens
      ∙ cancels l (all_fail (tests breaks l opening) e).0 [] [] refl inside all

-- the middle of three parts is struck out
struck_middle : {A : Type 0} (front middle back : List A) (i n : ℕ) → length front ≡ i → length middle ≡ n → struck i n (front ++ (middle ++ back)) ≡ front ++ back
struck_middle front middle back i n at long =
    ap (λ xs. xs ++ drop (i + n) (front ++ (middle ++ back))) (take_at front (middle ++ back) i at)
    ∙ ap (λ xs. front ++ xs)
    (ap (drop (i + n)) (sym (append_assoc front middle back))
    ∙ drop_at (front ++ middle) back (i + n) (omega (arith, length-append front middle)))

module _ {E T : Type 0} (breaks : E → Bool) (sum : List E → T) where
  same_answers : (l : Ledger E) (before inside after : List (Call E)) → denial breaks (run breaks l before) opening ≡ None → Inside inside
      → let calls : List (Call E) = before ++ (opening ∷ (inside ++ (cancelling ∷ after))) in
      answers breaks sum l (struck (length before) (suc (suc (length inside))) calls) ≡ struck (length before) (suc (suc (length inside))) (answers breaks sum l calls)
  same_answers l before inside after accepted all =
      let group : List (Call E) = opening ∷ (inside ++ (cancelling ∷ [])) in
      let m : Ledger E = run breaks l before in
      let size : length group ≡ suc (suc (length inside)) = ap suc (length-append inside (cancelling ∷ []) ∙ omega arith) in
      let parts : before ++ (opening ∷ (inside ++ (cancelling ∷ after))) ≡ before ++ (group ++ after) = ap (λ xs. before ++ (opening ∷ xs)) (sym (append_assoc inside (cancelling ∷ []) after)) in
      let left : answers breaks sum l (before ++ after) ≡ answers breaks sum l before ++ answers breaks sum m after = answers_append breaks sum l before after in
      let whole : answers breaks sum l (before ++ (group ++ after)) ≡ answers breaks sum l before ++ (answers breaks sum m group ++ answers breaks sum m after) = answers_append breaks sum l before (group ++ after) ∙ ap (λ rest. answers breaks sum l before ++ rest) (answers_append breaks sum m group after ∙ ap (λ n. answers breaks sum m group ++ answers breaks sum n after) (cancelled_as_before breaks m inside accepted all)) in
      ap (λ calls. answers breaks sum l (struck (length before) (suc (suc (length inside))) calls)) parts
      ∙ ap (answers breaks sum l) (struck_middle before group after (length before) (suc (suc (length inside))) refl size)
      ∙ left
      ∙ sym (struck_middle (answers breaks sum l before) (answers breaks sum m group) (answers breaks sum m after) (length before) (suc (suc (length inside))) (length_answers breaks sum l before) (length_answers breaks sum m group ∙ size))
      ∙ ap (struck (length before) (suc (suc (length inside)))) (sym whole ∙ ap (answers breaks sum l) (sym parts))

  pub strikes : Striking breaks sum
  strikes = record { as_before = cancelled_as_before breaks; same_answers = same_answers }
