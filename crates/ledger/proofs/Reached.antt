-- Every ledger that calls reach from a new one is legal, and in it redo takes undo back, and undo redo. Assumes nothing.
use Rattle.std.proofs.Common.{◌≡◌, ℕ, ◌+◌, ◌<◌, ◌≤◌, Bool, true, false, not, List, [], ◌∷◌, length, is_some, Some, None, Option, sym, refl, ap, ◌∙◌, arith}
use Rattle.std.proofs.lemmas.Bool.{cond_both, leb-true, ne_eqb, not-false, and_parts, true≢false, false≢true}
use Rattle.ledger.proofs.Effects.{begin_held, original_within, run_held}
use Rattle.ledger.proofs.Held.{Held, parent_older}
use Rattle.ledger.proofs.Paths.{settled_parent, settled_child, settled_followed, favours_at}
use Rattle.ledger.proofs.Calls.{accepted_next, all_fail, shut}
use Rattle.ledger.proofs.Sources.{whole_text}
use Rattle.ledger.specs.Calls.{Call, undoing, redoing, first_held, tests, denial, next, run, at_version, at_child, favoured_child, parent_or_zero}
use Rattle.ledger.specs.History.{version_at, along}
use Rattle.ledger.specs.Ledgers.{Ledger, begin}
use Rattle.ledger.specs.Laws.{TakenBack}
use Rattle.ledger.specs.Legal.{AlwaysLegal, Legal, TakesBack, Child}
use Rattle.ledger.specs.Making.{Room, in_range, making_tests, check, make, capacities_of}
use Rattle.ledger.specs.declared.denial.Denial.{Denial}
use Rattle.ledger.specs.declared.denial.Denial.TheVariants.{GroupOpen, NoChild, AtVersionZero}
use Rattle.ledger.specs.declared.words.Capacities.{Capacities}

unchecked : (o : Option Denial) → is_some o ≡ false → o ≡ None
unchecked None e = refl
unchecked (Some d) e = absurd (true≢false e)

some_pieces : (c : Capacities) → in_range c ≡ true → 1 ≤ c.pieces
some_pieces c e = leb-true 1 c.pieces (and_parts _ _ (and_parts _ _ (and_parts _ _ e).1).0).0

-- a ledger that is made has room for its original
make_held : {E : Type 0} (original : List E) (c : Capacities) (room : Room) → Held 0 (make original c room)
make_held original c room =
    cond_both (is_some (check (length original) c room)) (begin [] (capacities_of 0 0 0 0 0)) (begin original c) (Held 0)
    (λ e. begin_held 0 [] (capacities_of 0 0 0 0 0) (omega arith))
    (λ e.
    let t = all_fail (making_tests (length original) c room) (unchecked _ e) in
    let one : 1 ≤ c.pieces = some_pieces c (not-false (in_range c) t.0) in
    begin_held 0 original c (original_within (length original) (0 + c.pieces) (omega arith)))

-- what Legal says beyond the invariant follows from it
held_legal : {E : Type 0} (l : Ledger E) → Held 0 l → Legal l
held_legal l h =
    let none_spare : 0 + l.capacities.pieces ≡ l.capacities.pieces = omega arith in
    let counts = h.group.counts in
    record {
      original = omega arith;
      sound = rw none_spare at h.sound;
      current = h.current;
      group = rw none_spare at h.group.fits;
      followed = settled_followed l.current l.versions h.settled;
      favoured = h.favoured;
      added = counts.is;
      placed = h.placed;
      group_placed = h.group.placed;
      whole = whole_text l h.group.placed h.placed counts.is;
      added_within = omega arith;
      steps_within = counts.steps;
      runs_within = counts.runs;
      versions_within = counts.versions;
    }

some_of : (o : Option ℕ) → is_some o ≡ true → (k : ℕ) × (o ≡ Some k)
some_of None e = absurd (false≢true e)
some_of (Some k) e = (k, refl)

module _ {E : Type 0} (breaks : E → Bool) where
  reached_held : (original : List E) (c : Capacities) (room : Room) (calls : List (Call E)) → Held 0 (run breaks (make original c room) calls)
  reached_held original c room calls = run_held breaks 0 (make original c room) (make_held original c room) calls

  pub reached_legal : AlwaysLegal breaks
  reached_legal original c room calls = held_legal (run breaks (make original c room) calls) (reached_held original c room calls)

  -- a ledger at another version, with no group open
  abbrev moved : Ledger E → ℕ → Ledger E
  moved l k = record {
    original = l.original;
    capacities = l.capacities;
    added = l.added;
    versions = l.versions;
    current = k;
    group = None;
  }

  module _ (l : Ledger E) where
    -- what a call at a version whose path is taken comes to
    lands : (k : ℕ) → along k None l.versions ≡ l.versions → at_version l l.versions k ≡ moved l k
    lands k s = λ i. record { original = l.original; capacities = l.capacities; added = l.added; versions = s i; current = k; group = None }

    -- and a ledger with no group open is at its own version
    stays : l.group ≡ None → moved l l.current ≡ l
    stays none = λ i. record { original = l.original; capacities = l.capacities; added = l.added; versions = l.versions; current = l.current; group = sym none i }

    -- where an undo and a redo lead
    undo_moves : (p : ℕ) → denial breaks l undoing ≡ None → parent_or_zero (version_at l.current l.versions) ≡ p → along p None l.versions ≡ l.versions → next breaks l undoing ≡ moved l p
    undo_moves p e is s = accepted_next breaks l undoing e ∙ ap (at_version l l.versions) is ∙ lands p s

    redo_moves : (c : ℕ) → denial breaks l redoing ≡ None → favoured_child (version_at l.current l.versions) ≡ Some c → along c None l.versions ≡ l.versions → next breaks l redoing ≡ moved l c
    redo_moves c e f s = accepted_next breaks l redoing e ∙ ap (at_child l) f ∙ lands c s

    -- what accepts them
    redo_free : (p c : ℕ) → favoured_child (version_at p l.versions) ≡ Some c → denial breaks (moved l p) redoing ≡ None
    redo_free p c f = ap (λ o. first_held ((false, GroupOpen) ∷ (not (is_some o), NoChild) ∷ [])) f

    undo_free : (c : ℕ) → 0 < c → denial breaks (moved l c) undoing ≡ None
    undo_free c pos = ap (λ b. first_held ((false, GroupOpen) ∷ (b, AtVersionZero) ∷ [])) (ne_eqb c 0 (λ e. omega arith))

  module _ (l : Ledger E) where
    taken_back : (m : Ledger E) (first second : Call E) → next breaks l first ≡ m → denial breaks m second ≡ None → next breaks m second ≡ l → TakenBack breaks l first second
    taken_back m first second there free back =
        record {
          accepted = ap (λ k. denial breaks k second) there ∙ free;
          same = ap (λ k. next breaks k second) there ∙ back;
        }

    undo_taken_back : Held 0 l → denial breaks l undoing ≡ None → TakenBack breaks l undoing redoing
    undo_taken_back h e =
        let t = all_fail (tests breaks l undoing) e in
        let none : l.group ≡ None = shut l.group t.0 in
        let p : ℕ = parent_or_zero (version_at l.current l.versions) in
        let up = parent_older 0 l h t.1.0 in
        let parent = settled_parent l.current p l.versions up h.current refl h.settled in
        let free = redo_free l p l.current parent.0 in
        taken_back (moved l p) undoing redoing (undo_moves l p e refl parent.1) free
        (redo_moves (moved l p) l.current free parent.0 h.settled ∙ stays l none)

    redo_taken_back : Held 0 l → denial breaks l redoing ≡ None → TakenBack breaks l redoing undoing
    redo_taken_back h e =
        let t = all_fail (tests breaks l redoing) e in
        let none : l.group ≡ None = shut l.group t.0 in
        let found = some_of (favoured_child (version_at l.current l.versions)) (not-false _ t.1.0) in
        let c : ℕ = found.0 in
        let child = favours_at (Child l.versions) l.current c l.versions h.favoured found.1 in
        let s = settled_child l.current c l.versions child.0 child.1 child.2 found.1 h.settled in
        let up = child.0 in
        let free = undo_free l c (omega arith) in
        taken_back (moved l c) redoing undoing (redo_moves l c e found.1 s) free
        (undo_moves (moved l c) l.current free child.2 h.settled ∙ stays l none)

  pub redo_takes_undo_back : TakesBack breaks undoing redoing
  redo_takes_undo_back original c room calls =
      undo_taken_back (run breaks (make original c room) calls) (reached_held original c room calls)

  pub undo_takes_redo_back : TakesBack breaks redoing undoing
  undo_takes_redo_back original c room calls =
      redo_taken_back (run breaks (make original c room) calls) (reached_held original c room calls)
