-- The invariant holds in a new ledger, and every call keeps it. Assumes nothing.
use Rattle.std.proofs.Common.{◌≡◌, ℕ, zero, suc, ◌+◌, ◌≤◌, Bool, true, List, [], ◌∷◌, length, Some, None, Option, refl, subst, arith}
use Rattle.std.proofs.lemmas.Bool.{ltb-false, leb-false, eqb-false, eq-eqb, not-false}
use Rattle.ledger.proofs.Held.{Goes, Held, Keeps, path_within, stays, regrouped, stepped, retracts, cancels, closes, moves, undoes, redoes}
use Rattle.ledger.proofs.Calls.{AllFail, all_fail, shut}
use Rattle.ledger.specs.Calls.{Call, opening, closing, cancelling, inserting, deleting, setting, dropping, retracting, undoing, redoing, jumping, asking, tests, denial, next, run, effect, unless_denied, favoured_child, pieces_after, insert_step}
use Rattle.ledger.specs.History.{version_at}
use Rattle.ledger.specs.Ledgers.{Ledger, begin}
use Rattle.ledger.specs.Legal.{pieces_made}
use Rattle.ledger.specs.Places.{stretch, pieces_of, piece, same_source}
use Rattle.ledger.specs.Steps.{mark}
use Rattle.ledger.specs.declared.denial.Denial.{Denial}
use Rattle.ledger.specs.declared.words.Capacities.{Capacities}
use Rattle.ledger.specs.declared.words.Source.{Source}
use Rattle.ledger.specs.declared.words.Source.TheVariants.{Original, Added}
use Rattle.ledger.specs.declared.words.Step.TheVariants.{Insert, Delete, SetMark, DropMark}

module _ {E : Type 0} (breaks : E → Bool) (spare : ℕ) (l : Ledger E) (h : Held spare l) where
  -- what an accepted call keeps; t says that all its tests fail
  accepted : (call : Call E) → AllFail (tests breaks l call) → Keeps spare l call (effect l call)
  accepted opening t =
      let room = leb-false l.capacities.versions (length l.versions) t.1.0 in
      let now = subst (Goes spare l (length l.added)) (shut l.group t.0) h.group in
      regrouped spare l h opening l.added (Some []) refl (record { fits = tt; placed = tt; counts = omega arith })
  accepted closing t = closes spare l h closing refl l.group h.group
  accepted cancelling t = cancels spare l h cancelling l.group h.group
  accepted (inserting x new) t =
      let pieces = ltb-false l.capacities.pieces (pieces_after breaks l (insert_step breaks l x new)) t.1.1.1.1.1.0 in
      stepped spare l h (inserting x new) (Insert x (length new) (length l.added)) new (not-false _ t.0)
      (omega (arith, eqb-false (length new) 0 t.1.0), ltb-false _ _ t.1.1.0) refl
      (omega arith) refl (leb-false _ _ t.1.1.1.0) (ltb-false _ _ t.1.1.1.1.0) (omega arith)
  accepted (deleting x n) t =
      let pieces = ltb-false l.capacities.pieces (pieces_after breaks l (Delete x n)) t.1.1.1.1.1.0 in
      stepped spare l h (deleting x n) (Delete x n) [] (not-false _ t.0)
      (omega (arith, eqb-false n 0 t.1.0), ltb-false _ _ t.1.1.0) tt
      (omega arith) refl (leb-false _ _ t.1.1.1.0) (omega arith) (ltb-false _ _ t.1.1.1.1.0)
  accepted (setting name x gravity) t =
      stepped spare l h (setting name x gravity) (SetMark name (mark x gravity)) [] (not-false _ t.0)
      (not-false _ t.1.0, ltb-false _ _ t.1.1.0) tt
      (path_within spare l h) refl (leb-false _ _ t.1.1.1.0) (omega arith) (omega arith)
  accepted (dropping name) t =
      stepped spare l h (dropping name) (DropMark name) [] (not-false _ t.0)
      (not-false _ t.1.0, not-false _ t.1.1.0) tt
      (path_within spare l h) refl (leb-false _ _ t.1.1.1.0) (omega arith) (omega arith)
  accepted retracting t = retracts spare l h retracting l.group h.group
  accepted undoing t = undoes spare l h undoing t.0 t.1.0
  accepted redoing t = redoes spare l h redoing t.0 (favoured_child (version_at l.current l.versions)) refl
  accepted (jumping k) t = moves spare l h (jumping k) k t.0 (leb-false _ _ t.1.0)
  accepted (asking q) t = stays spare l h (asking q)

  unless_keeps : (call : Call E) (d : Option Denial) → denial breaks l call ≡ d → Keeps spare l call (unless_denied d l (effect l call))
  unless_keeps call None e = accepted call (all_fail (tests breaks l call) e)
  unless_keeps call (Some d) e = stays spare l h call

  -- what any call keeps
  pub next_keeps : (call : Call E) → Keeps spare l call (next breaks l call)
  next_keeps call = unless_keeps call (denial breaks l call) refl

-- and so the invariant holds after any calls
pub run_held : {E : Type 0} (breaks : E → Bool) (spare : ℕ) (l : Ledger E) → Held spare l → (calls : List (Call E)) → Held spare (run breaks l calls)
run_held breaks spare l h [] = h
run_held breaks spare l h (call ∷ more) = run_held breaks spare (next breaks l call) (next_keeps breaks spare l h call).held more

-- a stretch is one piece
one_piece : (source : Source) (start n : ℕ) → pieces_of (stretch source start (suc n)) ≡ piece source start (suc n) ∷ []
one_piece source start zero = refl
one_piece source start (suc n) =
    let h = one_piece source (suc start) n in
    let s = same_source_itself source in
    let q = eq-eqb (suc start) (suc start) refl in
    rw h (rw (s, q))
  where
    same_source_itself : (source : Source) → same_source source source ≡ true
    same_source_itself Original = refl
    same_source_itself Added = refl

pub original_within : (n most : ℕ) → 1 ≤ most → pieces_made n [] ≤ most
original_within zero most l = omega arith
original_within (suc n) most l = rw (one_piece Original 0 n) (omega arith)

-- the invariant holds in a new ledger: with one piece to spare in any, and with none where the original is within its capacity
pub begin_held : {E : Type 0} (spare : ℕ) (original : List E) (c : Capacities) → pieces_made (length original) [] ≤ spare + c.pieces → Held spare (begin original c)
begin_held spare original c o =
    record {
      original = o;
      sound = (refl, tt);
      current = omega arith;
      favoured = (tt, tt);
      placed = (tt, tt);
      settled = refl;
      group = record { fits = tt; placed = tt; counts = omega arith };
    }
