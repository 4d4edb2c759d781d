-- What every call answers. Assumes nothing.
use Rattle.std.specs.Prelude.{◌≡◌, ℕ, suc, ◌+◌, ◌-◌, ◌/◌, ◌^◌, ◌≤◌, Bool, cond, List, [], ◌∷◌, length, take, drop, Some, None, Option, ◌==◌, slice_index_or, slice_range}
use Rattle.std.specs.List.{flat_map}
use Rattle.element.specs.Lines.{lines}
use Rattle.ledger.specs.Calls.{Call, Question, opening, closing, cancelling, inserting, deleting, setting, dropping, retracting, undoing, redoing, jumping, asking, text_length, element_at, mark_named, line_count, line_numbered, line_holding, part_total, piece_count, tree_depth, added_count, step_count, run_count, current_version, highest_version, parent_of, favoured_of, steps_of, denial, favoured_child, parent_or_zero, next}
use Rattle.ledger.specs.History.{Version, version_at}
use Rattle.ledger.specs.Ledgers.{Ledger, content, text, added_used, steps_used, runs_used}
use Rattle.ledger.specs.Places.{pieces_of}
use Rattle.ledger.specs.Steps.{mark_of}
use Rattle.ledger.specs.declared.denial.Denial.{Denial}
use Rattle.ledger.specs.declared.denial.Denial.TheVariants.{PastTheText, MarkNotSet}
use Rattle.ledger.specs.declared.words.Mark.{Mark}
use Rattle.ledger.specs.declared.words.Step.{Step}

-- E are the elements, and T the totals of a measure
pub data Answer (E T : Type 0) : Type 0 where
  done : Answer E T
  denied : Denial → Answer E T
  number : ℕ → Answer E T
  element : E → Answer E T
  mark : Mark → Answer E T
  -- a line: its first offset and its length
  line : ℕ → ℕ → Answer E T
  total : T → Answer E T
  -- a version, or none
  version : Option ℕ → Answer E T
  -- any depth that a tree of so many pieces may have
  depth_of : ℕ → Answer E T

-- d tree places on the longest way, in a tree of n pieces
abbrev pub Shallow : ℕ → ℕ → Type 0
Shallow n d = 2 ^ ((d + 1) / 2) ≤ n + 1

abbrev pub steps_in : Option Version → List Step
steps_in None = []
steps_in (Some v) = v.steps

module _ {E T : Type 0} (breaks : E → Bool) (sum : List E → T) (l : Ledger E) where
  -- the lines of the present text
  abbrev pub text_lines : List (List E)
  text_lines = lines breaks (text l)

  abbrev pub element_answer : List E → Answer E T
  element_answer [] = denied PastTheText
  element_answer (e ∷ es) = element e

  abbrev pub mark_answer : Option Mark → Answer E T
  mark_answer None = denied MarkNotSet
  mark_answer (Some m) = mark m

  -- what an accepted question answers
  abbrev pub reply : Question → Answer E T
  reply text_length = number (length (content l).places)
  reply (element_at x) = element_answer (drop x (text l))
  reply (mark_named name) = mark_answer (mark_of name (content l).marks)
  reply line_count = number (length text_lines)
  -- behind the lines before it
  reply (line_numbered k) = line (length (flat_map (λ one. one) (take (k - 1) text_lines))) (length (slice_index_or text_lines (k - 1) []))
  -- as many lines as the text has up to the element, and with it
  reply (line_holding x) = number (length (lines breaks (take (suc x) (text l))))
  reply (part_total x y) = total (sum (slice_range (text l) x y))
  reply piece_count = number (length (pieces_of (content l).places))
  reply tree_depth = depth_of (length (pieces_of (content l).places))
  reply added_count = number (added_used l)
  reply step_count = number (steps_used l)
  reply run_count = number (runs_used l)
  reply current_version = number l.current
  reply highest_version = number (length l.versions - 1)
  -- version 0 has no parent
  reply (parent_of k) = version (cond (k == 0) None (Some (parent_or_zero (version_at k l.versions))))
  reply (favoured_of k) = version (favoured_child (version_at k l.versions))
  reply (steps_of k) = number (length (steps_in (version_at k l.versions)))

  abbrev pub accepted : Call E → Answer E T
  accepted opening = done
  accepted closing = done
  accepted cancelling = done
  accepted (inserting x new) = done
  accepted (deleting x n) = done
  accepted (setting name x gravity) = done
  accepted (dropping name) = done
  accepted retracting = done
  accepted undoing = done
  accepted redoing = done
  accepted (jumping k) = done
  accepted (asking q) = reply q

  abbrev pub or_denied : Option Denial → Answer E T → Answer E T
  or_denied None a = a
  or_denied (Some d) a = denied d

  -- the answer of a call
  abbrev pub answer : Call E → Answer E T
  answer call = or_denied (denial breaks l call) (accepted call)

-- What a document says meets what the ledger says: a depth within the bound, and every other answer to the letter.
abbrev pub Meets : {E T : Type 0} → Answer E T → Answer E T → Type 0
Meets a done = a ≡ done
Meets a (denied d) = a ≡ denied d
Meets a (number n) = a ≡ number n
Meets a (element e) = a ≡ element e
Meets a (mark m) = a ≡ mark m
Meets a (line x n) = a ≡ line x n
Meets a (total t) = a ≡ total t
Meets a (version v) = a ≡ version v
Meets a (depth_of n) = (d : ℕ) × (a ≡ number d) × Shallow n d

module _ {E T : Type 0} (breaks : E → Bool) (sum : List E → T) where
  -- the answers of some calls, one after the other
  abbrev pub answers : Ledger E → List (Call E) → List (Answer E T)
  answers l [] = []
  answers l (call ∷ more) = answer breaks sum l call ∷ answers (next breaks l call) more
