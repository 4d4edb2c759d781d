-- Each turn changes the mark at its index, where there is one.
use Rattle.std.proofs.Common.{◌≡◌, ℕ, ◌+◌, ◌<◌, List, map, length, get_or, take, drop, set, Some, None, Option, refl, ap, arith}
use Rattle.std.proofs.lemmas.Grind.{common_steps}
use Rattle.std.proofs.lemmas.List.{map-append, take_more, take_more_set}
use Rattle.std.specs.Option.{option_map}
use Rattle.ledger.specs.declared.words.Mark.{Mark}
use Rattle.marks.proofs.table.change_each.Goals as goal
use Rattle.marks.proofs.table.change_each.Goals.{in-Some, in_default}

-- a turn at an index whose entry is as it was
module _ (xs ys : List (Option Mark)) (i : ℕ) (lt : i < length xs) (long : length ys ≡ length xs) (as_it_was : drop i ys ≡ drop i xs) (new : Option Mark) where
  behind_more : drop (i + 1) (set ys i new) ≡ drop (i + 1) xs
  behind_more = grind (arith, common_steps)

  before_more : (f : Option Mark → Option Mark) → new ≡ f (get_or ys i None) → take i ys ≡ map f (take i xs) → take (i + 1) (set ys i new) ≡ map f (take (i + 1) xs)
  before_more f is before =
      let same : get_or ys i None ≡ get_or xs i None = grind (arith, common_steps) in
      rw (take_more_set ys i new (omega arith), take_more xs i None lt, map-append) cc

pub loop-entry-preserved : goal.loop-entry-preserved
loop-entry-preserved g c =
    let s = c.loop-entry in
    let behind = behind_more c.args.entries.now s.entries s.entry-index c.loop-entry-test.true (cc) s.invariant.behind in
    let before = before_more c.args.entries.now s.entries s.entry-index c.loop-entry-test.true (cc) s.invariant.behind in
    elim c.match-entry.branch [
      | in-Some w ↦ rw w.entries-is record {
        before = λ f gives. before (Some w.change.result) (option_map f) (rw w.in-Some.is (ap Some (gives w.in-Some.mark w.change.result w.change.ensures))) (s.invariant.before f gives);
        behind = behind (Some w.change.result);
      }
      | in_default w ↦ rw (w.entries-is, w.in_default.is) record {
        before = λ f gives. before None (option_map f) (rw w.in_default.is refl) (s.invariant.before f gives);
        behind = behind None;
      }
    ]
