use Rattle.std.proofs.Common.{◌≡◌, map, take, drop}
use Rattle.std.specs.Option.{option_map}
use Rattle.ledger.specs.declared.words.Mark.{Mark}
use Rattle.marks.specs.Tables.{Computes}
use Rattle.marks.proofs.table.change_each.Given as goal

-- the entries before the index are changed, and those from it on are as they were
abbrev pub invariant-loop-entry : goal.invariant-loop-entry
invariant-loop-entry g l = record {
  before : (f : Mark → Mark) → Computes (goal.F-post g l.change) f → take l.entry-index l.entries ≡ map (option_map f) (take l.entry-index l.initial.entries);
  behind : drop l.entry-index l.entries ≡ drop l.entry-index l.initial.entries;
}
