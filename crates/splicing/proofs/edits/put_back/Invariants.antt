use Rattle.std.proofs.Common.{◌≡◌, ◌+◌, ◌≤◌, ◌++◌, length, take, vec_len, vec_capacity}
use Rattle.nodes.specs.Trees.{items, long}
use Rattle.pieces.specs.Sources.{FaithfulTo, LyingOver}
use Rattle.pieces.specs.Spread.{places, spelled}
use Rattle.splicing.proofs.edits.put_back.Given as goal

-- the runs so far are put behind the left tree, and the stock has a place for each that is still to come
abbrev pub invariant-loop-run : goal.invariant-loop-run
invariant-loop-run g l = record {
  places_are : places l.left.tree ≡ places l.initial.left.tree ++ spelled (take l.run-index l.runs);
  long_is : long l.left.tree ≡ long l.initial.left.tree + length (spelled (take l.run-index l.runs));
  standing : LyingOver l.sources l.left.tree;
  faithful : FaithfulTo g.E.Element.breaks g.T.Total.neutral g.T.Measure.value g.T.Total.joined l.sources l.initial.left.tree → FaithfulTo g.E.Element.breaks g.T.Total.neutral g.T.Measure.value g.T.Total.joined l.sources l.left.tree;
  stock : vec_len l.stock + length (items l.left.tree) ≡ vec_len l.initial.stock + length (items l.initial.left.tree);
  spare : length l.runs ≤ vec_len l.stock + l.run-index;
  capacity : vec_capacity l.stock ≡ vec_capacity l.initial.stock;
}
