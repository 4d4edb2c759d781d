use Rattle.std.proofs.Common.{◌+◌, ◌++◌, length, ap, ◌∙◌, arith, take_all}
use Rattle.pieces.specs.Spread.{places, spelled}
use Rattle.splicing.proofs.RunLists.{between, fits_at, length_more, run_added, spelled_few}
use Rattle.pieces.proofs.Sewn.{faithful_sewn, places_sewn, standing_sewn}
use Rattle.splicing.proofs.edits.put_back.Goals as goal

pub add_run-left-requires-clause-fits : goal.add_run-left-requires-clause-fits
add_run-left-requires-clause-fits g c =
    let runs = c.args.runs.now in
    let i = c.loop-run.run-index in
    omega (arith, c.loop-run.invariant.long_is, c.cut-left.ensures.long.0, c.requires.within, c.requires.fits, length_more runs i c.loop-run-test.true, spelled_few runs (i + 1))

pub add_run-left-requires-clause-some : goal.add_run-left-requires-clause-some
add_run-left-requires-clause-some g c =
    (fits_at (length c.args.sources.original.now) (length c.args.sources.added.now) c.args.runs.now c.loop-run.run-index c.requires.inside c.loop-run-test.true).0

pub add_run-left-requires-clause-inside : goal.add_run-left-requires-clause-inside
add_run-left-requires-clause-inside g c =
    (fits_at (length c.args.sources.original.now) (length c.args.sources.added.now) c.args.runs.now c.loop-run.run-index c.requires.inside c.loop-run-test.true).1

pub loop-run-preserved : goal.loop-run-preserved
loop-run-preserved g c =
    let runs = c.args.runs.now in
    let i = c.loop-run.run-index in
    let inv = c.loop-run.invariant in
    let a = c.add_run-left.ensures in
    let within = c.loop-run-test.true in
    record {
      places_are = run_added (places c.cut-left.result.0.tree) runs i within inv.places_are a.places;
      long_is = omega (arith, a.long, inv.long_is, length_more runs i within);
      standing = a.standing;
      faithful = λ f. a.faithful (inv.faithful f);
      stock = omega (arith, a.stock, inv.stock);
      spare = omega (arith, a.drawn, inv.spare);
      capacity = a.capacity ∙ inv.capacity;
    }

pub returns-clause-places : goal.returns-clause-places
returns-clause-places g c =
    let runs = c.args.runs.now in
    let k = c.cut-left.ensures in
    let all = take_all c.loop-run.run-index runs c.loop-run-test.false in
    let filled = c.loop-run.invariant.places_are ∙ ap (λ rs. places c.cut-left.result.0.tree ++ spelled rs) all in
    between (spelled runs) (places_sewn g.T.Total.joined c.loop-run.left.tree c.cut-left.result.1.tree c.sew.result.tree c.sew.ensures.items) filled k.front k.back

pub returns-clause-standing : goal.returns-clause-standing
returns-clause-standing g c =
    let sources = c.args.sources in
    let s = c.sew.ensures in
    standing_sewn g.T.Total.joined (length sources.original.now) (length sources.added.now) c.loop-run.left.tree c.cut-left.result.1.tree c.sew.result.tree s.items c.loop-run.invariant.standing c.cut-left.ensures.standing.1

pub returns-clause-faithful : goal.returns-clause-faithful
returns-clause-faithful g c f =
    let sources = c.args.sources in
    let s = c.sew.ensures in
    let parts = c.cut-left.ensures.faithful f in
    faithful_sewn g.E.Element.breaks g.T.Total.neutral g.T.Measure.value g.T.Total.joined g.met.T.Total.monoid sources.original.now sources.added.now c.loop-run.left.tree c.cut-left.result.1.tree c.sew.result.tree s.items s.summed (c.loop-run.invariant.faithful parts.0) parts.1
