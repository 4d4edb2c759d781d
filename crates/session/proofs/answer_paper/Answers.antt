use Rattle.std.proofs.Common.{ap, ◌∙◌}
use Rattle.session.specs.Report.{report}
use Rattle.session.proofs.Fronts.{answered}
use Rattle.session.proofs.answer_paper.Goals as goal

pub returns : goal.returns
returns g c =
    let e = g.E.Element in
    let printed = c.deref-2.ensures.value ∙ c.in_ok-printed.ensures ∙ ap (report e.made e.shown e.typist) c.deref.ensures.value in
    answered e.made e.shown e.typist g.R.Read.remaining c.args.input c.take.result _ _ _ _ _ c.take.ensures.limit c.take.ensures.inner c.new-paper.ensures.items
    c.in_ok-read_to_end.ensures.bytes printed c.in_ok-write_all.ensures.bytes
