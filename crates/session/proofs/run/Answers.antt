use Rattle.std.proofs.Common.{rules, refl}
use Rattle.session.proofs.Fronts.{fits, front, short_report}
use Rattle.session.proofs.run.Goals as goal

pub unwrap-requires : goal.unwrap-requires
unwrap-requires g c =
    let e = g.E.Element in
    fits _ _ _ _ c.in_ok-print_paper.ensures refl (short_report e.made e.shown e.typist c.args.input.now)

pub returns : goal.returns
returns g c =
    let e = g.E.Element in
    let line = front _ _ _ _ c.in_ok-print_paper.ensures refl (short_report e.made e.shown e.typist c.args.input.now) in
    search rules
