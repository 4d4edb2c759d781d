use Rattle.std.proofs.Common.{◌≡◌, ℕ, List, map, subst, ap, ◌∙◌}
use Rattle.measure.specs.Fingerprints.{no_bytes, one_byte, bytes_joined}
use Rattle.measure.specs.Tallies.{none_typed, one_typed, typed_joined}
use Rattle.measure.specs.declared.fingerprint.Fingerprint.{Fingerprint}
use Rattle.measure.specs.declared.pair.Pair.{Pair}
use Rattle.measure.specs.declared.tally.Tally.{Tally}
use Rattle.measure.proofs.Totals.{total_pair}
use Rattle.printing.specs.Numerals.{totals_line}
use Rattle.printing.specs.Output.{Prints}
use Rattle.session.specs.Report.{totals_of}
use Rattle.session.proofs.print_text.Goals as goal

pub returns : goal.returns
returns g c =
    let e = g.E.Element in
    let shown : g.row.E.Denot → ℕ = e.shown in
    let typist : g.row.E.Denot → ℕ = e.typist in
    let elements : c.deref.result.now ≡ map (λ b. e.made b 0) c.args.text.now = c.deref.ensures.value ∙ c.in_ok-elements.ensures in
    let split = c.fold-totals.ensures.whole ∙ total_pair no_bytes none_typed (λ x. one_byte (shown x)) (λ x. one_typed (typist x)) bytes_joined typed_joined c.deref.result.now in
    let line : Pair Fingerprint Tally → List ℕ = λ t. totals_line t.first.value t.second.count in
    subst (λ bytes. Prints c.args.page.now c.write_totals.new.self bytes c.write_totals.result) (ap line split ∙ ap (totals_of shown typist) elements) c.write_totals.ensures
