use Rattle.std.proofs.Common.{◌≡◌, ap, ◌∙◌, rules}
use Rattle.std.proofs.lemmas.Iterator.{YieldsList-from_slice}
use Rattle.std.proofs.lemmas.Iterator.Consumers.{fold_from_yields_List}
use Rattle.measure.specs.Totals.{total}
use Rattle.measure.proofs.Totals.{fold_join, total_append}
use Rattle.measure.proofs.fold.Goals as goal

pub returns : goal.returns
returns g c =
    let m = g.T.Total in
    let value = g.T.Measure.value in
    let laws = g.met.T.Total.monoid in
    let part = c.args.part.now in
    let step = λ (sum : g.row.T.Denot) (e : g.row.E.Denot). m.joined sum (value e) in
    let folded =
    fold_from_yields_List _ step c.empty.result c.fold.result c.fold.ensures.ran (YieldsList-from_slice part cc) (λ sum e next f called. search rules) in
    let joined = folded ∙ fold_join m.neutral value m.joined laws c.empty.result part in
    let whole : c.fold.result ≡ total m.neutral value m.joined part = rw c.empty.ensures at joined ∙ laws.neutral_left _ in
    record {
      whole = whole;
      cut = λ front back parts. whole ∙ ap (total m.neutral value m.joined) parts ∙ total_append m.neutral value m.joined laws front back;
    }
