use Rattle.std.proofs.Common.{sym, ◌∙◌, arith}
use Rattle.text.proofs.Standings.{places_long, written_long}
use Rattle.text.proofs.Text.len.Goals as goal

pub returns : goal.returns
returns g c =
    let t = c.args.self.now in
    let all = c.len.ensures in
    record {
      places = all ∙ sym (places_long t);
      written = all ∙ sym (written_long t);
      short = omega (arith, all, t.short);
    }
